-- Proof of `given_orders_are_read`: if the names of an order are put into a graph file at the key `order`, the file
-- says the same graph with that order.
use Rattle.cpg_given_laws.proofs.Read.{orders_are_read}
use Rattle.cpg_given_laws.proofs.given_orders_are_read.Goals as goal

-- the key `order` is read apart from all others, and its names are read as the numbers of the order; by
-- proofs/Read.antt
pub returns : goal.returns
returns c = orders_are_read
