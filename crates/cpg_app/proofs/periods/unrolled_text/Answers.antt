-- Proof of `unrolled_text`, which returns the text of the graph of all instances of parts.
use Rattle.std.proofs.Common.{refl}
use Rattle.cpg_hyper.specs.declared.part.HyperFault.{HyperFault}
use Rattle.cpg_app.proofs.periods.unrolled_text.Goals as goal

-- what stops it is that memory runs out
pub returns-clause-halt : goal.returns-clause-halt
returns-clause-halt c = record { fault = HyperFault.OutOfMemory; halt_is = refl; shows = tt }
