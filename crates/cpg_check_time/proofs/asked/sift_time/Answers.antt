-- Proof of `sift_time`: sifts the rows that V5, V6 and V7 may ask at items at which they aren't marked as sure.
use Rattle.cpg_check_time.proofs.asked.sift_time.Goals as goal

-- each of the four steps leaves the rows sieved rows of the tables
pub returns : goal.returns
returns c = λ count rows_are. c.in_ok-sift_sends.ensures count
    (c.in_ok-sift_starts.ensures count
    (c.in_ok-sift_producers.ensures count (c.in_ok-sift_inputs.ensures count rows_are)))
