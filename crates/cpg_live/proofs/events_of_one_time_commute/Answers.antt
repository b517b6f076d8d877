-- Proof of `events_of_one_time_commute`: events in any two orders in which time doesn't fall lead to the same state, if
-- they are lawful in one of them.
use Rattle.cpg_live.proofs.Reorder.{events_commute as law}
use Rattle.cpg_live.proofs.events_of_one_time_commute.Goals as goal

-- `events_commute` of `Reorder` is a proof of this law
pub returns : goal.returns
returns c = law
