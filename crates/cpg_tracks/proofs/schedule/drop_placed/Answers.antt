-- Proof of `drop_placed`: takes every entry of a process out of the list of those that can be placed.
use Rattle.std.proofs.Common.{rules}
use Rattle.std.proofs.lemmas.Fn.{filter_same}
use Rattle.cpg_tracks.proofs.schedule.drop_placed.Goals as goal

-- what is kept is all but the process
pub returns : goal.returns
returns c = filter_same _ _ _ (λ x b f' k. search rules) _ _ c.retain.ensures.filtered
