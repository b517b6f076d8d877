-- Loops of `first_alike`: for each scenario of a list, the place of the first one with the same active numbers.
use Rattle.cpg_all_runs.specs.FirstAlike.{numbers_at, AreFirstPlaces}
use Rattle.cpg_all_runs.proofs.Placed.{ArePlaced}
use Rattle.cpg_all_runs.proofs.placing.first_alike.Given as goal

-- `places`: the map has the first place of the active numbers of each scenario so far. `firsts`: each scenario so far
-- has the first place of one with the same active numbers.
abbrev pub invariant-loop-at : goal.invariant-loop-at
invariant-loop-at l = record {
  places : ArePlaced (numbers_at l.admitted.graph l.scenarios) l.at l.places.entries;
  firsts : AreFirstPlaces (numbers_at l.admitted.graph l.scenarios) l.at l.firsts.items;
}
