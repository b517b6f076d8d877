-- Loops of `least_of`: the least scenario in which one of several columns is as asked.
use Rattle.std.proofs.Common.{map, take}
use Rattle.std.specs.List.{list_any}
use Rattle.cpg_base.specs.First.{IsFirst}
use Rattle.cpg_violation.specs.Room.{HasRoom}
use Rattle.cpg_check_time.proofs.questions.least_of.Given as goal

-- After each column. `first`: `found` is the least scenario in which one of the columns so far is as asked, and `None`
-- if there is none. `room`: a scenario of the graph can still be written into `room`.
abbrev pub invariant-loop-beside : goal.invariant-loop-beside
invariant-loop-beside g l = record {
  first : IsFirst l.problem l.order (λ s. list_any (λ d. g.Q.Question.asks l.question l.problem d s)
      (map (λ b. b.now) (take l.beside-index l.columns))) l.found;
  room : HasRoom l.problem l.room;
}
