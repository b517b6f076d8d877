-- Proof of `least_of`: the least scenario in which one of several columns is as asked.
use Rattle.std.proofs.Common.{map, subst, Bor}
use Rattle.std.specs.List.{list_any}
use Rattle.std.proofs.lemmas.List.{take_all}
use Rattle.cpg_base.specs.First.{IsFirst}
use Rattle.cpg_cube.specs.declared.column.Column.{Column}
use Rattle.cpg_cover.proofs.AlongLaws.{lawful_if_some}
use Rattle.cpg_check_time.proofs.Seeking.{first_mapped}
use Rattle.cpg_check_time.proofs.questions.least_of.Goals as goal

-- what a reference points to
abbrev at : Bor Column → Column
at b = b.now

-- the scenario of the next column, if there is one, is lawful
pub earlier-found-requires-clause-second : goal.earlier-found-requires-clause-second
earlier-found-requires-clause-second g c = lawful_if_some c.args.problem.now c.args.order.now
    (g.Q.Question.asks c.args.question.now c.args.problem.now c.beside-item.result.now) c.in_ok-next.next
    (c.in_ok-next.ensures.first c.args.order.now)

-- the earlier of the answer so far and the next column's is the least for one column more
pub loop-beside-preserved : goal.loop-beside-preserved
loop-beside-preserved g c =
    let first : IsFirst c.args.problem.now c.args.order.now
    (g.Q.Question.asks c.args.question.now c.args.problem.now c.beside-item.result.now) c.in_ok-next.next =
    c.in_ok-next.ensures.first c.args.order.now in
    record {
      first = rw c.earlier-found.ensures (first_mapped at c.args.problem.now c.args.order.now
          (g.Q.Question.asks c.args.question.now c.args.problem.now) c.args.columns.now c.loop-beside.beside-index
          c.beside-item.result c.loop-beside-test.true c.loop-beside.found c.in_ok-next.next
          c.loop-beside.invariant.first (rw (← c.beside-item.is) first));
      room = c.in_ok-next.ensures.room;
    }

-- after all columns the scenario is the least for any of them
pub returns : goal.returns
returns g c = subst (λ columns. IsFirst c.args.problem.now c.args.order.now (λ s.
    list_any (λ d. g.Q.Question.asks c.args.question.now c.args.problem.now d s) (map at columns)) c.loop-beside.found)
    (take_all c.loop-beside.beside-index c.args.columns.now c.loop-beside-test.false) c.loop-beside.invariant.first
