-- Proof of `least_near`: the least scenario in which some column of a row is as asked.
use Rattle.std.proofs.Common.{map, Contains, Bor}
use Rattle.std.specs.List.{list_any}
use Rattle.std.proofs.lemmas.List.Elements.{All-weaker, All-contains}
use Rattle.cpg_base.specs.First.{IsFirst}
use Rattle.cpg_base.proofs.First.{first_same}
use Rattle.cpg_cover.proofs.Kept.{all_unmapped}
use Rattle.cpg_cube.specs.declared.column.Column.{Column}
use Rattle.cpg_violation.proofs.Violations.{long_order}
use Rattle.cpg_check_time.specs.Columns.{IsColumn}
use Rattle.cpg_check_time.proofs.questions.least_near.Goals as goal

-- what a reference points to
abbrev at : Bor Column → Column
at b = b.now

-- the urgency order has each process
pub least_of-requires-clause-order : goal.least_of-requires-clause-order
least_of-requires-clause-order g c =
    rw (c.order-order.ensures.order, c.problem-problem.ensures.problem) (long_order c.order-order.ensures.admitted)

-- the columns near the cube are columns of the row, and so columns as tables of the graph have them
pub least_of-requires-clause-columns : goal.least_of-requires-clause-columns
least_of-requires-clause-columns g c =
    rw (c.problem-problem.ensures.problem, c.as_slice.ensures.value)
    (all_unmapped (IsColumn c.args.admitted.now.graph) at c.in_ok-near.near.items
    (All-weaker (λ d. Contains c.args.row.now.columns.now d) (IsColumn c.args.admitted.now.graph)
    (λ d member. All-contains
    (IsColumn c.args.admitted.now.graph) c.args.row.now.columns.now d c.requires.columns member)
    (map at c.in_ok-near.near.items) c.in_ok-near.ensures.among))

-- each column that can be as asked is among those of `meeting`, so the least scenario of these is the least of all
pub returns : goal.returns
returns g c =
    let graph = c.args.admitted.now.graph in
    let order = c.args.admitted.now.order in
    let asks = g.Q.Question.asks c.args.question.now graph in
    let first : IsFirst graph order
    (λ s. list_any (λ d. asks d s) (map at c.in_ok-near.near.items)) c.in_ok-found.found =
    rw (← c.problem-problem.ensures.problem, ← c.order-order.ensures.order, ← c.as_slice.ensures.value)
    c.in_ok-found.ensures in
    first_same graph order (λ s. list_any (λ d. asks d s) (map at c.in_ok-near.near.items))
    (λ s. list_any (λ d. asks d s) c.args.row.now.columns.now) c.in_ok-found.found
    (λ s _. c.in_ok-near.ensures.same s (λ d. asks d s) (λ d asked. c.requires.near s d asked)) first
