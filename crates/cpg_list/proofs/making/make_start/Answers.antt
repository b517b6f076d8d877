-- Proof of `make_start`: makes the row of the start of a process, and narrows for each scenario what its node carries
-- on by what it carries on from this process.
use Rattle.std.proofs.Common.{◌∷◌, [], ◌++◌, List, sym, subst, arith}
use Rattle.cpg_base.specs.Graph.{item_count}
use Rattle.cpg_base.specs.Scenario.{Scenario, IsScenario}
use Rattle.cpg_base.specs.Order.{place, before_on_node}
use Rattle.cpg_run.specs.Run.{Times, IsRun}
use Rattle.cpg_table.specs.Table.{Row}
use Rattle.cpg_list.specs.Learning.{EarlierTell}
use Rattle.cpg_list.specs.Made.{passed_by, AreCubesOf, IsBefore}
use Rattle.cpg_run.specs.Found.{columns_of_rows}
use Rattle.cpg_run.specs.Rows.{AreEntriesOf}
use Rattle.cpg_list.proofs.CodeMade.{timed_of, count_of, told_from, mergeable, same_before, one_made}
use Rattle.cpg_list.proofs.CodeQueue.{start_by, own_early}
use Rattle.cpg_list.proofs.CodeSame.{passed_cubes}
use Rattle.cpg_list.proofs.making.make_start.Goals as goal

-- the rows of the items from earlier processes are made, so they have the times of each run; they are read as a slice here
pub start_entries-requires-clause-told : goal.start_entries-requires-clause-told
start_entries-requires-clause-told c =
    let admitted = c.args.listed.now.admitted.now in
    let order = c.args.listed.now.order.now in
    let frozen = c.args.listed.now.frozen.now in
    let process = c.args.process in
    let timed = timed_of admitted.graph admitted.order order admitted.guards frozen c.problem-problem.ensures.admitted
    c.requires.listed.topological c.requires.listed.frozen in
    subst (λ (rs : List Row). (s : Scenario) (t : Times) → IsScenario admitted.graph s →
    IsRun admitted.graph order frozen s t →
    EarlierTell admitted.graph order (columns_of_rows rs) s t process) (sym c.as_slice.ensures.value)
    (told_from admitted.graph admitted.order order frozen timed
    (IsBefore admitted.graph order (place order process)) c.args.rows.now.items c.requires.made process (λ y h. h))

-- there is a row for each item, and a process's start is an item
pub set_row-requires-clause-item : goal.set_row-requires-clause-item
set_row-requires-clause-item c = omega (
  arith,
  c.requires.process,
  count_of c.args.rows.now.items (item_count c.args.listed.now.admitted.now.graph) c.requires.made.items,
)

-- the entries of the start can be merged, as the rows of the items from earlier processes are made
pub set_row-requires-clause-entries : goal.set_row-requires-clause-entries
set_row-requires-clause-entries c =
    let admitted = c.args.listed.now.admitted.now in
    let order = c.args.listed.now.order.now in
    let frozen = c.args.listed.now.frozen.now in
    let process = c.args.process in
    let timed = timed_of admitted.graph admitted.order order admitted.guards frozen c.problem-problem.ensures.admitted
    c.requires.listed.topological c.requires.listed.frozen in
    let by = start_by admitted.graph order c.requires.listed.topological process c.requires.process in
    mergeable admitted.graph admitted.order order frozen timed
    (IsBefore admitted.graph order (place order process)) c.args.rows.now.items
    c.requires.made process (omega (arith, c.requires.process))
    (λ y h. omega (arith, h, by)) c.in_ok-entries.entries.items
    (subst (λ (rs : List Row). AreEntriesOf admitted.graph order frozen (columns_of_rows rs) process
    c.in_ok-entries.entries.items)
    c.as_slice.ensures.value c.in_ok-entries.ensures.entries)

-- the rows of items from earlier processes stay
pub returns-clause-same : goal.returns-clause-same
returns-clause-same c =
    let admitted = c.args.listed.now.admitted.now in
    let order = c.args.listed.now.order.now in
    let frozen = c.args.listed.now.frozen.now in
    let process = c.args.process in
    let timed = timed_of admitted.graph admitted.order order admitted.guards frozen c.problem-problem.ensures.admitted
    c.requires.listed.topological c.requires.listed.frozen in
    let by = start_by admitted.graph order c.requires.listed.topological process c.requires.process in
    let found = subst
    (λ (rs : List Row). AreEntriesOf admitted.graph order frozen (columns_of_rows rs) process
    c.in_ok-entries.entries.items)
    c.as_slice.ensures.value c.in_ok-entries.ensures.entries in
    -- the row that is set is that of this process, which is no earlier one
    same_before admitted.graph admitted.order order frozen timed
    (IsBefore admitted.graph order (place order process)) c.args.rows.now.items
    c.requires.made process (omega (arith, c.requires.process))
    (λ y h. omega (arith, h, by)) c.in_ok-entries.entries.items found
    (λ h. omega (arith, h, by)) (λ y h. omega (arith, h, by)) c.set_row.new.rows.items c.in_ok-set_row.ensures
    (place order process) (omega (arith, by))

-- the row of the start is set to its entries, merged, and all other rows stay, so the start has its row too
pub returns-clause-made : goal.returns-clause-made
returns-clause-made c =
    let admitted = c.args.listed.now.admitted.now in
    let order = c.args.listed.now.order.now in
    let frozen = c.args.listed.now.frozen.now in
    let process = c.args.process in
    let timed = timed_of admitted.graph admitted.order order admitted.guards frozen c.problem-problem.ensures.admitted
    c.requires.listed.topological c.requires.listed.frozen in
    let by = start_by admitted.graph order c.requires.listed.topological process c.requires.process in
    let found = subst
    (λ (rs : List Row). AreEntriesOf admitted.graph order frozen (columns_of_rows rs) process
    c.in_ok-entries.entries.items)
    c.as_slice.ensures.value c.in_ok-entries.ensures.entries in
    one_made admitted.graph admitted.order order frozen timed
    (IsBefore admitted.graph order (place order process)) c.args.rows.now.items
    c.requires.made process (omega (arith, c.requires.process))
    (λ y h. omega (arith, h, by)) c.in_ok-entries.entries.items found
    (λ h. omega (arith, h, by)) (λ y h. omega (arith, h, by)) c.set_row.new.rows.items c.in_ok-set_row.ensures

-- what the node carries on from its processes up to this one depends only on earlier rows, which stay, so its cubes stay
-- right
pub returns-clause-known : goal.returns-clause-known
returns-clause-known c =
    let admitted = c.args.listed.now.admitted.now in
    let order = c.args.listed.now.order.now in
    let process = c.args.process in
    let after = before_on_node admitted.graph order process ++ process ∷ [] in
    passed_cubes admitted.graph order c.requires.listed.topological (columns_of_rows c.args.rows.now.items)
    (columns_of_rows c.set_row.new.rows.items) (place order process) (returns-clause-same c)
    admitted.graph.faults c.args.listed.now.scenarios.now c.start_entries.new.known after
    (own_early admitted.graph order c.requires.listed.topological process c.requires.process)
    (subst (λ (rs : List Row). AreCubesOf admitted.graph.faults c.args.listed.now.scenarios.now
    (passed_by admitted.graph (columns_of_rows rs) after) c.start_entries.new.known) c.as_slice.ensures.value
    c.in_ok-entries.ensures.known)
