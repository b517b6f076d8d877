-- Proof of `audit`: the least scenario in the urgency order that gives a log, which means that what is due on all nodes up
-- to the log's time is just what the log names, each at its time. `None` exactly if no scenario gives it.
use Rattle.std.proofs.Common.{ℕ, refl, ◌≡◌, ◌++◌, List, [], All, Bor, map, flat_map, sym, subst}
use Rattle.std.proofs.lemmas.List.Elements.{All-map}
use Rattle.cpg_base.specs.Numbers.{numbers_below}
use Rattle.cpg_base.specs.Graph.{item_count}
use Rattle.cpg_base.specs.Scenario.{Scenario, IsScenario}
use Rattle.cpg_base.proofs.First.{first_same}
use Rattle.cpg_cube.specs.declared.column.Column.{Column}
use Rattle.cpg_cover.specs.Cover.{is_left}
use Rattle.cpg_cube.specs.declared.literal.Literal.{Literal}
use Rattle.cpg_cube.specs.Fit.{IsKnown}
use Rattle.cpg_cover.proofs.Kept.{all_unmapped}
use Rattle.cpg_table.proofs.GraphTables.{has_shape}
use Rattle.cpg_table.proofs.Settings.{Setting}
use Rattle.cpg_violation.proofs.HeadLaws.{tables_of_graph}
use Rattle.cpg_violation.proofs.Violations.{long_order, columns_known}
use Rattle.cpg_audit.specs.Excluded.{excluded_of}
use Rattle.cpg_log.specs.Log.{IsActBy}
use Rattle.cpg_tree.proofs.OnePath.{scenario_few}
use Rattle.cpg_audit.proofs.NarrowingLaws.{left_of_whole}
use Rattle.cpg_audit.proofs.GivesLaws.{idle_known, least_gives, none_gives}
use Rattle.cpg_audit.proofs.auditing.audit.Goals as goal

-- what the list's references point to
abbrev seen : Bor (List Literal) → List Literal
seen b = b.now

-- the acts are those of the log, each of which is an act of the graph by the log's end
pub all_idle-requires : goal.all_idle-requires
all_idle-requires c = (
  c.args.log.now.until,
  subst (All (IsActBy c.args.admitted.now.graph c.args.log.now.until)) (sym c.acts.ensures) c.requires.log.acts,
)

-- the order of an admitted graph has each of its processes
pub uncovered-requires-clause-order : goal.uncovered-requires-clause-order
uncovered-requires-clause-order c =
    rw (c.order-order.ensures.order, c.problem-problem.ensures.problem) (long_order c.order-order.ensures.admitted)

-- the tables are of the graph, so the columns of each item are on its variables
pub excluded-requires : goal.excluded-requires
excluded-requires c x =
    let are = tables_of_graph c.args.admitted.now.graph c.args.tables.now.head c.args.tables.now.nodes c.requires.head
    c.head-head.ensures.lawful in
    rw c.problem-problem.ensures.problem (columns_known c.order-order.ensures.admitted c.args.tables.now.nodes are x)

-- the kept cubes and the idle ones are on variables of the graph
pub uncovered-requires-clause-list : goal.uncovered-requires-clause-list
uncovered-requires-clause-list c =
    let g = c.args.admitted.now.graph in
    let by = rw c.as_slice.ensures.value at c.in_ok-push_cubes.ensures in
    let kept : All (IsKnown g) (map seen c.in_ok-by.by.items) = rw c.problem-problem.ensures.problem at
    (All-map (IsKnown c.problem-problem.result.now) seen c.in_ok-by.by.items c.in_ok-by.ensures.known) in
    let cubes : All (IsKnown g) (map seen c.push_cubes.new.by.items) = subst (All (IsKnown g)) (sym by)
    (idle_known g (map seen c.in_ok-by.by.items) c.in_ok-idle.idle.items kept c.in_ok-idle.ensures.known) in
    rw (c.problem-problem.ensures.problem, c.as_slice-2.ensures.value)
    (all_unmapped (IsKnown g) seen c.push_cubes.new.by.items cubes)

-- the least scenario that the cubes leave of the space is the least that gives the log
pub returns-clause-least : goal.returns-clause-least
returns-clause-least c =
    let g = c.args.admitted.now.graph in
    let order = c.args.admitted.now.order in
    let nodes = c.args.tables.now.nodes in
    let log = c.args.log.now in
    let a = c.order-order.ensures.admitted in
    let are = tables_of_graph g c.args.tables.now.head nodes c.requires.head c.head-head.ensures.lawful in
    -- in each scenario the tables are valid ones of a well-formed graph
    let setting : (s : Scenario) → IsScenario g s → Setting g nodes s = λ s law. record {
      formed = a.well_formed;
      shape = has_shape g a.limits nodes are;
      valid = c.requires.valid;
      law = law;
    } in
    -- the columns of idle scenarios, and all excluded cubes with theirs
    let told = rw c.acts.ensures at c.in_ok-idle.ensures.idle in
    let idle = map (λ (d : Column). d.cube) c.in_ok-idle.idle.items in
    let all = flat_map (excluded_of nodes log) (numbers_below (item_count g)) in
    let by = rw c.as_slice.ensures.value at c.in_ok-push_cubes.ensures in
    -- the kept cubes leave of the space's cube what all of them leave of everything
    let same : (s : Scenario) → IsScenario g s →
    is_left (map seen c.push_cubes.new.by.items) c.in_ok-cube.cube s ≡ is_left (all ++ idle) [] s = λ s law.
    let lies = c.whole-space.ensures.lies s
    (rw (c.faults.ensures.faults, c.problem-problem.ensures.problem) (scenario_few g s law)) in
    left_of_whole c.in_ok-by.by.items c.push_cubes.new.by.items idle all c.in_ok-cube.cube s by
    (rw c.problem-problem.ensures.problem at (c.in_ok-by.ensures.same s lies)) (λ off.
    c.in_ok-cube.ensures.matches s (c.in_ok-by.ensures.space s lies off)) in
    -- the least scenario that the kept cubes leave
    let first = rw (c.problem-problem.ensures.problem, c.order-order.ensures.order, c.as_slice-2.ensures.value) at
    c.in_ok-found.ensures.first in
    least_gives g order nodes setting log c.requires.log c.in_ok-idle.idle.items told
    (all ++ idle) refl c.in_ok-found.found
    (first_same g order (is_left (map seen c.push_cubes.new.by.items) c.in_ok-cube.cube)
    (is_left (all ++ idle) []) c.in_ok-found.found same first)

-- the cubes leave no scenario of the space, so none gives the log
pub returns-clause-none : goal.returns-clause-none
returns-clause-none c =
    let g = c.args.admitted.now.graph in
    let order = c.args.admitted.now.order in
    let nodes = c.args.tables.now.nodes in
    let log = c.args.log.now in
    let a = c.order-order.ensures.admitted in
    let are = tables_of_graph g c.args.tables.now.head nodes c.requires.head c.head-head.ensures.lawful in
    -- in each scenario the tables are valid ones of a well-formed graph
    let setting : (s : Scenario) → IsScenario g s → Setting g nodes s = λ s law. record {
      formed = a.well_formed;
      shape = has_shape g a.limits nodes are;
      valid = c.requires.valid;
      law = law;
    } in
    -- the columns of idle scenarios, and all excluded cubes with theirs
    let told = rw c.acts.ensures at c.in_ok-idle.ensures.idle in
    let idle = map (λ (d : Column). d.cube) c.in_ok-idle.idle.items in
    let all = flat_map (excluded_of nodes log) (numbers_below (item_count g)) in
    let by = rw c.as_slice.ensures.value at c.in_ok-push_cubes.ensures in
    -- the kept cubes leave of the space's cube what all of them leave of everything
    let same : (s : Scenario) → IsScenario g s →
    is_left (map seen c.push_cubes.new.by.items) c.in_ok-cube.cube s ≡ is_left (all ++ idle) [] s = λ s law.
    let lies = c.whole-space.ensures.lies s
    (rw (c.faults.ensures.faults, c.problem-problem.ensures.problem) (scenario_few g s law)) in
    left_of_whole c.in_ok-by.by.items c.push_cubes.new.by.items idle all c.in_ok-cube.cube s by
    (rw c.problem-problem.ensures.problem at (c.in_ok-by.ensures.same s lies)) (λ off.
    c.in_ok-cube.ensures.matches s (c.in_ok-by.ensures.space s lies off)) in
    -- the search found no scenario that the kept cubes leave
    let first = rw (c.problem-problem.ensures.problem, c.order-order.ensures.order, c.as_slice-2.ensures.value) at
    c.in_ok-found.ensures.first in
    none_gives g order nodes setting log c.requires.log c.in_ok-idle.idle.items told
    (all ++ idle) refl c.in_ok-found.found
    (first_same g order (is_left (map seen c.push_cubes.new.by.items) c.in_ok-cube.cube)
    (is_left (all ++ idle) []) c.in_ok-found.found same first)
