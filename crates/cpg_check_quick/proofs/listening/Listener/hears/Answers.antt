-- Proof of `Listener::hears`: whether the node has heard all literals of one of the item's columns by its time,
-- wherever it matches: the low and the high of each, which different items may have told.
use Rattle.std.proofs.Common.{◌≡◌, true, true≢false, List, flat_map, sym, ◌∙◌, subst}
use Rattle.cpg_cube.specs.Cube.{matches}
use Rattle.cpg_cube.specs.declared.literal.Literal.{Literal}
use Rattle.cpg_base.specs.Graph.{home}
use Rattle.cpg_base.specs.Scenario.{Scenario, IsScenario}
use Rattle.cpg_tree.specs.Space.{IsInSpace}
use Rattle.cpg_tree.proofs.Forks.{from_false, from_true}
use Rattle.cpg_tree.proofs.Passes.{of_true}
use Rattle.cpg_check_quick.specs.Bounds.{unknown_bounds}
use Rattle.cpg_check_quick.specs.Hearing.{AreLeft, IsAllHeard}
use Rattle.cpg_check_quick.specs.HeardRows.{AreToldIn}
use Rattle.cpg_check_quick.proofs.BoundLaws.{all_wider, column_heard}
use Rattle.cpg_check_quick.proofs.OwnLaws.{known_heard, left_heard}
use Rattle.cpg_check_quick.proofs.listening.Listener.hears.Goals as goal

-- no scenario matches the column, so there is nothing to show
pub returns-then-not-narrow_to : goal.returns-then-not-narrow_to
returns-then-not-narrow_to c = λ tables x is rules k l h s law m.
    let none = rw c.literals-literals.ensures.literals at
    (from_false c.narrow_to.result c.if-not-narrow_to.true c.narrow_to.ensures.none) in
    absurd (true≢false (sym m ∙ none s (is.sequences.rows.everywhere.lies s law)))

-- each low and high of the column's literals is told by a frame, or is on a variable of a process that is over; so all
-- literals are heard
pub returns : goal.returns
returns c = of_true c.are_over.result c.are_over.ensures (λ over tables x is rules k.
    let graph = c.args.self.now.admitted.now.graph in
    let node = c.args.self.now.node in
    let column = c.args.column.now in
    let known = c.args.self.now.known in
    let few = c.problem-problem.ensures.admitted.limits.few_processes in
    -- the space has all scenarios in which the column matches
    let fits = rw c.literals-literals.ensures.literals at
    (from_true c.narrow_to.result c.if-not-narrow_to.false c.narrow_to.ensures.lies) in
    let lies : (s : Scenario) → IsScenario graph s → matches column.cube s ≡ true → IsInSpace c.narrow_to.new.self s =
    λ s law m. fits s (is.sequences.rows.everywhere.lies s law) m in
    -- the bounds that are asked for, and those that frames leave
    let wanted : List Literal = c.list_unknown.new.bounds.items in
    let left : List Literal = c.listen.new.wanted.items in
    let listed : wanted ≡ flat_map (unknown_bounds graph.faults known) column.cube =
    rw (c.literals-literals.ensures.literals, c.faults.ensures.faults, c.problem-problem.ensures.problem) at
    c.in_ok-list_unknown.ensures in
    -- some literal of the column implies each of them
    let wider : AreToldIn column.cube wanted = all_wider graph tables node column known wanted listed in
    let told : AreLeft graph tables (home graph x) column wanted left = subst (λ n. AreLeft graph
    tables n column wanted left)
    is.node (c.in_ok-listen.ensures graph tables is.heard_rows wider lies) in
    -- the processes of those that are left are over by the column's time
    let ended = rw (c.as_slice.ensures.value, is.node) at over in
    subst (λ n. IsAllHeard graph tables n column) (sym is.node)
    (column_heard graph tables (home graph x) column known wanted listed
    (known_heard graph tables rules x is.item few column k known is.known)
    (left_heard graph tables rules x is.item few column k wanted left wider told
    (λ s law m. ended tables s is.sequences law (lies s law m)))))
