-- Proof of `Hearing::least_untold`: the least scenario that a column matches and in which a node hasn't been told a
-- bound by its time.
use Rattle.std.proofs.Common.{rules, ◌≡◌, ◌<◌, ◌||◌, false, sym, ap, ◌∙◌}
use Rattle.std.specs.List.{list_any}
use Rattle.cpg_base.specs.Graph.{process_count, process_of_variable}
use Rattle.cpg_base.specs.First.{IsFirst}
use Rattle.cpg_cover.specs.Cover.{is_left}
use Rattle.cpg_cube.specs.Cube.{matches}
use Rattle.cpg_table.specs.Heard.{facts}
use Rattle.cpg_check_heard.specs.Bounds.{is_free, tells, variable_of}
use Rattle.cpg_check_heard.specs.Untold.{are_told_by, own_tells}
use Rattle.cpg_check_heard.proofs.Facts.{facts_told}
use Rattle.cpg_check_heard.proofs.Sides.{variable_within}
use Rattle.cpg_check_heard.proofs.Untolds.{untold_first, untold_nowhere, told_all, told_heard}
use Rattle.cpg_check_heard.proofs.hearing.Hearing.least_untold.Goals as goal

-- one column tells the bound wherever the cube matches, so it is never untold
pub returns-then-tells_one_whole : goal.returns-then-tells_one_whole
returns-then-tells_one_whole c =
    let graph = c.args.self.now.admitted.now.graph in
    let tables = c.args.self.now.tables.now.nodes in
    let bound = c.args.bound in
    let few = c.requires.hearing.admitted.well_formed.few_processes in
    -- the bound's process is one of the graph
    let within : process_of_variable graph (variable_of bound) < process_count graph =
    variable_within graph (variable_of bound) few c.requires.variable in
    let tell = rw c.problem-problem.ensures.problem at c.if-tells_one_whole.ensures in
    -- so the bound is told in every scenario of the cube
    untold_nowhere graph c.args.column.now.cube
    (λ s. list_any (tells bound) (facts graph tables c.args.node s c.args.column.now.time)) (is_free graph.faults bound)
    (λ s i m. told_heard (own_tells graph tables c.args.node c.args.column.now.time bound s)
    (are_told_by graph tables c.args.column.now.time bound c.args.items.now s)
    (list_any (tells bound) (facts graph tables c.args.node s c.args.column.now.time))
    (facts_told graph tables c.args.column.now.time bound s few within c.args.node ∙ ap (λ xs.
    own_tells graph tables c.args.node c.args.column.now.time bound s
    || are_told_by graph tables c.args.column.now.time bound xs s)
    (sym c.requires.items))
    (sym (c.requires.arrivals.told bound s m) ∙ tell s i m))

-- the least scenario that the told parts leave of the cube is the least in which the bound is untold
pub returns : goal.returns
returns c =
    let graph = c.args.self.now.admitted.now.graph in
    let tables = c.args.self.now.tables.now.nodes in
    let bound = c.args.bound in
    let few = c.requires.hearing.admitted.well_formed.few_processes in
    -- the bound's process is one of the graph, and not each number is within the bound
    let within : process_of_variable graph (variable_of bound) < process_count graph =
    variable_within graph (variable_of bound) few c.requires.variable in
    let free : is_free graph.faults bound ≡ false = search rules in
    -- what the parts with the own ends and the frames tell, and the least scenario that they leave
    let heard = rw c.problem-problem.ensures.problem at c.in_ok-add_told.ensures.told in
    let left : IsFirst graph c.args.self.now.admitted.now.order
    (is_left c.add_told.new.told.items c.args.column.now.cube)
    c.in_ok-found.found = rw c.as_slice.ensures.value at c.in_ok-found.ensures in
    -- all that is told of the bound is told by these, so in that scenario it is untold first
    untold_first graph c.args.self.now.admitted.now.order c.args.column.now.cube c.add_told.new.told.items
    (λ s. list_any (tells bound) (facts graph tables c.args.node s c.args.column.now.time))
    (is_free graph.faults bound) c.in_ok-found.found free
    (λ s i m. told_all c.new-told.result.items s (list_any (λ d. matches d s) c.add_own.new.told.items)
    (list_any (λ d. matches d s) c.add_told.new.told.items)
    (own_tells graph tables c.args.node c.args.column.now.time bound s)
    (are_told_by graph tables c.args.column.now.time bound c.args.items.now s)
    (list_any (tells bound) (facts graph tables c.args.node s c.args.column.now.time)) c.new-told.ensures.items
    (c.in_ok-add_own.ensures.told s i m)
    (heard s i ∙ ap (λ t. list_any (λ d. matches d s) c.add_own.new.told.items || t)
    (c.requires.arrivals.told bound s m))
    (facts_told graph tables c.args.column.now.time bound s few within c.args.node ∙
    ap (λ xs. own_tells graph tables c.args.node c.args.column.now.time bound s
    || are_told_by graph tables c.args.column.now.time bound xs s) (sym c.requires.items))) left

-- the columns are on variables of the graph, and can tell each bound
pub tells_one_whole-requires-clause-arrivals : goal.tells_one_whole-requires-clause-arrivals
tells_one_whole-requires-clause-arrivals c = rw c.problem-problem.ensures.problem c.requires.arrivals.each

-- so `add_told` may be called on them, too
pub add_told-requires-clause-arrivals : goal.add_told-requires-clause-arrivals
add_told-requires-clause-arrivals c = rw c.problem-problem.ensures.problem c.requires.arrivals.each
