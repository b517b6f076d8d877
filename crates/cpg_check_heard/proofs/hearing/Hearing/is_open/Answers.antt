-- Proof of `Hearing::is_open`: whether a bound is open for a node by its own ends: somewhere that a cube matches, no
-- end has told it by a time.
use Rattle.std.proofs.Common.{◌<◌, ◌||◌, ◌∙◌, ap}
use Rattle.std.specs.List.{list_any}
use Rattle.cpg_base.specs.Graph.{process_count, process_of_variable}
use Rattle.cpg_cube.specs.Cube.{matches}
use Rattle.cpg_table.specs.Shape.{heard_by}
use Rattle.cpg_table.specs.Heard.{facts}
use Rattle.cpg_check_heard.specs.Bounds.{is_free, tells, variable_of}
use Rattle.cpg_check_heard.specs.Untold.{are_told_by, own_tells}
use Rattle.cpg_check_heard.proofs.Facts.{facts_told}
use Rattle.cpg_check_heard.proofs.Sides.{variable_within}
use Rattle.cpg_check_heard.proofs.Untolds.{fewer_left, own_told}
use Rattle.cpg_check_heard.proofs.hearing.Hearing.is_open.Goals as goal

-- if the parts in which the own ends tell the bound leave nothing of the cube, the bound is told wherever that matches
pub returns : goal.returns
returns c =
    let graph = c.args.self.now.admitted.now.graph in
    let tables = c.args.self.now.tables.now.nodes in
    let bound = c.args.bound in
    let told = c.add_own.new.told.items in
    let few = c.requires.hearing.admitted.well_formed.few_processes in
    let within : process_of_variable graph (variable_of bound) < process_count graph =
    variable_within graph (variable_of bound) few c.requires.variable in
    -- the list was empty at first, so it matches just where an own end tells the bound, which is part of all that is
    -- heard
    fewer_left c.in_ok-left.left
    (λ closed s i m. own_told (is_free graph.faults bound) (list_any (λ d. matches d s) told)
    (own_tells graph tables c.args.node c.args.time bound s)
    (are_told_by graph tables c.args.time bound (heard_by graph c.args.node) s)
    (list_any (tells bound) (facts graph tables c.args.node s c.args.time))
    (c.in_ok-add_own.ensures.told s i m
    ∙ ap (λ xs. list_any (λ d. matches d s) xs || own_tells graph tables c.args.node c.args.time bound s)
    c.new-told.ensures.items)
    (facts_told graph tables c.args.time bound s few within c.args.node) (closed s i m))
    (rw c.as_slice.ensures.value at c.in_ok-left.ensures)
