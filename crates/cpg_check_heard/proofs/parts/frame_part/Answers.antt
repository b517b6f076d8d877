-- Proof of `frame_part`: the part of a column's cube in which its frame has come by a time and tells a bound: the whole
-- cube if one of the column's literals tells it, or else the part in which the value that the frame carries is within
-- the bound.
use Rattle.std.proofs.Common.{◌≡◌, ◌+◌, ◌&&◌, true, false, subst, sym, ◌∙◌, ap}
use Rattle.std.specs.Prelude.{nat_le}
use Rattle.std.specs.List.{list_any}
use Rattle.cpg_base.specs.Graph.{IsVariable}
use Rattle.cpg_cube.specs.Cube.{holds, matches}
use Rattle.cpg_check_heard.specs.Bounds.{range_of, tells, variable_of}
use Rattle.cpg_check_heard.specs.TellingRows.{IsPart, is_value}
use Rattle.cpg_check_heard.proofs.PartLaws.{frame_value, part_with, known_with, range_variable}
use Rattle.cpg_check_heard.proofs.parts.frame_part.Goals as goal

-- no literal tells the bound, so the frame does where the value that it carries is within it
pub returns-clause-part : goal.returns-clause-part
returns-clause-part c =
    let graph = c.args.problem.now in
    -- the part in which the value is within the bound
    let told : IsPart graph
    (λ s. holds s (range_of graph.faults c.args.bound) && matches c.args.column.now.cube s) c.in_ok-told.told =
    subst (λ l. IsPart graph (λ s. holds s l && matches c.args.column.now.cube s) c.in_ok-told.told)
    (c.range.ensures ∙ ap (λ k. range_of k c.args.bound) c.faults.ensures.faults)
    (part_with graph c.range.result c.args.column.now.cube c.in_ok-told.told c.in_ok-told.ensures.both
    c.in_ok-told.ensures.none) in
    -- the frame has come, no literal of its column tells the bound, and it carries the variable's value
    let come : nat_le (c.args.column.now.time + c.args.delay) c.args.time ≡ true =
    sym c.has_come.ensures.is ∙ c.if-not-has_come.false in
    let off : list_any (tells c.args.bound) c.args.column.now.cube ≡ false =
    sym (c.is_told_by_any.ensures ∙ ap (list_any (tells c.args.bound)) c.literals.ensures.literals) ∙
    c.if-is_told_by_any.false in
    let value : is_value c.args.condition (variable_of c.args.bound) ≡ true =
    ap (is_value c.args.condition) (sym c.variable.ensures) ∙ sym c.is_value.ensures ∙ c.if-not-is_value.false in
    frame_value graph c.faults.ensures.within.few_processes c.args.delay c.args.condition c.args.column.now c.args.time
    c.args.bound c.requires.variable come off value c.in_ok-told.told told

-- the column's cube was narrowed by a literal on a variable of the graph
pub returns-clause-known : goal.returns-clause-known
returns-clause-known c =
    let variable : IsVariable c.args.problem.now c.range.result.variable =
    rw (c.range.ensures, range_variable) c.requires.variable in
    known_with c.args.problem.now c.range.result c.args.column.now.cube c.in_ok-told.told c.in_ok-told.ensures.cube
    variable c.requires.cube
