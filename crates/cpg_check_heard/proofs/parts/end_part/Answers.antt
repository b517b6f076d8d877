-- Proof of `end_part`: the part of a column's cube in which the process that it starts has ended by a time, and its
-- count or value is within a bound.
use Rattle.std.proofs.Common.{◌≡◌, ◌-◌, ◌&&◌, ◌∙◌, ap, arith, Some, subst, inl}
use Rattle.cpg_base.specs.Graph.{IsVariable}
use Rattle.cpg_cube.specs.Narrow.{with_literal}
use Rattle.cpg_cube.specs.Cube.{holds, matches}
use Rattle.cpg_cube.specs.Fit.{IsKnown}
use Rattle.cpg_check_heard.specs.Bounds.{range_of}
use Rattle.cpg_check_heard.specs.TellingRows.{IsPart}
use Rattle.cpg_check_heard.proofs.PartLaws.{end_none, end_apart, end_told, part_with, known_with, range_variable}
use Rattle.cpg_check_heard.proofs.parts.end_part.Goals as goal

-- with no count the execution has ended by the time, so the column tells the bound in no scenario
pub returns-then-counts-eq0-clause-part : goal.returns-then-counts-eq0-clause-part
returns-then-counts-eq0-clause-part c = end_none c.args.problem.now c.counts_by-counts.ensures.limits.few_processes
    c.args.process c.args.column.now c.args.time c.args.bound c.requires.can
    c.requires.variable
    c.counts_by-counts.result c.counts_by-counts.ensures.counts c.if-counts-eq0.true

-- the number of a process fits in a byte
pub overflow_cast-come : goal.overflow_cast-come
overflow_cast-come c = omega (arith, c.requires.can.0, c.counts_by-counts.ensures.limits.few_processes)

-- the column matches with no count with which the execution has ended by the time
pub returns-in_default-clause-part : goal.returns-in_default-clause-part
returns-in_default-clause-part c = end_apart c.args.problem.now c.counts_by-counts.ensures.limits.few_processes
    c.args.process c.args.column.now c.args.time c.args.bound c.requires.can
    c.requires.variable
    c.counts_by-counts.result c.counts_by-counts.ensures.counts (omega (arith, c.if-counts-eq0.false))
    (rw c.in_default.is at c.in_ok-part.ensures.none)

-- the part has the counts with which the execution has ended and the numbers within the bound, if there are any
pub returns-clause-part : goal.returns-clause-part
returns-clause-part c =
    let graph = c.args.problem.now in
    -- `told` matches where the part with those counts does and the variable is within the bound
    let told : IsPart graph (λ s. holds s (range_of graph.faults c.args.bound)
    && matches c.in-Some.part s) c.in_ok-told.told =
    subst (λ l. IsPart graph (λ s. holds s l && matches c.in-Some.part s) c.in_ok-told.told)
    (c.range.ensures ∙ ap (λ k. range_of k c.args.bound) c.faults.ensures.faults)
    (part_with graph c.range.result c.in-Some.part c.in_ok-told.told c.in_ok-told.ensures.both
    c.in_ok-told.ensures.none) in
    end_told graph c.counts_by-counts.ensures.limits.few_processes c.args.process c.args.column.now
    c.args.time c.args.bound
    c.requires.can c.requires.variable
    c.counts_by-counts.result c.counts_by-counts.ensures.counts (omega (arith, c.if-counts-eq0.false)) c.in-Some.part
    c.in_ok-told.told (rw c.in-Some.is at c.in_ok-part.ensures.both) told

-- the column's cube was narrowed twice, by literals on variables of the graph
pub returns-clause-known : goal.returns-clause-known
returns-clause-known c =
    let graph = c.args.problem.now in
    let some : Some c.in-Some.part ≡ with_literal
    (record { variable = c.args.process; low = 0; high = c.counts_by-counts.result - 1 }) c.args.column.now.cube =
    rw (← c.in-Some.is) c.in_ok-part.ensures.cube in
    let part : IsKnown graph c.in-Some.part =
    known_with graph (record { variable = c.args.process; low = 0; high = c.counts_by-counts.result - 1 })
    c.args.column.now.cube (Some c.in-Some.part) some
    (inl c.requires.can.0) c.requires.cube in
    let variable : IsVariable graph c.range.result.variable = rw (
      c.range.ensures,
      range_variable,
    ) c.requires.variable in
    known_with graph c.range.result c.in-Some.part c.in_ok-told.told c.in_ok-told.ensures.cube variable part
