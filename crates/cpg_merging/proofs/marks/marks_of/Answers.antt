-- Proof of `marks_of`, which returns at which variables some column may follow another one, by number; false says that
-- none does there.
use Rattle.std.proofs.Common.{◌≡◌, Bor, List, length, map, rules, subst}
use Rattle.cpg_cube.specs.declared.column.Column.{Column}
use Rattle.cpg_merging.specs.Totals.{AreMarkedBy, total_of}
use Rattle.cpg_merging.proofs.MergingSteps.{good_of}
use Rattle.cpg_merging.proofs.MergingDemands.{settled_by_demands}
use Rattle.cpg_merging.proofs.MergingKinds.{marked_by, settled_none}
use Rattle.cpg_merging.proofs.MergingTotals.{from_off}
use Rattle.cpg_merging.proofs.marks.marks_of.Goals as goal

-- no two columns of one time ask differently, so none of them touch
pub returns-then-not-differ : goal.returns-then-not-differ
returns-then-not-differ c v known off =
    let graph = c.args.problem.now in
    let few = c.processes-processes.ensures.within.few_processes in
    settled_by_demands graph few c.processes-processes.ensures.within.faults v known c.args.columns.now
    (good_of graph few c.args.columns.now c.requires)
    (from_off c.in_ok-differ.differ c.if-not-differ.true c.in_ok-differ.ensures)

-- no column is a candidate, so no two touch
pub returns-then-is_empty : goal.returns-then-is_empty
returns-then-is_empty c v known off =
    let graph = c.args.problem.now in
    let few = c.processes-processes.ensures.within.few_processes in
    let none : length c.in_ok-candidates.candidates.items ≡ 0 = search rules in
    settled_none graph few c.processes-processes.ensures.within.faults v known c.args.columns.now
    (good_of graph few c.args.columns.now c.requires)
    (λ (b : Bor Column). b.now) c.in_ok-candidates.candidates.items c.in_ok-candidates.ensures none

-- columns that touch are among the candidates, and the marks of these say where
pub returns : goal.returns
returns c =
    let graph = c.args.problem.now in
    let few = c.processes-processes.ensures.within.few_processes in
    marked_by graph few c.processes-processes.ensures.within.faults c.args.columns.now
    (map (λ (b : Bor Column). b.now) c.in_ok-candidates.candidates.items)
    (good_of graph few c.args.columns.now c.requires) c.in_ok-candidates.ensures c.in_ok-marks.marks
    (subst (λ (bs : List (Bor Column)). AreMarkedBy (map total_of (map (λ (b : Bor Column). b.now) bs))
    c.in_ok-marks.marks (map (λ (b : Bor Column). b.now) bs)) c.as_slice.ensures.value
    c.in_ok-marks.ensures)
