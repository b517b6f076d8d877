-- Proof of `candidates`, which returns the columns whose place has columns that ask differently.
use Rattle.std.proofs.Common.{◌≡◌, ◌∙◌, Bool, Bor, List, ap, filter, map, subst, sym}
use Rattle.cpg_cube.specs.declared.column.Column.{Column}
use Rattle.cpg_merging.specs.Kinds.{AreTold, HoldCandidates, is_candidate}
use Rattle.cpg_merging.proofs.MergingKinds.{both_chosen}
use Rattle.cpg_merging.proofs.kinds.candidates.Goals as goal

-- two columns of one kind that ask differently share a place where a difference is noted, so both are chosen
pub returns : goal.returns
returns c =
    let columns = c.args.columns.now in
    let differing = c.in_ok-differing.differing.items in
    let amounts = c.as_slice-2.result.now in
    let is : map (λ (b : Bor Column). b.now) c.in_ok-chosen.chosen.items ≡ filter (is_candidate differing) columns =
    c.in_ok-chosen.ensures ∙
    ap (λ (ds : List Bool). filter (is_candidate ds) columns) c.as_slice-4.ensures.value in
    subst (HoldCandidates columns) (sym is)
    (both_chosen amounts differing columns c.in_ok-differing.ensures.long (subst (AreTold amounts differing)
    (c.as_slice-3.ensures.value ∙ c.in_ok-kinds.ensures) c.in_ok-differing.ensures.told))
