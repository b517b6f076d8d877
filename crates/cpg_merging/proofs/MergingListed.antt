-- Columns that stand by their least scenarios, and of which no two touch, are merged as they are.
use Rattle.std.proofs.Common.{ℕ, ◌≡◌, ◌≤◌, List, map, IsPermutation, subst, sym}
use Rattle.std.proofs.lemmas.List.Sorted.{IsPermutation-refl}
use Rattle.cpg_base.specs.Graph.{Graph, process_count}
use Rattle.cpg_base.specs.Numbers.{numbers_below}
use Rattle.cpg_cube.specs.declared.column.Column.{Column}
use Rattle.cpg_cube.specs.Keys.{AreByLows}
use Rattle.cpg_merging.specs.Demands.{demand_of, AgreeByTime}
use Rattle.cpg_merging.specs.Merged.{AreMergeable, HaveNoWhole, IsMergeOf}
use Rattle.cpg_merging.specs.Merging.{AreSettled, IsShorn}
use Rattle.cpg_merging.proofs.MergingCubes.{tidy_kept}
use Rattle.cpg_merging.proofs.MergingDemands.{settled_by_demands}
use Rattle.cpg_merging.proofs.MergingEnds.{merge_of}
use Rattle.cpg_merging.proofs.MergingLists.{joins_itself}
use Rattle.cpg_merging.proofs.MergingSteps.{good_of}

-- given: columns without literals of the whole range, of which those of one time ask equally much
module _ (g : Graph) (few : process_count g ≤ 128) (faults : g.faults ≤ 8) (columns : List Column)
    (shorn : IsShorn g columns) (agree : AgreeByTime (map demand_of columns)) where
  -- no two of them touch, so they are settled as they are
  settled : AreSettled g columns columns
  settled = record {
    joins = joins_itself g columns;
    good = shorn;
    settled = λ v known. settled_by_demands g few faults v known columns (good_of g few columns shorn) agree;
  }

  -- if they also stand by their least scenarios, they are their own merge
  pub merged_as_listed : (order : List ℕ) → IsPermutation (numbers_below (process_count g)) order →
      AreByLows (λ (c : Column). c.cube) g order columns →
      IsMergeOf g order columns columns
  merged_as_listed order all up = merge_of g few order all columns columns columns shorn.good
      (subst (λ before. AreSettled g before columns) (sym (tidy_kept g.faults columns shorn.not_whole)) settled)
      (IsPermutation-refl columns) up
