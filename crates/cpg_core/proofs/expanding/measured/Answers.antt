-- Proof of `measured`, which returns all that is found under an order: its trees, with the greatest finish and the
-- greatest excess that they tell. `wide` is the least item that is too wide under the order by its views, or `None` if
-- none is.
use Rattle.std.proofs.Common.{ℕ, List, Option, refl}
use Rattle.cpg_base.specs.Graph.{Graph, process_count}
use Rattle.cpg_expand.specs.Forest.{ForestState}
use Rattle.cpg_expand.specs.Grown.{IsGrown}
use Rattle.cpg_core.specs.RunEnds.{GiveEnds}
use Rattle.cpg_tree_columns.specs.Peaks.{EndsAt, EndsPast, IsPeak}
use Rattle.cpg_core.proofs.PeaksMeasured.{peak_is_excess, peak_is_worst}
use Rattle.cpg_core.proofs.GrownRows.{grown_frozen, grown_gives_ends, said_of}
use Rattle.cpg_core.proofs.expanding.measured.Goals as goal

-- the trees give the ends of all runs, so their peaks are the greatest finish and the greatest excess of the order
pub returns : goal.returns
returns c =
    let g = c.args.admitted.now.graph in
    let urgency = c.args.admitted.now.order in
    let order = c.args.order in
    let guards = c.args.admitted.now.guards in
    let admitted = c.problem-problem.ensures.admitted in
    let frozen : List (Option ℕ) = c.args.trees.frozen in
    let forest : ForestState = c.args.trees.forest in
    let grown : IsGrown g order (process_count g) frozen forest = c.requires.grown in
    -- the trees of the ends give the ends of each run
    let has_value : GiveEnds g order frozen forest.ends =
    grown_gives_ends g urgency guards admitted order c.requires.topological frozen forest grown in
    -- these are the trees whose peaks were found
    let worst : IsPeak g urgency (process_count g) (EndsAt g forest.ends) c.in_ok-worst.worst =
    said_of (λ h us ts. IsPeak h us (process_count h) (EndsAt h ts) c.in_ok-worst.worst) g c.problem-problem.result.now urgency
    c.order-urgency.result.now forest.ends c.ends-ends.result.now
    c.problem-problem.ensures.problem c.order-urgency.ensures.order c.ends-ends.ensures c.in_ok-worst.ensures in
    let excess : IsPeak g urgency (process_count g) (EndsPast g forest.ends) c.in_ok-excess.excess =
    said_of (λ h us ts. IsPeak h us (process_count h) (EndsPast h ts) c.in_ok-excess.excess) g c.problem-problem.result.now urgency
    c.order-urgency.result.now forest.ends c.ends-ends.result.now
    c.problem-problem.ensures.problem c.order-urgency.ensures.order c.ends-ends.ensures c.in_ok-excess.ensures in
    -- so they are the greatest finish and the greatest excess of this order
    record {
      same = refl;
      wide = c.requires.wide;
      trees = grown;
      frozen = grown_frozen g urgency guards admitted order c.requires.topological frozen forest grown;
      worst = peak_is_worst g order c.requires.topological frozen forest.ends grown.trees.all_ends grown.trees.ends has_value
          urgency c.in_ok-worst.worst worst;
      excess = peak_is_excess g order c.requires.topological frozen forest.ends grown.trees.all_ends grown.trees.ends has_value
          urgency c.in_ok-excess.excess excess;
    }
