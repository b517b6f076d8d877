-- One process after another is gone over: it begins and sends all that it sends, and the trees are grown up to the next
-- place.
use Rattle.std.proofs.Common.{ℕ, ◌+◌, ◌<◌, ◌≡◌, Bool, List, length, get_or, Option, sym, ap, ◌∙◌, subst}
use Rattle.cpg_base.specs.Graph.{Graph, process_count}
use Rattle.cpg_bus.specs.Plan.{queue_of}
use Rattle.cpg_rules.specs.Guards.{Guards, tree_of}
use Rattle.cpg_base.specs.Order.{IsOrder, place}
use Rattle.cpg_order.specs.Urgency.{IsTopological}
use Rattle.cpg_base.proofs.Places.{length_order}
use Rattle.cpg_base.proofs.Standing.{place_at}
use Rattle.cpg_rules.specs.Admission.{IsAdmitted}
use Rattle.cpg_tree.specs.Tree.{TreeState}
use Rattle.cpg_expand.specs.Begun.{IsBegun}
use Rattle.cpg_expand.specs.Forest.{ForestState, HasTrees}
use Rattle.cpg_expand.specs.Grown.{IsGrown, IsGrownBy, IsSending}
use Rattle.cpg_expand.specs.Sent.{AreItemsAdded}
use Rattle.cpg_expand.proofs.Begun.{begun_sends}
use Rattle.cpg_expand.proofs.GrownNext.{sent_grown}
use Rattle.cpg_expand.proofs.SendingNext.{chosen_valued, all_sent}

-- Process p is gone over once it has begun and all that it sends is added. `old`, `mid` and `new` are the forests
-- before that, between the two and after it, and so are the frozen times.
pub stepped : (g : Graph) (urgency : List ℕ) (guards : Guards) → IsAdmitted g urgency guards →
    (order : List ℕ) (p : ℕ) →
    p < process_count g →
    (old mid new : ForestState) (frozen_old frozen_mid frozen_new : List (Option ℕ)) (chooser : TreeState Bool) →
    IsBegun g order guards p old mid frozen_old frozen_mid chooser → HasTrees g mid →
    AreItemsAdded g order chooser (queue_of g p) mid new frozen_mid frozen_new →
    IsGrownBy g order p frozen_old old frozen_new new
-- when p has begun, none of its items is sent; `all_sent` adds them one after another, and then all is grown up to the
-- next place
stepped g urgency guards a order p l old mid new frozen_old frozen_mid frozen_new chooser begun trees added = λ topological grown.
    let is_guard = a.guards.trees p l in
    let sending : IsSending g order p 0 frozen_mid mid =
    begun_sends g urgency guards a order topological p l old mid frozen_old frozen_mid chooser grown trees begun in
    sent_grown g order topological p l frozen_new new
    (all_sent g a.limits order topological p l (a.limits.processes p _ l).node chooser
    (chosen_valued g urgency a.urgency a.topological p (tree_of guards p) is_guard chooser begun.actives) mid new
    frozen_mid frozen_new sending added)

-- given: a topological order
module _ (g : Graph) (order : List ℕ) (topological : IsTopological g order) where
  -- if the process at a place is gone over, the trees are grown up to the next place
  pub next_grown : IsOrder order → (k p : ℕ) → k < length order → p ≡ get_or order k 0 →
      (old new : ForestState) (frozen_old frozen_new : List (Option ℕ)) →
      IsGrown g order k frozen_old old →
      IsGrownBy g order p frozen_old old frozen_new new → IsGrown g order (k + 1) frozen_new new
  next_grown lawful k p within at old new frozen_old frozen_new grown by =
      let stands : place order p ≡ k = ap (place order) at ∙ place_at order lawful k within in
      subst (λ n. IsGrown g order (n + 1) frozen_new new) stands
      (by topological (subst (λ n. IsGrown g order n frozen_old old) (sym stands) grown))

  -- once all processes are gone over, the trees are grown along the whole order
  pub all_grown : (k : ℕ) → k ≡ length order → (frozen : List (Option ℕ)) (f : ForestState) →
      IsGrown g order k frozen f →
      IsGrown g order (process_count g) frozen f
  all_grown k end frozen f grown =
      subst (λ n. IsGrown g order n frozen f) (end ∙ length_order (process_count g) order topological.all) grown
