-- What faults show: how one is handed on, and where along an order a tree has too many leaves.
use Rattle.std.proofs.Common.{ℕ, ◌+◌, ◌<◌, ◌≡◌, ◌∙◌, Bool, List, [], ◌∷◌, length, get_or, Option, None, Some, arith}
use Rattle.std.proofs.Common.{refl, sym, ap, subst, inl, inr}
use Rattle.std.specs.Prelude.{IfErr, IsErrAnd, Result, Ok, Err}
use Rattle.cpg_base.specs.Graph.{Graph, process_count, item_count, node_of, producer}
use Rattle.cpg_base.specs.Order.{IsOrder, place}
use Rattle.cpg_base.proofs.Standing.{place_at}
use Rattle.cpg_bus.proofs.Queued.{in_queue}
use Rattle.cpg_order.specs.Guard.{Guard}
use Rattle.cpg_rules.specs.Guards.{Guards, AreGuardsOf}
use Rattle.cpg_run.specs.Built.{ShowsBuildFault}
use Rattle.cpg_run.specs.declared.built.BuildFault.{BuildFault}
use Rattle.cpg_run.specs.declared.built.BuildFault.TheVariants.{TooWide, OutOfMemory}
use Rattle.cpg_tree.specs.Tree.{TreeState}
use Rattle.cpg_expand.specs.Begun.{IsBegun}
use Rattle.cpg_expand.specs.Forest.{ForestState}
use Rattle.cpg_expand.specs.Grown.{IsGrown}
use Rattle.cpg_expand.specs.Large.{HasLargeFree, HasLargeTree, IsLargeBegun, IsLargeLeft, IsLargeThawed, ShowsLarge}
use Rattle.cpg_expand.specs.Sent.{AreItemsAdded}

-- a fault shown for one cause is shown for another that follows from it
pub shown_as : (A B : Type 0) (wide : Option ℕ) (fault : BuildFault) → (A → B) → ShowsLarge wide A fault →
    ShowsLarge wide B fault
shown_as A B wide (TooWide x) follows shows = (shows.0, follows shows.1)
shown_as A B wide OutOfMemory follows shows = shows

-- a fault that is handed on shows what it showed
pub handed_on : {T : Type 0} (P : BuildFault → Type 0) (result : Result T BuildFault) (shown : BuildFault) →
    IsErrAnd result (λ e. e ≡ shown) → P shown → IfErr result P
handed_on P (Ok x) shown same shows = absurd same
handed_on P (Err e) shown same shows = subst P (sym same) shows

-- a fault that is handed on shows any cause that follows from its own
pub handed_as : {T : Type 0} (A B : Type 0) (wide : Option ℕ) (result : Result T BuildFault) (shown : BuildFault) →
    IsErrAnd result (λ e. e ≡ shown) → (A → B) →
    ShowsLarge wide A shown →
    IfErr result (ShowsLarge wide B)
handed_as A B wide (Ok x) shown same follows shows = absurd same
handed_as A B wide (Err e) shown same follows shows =
    subst (ShowsLarge wide B) (sym same) (shown_as A B wide shown follows shows)

-- an answer whose fault has one cause has any cause that follows from it
pub shown_for : {T : Type 0} (result : Result T BuildFault) (P Q : BuildFault → Type 0) → IfErr result P →
    ((fault : BuildFault) → P fault → Q fault) → IfErr result Q
shown_for (Ok x) P Q shows follows = shows
shown_for (Err e) P Q shows follows = follows e shows

-- a fault that is shown for one name of an item is shown for an equal name
pub named_as : (A : Type 0) (wide other : Option ℕ) (fault : BuildFault) → wide ≡ other → ShowsLarge wide A fault →
    ShowsLarge other A fault
named_as A wide other fault same shows = subst (λ o. ShowsLarge o A fault) same shows

-- if no item is to be named, no fault names one
pub none_named : (A : Type 0) (is_shown : ℕ → Type 0) (fault : BuildFault) → ShowsLarge None A fault →
    ShowsBuildFault is_shown fault
none_named A is_shown (TooWide x) shows = absurd (no_name x shows.0)
  where
    -- `None` has no item
    no_name : (x : ℕ) → None ≡ Some x → ⊥
    no_name x equal = cc
none_named A is_shown OutOfMemory shows = tt

-- what is too large by other names of the graph and the guard is so by these
pub thawed_as : (g h : Graph) → h ≡ g → (p : ℕ) (f : ForestState) (guard found : Guard) → found ≡ guard →
    IsLargeThawed h p f found →
    IsLargeThawed g p f guard
thawed_as g h same p f guard found is large =
    subst (λ (k : Graph). IsLargeThawed k p f guard) same (subst (IsLargeThawed h p f) is large)

-- the forest `new`, to which the items `xs` are added, has the same item to name as `old`
pub added_wide : (g : Graph) (order : List ℕ) (chooser : TreeState Bool) (xs : List ℕ) (old new : ForestState)
    (frozen_old frozen_new : List (Option ℕ)) →
    AreItemsAdded g order chooser xs old new frozen_old frozen_new → new.wide ≡ old.wide
-- by induction on the list
added_wide g order chooser [] old new frozen_old frozen_new added = ap (λ (f : ForestState). f.wide) added.0
added_wide g order chooser (x ∷ xs) old new frozen_old frozen_new added =
    added_wide g order chooser xs added.0 new added.1 frozen_new added.3 ∙ ap (λ (f : ForestState). f.wide) added.2.is

-- the forest `new`, in which p has begun, has the same item to name as `old`
pub begun_wide : (g : Graph) (order : List ℕ) (guards : Guards) (p : ℕ) (old new : ForestState)
    (frozen_old frozen_new : List (Option ℕ)) (chooser : TreeState Bool) →
    IsBegun g order guards p old new frozen_old frozen_new chooser → new.wide ≡ old.wide
begun_wide g order guards p old new frozen_old frozen_new chooser begun = ap (λ (f : ForestState). f.wide) begun.is

-- given: an order, the process at one of its places, and the trees so far
-- `are`: the guards are those of the graph; `order`, `lawful`: an order
-- `k`, `p`, `within`, `at`: the process at place k; `frozen`, `f`: the frozen times and trees up to there
module _ (g : Graph) (urgency : List ℕ) (guards : Guards) (are : AreGuardsOf g urgency guards) (order : List ℕ)
    (lawful : IsOrder order) (k p : ℕ) (within : k < length order)
    (at : p ≡ get_or order k 0)
    (frozen : List (Option ℕ)) (f : ForestState) where
  -- p stands at the place k
  stands : place order p ≡ k
  stands = ap (place order) at ∙ place_at order lawful k within

  -- a tree on the way to the process's start and end that is too large is one along the order
  pub large_begun : p < process_count g → IsGrown g order k frozen f → IsLargeBegun g order guards p f →
      HasLargeTree g urgency order
  large_begun below grown large = record {
    guards = guards;
    are = are;
    reached = k;
    frozen = frozen;
    forest = f;
    grown = grown;
    large = inr (inr (p, below, stands, large));
  }

  -- a tree that is too large once the process has sent is one along the order
  pub large_left : (node_of g p < length g.nodes) → IsGrown g order (k + 1) frozen f → IsLargeLeft g order p f →
      HasLargeTree g urgency order
  -- a tree of an item that p sends, which stands before the place reached
  large_left there grown (inl large) =
      let its_queue = in_queue g p large.item large.sent in
      let by_p : place order (producer g large.item) ≡ k = ap (place order) its_queue.by ∙ stands in
      record {
        guards = guards;
        are = are;
        reached = k + 1;
        frozen = frozen;
        forest = f;
        grown = grown;
        large = inl (large.item, its_queue.within, omega (arith, by_p), large.large);
      }
  -- a tree of the free slots of p's node
  large_left there grown (inr large) = record {
    guards = guards;
    are = are;
    reached = k + 1;
    frozen = frozen;
    forest = f;
    grown = grown;
    large = inr (inl (node_of g p, there, subst (λ n. HasLargeFree g order (n + 1) (node_of g p) f) stands large));
  }
