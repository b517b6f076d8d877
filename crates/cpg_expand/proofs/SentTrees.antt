-- The trees of sends that the code makes are those that the specs ask for: found for one name of a tree, they are
-- found for an equal one too, and item after item they add up to a list of items.
use Rattle.std.proofs.Common.{ℕ, ◌+◌, suc, ◌<◌, ◌≡◌, Bool, List, [], ◌∷◌, ◌++◌, length, get_or, set, take, Option}
use Rattle.std.proofs.Common.{arith, inl, inr, refl, sym, ap, ◌∙◌, subst}
use Rattle.std.proofs.Math.Seq.{take-suc}
use Rattle.cpg_base.specs.Bus.{round}
use Rattle.cpg_base.specs.Graph.{Graph, home, producer}
use Rattle.cpg_base.specs.Order.{place}
use Rattle.cpg_bus.specs.Share.{ShareState}
use Rattle.cpg_tree.specs.Tree.{TreeState}
use Rattle.cpg_tree.specs.GraphTrees.{IsTree}
use Rattle.cpg_expand.specs.Forest.{ForestState}
use Rattle.cpg_expand.specs.Latest.{IsLatestSend}
use Rattle.cpg_expand.specs.Sending.{IsGoesTree, IsSentTree, IsFreeTree}
use Rattle.cpg_expand.specs.Sent.{IsItemAdded, IsSentFor, AreItemsAdded}
use Rattle.cpg_expand.specs.Waited.{IsQueuedFor}
use Rattle.cpg_expand.specs.Waiting.{free_of}
use Rattle.cpg_expand.proofs.FrozenFound.{set_count}

-- if t is the tree of sends for k faults, a share, and trees of ends and free slots, it is so for equal ones: m,
-- `here`, `of_end` and `of_free`
pub slots_read : (k m : ℕ) (share here : ShareState) (goes : TreeState Bool) (end of_end : TreeState (Option ℕ))
    (free of_free : TreeState ℕ) (t : TreeState (Option ℕ)) → k ≡ m → share ≡ here →
    end ≡ of_end → free ≡ of_free → IsSentTree k share goes end free t → IsSentTree m here goes of_end of_free t
slots_read k m share here goes end of_end free of_free t same_k same_share same_end same_free is =
    subst (λ n. IsSentTree n here goes of_end of_free t) same_k
    (subst (λ h. IsSentTree k h goes of_end of_free t) same_share
    (subst (λ u. IsSentTree k share goes u of_free t) same_end
    (subst (λ u. IsSentTree k share goes end u t) same_free is)))

-- if `latest` is the latest time of x for a share and a tree of ends, it is so for equal ones: `here` and `of_end`
pub latest_read : (g : Graph) (order : List ℕ) (f : ForestState) (share here : ShareState) (goes : TreeState Bool)
    (end of_end : TreeState (Option ℕ)) (x : ℕ) (latest : Option ℕ) → share ≡ here →
    end ≡ of_end → IsLatestSend g order f share goes end x latest → IsLatestSend g order f here goes of_end x latest
latest_read g order f share here goes end of_end x latest same_share same_end is =
    subst (λ h. IsLatestSend g order f h goes of_end x latest) same_share
    (subst (λ u. IsLatestSend g order f share goes u x latest) same_end is)

-- if t is the tree of free slots for k faults, a round and a tree of earlier free slots, it is so for equal ones: m,
-- `here` and `of_free`
pub free_then_read : (k m turn here : ℕ) (goes : TreeState Bool) (sent : TreeState (Option ℕ))
    (free of_free t : TreeState ℕ) → k ≡ m → turn ≡ here →
    free ≡ of_free →
    IsFreeTree k turn goes sent free t → IsFreeTree m here goes sent of_free t
free_then_read k m turn here goes sent free of_free t same_k same_turn same_free is =
    subst (λ n. IsFreeTree n here goes sent of_free t) same_k
    (subst (λ h. IsFreeTree k h goes sent of_free t) same_turn
    (subst (λ u. IsFreeTree k turn goes sent u t) same_free is))

-- there are as many frozen times after the send of x (`frozen_new`) as before it (`frozen_old`)
pub sent_count : (g : Graph) (order : List ℕ) (goes : TreeState Bool) (x : ℕ) (f : ForestState)
    (frozen_old frozen_new : List (Option ℕ)) (t : TreeState (Option ℕ)) →
    IsSentFor g order goes x f frozen_old frozen_new t → length frozen_new ≡ length frozen_old
sent_count g order goes x f frozen_old frozen_new t (inl th) = ap length th.1
sent_count g order goes x f frozen_old frozen_new t (inr fz) = ap length fz.1.frozen.set ∙ set_count frozen_old x fz.1.latest

-- item x is added to the forest `old` by its sends (`sent`) and its node's free slots (`freed`), put in their places;
-- `goes` is where x goes, and `at` its node
pub item_added : (g : Graph) (order : List ℕ) (chooser : TreeState Bool) (x at : ℕ) → at ≡ home g x →
    (old new : ForestState) (frozen_old frozen_new : List (Option ℕ)) (goes : TreeState Bool) →
    IsTree g goes → IsGoesTree g x chooser goes →
    (sent : TreeState (Option ℕ)) → IsTree g sent → IsSentFor g order goes x old frozen_old frozen_new sent →
    (freed : TreeState ℕ) → IsTree g freed → (IsQueuedFor g order (place order (producer g x)) (home g x) →
    IsFreeTree g.faults (round g) goes sent (free_of g old (home g x)) freed) →
    new ≡ record {
      times = set old.times x sent;
      ends = old.ends;
      ready = old.ready;
      free = set old.free at freed;
      wide = old.wide;
    } → IsItemAdded g order chooser x old new frozen_old frozen_new
item_added g order chooser x at there old new frozen_old frozen_new goes goes_tree goes_where sent sent_tree sends freed
    freed_tree frees is = record {
      goes = goes;
      goes_tree = goes_tree;
      goes_where = goes_where;
      sent = sent;
      sent_tree = sent_tree;
      sends = sends;
      freed = freed;
      freed_tree = freed_tree;
      frees = frees;
      -- the trees are put in their places
      is = is ∙ ap (λ n. record {
        times = set old.times x sent;
        ends = old.ends;
        ready = old.ready;
        free = set old.free n freed;
        wide = old.wide;
      }) there;
    }

-- ---- one after another

-- given: a graph, an order of its processes, and the tree of where the sending process is active
module _ (g : Graph) (order : List ℕ) (chooser : TreeState Bool) where
  -- no item is added to the trees as they stand
  pub none_added : (f : ForestState) (frozen : List (Option ℕ)) → AreItemsAdded g order chooser [] f f frozen frozen
  none_added f frozen = (refl, refl)

  -- if the items `xs` are added, which makes `old` to `mid`, and then x, which makes `mid` to `new`, the items of the
  -- list with x at its end are added
  one_more : (xs : List ℕ) (x : ℕ) (old mid new : ForestState) (frozen_old frozen_mid frozen_new : List (Option ℕ)) →
      AreItemsAdded g order chooser xs old mid frozen_old frozen_mid →
      IsItemAdded g order chooser x mid new frozen_mid frozen_new →
      AreItemsAdded g order chooser (xs ++ x ∷ []) old new frozen_old frozen_new
  -- by induction on the list: its first item is added first
  one_more [] x old mid new frozen_old frozen_mid frozen_new none last = (
    new,
    frozen_new,
    subst (λ f. IsItemAdded g order chooser x f new frozen_old frozen_new) none.0
        (subst (λ f. IsItemAdded g order chooser x mid new f frozen_new) none.1 last),
    (refl, refl),
  )
  one_more (y ∷ ys) x old mid new frozen_old frozen_mid frozen_new added last =
      (added.0, added.1, added.2, one_more ys x added.0 mid new added.1 frozen_mid frozen_new added.3 last)

  -- if the first k items of `xs` are added, and then the next one, the first k + 1 are
  pub next_added : (xs : List ℕ) (k : ℕ) → k < length xs →
      (old mid new : ForestState) (frozen_old frozen_mid frozen_new : List (Option ℕ)) →
      AreItemsAdded g order chooser (take k xs) old mid frozen_old frozen_mid →
      IsItemAdded g order chooser (get_or xs k 0) mid new frozen_mid frozen_new
      → AreItemsAdded g order chooser (take (k + 1) xs) old new frozen_old frozen_new
  next_added xs k inside old mid new frozen_old frozen_mid frozen_new added last =
      let is : take (k + 1) xs ≡ take k xs ++ get_or xs k 0 ∷ [] =
      ap (λ n. take n xs) (let equal : k + 1 ≡ suc k = omega arith in equal) ∙ take-suc xs k 0 inside in
      subst (λ ys. AreItemsAdded g order chooser ys old new frozen_old frozen_new) (sym is)
      (one_more (take k xs) (get_or xs k 0) old mid new frozen_old frozen_mid frozen_new added last)
