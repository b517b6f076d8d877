-- What a node has sent so far along an order, and what changes when an item is sent.
use Rattle.std.specs.Prelude.{ℕ, ◌≡◌, ◌==◌, ◌⊎◌, Bool, true, false, List, [], ◌∷◌, ◌++◌, Option, filter, take}
use Rattle.std.specs.Prelude.{slice_set}
use Rattle.std.specs.List.{flat_map}
use Rattle.cpg_base.specs.Bus.{round}
use Rattle.cpg_base.specs.Graph.{Graph, is_frozen, node_of, home, producer}
use Rattle.cpg_bus.specs.Plan.{queue_of}
use Rattle.cpg_bus.specs.Share.{share_of}
use Rattle.cpg_base.specs.Scenario.{Scenario}
use Rattle.cpg_base.specs.Order.{place}
use Rattle.cpg_cube.specs.declared.column.Column.{Column}
use Rattle.cpg_run.specs.Run.{Times}
use Rattle.cpg_run.specs.Carried.{queued}
use Rattle.cpg_run.specs.Most.{IsMost}
use Rattle.cpg_run.specs.Progress.{IsSentBy, free_after}
use Rattle.cpg_tree.specs.Tree.{TreeState}
use Rattle.cpg_tree.specs.GraphTrees.{IsTree}
use Rattle.cpg_expand.specs.Agreeing.{HasValueFrom}
use Rattle.cpg_expand.specs.Forest.{ForestState, ends_of}
use Rattle.cpg_expand.specs.Freezing.{IsFrozenBy}
use Rattle.cpg_expand.specs.Latest.{IsLatestSend}
use Rattle.cpg_expand.specs.Sending.{IsGoesTree, IsSentTree, IsFreeTree}
use Rattle.cpg_expand.specs.Waited.{IsQueuedFor}
use Rattle.cpg_expand.specs.Waiting.{free_of}

-- the items that a node sends for the processes before the place i, in the order of its queue
abbrev pub sent_before : Graph → List ℕ → ℕ → ℕ → List ℕ
sent_before g order i node = flat_map (queue_of g) (filter (λ q. node_of g q == node) (take i order))

-- the items that p's node sends before item k of p: those of earlier processes, and the first k of p's own queue
abbrev pub sent_so_far : Graph → List ℕ → ℕ → ℕ → List ℕ
sent_so_far g order p k = sent_before g order (place order p) (node_of g p) ++ take k (queue_of g p)

-- In scenario s, with its run t, the tree of p's node says when slots are free after the first k items of p, and its
-- path says no more than what those items leave to later ones.
pub record IsFreeOnce (g : Graph) (order : List ℕ) (rows : List (List Column)) (s : Scenario) (t : Times) (p k : ℕ)
    (f : ForestState) : Type 0 where
  -- `time` is a round after the last item that the node has sent by then, or 0 if there is none
  pub time : ℕ
  pub is : IsMost (IsSentBy g order s p k) (free_after g t) time
  -- the tree has this time, on a path that follows from what these items leave to the ones behind them
  pub has_value : HasValueFrom s (flat_map (queued g order rows s) (sent_so_far g order p k)) time
      (free_of g f (node_of g p))

-- The tree `sent` has the times of the frozen item x: one time wherever it goes (`goes`), the latest of all scenarios.
-- f is the forest before x, and `frozen_old` and `frozen_new` are the frozen times without x's and with it.
pub record IsFrozenSend (g : Graph) (order : List ℕ) (goes : TreeState Bool) (x : ℕ) (f : ForestState)
    (frozen_old frozen_new : List (Option ℕ))
    (sent : TreeState (Option ℕ)) : Type 0 where
  -- the latest time that x would have; `None` if it never goes
  pub latest : Option ℕ
  pub top : IsLatestSend g order f (share_of g (home g x)) goes (ends_of g f (producer g x)) x latest
  -- that time is x's frozen time, and the tree has it wherever x goes
  pub frozen : IsFrozenBy x latest goes frozen_old frozen_new sent

-- The tree `sent` has the times of item x; `goes` says where it goes. If it isn't frozen, it goes there once its
-- producer has ended and slots are free, and the frozen times stay. If it is frozen, it has the latest time, which is
-- added to the frozen times.
abbrev pub IsSentFor : Graph → List ℕ → TreeState Bool → ℕ → ForestState → List (Option ℕ) → List (Option ℕ) →
    TreeState (Option ℕ) → Type 0
IsSentFor g order goes x f frozen_old frozen_new sent =
    ((is_frozen g x ≡ false) × (frozen_new ≡ frozen_old) ×
    IsSentTree g.faults (share_of g (home g x)) goes (ends_of g f (producer g x)) (free_of g f (home g x)) sent)
    ⊎ ((is_frozen g x ≡ true) × IsFrozenSend g order goes x f frozen_old frozen_new sent)

-- Item x is added to the forest: its times, and when the slots of its node are free after it. `chooser` says where its
-- producer is active.
pub record IsItemAdded (g : Graph) (order : List ℕ) (chooser : TreeState Bool) (x : ℕ) (old new : ForestState)
    (frozen_old frozen_new : List (Option ℕ)) : Type 0 where
  -- in which scenarios the item goes
  pub goes : TreeState Bool
  pub goes_tree : IsTree g goes
  pub goes_where : IsGoesTree g x chooser goes
  -- when it is sent
  pub sent : TreeState (Option ℕ)
  pub sent_tree : IsTree g sent
  pub sends : IsSentFor g order goes x old frozen_old frozen_new sent
  -- when the slots are free behind it, which counts only if a later item waits for that
  pub freed : TreeState ℕ
  pub freed_tree : IsTree g freed
  pub frees : IsQueuedFor g order (place order (producer g x)) (home g x) →
      IsFreeTree g.faults (round g) goes sent (free_of g old (home g x)) freed
  -- the two trees take their places; all others stay
  pub is : new ≡ record {
    times = slice_set old.times x sent;
    ends = old.ends;
    ready = old.ready;
    free = slice_set old.free (home g x) freed;
    wide = old.wide;
  }

-- The items of the list are added one after another; `chooser` says where their producer is active. After the first of
-- them, the forest is `mid`, and the frozen times are `between`.
abbrev pub AreItemsAdded : Graph → List ℕ → TreeState Bool → List ℕ → ForestState → ForestState → List (Option ℕ) →
    List (Option ℕ) → Type 0
AreItemsAdded g order chooser [] old new frozen_old frozen_new = (new ≡ old) × (frozen_new ≡ frozen_old)
AreItemsAdded g order chooser (x ∷ xs) old new frozen_old frozen_new = (mid : ForestState) × (between : List (Option ℕ)) ×
    IsItemAdded g order chooser x old mid frozen_old between × AreItemsAdded g order chooser xs mid new between frozen_new
