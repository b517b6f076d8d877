-- What is found of a process before its items are sent: where it is active, its start, its end, and when its node goes
-- on.
use Rattle.std.specs.Prelude.{ℕ, ◌≡◌, ◌⊎◌, Bool, true, false, List, Option, slice_set}
use Rattle.cpg_base.specs.Graph.{Graph, process_at, node_of, inputs, is_frozen}
use Rattle.cpg_base.specs.Order.{place}
use Rattle.cpg_order.specs.Guard.{Guard}
use Rattle.cpg_rules.specs.Guards.{Guards, tree_of}
use Rattle.cpg_tree.specs.Tree.{TreeState}
use Rattle.cpg_tree.specs.GraphTrees.{IsTree}
use Rattle.cpg_expand.specs.Earlier.{IsCut}
use Rattle.cpg_expand.specs.Ending.{IsEndTree, IsReadyAfter, goes_on}
use Rattle.cpg_expand.specs.Forest.{ForestState}
use Rattle.cpg_expand.specs.Freezing.{IsFrozenBy}
use Rattle.cpg_expand.specs.Guarded.{IsActiveTree, IsStartTree}
use Rattle.cpg_expand.specs.Latest.{IsLatestStart}
use Rattle.cpg_expand.specs.Waited.{IsReadyIfWaited}
use Rattle.cpg_expand.specs.Waiting.{IsWaitTree}
use Rattle.cpg_expand.specs.declared.forest.Ready.{Ready}

-- Process p has begun: the forest `old` has become `new`, which has its start, its end and when its node goes on.
-- `order` is the order of all processes, and `guard` is p's guard. `chooser` says where p is active;
-- `how chooser start` says what the start follows from, which differs for frozen processes.
pub record IsBegunBy (how : TreeState Bool → TreeState (Option ℕ) → Type 0) (g : Graph) (order : List ℕ)
    (p : ℕ) (guard : Guard)
    (old new : ForestState) (chooser : TreeState Bool) : Type 0 where
  -- `chooser` is true where the guard leads to an active leaf
  pub chooser_tree : IsTree g chooser
  pub actives : IsActiveTree g.faults guard chooser
  -- the times of its start, which follow as `how` says
  pub start : TreeState (Option ℕ)
  pub starts : how chooser start
  -- the times of its end
  pub end : TreeState (Option ℕ)
  pub ends : IsEndTree g p start end
  -- from when on its node is ready after p: a tree, or p's ends; what this says counts only if a later process that
  -- isn't frozen waits for it
  pub ready : Ready
  pub ready_after : IsReadyAfter g p ready
  pub readies : IsReadyIfWaited g order old p guard chooser end (goes_on end ready)
  -- the start, the end and the node's `ready` take their places; the trees of slots and the item to name stay
  pub is : new ≡ record {
    times = slice_set old.times p start;
    ends = slice_set old.ends p end;
    ready = slice_set old.ready (node_of g p) ready;
    free = old.free;
    wide = old.wide;
  }

-- The start of process p, which isn't frozen: in each scenario it waits for its release, its inputs, its node, and what
-- its node hears. f is the forest before p, and `guard` is p's guard.
pub record IsThawedStart (g : Graph) (p : ℕ) (f : ForestState) (guard : Guard)
    (start : TreeState (Option ℕ)) : Type 0 where
  -- the time at which the node is ready and has heard the conditions that the guard tests
  pub wait : TreeState ℕ
  pub waits : IsWaitTree g f (node_of g p) guard wait
  -- the start is the latest of that wait, the release and the inputs
  pub is : IsStartTree g f wait (process_at g p).release (inputs g p) guard start

-- `IsThawedStart` in the form that `IsBegunBy` takes; the chooser doesn't count, since the guard says where p is
-- active
abbrev pub thawed_start : Graph → ℕ → ForestState → Guard → TreeState Bool → TreeState (Option ℕ) → Type 0
thawed_start g p f guard chooser start = IsThawedStart g p f guard start

-- The start of the frozen process p: one time, the latest that any scenario asks for. f is the forest before p,
-- `chooser` says where p is active, and `frozen_old` and `frozen_new` are the frozen times without p's and with it.
pub record IsFrozenStart (g : Graph) (order : List ℕ) (guards : Guards) (p : ℕ) (f : ForestState)
    (frozen_old frozen_new : List (Option ℕ))
    (chooser : TreeState Bool) (start : TreeState (Option ℕ)) : Type 0 where
  -- the first place whose processes are looked at: what stands before it on p's node has ended by then
  pub from : ℕ
  pub cut : IsCut g order guards (node_of g p) from (place order p)
  -- the latest start over all scenarios; `None` if p is never active
  pub latest : Option ℕ
  pub top : IsLatestStart g order guards f (node_of g p) from (place order p) (process_at g p).release
      (inputs g p) chooser latest
  -- that time is p's frozen time, and the tree has it wherever p is active
  pub frozen : IsFrozenBy p latest chooser frozen_old frozen_new start

-- The start of process p. If it isn't frozen, it waits in each scenario for what that one asks, and the frozen times
-- stay. If it is frozen, it has the latest time, which is added to the frozen times. f is the forest before p, and
-- `chooser` says where p is active.
abbrev pub any_start : Graph → List ℕ → Guards → ℕ → ForestState → List (Option ℕ) → List (Option ℕ) → TreeState Bool →
    TreeState (Option ℕ) → Type 0
any_start g order guards p f frozen_old frozen_new chooser start =
    ((is_frozen g p ≡ false) × (frozen_new ≡ frozen_old) × thawed_start g p f (tree_of guards p) chooser start) ⊎
    ((is_frozen g p ≡ true) ×
    IsFrozenStart g order guards p f frozen_old frozen_new chooser start)

-- process p, which isn't frozen, has begun; `chooser` says where it is active
abbrev pub IsBegunThawed : Graph → List ℕ → ℕ → Guard → ForestState → ForestState → TreeState Bool → Type 0
IsBegunThawed g order p guard old new chooser = IsBegunBy (thawed_start g p old guard) g order p guard old new chooser

-- the frozen process p has begun; `chooser` says where it is active
abbrev pub IsBegunFrozen : Graph → List ℕ → Guards → ℕ → ForestState → ForestState → List (Option ℕ) → List (Option ℕ) →
    TreeState Bool → Type 0
IsBegunFrozen g order guards p old new frozen_old frozen_new chooser =
    IsBegunBy (IsFrozenStart g order guards p old frozen_old frozen_new) g order p (tree_of guards p) old new chooser

-- process p has begun, frozen or not; `chooser` says where it is active
abbrev pub IsBegun : Graph → List ℕ → Guards → ℕ → ForestState → ForestState → List (Option ℕ) → List (Option ℕ) →
    TreeState Bool → Type 0
IsBegun g order guards p old new frozen_old frozen_new chooser =
    IsBegunBy (any_start g order guards p old frozen_old frozen_new) g order p (tree_of guards p) old new chooser
