-- What an item that is added leaves as it is: all other trees.
use Rattle.std.proofs.Common.{ℕ, ◌≡◌, ◌≢◌, Bool, List, Option, set, refl, ap, ◌∙◌, get_or-set_other}
use Rattle.cpg_base.specs.Graph.{Graph, home}
use Rattle.cpg_tree.specs.Tree.{TreeState}
use Rattle.cpg_expand.specs.Forest.{ForestState, times_of, ends_of, ready_at, ready_by}
use Rattle.cpg_tree.specs.GraphTrees.{no_tree}
use Rattle.cpg_expand.specs.declared.forest.Ready.{Ready}
use Rattle.cpg_expand.specs.declared.forest.Ready.TheVariants.{After, At}
use Rattle.cpg_expand.specs.Sent.{IsItemAdded}
use Rattle.cpg_expand.specs.Waiting.{ready_of, free_of}

-- given: an item that is added to the trees
-- `x`, `chooser`: the item, and where its producer is active; `old`, `frozen_old`: trees and frozen times before it is
-- added
-- `new`, `frozen_new`, `added`: those with it
module _ (g : Graph) (order : List ℕ) (chooser : TreeState Bool) (x : ℕ) (old new : ForestState)
    (frozen_old frozen_new : List (Option ℕ))
    (added : IsItemAdded g order chooser x old new frozen_old frozen_new) where
  -- another item keeps its tree of times
  pub other_times : (y : ℕ) → y ≢ x → times_of g new y ≡ times_of g old y
  other_times y other = ap (λ (f : ForestState). times_of g f y) added.is
      ∙ get_or-set_other old.times x y added.sent (no_tree g.faults) other

  -- all processes keep their trees of ends
  pub same_ends : (q : ℕ) → ends_of g new q ≡ ends_of g old q
  same_ends q = ap (λ (f : ForestState). ends_of g f q) added.is

  -- all nodes are ready when they were
  pub same_ready : (node : ℕ) → ready_of g new node ≡ ready_of g old node
  same_ready node = ap (λ (f : ForestState). ready_of g f node) added.is ∙ kept (ready_at g old node)
    where
      -- whether a node is ready after a process's ends or by a tree of its own
      kept : (r : Ready) →
          ready_by g (record {
            times = set old.times x added.sent;
            ends = old.ends;
            ready = old.ready;
            free = set old.free (home g x) added.freed;
            wide = old.wide;
          }) r ≡ ready_by g old r
      kept (After q) = refl
      kept (At t) = refl

  -- another node has its slots free when it had
  pub other_free : (node : ℕ) → node ≢ home g x → free_of g new node ≡ free_of g old node
  other_free node other = ap (λ (f : ForestState). free_of g f node) added.is
      ∙ get_or-set_other old.free (home g x) node added.freed (no_tree g.faults) other
