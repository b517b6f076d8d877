-- How the code reads and puts the trees of when slots are free.
use Rattle.std.proofs.Common.{ℕ, ◌<◌, ◌≡◌, length, get_or, set, length-set, Option, arith, refl, sym, ap, ◌∙◌, subst}
use Rattle.std.proofs.lemmas.List.{get_or_read_under}
use Rattle.std.proofs.lemmas.List.Elements.{All-get_or, All-set}
use Rattle.cpg_base.specs.Graph.{Graph}
use Rattle.cpg_tree.specs.Tree.{TreeState}
use Rattle.cpg_tree.specs.GraphTrees.{IsTree}
use Rattle.cpg_expand.specs.Forest.{ForestState, HasTrees}
use Rattle.cpg_tree.specs.GraphTrees.{no_tree}
use Rattle.cpg_expand.specs.Waiting.{free_of}

-- each node has a tree of when its slots are free
pub free_tree : (g : Graph) (f : ForestState) → HasTrees g f → (node : ℕ) → node < length g.nodes →
    IsTree g (free_of g f node)
free_tree g f has node below =
    All-get_or (IsTree g) f.free node (no_tree g.faults) (omega (arith, below, has.free)) has.all_free

-- if a tree of times and one of free slots are put, there is still a tree for each
pub has_put : (g : Graph) (f new : ForestState) (x node : ℕ) (times : TreeState (Option ℕ)) (free : TreeState ℕ) →
    HasTrees g f → IsTree g times → IsTree g free →
    new ≡ record {
      times = set f.times x times;
      ends = f.ends;
      ready = f.ready;
      free = set f.free node free;
      wide = f.wide;
    } → HasTrees g new
-- putting changes no length, and both trees that are put are trees of the graph
has_put g f new x node times free has of_times of_free is = subst (HasTrees g) (sym is) (record {
  times = length-set f.times x times ∙ has.times;
  ends = has.ends;
  ready = has.ready;
  free = length-set f.free node free ∙ has.free;
  all_times = All-set (IsTree g) f.times x times of_times has.all_times;
  all_ends = has.all_ends;
  all_ready = has.all_ready;
  all_free = All-set (IsTree g) f.free node free of_free has.all_free;
  own = has.own;
})

-- the code's look into the forest finds the tree of the node's free slots
pub free_read : (g : Graph) (f : ForestState) → HasTrees g f → (i : ForestState) → i ≡ f →
    (v : TreeState ℕ) (at node : ℕ) → v ≡ get_or i.free at v → at ≡ node →
    node < length g.nodes →
    v ≡ free_of g f node
free_read g f has i same v at node is is_node below =
    let long = ap (λ (h : ForestState). length h.free) same in
    get_or_read_under i.free at (length i.free) v (no_tree g.faults) is (omega (arith, is_node, below, has.free, long))
    refl
    ∙ ap (λ (h : ForestState). free_of g h at) same ∙ ap (free_of g f) is_node
