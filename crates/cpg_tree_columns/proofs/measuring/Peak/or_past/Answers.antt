-- Proof of `Peak::or_past`, which returns the peak with a later process that ends as `end` says, of how far ends are
-- past their dues.
use Rattle.std.proofs.Common.{◌≡◌, ℕ, Option, subst}
use Rattle.cpg_tree.specs.Tree.{IsMap}
use Rattle.cpg_tree.specs.Variables.{is_variable}
use Rattle.cpg_tree.specs.GraphTrees.{IsTree}
use Rattle.cpg_tree_columns.specs.Past.{time_past}
use Rattle.cpg_tree.proofs.GraphTrees.{same_tree}
use Rattle.cpg_tree_columns.proofs.measuring.Peak.or_past.Goals as goal

-- the tree has the faults of the ends, and forks on the graph's variables alone
pub or-requires-clause-tree : goal.or-requires-clause-tree
or-requires-clause-tree c =
    let g = c.args.problem.now in
    same_tree g c.args.end.now c.in_ok-past.past c.requires.tree.faults c.in_ok-past.ensures.is.faults
    c.in_ok-past.ensures.each (c.in_ok-past.ensures.pass (is_variable g) c.requires.tree.known)

-- the tree of how far the ends are past the due is made from that of the ends, so it is one of the graph; the next
-- peak is by it
pub returns : goal.returns
returns c =
    let g = c.args.problem.now in
    let of : IsTree g c.in_ok-past.past = same_tree g c.args.end.now c.in_ok-past.past c.requires.tree.faults
    c.in_ok-past.ensures.is.faults c.in_ok-past.ensures.each
    (c.in_ok-past.ensures.pass (is_variable g) c.requires.tree.known) in
    record {
      tree = c.in_ok-past.past;
      of = of;
      made =
          subst (λ (d : ℕ). IsMap (λ (x : Option ℕ) (z : Option ℕ). z ≡ time_past d x) c.args.end.now c.in_ok-past.past)
          c.due.ensures c.in_ok-past.ensures.is;
      next = c.in_ok-peak.ensures;
    }
