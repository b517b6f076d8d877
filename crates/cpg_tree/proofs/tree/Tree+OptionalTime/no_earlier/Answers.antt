-- Proof of `Tree<OptionalTime>::no_earlier`, which returns the tree that has in each scenario this tree's time (0 if it
-- has none) or `least`, whichever is later.
use Rattle.std.proofs.Common.{ℕ, ◌≡◌, max, Bool, Option, Some, sym, subst}
use Rattle.cpg_tree.specs.Later.{time_later}
use Rattle.cpg_tree.specs.Tree.{TreeState, IsMap, HasOnePathEach, DoPathsPass}
use Rattle.cpg_tree.proofs.Forks.{from_true, of_answer, of_both}
use Rattle.cpg_tree.proofs.OnePath.{own_map}
use Rattle.cpg_tree.proofs.tree.Tree+OptionalTime.no_earlier.Goals as goal

-- all times are late enough, so the copy has in each scenario the later of its time and the least
pub returns-then-is_at_least-clause-is : goal.returns-then-is_at_least-clause-is
returns-then-is_at_least-clause-is c =
    let tree : TreeState (Option ℕ) = c.args.self.now in
    let answers : Option ℕ → Option ℕ → Type 0 = λ x z. z ≡ Some (max (time_later 0 x) c.args.least) in
    of_answer c.copy.result (λ t. (t ≡ tree) × HasOnePathEach t.faults t.paths) (IsMap answers tree)
    (of_both c.copy.result (λ t. t ≡ tree) (λ t. HasOnePathEach t.faults t.paths) c.copy.ensures.is c.copy.ensures.each)
    (λ t h.
    subst (IsMap answers tree) (sym h.0)
    (own_map answers tree (subst (λ (t : TreeState (Option ℕ)). HasOnePathEach t.faults t.paths) h.0 h.1)
    (from_true c.is_at_least.result c.if-is_at_least.true c.is_at_least.ensures)))

-- the copy is the tree itself, so its variables pass the same tests
pub returns-then-is_at_least-clause-pass : goal.returns-then-is_at_least-clause-pass
returns-then-is_at_least-clause-pass c =
    let tree : TreeState (Option ℕ) = c.args.self.now in
    of_answer c.copy.result (λ t. t ≡ tree)
    (λ t. (test : ℕ → Bool) → DoPathsPass test tree.paths → DoPathsPass test t.paths) c.copy.ensures.is
    (λ t h test on. subst (λ (t : TreeState (Option ℕ)). DoPathsPass test t.paths) (sym h) on)
