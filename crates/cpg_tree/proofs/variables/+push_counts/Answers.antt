-- Proof of `push_counts`, which adds the tree of the fault count of a process, for the scenarios in which it is from
-- `first` to `k`.
use Rattle.std.proofs.Common.{ℕ, ◌≤◌, ◌<◌, ◌≡◌, ◌∙◌, arith}
use Rattle.cpg_tree.proofs.Forks.{of_answer}
use Rattle.cpg_tree.proofs.VariableLaws.{adds_last, adds_counts}
use Rattle.cpg_tree.proofs.variables.+push_counts.Goals as goal

-- a number that is at most another and isn't equal is below it
before : (a b : ℕ) → a ≤ b → (a ≡ b → ⊥) → a < b
before a b l n = omega arith

-- the next count is at most the last one, and fewer counts are left from there on
pub push_counts-requires : goal.push_counts-requires
push_counts-requires t c =
    let less : c.args.first < c.args.k = before c.args.first c.args.k c.requires.first c.if-first-k.false in
    let at = c.decreases in
    (omega arith, (c.requires.process, omega (arith, less)))

-- only the last count is left, so it is added as a leaf
pub returns-then-first-k-clause-made : goal.returns-then-first-k-clause-made
returns-then-first-k-clause-made t c = adds_last c.args.process c.args.first c.args.k c.args.out.now.items
    c.push.new.self.items c.if-first-k.true c.in_ok-push.ensures.items

-- the first count is added as a leaf, the higher counts behind it, and then a fork of the two
pub returns-clause-made : goal.returns-clause-made
returns-clause-made t c =
    of_answer c.plain_fork.result _ _ c.plain_fork.ensures.made
    (λ u forks. adds_counts c.len-start.result c.len-middle.result c.args.process c.args.first c.args.k
    c.args.out.now.items c.push-2.new.self.items c.push_counts.new.out.items c.plain_fork.new.out.items
    c.requires.process (before c.args.first c.args.k c.requires.first c.if-first-k.false) c.in_ok-push-2.ensures.items
    c.in_ok-push_counts.ensures.made
    (c.len-start.ensures ∙ c.args.out.now.ok.0) (c.len-middle.ensures ∙ c.push-2.new.self.ok.0) forks)
