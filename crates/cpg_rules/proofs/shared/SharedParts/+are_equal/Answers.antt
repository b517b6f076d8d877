-- Proof of `SharedParts::are_equal`: whether two parts have equal trees.
use Rattle.std.proofs.Common.{sym, ap, ◌∙◌}
use Rattle.cpg_rules.specs.Trees.{same_guard}
use Rattle.cpg_rules.specs.Sharing.{tree_at}
use Rattle.cpg_rules.proofs.Equal.{same_guard-refl}
use Rattle.cpg_rules.proofs.shared.SharedParts.+are_equal.Goals as goal

-- one part has one tree
pub returns-then-first-second : goal.returns-then-first-second
returns-then-first-second t c = sym (same_guard-refl (tree_at c.args.self.now.parts c.args.first))
    ∙ ap (λ n. same_guard (tree_at c.args.self.now.parts c.args.first) (tree_at c.args.self.now.parts n))
    c.if-first-second.true
