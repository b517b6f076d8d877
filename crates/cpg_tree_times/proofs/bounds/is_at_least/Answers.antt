-- Proof of `is_at_least`: whether each number of a tree is at least each number of another, by the other's greatest
-- number.
use Rattle.std.proofs.Common.{Bool, true, false, ◌≡◌, ◌∙◌, refl, ap, sym}
use Rattle.std.specs.Bool.{OnTrue}
use Rattle.cpg_tree_times.specs.Greater.{are_from}
use Rattle.cpg_tree_times.proofs.Scans.{at_least_is}
use Rattle.cpg_tree_times.proofs.bounds.is_at_least.Goals as goal

-- a fact that follows if a test is true, as a clause on the test's answer
on_true : {P : Type 0} (b : Bool) → (b ≡ true → P) → OnTrue b P
on_true true h = h refl
on_true false h = tt

-- each number of the one list is at least the greatest of the other
pub returns : goal.returns
returns g c = on_true c.are_from.result (λ h n m are others.
    at_least_is (g.R.Reading.number c.args.read.now)
    (g.S.Reading.number c.args.other_reading.now) c.args.own.now c.args.other.now n m are others
    (ap (λ k. are_from (g.R.Reading.number c.args.read.now) k c.args.own.now) (sym c.most_from.ensures)
    ∙ sym c.are_from.ensures ∙ h))
