-- Trees that compare as equal are equal.
use Rattle.std.proofs.Common.{◌≡◌, true, ◌&&◌, ◌==◌, refl, ap, eq-eqb, eqb-true}
use Rattle.std.proofs.lemmas.Bool.{and_parts, and_from}
use Rattle.cpg_order.specs.Guard.{Guard, Leaf, Test}
use Rattle.cpg_order.proofs.Outcomes.{same_activation_is, same_activation_refl}
use Rattle.cpg_rules.specs.Trees.{same_guard}

-- Trees that pass the comparison are equal.
-- By induction on both trees.
pub same_guard-is : (s t : Guard) → same_guard s t ≡ true → s ≡ t
same_guard-is (Leaf a) (Leaf b) compared = ap Leaf (same_activation_is a b compared)
same_guard-is (Leaf a) (Test d low high) compared = cc
same_guard-is (Test c off on) (Leaf b) compared = cc
same_guard-is (Test c off on) (Test d low high) compared =
    let top_and_sides = and_parts (c == d) (same_guard off low && same_guard on high) compared in
    let sides = and_parts (same_guard off low) (same_guard on high) top_and_sides.1 in
    let same_condition = eqb-true c d top_and_sides.0 in
    let same_off = same_guard-is off low sides.0 in
    let same_on = same_guard-is on high sides.1 in
    λ i. Test (same_condition i) (same_off i) (same_on i)

-- each tree passes the comparison with itself
pub same_guard-refl : (t : Guard) → same_guard t t ≡ true
same_guard-refl (Leaf a) = same_activation_refl a
same_guard-refl (Test c off on) = and_from (c == c) (same_guard off off && same_guard on on) (eq-eqb c c refl)
    (and_from (same_guard off off) (same_guard on on) (same_guard-refl off) (same_guard-refl on))
