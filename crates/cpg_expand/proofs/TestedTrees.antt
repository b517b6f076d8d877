-- Where a guard tests a condition.
use Rattle.std.proofs.Common.{ℕ, ◌≡◌, ◌==◌, ◌||◌, Bool, true, false, if◌then◌else◌, List, ◌∷◌, [], get_or, Contains}
use Rattle.std.proofs.Common.{eq-eqb, eqb-true, refl, sym, ap, subst}
use Rattle.std.specs.List.{list_any}
use Rattle.std.proofs.lemmas.Bool.{ne_eqb}
use Rattle.cpg_base.specs.declared.activation.Activation.{Activation}
use Rattle.cpg_base.proofs.Lists.{list_any_parts, list_any_true, Contains-nil}
use Rattle.cpg_order.specs.Guard.{Guard, Leaf, Test, way}
use Rattle.cpg_tree.specs.Tree.{TreeState, IsConstant}
use Rattle.cpg_expand.specs.Agreeing.{HasValueFrom}
use Rattle.cpg_expand.specs.Guarded.{IsTestedOn, PicksByValue, is_tested, values_known}
use Rattle.cpg_expand.proofs.AgreeingTrees.{agrees_constant, agrees_weaker}

-- a leaf tests no condition
pub tested_leaf : (k : ℕ) (a : Activation) (c : ℕ) (t : TreeState Bool) → IsConstant false k t →
    IsTestedOn k (Leaf a) c t
tested_leaf k a c t is s few = agrees_constant s false k t (λ y. y ≡ false) refl is

-- a guard whose first test is of the condition `wanted` tests it everywhere, so a tree t that is always true is right
pub tested_first : (k c : ℕ) (off on : Guard) (wanted : ℕ) (t : TreeState Bool) → c ≡ wanted → IsConstant true k t →
    IsTestedOn k (Test c off on) wanted t
tested_first k c off on wanted t same always s few =
    agrees_weaker s t [] (values_known s (way (Test c off on) s.values))
    (λ y. y ≡ is_tested (Test c off on) s.values wanted) (λ y. y ≡ is_tested (Test c off on) s.values wanted)
    (λ literal listed. absurd (Contains-nil literal listed)) (λ y equal. equal)
    (agrees_constant s true k t (λ y. y ≡ is_tested (Test c off on) s.values wanted) (sym found) always)
  where
    -- the condition is found on the way, as the first test
    found : list_any (λ d. d == wanted) (way (Test c off on) s.values) ≡ true
    found = ap (λ (b : Bool). b || list_any (λ d. d == wanted)
        (if get_or s.values c false then way on s.values else way off s.values)) (eq-eqb c wanted same)

-- a guard whose first test is of another condition, c, tests `wanted` where the side that c's value picks does: t picks
-- y, the tree of `on`, or f, that of `off`
pub tested_further : (k c : ℕ) (off on : Guard) (wanted : ℕ) (f y t : TreeState Bool) → (c ≡ wanted → ⊥) →
    IsTestedOn k off wanted f → IsTestedOn k on wanted y →
    PicksByValue k c y f t →
    IsTestedOn k (Test c off on) wanted t
tested_further k c off on wanted f y t other of_off of_on picks s few = go (get_or s.values c false) refl
  where
    -- by the value of the first condition: the side that is picked says whether the wanted one is tested
    go : (d : Bool) → get_or s.values c false ≡ d →
        HasValueFrom s (values_known s (c ∷ (if d then way on s.values else way off s.values)))
        (list_any (λ e. e == wanted) (c ∷ (if d then way on s.values else way off s.values))) t
    go true c_true = subst (λ (b : Bool). HasValueFrom s (values_known s (c ∷ way on s.values))
        (b || list_any (λ e. e == wanted) (way on s.values)) t) (sym (ne_eqb c wanted other))
        (picks s few (values_known s (way on s.values)) (is_tested on s.values wanted)
        (subst (λ (d : Bool). HasValueFrom s (values_known s (way on s.values)) (is_tested on s.values wanted)
        (if d then y else f)) (sym c_true) (of_on s few)))
    go false c_false = subst (λ (b : Bool). HasValueFrom s (values_known s (c ∷ way off s.values))
        (b || list_any (λ e. e == wanted) (way off s.values)) t) (sym (ne_eqb c wanted other))
        (picks s few (values_known s (way off s.values)) (is_tested off s.values wanted)
        (subst (λ (d : Bool). HasValueFrom s (values_known s (way off s.values)) (is_tested off s.values wanted)
        (if d then y else f)) (sym c_false) (of_off s few)))

-- ---- what is tested is on the way

-- a condition that the guard tests in an outcome is on its way there
pub tested_parts : (guard : Guard) (o : List Bool) (c : ℕ) → is_tested guard o c ≡ true → Contains (way guard o) c
tested_parts guard o c is =
    let found = list_any_parts (λ d. d == c) (way guard o) is in
    subst (Contains (way guard o)) (eqb-true found.0 c found.2) found.1

-- a condition on the guard's way in an outcome is one that it tests there
pub tested_from : (guard : Guard) (o : List Bool) (c : ℕ) → Contains (way guard o) c → is_tested guard o c ≡ true
tested_from guard o c there = list_any_true (λ d. d == c) (way guard o) c there (eq-eqb c c refl)
