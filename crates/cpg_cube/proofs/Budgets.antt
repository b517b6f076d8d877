-- Demands that are taken from a budget one by one fit exactly if their sum does.
use Rattle.std.proofs.Common.{ℕ, ◌+◌, ◌-◌, ◌≤◌, ◌≡◌, Bool, true, false, cond, ◌&&◌, List, [], ◌∷◌, Option, Some, None}
use Rattle.std.proofs.Common.{sum_by, arith, refl, sym, ap, ◌∙◌, ⊎_elim, le-leb, leb-true}
use Rattle.std.specs.Prelude.{nat_le, is_some}
use Rattle.std.specs.List.{list_all}
use Rattle.std.proofs.lemmas.Bool.{cases_Bool, and_parts, and_from}
use Rattle.std.proofs.lemmas.List.Sums.{sum_by-cons}
use Rattle.cpg_base.proofs.Lists.{same_truth}
use Rattle.cpg_cube.specs.Cube.{Literal}
use Rattle.cpg_cube.specs.Bounds.{budget_left}

-- given: a test of literals, and how much each literal demands of the budget
module _ (test : Literal → Bool) (demand : Literal → ℕ) where
  -- a literal that passes and demands no more than is left takes its demand, and the others go on with the rest
  budget_first : (left : ℕ) (l : Literal) (ls : List Literal) → test l ≡ true → demand l ≤ left →
      budget_left test demand left (l ∷ ls) ≡ budget_left test demand (left - demand l) ls
  budget_first left l ls passes within = ap (λ b. cond b (budget_left test demand (left - demand l) ls) None)
      (and_from (test l) (nat_le (demand l) left) passes (le-leb (demand l) left within))

  -- a literal that fails, or demands more than is left, leaves no budget
  budget_stops : (left : ℕ) (l : Literal) (ls : List Literal) → (test l && nat_le (demand l) left) ≡ false →
      budget_left test demand left (l ∷ ls) ≡ None
  budget_stops left l ls stops = ap (λ b. cond b (budget_left test demand (left - demand l) ls) None) stops

  -- if all literals pass and their demands sum to no more than the budget, it is enough for them
  pub budget_fits : (left : ℕ) (ls : List Literal) → list_all test ls ≡ true → sum_by demand ls ≤ left →
      is_some (budget_left test demand left ls) ≡ true
  -- by induction on the literals
  budget_fits left [] pass within = refl
  budget_fits left (l ∷ ls) pass within =
      let parts = and_parts (test l) (list_all test ls) pass in
      let sum_is = sum_by-cons demand l ls in
      ap is_some (budget_first left l ls parts.0 (omega arith)) ∙ budget_fits (left - demand l) ls parts.1 (omega arith)

  -- if something is left of a budget, all literals pass, and what is left and the demands add up to the budget
  pub budget_some : (left rest : ℕ) (ls : List Literal) → budget_left test demand left ls ≡ Some rest →
      (list_all test ls ≡ true) × (rest + sum_by demand ls ≡ left)
  -- by induction on the literals
  budget_some left rest [] left_is = let same : left ≡ rest = cc in (refl, omega arith)
  budget_some left rest (l ∷ ls) left_is = ⊎_elim
      (λ (passes : (test l && nat_le (demand l) left) ≡ true).
      let parts = and_parts (test l) (nat_le (demand l) left) passes in
      let within = leb-true (demand l) left parts.1 in
      let more = budget_some (left - demand l) rest ls (sym (budget_first left l ls parts.0 within) ∙ left_is) in
      let sum_is = sum_by-cons demand l ls in
      let adds_up = more.1 in
      (and_from (test l) (list_all test ls) parts.0 more.0, omega arith))
      (λ (fails : (test l && nat_le (demand l) left) ≡ false).
      let wrong : None ≡ Some rest = sym (budget_stops left l ls fails) ∙ left_is in
      cc)
      (cases_Bool (test l && nat_le (demand l) left))

  -- if something is left, all literals pass, and together they demand no more than there was
  fitting : (left : ℕ) (ls : List Literal) (o : Option ℕ) → budget_left test demand left ls ≡ o → is_some o ≡ true →
      (list_all test ls ≡ true) × (sum_by demand ls ≤ left)
  fitting left ls None left_is enough = cc
  fitting left ls (Some rest) left_is enough = let parts = budget_some left rest ls left_is in let adds_up = parts.1 in
      (parts.0, omega arith)

  -- a budget is enough exactly if all literals pass and their demands sum to no more than it
  pub budget_is : (left : ℕ) (ls : List Literal) →
      is_some (budget_left test demand left ls) ≡ (list_all test ls && nat_le (sum_by demand ls) left)
  budget_is left ls =
      same_truth (is_some (budget_left test demand left ls)) (list_all test ls && nat_le (sum_by demand ls) left)
      (λ enough. let parts = fitting left ls (budget_left test demand left ls) refl enough in
      and_from _ _ parts.0 (le-leb _ _ parts.1))
      (λ tests. let parts = and_parts (list_all test ls) (nat_le (sum_by demand ls) left) tests in
      budget_fits left ls parts.0 (leb-true _ _ parts.1))
