-- An end or a frame that tells the number of a bound's variable tells the bound exactly if the number is within it.
use Rattle.std.proofs.Common.{ℕ, ◌-◌, ◌<◌, ◌≤◌, ◌≡◌, ◌==◌, Bool, false, ◌&&◌, ◌||◌, ◌⊎◌, ◌∷◌, Option, Some, None, arith}
use Rattle.std.proofs.Common.{refl, sym, ap, ◌∙◌, inl, inr, subst, eqb-true, eq-eqb, le-leb, lt-ltb, le-ltb}
use Rattle.std.specs.Prelude.{nat_le, nat_lt}
use Rattle.std.specs.List.{list_any}
use Rattle.std.proofs.Math.Bool.{or-false}
use Rattle.std.proofs.lemmas.Bool.{cases_lt, ne_eqb, lt-leb, cond-true, cond-false}
use Rattle.cpg_base.specs.Graph.{Graph, IsVariable, process_count, condition_count, condition_of, process_of}
use Rattle.cpg_base.specs.Graph.{process_of_variable, value_variable}
use Rattle.cpg_base.proofs.Items.{process_of_below}
use Rattle.cpg_base.proofs.ConditionProcesses.{condition_of_process_of}
use Rattle.cpg_base.specs.Scenario.{Scenario, IsScenario, number_of}
use Rattle.cpg_cube.specs.Cube.{holds}
use Rattle.cpg_base.specs.Variable.{top}
use Rattle.cpg_cube.proofs.Boxes.{number_within, top_of_count}
use Rattle.cpg_table.specs.Heard.{exactly, value_fact}
use Rattle.cpg_violation.proofs.Tests.{same_where, with_true}
use Rattle.cpg_check_heard.specs.declared.bound.LiteralBound.{LiteralBound}
use Rattle.cpg_check_heard.specs.declared.bound.LiteralBound.TheVariants.{Low, High}
use Rattle.cpg_check_heard.specs.Bounds.{tells, range_of, variable_of}
use Rattle.cpg_check_heard.specs.TellingRows.{is_value}

-- whether number `n` is within a bound
abbrev pub side : LiteralBound → ℕ → Bool
side (Low v least) n = nat_le least n
side (High v most) n = nat_le n most

-- the exact number of variable `w` tells a bound exactly if `w` is the bound's variable and the number is within the
-- bound
pub tells_exactly : (b : LiteralBound) (w n : ℕ) → tells b (exactly w n) ≡ ((w == variable_of b) && side b n)
tells_exactly (Low v least) w n = refl
tells_exactly (High v most) w n = refl

-- a variable `v` of a fault count isn't that of a condition's value, `o`
is_value_off : (o : Option ℕ) (v : ℕ) → v < 128 → is_value o v ≡ false
is_value_off None v less = refl
is_value_off (Some c) v less = ne_eqb (value_variable c) v (λ e. omega (arith, e, less))

-- `n` is in the range from 0 to `c - 1` exactly if it is less than `c`
pub come_holds : (n c : ℕ) → 0 < c → (nat_le 0 n && nat_le n (c - 1)) ≡ nat_lt n c
come_holds n c less = elim (cases_lt n c) [
  | inl l ↦ ap (λ b. b && nat_le n (c - 1)) (le-leb 0 n (omega arith)) ∙ le-leb n (c - 1) (omega arith)
      ∙ sym (lt-ltb n c l)
  | inr l ↦ ap (λ b. b && nat_le n (c - 1)) (le-leb 0 n (omega arith)) ∙ lt-leb n (c - 1) (omega arith)
      ∙ sym (le-ltb n c l)
]

-- the value of a condition, if there is one (`o`), tells bound `b` exactly if it is that of the bound's variable and
-- the variable's number is within the bound
pub value_side : (s : Scenario) (b : LiteralBound) (o : Option ℕ) →
    list_any (tells b) (value_fact s o) ≡ (is_value o (variable_of b) && side b (number_of s (variable_of b)))
value_side s b None = refl
value_side s b (Some c) = or-false (tells b (exactly (value_variable c) (number_of s (value_variable c))))
    ∙ tells_exactly b (value_variable c) (number_of s (value_variable c))
    ∙ same_where (value_variable c == variable_of b) (side b (number_of s (value_variable c)))
    (side b (number_of s (variable_of b)))
    (λ e. ap (λ v. side b (number_of s v)) (eqb-true (value_variable c) (variable_of b) e))

-- a variable `v` of the graph is that of a fault count or that of a value
variable_parts : (g : Graph) (v : ℕ) → process_count g ≤ 128 → IsVariable g v →
    (v < process_count g) ⊎ ((128 ≤ v) × (v - 128 < condition_count g))
variable_parts g v few (inl l) = inl l
variable_parts g v few (inr r) = inr (r.0, omega (arith, r.0, r.1))

-- the process of variable `v` is one of the graph's
pub variable_within : (g : Graph) (v : ℕ) → process_count g ≤ 128 → IsVariable g v →
    process_of_variable g v < process_count g
variable_within g v few known =
    elim (variable_parts g v few known) as (λ _. process_of_variable g v < process_count g) [
      | inl l ↦ subst (λ p. p < process_count g) (sym (cond-true _ _ _ (lt-ltb v 128 (omega arith)))) l
      | inr m ↦
          subst (λ p. p < process_count g) (sym (cond-false _ _ _ (le-ltb v 128 m.0)))
          (process_of_below g (v - 128) m.1)
    ]

-- a scenario of a graph
module _ (g : Graph) (few : process_count g ≤ 128) (s : Scenario) (lawful : IsScenario g s) where
  -- the range of a bound holds exactly if the variable's number is within the bound
  pub range_holds : (b : LiteralBound) → IsVariable g (variable_of b) →
      holds s (range_of g.faults b) ≡ side b (number_of s (variable_of b))
  range_holds (Low v least) known =
      sym (with_true (nat_le least (number_of s v)) (nat_le (number_of s v) (top g.faults v))
      (le-leb (number_of s v) (top g.faults v) (number_within g few s lawful v known)))
  range_holds (High v most) known = ap (λ b. b && nat_le (number_of s v) most) (le-leb 0 (number_of s v) (omega arith))

  -- the fault count of a process is at most the faults of the graph
  pub count_within : (p : ℕ) → p < process_count g → number_of s p ≤ g.faults
  count_within p below = let at_most = number_within g few s lawful p (inl below) in
      let top_is = top_of_count g.faults p (omega arith) in
      omega (arith, at_most, top_is)

  -- the count and the value of process `p` tell bound `b` of one of its variables exactly if the variable's number is
  -- within the bound; by cases of whether the bound is of the count or of the value
  pub end_side : (b : LiteralBound) (p : ℕ) → IsVariable g (variable_of b) → p < process_count g →
      process_of_variable g (variable_of b) ≡ p
      → list_any (tells b) (exactly p (number_of s p) ∷ value_fact s (condition_of g p))
      ≡ side b (number_of s (variable_of b))
  end_side b p known within is =
      ap (λ t. t || list_any (tells b) (value_fact s (condition_of g p))) (tells_exactly b p (number_of s p))
      ∙ ap (λ t. ((p == variable_of b) && side b (number_of s p)) || t) (value_side s b (condition_of g p))
      ∙ elim (variable_parts g (variable_of b) few known) as
      (λ _. (((p == variable_of b) && side b (number_of s p))
      || (is_value (condition_of g p) (variable_of b) && side b (number_of s (variable_of b))))
      ≡ side b (number_of s (variable_of b))) [
        -- the bound is of the count, so the value doesn't tell it
        | inl of_count ↦
            let same : p ≡ variable_of b = sym is ∙ cond-true _ _ _ (lt-ltb (variable_of b) 128 (omega arith)) in
            ap (λ t. (t && side b (number_of s p)) || (is_value (condition_of g p) (variable_of b)
            && side b (number_of s (variable_of b)))) (eq-eqb p (variable_of b) same)
            ∙ ap (λ t. side b (number_of s p) || (t && side b (number_of s (variable_of b))))
            (is_value_off (condition_of g p) (variable_of b) (omega arith))
            ∙ or-false (side b (number_of s p)) ∙ ap (λ v. side b (number_of s v)) same
        -- the bound is of the value, so the count doesn't tell it
        | inr of_value ↦
            let condition : ℕ = variable_of b - 128 in
            let at : process_of g condition ≡ p = sym (cond-false _ _ _ (le-ltb (variable_of b) 128 of_value.0)) ∙ is in
            let has : condition_of g p ≡ Some condition = ap (condition_of g) (sym at)
            ∙ condition_of_process_of g condition of_value.1 in
            let here : value_variable condition ≡ variable_of b = omega (arith, of_value.0) in
            ap (λ t. (t && side b (number_of s p))
            || (is_value (condition_of g p) (variable_of b) && side b (number_of s (variable_of b))))
            (ne_eqb p (variable_of b) (λ same_variable. omega (arith, same_variable, of_value.0, within, few)))
            ∙ ap (λ o. is_value o (variable_of b) && side b (number_of s (variable_of b))) has
            ∙ ap (λ t. t && side b (number_of s (variable_of b)))
            (eq-eqb (value_variable condition) (variable_of b) here)
      ]
