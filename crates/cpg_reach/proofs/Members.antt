-- A set of variables as a list of marks: its members, a mark that is set, and the union of two sets.
use Rattle.std.proofs.Common.{ℕ, ◌+◌, ◌<◌, ◌≤◌, ◌≡◌, ◌⊎◌, ◌==◌, Bool, true, false, ◌||◌, List, [], ◌∷◌, length, get_or}
use Rattle.std.proofs.Common.{set, refl, sym, ap, ap₂, ◌∙◌, ⊎_elim, inl, inr, arith}
use Rattle.std.proofs.lemmas.Bool.{cases_lt, both_ways}
use Rattle.std.proofs.lemmas.Bool.Decides.{eqb_tells}
use Rattle.std.proofs.lemmas.List.{get_or-set_same, get_or-set_other, get_or_past}
use Rattle.cpg_base.specs.Numbers.{numbers_below}
use Rattle.cpg_base.proofs.Lists.{Contains-filter, Contains-filter_parts, Contains-numbers, same_truth}
use Rattle.cpg_order.specs.Reach.{is_in}
use Rattle.cpg_order.proofs.Along.{is_in_from, from_is_in}
use Rattle.cpg_reach.specs.Variables.{members, Adds}

-- a number that is marked is within the list
marked_within : (marks : List Bool) (v : ℕ) → get_or marks v false ≡ true → v < length marks
marked_within marks v holds = ⊎_elim
    (λ (l : v < length marks). l)
    (λ (l : length marks ≤ v). absurd (both_ways _ (get_or_past marks v false l) holds))
    (cases_lt v (length marks))

-- a number is among the members exactly if it is marked
pub is_in_members : (marks : List Bool) (v : ℕ) → is_in (members marks) v ≡ get_or marks v false
is_in_members marks v = same_truth (is_in (members marks) v) (get_or marks v false)
    (λ holds. (Contains-filter_parts (λ u. get_or marks u false) (numbers_below (length marks)) v
    (from_is_in (members marks) v holds)).1)
    (λ holds. is_in_from (members marks) v
    (Contains-filter (λ u. get_or marks u false) (numbers_below (length marks)) v holds
    (Contains-numbers (length marks) v (marked_within marks v holds))))

-- two false parts add nothing to a disjunction
or_of_false : (a : Bool) → a ≡ (a || (false || false))
or_of_false true = refl
or_of_false false = refl

-- a true part makes a disjunction true
or_of_true : (a : Bool) → true ≡ (a || (true || false))
or_of_true true = refl
or_of_true false = refl

-- setting the mark of v changes no other mark
set_marks : (marks : List Bool) (v u : ℕ) → v < length marks →
    get_or (set marks v true) u false ≡ (get_or marks u false || ((v == u) || false))
set_marks marks v u within = elim (eqb_tells v u) [
  | inl same ↦ ap (λ w. get_or (set marks v true) w false) (sym same.1) ∙ get_or-set_same marks v true false within
      ∙ or_of_true (get_or marks u false) ∙ ap (λ b. get_or marks u false || (b || false)) (sym same.0)
  | inr other ↦ get_or-set_other marks v u true false (λ e. other.1 (sym e))
      ∙ or_of_false (get_or marks u false) ∙ ap (λ b. get_or marks u false || (b || false)) (sym other.0)
]

-- setting the mark of v adds v to the set
pub set_adds : (marks : List Bool) (v : ℕ) → v < length marks →
    Adds (members marks) (v ∷ []) (members (set marks v true))
set_adds marks v within u = is_in_members (set marks v true) u ∙ set_marks marks v u within
    ∙ ap (λ b. b || ((v == u) || false)) (sym (is_in_members marks u))

-- if each mark is set just where one of two lists has it, the others' members are added to the old ones
pub unite_adds : (old others new : List Bool) →
    ((v : ℕ) → get_or new v false ≡ (get_or old v false || get_or others v false)) →
    Adds (members old) (members others) (members new)
unite_adds old others new h v =
    is_in_members new v ∙ h v ∙ ap₂ ◌||◌ (sym (is_in_members old v)) (sym (is_in_members others v))

-- ---- the loop that unites

-- the union is made for the variables below v
pub record United (old others marks : List Bool) (v : ℕ) : Type 0 where
  -- below v a mark is set if either list has it
  pub done : (u : ℕ) → u < v → get_or marks u false ≡ (get_or old u false || get_or others u false)
  -- from v on the marks are the old ones
  pub left : (u : ℕ) → v ≤ u → get_or marks u false ≡ get_or old u false

-- before the first variable all marks are the old ones
pub united_first : (old others : List Bool) → United old others old 0
united_first old others = record { done = λ u l. absurd (omega arith); left = λ u l. refl }

-- what is below the next number is below this one, or is it
below_next : (v u : ℕ) → u < v + 1 → (u < v) ⊎ (u ≡ v)
below_next v u less = ⊎_elim (λ (k : u < v). inl k) (λ (k : v ≤ u). inr (omega arith)) (cases_lt u v)

-- if the mark of v is set where either list has it, the union is made for one variable more
pub united_next : (old others marks : List Bool) (v : ℕ) (mark : Bool) → v < length marks →
    mark ≡ (get_or marks v false || get_or others v false) →
    United old others marks v → United old others (set marks v mark) (v + 1)
-- the marks below v stay, the one at v is new, and those above are still the old ones
united_next old others marks v mark within is nothing = record {
  done = λ u less. ⊎_elim
      (λ (m : u < v). get_or-set_other marks v u mark false (λ e. omega arith) ∙ nothing.done u m)
      (λ (e : u ≡ v). ap (λ w. get_or (set marks v mark) w false) e ∙ get_or-set_same marks v mark false within ∙ is
      ∙ ap (λ b. b || get_or others v false) (nothing.left v (omega arith))
      ∙ ap (λ w. get_or old w false || get_or others w false) (sym e))
      (below_next v u less);
  left = λ u k. get_or-set_other marks v u mark false (λ e. omega arith) ∙ nothing.left u (omega arith);
}

-- a false second part adds nothing
or_nothing : (a b : Bool) → b ≡ false → (a || b) ≡ a
or_nothing true b fails = refl
or_nothing false b fails = fails

-- past the end of the others the union is made for all variables
pub united_all : (old others marks : List Bool) (v : ℕ) → length others ≤ v → United old others marks v → (u : ℕ) →
    get_or marks u false ≡ (get_or old u false || get_or others u false)
united_all old others marks v at_most nothing u = ⊎_elim
    (λ (k : u < v). nothing.done u k)
    (λ (k : v ≤ u). nothing.left u k
    ∙ sym (or_nothing (get_or old u false) (get_or others u false) (get_or_past others u false (omega arith))))
    (cases_lt u v)
