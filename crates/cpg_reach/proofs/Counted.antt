-- Counting views: how many numbers pass a test, the conditions along an order, and choosing the value of one condition
-- after another.
use Rattle.std.proofs.Common.{ℕ, suc, ◌+◌, ◌<◌, ◌≤◌, ◌≡◌, Bool, false, cond, List, [], ◌∷◌, ◌++◌, length, get_or, set}
use Rattle.std.proofs.Common.{take, sum_by, count_by, All, option_to_list, Option, Some, None, refl, sym, ap}
use Rattle.std.proofs.Common.{ap₂, ◌∙◌, subst, arith}
use Rattle.std.proofs.lemmas.List.{take_more, append-nil, set-set, set-get_or}
use Rattle.std.proofs.lemmas.List.Sums.{sum_by-append, sum_by-cons, count_by-le-length}
use Rattle.std.proofs.lemmas.List.FromFn.{length-range_with_len}
use Rattle.std.proofs.lemmas.Grind.{flat_map-append}
use Rattle.cpg_base.specs.Numbers.{numbers_below}
use Rattle.cpg_base.specs.Graph.{Graph, process_count, condition_count, condition_of}
use Rattle.cpg_base.proofs.Lists.{below_push}
use Rattle.cpg_base.specs.Scenario.{Scenario}
use Rattle.cpg_order.specs.Counting.{conditions_along, all_false, chosen, views_of_outcome}
use Rattle.std.proofs.lemmas.List.Elements.{Contains-get_or}
use Rattle.cpg_order.specs.Urgency.{IsTopological}
use Rattle.cpg_order.specs.Reach.{views}
use Rattle.cpg_order.proofs.Along.{from_along}
use Rattle.cpg_order.proofs.Chosen.{views_chosen}

-- ---- how many numbers below n pass a test

-- with n too, the count is one more if n passes the test
pub count_next : (p : ℕ → Bool) (n : ℕ) (b : Bool) → p n ≡ b →
    count_by p (numbers_below (n + 1)) ≡ count_by p (numbers_below n) + cond b 1 0
count_next p n b is = ap (count_by p) (below_push n) ∙ sum_by-append (λ x. cond (p x) 1 0) (numbers_below n) (n ∷ [])
    ∙ ap (λ m. count_by p (numbers_below n) + m) (sum_by-cons (λ x. cond (p x) 1 0) n [] ∙ ap (λ c. cond c 1 0 + 0) is
    ∙ (let plus_none : cond b 1 0 + 0 ≡ cond b 1 0 = omega arith in plus_none))

-- of the numbers below n no more than n pass
pub count-le : (p : ℕ → Bool) (n : ℕ) → count_by p (numbers_below n) ≤ n
count-le p n = let at_most = count_by-le-length p (numbers_below n) in
    let length_is = length-range_with_len 0 n in omega arith

-- ---- the conditions along an order

-- the conditions of one process more are those so far, and its own if it has one
pub along_next : (g : Graph) (order : List ℕ) (i : ℕ) → i < length order →
    conditions_along g (take (i + 1) order) ≡ conditions_along g (take i order) ++ option_to_list
    (condition_of g (get_or order i 0))
along_next g order i within = ap (conditions_along g) (take_more order i 0 within)
    ∙ flat_map-append (λ p. option_to_list (condition_of g p)) (take i order) (get_or order i 0 ∷ [])
    ∙ ap (λ xs. conditions_along g (take i order) ++ xs)
    (append-nil (option_to_list (condition_of g (get_or order i 0))))

-- if the i-th process of the order has condition c, and c is put behind the conditions `xs` of the first i, the list `ys`
-- has those of the first i + 1
pub along_takes : (g : Graph) (order : List ℕ) (i c : ℕ) (xs ys : List ℕ) → i < length order →
    xs ≡ conditions_along g (take i order) →
    condition_of g (get_or order i 0) ≡ Some c →
    ys ≡ xs ++ c ∷ [] → ys ≡ conditions_along g (take (i + 1) order)
along_takes g order i c xs ys within h e k = k ∙ ap (λ zs. zs ++ c ∷ []) h
    ∙ ap (λ o. conditions_along g (take i order) ++ option_to_list o) (sym e) ∙ sym (along_next g order i within)

-- if the next process has no condition, the list stays
pub along_skips : (g : Graph) (order : List ℕ) (i : ℕ) (xs : List ℕ) → i < length order →
    xs ≡ conditions_along g (take i order) →
    condition_of g (get_or order i 0) ≡ None →
    xs ≡ conditions_along g (take (i + 1) order)
along_skips g order i xs within h e = h ∙ sym (append-nil (conditions_along g (take i order)))
    ∙ ap (λ o. conditions_along g (take i order) ++ option_to_list o) (sym e) ∙ sym (along_next g order i within)

-- ---- choosing the conditions

-- `reached` is the set of variables whose views are counted
module _ (g : Graph) (reached : List ℕ) where
  -- how many views there are with the values set in o, if the conditions cs are still to be chosen
  abbrev pub views_with : List ℕ → List Bool → ℕ
  views_with cs o = sum_by (views_of_outcome g reached) (chosen g reached cs o)

-- a value that is set and set back leaves the outcome as it was
pub set_back : (o : List Bool) (c : ℕ) (a b : Bool) → b ≡ get_or o c false → set (set o c a) c b ≡ o
set_back o c a b is = set-set o c a b ∙ ap (set o c) is ∙ set-get_or o c false

-- a scenario whose value is set and set back is as it was
pub scenario_back : (s a b d e : Scenario) (c : ℕ) (on was : Bool) → a ≡ s →
    b ≡ record a { values = set a.values c on } → d ≡ b →
    was ≡ get_or a.values c false →
    e ≡ record d { values = set d.values c was } → e ≡ s
scenario_back s a b d e c on was first set_on stays old last = last
    ∙ ap (λ (x : Scenario). record x { values = set x.values c was }) (stays ∙ set_on)
    ∙ ap (λ (vs : List Bool). record a { values = vs }) (set_back a.values c on was old)
    ∙ first

-- ---- all conditions

-- the conditions along an order are those of the graph
pub along_within : (g : Graph) (order : List ℕ) (cs : List ℕ) → cs ≡ conditions_along g order →
    All (λ c. c < condition_count g) cs
along_within g order cs is = subst (All (λ c. c < condition_count g)) (sym is)
    (λ i d within. (from_along g order (get_or (conditions_along g order) i d)
    (Contains-get_or (conditions_along g order) i d within)).0)

-- choosing all conditions along an order from no value true counts all views
pub all_views : (g : Graph) (order : List ℕ) → IsTopological g order → process_count g ≤ 128 →
    (reached cs : List ℕ) (o : List Bool) → cs ≡ conditions_along g order →
    o ≡ all_false g →
    views_with g reached cs o ≡ views g reached
all_views g order top few reached cs o is none =
    ap₂ (views_with g reached) is none ∙ sym (views_chosen g order top reached few)

-- an option that has no number is `None`
pub none_if : (o : Option ℕ) → ((x : ℕ) → o ≡ Some x → ⊥) → o ≡ None
none_if None never = refl
none_if (Some x) never = absurd (never x refl)
