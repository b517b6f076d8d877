-- If edges lead from lower to higher ranks, looking back along as many edges as there are processes is far enough.
use Rattle.std.proofs.Common.{◌≡◌, ℕ, zero, suc, ◌+◌, ◌<◌, ◌≤◌, Bool, true, false, cond, ◌&&◌, nat_lt, List, [], ◌∷◌}
use Rattle.std.proofs.Common.{length, filter, Contains, refl, sym, ap, ◌∙◌, subst, arith, ⊎_elim, lt-ltb}
use Rattle.std.proofs.Common.{le-ltb}
use Rattle.std.proofs.lemmas.Bool.{cases_lt, true≢false}
use Rattle.std.proofs.lemmas.List.FromFn.{length-range_with_len}
use Rattle.cpg_base.specs.Numbers.{numbers_below}
use Rattle.cpg_base.specs.Graph.{Graph, process_count, edge_count, process_at, edge_at, source, target, inputs}
use Rattle.cpg_base.specs.Activity.{is_active, takes, value_of, activation_within}
use Rattle.cpg_base.proofs.Lists.{Contains-nil, Contains-cases, Contains-numbers}
use Rattle.cpg_base.proofs.Inputs.{inputs_parts, same_activation_by}
use Rattle.cpg_base.proofs.Sums.{length-filter-le}

-- if q passes wherever p does, and also at some element at which p fails, a filter by q keeps more
filter_fewer : (p q : ℕ → Bool) (xs : List ℕ) (x : ℕ) → ((y : ℕ) → p y ≡ true → q y ≡ true) → Contains xs x →
    p x ≡ false → q x ≡ true →
    length (filter p xs) < length (filter q xs)
filter_fewer p q [] x more within off on = absurd (Contains-nil x within)
filter_fewer p q (y ∷ ys) x more within off on = ⊎_elim
    -- the element that only the second filter keeps is the first one, or one of the rest
    (λ (is : y ≡ x). here (p y) (q y) (ap p is ∙ off) (ap q is ∙ on) (length-filter-le p q ys more))
    (λ (further : Contains ys x). there (p y) (q y) (more y) (filter_fewer p q ys x more further off on))
    (Contains-cases y ys x within)
  where
    -- at the element itself: only the second filter keeps it
    here : (a b : Bool) → a ≡ false → b ≡ true → length (filter p ys) ≤ length (filter q ys) →
        length (cond a (y ∷ filter p ys) (filter p ys)) < length (cond b (y ∷ filter q ys) (filter q ys))
    here false true fails passes no_more = omega (arith, no_more)
    here true b fails passes no_more = cc
    here false false fails passes no_more = cc

    -- with one more element still fewer pass p than q, if each that passes p passes q
    there : (a b : Bool) → (a ≡ true → b ≡ true) → length (filter p ys) < length (filter q ys) →
        length (cond a (y ∷ filter p ys) (filter p ys)) < length (cond b (y ∷ filter q ys) (filter q ys))
    there true true implied fewer = omega (arith, fewer)
    there false true implied fewer = omega (arith, fewer)
    there false false implied fewer = fewer
    there true false implied fewer = absurd (true≢false (sym (implied refl)))

-- if the test for it passes, the first number is less
lower : (a b : ℕ) → nat_lt a b ≡ true → a < b
lower a b passes =
    ⊎_elim (λ (given : a < b). given)
    (λ (given : b ≤ a). absurd (true≢false (sym passes ∙ le-ltb a b given))) (cases_lt a b)

-- given: a height for each number below `size`
module _ (size : ℕ) (height : ℕ → ℕ) where
  -- the rank of a number: how many numbers have a lesser height
  abbrev pub rank : ℕ → ℕ
  rank q = length (filter (λ j. nat_lt (height j) (height q)) (numbers_below size))

  -- a greater height gives a greater rank
  pub rank_grows : (a b : ℕ) → a < size → height a < height b → rank a < rank b
  rank_grows a b inside higher =
      filter_fewer (λ j. nat_lt (height j) (height a)) (λ j. nat_lt (height j) (height b)) (numbers_below size) a
      (λ j passes. lt-ltb (height j) (height b) (omega (arith, lower (height j) (height a) passes, higher)))
      (Contains-numbers size a inside) (le-ltb (height a) (height a) (omega arith))
      (lt-ltb (height a) (height b) higher)

  -- a filter that passes all keeps all
  all_kept : (xs : List ℕ) → length (filter (λ (j : ℕ). true) xs) ≡ length xs
  all_kept [] = refl
  all_kept (x ∷ xs) = ap suc (all_kept xs)

  -- a rank is below the number of all
  pub rank_below : (q : ℕ) → q < size → rank q < size
  rank_below q inside =
      let fewer = filter_fewer (λ j. nat_lt (height j) (height q)) (λ j. true) (numbers_below size) q (λ j passes. refl)
      (Contains-numbers size q inside) (le-ltb (height q) (height q) (omega arith)) refl in
      omega (arith, fewer, all_kept (numbers_below size), length-range_with_len 0 size)

-- given: a height for each process, which grows along each edge
-- `sources`: each edge has a process of the graph as its source; `up`: its target is higher than its source
module _ (g : Graph) (values : List Bool) (height : ℕ → ℕ)
    (sources : (e : ℕ) → e < edge_count g → source g e < process_count g)
    (up : (e : ℕ) → e < edge_count g → height (source g e) < height (target g e)) where
  -- looking back along one edge more than the rank of a process changes nothing
  more_depth : (depth q : ℕ) → rank (process_count g) height q < depth →
      activation_within depth g values q ≡ activation_within (suc depth) g values q
  -- by induction on `depth`
  more_depth zero q deep = absurd (omega (arith, deep))
  more_depth (suc d) q deep = same_activation_by (process_at g q).join (inputs g q) _ _
      (λ e is_input.
      let (inside, is) = inputs_parts g q e is_input in
      let grows : rank (process_count g) height (source g e) < rank (process_count g) height q =
      rank_grows (process_count g) height (source g e) q (sources e inside)
      (subst (λ t. height (source g e) < height t) is (up e inside)) in
      ap (λ a. is_active a && takes (edge_at g e).when (value_of g values (source g e)))
      (more_depth d (source g e) (omega (arith, grows, deep))))

  -- looking back further than as many edges as there are processes changes no activation
  pub enough_depth : (more q : ℕ) → q < process_count g →
      activation_within (more + process_count g) g values q ≡ activation_within (process_count g) g values q
  -- by induction on `more`
  enough_depth zero q inside =
      ap (λ n. activation_within n g values q) (let is : 0 + process_count g ≡ process_count g = omega arith in is)
  enough_depth (suc more) q inside =
      ap (λ n. activation_within n g values q) (let is : suc more + process_count g ≡ suc (more + process_count g) =
      omega arith in is)
      ∙ sym (more_depth (more + process_count g) q (omega (arith, rank_below (process_count g) height q inside)))
      ∙ enough_depth more q inside
