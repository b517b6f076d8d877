-- Items that are too wide: the load of all items so far, and views that depend on what is in a set alone.
use Rattle.std.proofs.Common.{ℕ, ◌+◌, ◌*◌, ◌<◌, ◌≤◌, ◌≡◌, min, true, false, ◌&&◌, ◌||◌, List, [], ◌∷◌, get_or, sum_by}
use Rattle.std.proofs.Common.{refl, sym, ap, ap₂, ◌∙◌, ⊎_elim, arith}
use Rattle.std.specs.Prelude.{nat_lt}
use Rattle.std.proofs.lemmas.Bool.{cases_lt, both_ways}
use Rattle.std.proofs.lemmas.List.Sums.{sum_by-append, sum_by-cons}
use Rattle.cpg_base.specs.declared.limits.TheConstants.{MOST_LOAD}
use Rattle.cpg_base.specs.Numbers.{numbers_below}
use Rattle.cpg_base.specs.Graph.{Graph, item_count, item_at}
use Rattle.cpg_base.proofs.Lists.{below_push}
use Rattle.cpg_order.specs.Urgency.{IsTopological}
use Rattle.cpg_order.specs.Reach.{Reach, IsReach, reach_of, is_in, views, rows_of_item, load, is_too_wide, most_views}
use Rattle.cpg_order.specs.Reach.{most_loads}
use Rattle.cpg_order.proofs.ViewsGrow.{views_grow}
use Rattle.cpg_order.proofs.ReachExists.{some_reach}
use Rattle.cpg_order.proofs.TrackLists.{tracks_exist, count_of_tracks}
use Rattle.cpg_order.proofs.TrackViews.{views_fit}
use Rattle.cpg_rules.specs.Guards.{Guards}
use Rattle.cpg_rules.specs.Admission.{IsAdmitted}
use Rattle.cpg_order.specs.Elements.{SameElements}
use Rattle.cpg_reach.specs.Walked.{AreReaches}
use Rattle.cpg_reach.specs.Wide.{HasViews, IsLeastWide, IsNarrow, is_wide_by, HasLoads}
use Rattle.cpg_reach.proofs.Adding.{set_at}

-- two sets with the same variables have the same views
pub same_views : (g : Graph) (xs ys : List ℕ) → SameElements xs ys → views g xs ≡ views g ys
same_views g xs ys same =
    let grows = views_grow g xs ys (λ v t. sym (same v) ∙ t) in
    let shrinks = views_grow g ys xs (λ v t. same v ∙ t) in
    omega arith

-- the views of a set in an admitted graph fit into 64 bits
pub views_whole : (g : Graph) (order : List ℕ) (guards : Guards) → IsAdmitted g order guards → (reached : List ℕ) →
    min 18446744073709551615 (views g reached) ≡ views g reached
views_whole g order guards admitted reached =
    let tracks = tracks_exist g in
    let count = count_of_tracks g tracks.0 tracks.1 in
    let few = admitted.tracks in
    let fit = views_fit g admitted.limits.few_processes admitted.limits.faults reached tracks.0
    tracks.1 (omega arith) in
    omega arith

-- the number n that is counted from the set `xs`, x's entry in the reaches that were found (`rs`), is the number of x's
-- views
pub has_views : (g : Graph) (order : List ℕ) (top : IsTopological g order) (guards : Guards) (urgency : List ℕ) →
    IsAdmitted g urgency guards → (rs : Reach) →
    AreReaches g order rs →
    (x n : ℕ) (xs : List ℕ) → x < item_count g → xs ≡ get_or rs x xs
    → n ≡ min 18446744073709551615 (views g xs) → HasViews g order x n
has_views g order top guards urgency admitted rs are x n xs within at is = record {
  some = some_reach g order top;
  each = λ r reached. is ∙ views_whole g urgency guards admitted xs ∙ same_views g xs (reach_of r x)
      (λ v. ap (λ ys. is_in ys v) (set_at rs x xs (let counted = are.count in omega arith) at)
      ∙ are.each r reached x within v);
}

-- ---- the loads so far

-- `loads` is the load of all items before x, and none of these is too wide
pub record AreLoads (g : Graph) (order : List ℕ) (x loads : ℕ) : Type 0 where
  -- it is within the limit
  pub few : loads ≤ MOST_LOAD
  -- by any reach of the order it is the sum of their loads
  pub sum : (r : Reach) → IsReach g order r → loads ≡ sum_by (load g r) (numbers_below x)
  -- by any reach of the order none of them is too wide
  pub narrow : (r : Reach) → IsReach g order r → (y : ℕ) → y < x → is_too_wide g r y ≡ false

-- before any item the loads are 0
pub loads_first : (g : Graph) (order : List ℕ) → AreLoads g order 0 0
loads_first g order = record { few = omega arith; sum = λ r is. refl; narrow = λ r is y l. absurd (omega arith) }

-- a sum over the numbers up to x is that over those below x, and f x
sum_next : (f : ℕ → ℕ) (x : ℕ) → sum_by f (numbers_below (x + 1)) ≡ sum_by f (numbers_below x) + f x
sum_next f x = ap (sum_by f) (below_push x) ∙ sum_by-append f (numbers_below x) (x ∷ [])
    ∙ (let split = sum_by-cons f x [] in omega arith)

-- given: the load of the items before x (`loads`), none of which is too wide, and the set `xs` that is x's entry in the
-- reaches that were found (`rs`)
module _ (g : Graph) (order : List ℕ) (top : IsTopological g order) (rs : Reach) (are : AreReaches g order rs)
    (x loads : ℕ) (so_far : AreLoads g order x loads) (within : x < item_count g)
    (xs : List ℕ) (at : xs ≡ get_or rs x xs) where
  -- the views by the set are those of the item's reach
  views_are : (r : Reach) → IsReach g order r → views g xs ≡ views g (reach_of r x)
  views_are r is = same_views g xs (reach_of r x)
      (λ v. ap (λ ys. is_in ys v) (set_at rs x xs (let counted = are.count in omega arith) at)
      ∙ are.each r is x within v)

  -- what is tested by the set says whether the item is too wide
  wide_is : (r : Reach) → IsReach g order r → is_wide_by g xs x loads ≡ is_too_wide g r x
  wide_is r is = ap₂ (λ n s. nat_lt 0 (rows_of_item g (item_at g x)) && (nat_lt most_views n || nat_lt most_loads s))
      (views_are r is)
      (ap₂ ◌+◌ (so_far.sum r is) (ap (λ n. n * rows_of_item g (item_at g x)) (views_are r is))
      ∙ sym (sum_next (load g r) x))

  -- if the item isn't too wide, the sum with its load is that of one item more
  pub loads_next : (sum : ℕ) → HasLoads g xs x loads sum → AreLoads g order (x + 1) sum
  loads_next sum h = record {
    few = h.few;
    sum = λ r is. h.sum ∙ ap₂ ◌+◌ (so_far.sum r is) (ap (λ n. n * rows_of_item g (item_at g x)) (views_are r is))
        ∙ sym (sum_next (load g r) x);
    narrow = λ r is y l. ⊎_elim
        (λ (earlier : y < x). so_far.narrow r is y earlier)
        (λ (last : x ≤ y). ap (is_too_wide g r) (let same : y ≡ x = omega arith in same)
        ∙ sym (wide_is r is) ∙ h.narrow)
        (cases_lt y x);
  }

  -- if it is too wide, it is the first that is
  pub least_wide : is_wide_by g xs x loads ≡ true → IsLeastWide g order x
  least_wide holds = record {
    wide = let some = some_reach g order top in
        record { reach = some.0; reached = some.1; within = within; wide = sym (wide_is some.0 some.1) ∙ holds };
    least = λ y l w. both_ways _ (so_far.narrow w.reach w.reached y l) w.wide;
  }

-- if no item is left, no item is too wide
pub none_wide : (g : Graph) (order : List ℕ) (x loads : ℕ) → item_count g ≤ x → AreLoads g order x loads →
    IsNarrow g order
none_wide g order x loads at_most h =
    λ y w. both_ways _ (h.narrow w.reach w.reached y (let within = w.within in omega arith)) w.wide
