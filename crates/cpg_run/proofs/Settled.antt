-- How frozen times are found one after another along an order.
use Rattle.std.proofs.Common.{◌≡◌, ◌≢◌, ◌∙◌, ℕ, ◌+◌, ◌<◌, ◌≤◌, true, List, length, get_or, Contains, Option, None}
use Rattle.std.proofs.Common.{arith, sym, ap, subst, inl, inr}
use Rattle.std.proofs.lemmas.Bool.{cases_eq, cases_lt, both_ways}
use Rattle.std.proofs.lemmas.List.{get_or-replicate, length-replicate, get_or_past, get_or_default}
use Rattle.std.proofs.lemmas.List.Elements.{Contains-get_or}
use Rattle.std.proofs.lemmas.Option.{none-some}
use Rattle.cpg_base.specs.Graph.{Graph, item_count, is_frozen}
use Rattle.cpg_base.specs.Limits.{IsWithinLimits}
use Rattle.cpg_order.specs.Urgency.{IsTopological}
use Rattle.cpg_order.proofs.Moments.{moment}
use Rattle.cpg_run.specs.Frozen.{WouldHave, IsFrozenTime, AreFrozenTimes, nothing_frozen}
use Rattle.cpg_run.proofs.RunUnique.{agree_before, unfrozen_same}
use Rattle.cpg_run.proofs.RunExists.{the_run, run_exists}
use Rattle.cpg_run.specs.Known.{AreEarly}
use Rattle.cpg_run.specs.FrozenItems.{frozen_along}
use Rattle.cpg_run.specs.Latest.{IsUnfrozenTime}
use Rattle.cpg_run.proofs.EarlyTimes.{early_from_low}
use Rattle.cpg_run.proofs.Rising.{bound, AreLow, unfrozen_low}
use Rattle.cpg_run.proofs.FrozenOrder.{later_moment, frozen_listed, lists_frozen}

-- with nothing frozen, no item has a frozen time
pub none_frozen : (g : Graph) (x : ℕ) → get_or (nothing_frozen g) x None ≡ None
none_frozen g x = elim (cases_lt x (item_count g)) [
  | inl less ↦ get_or-replicate (item_count g) x None None less
  | inr at_least ↦ get_or_past (nothing_frozen g) x None
      (omega (arith, length-replicate {A = Option ℕ} (item_count g) None))
]

-- the first n of the frozen items along an order have their times, and no other item has one
pub record AreSettled (g : Graph) (order items : List ℕ) (n : ℕ) (frozen : List (Option ℕ)) : Type 0 where
  -- the items are the frozen ones along the order
  pub all : items ≡ frozen_along g order
  -- the list has a place for each item of the graph
  pub count : length frozen ≡ item_count g
  -- each of the first n has its frozen time
  pub each : (i : ℕ) → i < n → IsFrozenTime g order frozen (get_or items i 0)
  -- no other item has one
  pub others : (x : ℕ) → ((i : ℕ) → i < n → get_or items i 0 ≢ x) → get_or frozen x None ≡ None
  -- no frozen time is so late that sums of times overflow
  pub low : AreLow 0 g order frozen

module _ (g : Graph) (order : List ℕ) (topological : IsTopological g order) where
  -- two lists have the same frozen times of all items with an earlier moment than x
  abbrev pub SameBefore : List (Option ℕ) → List (Option ℕ) → ℕ → Type 0
  SameBefore frozen others x =
      (y : ℕ) → y < item_count g → moment g order y < moment g order x → get_or frozen y None ≡ get_or others y None

  -- so a time that x would have under the one list it would have under the other: the runs of a scenario under both agree before
  -- the moment of x
  would_have_same : (frozen others : List (Option ℕ)) (x time : ℕ) → x < item_count g → SameBefore frozen others x →
      WouldHave g order frozen x time →
      WouldHave g order others x time
  would_have_same frozen others x time below same w =
      let other = the_run g order others w.scenario topological in
      let run = run_exists g order others w.scenario topological in
      record {
        scenario = w.scenario;
        lawful = w.lawful;
        times = other;
        run = run;
        active = w.active;
        has = sym (unfrozen_same g order topological w.scenario w.times other x (agree_before g order topological
            w.scenario w.times other frozen others w.run run (moment g order x) same) below) ∙ w.has;
      }

  -- if also x has the same time in both lists, and that is its frozen time under the one, it is so under the other
  pub frozen_time_kept : (frozen others : List (Option ℕ)) (x : ℕ) → x < item_count g → SameBefore frozen others x →
      get_or frozen x None ≡ get_or others x None →
      IsFrozenTime g order frozen x →
      IsFrozenTime g order others x
  frozen_time_kept frozen others x below same here f = record {
    reached = λ time e. would_have_same frozen others x time below same (f.reached time (here ∙ e));
    greatest = λ time other e w.
        f.greatest time other (here ∙ e) (would_have_same others frozen x other below (λ y i l. sym (same y i l)) w);
    none = λ e time w. f.none (here ∙ e) time
        (would_have_same others frozen x time below (λ y i l. sym (same y i l)) w);
  }

  -- if x has in the second list the greatest time that it would have under the first, that is its frozen time under the second
  pub frozen_time_set : (frozen others : List (Option ℕ)) (x : ℕ) → x < item_count g → SameBefore frozen others x →
      IsUnfrozenTime g order frozen x (get_or others x None) →
      IsFrozenTime g order others x
  frozen_time_set frozen others x below same f = record {
    reached = λ time e. would_have_same frozen others x time below same (f.reached time e);
    greatest = λ time other e w.
        f.greatest time other e (would_have_same others frozen x other below (λ y i l. sym (same y i l)) w);
    none = λ e time w. f.none e time (would_have_same others frozen x time below (λ y i l. sym (same y i l)) w);
  }

  -- given: a list of items
  module _ (items : List ℕ) where
    -- without any frozen time, none of the items is settled yet
    pub settled_first : (frozen : List (Option ℕ)) (h : Graph) → items ≡ frozen_along g order →
        frozen ≡ nothing_frozen h → h ≡ g →
        AreSettled g order items 0 frozen
    settled_first frozen h all is same = record {
      all = all;
      count = ap length is ∙ length-replicate {A = Option ℕ} (item_count h) None ∙ ap item_count same;
      each = λ i l. absurd (omega arith);
      others = λ x no. none x;
      low = record { low = λ x time l e. absurd (none-some time (sym (none x) ∙ e)) };
    }
      where
        -- in a list without frozen times no item has one
        none : (x : ℕ) → get_or frozen x None ≡ None
        none x = ap (λ f. get_or f x None) is ∙ none_frozen h x

    -- given: frozen times in which the first n of the listed items are settled (`so_far`)
    module _ (n : ℕ) (frozen : List (Option ℕ)) (so_far : AreSettled g order items n frozen) where
      -- each listed item is a frozen item of the graph
      pub item_frozen : (i : ℕ) → i < length items →
          (get_or items i 0 < item_count g) × (is_frozen g (get_or items i 0) ≡ true)
      item_frozen i below = frozen_listed g order topological (get_or items i 0)
          (subst (λ xs. Contains xs (get_or items i 0)) so_far.all (Contains-get_or items i 0 below))

      -- the next item to settle is an item of the graph
      pub next_within : n < length items → get_or items n 0 < item_count g
      next_within below = (item_frozen n below).0

      -- the next frozen item has no time yet, as the settled ones have earlier moments and so are others
      pub next_unset : n < length items → get_or frozen (get_or items n 0) None ≡ None
      next_unset below = so_far.others (get_or items n 0)
          (λ i k e. omega (arith, ap (moment g order) e, later_moment g order topological items so_far.all i n k below))

      -- the times that are settled are early
      pub settled_early : IsWithinLimits g → AreEarly frozen
      settled_early within = early_from_low g order frozen within topological so_far.count so_far.low

      -- If the next item is set to the greatest time that it would have if it were not frozen, one item more is settled. Those
      -- before keep their frozen times, as these rest on earlier moments.
      pub settled_more : IsWithinLimits g → n < length items → (more : List (Option ℕ)) →
          IsUnfrozenTime g order frozen (get_or items n 0) (get_or more (get_or items n 0) None)
          → ((y : ℕ) → y ≢ get_or items n 0 → get_or more y None ≡ get_or frozen y None) → length more ≡ length frozen →
          AreSettled g order items (n + 1) more
      settled_more within n_inside more is same count =
          let x = get_or items n 0 in
          let x_below = next_within n_inside in
          record {
            all = so_far.all;
            count = count ∙ so_far.count;
            -- the item itself has the time that was found, and those before it keep theirs
            each = λ i k. elim (cases_eq i n) [
              | inl at ↦ subst (λ j. IsFrozenTime g order more (get_or items j 0)) (sym at)
                  (frozen_time_set frozen more x x_below
                  (λ y w m. sym (same y (λ e. omega (arith, ap (moment g order) e)))) is)
              | inr apart ↦
                  let sooner = later_moment g order topological items so_far.all i n (omega arith) n_inside in
                  frozen_time_kept frozen more (get_or items i 0) (item_frozen i (omega arith)).0
                  (λ y w m. sym (same y (λ e. omega (arith, ap (moment g order) e))))
                  (sym (same (get_or items i 0) (λ e. omega (arith, ap (moment g order) e))))
                  (so_far.each i (omega arith))
            ];
            others = λ y no. same y (λ e. no n (omega arith) (sym e)) ∙ so_far.others y (λ i k. no i (omega arith));
            -- the new time is reached in a run, where it isn't late; the other times are as before
            low = record {
              low = λ y time w e. elim (cases_eq y x) [
                | inl at ↦
                    let in_run = is.reached time (ap (λ z. get_or more z None) (sym at) ∙ e) in
                    subst (λ z. time ≤ bound 0 (moment g order z) + 32000000000) (sym at)
                    (omega (
                      arith,
                      in_run.has,
                      unfrozen_low 0 g order frozen in_run.scenario in_run.times within topological in_run.lawful
                          so_far.low
                          in_run.run x x_below,
                    ))
                | inr apart ↦ so_far.low.low y time w (sym (same y apart) ∙ e)
              ];
            };
          }

      -- once all listed items are settled, the list has the frozen times of the graph
      pub settled_all : n ≡ length items → AreFrozenTimes g order frozen
      settled_all all_done = record {
        count = so_far.count;
        each = λ x below frozen_or_not.
            let listed_at = subst (λ xs. Contains xs x) (sym so_far.all)
            (lists_frozen g order topological x below frozen_or_not) in
            subst (IsFrozenTime g order frozen) (get_or_default items listed_at.0 0 x listed_at.1 ∙ listed_at.2)
            (so_far.each listed_at.0 (omega (arith, listed_at.1)));
        others = λ x frozen_or_not. so_far.others x
            (λ i k is. both_ways (is_frozen g x) frozen_or_not (ap (is_frozen g) (sym is) ∙
            (item_frozen i (omega arith)).1));
      }
