-- Proof of `forwards`: returns the cycle that `back` lists against its edges, now in their direction and from its least
-- process on.
use Rattle.std.proofs.Common.{ℕ, ◌+◌, ◌-◌, ◌<◌, ◌≡◌, inl, inr, ◌∙◌, sym, ap, get_or, length, map, arith}
use Rattle.cpg_base.specs.Numbers.{numbers_below}
use Rattle.cpg_base.proofs.Lists.{map_below_push}
use Rattle.cpg_order.proofs.Cycles.{place_down, down_next, cycle_from_back}
use Rattle.cpg_order.proofs.cycle.forwards.Goals as goal
use Rattle.cpg_order.proofs.cycle.forwards.Goals.{then-place-eq0, else-place-eq0}

-- If `at` is the place after k steps down from m in a list of n, one step more leads to the last place if `at` is 0, and
-- otherwise to the place before it.
next_place : (m n k at : ℕ) → m < n → k < n → at ≡ place_down m n k →
    (at ≡ 0 → n - 1 ≡ place_down m n (k + 1)) × ((at ≡ 0 → ⊥) → at - 1 ≡ place_down m n (k + 1))
next_place m n k at m_inside k_inside is = elim (down_next m n k m_inside k_inside) [
  -- the place is 0: the next one is the last
  | inl (is_first, next_last) ↦ (λ not_first. sym next_last, λ not_first. absurd (not_first (is ∙ is_first)))
  -- it isn't 0: the next one is that before it
  | inr (not_first, next_down) ↦ (λ at_first. absurd (omega arith), λ at_first. omega arith)
]

-- the next place is one further down, or the last one if this is the first
pub loop-preserved : goal.loop-preserved
loop-preserved c =
    let next = next_place c.least_place-place.result (length c.args.back.now) c.loop.counter c.loop.place
    c.least_place-place.ensures.within c.loop-test.true c.loop.invariant.place in
    -- one place more is walked; the place then is one further down, or the last
    record {
      walk = map_below_push
          (λ k. get_or c.args.back.now (place_down c.least_place-place.result (length c.args.back.now) k) 0)
          c.loop.walk.items c.push.new.self.items
          (get_or c.args.back.now c.loop.place 0) c.loop.counter
          c.loop.invariant.walk (ap (λ i. get_or c.args.back.now i 0) c.loop.invariant.place)
          c.in_ok-push.ensures.items;
      place = elim c.if-place-eq0.branch [
        -- at place 0: on to the last place
        | then-place-eq0 w ↦ w.place-is ∙ next.0 w.if-place-eq0.true
        -- elsewhere: on to the place before
        | else-place-eq0 w ↦ w.place-is ∙ next.1 w.if-place-eq0.false
      ];
      within = elim c.if-place-eq0.branch [
        -- the last place is one of the list
        | then-place-eq0 w ↦ omega (arith, w.place-is, c.loop.invariant.within)
        -- so is the place before this one
        | else-place-eq0 w ↦ omega (arith, w.place-is, c.loop.invariant.within)
      ];
    }

-- after as many steps as there are processes the walk is a cycle in the direction of the edges
pub returns : goal.returns
returns c g is =
    -- the loop has made a turn for each process of the list
    let all : c.loop.counter ≡ length c.args.back.now = omega arith in
    cycle_from_back g c.args.back.now is c.least_place-place.result c.least_place-place.ensures.within c.loop.walk.items
    (c.loop.invariant.walk ∙ ap
    (λ n. map (λ k. get_or c.args.back.now (place_down c.least_place-place.result (length c.args.back.now) k) 0)
    (numbers_below n)) all)
    c.least_place-place.ensures.least
