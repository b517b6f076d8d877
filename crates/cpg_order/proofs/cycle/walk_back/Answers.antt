-- Proof of `walk_back`: returns the walk against the edges from the least waiting process, always on to a waiting source,
-- until the next process is in it already.
use Rattle.std.proofs.Common.{ℕ, List, Option, ◌≡◌, ◌∙◌, ◌==◌, sym, ap, length, false, Some, position, arith, eqb-true}
use Rattle.std.proofs.Common.{length-append, ◌∷◌, []}
use Rattle.std.proofs.lemmas.Bool.{false_from_ne_true}
use Rattle.std.proofs.lemmas.List.Quantifiers.{position-Some}
use Rattle.cpg_base.specs.Graph.{process_count}
use Rattle.cpg_order.specs.Reach.{is_in}
use Rattle.cpg_base.specs.Order.{place}
use Rattle.cpg_order.proofs.Along.{from_is_in}
use Rattle.cpg_base.proofs.Places.{position-place}
use Rattle.cpg_order.proofs.Readiness.{length-lt_below}
use Rattle.cpg_order.proofs.Cycles.{walk_more, walk_meets}
use Rattle.cpg_order.proofs.cycle.walk_back.Goals as goal

-- the process is in the walk already, so the walk from there on is a cycle
pub returns-in-Some-clause-cycle : goal.returns-in-Some-clause-cycle
returns-in-Some-clause-cycle c =
    let found : position (λ p. p == c.loop-from.process) c.loop-from.walk.items ≡ Some c.in-Some.from =
    ap (position (λ p. p == c.loop-from.process)) (sym c.as_slice.ensures.value) ∙
    sym c.in-Some.ensures in
    let parts = position-Some (λ p. p == c.loop-from.process) c.loop-from.walk.items c.in-Some.from 0 found in
    walk_meets c.args.problem.now c.loop-from.walk.items c.loop-from.process c.loop-from.invariant.walk c.in-Some.from
    parts.0 (eqb-true _ _ parts.1)

-- if a search for p in the walk finds no place, p isn't in the walk
not_found : (walk : List ℕ) (p : ℕ) (found : Option ℕ) → found ≡ position (λ q. q == p) walk →
    ((from : ℕ) → found ≡ Some from → ⊥) →
    is_in walk p ≡ false
not_found walk p found is none =
    false_from_ne_true (is_in walk p)
    (λ found_in. none (place walk p) (is ∙ position-place walk p (from_is_in walk p found_in)))

-- the process is not in the walk yet, so the walk is shorter than there are processes and what `decreases` counts falls
pub loop-from-smaller : goal.loop-from-smaller
loop-from-smaller c =
    -- the process isn't in the walk yet
    let fresh = not_found c.loop-from.walk.items c.loop-from.process c.place_in.result
    (c.place_in.ensures ∙ ap (position (λ p. p == c.loop-from.process)) c.as_slice.ensures.value)
    c.in_default.not-Some in
    let shorter = length-lt_below (process_count c.args.problem.now) c.loop-from.process c.loop-from.walk.items
    c.loop-from.invariant.walk.apart c.loop-from.invariant.walk.below
    c.loop-from.invariant.within fresh in
    omega (arith, ap length c.in_ok-push.ensures.items, length-append c.loop-from.walk.items (c.loop-from.process ∷ []))

-- the walk goes on with a process that has an edge to its last one
pub loop-from-preserved : goal.loop-from-preserved
loop-from-preserved c =
    -- the process isn't in the walk yet
    let fresh = not_found c.loop-from.walk.items c.loop-from.process c.place_in.result
    (c.place_in.ensures ∙ ap (position (λ p. p == c.loop-from.process)) c.as_slice.ensures.value)
    c.in_default.not-Some in
    record {
      walk = rw c.in_ok-push.ensures.items (walk_more c.args.problem.now c.loop-from.walk.items c.loop-from.process
          c.loop-from.invariant.walk c.waiting_source-process.result
          c.loop-from.invariant.within fresh c.waiting_source-process.ensures.edge);
      within = c.waiting_source-process.ensures.within;
      waits = c.waiting_source-process.ensures.waits;
    }
