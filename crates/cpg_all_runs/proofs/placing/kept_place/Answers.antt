-- Proof of `kept_place`: the place that a list of numbers has in the map, or `at`, which it gets if it has none yet.
use Rattle.std.proofs.Common.{◌≡◌, Some, None, inl, inr, refl, sym, subst}
use Rattle.cpg_all_runs.specs.Placed.{place_in}
use Rattle.cpg_all_runs.proofs.placing.kept_place.Goals as goal

-- numbers with a place keep it
pub returns-in-Some : goal.returns-in-Some
returns-in-Some c = inl (
  subst (λ numbers. place_in c.args.places.now.entries numbers ≡ Some c.in-Some.place.now) c.as_slice.ensures.value
      (sym c.in-Some.ensures.value),
  refl,
)

-- numbers without a place get the given one
pub returns : goal.returns
returns c = inr (
  subst (λ numbers. place_in c.args.places.now.entries numbers ≡ None) c.as_slice.ensures.value
      (sym c.in_default.ensures.value),
  refl,
  c.in_ok-insert.ensures.entries,
)
