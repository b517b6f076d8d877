-- Proof of `places_of`: the places of all columns, from 0 on.
use Rattle.std.proofs.Common.{◌≡◌, Contains, arith, subst, inl, inr, [], ◌∷◌, ◌++◌}
use Rattle.std.proofs.lemmas.Bool.{cases_lt}
use Rattle.std.proofs.lemmas.List.Elements.{Contains-append_left, Contains-push}
use Rattle.cpg_violation.proofs.sieve.places_of.Goals as goal

-- the next place was added after those before
pub loop-place-preserved : goal.loop-place-preserved
loop-place-preserved c = λ i below. rw c.in_ok-push.ensures.items (elim (cases_lt i c.loop-place.place) [
  | inl lt ↦ Contains-append_left c.loop-place.places.items (c.loop-place.place ∷ []) i (c.loop-place.invariant i lt)
  | inr ge ↦ let same : c.loop-place.place ≡ i = omega arith in
      subst (λ j. Contains (c.loop-place.places.items ++ c.loop-place.place ∷ []) j) same
      (Contains-push c.loop-place.places.items c.loop-place.place)
])
