-- A list of empty sets, made one by one.
use Rattle.std.proofs.Common.{ℕ, ◌+◌, ◌<◌, ◌≤◌, ◌≡◌, false, List, [], ◌∷◌, ◌++◌, length, get_or, length-append, ap, ◌∙◌}
use Rattle.std.proofs.Common.{⊎_elim, arith}
use Rattle.std.proofs.lemmas.Bool.{cases_lt}
use Rattle.std.proofs.lemmas.List.{get_or_append_left, get_or_past}
use Rattle.std.proofs.Math.Seq.{get_or-append_seam}
use Rattle.cpg_order.specs.Reach.{is_in}
use Rattle.cpg_reach.specs.Walked.{AreEmpty}

-- one empty set more makes a list of one set more, all empty
pub empty_next : (n : ℕ) (sets : List (List ℕ)) (x : List ℕ) → AreEmpty n sets → ((v : ℕ) → is_in x v ≡ false) →
    AreEmpty (n + 1) (sets ++ x ∷ [])
-- place i holds an old set, or the new one, or is past the end
empty_next n sets x empty none = record {
  count = let pushed = length-append sets (x ∷ []) in let counted = empty.count in omega arith;
  each = λ i v. ⊎_elim
      (λ (earlier : i < length sets). ap (λ xs. is_in xs v) (get_or_append_left sets (x ∷ []) [] i earlier)
      ∙ empty.each i v)
      (λ (not_earlier : length sets ≤ i). ⊎_elim
      (λ (past : length sets < i). let pushed = length-append sets (x ∷ []) in
      ap (λ xs. is_in xs v) (get_or_past (sets ++ x ∷ []) i [] (omega arith)))
      (λ (at_end : i ≤ length sets). let same_place : i ≡ length sets = omega arith in
      ap (λ j. is_in (get_or (sets ++ x ∷ []) j []) v) same_place
      ∙ ap (λ xs. is_in xs v) (get_or-append_seam sets x [] []) ∙ none v)
      (cases_lt (length sets) i))
      (cases_lt i (length sets));
}
