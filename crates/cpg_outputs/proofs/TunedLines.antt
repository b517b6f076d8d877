-- The lines of the parts of all processes, when a walk over both lists has come to the end of one.
use Rattle.std.proofs.Common.{ℕ, ◌≡◌, ◌⊎◌, ◌∙◌, List, [], ◌∷◌, ◌++◌, length, refl, sym, ap, inl, inr, arith, append-nil}
use Rattle.cpg_base.specs.declared.process.Process.{Process}
use Rattle.cpg_outputs.specs.Tunes.{parts_lines}

-- if one of two lists is used up, there are no more lines
parts_done : (ps : List Process) (parts : List ℕ) → (ps ≡ []) ⊎ (parts ≡ []) → parts_lines ps parts ≡ []
parts_done [] parts ended = refl
parts_done (p ∷ ps) [] ended = refl
parts_done (p ∷ ps) (n ∷ parts) (inl ended) = absurd (let lengths = ap length ended in omega (arith, lengths))
parts_done (p ∷ ps) (n ∷ parts) (inr ended) = absurd (let lengths = ap length ended in omega (arith, lengths))

-- `whole` is what is written now and then the lines of what is left; if one list is used up, it is just what is written
pub parts_whole : (ps : List Process) (parts whole now : List ℕ) → whole ≡ now ++ parts_lines ps parts →
    (ps ≡ []) ⊎ (parts ≡ []) → now ≡ whole
parts_whole ps parts whole now whole_is ended =
    sym (whole_is ∙ (ap (λ rest. now ++ rest) (parts_done ps parts ended) ∙ append-nil now))
