-- What a reader leaves of bytes is their last part.
use Rattle.std.proofs.Common.{◌≡◌, ℕ, ◌-◌, ◌≤◌, List, ◌++◌, length, drop, Ok, sym, ap, ap₂, ◌∙◌, arith}
use Rattle.std.proofs.lemmas.List.{length-append}
use Rattle.std.proofs.Math.Seq.{drop-append_seam}
use Rattle.cpg_codec.specs.Reading.{Reader}
use Rattle.cpg_codec.proofs.Laws.{Reads}

-- a rest of the bytes is their last part, as many as it is long
last_part : (bytes front rest : List ℕ) → bytes ≡ front ++ rest → drop (length bytes - length rest) bytes ≡ rest
last_part bytes front rest parts =
    let front_length : length bytes - length rest ≡ length front =
    omega (arith, ap length parts, length-append front rest) in
    ap₂ (λ (n : ℕ) (bs : List ℕ). drop n bs) front_length parts ∙ drop-append_seam front rest

-- given: a reader that reads exactly the spellings of the values that fit
module _ {A : Type 0} {Fits : A → Type 0} {spell : A → List ℕ} {read : Reader A} (reads : Reads Fits spell read) where
  -- a reader that reads exactly some spellings leaves no more bytes than there were
  pub left_within : (bytes : List ℕ) (x : A) (rest : List ℕ) → read bytes ≡ Ok (x, rest) → length rest ≤ length bytes
  left_within bytes x rest read_as = let parts = (reads.takes bytes x rest read_as).1 in
      omega (arith, ap length parts, length-append (spell x) rest)

  -- what it leaves are the last ones of the bytes, as many as these are
  pub left_is : (bytes : List ℕ) (x : A) (rest : List ℕ) → read bytes ≡ Ok (x, rest) →
      read bytes ≡ Ok (x, drop (length bytes - length rest) bytes)
  left_is bytes x rest read_as =
      read_as
      ∙ ap (λ (t : List ℕ). Ok (x, t)) (sym (last_part bytes (spell x) rest (reads.takes bytes x rest read_as).1))
