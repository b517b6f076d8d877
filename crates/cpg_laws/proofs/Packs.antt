-- Any bytes are a pack, or are refused at some place; and this place is the only one.
use Rattle.std.proofs.Common.{ℕ, ◌≡◌, ◌≤◌, List, Result, Ok, Err, refl, arith, inl, inr}
use Rattle.std.specs.Prelude.{◌⊎◌}
use Rattle.cpg_table.specs.Lawful.{Tables}
use Rattle.cpg_codec.specs.Grammar.{read}
use Rattle.cpg_codec.specs.Packs.{AreLawful, IsBadPack}
use Rattle.cpg_codec.specs.Spelling.{spelling}
use Rattle.cpg_codec.proofs.Theorems.{read_is_spelled, refused_is_bad}
use Rattle.cpg_laws.specs.Packs.{PacksAreRefusedAtOnePlace}

-- if reading `bytes` gives `answer`, they are the spelling of lawful tables `t`, or they are bad from a place `n` on
answered : (bytes : List ℕ) (answer : Result Tables ℕ) → read bytes ≡ answer →
    ((t : Tables) × AreLawful t × (bytes ≡ spelling t)) ⊎ ((n : ℕ) × IsBadPack bytes n)
answered bytes (Ok t) given = let spelled = read_is_spelled bytes t given in inl (t, spelled.0, spelled.1)
answered bytes (Err n) given = inr (n, refused_is_bad bytes n given)

-- if `bytes` are bad from `n` on, and from `m` on, then `n` is at most `m`
at_most : (bytes : List ℕ) (n m : ℕ) → IsBadPack bytes n → IsBadPack bytes m → n ≤ m
at_most bytes n m bad other = other.longest n bad.place bad.goes_on

-- bytes are a pack, or are none from one place on
pub packs_are_refused_at_one_place : PacksAreRefusedAtOnePlace
packs_are_refused_at_one_place bytes = record {
  some = answered bytes (read bytes) refl;
  one = λ n m bad other. let below = at_most bytes n m bad other in let above = at_most bytes m n other bad in
      omega (arith, below, above);
}
