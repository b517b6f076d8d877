-- A whole pack is no bad pack, neither where it ends nor as a front of itself.
use Rattle.std.proofs.Common.{ℕ, length, take, refl, arith}
use Rattle.std.proofs.lemmas.List.{take_all}
use Rattle.cpg_table.specs.Lawful.{Tables}
use Rattle.cpg_codec.specs.Packs.{AreLawful, IsBadPack}
use Rattle.cpg_codec.specs.Spelling.{spelling}

-- A pack is refused nowhere, also not where it ends: only a proper front of it is.
pub whole-is_not_bad : (t : Tables) → AreLawful t → (n : ℕ) → IsBadPack (spelling t) n → ⊥
whole-is_not_bad t lawful n bad = bad.no_pack t lawful refl

-- a whole pack isn't a bad front of itself
pub whole_front-is_not_bad : (t : Tables) → AreLawful t →
    IsBadPack (take (length (spelling t)) (spelling t)) (length (spelling t)) → ⊥
whole_front-is_not_bad t lawful bad = bad.no_pack t lawful (take_all (length (spelling t)) (spelling t) (omega arith))
