-- Laws on packs and their refusal.
use Rattle.std.specs.Prelude.{ℕ, ◌≡◌, ◌<◌, ◌⊎◌, List, length, take}
use Rattle.cpg_table.specs.Lawful.{Tables}
use Rattle.cpg_codec.specs.Packs.{AreLawful, IsBadPack}
use Rattle.cpg_codec.specs.Spelling.{spelling}

-- the bytes are a pack, the spelling of lawful tables, or are no pack and are refused at some place, the only one
pub record ArePackOrRefused (bytes : List ℕ) : Type 0 where
  -- they are a pack, or are refused at some place
  pub some : ((t : Tables) × AreLawful t × (bytes ≡ spelling t)) ⊎ ((n : ℕ) × IsBadPack bytes n)
  -- they are refused at one place at most
  pub one : (n m : ℕ) → IsBadPack bytes n → IsBadPack bytes m → n ≡ m

-- this holds of any bytes
abbrev pub PacksAreRefusedAtOnePlace : Type 0
PacksAreRefusedAtOnePlace = (bytes : List ℕ) → ArePackOrRefused bytes

-- the first n bytes of a pack, if these aren't all, are no pack and are refused at their end
abbrev pub FrontsOfPacksAreRefused : Type 0
FrontsOfPacksAreRefused =
    (t : Tables) (n : ℕ) → AreLawful t → n < length (spelling t) → IsBadPack (take n (spelling t)) n
