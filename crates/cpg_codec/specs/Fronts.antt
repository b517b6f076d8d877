-- Known literals that bytes begin with.
use Rattle.std.specs.Prelude.{ℕ, ◌≡◌, ◌≤◌, List, ◌++◌, length, take}
use Rattle.std.specs.List.{flat_map}
use Rattle.cpg_cube.specs.declared.literal.Literal.{Literal}
use Rattle.cpg_codec.specs.Spelling.{literal_bytes}

-- the bytes begin with the spelling of the first `count` literals of `ls`, and `rest` comes after it; `count` is at most
-- `most` and needn't be the greatest such number
pub record HasFront (ls : List Literal) (bytes : List ℕ) (most count : ℕ) (rest : List ℕ) : Type 0 where
  pub spelled : bytes ≡ flat_map literal_bytes (take count ls) ++ rest
  pub within : count ≤ length ls
  pub few : count ≤ most
