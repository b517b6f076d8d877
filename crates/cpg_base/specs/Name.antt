-- What a name is: 1 to 32 bytes, each a letter, a digit, `_`, `-` or `.`.
use Rattle.std.specs.Prelude.{ℕ, ◌≤◌, List, length, Bool, ◌||◌, ◌&&◌, nat_le, ◌==◌, All, IsTrue}

-- whether a name may have this byte: A to Z, a to z, 0 to 9, `_` (95), `-` (45) or `.` (46)
abbrev pub is_name_byte : ℕ → Bool
is_name_byte b = (nat_le 65 b && nat_le b 90) || (nat_le 97 b && nat_le b 122) || (nat_le 48 b && nat_le b 57)
    || (b == 95) || (b == 45) || (b == 46)

-- a text of 1 to 32 such bytes
pub record IsName (bytes : List ℕ) : Type 0 where
  -- it isn't empty
  pub some : 1 ≤ length bytes
  -- it has at most 32 bytes
  pub short : length bytes ≤ 32
  -- a name may have each of its bytes
  pub plain : All (λ b. IsTrue (is_name_byte b)) bytes
