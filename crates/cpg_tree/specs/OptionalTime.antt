-- How a time that may be missing is kept in a flag and two halves of 32 bits.
use Rattle.std.proofs.Common.{ℕ, ◌+◌, ◌*◌, ◌/◌, ◌%◌, ◌≡◌, refl, sym, ◌<◌, Bool, true, false, Option, None, Some}
use Rattle.std.proofs.lemmas.Nat.{div-mul-add, mod-mul-add}

-- the time with these halves if there is one
abbrev pub time_of_halves : Bool → ℕ → ℕ → Option ℕ
time_of_halves true low high = Some (high * 4294967296 + low)
time_of_halves false low high = None

-- whether there is a time
abbrev pub is_time : Option ℕ → Bool
is_time None = false
is_time (Some time) = true

-- the lower 32 bits of a time, and 0 if there is none
abbrev pub low_half : Option ℕ → ℕ
low_half None = 0
low_half (Some time) = time % 4294967296

-- the upper 32 bits of a time, and 0 if there is none
abbrev pub high_half : Option ℕ → ℕ
high_half None = 0
high_half (Some time) = time / 4294967296

-- whether halves are those of the time: the lower has 32 bits, and both are 0 if there is no time
abbrev pub AreHalves : Bool → ℕ → ℕ → Type 0
AreHalves is low high = (low < 4294967296) × (is ≡ false → (low ≡ 0) × (high ≡ 0))

-- there is a time with these halves exactly if the flag says so
pub is_of_halves : (is : Bool) (low high : ℕ) → is_time (time_of_halves is low high) ≡ is
is_of_halves true low high = refl
is_of_halves false low high = refl

-- the lower half of the time with these halves is the lower one
pub low_of_halves : (is : Bool) (low high : ℕ) → AreHalves is low high → low_half (time_of_halves is low high) ≡ low
low_of_halves true low high are = mod-mul-add high 4294967296 low are.0
low_of_halves false low high are = sym (are.1 refl).0

-- the upper half of the time with these halves is the upper one
pub high_of_halves : (is : Bool) (low high : ℕ) → AreHalves is low high → high_half (time_of_halves is low high) ≡ high
high_of_halves true low high are = div-mul-add high 4294967296 low are.0
high_of_halves false low high are = sym (are.1 refl).1
