-- Big-endian numbers, digit by digit (in base 256): their readers read exactly the bytes of lawful ones (`Reads`, of Laws).
-- In the lemmas n is the number that the first digits spell, b the next digit, w how many digits follow, and m the
-- whole number.
use Rattle.std.proofs.Common.{◌≡◌, ℕ, zero, suc, ◌+◌, ◌*◌, ◌-◌, ◌/◌, ◌%◌, ◌^◌, ◌<◌, ◌≤◌, Bool, true, ltb, leb, [], ◌∷◌}
use Rattle.std.proofs.Common.{refl, sym, ap, subst, ◌∙◌, arith}
use Rattle.std.specs.Int.{byte_at, bytes_high_first}
use Rattle.std.proofs.lemmas.Bool.{ltb-true, lt-ltb, leb-true, le-leb, and_parts, and_from}
use Rattle.std.proofs.lemmas.Nat.{le-div, div_below, mul-le}
use Rattle.std.proofs.Math.Nat.{pow-suc, one-le-pow, div-mul-le_self, lt-div-mul-add}
use Rattle.cpg_codec.specs.Reading.{byte_by, digit_may, read_digits, read_number, within}
use Rattle.cpg_codec.proofs.Laws.{Reads, pure_reads, then_reads, adapt, byte_reads}

-- `may from below` says whether some lawful number is at least `from` and less than `below`
pub record IsChoice (lawful : ℕ → Type 0) (may : ℕ → ℕ → Bool) : Type 0 where
  pub found : (from below : ℕ) → from < below → may from below ≡ true → (n : ℕ) × (from ≤ n) × (n < below) × lawful n
  pub all : (from below n : ℕ) → from ≤ n → n < below → lawful n → may from below ≡ true

-- the test `within low high` says so of the numbers from `low` to `high`
pub within_chooses : (low high : ℕ) → low ≤ high → IsChoice (λ n. (low ≤ n) × (n ≤ high)) (within low high)
within_chooses low high ordered = record {
  found = λ from below lt e. let parts = and_parts (ltb low below) (leb from high) e in
      within_found from below lt (ltb-true low below parts.0) (leb-true from high parts.1);
  all = λ from below n from_below below_above lawful.
      and_from (ltb low below) (leb from high) (lt-ltb low below (omega arith)) (le-leb from high (omega arith));
} where
  within_found : (from below : ℕ) → from < below → low < below → from ≤ high →
      (n : ℕ) × (from ≤ n) × (n < below) × ((low ≤ n) × (n ≤ high))
  within_found from below lt from_below below_above =
      (from + (low - from), omega arith, omega arith, (omega arith, omega arith))

-- a product with 256 t may be grouped either way
spread : (n t : ℕ) → n * (256 * t) ≡ n * 256 * t
spread n t = omega arith

-- one byte more multiplies by 256
power : (w : ℕ) → 256 ^ suc w ≡ 256 * 256 ^ w
power w = omega (arith, pow-suc 256 w)

-- the numbers that begin with the digits n and have w + 1 more are a range that isn't empty
digit_span : (w n : ℕ) → n * 256 ^ suc w < (n + 1) * 256 ^ suc w
digit_span w n = let positive : 1 ≤ 256 ^ suc w = one-le-pow (suc w) 256 (omega arith) in omega arith

-- a number m that begins with the digits n, and has more (T is 256 t), has a next digit b, a byte: its quotient by t
-- without those of n
digit_of : (T t m n : ℕ) → T ≡ 256 * t → 0 < t → n * T ≤ m → m < (n + 1) * T →
    (b : ℕ) × (b < 256) × ((n * 256 + b) * t ≤ m) × (m < (n * 256 + b + 1) * t)
digit_of T t m n same pos lo hi =
    let low : n * 256 * t ≤ m = subst (λ (x : ℕ). x ≤ m) (ap (λ (x : ℕ). n * x) same ∙ spread n t) lo in
    let high : m < (n + 1) * 256 * t = subst (λ (x : ℕ). m < x) (ap (λ (x : ℕ). (n + 1) * x) same ∙ spread (n + 1) t)
    hi in
    let from_n : n * 256 ≤ m / t = le-div (n * 256) m t pos low in
    let before_next : m / t < (n + 1) * 256 = div_below m t ((n + 1) * 256) pos high in
    let whole_digit : n * 256 + (m / t - n * 256) ≡ m / t = omega arith in
    let floor : m / t * t ≤ m = div-mul-le_self m t in
    let ceiling : m < m / t * t + t = lt-div-mul-add pos in
    (m / t - n * 256, omega arith, rw whole_digit floor, rw whole_digit (omega (arith, ceiling)))

-- a number from q t up to, but without, (q + 1) t has the quotient q
quotient_is : (t m q : ℕ) → 0 < t → q * t ≤ m → m < (q + 1) * t → m / t ≡ q
quotient_is t m q pos lo hi =
    let at_least : q ≤ m / t = le-div q m t pos lo in
    let below : m / t < q + 1 = div_below m t (q + 1) pos hi in
    omega arith

-- if m begins with the digits n and b and has w more, b is its digit before the last w
digit_is : (w m n b : ℕ) → b < 256 → (n * 256 + b) * 256 ^ w ≤ m → m < (n * 256 + b + 1) * 256 ^ w → byte_at w m ≡ b
digit_is zero m n b lt lo hi = omega arith
digit_is (suc w) m n b lt lo hi =
    let quotient : m / 256 ^ suc w ≡ n * 256 + b =
    quotient_is (256 ^ suc w) m (n * 256 + b) (one-le-pow (suc w) 256 (omega arith)) lo hi in
    rw quotient (omega arith)

-- a number that begins with the digits n and b isn't below those that begin with n
digit_low : (T t m n b : ℕ) → T ≡ 256 * t → (n * 256 + b) * t ≤ m → n * T ≤ m
digit_low T t m n b power_is lo = subst (λ (x : ℕ). n * x ≤ m) (sym power_is) (omega arith)

-- a number that isn't above the numbers with the digits n and b isn't above those with the digits n
digit_high : (T t m n b : ℕ) → T ≡ 256 * t → b < 256 → m < (n * 256 + b + 1) * t → m < (n + 1) * T
digit_high T t m n b power_is lt hi =
    let scaled : (b + 1) * t ≤ 256 * t = mul-le (b + 1) t 256 t (omega arith) (omega arith) in
    subst (λ (x : ℕ). m < (n + 1) * x) (sym power_is) (omega arith)

-- given: a test that says whether a lawful number is in a range
module _ (Lawful : ℕ → Type 0) (may : ℕ → ℕ → Bool) (choice : IsChoice Lawful may) where
  -- m is lawful, begins with the digits n and has w more
  pub record Continues (w n m : ℕ) : Type 0 where
    pub lawful : Lawful m
    pub low : n * 256 ^ w ≤ m
    pub high : m < (n + 1) * 256 ^ w

  -- if some lawful number begins with the digits n and has more, some digit may come next: that of this number
  digit_some : (w n : ℕ) → may (n * 256 ^ suc w) ((n + 1) * 256 ^ suc w) ≡ true → (b : ℕ) × (digit_may may w n b ≡ true)
  digit_some w n may_go =
      let found = choice.found (n * 256 ^ suc w) ((n + 1) * 256 ^ suc w) (digit_span w n) may_go in
      let digit =
      digit_of (256 ^ suc w) (256 ^ w) found.0 n (power w) (one-le-pow w 256 (omega arith)) found.1 found.2 in (
        digit.0,
        and_from (ltb digit.0 256) (may ((n * 256 + digit.0) * 256 ^ w) ((n * 256 + digit.0 + 1) * 256 ^ w))
            (lt-ltb digit.0 256 digit.1)
            (choice.all _ _ found.0 digit.2 digit.3 found.3),
      )

  -- the next digit of a lawful number that begins with n passes the test, and the number begins with n and it
  digit_fits : (w n m : ℕ) → Continues (suc w) n m →
      (digit_may may w n (byte_at w m) ≡ true) × Continues w (n * 256 + byte_at w m) m
  digit_fits w n m continues =
      let digit = digit_of (256 ^ suc w) (256 ^ w) m n (power w) (one-le-pow w 256 (omega arith)) continues.low
      continues.high in
      let is_digit = digit_is w m n digit.0 digit.1 digit.2 digit.3 in
      subst (λ (b : ℕ). (digit_may may w n b ≡ true) × Continues w (n * 256 + b) m) (sym is_digit) (
        and_from (ltb digit.0 256) (may ((n * 256 + digit.0) * 256 ^ w) ((n * 256 + digit.0 + 1) * 256 ^ w))
            (lt-ltb digit.0 256 digit.1)
            (choice.all _ _ m digit.2 digit.3 continues.lawful),
        record { lawful = continues.lawful; low = digit.2; high = digit.3 },
      )

  -- a digit that passes the test is a byte
  below_256 : (w n b : ℕ) → digit_may may w n b ≡ true → b < 256
  below_256 w n b passes =
      ltb-true b 256 (and_parts (ltb b 256) (may ((n * 256 + b) * 256 ^ w) ((n * 256 + b + 1) * 256 ^ w)) passes).0

  -- if a digit passes the test, some lawful number begins with n and it
  may_go_on : (w n b : ℕ) → digit_may may w n b ≡ true →
      may ((n * 256 + b) * 256 ^ w) ((n * 256 + b + 1) * 256 ^ w) ≡ true
  may_go_on w n b passes =
      (and_parts (ltb b 256) (may ((n * 256 + b) * 256 ^ w) ((n * 256 + b + 1) * 256 ^ w)) passes).1

  -- a number that begins with the digits n and b begins with n
  continues_back : (w n m b : ℕ) → b < 256 → Continues w (n * 256 + b) m → Continues (suc w) n m
  continues_back w n m b lt continues = record {
    lawful = continues.lawful;
    low = digit_low (256 ^ suc w) (256 ^ w) m n b (power w) continues.low;
    high = digit_high (256 ^ suc w) (256 ^ w) m n b (power w) lt continues.high;
  }

  -- if some lawful number has just the digits n, n is lawful
  last_is : (n m : ℕ) → m ≡ n → may (n * 256 ^ 0) ((n + 1) * 256 ^ 0) ≡ true → Continues 0 n m
  last_is n m is_n may_go =
      let found = choice.found (n * 256 ^ 0) ((n + 1) * 256 ^ 0) (omega arith) may_go in
      let same : found.0 ≡ m = omega (arith, found.1, found.2) in
      record { lawful = subst Lawful same found.3; low = omega arith; high = omega arith }

  -- a number that begins with the digits n and has no more is n
  last_back : (n m : ℕ) → Continues 0 n m → m ≡ n
  last_back n m continues = omega (arith, continues.low, continues.high)

  -- the reader of w more digits reads exactly the last w digits of lawful numbers that begin with n; by induction on w:
  -- the next digit by `byte_reads`, the others by the induction
  pub digits_reads : (w n : ℕ) → may (n * 256 ^ w) ((n + 1) * 256 ^ w) ≡ true →
      Reads (Continues w n) (bytes_high_first w) (read_digits may w n)
  unfolding read_digits
  digits_reads zero n may_go = adapt (pure_reads n) (λ m e. last_is n m e may_go) (λ m c. last_back n m c) (λ m c. refl)
  digits_reads (suc w) n may_go =
      let some = digit_some w n may_go in
      adapt
      (then_reads (λ b. digit_may may w n b ≡ true) (λ b. b ∷ []) (byte_by (digit_may may w n))
      (λ b m. Continues w (n * 256 + b) m) (λ b m. bytes_high_first w m)
      (λ b. read_digits may w (n * 256 + b)) (byte_at w)
      (byte_reads (digit_may may w n) some.0 some.1)
      (λ b fb. digits_reads w (n * 256 + b) (may_go_on w n b fb))
      (λ b m fb c. digit_is w m n b (below_256 w n b fb) c.low c.high))
      (λ m p. continues_back w n m (byte_at w m) (below_256 w n (byte_at w m) p.0) p.1)
      (λ m c. digit_fits w n m c)
      (λ m c. refl)

  -- the reader of a number of w bytes reads exactly the bytes of lawful numbers, if there is one and each fits w bytes
  pub number_reads : (w some : ℕ) → Lawful some → ((m : ℕ) → Lawful m → m < 256 ^ w) →
      Reads Lawful (bytes_high_first w) (read_number w may)
  number_reads w some lawful fit =
      adapt (digits_reads w 0
      (choice.all (0 * 256 ^ w) ((0 + 1) * 256 ^ w) some (omega arith) (omega (arith, fit some lawful)) lawful))
      (λ m c. c.lawful) (λ m l. record { lawful = l; low = omega arith; high = omega (arith, fit m l) }) (λ m l. refl)

-- the reader of a number of w bytes reads exactly the numbers from low to high
pub field_reads : (w low high : ℕ) → low ≤ high → high < 256 ^ w →
    Reads (λ n. (low ≤ n) × (n ≤ high)) (bytes_high_first w) (read_number w (within low high))
field_reads w low high le fit =
    number_reads (λ n. (low ≤ n) × (n ≤ high)) (within low high) (within_chooses low high le) w low (omega arith, le)
    (λ m l. omega (arith, l.1, fit))

-- the reader of a byte reads exactly the bytes from low to high
pub small_reads : (low high : ℕ) → low ≤ high → high < 256 →
    Reads (λ n. (low ≤ n) × (n ≤ high)) (λ n. n ∷ []) (read_number 1 (within low high))
small_reads low high le fit =
    adapt (field_reads 1 low high le (omega arith)) (λ n l. l) (λ n l. l)
    (λ n l. ap (λ (b : ℕ). b ∷ []) (small_is n (omega (arith, l.1, fit)))) where
      small_is : (n : ℕ) → n < 256 → n % 256 ≡ n
      small_is n lt = omega arith
