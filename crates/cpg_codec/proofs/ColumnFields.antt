-- The readers of literals and columns read exactly the bytes of lawful ones (`Reads`, of Laws). In the lemmas s has the
-- variables of a head, v is one of them, l is a literal on one, and ls are literals. In what `seq` and `adapt` get, fv
-- says that a part v fits its reader, and h that the whole value does.
use Rattle.std.proofs.Common.{◌≡◌, ℕ, zero, suc, ◌+◌, ◌-◌, ◌^◌, ◌<◌, ◌≤◌, max, Bool, true, false, cond, eqb, ltb, leb}
use Rattle.std.proofs.Common.{◌&&◌, List, [], ◌∷◌, ◌++◌, length, Ok, refl, sym, ap, ap₂, subst, ◌∙◌}
use Rattle.std.proofs.Common.{append_assoc, arith, inl, inr, ◌⊎◌}
use Rattle.std.specs.List.{flat_map, AllByRecursion}
use Rattle.std.specs.Int.{w64, to_be_bytes}
use Rattle.std.proofs.lemmas.Bool.{ne_eqb, ltb-true, leb-true, lt-ltb, le-leb, le-ltb, cases_lt, or_cases, or_left}
use Rattle.std.proofs.lemmas.Bool.{or_right, and_parts, and_from}
use Rattle.std.proofs.lemmas.List.{append-nil}
use Rattle.std.proofs.lemmas.List.Elements.{All-from_recursion, recursion_from_All}
use Rattle.cpg_cube.specs.declared.literal.Literal.{Literal}
use Rattle.cpg_cube.specs.Cube.{IsRising}
use Rattle.cpg_cube.specs.Rising.{rises_from}
use Rattle.cpg_cube.proofs.Rising.{rising_from, rises_by}
use Rattle.cpg_cube.specs.declared.column.Column.{Column}
use Rattle.cpg_table.specs.Lawful.{IsLawfulLiteral, IsLawfulColumn}
use Rattle.cpg_table.specs.declared.space.VariableSpace.{VariableSpace}
use Rattle.cpg_codec.specs.Reading.{down}
use Rattle.cpg_codec.specs.Spelling.{byte, literal_bytes, column_bytes}
use Rattle.cpg_codec.specs.Grammar.{IsSpace, limit, fault_end, is_variable, variable_count_from, variable_may, low_end}
use Rattle.cpg_codec.specs.Grammar.{high_end, read_literal, read_literals, read_front, read_column}
use Rattle.cpg_codec.proofs.Laws.{Reads, pure_reads, seq, adapt, byte_reads}
use Rattle.cpg_codec.proofs.Numbers.{small_reads}
use Rattle.cpg_codec.proofs.Lists.{each_reads, down_is}
use Rattle.cpg_codec.proofs.WrittenHeads.{limit_some, limit_most}
use Rattle.cpg_codec.proofs.HeadFields.{time_reads}

-- a lawful range: on a fault count (true) one that leaves out a number, on a value (false) one of a single number
abbrev pub IsRange : Bool → VariableSpace → ℕ → ℕ → Type 0
IsRange true s low high = (low ≤ high) × (high ≤ s.faults) × (high ≡ s.faults → 0 < low)
IsRange false s low high = (low ≡ high) × (high ≤ 1)

-- a literal on a variable of the space, with a lawful range for it
pub record IsLiteral (s : VariableSpace) (l : Literal) : Type 0 where
  pub allowed : is_variable s l.variable ≡ true
  pub range : IsRange (ltb l.variable 128) s l.low l.high

-- literals whose variables rise strictly, the first from `least` on
abbrev pub AreLiterals : VariableSpace → ℕ → List Literal → Type 0
AreLiterals s least [] = Unit {0}
AreLiterals s least (l ∷ ls) = (least ≤ l.variable) × IsLiteral s l × AreLiterals s (suc l.variable) ls

-- a space allows at most 128 fault variables
pub few_fault : (s : VariableSpace) → IsSpace s → fault_end s ≤ 128
few_fault s is_space = let below_most = limit_most s.faults s.processes in omega (arith, below_most, is_space.processes)

-- ---- variables

-- an allowed variable is that of a fault count or that of a value
is_variable_cases : (s : VariableSpace) (v : ℕ) → is_variable s v ≡ true →
    (v < fault_end s) ⊎ ((128 ≤ v) × (v < 128 + s.conditions))
is_variable_cases s v may = elim (or_cases (ltb v (fault_end s)) (leb 128 v && ltb v (128 + s.conditions)) may) [
  | inl below_end ↦ inl (ltb-true v (fault_end s) below_end)
  | inr of_value ↦ let parts = and_parts (leb 128 v) (ltb v (128 + s.conditions)) of_value in
      inr (leb-true 128 v parts.0, ltb-true v (128 + s.conditions) parts.1)
]

-- a variable below the end of the fault counts is allowed
is_fault_variable : (s : VariableSpace) (v : ℕ) → v < fault_end s → is_variable s v ≡ true
is_fault_variable s v below_end =
    or_left (ltb v (fault_end s)) (leb 128 v && ltb v (128 + s.conditions)) (lt-ltb v (fault_end s) below_end)

-- a variable of a condition's value is allowed
is_value_variable : (s : VariableSpace) (v : ℕ) → 128 ≤ v → v < 128 + s.conditions → is_variable s v ≡ true
is_value_variable s v from_128 below_end = or_right (ltb v (fault_end s)) (leb 128 v && ltb v (128 + s.conditions))
    (and_from (leb 128 v) (ltb v (128 + s.conditions)) (le-leb 128 v from_128)
    (lt-ltb v (128 + s.conditions) below_end))

-- `room_step` in numbers, if v is a count of faults: e ends the counts, and c conditions have a value
step_fault : (e c least v : ℕ) → e ≤ 128 → least ≤ v → v < e →
    suc ((e - suc v) + ((128 + c) - max 128 (suc v))) ≤ (e - least) + ((128 + c) - max 128 least)
step_fault e c least v few le below_end = omega arith

-- the same if v is the value of a condition
step_value : (e c least v : ℕ) → e ≤ 128 → least ≤ v → 128 ≤ v → v < 128 + c →
    suc ((e - suc v) + ((128 + c) - max 128 (suc v))) ≤ (e - least) + ((128 + c) - max 128 least)
step_value e c least v few le from_128 below_end = omega arith

-- after an allowed variable, from `least` on, there is room for at least one literal less than from `least` on
pub room_step : (s : VariableSpace) (least v : ℕ) → fault_end s ≤ 128 → least ≤ v → is_variable s v ≡ true →
    suc (variable_count_from s (suc v)) ≤ variable_count_from s least
room_step s least v few le allowed = elim (is_variable_cases s v allowed) [
  | inl below_end ↦ step_fault (fault_end s) s.conditions least v few le below_end
  | inr of_value ↦ step_value (fault_end s) s.conditions least v few le of_value.0 of_value.1
]

-- `room_some` in numbers, if the least variable is a count of faults: that is the variable to take
some_fault : (e c least : ℕ) → e ≤ 128 → least < e →
    (e - least) + ((128 + c) - max 128 least) ≤ suc ((e - suc least) + ((128 + c) - max 128 (suc least)))
some_fault e c least few below = omega arith

-- and if it is past all counts: then the least value is
some_value : (e c least : ℕ) → e ≤ 128 → e ≤ least →
    (e - least) + ((128 + c) - max 128 least)
    ≤ suc ((e - suc (max 128 least)) + ((128 + c) - max 128 (suc (max 128 least))))
some_value e c least few past = omega arith

-- past all counts, there is room only if a value is left
some_there : (e c least : ℕ) → e ≤ least → 0 < (e - least) + ((128 + c) - max 128 least) → max 128 least < 128 + c
some_there e c least past some = omega arith

-- if there is room for a literal, some allowed variable leaves room for all but this one: the least that is allowed
room_some : (s : VariableSpace) (least : ℕ) → fault_end s ≤ 128 → 0 < variable_count_from s least →
    (v : ℕ) × (least ≤ v) × (is_variable s v ≡ true) ×
    (variable_count_from s least ≤ suc (variable_count_from s (suc v)))
room_some s least few some = elim (cases_lt least (fault_end s)) [
  | inl below ↦ (
    least,
    omega arith,
    is_fault_variable s least below,
    some_fault (fault_end s) s.conditions least few below,
  )
  | inr past ↦ (
    max 128 least,
    omega arith,
    is_value_variable s (max 128 least) (omega arith) (some_there (fault_end s) s.conditions least past some),
    some_value (fault_end s) s.conditions least few past,
  )
]

-- lawful literals are no more than the allowed variables from the least one on; each takes at least one, by induction
pub literals_room : (s : VariableSpace) (least : ℕ) (ls : List Literal) → fault_end s ≤ 128 → AreLiterals s least ls →
    length ls ≤ variable_count_from s least
literals_room s least [] few fit = omega arith
literals_room s least (l ∷ ls) few fit =
    let rest_room = literals_room s (suc l.variable) ls few fit.2 in
    let step = room_step s least l.variable few fit.0 fit.1.allowed in
    omega (arith, rest_room, step)

-- ---- literals

-- a fault variable is allowed only if there may be faults
pub fault_some : (s : VariableSpace) (v : ℕ) → is_variable s v ≡ true → ltb v 128 ≡ true → 0 < s.faults
fault_some s v allowed lt = elim (is_variable_cases s v allowed) [
  | inl below_end ↦ limit_some s.faults s.processes (suc v) below_end (omega arith)
  | inr of_value ↦ absurd (let below_128 : v < 128 = ltb-true v 128 lt in omega (arith, of_value.0))
]

-- the greatest low that the reader takes: the bound on faults k for a count, and 1 for a value
abbrev low_top : Bool → ℕ → ℕ
low_top t k = cond t k 1

-- the greatest high: for a count k, or k - 1 from low 0 on, as the range isn't whole; for a value the low itself
abbrev high_top : Bool → ℕ → ℕ → ℕ
high_top t k low = cond t (cond (eqb low 0) (k - 1) k) low

-- a greatest low is a byte
low_small : (t : Bool) (k : ℕ) → k ≤ 8 → low_top t k < 256
low_small true k few = omega arith
low_small false k few = omega arith

-- from a positive low on, the greatest high is k
top_suc : (k low : ℕ) → high_top true k (suc low) ≡ k
top_suc k low = let not_zero : eqb (suc low) 0 ≡ false = ne_eqb (suc low) 0 (λ is_zero. omega arith) in rw not_zero refl

-- a low that passes is at most its greatest high, so there is a high for it
high_there : (t : Bool) (k low : ℕ) → low ≤ low_top t k → low ≤ high_top t k low
high_there true k zero fits = omega arith
high_there true k (suc low) fits = rw top_suc fits
high_there false k low fits = omega arith

-- a greatest high is a byte
high_small : (t : Bool) (k low : ℕ) → k ≤ 8 → low ≤ low_top t k → high_top t k low < 256
high_small true k zero le few = omega arith
high_small true k (suc low) le few = rw top_suc (omega arith)
high_small false k low le few = omega arith

-- a range that passes the bounds of the reader is a lawful range: by the kind of variable, fault count or value, and for a
-- count by whether its low is 0
pub range_to : (t : Bool) (s : VariableSpace) (low high : ℕ) → (t ≡ true → 0 < s.faults) → low ≤ low_top t s.faults →
    low ≤ high → high ≤ high_top t s.faults low →
    IsRange t s low high
range_to true s zero high some low_fits ordered high_fits =
    let positive = some refl in (ordered, omega arith, λ is_top. omega arith)
range_to true s (suc low) high some low_fits ordered high_fits =
    (ordered, subst (λ (x : ℕ). high ≤ x) (top_suc s.faults low) high_fits, λ is_top. omega arith)
range_to false s low high some low_fits ordered high_fits = (omega arith, omega arith)

-- a lawful range passes the bounds of the reader; by the same cases
range_from : (t : Bool) (s : VariableSpace) (low high : ℕ) → IsRange t s low high →
    (low ≤ low_top t s.faults) × (low ≤ high) × (high ≤ high_top t s.faults low)
range_from true s zero high lawful = (omega arith, lawful.0, not_whole s.faults high lawful.1 lawful.2) where
  -- a range from 0 on that isn't whole ends below k
  not_whole : (k h : ℕ) → h ≤ k → (h ≡ k → 0 < 0) → h ≤ k - 1
  not_whole k h le part = elim (cases_lt h k) [
    | inl lt ↦ omega arith
    | inr ge ↦ let positive : 0 < 0 = part (omega arith) in absurd (omega (arith, positive))
  ]
range_from true s (suc low) high lawful = (omega (arith, lawful.0, lawful.1), lawful.0, rw top_suc lawful.1)
range_from false s low high lawful =
    (omega (arith, lawful.0, lawful.1), omega (arith, lawful.0), omega (arith, lawful.0))

-- a lawful literal on a variable from `least` on, with room for `left` more after it
pub record FitsLiteral (s : VariableSpace) (left least : ℕ) (l : Literal) : Type 0 where
  -- its variable is `least` or greater
  pub rises : least ≤ l.variable
  pub lawful : IsLiteral s l
  -- at least `left` variables are greater than its own
  pub leaves : left ≤ variable_count_from s (suc l.variable)

-- an allowed variable from `least` on passes the reader's test, if there is room for `left` literals after it
may_from : (s : VariableSpace) (least left v : ℕ) → least ≤ v → is_variable s v ≡ true →
    left ≤ variable_count_from s (suc v) →
    variable_may s least left v ≡ true
may_from s least left v rises allowed leaves =
    and_from (leb least v && is_variable s v) (leb left (variable_count_from s (suc v)))
    (and_from (leb least v) (is_variable s v) (le-leb least v rises) allowed)
    (le-leb left (variable_count_from s (suc v)) leaves)

-- a variable that passes the reader's test is allowed, is at least `least`, and leaves room for `left` literals after it
pub may_to : (s : VariableSpace) (least left v : ℕ) → variable_may s least left v ≡ true →
    (least ≤ v) × (is_variable s v ≡ true) × (left ≤ variable_count_from s (suc v))
may_to s least left v passes =
    let parts = and_parts (leb least v && is_variable s v) (leb left (variable_count_from s (suc v))) passes in
    let both = and_parts (leb least v) (is_variable s v) parts.0 in
    (leb-true least v both.0, both.1, leb-true left (variable_count_from s (suc v)) parts.1)

-- The reader of a literal reads exactly the bytes of a lawful literal with room for the ones after it.
-- The variable is read first, then the low with a bound from the variable, then the high with a bound from both.
pub literal_reads : (s : VariableSpace) (left least : ℕ) → IsSpace s → left < variable_count_from s least →
    Reads (FitsLiteral s left least) literal_bytes (read_literal s left least)
unfolding read_literal
literal_reads s left least is_space there =
    let found = room_some s least (few_fault s is_space) (omega arith) in
    adapt
    (seq (λ (l : Literal). l.variable)
    (byte_reads (variable_may s least left) found.0
    (may_from s least left found.0 found.1 found.2 (omega (arith, found.3))))
    (λ v fv. seq (λ (l : Literal). l.low)
    (small_reads 0 (low_end s v) (omega arith) (low_small (ltb v 128) s.faults is_space.faults))
    (λ lo flo. seq (λ (l : Literal). l.high) (small_reads lo (high_end s v lo)
    (high_there (ltb v 128) s.faults lo flo.1) (high_small (ltb v 128) s.faults lo is_space.faults flo.1))
    (λ hi fhi. pure_reads (record { variable = v; low = lo; high = hi }))
    (λ hi l fhi h. ap (λ (q : Literal). q.high) h))
    (λ lo l flo h. ap (λ (q : Literal). q.low) h.1))
    (λ v l fv h. ap (λ (q : Literal). q.variable) h.1.1))
    (λ l h. let passed = may_to s least left l.variable h.0 in
    record {
      rises = passed.0;
      lawful = record {
        allowed = passed.1;
        range = range_to (ltb l.variable 128) s l.low l.high
            (λ of_fault. fault_some s l.variable passed.1 of_fault) h.1.0.1 h.1.1.0.0 h.1.1.0.1;
      };
      leaves = passed.2;
    })
    (λ l h. let bounds = range_from (ltb l.variable 128) s l.low l.high h.lawful.range in (
      may_from s least left l.variable h.rises h.lawful.allowed h.leaves,
      ((omega arith, bounds.0), ((bounds.1, bounds.2), refl)),
    ))
    (λ l h. refl)

-- ---- columns

-- the first label of a countdown is how many come after it
down_head : (l : ℕ) (ls : List ℕ) → l ∷ ls ≡ down (suc (length ls)) → (l ≡ length ls) × (ls ≡ down (length ls))
unfolding down
down_head l ls is_down = (cc, cc)

-- a countdown is that of its own length
down_self : (n : ℕ) → down n ≡ down (length (down n))
down_self n = ap down (sym (down_is n))

-- `count` lawful literals, the first on a variable from `least` on
pub record LiteralsFor (s : VariableSpace) (count least : ℕ) (ls : List Literal) : Type 0 where
  pub count_is : length ls ≡ count
  pub lawful : AreLiterals s least ls

-- The reader of literals reads exactly the bytes of that many lawful literals. `each_reads` goes from one to the next with
-- the least variable that the next may have. Its invariant: the labels count down, and there is room for as many
-- literals as labels are left.
pub literals_reads : (s : VariableSpace) (count : ℕ) → IsSpace s → count ≤ variable_count_from s 0 →
    Reads (LiteralsFor s count 0) (flat_map literal_bytes) (read_literals s count)
unfolding read_literals
literals_reads s count is_space room =
    adapt
    (each_reads (λ (least : ℕ) (l : Literal). suc l.variable) (read_literal s)
    (λ ls least. (ls ≡ down (length ls)) × (length ls ≤ variable_count_from s least))
    (λ l ls least. FitsLiteral s l least) literal_bytes (λ ls least xs. LiteralsFor s (length ls) least xs)
    (λ l ls least inv. let label = down_head l ls inv.0 in
    literal_reads s l least is_space (omega (arith, label.0, inv.1)))
    (λ l ls least x inv f. let label = down_head l ls inv.0 in (label.1, omega (arith, label.0, f.leaves)))
    (λ least inv. record { count_is = refl; lawful = tt })
    (λ least x xs g. absurd (let none : suc (length xs) ≡ 0 = g.count_is in omega arith))
    (λ l ls least g. absurd (let none : 0 ≡ suc (length ls) = g.count_is in omega arith))
    (λ l ls least x xs inv f g. record { count_is = ap suc g.count_is; lawful = (f.rises, f.lawful, g.lawful) })
    (λ l ls least x xs inv g.
    let label = down_head l ls inv.0 in
    let counts : suc (length xs) ≡ suc (length ls) = g.count_is in
    let rest_room = literals_room s (suc x.variable) xs (few_fault s is_space) g.lawful.2 in (
      record { rises = g.lawful.0; lawful = g.lawful.1; leaves = omega (arith, label.0, rest_room) },
      record { count_is = omega arith; lawful = g.lawful.2 },
    ))
    (down count) 0 (down_self count, omega (arith, down_is count)))
    (λ xs g. record { count_is = g.count_is ∙ down_is count; lawful = g.lawful })
    (λ xs g. record { count_is = g.count_is ∙ sym (down_is count); lawful = g.lawful })
    (λ xs g. refl)

-- ---- lawful literals as tables say it, and as the reader does

-- if there may be faults, each process has a count of faults
limit_up : (k p v : ℕ) → 0 < k → v < p → v < limit k p
limit_up zero p v some lt = absurd (omega arith)
limit_up (suc k) p v some lt = lt

-- a literal that the reader takes is lawful; the two cases are a fault count and a condition's value, whose bounds the
-- reader checks
literal_to : (s : VariableSpace) (l : Literal) → IsSpace s → IsLiteral s l → IsLawfulLiteral s l
literal_to s l is_space taken = elim (is_variable_cases s l.variable taken.allowed) [
  | inl below_end ↦
      let few = few_fault s is_space in
      let most = limit_most s.faults s.processes in
      let range : IsRange true s l.low l.high =
      subst (λ (t : Bool). IsRange t s l.low l.high) (lt-ltb l.variable 128 (omega (arith, below_end, few)))
      taken.range in
      inl (record { known = omega (arith, below_end, most); some = range.0; within = range.1; part = range.2 })
  | inr of_value ↦
      let range : IsRange false s l.low l.high =
      subst (λ (t : Bool). IsRange t s l.low l.high) (le-ltb l.variable 128 of_value.0) taken.range in
      inr (record { value = of_value.0; known = of_value.1; one = range.0; within = range.1 })
]

-- if a range within 0 to k leaves out a number, k isn't 0
some_faults : (k low high : ℕ) → low ≤ high → high ≤ k → (high ≡ k → 0 < low) → 0 < k
some_faults zero low high ordered within part = let positive : 0 < low = part (omega arith) in absurd (omega arith)
some_faults (suc k) low high ordered within part = omega arith

-- a lawful literal is one that the reader takes; the same two cases the other way
literal_from : (s : VariableSpace) (l : Literal) → IsSpace s → IsLawfulLiteral s l → IsLiteral s l
literal_from s l is_space (inl lawful) = record {
  allowed = is_fault_variable s l.variable
      (limit_up s.faults s.processes l.variable
      (some_faults s.faults l.low l.high lawful.some lawful.within lawful.part) lawful.known);
  range = subst (λ (t : Bool). IsRange t s l.low l.high)
      (sym (lt-ltb l.variable 128 (omega (arith, lawful.known, is_space.processes))))
      (lawful.some, lawful.within, lawful.part);
}
literal_from s l is_space (inr lawful) = record {
  allowed = is_value_variable s l.variable lawful.value lawful.known;
  range = subst (λ (t : Bool). IsRange t s l.low l.high) (sym (le-ltb l.variable 128 lawful.value))
      (lawful.one, lawful.within);
}

-- literals that the reader takes are lawful, and their variables rise; by induction
literals_to : (s : VariableSpace) (least : ℕ) (ls : List Literal) → IsSpace s → AreLiterals s least ls →
    AllByRecursion (IsLawfulLiteral s) ls × (rises_from least ls ≡ true)
literals_to s least [] is_space taken = (tt, refl)
literals_to s least (l ∷ ls) is_space taken =
    let rest = literals_to s (suc l.variable) ls is_space taken.2 in
    let same : suc l.variable ≡ l.variable + 1 = omega arith in (
      (literal_to s l is_space taken.1, rest.0),
      and_from (leb least l.variable) (rises_from (l.variable + 1) ls) (le-leb least l.variable taken.0)
          (subst (λ (n : ℕ). rises_from n ls ≡ true) same rest.1),
    )

-- lawful literals whose variables rise from `least` on are literals that the reader takes; by induction
literals_from : (s : VariableSpace) (least : ℕ) (ls : List Literal) → IsSpace s →
    AllByRecursion (IsLawfulLiteral s) ls → rises_from least ls ≡ true →
    AreLiterals s least ls
literals_from s least [] is_space lawful rising = tt
literals_from s least (l ∷ ls) is_space lawful rising =
    let parts = and_parts (leb least l.variable) (rises_from (l.variable + 1) ls) rising in
    let same : l.variable + 1 ≡ suc l.variable = omega arith in (
      leb-true least l.variable parts.0,
      literal_from s l is_space lawful.0,
      literals_from s (suc l.variable) ls is_space lawful.1 (subst (λ (n : ℕ). rises_from n ls ≡ true) same parts.1),
    )

-- the literals of a lawful column are literals that the reader takes
pub column_literals : (s : VariableSpace) (c : Column) → IsSpace s → IsLawfulColumn s c → AreLiterals s 0 c.cube
column_literals s c is_space lawful =
    literals_from s 0 c.cube is_space (recursion_from_All (IsLawfulLiteral s) c.cube lawful.literals)
    (rises_by 0 c.cube lawful.rising (λ l q. omega arith))

-- three pieces, one after another, however they are grouped
regroup_3 : (a b c : List ℕ) → a ++ (b ++ (c ++ [])) ≡ a ++ b ++ c
regroup_3 a b c = simp (append_assoc, append-nil)

-- a space allows fewer than 256 variables: at most 128 counts and 32 values
room_small : (e c : ℕ) → e ≤ 128 → c ≤ 32 → (e - 0) + ((128 + c) - max 128 0) < 256
room_small e c counts_few values_few = omega arith

-- The reader of a column's front reads exactly the bytes of a time below 2^60 and a count that the space allows. As in all
-- these lemmas, `seq` joins the readers of the parts, and `adapt` says the same of the whole.
pub front_reads : (s : VariableSpace) → IsSpace s →
    Reads (λ (f : ℕ × ℕ). (f.0 < 2 ^ 60) × (f.1 ≤ variable_count_from s 0))
    (λ (f : ℕ × ℕ). to_be_bytes w64 f.0 ++ byte f.1) (read_front s)
unfolding read_front
front_reads s is_space =
    adapt
    (seq (λ (f : ℕ × ℕ). f.0) time_reads
    (λ t ft. seq (λ (f : ℕ × ℕ). f.1) (small_reads 0 (variable_count_from s 0) (omega arith)
    (room_small (fault_end s) s.conditions (few_fault s is_space) is_space.conditions))
    (λ n fn. pure_reads (t, n))
    (λ n f fn h. ap (λ (q : ℕ × ℕ). q.1) h))
    (λ t f ft h. ap (λ (q : ℕ × ℕ). q.0) h.1))
    (λ f h. (h.0, h.1.0.1))
    (λ f h. (h.0, ((omega arith, h.1), refl)))
    (λ f h. refl)

-- The reader of a column reads exactly the bytes of a lawful column: its front, then as many literals as the front
-- says. The last three parts say the same of the column: what the parts allow is lawful, what is lawful they allow, and
-- the bytes are the same.
pub column_reads : (s : VariableSpace) → IsSpace s → Reads (IsLawfulColumn s) column_bytes (read_column s)
unfolding read_column
column_reads s is_space =
    adapt
    (seq (λ (c : Column). (c.time, length c.cube)) (front_reads s is_space)
    (λ f ff. seq (λ (c : Column). c.cube) (literals_reads s f.1 is_space ff.1)
    (λ ls fls. pure_reads (record { time = f.0; cube = ls }))
    (λ ls c fls h. ap (λ (q : Column). q.cube) h))
    (λ f c ff h. ap₂ (λ (t : ℕ) (n : ℕ). (t, n)) (ap (λ (q : Column). q.time) h.1) h.0.count_is))
    (λ c h. let rising = literals_to s 0 c.cube is_space h.1.0.lawful in record {
      time = h.0.0;
      literals = All-from_recursion (IsLawfulLiteral s) c.cube rising.0;
      rising = rising_from 0 c.cube rising.1;
    })
    (λ c h. let taken = column_literals s c is_space h in (
      (h.time, literals_room s 0 c.cube (few_fault s is_space) taken),
      (record { count_is = refl; lawful = taken }, refl),
    ))
    (λ c h. regroup_3 (to_be_bytes w64 c.time) (byte (length c.cube)) (flat_map literal_bytes c.cube))

-- literals that the grammar reads have rising variables: by `literals_reads` they are lawful
pub literals_rise : (s : VariableSpace) (count : ℕ) (bytes : List ℕ) (ls : List Literal) (rest : List ℕ) → IsSpace s →
    count ≤ variable_count_from s 0 → read_literals s count bytes ≡ Ok (ls, rest) → IsRising ls
literals_rise s count bytes ls rest is_space room read_as =
    let taken = (literals_reads s count is_space room).takes bytes ls rest read_as in
    rising_from 0 ls (literals_to s 0 ls is_space taken.0.lawful).1
