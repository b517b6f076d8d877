-- A file is rejected for its first cause: each cause is there exactly if its test fails, and the tests are made in the
-- order of the causes.
use Rattle.std.proofs.Common.{ℕ, zero, suc, ℤ, pos, negsuc, ◌≡◌, ◌<◌, ◌≤◌, ◌⊎◌, Bool, true, false, not, ◌&&◌, ◌||◌}
use Rattle.std.proofs.Common.{if◌then◌else◌, List, [], ◌∷◌, Contains, Option, Some, None, Ok, Err, is_some}
use Rattle.std.proofs.Common.{sum_by, codes, refl, sym, ap, subst, ◌∙◌, inl, inr, arith, true≢false}
use Rattle.std.specs.Prelude.{◌↔◌, ⊤, IsSomeAnd, bytes_eq, nat_le, option_and_then}
use Rattle.std.specs.List.{list_any, list_all}
use Rattle.std.proofs.lemmas.Bool.{cases_Bool, both_ways, false_from_ne_true, true_from_ne_false, cases_lt, leb-false}
use Rattle.std.proofs.lemmas.Bool.{lt-leb}
use Rattle.std.proofs.lemmas.Slice.Eq.{bytes_eq-Decides}
use Rattle.toml.specs.Data.{Data, Members, no_members, member, string, integer, float, boolean, datetime, array, table}
use Rattle.toml.specs.Data.{get_member, as_table}
use Rattle.cpg_base.specs.Numbers.{numbers_below}
use Rattle.cpg_base.specs.Graph.{Graph, process_count, condition_of}
use Rattle.cpg_base.specs.Duration.{duration}
use Rattle.cpg_base.proofs.Lists.{any_below, list_any_parts, list_any_true}
use Rattle.cpg_scenario.specs.declared.fault.Cause.{Cause}
use Rattle.cpg_scenario.specs.declared.fault.Cause.TheVariants.{Toml, Field, Unknown, Condition, Budget, Length}
use Rattle.cpg_scenario.specs.declared.fault.ScenarioFault.TheVariants.{Bad}
use Rattle.cpg_scenario.specs.declared.reading.Played.{Played}
use Rattle.cpg_scenario.specs.File.{top_keys, are_among, is_typed, are_typed, is_table_of, has_fields, process_names}
use Rattle.cpg_scenario.specs.File.{are_named, has_names, value_given, may_have_value, has_conditions, count_given}
use Rattle.cpg_scenario.specs.File.{count_of, is_natural, keeps_budget, length_given, is_length, is_length_if}
use Rattle.cpg_scenario.specs.File.{keeps_lengths, lengths_of, scenario_of, Reading, played_if, file_of}
use Rattle.cpg_scenario.specs.Causes.{document_of, Stands, HasEntry, HasOtherKey, HasOtherType, IsNoTableOf}
use Rattle.cpg_scenario.specs.Causes.{HasBadField, HasUnknownName, HasBadValue, IsNegative, HasNegativeCount}
use Rattle.cpg_scenario.specs.Causes.{IsOverBudget}
use Rattle.cpg_scenario.specs.Causes.{IsNoLength, HasBadLength, IsIn, rank_of_cause, FirstCausesAreTold}
use Rattle.cpg_scenario.proofs.Filling.{all_pass, one_fails}

-- ---- a test, and the fact that holds if it fails

-- a test fails exactly if a fact holds
abbrev Fails : Bool → Type 0 → Type 0
Fails test Fact = (test ≡ false) ↔ Fact

-- two tests together fail exactly if one of two facts holds
both : (a b : Bool) (A B : Type 0) → Fails a A → Fails b B → Fails (a && b) (A ⊎ B)
both false b A B f g = (λ e. inl (f.0 refl), λ s. refl)
both true b A B f g = (λ e. inr (g.0 e), λ s. elim s [ inl x ↦ absurd (true≢false (f.1 x)) | inr y ↦ g.1 y ])

-- if a test fails exactly if a fact holds, it does so exactly if an equivalent fact holds
through : (test : Bool) (A B : Type 0) → Fails test A → (A → B) → (B → A) → Fails test B
through test A B f on back = (λ e. on (f.0 e), λ b. f.1 (back b))

-- one of three facts, grouped to the right
next : {A B C : Type 0} → (A ⊎ B) ⊎ C → A ⊎ (B ⊎ C)
next (inl (inl x)) = inl x
next (inl (inr y)) = inr (inl y)
next (inr z) = inr (inr z)

-- one of three facts, grouped to the left
back : {A B C : Type 0} → A ⊎ (B ⊎ C) → (A ⊎ B) ⊎ C
back (inl x) = inl (inl x)
back (inr (inl y)) = inl (inr y)
back (inr (inr z)) = inr z

-- three tests together fail exactly if one of three facts holds
three : (a b c : Bool) (A B C : Type 0) → Fails a A → Fails b B → Fails c C → Fails ((a && b) && c) (A ⊎ (B ⊎ C))
three a b c A B C f g h =
    through ((a && b) && c) ((A ⊎ B) ⊎ C) (A ⊎ (B ⊎ C)) (both (a && b) c (A ⊎ B) C (both a b A B f g) h) next back

-- four tests together fail exactly if one of four facts holds
four : (a b c d : Bool) (A B C D : Type 0) → Fails a A → Fails b B → Fails c C → Fails d D →
    Fails (((a && b) && c) && d) (A ⊎ (B ⊎ (C ⊎ D)))
four a b c d A B C D f g h i = through (((a && b) && c) && d) ((A ⊎ B) ⊎ (C ⊎ D)) (A ⊎ (B ⊎ (C ⊎ D)))
    (through (((a && b) && c) && d) (((A ⊎ B) ⊎ C) ⊎ D) ((A ⊎ B) ⊎ (C ⊎ D))
    (both ((a && b) && c) d ((A ⊎ B) ⊎ C) D (both (a && b) c (A ⊎ B) C (both a b A B f g) h) i) next back) next back

-- a test that passes, for a fact that can't hold
never : (A : Type 0) → (A → ⊥) → Fails true A
never A none = (λ e. absurd (true≢false e), λ a. absurd (none a))

-- a test that fails, for a fact that holds
always : (A : Type 0) → A → Fails false A
always A a = (λ e. a, λ b. refl)

-- given a test p of all numbers below n
module _ (p : ℕ → Bool) (n : ℕ) where
  -- if not all numbers pass, some number fails; by looking for it, as otherwise all would pass
  some_fails : list_all p (numbers_below n) ≡ false → (i : ℕ) × (i < n) × (p i ≡ false)
  some_fails e = elim (any_below (λ i. not (p i)) n) [
    | inl r ↦ (r.0, r.1, off (p r.0) r.2)
    | inr h ↦ absurd (both_ways (list_all p (numbers_below n)) e (all_pass p n (λ i l. on (p i) (h i l))))
  ]
    where
      -- if the negation of b is true, b is false
      off : (b : Bool) → not b ≡ true → b ≡ false
      off true is_true = absurd (true≢false (sym is_true))
      off false is_true = refl

      -- if the negation of b is false, b is true
      on : (b : Bool) → not b ≡ false → b ≡ true
      on true is_false = refl
      on false is_false = absurd (true≢false is_false)

-- ---- tables

-- given a fact about entries
module _ (Fact : List ℕ → Data → Type 0) where
  -- if the fact holds for the first entry or for one of the others, it holds for an entry of the table
  first_entry : (key : List ℕ) (d : Data) (ms : Members) → Fact key d ⊎ HasEntry ms Fact →
      HasEntry (member key d ms) Fact
  first_entry key d ms (inl fact) = record { key = key; value = d; stands = inl (refl, refl); fact = fact }
  first_entry key d ms (inr other) =
      record { key = other.key; value = other.value; stands = inr other.stands; fact = other.fact }

  -- conversely, an entry for which it holds is the first or one of the others
  entry_first : (key : List ℕ) (d : Data) (ms : Members) (k : List ℕ) (e : Data) → Stands (member key d ms) k e →
      Fact k e →
      Fact key d ⊎ HasEntry ms Fact
  entry_first key d ms k e (inl same) fact = inl (subst (λ x. Fact key x) same.1 (subst (λ x. Fact x e) same.0 fact))
  entry_first key d ms k e (inr later) fact = inr (record { key = k; value = e; stands = later; fact = fact })

-- the test that a key is among some keys fails exactly if it isn't
among : (key : List ℕ) (keys : List (List ℕ)) → Fails (list_any (bytes_eq key) keys) (Contains keys key → ⊥)
among key keys = (
  λ e is_among. both_ways (list_any (bytes_eq key) keys) e
      (list_any_true (bytes_eq key) keys key is_among ((bytes_eq-Decides key key).1 refl)),
  λ none. false_from_ne_true (list_any (bytes_eq key) keys) (λ t.
      let equal_key = list_any_parts (bytes_eq key) keys t in
      none (subst (Contains keys) (sym ((bytes_eq-Decides key equal_key.0).0 equal_key.2)) equal_key.1)),
)

-- the test that all keys of a table are among some keys fails exactly if the table has another key
keys_among : (keys : List (List ℕ)) (ms : Members) → Fails (are_among keys ms) (HasOtherKey keys ms)
keys_among keys no_members = never (HasOtherKey keys no_members) (λ h. h.stands)
keys_among keys (member key d ms) = through _ _ _ (both _ _ _ _ (among key keys) (keys_among keys ms))
    (first_entry (λ key d. Contains keys key → ⊥) key d ms)
    (λ h. entry_first (λ key d. Contains keys key → ⊥) key d ms h.key h.value h.stands h.fact)

-- the test of the types of a table's entries fails exactly if one has another type
entries_typed : (flags : Bool) (ms : Members) → Fails (are_typed flags ms) (HasOtherType flags ms)
entries_typed flags no_members = never (HasOtherType flags no_members) (λ h. h.stands)
entries_typed flags (member key d ms) = through _ _ _ (both _ _ _ _ (λ e. e, λ e. e) (entries_typed flags ms))
    (first_entry (λ key d. is_typed flags d ≡ false) key d ms)
    (λ h. entry_first (λ key d. is_typed flags d ≡ false) key d ms h.key h.value h.stands h.fact)

-- The test of what a key has fails exactly if the key is there and has something else than a table of such entries. By
-- what it has: anything but a table fails.
is_table : (flags : Bool) (o : Option Data) → Fails (is_table_of flags o) (IsSomeAnd o (IsNoTableOf flags))
is_table flags None = never ⊥ (λ h. h)
is_table flags (Some (string s)) = always ⊤ tt
is_table flags (Some (integer z)) = always ⊤ tt
is_table flags (Some (float x)) = always ⊤ tt
is_table flags (Some (boolean b)) = always ⊤ tt
is_table flags (Some (datetime dt)) = always ⊤ tt
is_table flags (Some (array ds)) = always ⊤ tt
is_table flags (Some (table ms)) = entries_typed flags ms

-- the test that a table's keys are names of processes fails exactly if there is a table and one of its keys isn't
named : (g : Graph) (o : Option Members) → Fails (are_named g o) (IsSomeAnd o (HasOtherKey (process_names g)))
named g None = never ⊥ (λ h. h)
named g (Some ms) = keys_among (process_names g) ms

-- the test of all fields fails exactly if there is a bad one
fields_fail : (ms : Members) → Fails (has_fields ms) (HasBadField ms)
fields_fail ms = four _ _ _ _ _ _ _ _ (keys_among top_keys ms) (is_table false (get_member (codes "faults") ms))
    (is_table true (get_member (codes "values") ms)) (is_table false (get_member (codes "lengths") ms))

-- the test of all names fails exactly if there is an unknown one
names_fail : (g : Graph) (ms : Members) → Fails (has_names g ms) (HasUnknownName g ms)
names_fail g ms = three _ _ _ _ _ _ (named g (option_and_then as_table (get_member (codes "faults") ms)))
    (named g (option_and_then as_table (get_member (codes "values") ms)))
    (named g (option_and_then as_table (get_member (codes "lengths") ms)))

-- ---- values, counts and lengths

module _ (g : Graph) (ms : Members) where
  -- a process whose test fails is given a value and has no condition
  bad_value : (p : ℕ) → p < process_count g → (given : Option Bool) → value_given g ms p ≡ given → (c : Option ℕ) →
      condition_of g p ≡ c → (not (is_some given) || is_some c) ≡ false →
      HasBadValue g ms
  bad_value p below None p_is c k is_false = absurd (true≢false is_false)
  bad_value p below (Some b) p_is None k is_false = record {
    process = p;
    within = below;
    value = b;
    given = p_is;
    none = k;
  }
  bad_value p below (Some b) p_is (Some c) k is_false = absurd (true≢false is_false)

  -- the test that values are of conditions fails exactly if one isn't
  conditions_fail : Fails (has_conditions g ms) (HasBadValue g ms)
  conditions_fail = (
    λ e. let bad_one = some_fails (may_have_value g ms) (process_count g) e in
        bad_value bad_one.0 bad_one.1 (value_given g ms bad_one.0) refl (condition_of g bad_one.0) refl bad_one.2,
    λ bad. one_fails (may_have_value g ms) (process_count g) bad.process bad.within (rw (bad.given, bad.none) refl),
  )

  -- the test for a natural number fails exactly if it is negative
  negative : (z : ℤ) → Fails (is_natural z) (IsNegative z)
  negative (pos n) = never ⊥ (λ h. h)
  negative (negsuc n) = always ⊤ tt

  -- the test of the counts fails exactly if one is below 0
  counts_fail : Fails (list_all (λ p. is_natural (count_given g ms p)) (numbers_below (process_count g)))
      (HasNegativeCount g ms)
  counts_fail = (
    λ e. let bad_one = some_fails (λ p. is_natural (count_given g ms p)) (process_count g) e in
        record {
          process = bad_one.0;
          within = bad_one.1;
          negative = (negative (count_given g ms bad_one.0)).0 bad_one.2;
        },
    λ bad. one_fails (λ p. is_natural (count_given g ms p)) (process_count g) bad.process bad.within
        ((negative (count_given g ms bad.process)).1 bad.negative),
  )

  -- the test for `at most` fails exactly if the number is greater
  above : (n m : ℕ) → Fails (nat_le n m) (m < n)
  above n m = (
    λ e. elim (cases_Bool (nat_le n m)) [
      | inl is_true ↦ absurd (both_ways (nat_le n m) e is_true)
      | inr is_false ↦ leb-false n m is_false
    ],
    λ l. lt-leb n m l,
  )

  -- the test of the budget fails exactly if a count is below 0 or all together are too many
  budget_fails : Fails (keeps_budget g ms) (IsOverBudget g ms)
  budget_fails = both _ _ _ _ counts_fail (above (sum_by (count_of g ms) (numbers_below (process_count g))) g.faults)

  -- the test of a length fails exactly if it is below 1 or above the longest
  no_length : (longest : ℕ) (z : ℤ) → Fails (is_length longest z) (IsNoLength longest z)
  no_length longest (pos n) = both _ _ _ _ (above 1 n) (above n longest)
  no_length longest (negsuc n) = always ⊤ tt

  -- a length that fails its test is a bad length
  bad_length : (p : ℕ) → p < process_count g → (given : Option ℤ) → length_given g ms p ≡ given →
      is_length_if (duration g p (count_of g ms p)) given ≡ false →
      HasBadLength g ms
  bad_length p below None is is_false = absurd (true≢false is_false)
  bad_length p below (Some z) is is_false = record {
    process = p;
    within = below;
    length = z;
    given = is;
    bad = (no_length (duration g p (count_of g ms p)) z).0 is_false;
  }

  -- the test of all lengths fails exactly if there is a bad one
  lengths_fail : Fails (keeps_lengths g ms) (HasBadLength g ms)
  lengths_fail = (
    λ e. let bad_one =
        some_fails (λ p. is_length_if (duration g p (count_of g ms p)) (length_given g ms p)) (process_count g) e in
        bad_length bad_one.0 bad_one.1 (length_given g ms bad_one.0) refl bad_one.2,
    λ h. one_fails (λ p. is_length_if (duration g p (count_of g ms p)) (length_given g ms p))
        (process_count g) h.process h.within
        (ap (is_length_if (duration g h.process (count_of g ms h.process))) h.given
        ∙ (no_length (duration g h.process (count_of g ms h.process)) h.length).1 h.bad),
  )

-- ---- the first test that fails

-- the causes, in the order of their tests
abbrev cause_at : ℕ → Cause
cause_at zero = Toml
cause_at (suc zero) = Field
cause_at (suc (suc zero)) = Unknown
cause_at (suc (suc (suc zero))) = Condition
cause_at (suc (suc (suc (suc zero)))) = Budget
cause_at n = Length

-- a cause is the one at its place
at_place : (cause : Cause) → cause_at (rank_of_cause cause) ≡ cause
at_place Toml = refl
at_place Field = refl
at_place Unknown = refl
at_place Condition = refl
at_place Budget = refl
at_place Length = refl

-- there are six causes, so each place is below 6
few : (cause : Cause) → rank_of_cause cause < 6
few Toml = omega arith
few Field = omega arith
few Unknown = omega arith
few Condition = omega arith
few Budget = omega arith
few Length = omega arith

-- causes with the same rank are equal
same_place : (c e : Cause) → rank_of_cause c ≡ rank_of_cause e → c ≡ e
same_place c e is = sym (at_place c) ∙ ap cause_at is ∙ at_place e

-- equal rejections have equal causes
same_bad : (c e : Cause) → (let r : Reading = Err (Bad c) in r) ≡ Err (Bad e) → c ≡ e
same_bad c e is = cc

-- a reading isn't both rejected and played
bad_well : {P : Type 0} (c : Cause) (p : Played) → (let r : Reading = Err (Bad c) in r) ≡ Ok p → P
bad_well c p is = cc

-- these are the causes at the places from n on, in order, up to the last
abbrev Rise : ℕ → List Cause → Type 0
Rise n [] = n ≡ 6
Rise n (c ∷ cs) = (rank_of_cause c ≡ n) × Rise (suc n) cs

-- given a test for each cause, and what is returned if all pass
module _ (test : Cause → Bool) (played : Played) where
  -- what is returned if the tests of these causes are made one after another
  abbrev told : List Cause → Reading
  told [] = Ok played
  told (c ∷ cs) = if not (test c) then Err (Bad c) else told cs

  -- the tests of all causes before the n-th pass
  abbrev Pass : ℕ → Type 0
  Pass n = (c : Cause) → rank_of_cause c < n → test c ≡ true

  -- if the tests of all causes before a cause pass, and its own does, all up to it pass
  pass_more : (c : Cause) → Pass (rank_of_cause c) → test c ≡ true → Pass (suc (rank_of_cause c))
  pass_more c before here e l = elim (cases_lt (rank_of_cause e) (rank_of_cause c)) [
    | inl lt ↦ before e lt
    | inr ge ↦ let same : rank_of_cause c ≡ rank_of_cause e = omega (arith, l, ge) in
        subst (λ x. test x ≡ true) (same_place c e same) here
  ]

  -- `pass_more` for a cause that is given by its place n
  pass_next : (n : ℕ) (c : Cause) → rank_of_cause c ≡ n → Pass n → test c ≡ true → Pass (suc n)
  pass_next n c at before here = subst (λ m. Pass (suc m)) at (pass_more c (subst Pass (sym at) before) here)

  -- the test of a cause fails, and those of all causes before it pass
  abbrev IsFirstFailure : Cause → Type 0
  IsFirstFailure cause = (test cause ≡ false) × Pass (rank_of_cause cause)

  -- if the first test passes, the others decide
  goes_on : (c : Cause) (cs : List Cause) → test c ≡ true → told (c ∷ cs) ≡ told cs
  goes_on c cs pass = rw pass refl

  -- if the first test fails, its cause is returned
  stops : (c : Cause) (cs : List Cause) → test c ≡ false → told (c ∷ cs) ≡ Err (Bad c)
  stops c cs fail = rw fail refl

  -- The cause that is returned is the first whose test fails. By induction on the causes from n on, as those before n
  -- pass.
  told_first : (cs : List Cause) (n : ℕ) → Rise n cs → Pass n → (cause : Cause) → told cs ≡ Err (Bad cause) →
      IsFirstFailure cause
  told_first [] n rise before cause returned = cc
  told_first (c ∷ cs) n rise before cause returned = elim (cases_Bool (test c)) [
    | inl pass ↦ told_first cs (suc n) rise.1 (pass_next n c rise.0 before pass) cause
        (sym (goes_on c cs pass) ∙ returned)
    | inr fail ↦
        subst IsFirstFailure (same_bad c cause (sym (stops c cs fail) ∙ returned))
        (fail, subst Pass (sym rise.0) before)
  ]

  -- The first cause whose test fails is returned. By induction on the causes from n on: this cause, or one after it.
  first_told : (cs : List Cause) (n : ℕ) → Rise n cs → (cause : Cause) → n ≤ rank_of_cause cause →
      IsFirstFailure cause →
      told cs ≡ Err (Bad cause)
  first_told [] n rise cause from_n first =
      let few_causes = few cause in absurd (omega (arith, few_causes, from_n, rise))
  first_told (c ∷ cs) n rise cause from_n first = elim (cases_lt n (rank_of_cause cause)) [
    | inl lt ↦ let at = rise.0 in
        goes_on c cs (first.1 c (omega (arith, at, lt))) ∙ first_told cs (suc n) rise.1 cause lt first
    | inr ge ↦ let at = rise.0 in let same : rank_of_cause cause ≡ rank_of_cause c = omega (arith, at, from_n, ge) in
        let is = same_place cause c same in
        stops c cs (subst (λ x. test x ≡ false) is first.0) ∙ ap (λ x. Err (Bad x)) (sym is)
  ]

  -- if all tests pass, the scenario is returned
  told_well : (cs : List Cause) → ((c : Cause) → test c ≡ true) → told cs ≡ Ok played
  told_well [] pass = refl
  told_well (c ∷ cs) pass = goes_on c cs (pass c) ∙ told_well cs pass

  -- if a scenario is returned, all tests pass; by induction on the causes from n on, as those before n pass
  well_told : (cs : List Cause) (n : ℕ) → Rise n cs → Pass n → (p : Played) → told cs ≡ Ok p → (c : Cause) →
      test c ≡ true
  well_told [] n rise before p returned c = before c (let few_causes = few c in omega (arith, few_causes, rise))
  well_told (c ∷ cs) n rise before p returned other = elim (cases_Bool (test c)) [
    | inl pass ↦ well_told cs (suc n) rise.1 (pass_next n c rise.0 before pass) p
        (sym (goes_on c cs pass) ∙ returned) other
    | inr fail ↦ bad_well c p (sym (stops c cs fail) ∙ returned)
  ]

-- ---- the file

-- given a document
module _ (g : Graph) (ms : Members) where
  -- the test of each cause; that the bytes spell a document is known
  abbrev test : Cause → Bool
  test Toml = true
  test Field = has_fields ms
  test Unknown = has_names g ms
  test Condition = has_conditions g ms
  test Budget = keeps_budget g ms
  test Length = keeps_lengths g ms

  -- the test of a cause fails exactly if the cause is there
  fails : (cause : Cause) → Fails (test cause) (IsIn g (Some ms) cause)
  fails Toml = never (Some ms ≡ None) (λ e. cc)
  fails Field = fields_fail ms
  fails Unknown = names_fail g ms
  fails Condition = conditions_fail g ms
  fails Budget = budget_fails g ms
  fails Length = lengths_fail g ms

  -- what the document says
  abbrev played : Played
  played = record { scenario = scenario_of g ms; lengths = lengths_of g ms }

  -- the test of a cause that isn't there passes
  passes : (cause : Cause) → (IsIn g (Some ms) cause → ⊥) → test cause ≡ true
  passes cause none = true_from_ne_false (test cause) (λ e. none ((fails cause).0 e))

-- a document, or none, is rejected for its first cause, and played if there is none
abbrev Judged : Graph → Option Members → Type 0
Judged g document =
    ((cause : Cause) → played_if g document ≡ Err (Bad cause) ↔ (IsIn g document cause ×
    ((other : Cause) → rank_of_cause other < rank_of_cause cause → IsIn g document other → ⊥)))
    × (((p : Played) × (played_if g document ≡ Ok p)) ↔ ((cause : Cause) → IsIn g document cause → ⊥))

-- This holds of each document. Without one, `Toml` is the one cause. With one, its tests are made in the order of the
-- causes, and the first that fails, by `told_first` and `first_told`, is the first cause.
judged : (g : Graph) (document : Option Members) → Judged g document
judged g None = (
  λ cause. (λ e. at cause (let same : Toml ≡ cause = cc in same), λ h. back cause h.0),
  (λ (p, e). cc, λ none. absurd (none Toml refl)),
)
  where
    -- `Toml` is there and is the first
    at : (cause : Cause) → Toml ≡ cause →
        IsIn g None cause × ((other : Cause) → rank_of_cause other < rank_of_cause cause → IsIn g None other → ⊥)
    at cause same =
        subst (λ c. IsIn g None c × ((other : Cause) → rank_of_cause other < rank_of_cause c → IsIn g None other → ⊥))
        same
        (refl, λ other l h. absurd (omega (arith, l)))

    -- without a document no other cause is there
    back : (cause : Cause) → IsIn g None cause → played_if g None ≡ Err (Bad cause)
    back Toml h = refl
    back Field h = absurd h
    back Unknown h = absurd h
    back Condition h = absurd h
    back Budget h = absurd h
    back Length h = absurd h
judged g (Some ms) = (
  λ cause. (
    λ e. let first = told_first (test g ms) (played g ms) order 1 rise start cause e in (
      (fails g ms cause).0 first.0,
      λ other l h. both_ways (test g ms other) ((fails g ms other).1 h) (first.1 other l),
    ),
    λ h. first_told (test g ms) (played g ms) order 1 rise cause (behind cause h.0)
        ((fails g ms cause).1 h.0, λ other l. passes g ms other (h.1 other l)),
  ),
  (
    λ (p, e). λ cause h. both_ways (test g ms cause) ((fails g ms cause).1 h)
        (well_told (test g ms) (played g ms) order 1 rise start p e cause),
    λ none. (played g ms, told_well (test g ms) (played g ms) order (λ c. passes g ms c (none c))),
  ),
)
  where
    -- the causes that a document is tested for
    order : List Cause
    order = Field ∷ Unknown ∷ Condition ∷ Budget ∷ Length ∷ []

    -- these causes are those from the second on, in order
    rise : Rise 1 order
    rise = (refl, (refl, (refl, (refl, (refl, refl)))))

    -- the test of the cause before them, `Toml`, passes
    start : Pass (test g ms) (played g ms) 1
    start Toml l = refl
    start Field l = absurd (omega (arith, l))
    start Unknown l = absurd (omega (arith, l))
    start Condition l = absurd (omega (arith, l))
    start Budget l = absurd (omega (arith, l))
    start Length l = absurd (omega (arith, l))

    -- a cause that is there in a document isn't the first, `Toml`
    behind : (cause : Cause) → IsIn g (Some ms) cause → 1 ≤ rank_of_cause cause
    behind Toml h = cc
    behind Field h = omega arith
    behind Unknown h = omega arith
    behind Condition h = omega arith
    behind Budget h = omega arith
    behind Length h = omega arith

-- each file is rejected for its first cause, and gives a scenario if there is none: `judged` for the document that it
-- spells
pub first_causes_are_told : FirstCausesAreTold
unfolding file_of
first_causes_are_told g bytes = let is = judged g (document_of bytes) in record {
  refused = λ cause. (
    λ refused_for.
        let first_failed = (is.0 cause).0 refused_for in
        record { there = first_failed.0; none = first_failed.1 },
    λ first_failed. (is.0 cause).1 (first_failed.there, first_failed.none),
  );
  played = is.1;
}
