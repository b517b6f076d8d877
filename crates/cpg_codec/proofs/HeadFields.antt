-- The readers of the fields of a head, and of the whole head, read exactly the bytes of lawful ones (`Reads`, of Laws).
use Rattle.std.proofs.Common.{◌≡◌, ℕ, zero, suc, ◌+◌, ◌-◌, ◌^◌, ◌<◌, ◌≤◌, Bool, true, false, cond, eqb, ltb, List, []}
use Rattle.std.proofs.Common.{◌∷◌, ◌++◌, length, Option, Some, None, refl, sym, ap, subst, ◌∙◌, append_assoc}
use Rattle.std.proofs.Common.{arith, inl, inr, ◌⊎◌, ◌↔◌}
use Rattle.std.specs.Prelude.{IfSome, IsTrue}
use Rattle.std.specs.List.{flat_map, AllByRecursion}
use Rattle.std.specs.Int.{w16, w32, w64, to_be_bytes}
use Rattle.std.proofs.lemmas.Bool.{eqb-true, ne_eqb, ltb-true, ltb-false, cases_Bool, or_cases, or_left, or_right}
use Rattle.std.proofs.lemmas.List.{append-nil}
use Rattle.std.proofs.lemmas.List.Elements.{All-from_recursion, recursion_from_All}
use Rattle.cpg_base.specs.Name.{IsName, is_name_byte}
use Rattle.cpg_head.specs.Head.{Head, IsHeadEdge, version_of}
use Rattle.cpg_head.specs.declared.head_parts.Extra.{Extra}
use Rattle.cpg_codec.specs.Reading.{byte_by, within, down}
use Rattle.cpg_codec.specs.Spelling.{Written, written, magic, bit, byte, name_bytes, deadline_number, extra_bytes}
use Rattle.cpg_codec.specs.Spelling.{process_bytes, edge_bytes, head_bytes}
use Rattle.cpg_codec.specs.Grammar.{read_name, read_time, deadline_may, read_deadline, read_extra, read_place}
use Rattle.cpg_codec.specs.Grammar.{read_process, read_processes, read_edge, limit, head_from, read_head}
use Rattle.cpg_codec.specs.Packs.{IsPackHead}
use Rattle.cpg_codec.proofs.Laws.{Reads, pure_reads, seq, adapt, byte_reads}
use Rattle.cpg_codec.proofs.Numbers.{IsChoice, within_chooses, number_reads, field_reads, small_reads}
use Rattle.cpg_codec.proofs.Lists.{each_reads, times_reads, down_is}
use Rattle.cpg_codec.proofs.WrittenHeads.{IsExtraOf, IsWritten, none_of, AreProcesses, version_made, written_made}
use Rattle.cpg_codec.proofs.WrittenHeads.{made_lawful, written_length, head_again, head_processes, version_within}
use Rattle.cpg_codec.proofs.WrittenHeads.{limit_some}
use Rattle.cpg_codec.proofs.WrittenHeads.{limit_most, processes_limit, edges_limit}

-- ---- names

-- to spell each byte of a list by itself gives the list; by induction
singles : (bs : List ℕ) → flat_map (λ (b : ℕ). b ∷ []) bs ≡ bs
singles [] = refl
singles (b ∷ bs) = ap (λ (t : List ℕ). b ∷ t) (singles bs)

-- The reader of a name reads exactly the bytes of a well-formed name; each lemma of a reader below says the same.
-- The lemmas have one form. `seq` joins the readers of the parts, each with the function that takes its part from a
-- value. `adapt` then gets four facts: what the parts read is lawful, what is lawful the parts read, and their bytes
-- are the bytes of the value.
pub name_reads : Reads IsName name_bytes read_name
unfolding read_name
name_reads =
    adapt
    (seq length (small_reads 1 32 (omega arith) (omega arith))
    (λ c fc. times_reads (λ b. is_name_byte b ≡ true) (λ b. b ∷ []) (byte_by is_name_byte) c
    (λ _. byte_reads is_name_byte 65 refl))
    (λ c x fc fx. fx.0))
    (λ x h.
    record { some = h.0.0; short = h.0.1; plain = All-from_recursion (λ (b : ℕ). IsTrue (is_name_byte b)) x h.1.1 })
    (λ x h. ((h.some, h.short), (refl, recursion_from_All (λ (b : ℕ). IsTrue (is_name_byte b)) x h.plain)))
    (λ x h. ap (λ (t : List ℕ). length x ∷ t) (singles x))

-- ---- numbers of eight bytes

-- the reader of a time reads exactly the bytes of a time below 2^60
pub time_reads : Reads (λ t. t < 2 ^ 60) (to_be_bytes w64) read_time
unfolding read_time
time_reads = adapt (field_reads 8 0 1152921504606846975 (omega arith) (omega arith)) (λ t h. omega (arith, h.1))
    (λ t h. (omega arith, omega arith)) (λ t h. refl)

-- an own deadline is lawful: none, or at most 10^9
abbrev pub IsOwn : Option ℕ → Type 0
IsOwn o = IfSome o (λ (d : ℕ). d ≤ 1000000000)

-- the number of a deadline: at most 10^9, or 2^64 - 1 for none
IsDeadlineNumber : ℕ → Type 0
IsDeadlineNumber n = ((0 ≤ n) × (n ≤ 1000000000)) ⊎ ((18446744073709551615 ≤ n) × (n ≤ 18446744073709551615))

-- the test of the reader says whether such a number is in a range: it is the one for deadlines or the one for none
deadline_chooses : IsChoice IsDeadlineNumber deadline_may
unfolding IsDeadlineNumber
deadline_chooses = record {
  found = λ from below lt e.
      elim (or_cases (within 0 1000000000 from below) (within 18446744073709551615 18446744073709551615 from below) e) [
        | inl some ↦ let number = (within_chooses 0 1000000000 (omega arith)).found from below lt some in
            (number.0, number.1, number.2, inl number.3)
        | inr some ↦ let number =
            (within_chooses 18446744073709551615 18446744073709551615 (omega arith)).found from below lt some in
            (number.0, number.1, number.2, inr number.3)
      ];
  all = λ from below n at_least less choice. elim choice [
    | inl own ↦ or_left (within 0 1000000000 from below) (within 18446744073709551615 18446744073709551615 from below)
        ((within_chooses 0 1000000000 (omega arith)).all from below n at_least less own)
    | inr none ↦ or_right (within 0 1000000000 from below) (within 18446744073709551615 18446744073709551615 from below)
        ((within_chooses 18446744073709551615 18446744073709551615 (omega arith)).all from below n at_least less none)
  ];
}

-- the number of a deadline fits eight bytes
deadline_fits : (n : ℕ) → IsDeadlineNumber n → n < 256 ^ 8
unfolding IsDeadlineNumber
deadline_fits n (inl range) = omega (arith, range.1)
deadline_fits n (inr range) = omega (arith, range.1)

-- the deadline that a number is read as
abbrev chosen : ℕ → Option ℕ
chosen n = cond (eqb n 18446744073709551615) None (Some n)

-- the deadline that a number is read as has this number
chosen_back : (n : ℕ) → deadline_number (chosen n) ≡ n
chosen_back n = elim (cases_Bool (eqb n 18446744073709551615)) [
  | inl is_greatest ↦ rw is_greatest (sym (eqb-true n 18446744073709551615 is_greatest))
  | inr is_other ↦ rw is_other refl
]

-- a deadline that such a number is read as is lawful
deadline_to : (o : Option ℕ) → IsDeadlineNumber (deadline_number o) → o ≡ chosen (deadline_number o) → IsOwn o
unfolding IsDeadlineNumber
deadline_to None range chosen_is = tt
deadline_to (Some d) (inl range) chosen_is = range.1
deadline_to (Some d) (inr range) chosen_is = let is_end : d ≡ 18446744073709551615 = omega (arith, range.0, range.1) in
    absurd (let equal : Some d ≡ None = chosen_is ∙ rw is_end refl in cc)

-- a lawful deadline has such a number, which is read as the deadline
deadline_from : (o : Option ℕ) → IsOwn o → IsDeadlineNumber (deadline_number o) × (o ≡ chosen (deadline_number o))
unfolding IsDeadlineNumber
deadline_from None lawful = (inr (omega arith, omega arith), refl)
deadline_from (Some d) lawful = (
  inl (omega arith, lawful),
  let not_end : eqb d 18446744073709551615 ≡ false = ne_eqb d 18446744073709551615 (λ e. omega arith) in
      rw not_end refl,
)

-- 0 is such a number
deadline_zero : IsDeadlineNumber 0
unfolding IsDeadlineNumber
deadline_zero = inl (omega arith, omega arith)

-- the reader of an own deadline reads exactly the bytes of a deadline, or of none
pub deadline_reads : Reads IsOwn (λ o. to_be_bytes w64 (deadline_number o)) read_deadline
unfolding read_deadline
deadline_reads =
    adapt
    (seq deadline_number (number_reads IsDeadlineNumber deadline_may deadline_chooses 8 0 deadline_zero deadline_fits)
    (λ n fn. pure_reads (chosen n)) (λ n o fn e. ap deadline_number e ∙ chosen_back n))
    (λ o h. deadline_to o h.0 h.1) deadline_from (λ o h. append-nil (to_be_bytes w64 (deadline_number o)))

-- ---- what version 2 adds

-- the release of an extra; 0 without one
abbrev release_of : Option Extra → ℕ
release_of None = 0
release_of (Some e) = e.release

-- the deadline of an extra; none without one
abbrev deadline_of : Option Extra → Option ℕ
deadline_of None = None
deadline_of (Some e) = e.deadline

-- the extra of a release and a deadline
abbrev make_extra : ℕ → Option ℕ → Option Extra
make_extra r d = Some (record { release = r; deadline = d })

-- an extra that is made of a lawful release and a lawful deadline is lawful in version 2
extra_some_to : (x : Option Extra) → ((0 ≤ release_of x) × (release_of x ≤ 1000000000)) ×
    (IsOwn (deadline_of x) × (x ≡ make_extra (release_of x) (deadline_of x))) → IsExtraOf 2 x
extra_some_to None lawful = absurd (let equal : None ≡ make_extra 0 None = lawful.1.1 in cc)
extra_some_to (Some e) lawful = (refl, record { release = lawful.0.1; deadline = lawful.1.0 })

-- a lawful extra of version 2 has a lawful release and deadline, and is made of them
extra_some_from : (x : Option Extra) → IsExtraOf 2 x →
    ((0 ≤ release_of x) × (release_of x ≤ 1000000000)) ×
    (IsOwn (deadline_of x) × (x ≡ make_extra (release_of x) (deadline_of x)))
extra_some_from None lawful = absurd (omega (arith, lawful))
extra_some_from (Some e) lawful = ((omega arith, lawful.1.release), (lawful.1.deadline, refl))

-- the bytes of its parts are the bytes of the extra
extra_some_spell : (x : Option Extra) → IsExtraOf 2 x →
    to_be_bytes w64 (release_of x) ++ (to_be_bytes w64 (deadline_number (deadline_of x)) ++ []) ≡ extra_bytes x
extra_some_spell None lawful = absurd (omega (arith, lawful))
extra_some_spell (Some e) lawful =
    ap (λ (t : List ℕ). to_be_bytes w64 e.release ++ t) (append-nil (to_be_bytes w64 (deadline_number e.deadline)))

-- no extra is lawful in version 1
extra_none_to : (x : Option Extra) → x ≡ None → IsExtraOf 1 x
extra_none_to x is_none = rw is_none refl

-- in version 2 the reader reads exactly the bytes of a release and a deadline
extra_two : Reads (IsExtraOf 2) extra_bytes (read_extra 2)
unfolding read_extra
extra_two =
    adapt
    (seq release_of (field_reads 8 0 1000000000 (omega arith) (omega arith))
    (λ r fr. seq deadline_of deadline_reads (λ d fd. pure_reads (make_extra r d)) (λ d x fd e. ap deadline_of e))
    (λ r x fr h. ap release_of h.1))
    extra_some_to extra_some_from extra_some_spell

-- in version 1 the reader reads nothing, which is exactly the bytes of no extra
extra_one : Reads (IsExtraOf 1) extra_bytes (read_extra 1)
unfolding read_extra
extra_one = adapt (pure_reads None) extra_none_to none_of (λ x h. ap extra_bytes (sym (none_of x h)))

-- the reader of what a version adds reads exactly its bytes, for version 1 and 2
pub extra_reads : (version : ℕ) → 1 ≤ version → version ≤ 2 → Reads (IsExtraOf version) extra_bytes (read_extra version)
extra_reads zero least most = absurd (omega arith)
extra_reads (suc zero) least most = extra_one
extra_reads (suc (suc zero)) least most = extra_two
extra_reads (suc (suc (suc n))) least most = absurd (omega arith)

-- ---- processes

-- five pieces, one after another, however they are grouped
regroup_5 : (a b c d e : List ℕ) → a ++ (b ++ (c ++ (d ++ (e ++ [])))) ≡ a ++ b ++ c ++ d ++ e
regroup_5 a b c d e = simp (append_assoc, append-nil)

-- nine pieces, one after another, however they are grouped
regroup_9 : (a b c d e f g h i : List ℕ) →
    a ++ (b ++ (c ++ (d ++ (e ++ (f ++ (g ++ (h ++ (i ++ [])))))))) ≡ a ++ b ++ c ++ d ++ e ++ f ++ g ++ h ++ i
regroup_9 a b c d e f g h i = simp (append_assoc, append-nil)

-- the number of a flag is 1 exactly if it is set
flag_is : (b : Bool) → eqb (bit b) 1 ≡ b
flag_is true = refl
flag_is false = refl

-- a number within the bound of a flag is 0 or 1, and so the number of a flag
flag_back : (n m : ℕ) → n ≤ cond (ltb m 32) 1 0 → bit (eqb n 1) ≡ n
flag_back zero m within = refl
flag_back (suc zero) m within = refl
flag_back (suc (suc n)) m within = absurd (flag_below (ltb m 32) n within) where
  -- a number from 2 on is above each bound of a flag
  flag_below : (t : Bool) (n : ℕ) → suc (suc n) ≤ cond t 1 0 → ⊥
  flag_below true n within = omega arith
  flag_below false n within = omega arith

-- a flag is within its bound exactly if there are at most 32 conditions with it
flag_limit : (ones : ℕ) (b : Bool) → ones ≤ 32 → (bit b ≤ cond (ltb ones 32) 1 0) ↔ (ones + bit b ≤ 32)
flag_limit ones b le = elim (cases_Bool (ltb ones 32)) [
  | inl room ↦ let below = ltb-true ones 32 room in rw room (λ _. flag_sum b below, λ _. flag_one b)
  | inr full ↦ let at_least = ltb-false ones 32 full in rw full (λ z. omega arith, λ z. omega arith)
] where
  -- with fewer than 32 conditions there is room for one more
  flag_sum : (b : Bool) → ones < 32 → ones + bit b ≤ 32
  flag_sum true below = omega arith
  flag_sum false below = omega arith

  -- a flag is at most 1
  flag_one : (b : Bool) → bit b ≤ 1
  flag_one true = omega arith
  flag_one false = omega arith

-- the bound of a flag is a byte
flag_end : (ones : ℕ) → cond (ltb ones 32) 1 0 < 256
flag_end ones = elim (cases_Bool (ltb ones 32)) [
  | inl room ↦ rw room (omega arith)
  | inr full ↦ rw full (omega arith)
]

-- the process of these fields as they are read: its name, node, flag, times and extra
abbrev make_process : List ℕ → ℕ → ℕ → List ℕ → Option Extra → Written
make_process n a c ts e = record { process = record { name = n; node = a; condition = eqb c 1; times = ts }; extra = e }

-- a process is the one that its fields make
same_process : (w : Written) →
    w ≡ make_process w.process.name w.process.node (bit w.process.condition) w.process.times w.extra
same_process w = ap (λ (c : Bool). record {
  process = record { name = w.process.name; node = w.process.node; condition = c; times = w.process.times };
  extra = w.extra;
})
    (sym (flag_is w.process.condition))

-- a lawful process after `ones` processes with a condition: with it at most 32 have one
abbrev pub FitsBehind : ℕ → ℕ → ℕ → ℕ → Written → Type 0
FitsBehind version faults nodes ones w = IsWritten version faults nodes w × (ones + bit w.process.condition ≤ 32)

-- the reader of a process's place reads exactly the bytes of a node and a flag, which is 0 if there are 32 conditions
-- already: a byte below the number of nodes, then one of at most 0 or 1
pub place_reads : (nodes ones : ℕ) → 0 < nodes → nodes ≤ 256 →
    Reads (λ (p : ℕ × ℕ). (p.0 ≤ nodes - 1) × (p.1 ≤ cond (ltb ones 32) 1 0)) (λ (p : ℕ × ℕ). byte p.0 ++ byte p.1)
    (read_place nodes ones)
unfolding read_place
place_reads nodes ones some few =
    adapt
    (seq (λ (p : ℕ × ℕ). p.0) (small_reads 0 (nodes - 1) (omega arith) (omega arith))
    (λ a fa. seq (λ (p : ℕ × ℕ). p.1) (small_reads 0 (cond (ltb ones 32) 1 0) (omega arith) (flag_end ones))
    (λ c fc. pure_reads (a, c))
    (λ c p fc h. ap (λ (q : ℕ × ℕ). q.1) h))
    (λ a p fa h. ap (λ (q : ℕ × ℕ). q.0) h.1))
    (λ p h. (h.0.1, h.1.0.1))
    (λ p h. ((omega arith, h.0), ((omega arith, h.1), refl)))
    (λ p h. refl)

-- the reader of a process reads exactly the bytes of a process that is lawful after `ones` others with a condition
pub process_reads : (version faults nodes ones : ℕ) → 1 ≤ version → version ≤ 2 → 0 < nodes → nodes ≤ 16 → ones ≤ 32 →
    Reads (FitsBehind version faults nodes ones) process_bytes (read_process version faults nodes ones)
unfolding read_process
process_reads version faults nodes ones v1 v2 some few le =
    adapt
    -- one reader after another: the name, the node with the condition's flag, the times, and what version 2 adds
    (seq (λ (w : Written). w.process.name) name_reads
    (λ n fn.
    seq (λ (w : Written). (w.process.node, bit w.process.condition)) (place_reads nodes ones some (omega arith))
    (λ a fa. seq (λ (w : Written). w.process.times)
    (times_reads (λ t. t < 2 ^ 60) (to_be_bytes w64) read_time (faults + 1) (λ _. time_reads))
    (λ ts fts. seq (λ (w : Written). w.extra) (extra_reads version v1 v2)
    (λ e fe. pure_reads (make_process n a.0 a.1 ts e))
    -- what each reader gave is what the process has
    (λ e w fe h. ap (λ (q : Written). q.extra) h))
    (λ ts w fts h. ap (λ (q : Written). q.process.times) h.1))
    (λ a w fa h. ap (λ (q : Written). (q.process.node, bit q.process.condition)) h.1.1
    ∙ ap (λ (c : ℕ). (a.0, c)) (flag_back a.1 ones fa.1)))
    (λ n w fn h. ap (λ (q : Written). q.process.name) h.1.1.1))
    -- what the readers took is a process that fits
    (λ w h. (
      record {
        process = record {
          node = omega (arith, h.1.0.0);
          count = h.1.1.0.0;
          times = All-from_recursion (λ (t : ℕ). t < 2 ^ 60) w.process.times h.1.1.0.1;
        };
        name = h.0;
        extra =
            h.1.1.1.0;
      },
      (flag_limit ones w.process.condition le).0 h.1.0.1,
    ))
    -- and a process that fits is what they take
    (λ w h. (
      h.0.name,
      (
        (omega (arith, h.0.process.node), (flag_limit ones w.process.condition le).1 h.1),
        (
          (h.0.process.count, recursion_from_All (λ (t : ℕ). t < 2 ^ 60) w.process.times h.0.process.times),
          (h.0.extra, same_process w),
        ),
      ),
    ))
    (λ w h. regroup_5 (name_bytes w.process.name) (byte w.process.node) (byte (bit w.process.condition))
    (flat_map (to_be_bytes w64) w.process.times) (extra_bytes w.extra))

-- The reader of the processes reads exactly the bytes of that many processes, with at most 32 conditions.
-- `each_reads` walks through the processes with the number of conditions so far, which stays at most 32.
pub processes_reads : (version faults nodes count : ℕ) → 1 ≤ version → version ≤ 2 → nodes ≤ 16 →
    count ≤ limit nodes 128 →
    Reads (AreProcesses version faults nodes count 0) (flat_map process_bytes)
    (read_processes version faults nodes count)
unfolding read_processes
processes_reads version faults nodes count v1 v2 few le =
    adapt
    (each_reads (λ (ones : ℕ) (w : Written). ones + bit w.process.condition)
    (λ (left : ℕ) ones. read_process version faults nodes ones)
    (λ ls ones. (ones ≤ 32) × (0 < length ls → 0 < nodes)) (λ l ls ones. FitsBehind version faults nodes ones)
    process_bytes (λ ls ones ws. AreProcesses version faults nodes (length ls) ones ws)
    (λ l ls ones i. process_reads version faults nodes ones v1 v2 (i.1 (omega arith)) few i.0)
    (λ l ls ones w i f. (f.1, λ h. i.1 (omega arith)))
    (λ ones i. record { count_is = refl; each = tt; conditions = omega (arith, i.0) })
    (λ ones w ws g. absurd (let none : suc (length ws) ≡ 0 = g.count_is in omega arith))
    (λ l ls ones g. absurd (let none : 0 ≡ suc (length ls) = g.count_is in omega arith))
    (λ l ls ones w ws i f g.
    record { count_is = ap suc g.count_is; each = (f.0, g.each); conditions = omega (arith, g.conditions) })
    (λ l ls ones w ws i g. let counts : suc (length ws) ≡ suc (length ls) = g.count_is in (
      (g.each.0, omega (arith, g.conditions)),
      record { count_is = omega arith; each = g.each.1; conditions = omega (arith, g.conditions) },
    ))
    (down count) 0 (omega arith, λ h. limit_some nodes 128 count le (omega (arith, down_is count))))
    (λ ws g. record { count_is = g.count_is ∙ down_is count; each = g.each; conditions = g.conditions })
    (λ ws g. record { count_is = g.count_is ∙ sym (down_is count); each = g.each; conditions = g.conditions })
    (λ ws g. refl)

-- ---- edges

-- the reader of an edge reads exactly the bytes of an edge between two of the processes: two bytes, each below the
-- number of processes
pub edge_reads : (processes : ℕ) → 0 < processes → processes ≤ 256 →
    Reads (IsHeadEdge processes) edge_bytes (read_edge processes)
unfolding read_edge
edge_reads processes some few =
    adapt
    (seq (λ (e : ℕ × ℕ). e.0) (small_reads 0 (processes - 1) (omega arith) (omega arith))
    (λ f ff. seq (λ (e : ℕ × ℕ). e.1) (small_reads 0 (processes - 1) (omega arith) (omega arith))
    (λ t ft. pure_reads (f, t))
    (λ t e ft h. ap (λ (q : ℕ × ℕ). q.1) h))
    (λ f e ff h. ap (λ (q : ℕ × ℕ). q.0) h.1))
    (λ e h. record { from = omega (arith, h.0.1); to = omega (arith, h.1.0.1) })
    (λ e h. ((omega arith, omega (arith, h.from)), ((omega arith, omega (arith, h.to)), refl)))
    (λ e h. refl)

-- ---- the head

-- the bytes of the nine fields of a head, one after another, are the bytes of the head
head_spell : (h : Head) → to_be_bytes w32 magic ++
    (byte (version_of h) ++ (byte h.faults ++
    (byte (length h.nodes) ++ (flat_map name_bytes h.nodes ++
    (byte (length h.processes) ++ (flat_map process_bytes (written h)
    ++ (to_be_bytes w16 (length h.edges) ++ (flat_map edge_bytes h.edges ++ [])))))))) ≡ head_bytes h
head_spell h = regroup_9 (to_be_bytes w32 magic) (byte (version_of h)) (byte h.faults) (byte (length h.nodes))
    (flat_map name_bytes h.nodes) (byte (length h.processes))
    (flat_map process_bytes (written h)) (to_be_bytes w16 (length h.edges)) (flat_map edge_bytes h.edges)

-- a head has lawful fields, in the order in which they are read, and is the head that they make (`same`)
record Parts (h : Head) : Type 0 where
  version : (1 ≤ version_of h) × (version_of h ≤ 2)
  faults : h.faults ≤ 8
  few_nodes : length h.nodes ≤ 16
  nodes : AllByRecursion IsName h.nodes
  few : length h.processes ≤ limit (length h.nodes) 128
  processes : AreProcesses (version_of h) h.faults (length h.nodes) (length h.processes) 0 (written h)
  few_edges : length h.edges ≤ limit (length h.processes) 256
  edges : AllByRecursion (IsHeadEdge (length h.processes)) h.edges
  same : h ≡ head_from (version_of h) h.faults h.nodes (written h) h.edges

-- a head with such fields is lawful
from_parts : (h : Head) → Parts h → IsPackHead h
from_parts h parts =
    let counts = written_length h in
    subst IsPackHead (sym parts.same)
    (made_lawful (version_of h) h.faults h.nodes (written h) h.edges
    parts.version.1 parts.faults parts.few_nodes parts.nodes
    (omega (arith, counts, parts.few, limit_most (length h.nodes) 128))
    (subst (λ (c : ℕ). AreProcesses (version_of h) h.faults (length h.nodes) c 0 (written h)) (sym counts)
    parts.processes)
    (omega (arith, parts.few_edges, limit_most (length h.processes) 256))
    (subst (λ (c : ℕ). AllByRecursion (IsHeadEdge c) h.edges) (sym counts) parts.edges))

-- a lawful head has such fields, field by field: its lists by recursion, its limits as the laws of a head have them
parts_of : (h : Head) → IsPackHead h → Parts h
parts_of h lawful = record {
  version = version_within h;
  faults = lawful.within.faults;
  few_nodes = lawful.within.few_nodes;
  nodes = recursion_from_All IsName h.nodes lawful.nodes;
  few = processes_limit h lawful.within;
  processes = head_processes h lawful;
  few_edges = edges_limit h lawful.within;
  edges = recursion_from_All (IsHeadEdge (length h.processes)) h.edges lawful.within.edges;
  same = head_again h lawful.within;
}

-- The reader of a head reads exactly the bytes of a lawful head.
-- The nine fields are read in the order of `Parts`, and each later reader takes bounds from what was read before: the
-- number of processes from that of the nodes, and the edges from that of the processes.
pub head_reads : Reads IsPackHead head_bytes read_head
unfolding read_head
head_reads =
    adapt
    -- one reader after another: magic, version, fault number, nodes, processes, edges
    (seq (λ (h : Head). magic) (field_reads 4 magic magic (omega arith) (omega arith))
    (λ m fm. seq version_of (small_reads 1 2 (omega arith) (omega arith))
    (λ v fv. seq (λ (h : Head). h.faults) (small_reads 0 8 (omega arith) (omega arith))
    (λ k fk. seq (λ (h : Head). length h.nodes) (small_reads 0 16 (omega arith) (omega arith))
    (λ n fn. seq (λ (h : Head). h.nodes) (times_reads IsName name_bytes read_name n (λ _. name_reads))
    (λ ns fns. seq (λ (h : Head). length h.processes)
    (small_reads 0 (limit n 128) (omega arith) (omega (arith, limit_most n 128)))
    (λ c fc. seq written (processes_reads v k n c fv.0 fv.1 fn.1 fc.1)
    (λ ws fws. seq (λ (h : Head). length h.edges)
    (field_reads 2 0 (limit c 256) (omega arith) (omega (arith, limit_most c 256)))
    (λ e fe. seq (λ (h : Head). h.edges) (times_reads (IsHeadEdge c) edge_bytes (read_edge c) e
    (λ some. edge_reads c (limit_some c 256 e fe.1 some) (omega (arith, fc.1, limit_most n 128))))
    (λ es fes. pure_reads (head_from v k ns ws es))
    -- what each reader gave is what the head has
    (λ es h fes q. ap (λ (x : Head). x.edges) q))
    (λ e h fe q. q.0.0))
    (λ ws h fws q. ap written q.1.1 ∙ written_made v k n ns ws h.edges fv.0 fv.1 fws.each))
    (λ c h fc q. sym (written_length h) ∙ q.0.count_is))
    (λ ns h fns q. ap (λ (x : Head). x.nodes) q.1.1.1.1))
    (λ n h fn q. q.0.0))
    (λ k h fk q. ap (λ (x : Head). x.faults) q.1.1.1.1.1.1))
    (λ v h fv q. ap version_of q.1.1.1.1.1.1.1 ∙ version_made v h.faults h.nodes (written h) h.edges fv.0 fv.1))
    (λ m h fm q. omega (arith, fm.0, fm.1)))
    -- what the readers took are the parts of a head
    (λ h q. from_parts h (record {
      version = q.1.0;
      faults = q.1.1.0.1;
      few_nodes = q.1.1.1.0.1;
      nodes = q.1.1.1.1.0.1;
      few = q.1.1.1.1.1.0.1;
      processes = q.1.1.1.1.1.1.0;
      few_edges = q.1.1.1.1.1.1.1.0.1;
      edges = q.1.1.1.1.1.1.1.1.0.1;
      same = q.1.1.1.1.1.1.1.1.1;
    }))
    -- and the parts of a head are what they take
    (λ h lawful. let parts = parts_of h lawful in (
      (omega arith, omega arith),
      (
        parts.version,
        (
          (omega arith, parts.faults),
          (
            (omega arith, parts.few_nodes),
            (
              (refl, parts.nodes),
              (
                (omega arith, parts.few),
                (parts.processes, ((omega arith, parts.few_edges), ((refl, parts.edges), parts.same))),
              ),
            ),
          ),
        ),
      ),
    ))
    (λ h q. head_spell h)
