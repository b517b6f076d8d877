-- Records of a fixed number of bytes that code reads at once: if their fields are in range, the grammar reads the same.
-- Fewer bytes than a record contradict a premise.
use Rattle.std.proofs.Common.{◌≡◌, ℕ, ◌+◌, ◌-◌, ◌^◌, ◌<◌, ◌≤◌, true, cond, ltb, List, [], ◌∷◌, ◌++◌, length, get_or}
use Rattle.std.proofs.Common.{take, drop, Ok, refl, sym, ap, ap₂, ◌∙◌, arith}
use Rattle.std.specs.Int.{w64, from_be_bytes, to_be_bytes}
use Rattle.std.proofs.lemmas.Nat.{be_bytes_8}
use Rattle.std.proofs.Math.Seq.{take-length}
use Rattle.cpg_table.specs.declared.space.VariableSpace.{VariableSpace}
use Rattle.cpg_codec.specs.Fields.{field}
use Rattle.cpg_codec.specs.Spelling.{byte}
use Rattle.cpg_codec.specs.Grammar.{IsSpace, variable_count_from, variable_may, low_end, high_end, read_literal}
use Rattle.cpg_codec.specs.Grammar.{read_front, read_place, read_edge}
use Rattle.cpg_codec.proofs.Digits.{IsBytes, first_fits}
use Rattle.cpg_codec.proofs.HeadFields.{place_reads, edge_reads}
use Rattle.cpg_codec.proofs.ColumnFields.{few_fault, room_step, fault_some, range_to, may_to, literal_reads}
use Rattle.cpg_codec.proofs.ColumnFields.{front_reads}

-- the first two bytes
abbrev two : List ℕ → List ℕ
two bytes = get_or bytes 0 0 ∷ get_or bytes 1 0 ∷ []

-- the first three bytes
abbrev three : List ℕ → List ℕ
three bytes = get_or bytes 0 0 ∷ get_or bytes 1 0 ∷ get_or bytes 2 0 ∷ []

-- the first nine bytes
abbrev nine : List ℕ → List ℕ
nine bytes = get_or bytes 0 0 ∷ get_or bytes 1 0 ∷ get_or bytes 2 0 ∷ get_or bytes 3 0 ∷ get_or bytes 4 0
    ∷ get_or bytes 5 0 ∷ get_or bytes 6 0 ∷ get_or bytes 7 0 ∷ get_or bytes 8 0 ∷ []

-- as many bytes as are left after two are all of them
rest_2 : (a b : ℕ) (rest : List ℕ) → take (length (a ∷ b ∷ rest) - 2) rest ≡ rest
rest_2 a b rest = let count_is : length (a ∷ b ∷ rest) - 2 ≡ length rest = omega arith in rw count_is (take-length rest)

-- as many bytes as are left after three are all of them
rest_3 : (a b c : ℕ) (rest : List ℕ) → take (length (a ∷ b ∷ c ∷ rest) - 3) rest ≡ rest
rest_3 a b c rest =
    let count_is : length (a ∷ b ∷ c ∷ rest) - 3 ≡ length rest = omega arith in rw count_is (take-length rest)

-- as many bytes as are left after nine are all of them
rest_9 : (n : ℕ) (rest : List ℕ) → n ≡ length rest + 9 → take (n - 9) rest ≡ rest
rest_9 n rest count_is = let left_is : n - 9 ≡ length rest = omega arith in rw left_is (take-length rest)

-- the number of the first of two bytes
first_of_2 : (a b : ℕ) → field 0 1 (a ∷ b ∷ []) ≡ a
first_of_2 a b = omega arith

-- the number of the second of two bytes
second_of_2 : (a b : ℕ) → field 1 1 (a ∷ b ∷ []) ≡ b
second_of_2 a b = omega arith

-- the number of the first of three bytes
first_of_3 : (a b c : ℕ) → field 0 1 (a ∷ b ∷ c ∷ []) ≡ a
first_of_3 a b c = omega arith

-- the number of the second of three bytes
second_of_3 : (a b c : ℕ) → field 1 1 (a ∷ b ∷ c ∷ []) ≡ b
second_of_3 a b c = omega arith

-- the number of the third of three bytes
third_of_3 : (a b c : ℕ) → field 2 1 (a ∷ b ∷ c ∷ []) ≡ c
third_of_3 a b c = omega arith

-- if the first two bytes are numbers of processes, the grammar reads them as an edge: they are its spelling, and it is
-- lawful
pub edge_found : (processes : ℕ) (bytes fields : List ℕ) (from to : ℕ) → 0 < processes → processes ≤ 256 →
    2 ≤ length bytes → fields ≡ two bytes → from ≡ field 0 1 fields →
    to ≡ field 1 1 fields →
    from < processes → to < processes
    → read_edge processes bytes ≡ Ok ((from, to), take (length bytes - 2) (drop 2 bytes))
edge_found processes [] fields from to some few long ef e0 e1 lf lt = absurd (omega arith)
edge_found processes (a ∷ []) fields from to some few long ef e0 e1 lf lt = absurd (omega arith)
edge_found processes (a ∷ b ∷ rest) fields from to some few long ef e0 e1 lf lt =
    let from_is : a ≡ from = sym (e0 ∙ ap (field 0 1) ef ∙ first_of_2 a b) in
    let to_is : b ≡ to = sym (e1 ∙ ap (field 1 1) ef ∙ second_of_2 a b) in
    ap₂ (λ (x : ℕ) (y : ℕ). read_edge processes (x ∷ y ∷ rest)) from_is to_is
    ∙ (edge_reads processes some few).again (from, to) rest (record { from = lf; to = lt }) ∙
    ap (λ (t : List ℕ). Ok ((from, to), t)) (sym (rest_2 a b rest))

-- if the first two bytes are a node and a flag in range, the grammar reads them as such; the fields of the record are
-- these two bytes, and `place_reads` says that their spelling is read back
pub place_found : (nodes ones : ℕ) (bytes fields : List ℕ) (node flag : ℕ) → 0 < nodes → nodes ≤ 256 →
    2 ≤ length bytes → fields ≡ two bytes → node ≡ field 0 1 fields →
    flag ≡ field 1 1 fields →
    node < nodes → flag ≤ cond (ltb ones 32) 1 0
    → read_place nodes ones bytes ≡ Ok ((node, flag), take (length bytes - 2) (drop 2 bytes))
place_found nodes ones [] fields node flag some few long ef e0 e1 l0 l1 = absurd (omega arith)
place_found nodes ones (a ∷ []) fields node flag some few long ef e0 e1 l0 l1 = absurd (omega arith)
place_found nodes ones (a ∷ b ∷ rest) fields node flag some few long ef e0 e1 l0 l1 =
    let node_is : a ≡ node = sym (e0 ∙ ap (field 0 1) ef ∙ first_of_2 a b) in
    let flag_is : b ≡ flag = sym (e1 ∙ ap (field 1 1) ef ∙ second_of_2 a b) in
    ap₂ (λ (x : ℕ) (y : ℕ). read_place nodes ones (x ∷ y ∷ rest)) node_is flag_is
    ∙ (place_reads nodes ones some few).again (node, flag) rest (omega arith, l1) ∙
    ap (λ (t : List ℕ). Ok ((node, flag), t)) (sym (rest_2 a b rest))

-- if the first three bytes are a variable that may come here, with a range in its bounds, the grammar reads them as a
-- literal: they are its spelling, and by `room_step` there is room for it
pub literal_found : (s : VariableSpace) (left least : ℕ) (bytes fields : List ℕ) (variable low high : ℕ) → IsSpace s →
    3 ≤ length bytes → fields ≡ three bytes →
    variable ≡ field 0 1 fields →
    low ≡ field 1 1 fields → high ≡ field 2 1 fields
    → variable_may s least left variable ≡ true → low ≤ low_end s variable → low ≤ high → high ≤ high_end s variable low
    → read_literal s left least bytes ≡ Ok (
      record { variable = variable; low = low; high = high },
      take (length bytes - 3) (drop 3 bytes),
    )
literal_found s left least [] fields v lo hi is_space long ef e0 e1 e2 may_come low_fits ordered high_fits =
    absurd (omega arith)
literal_found s left least (x ∷ []) fields v lo hi is_space long ef e0 e1 e2 may_come low_fits ordered high_fits =
    absurd (omega arith)
literal_found s left least (x ∷ y ∷ []) fields v lo hi is_space long ef e0 e1 e2 may_come low_fits ordered high_fits =
    absurd (omega arith)
literal_found s left least (x ∷ y ∷ z ∷ rest) fields v lo hi is_space long ef e0 e1 e2 may_come low_fits ordered
    high_fits =
    -- the three bytes are the variable, the low and the high
    let variable_is : x ≡ v = sym (e0 ∙ ap (field 0 1) ef ∙ first_of_3 x y z) in
    let low_is : y ≡ lo = sym (e1 ∙ ap (field 1 1) ef ∙ second_of_3 x y z) in
    let high_is : z ≡ hi = sym (e2 ∙ ap (field 2 1) ef ∙ third_of_3 x y z) in
    -- the variable is allowed, and there is room for the literals after it
    let known = may_to s least left v may_come in
    let room = room_step s least v (few_fault s is_space) known.0 known.1 in
    -- so they spell a lawful literal, which the reader of literals reads
    ap₂ (λ (f : ℕ) (g : ℕ). read_literal s left least (f ∷ g ∷ z ∷ rest)) variable_is low_is
    ∙ ap (λ (h : ℕ). read_literal s left least (v ∷ lo ∷ h ∷ rest)) high_is
    ∙ (literal_reads s left least is_space (omega (arith, room, known.2))).again
    (record { variable = v; low = lo; high = hi }) rest
    (record {
      rises = known.0;
      lawful = record {
        allowed = known.1;
        range = range_to (ltb v 128) s lo hi (λ of_fault. fault_some s v known.1 of_fault)
            low_fits ordered high_fits;
      };
      leaves = known.2;
    })
    ∙ ap (λ (t : List ℕ). Ok (record { variable = v; low = lo; high = hi }, t)) (sym (rest_3 x y z rest))

-- the number of the first eight of nine bytes
column_long : (a b c d e f g h i : ℕ) →
    field 0 8 (a ∷ b ∷ c ∷ d ∷ e ∷ f ∷ g ∷ h ∷ i ∷ []) ≡ from_be_bytes w64 (a ∷ b ∷ c ∷ d ∷ e ∷ f ∷ g ∷ h ∷ [])
column_long a b c d e f g h i = omega arith

-- the number of the last of nine bytes
column_last : (a b c d e f g h i : ℕ) → field 8 1 (a ∷ b ∷ c ∷ d ∷ e ∷ f ∷ g ∷ h ∷ i ∷ []) ≡ i
column_last a b c d e f g h i = omega arith

-- nine bytes and a rest are read as a column's time and count of literals, if both are in range: they are their spelling
front_here : (s : VariableSpace) (a b c d e f g h i : ℕ) (rest fields : List ℕ) (time count : ℕ) → IsSpace s →
    IsBytes (a ∷ b ∷ c ∷ d ∷ e ∷ f ∷ g ∷ h ∷ []) →
    fields ≡ a ∷ b ∷ c ∷ d ∷ e ∷ f ∷ g ∷ h ∷ i ∷ [] → time ≡ field 0 8 fields → count ≡ field 8 1 fields
    → time < 2 ^ 60 → count ≤ variable_count_from s 0 →
    read_front s (a ∷ b ∷ c ∷ d ∷ e ∷ f ∷ g ∷ h ∷ i ∷ rest) ≡ Ok ((time, count), rest)
front_here s a b c d e f g h i rest fields time count is_space fits ef e0 e1 lt le =
    let time_is : time ≡ from_be_bytes w64 (a ∷ b ∷ c ∷ d ∷ e ∷ f ∷ g ∷ h ∷ []) =
    e0 ∙ ap (field 0 8) ef ∙ column_long a b c d e f g h i in
    let count_is : i ≡ count = sym (e1 ∙ ap (field 8 1) ef ∙ column_last a b c d e f g h i) in
    let spelled : to_be_bytes w64 time ≡ a ∷ b ∷ c ∷ d ∷ e ∷ f ∷ g ∷ h ∷ [] =
    be_bytes_8 (a ∷ b ∷ c ∷ d ∷ e ∷ f ∷ g ∷ h ∷ []) time refl fits time_is in
    ap₂ (λ (xs : List ℕ) (m : ℕ). read_front s ((xs ++ byte m) ++ rest)) (sym spelled) count_is
    ∙ (front_reads s is_space).again (time, count) rest (lt, le)

-- the grammar reads a column's first nine bytes, if they are in these bounds, from any list that has as many (`front_here`);
-- shorter lists contradict `long`
pub front_found : (s : VariableSpace) (bytes fields : List ℕ) (time count : ℕ) → IsSpace s → 9 ≤ length bytes →
    IsBytes bytes → fields ≡ nine bytes →
    time ≡ field 0 8 fields →
    count ≡ field 8 1 fields → time < 2 ^ 60 → count ≤ variable_count_from s 0
    → read_front s bytes ≡ Ok ((time, count), take (length bytes - 9) (drop 9 bytes))
front_found s (a ∷ b ∷ c ∷ d ∷ e ∷ f ∷ g ∷ h ∷ i ∷ rest) fields time count is_space long fits ef e0 e1 lt le =
    front_here s a b c d e f g h i rest fields time count is_space
    (first_fits (a ∷ b ∷ c ∷ d ∷ e ∷ f ∷ g ∷ h ∷ i ∷ rest) fits) ef e0 e1 lt le
    ∙ ap (λ (t : List ℕ). Ok ((time, count), t))
    (sym (rest_9 (length (a ∷ b ∷ c ∷ d ∷ e ∷ f ∷ g ∷ h ∷ i ∷ rest)) rest (omega arith)))
front_found s [] fields time count is_space long fits ef e0 e1 lt le = absurd (omega arith)
front_found s (a ∷ []) fields time count is_space long fits ef e0 e1 lt le = absurd (omega arith)
front_found s (a ∷ b ∷ []) fields time count is_space long fits ef e0 e1 lt le = absurd (omega arith)
front_found s (a ∷ b ∷ c ∷ []) fields time count is_space long fits ef e0 e1 lt le = absurd (omega arith)
front_found s (a ∷ b ∷ c ∷ d ∷ []) fields time count is_space long fits ef e0 e1 lt le = absurd (omega arith)
front_found s (a ∷ b ∷ c ∷ d ∷ e ∷ []) fields time count is_space long fits ef e0 e1 lt le = absurd (omega arith)
front_found s (a ∷ b ∷ c ∷ d ∷ e ∷ f ∷ []) fields time count is_space long fits ef e0 e1 lt le = absurd (omega arith)
front_found s (a ∷ b ∷ c ∷ d ∷ e ∷ f ∷ g ∷ []) fields time count is_space long fits ef e0 e1 lt le =
    absurd (omega arith)
front_found s (a ∷ b ∷ c ∷ d ∷ e ∷ f ∷ g ∷ h ∷ []) fields time count is_space long fits ef e0 e1 lt le =
    absurd (omega arith)
