-- The files of a run say one thing. If all of them were read, none stops the run, unless memory runs out.
use Rattle.std.proofs.Common.{ℕ, ◌≡◌, ◌∙◌, Bool, true, false, List, [], ◌∷◌, ◌++◌, Option, Some, None, length, refl}
use Rattle.std.proofs.Common.{sym, ap, subst, arith, append-nil, inl, inr}
use Rattle.std.specs.Prelude.{Result, Ok, Err}
use Rattle.std.proofs.lemmas.Bool.{both_ways, true≢false}
use Rattle.std.proofs.lemmas.List.{append_assoc, length-append}
use Rattle.cpg_base.specs.Graph.{Graph}
use Rattle.cpg_history.specs.Fetch.{Fetch}
use Rattle.cpg_words.specs.Parts.{Text}
use Rattle.cpg_order.proofs.Urgent.{one_urgency_order}
use Rattle.cpg_order.specs.Urgency.{IsUrgencyOrder}
use Rattle.cpg_reader.specs.Document.{problem_of}
use Rattle.cpg_rules.specs.Admission.{Admission, IsAdmitted}
use Rattle.cpg_rules.specs.Faults.{ShowsFault}
use Rattle.cpg_rules.proofs.Exact.{no_fault}
use Rattle.cpg_codec.specs.Packs.{AreLawful}
use Rattle.cpg_codec.proofs.Theorems.{one_spelling}
use Rattle.cpg_log.proofs.ReadingLaws.{no_bad_line}
use Rattle.cpg_refusal.specs.declared.halt.Halt.{Halt}
use Rattle.cpg_refusal.specs.declared.halt.Halt.TheVariants.{Memory}
use Rattle.cpg_refusal.specs.Halts.{halt_of_rules}
use Rattle.cpg_inputs.specs.declared.kind.FileKind.{FileKind}
use Rattle.cpg_inputs.specs.declared.kind.FileKind.TheVariants.{GraphFile, PartFile, PackFile, ScenarioFile, LogFile}
use Rattle.cpg_inputs.specs.Files.{File}
use Rattle.cpg_inputs.specs.Says.{Value, graph_value, part_value, tables_value, played_value, log_value, graph_after}
use Rattle.cpg_inputs.specs.Says.{AreAdmitted, Refuses, Says}
use Rattle.cpg_inputs.specs.Reading.{IsRead, Reads, StopsAt, StopsReading}

-- ---- a result is one value or one error

-- the value of a result, or d if it is an error
abbrev value_or : {T E : Type 0} → T → Result T E → T
value_or d (Ok x) = x
value_or d (Err e) = d

-- values `x` and `y` of one result `r` are equal
pub same_value : {T E : Type 0} (r : Result T E) (x y : T) → r ≡ Ok x → r ≡ Ok y → x ≡ y
same_value r x y is_x is_y = ap (value_or x) (sym is_x ∙ is_y)

-- whether a result is an error
abbrev is_fault : {T E : Type 0} → Result T E → Bool
is_fault (Ok x) = false
is_fault (Err e) = true

-- a result `r` isn't both a value `x` and an error `e`
pub not_both : {T E : Type 0} (r : Result T E) (x : T) (e : E) → r ≡ Ok x → r ≡ Err e → ⊥
not_both r x e is_x is_e = both_ways _ refl (ap is_fault (sym is_x ∙ is_e) ∙ refl)

-- ---- one graph with one order

-- two admissions have the same graph and the same urgency order
pub record AreAlike (a b : Admission) : Type 0 where
  pub graph : b.graph ≡ a.graph
  pub order : b.order ≡ a.order

-- if the admissions `a` and `b` are both of the graph that `bytes` say, they have one graph and one order
pub admitted_alike : (bytes : Text) (a b : Admission) → AreAdmitted bytes a → AreAdmitted bytes b → AreAlike a b
admitted_alike bytes a b a_admitted b_admitted =
    let same : b.graph ≡ a.graph = same_value (problem_of bytes) b.graph a.graph b_admitted.says a_admitted.says in
    record {
      graph = same;
      order = one_urgency_order a.graph b.order a.order
          (subst (λ g. IsUrgencyOrder g b.order) same b_admitted.admitted.urgency) a_admitted.admitted.urgency;
    }

-- if admissions `a` and `b` are alike, what holds of the graph and order of `b` holds of those of `a`
pub moved : (a b : Admission) → AreAlike a b → (P : Graph → List ℕ → Type 0) → P b.graph b.order → P a.graph a.order
moved a b same P holds = subst (P a.graph) same.order (subst (λ g. P g b.order) same.graph holds)

-- ---- one value

-- two values of one kind are alike: admissions if their graphs and orders are, logs always, and any others if the
-- second is equal to the first
abbrev pub IsAlike : Value → Value → Type 0
IsAlike (graph_value a) (graph_value b) = AreAlike a b
IsAlike (part_value graph) (part_value other) = other ≡ graph
IsAlike (tables_value tables) (tables_value other) = other ≡ tables
IsAlike (played_value played) (played_value other) = other ≡ played
IsAlike (log_value log) (log_value other) = Unit {0}
IsAlike v w = ⊥

-- two lists have values that are alike, one by one
abbrev pub AllAlike : List Value → List Value → Type 0
AllAlike [] [] = Unit {0}
AllAlike [] (w ∷ ws) = ⊥
AllAlike (v ∷ vs) [] = ⊥
AllAlike (v ∷ vs) (w ∷ ws) = IsAlike v w × AllAlike vs ws

-- values `v` and `w` are alike if they equal values `x` and `y` that are alike
as_known : (v w x y : Value) → v ≡ x → w ≡ y → IsAlike x y → IsAlike v w
as_known v w x y v_is w_is alike = subst (λ u. IsAlike u w) (sym v_is) (subst (IsAlike x) (sym w_is) alike)

-- The values `v` and `w` that the same bytes say as a file of kind `k` are alike. By the kind: bytes say one graph, one
-- scenario, and spell one list of tables.
pub says_alike : (g : Option Graph) (k : FileKind) (bytes : Text) (v w : Value) → Says g k bytes v → Says g k bytes w →
    IsAlike v w
says_alike g GraphFile bytes v w (a, v_is, a_said) (b, w_is, b_said) =
    as_known v w (graph_value a) (graph_value b) v_is w_is (admitted_alike bytes a b a_said b_said)
says_alike g PartFile bytes v w (a, v_is, a_said) (b, w_is, b_said) =
    as_known v w (part_value a) (part_value b) v_is w_is (same_value (problem_of bytes) b a b_said a_said)
says_alike g PackFile bytes v w (t, v_is, t_said) (u, w_is, u_said) =
    as_known v w (tables_value t) (tables_value u) v_is w_is
    (sym (one_spelling t u [] t_said.lawful u_said.lawful (sym t_said.spelled ∙ u_said.spelled ∙ sym (append-nil _))).0)
says_alike (Some g) ScenarioFile bytes v w (p, v_is, p_said) (q, w_is, q_said) =
    as_known v w (played_value p) (played_value q) v_is w_is (same_value _ q p q_said.says p_said.says)
says_alike (Some g) LogFile bytes v w (l, v_is, l_said) (m, w_is, m_said) =
    as_known v w (log_value l) (log_value m) v_is w_is tt
says_alike None ScenarioFile bytes v w v_said w_said = absurd v_said
says_alike None LogFile bytes v w v_said w_said = absurd v_said

-- after two values `v` and `w` that the same bytes say as a file of kind `k`, later files are read for the same graph
pub says_after : (g : Option Graph) (k : FileKind) (bytes : Text) (v w : Value) → Says g k bytes v → Says g k bytes w →
    graph_after g w ≡ graph_after g v
says_after g GraphFile bytes v w (a, v_is, a_said) (b, w_is, b_said) =
    ap (graph_after g) w_is ∙ (ap Some (admitted_alike bytes a b a_said b_said).graph ∙ sym (ap (graph_after g) v_is))
says_after g PartFile bytes v w (a, v_is, a_said) (b, w_is, b_said) =
    ap (graph_after g) w_is ∙ sym (ap (graph_after g) v_is)
says_after g PackFile bytes v w (t, v_is, t_said) (u, w_is, u_said) =
    ap (graph_after g) w_is ∙ sym (ap (graph_after g) v_is)
says_after (Some g) ScenarioFile bytes v w (p, v_is, p_said) (q, w_is, q_said) =
    ap (graph_after (Some g)) w_is ∙ sym (ap (graph_after (Some g)) v_is)
says_after (Some g) LogFile bytes v w (l, v_is, l_said) (m, w_is, m_said) =
    ap (graph_after (Some g)) w_is ∙ sym (ap (graph_after (Some g)) v_is)
says_after None ScenarioFile bytes v w v_said w_said = absurd v_said
says_after None LogFile bytes v w v_said w_said = absurd v_said

-- ---- no file that is read stops a run

-- Bytes that say a value `v` as a file of kind `k` aren't rejected, unless memory runs out. By the kind: they would
-- both give a value and an error, or an admitted graph would break a rule.
pub not_refused : (g : Option Graph) (k : FileKind) (bytes : Text) (v : Value) (h : Halt) → Says g k bytes v →
    Refuses g k bytes h → h ≡ Memory
not_refused g GraphFile bytes v h (a, v_is, said) (inl faulty) =
    absurd (not_both (problem_of bytes) a.graph faulty.fault said.says faulty.first)
not_refused g GraphFile bytes v h (a, v_is, said) (inr none) =
    let broken = none.breaks in
    let same : none.graph ≡ a.graph = same_value (problem_of bytes) none.graph a.graph none.says said.says in
    broken.halt_is ∙ ap (halt_of_rules none.graph)
    (no_fault a.graph a.order a.guards said.admitted broken.fault
    (subst (λ g. ShowsFault g broken.fault) same broken.shows))
not_refused g PartFile bytes v h (a, v_is, said) faulty =
    absurd (not_both (problem_of bytes) a faulty.fault said faulty.first)
not_refused g PackFile bytes v h (t, v_is, said) none = absurd (none.bad.no_pack t said.lawful said.spelled)
not_refused (Some g) ScenarioFile bytes v h (p, v_is, said) none = absurd (not_both _ p none.fault said.says none.first)
not_refused (Some g) LogFile bytes v h (l, v_is, said) none =
    absurd (no_bad_line g bytes l said.says none.line none.bad)
not_refused None ScenarioFile bytes v h said none = absurd said
not_refused None LogFile bytes v h said none = absurd said

-- a file `f` that was read, with value `v`, doesn't stop the run, unless memory runs out
not_stopped : (g : Option Graph) (f : File) (fetch : Fetch) (v : Value) (h : Halt) → IsRead g f fetch v →
    StopsAt g f fetch h → h ≡ Memory
not_stopped g f fetch v h read (inl unread) = absurd (true≢false (sym unread.failed ∙ read.whole.sound))
not_stopped g f fetch v h read (inr (inl long)) =
    absurd (let over = long.over in let short = read.whole.short in omega (arith, over, short))
not_stopped g f fetch v h read (inr (inr (inl refused))) =
    not_refused g f.kind fetch.given v h read.says refused.refuses
not_stopped g f fetch v h read (inr (inr (inr wanting))) = wanting.halt_is

-- ---- one fetch for each file

-- a history has grown by some fetches, at its front
pub record HasGrown (past now : List Fetch) : Type 0 where
  -- these fetches, the newest first, which stand before the old ones
  pub fetches : List Fetch
  pub is : now ≡ fetches ++ past

-- a history that has grown from one with a fetch at its front has grown from the one without it
grown_on : (fetch : Fetch) (past now : List Fetch) → HasGrown (fetch ∷ past) now → HasGrown past now
grown_on fetch past now grown =
    record { fetches = grown.fetches ++ fetch ∷ []; is = grown.is ∙ sym (append_assoc grown.fetches (fetch ∷ []) past) }

-- if reading `files` leads from the history `past` to `now`, then `now` has grown from `past`
pub reads_grown : (g : Option Graph) (files : List File) (past now : List Fetch) (vs : List Value) →
    Reads g files past now vs →
    HasGrown past now
reads_grown g [] past now [] reads = record { fetches = []; is = reads }
reads_grown g [] past now (v ∷ vs) reads = absurd reads
reads_grown g (f ∷ fs) past now [] reads = absurd reads
reads_grown g (f ∷ fs) past now (v ∷ vs) reads =
    grown_on reads.0 past now (reads_grown (graph_after g v) fs (reads.0 ∷ past) now vs reads.2)

-- if the halt `h` stops the reading of `files`, between the histories `past` and `now`, then `now` has grown from
-- `past`
pub stops_grown : (g : Option Graph) (files : List File) (past now : List Fetch) (h : Halt) →
    StopsReading g files past now h →
    HasGrown past now
stops_grown g [] past now h stops = absurd stops
stops_grown g (f ∷ fs) past now h (fetch, inl here) = record { fetches = fetch ∷ []; is = here.1 }
stops_grown g (f ∷ fs) past now h (fetch, inr (v, read, there)) =
    grown_on fetch past now (stops_grown (graph_after g v) fs (fetch ∷ past) now h there)

-- the newest fetch of a history
abbrev head_or : Fetch → List Fetch → Fetch
head_or d [] = d
head_or d (f ∷ fs) = f

-- a history without its newest fetch
abbrev tail_of : List Fetch → List Fetch
tail_of [] = []
tail_of (f ∷ fs) = fs

-- a history with one more fetch, `x`, isn't the same history with `z`, then `xs`, then `y` more
too_long : (x y z : Fetch) (past xs : List Fetch) → x ∷ past ≡ y ∷ (xs ++ z ∷ past) → ⊥
too_long x y z past xs equal =
    let same_length = ap length equal in
    let appended = length-append xs (z ∷ past) in omega (arith, same_length, appended)

-- if two equal histories have the same past, the fetches `f` and `e` right after it are equal
same_fetch : (xs ys : List Fetch) (f e : Fetch) (past : List Fetch) → xs ++ f ∷ past ≡ ys ++ e ∷ past → f ≡ e
same_fetch [] [] f e past is = ap (head_or f) is
same_fetch [] (y ∷ ys) f e past is = absurd (too_long f y e past ys is)
same_fetch (x ∷ xs) [] f e past is = absurd (too_long e x f past xs (sym is))
same_fetch (x ∷ xs) (y ∷ ys) f e past is = same_fetch xs ys f e past (ap tail_of is)

-- if `now` has grown from `past` with the fetch `f`, and from `past` with the fetch `e`, then `f` is `e`
one_fetch : (past now : List Fetch) (f e : Fetch) → HasGrown (f ∷ past) now → HasGrown (e ∷ past) now → f ≡ e
one_fetch past now f e with_f with_e = same_fetch with_f.fetches with_e.fetches f e past (sym with_f.is ∙ with_e.is)

-- ---- one reading

-- Two readings of files between the same histories say values `vs` and `ws` that are alike. By induction on the files:
-- for the first, both have the same fetch, so its bytes say values that are alike, and the later files are read for the
-- same graph.
pub reads_alike : (g : Option Graph) (files : List File) (past now : List Fetch) (vs ws : List Value) →
    Reads g files past now vs → Reads g files past now ws → AllAlike vs ws
reads_alike g [] past now [] [] first_reads second_reads = tt
reads_alike g [] past now [] (w ∷ ws) first_reads second_reads = absurd second_reads
reads_alike g [] past now (v ∷ vs) ws first_reads second_reads = absurd first_reads
reads_alike g (f ∷ fs) past now [] ws first_reads second_reads = absurd first_reads
reads_alike g (f ∷ fs) past now (v ∷ vs) [] first_reads second_reads = absurd second_reads
reads_alike g (f ∷ fs) past now (v ∷ vs) (w ∷ ws) first_reads second_reads =
    let same : second_reads.0 ≡ first_reads.0 = one_fetch past now second_reads.0 first_reads.0
    (reads_grown (graph_after g w) fs (second_reads.0 ∷ past) now ws second_reads.2)
    (reads_grown (graph_after g v) fs (first_reads.0 ∷ past) now vs first_reads.2) in
    let also = subst (λ (e : Fetch). Says g f.kind e.given w) same second_reads.1.says in (
      says_alike g f.kind first_reads.0.given v w first_reads.1.says also,
      reads_alike (graph_after g v) fs (first_reads.0 ∷ past) now vs ws first_reads.2
          (subst (λ o. Reads o fs (first_reads.0 ∷ past) now ws)
          (says_after g f.kind first_reads.0.given v w first_reads.1.says also)
          (subst (λ e. Reads (graph_after g w) fs (e ∷ past) now ws) same second_reads.2)),
    )

-- If all files were read between two histories, with values `vs`, what stops a reading of them between the same (`h`)
-- is that memory ran out. By induction on the files: the file that stops it was read in the same fetch, so it isn't
-- rejected.
pub stops_memory : (g : Option Graph) (files : List File) (past now : List Fetch) (vs : List Value) (h : Halt) →
    Reads g files past now vs → StopsReading g files past now h → h ≡ Memory
stops_memory g [] past now vs h reads stops = absurd stops
stops_memory g (f ∷ fs) past now [] h reads stops = absurd reads
stops_memory g (f ∷ fs) past now (v ∷ vs) h reads (fetch, inl here) =
    let same : fetch ≡ reads.0 = one_fetch past now fetch reads.0 (record { fetches = []; is = here.1 })
    (reads_grown (graph_after g v) fs (reads.0 ∷ past) now vs reads.2) in
    not_stopped g f reads.0 v h reads.1 (subst (λ e. StopsAt g f e h) same here.0)
stops_memory g (f ∷ fs) past now (v ∷ vs) h reads (fetch, inr (w, read, there)) =
    let same : fetch ≡ reads.0 = one_fetch past now fetch reads.0
    (stops_grown (graph_after g w) fs (fetch ∷ past) now h there)
    (reads_grown (graph_after g v) fs (reads.0 ∷ past) now vs reads.2) in
    let also = subst (λ (e : Fetch). Says g f.kind e.given w) same read.says in
    stops_memory (graph_after g v) fs (reads.0 ∷ past) now vs h reads.2
    (subst (λ o. StopsReading o fs (reads.0 ∷ past) now h) (says_after g f.kind reads.0.given v w reads.1.says also)
    (subst (λ e. StopsReading (graph_after g w) fs (e ∷ past) now h) same there))

-- ---- graphs that were read are admitted, and tables lawful

-- a value is lawful: tables are, and a graph is admitted
abbrev pub IsLawfulValue : Value → Type 0
IsLawfulValue (tables_value t) = AreLawful t
IsLawfulValue (graph_value a) = IsAdmitted a.graph a.order a.guards
IsLawfulValue (part_value g) = Unit {0}
IsLawfulValue (played_value p) = Unit {0}
IsLawfulValue (log_value l) = Unit {0}

-- all of these values are lawful
abbrev pub AllLawful : List Value → Type 0
AllLawful [] = Unit {0}
AllLawful (v ∷ vs) = IsLawfulValue v × AllLawful vs

-- what bytes say as a file of kind `k`, the value `v`, is lawful
value_lawful : (g : Option Graph) (k : FileKind) (bytes : Text) (v : Value) → Says g k bytes v → IsLawfulValue v
value_lawful g GraphFile bytes v (a, v_is, said) = subst IsLawfulValue (sym v_is) said.admitted
value_lawful g PartFile bytes v (a, v_is, said) = subst IsLawfulValue (sym v_is) tt
value_lawful g PackFile bytes v (t, v_is, said) = subst IsLawfulValue (sym v_is) said.lawful
value_lawful (Some g) ScenarioFile bytes v (p, v_is, said) = subst IsLawfulValue (sym v_is) tt
value_lawful (Some g) LogFile bytes v (l, v_is, said) = subst IsLawfulValue (sym v_is) tt
value_lawful None ScenarioFile bytes v said = absurd said
value_lawful None LogFile bytes v said = absurd said

-- if reading `files` gives the values `vs`, all of them are lawful
pub values_lawful : (g : Option Graph) (files : List File) (past now : List Fetch) (vs : List Value) →
    Reads g files past now vs → AllLawful vs
values_lawful g [] past now [] reads = tt
values_lawful g [] past now (v ∷ vs) reads = absurd reads
values_lawful g (f ∷ fs) past now [] reads = absurd reads
values_lawful g (f ∷ fs) past now (v ∷ vs) reads = (
  value_lawful g f.kind reads.0.given v reads.1.says,
  values_lawful (graph_after g v) fs
      (reads.0 ∷ past) now vs reads.2,
)
