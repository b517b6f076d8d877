-- A run that ends with an output, or stops with a halt, keeps what each status says.
use Rattle.std.proofs.Common.{ℕ, ◌≡◌, ◌≢◌, ◌∙◌, List, [], ◌∷◌, Some, None, length, sym, ap, subst, arith, inl, inr}
use Rattle.std.specs.Prelude.{◌⊎◌, Ok, Err}
use Rattle.std.proofs.lemmas.Option.{none-some, same_Some}
use Rattle.cpg_io.specs.Causes.{Rose}
use Rattle.cpg_history.specs.Fetch.{Fetch}
use Rattle.cpg_words.specs.Parts.{Text}
use Rattle.cpg_words.specs.Forms.{command_of}
use Rattle.cpg_words.specs.declared.command.Pair.{Pair}
use Rattle.cpg_words.specs.declared.command.Command.{Command}
use Rattle.cpg_words.specs.declared.command.Command.TheVariants.{Show, Compile, Check, Play, Node, Trial, Live, Hyper}
use Rattle.cpg_words.specs.declared.command.Command.TheVariants.{Tune, Audit}
use Rattle.cpg_base.specs.Graph.{Graph}
use Rattle.cpg_base.specs.Scenario.{Scenario}
use Rattle.cpg_base.specs.WellFormed.{WellFormed}
use Rattle.cpg_order.specs.Urgency.{IsTopological}
use Rattle.cpg_rules.specs.Admission.{Admission, IsAdmitted}
use Rattle.cpg_order.specs.Urgency.{first_order}
use Rattle.cpg_reach.specs.Wide.{IsNarrow, IsWide}
use Rattle.cpg_core.specs.declared.compiling.Compiled.{Compiled}
use Rattle.cpg_core.specs.Compiled.{IsCompiled, IsTimely, IsLate}
use Rattle.cpg_core.proofs.CompiledLaws.{first_topological, not_late_and_compiled, not_timely_and_late}
use Rattle.cpg_table.specs.declared.fault.Fault.{Fault}
use Rattle.cpg_table.specs.Lawful.{Tables}
use Rattle.cpg_table.specs.Valid.{IsValid}
use Rattle.cpg_violation.specs.Heads.{IsHeadFor}
use Rattle.cpg_codec.specs.Packs.{AreLawful}
use Rattle.cpg_hyper.specs.declared.part.Part.{Part}
use Rattle.cpg_hyper.specs.declared.part.HyperFault.{HyperFault}
use Rattle.cpg_hyper.specs.declared.part.HyperFault.TheVariants.{OutOfMemory}
use Rattle.cpg_hyper.specs.Refusals.{ShowsUnrolled}
use Rattle.cpg_refusal.specs.declared.halt.Refusal.{Refusal}
use Rattle.cpg_refusal.specs.declared.halt.Halt.{Halt}
use Rattle.cpg_refusal.specs.declared.halt.Halt.TheVariants.{Read, Refused, Late, TooWide, Unsafe, Memory}
use Rattle.cpg_refusal.specs.Lines.{line_of, status_of}
use Rattle.cpg_inputs.specs.declared.kind.FileKind.TheVariants.{PackFile}
use Rattle.cpg_inputs.specs.Files.{file, files_of}
use Rattle.cpg_inputs.specs.Says.{Value, graph_value, tables_value, played_value, log_value}
use Rattle.cpg_inputs.specs.Shapes.{HavePeriods, part_values}
use Rattle.cpg_inputs.specs.Reading.{AreSound, Reads, StopsReading}
use Rattle.cpg_inputs.proofs.OneReading.{AreAlike, moved, values_lawful}
use Rattle.cpg_inputs.proofs.Soundness.{reads_sound, sound_none, stops_sound}
use Rattle.cpg_app.specs.Causes.{IsNotUnrolled, IsUncompiled, StopsVerdict, StopsWork, first_named}
use Rattle.cpg_app.specs.Outputs.{IsMadeOf, PutsOut, packed, shown}
use Rattle.cpg_outputs.specs.Told.{Part as TookPart, Untouched}
use Rattle.cpg_app.specs.Endings.{Ran, EndsBy, EndsWith, Follows, Has, IsPrinted, IsTold, Prints, Stops}
use Rattle.cpg_app.specs.Lawful.{Asks, AsksForTables, AsksVerdict, IsClosedStream, IsFailed, IsFaultless, IsLawful}
use Rattle.cpg_app.specs.Lawful.{IsUnreadStream, IsRefusedAsWide}
use Rattle.cpg_app.proofs.Asked.{on_graph, on_judged, on_logged, on_parts, on_played, on_tables, printed, stopped_by}
use Rattle.cpg_app.proofs.Left.{CheckLeft, CompileLeft, PartsLeft, check_left, compile_left, judged_is, parts_left}
use Rattle.cpg_app.proofs.Statuses.{late_of, not_three, not_zero, of_files, of_work, read_of, refused_of, unsafe_of}
use Rattle.cpg_app.proofs.Statuses.{wide_of}
use Rattle.cpg_app.proofs.Unrolled.{not_both}

-- ---- a stream isn't fetched

-- a history with one fetch `f` more isn't the same history with two more, `e` and `d`
one_is_two : (f e d : Fetch) (past : List Fetch) → f ∷ past ≡ e ∷ d ∷ past → ⊥
one_is_two f e d past is = let lengths = ap length is in omega (arith, lengths)

-- a history isn't itself with two fetches more, `e` and `d`
none_is_two : (e d : Fetch) (past : List Fetch) → past ≡ e ∷ d ∷ past → ⊥
none_is_two e d past is = let lengths = ap length is in omega (arith, lengths)

-- given a run
module _ (r : Ran) where
  -- ---- what is told of an admitted graph, and of tables

  -- what a run that asks for the tables of admission `a` prints is made of an admission `b` that is alike, as a text or
  -- as a pack
  made_here : (a : Admission) → AsksForTables r a → (text : Text) → Prints r text →
      (spell : Graph → Compiled → Text) × (b : Admission) × AreAlike a b × IsMadeOf b spell text
  made_here a (graph, inl asks) text prints = let put = printed r _ _ asks.has text prints in
      let made = on_graph a put.0 _ put.1 put.2 in
      (shown, made.0, made.1, made.2)
  made_here a (graph, inr asks) text prints = let put = printed r _ _ asks.has text prints in
      let made = on_graph a put.0 _ put.1 put.2 in
      (packed, made.0, made.1, made.2)

  -- the graph whose tables are asked for is admitted
  admitted_here : (a : Admission) → AsksForTables r a → IsAdmitted a.graph a.order a.guards
  admitted_here a (graph, inl asks) = (values_lawful None
      (files_of (Show graph)) r.shelf.old.history r.shelf.new.history (graph_value a ∷ []) asks.has.reads).0
  admitted_here a (graph, inr asks) = (values_lawful None
      (files_of (Compile graph)) r.shelf.old.history r.shelf.new.history (graph_value a ∷ []) asks.has.reads).0

  -- the graph that is asked for is well formed
  formed : (a : Admission) → AsksForTables r a → WellFormed a.graph
  formed a asks = (admitted_here a asks).well_formed

  -- its urgency order is topological
  topological : (a : Admission) → AsksForTables r a → IsTopological a.graph a.order
  topological a asks = (admitted_here a asks).topological

  -- the order that the tables are made in is topological
  first_is_topological : (a : Admission) → AsksForTables r a → IsTopological a.graph (first_order a.graph a.order)
  first_is_topological a asks = let is = admitted_here a asks in
      first_topological a.graph a.order is.topological is.given

  -- a run that asks for tables is one whose shelf and sinks meet no fault
  tables_faultless : (a : Admission) → AsksForTables r a → IsFaultless r
  tables_faultless a (graph, inl asks) = asks.faultless
  tables_faultless a (graph, inr asks) = asks.faultless

  -- if a run that asks for the tables of admission `a` stops with halt `h`, memory ran out, or the graph is late or too
  -- wide
  tables_left : (a : Admission) → AsksForTables r a → (h : Halt) → Stops r h → CompileLeft a h
  tables_left a (graph, inl asks) h stops = elim (stopped_by r _ _ asks.has h stops) [
    | inl memory ↦ inl (ap status_of memory)
    | inr work ↦ let uncompiled = on_graph a work.0 (λ b. IsUncompiled b h) work.1 work.2 in
        compile_left a uncompiled.0 uncompiled.1 h uncompiled.2
  ]
  tables_left a (graph, inr asks) h stops = elim (stopped_by r _ _ asks.has h stops) [
    | inl memory ↦ inl (ap status_of memory)
    | inr work ↦ let uncompiled = on_graph a work.0 (λ b. IsUncompiled b h) work.1 work.2 in
        compile_left a uncompiled.0 uncompiled.1 h uncompiled.2
  ]

  -- a run that asks for a verdict on tables `t` is one whose shelf and sinks meet no fault
  check_faultless : (a : Admission) (t : Tables) → AsksVerdict r a t → IsFaultless r
  check_faultless a t (graph, pack, inl asks) = asks.faultless
  check_faultless a t (graph, pack, inr (inl play)) = play.asks.faultless
  check_faultless a t (graph, pack, inr (inr audit)) = audit.asks.faultless

  -- the tables `t` that a run is asked to judge are lawful
  pub tables_lawful : (a : Admission) (t : Tables) → AsksVerdict r a t → AreLawful t
  tables_lawful a t (graph, pack, inl asks) = (values_lawful None (files_of (Check graph pack)) r.shelf.old.history
      r.shelf.new.history (graph_value a ∷ tables_value t ∷ []) asks.has.reads).1.0
  tables_lawful a t (graph, pack, inr (inl play)) =
      (values_lawful None (files_of (Play graph pack play.scenario play.turns)) r.shelf.old.history r.shelf.new.history
      (graph_value a ∷ tables_value t ∷ played_value play.played ∷ []) play.asks.has.reads).1.0
  tables_lawful a t (graph, pack, inr (inr audit)) =
      (values_lawful None (files_of (Audit graph pack audit.path)) r.shelf.old.history r.shelf.new.history
      (graph_value a ∷ tables_value t ∷ log_value audit.log ∷ []) audit.asks.has.reads).1.0

  -- if a run that asks to judge tables `t` has an output, they have the graph's head and are valid
  judged_here : (a : Admission) (t : Tables) → AsksVerdict r a t → (text : Text) → Prints r text →
      IsHeadFor a.graph t.head × IsValid a.graph t.nodes
  judged_here a t (graph, pack, inl asks) text prints =
      let put = printed r _ _ asks.has text prints in
      let made = on_judged a t put.0 _ put.1 put.2 in
      let lawful : AreLawful t = tables_lawful a t (graph, pack, inl asks) in
      judged_is a made.0 made.1 t lawful made.2.0
  judged_here a t (graph, pack, inr (inl play)) text prints =
      let put = printed r _ _ play.asks.has text prints in
      let made = on_played a t play.played put.0 _ put.1 put.2 in
      let lawful : AreLawful t = tables_lawful a t (graph, pack, inr (inl play)) in
      judged_is a made.0 made.1 t lawful made.2.judged
  judged_here a t (graph, pack, inr (inr audit)) text prints =
      let put = printed r _ _ audit.asks.has text prints in
      let made = on_logged a t audit.log put.0 _ put.1 put.2 in
      let lawful : AreLawful t = tables_lawful a t (graph, pack, inr (inr audit)) in
      judged_is a made.0 made.1 t lawful made.2.1.judged

  -- if a run that asks to judge tables `t` stops with halt `h`, memory ran out, or they are another graph's, or they
  -- aren't valid
  verdict_left : (a : Admission) (t : Tables) → AsksVerdict r a t → (h : Halt) → Stops r h →
      (h ≡ Memory) ⊎ CheckLeft a t h
  verdict_left a t (graph, pack, inl asks) h stops = elim (stopped_by r _ _ asks.has h stops) [
    | inl memory ↦ inl memory
    | inr work ↦
        let stopped = on_judged a t work.0 (λ b u. StopsVerdict b u h) work.1 work.2 in
        let lawful : AreLawful t = tables_lawful a t (graph, pack, inl asks) in
        inr (check_left a stopped.0 stopped.1 t lawful h stopped.2)
  ]
  verdict_left a t (graph, pack, inr (inl play)) h stops = elim (stopped_by r _ _ play.asks.has h stops) [
    | inl memory ↦ inl memory
    | inr work ↦
        let stopped = on_played a t play.played work.0 (λ b u p. StopsVerdict b u h) work.1 work.2 in
        let lawful : AreLawful t = tables_lawful a t (graph, pack, inr (inl play)) in
        inr (check_left a stopped.0 stopped.1 t lawful h stopped.2)
  ]
  verdict_left a t (graph, pack, inr (inr audit)) h stops = elim (stopped_by r _ _ audit.asks.has h stops) [
    | inl memory ↦ inl memory
    | inr work ↦
        let stopped = on_logged a t audit.log work.0 (λ b u l. StopsVerdict b u h) work.1 work.2 in
        let lawful : AreLawful t = tables_lawful a t (graph, pack, inr (inr audit)) in
        inr (check_left a stopped.0 stopped.1 t lawful h stopped.2.1)
  ]

  -- ---- a run that follows a stream has no output, and doesn't stop before it

  -- a run that follows a stream prints no output
  no_output : (f : Follows r) (text : Text) → Prints r text → ⊥
  no_output f text prints = subst (λ (k : Command). PutsOut k prints.values text)
      (same_Some prints.command (Live f.pack f.name f.stream) (sym prints.has.words ∙ f.words)) prints.puts

  -- a run that follows a stream (`f`) hasn't read one pack alone: it has made two fetches
  read_one : (f : Follows r) (name : Text) (vs : List Value) →
      Reads None (file PackFile name ∷ []) r.shelf.old.history r.shelf.new.history vs → ⊥
  read_one f name [] reads = reads
  read_one f name (v ∷ []) reads = one_is_two reads.0 f.fetch f.read r.shelf.old.history (sym reads.2 ∙ f.history)
  read_one f name (v ∷ w ∷ vs) reads = reads.2

  -- the same for any words of `live`
  pub one_file : (f : Follows r) {pack name stream : Text} (vs : List Value) → Has r (Live pack name stream) vs → ⊥
  one_file f {pack = pack} vs has = read_one f pack vs has.reads

  -- a run that follows a stream (`f`) isn't stopped by its pack, as it has fetched the stream too
  one_stop : (f : Follows r) (h : Halt) →
      StopsReading None (files_of (Live f.pack f.name f.stream)) r.shelf.old.history r.shelf.new.history h → ⊥
  one_stop f h (fetch, inl here) = one_is_two fetch f.fetch f.read r.shelf.old.history (sym here.1 ∙ f.history)
  one_stop f h (fetch, inr there) = there.2

  -- A run that follows a stream (`f`) doesn't stop before with a halt `h`: not in its words, as something was fetched,
  -- nor by its pack, nor after its pack alone was read.
  no_stop : (f : Follows r) (h : Halt) → Stops r h → ⊥
  no_stop f h (inl words) = none_is_two f.fetch f.read r.shelf.old.history (sym words.unread ∙ f.history)
  no_stop f h (inr (inl files)) = one_stop f h
      (subst (λ (k : Command). StopsReading None (files_of k) r.shelf.old.history r.shelf.new.history h)
      (same_Some files.command (Live f.pack f.name f.stream) (sym files.words ∙ f.words)) files.stops)
  no_stop f h (inr (inr work)) = read_one f f.pack work.values
      (subst (λ (k : Command). Reads None (files_of k) r.shelf.old.history r.shelf.new.history work.values)
      (same_Some work.command (Live f.pack f.name f.stream) (sym work.has.words ∙ f.words)) work.has.reads)

  -- ---- with an output

  -- given that the run ends with an output
  module _ (text : Text) (with : EndsWith r text) where
    -- a run with an output has status 0 or 3
    with_status : (r.status ≡ 0) ⊎ (r.status ≡ 3)
    with_status = elim with.ending [ inl ended ↦ inl ended.status | inr closed ↦ inr closed.status ]

    -- a run with an output has no other status
    other_status : (n : ℕ) → r.status ≡ n → n ≢ 0 → n ≢ 3 → ⊥
    other_status n status_is not_0 not_3 =
        elim with_status [ inl is_0 ↦ not_0 (sym status_is ∙ is_0) | inr is_3 ↦ not_3 (sym status_is ∙ is_3) ]

    -- with status 0 the output was printed
    with_done : r.status ≡ 0 → ((t : Text) × Prints r t × IsPrinted r t) ⊎ IsClosedStream r
    with_done zero =
        elim with.ending [
          | inl ended ↦ inl (text, with.prints, ended)
          | inr closed ↦ absurd (let status = closed.status in omega arith)
        ]

    -- with status 3 a sink counted a fault
    with_write : r.status ≡ 3 → Rose r.out.before r.out.now ⊎ Rose r.err.before r.err.now
    with_write three = elim with.ending [
      | inl ended ↦ absurd (let status = ended.status in omega arith)
      | inr closed ↦ inl closed.out.rose
    ]

    -- with another status none did
    with_unmet : r.status ≢ 3 → (r.out.now ≡ r.out.before) × (r.err.now ≡ r.err.before)
    with_unmet other = elim with.ending [
      | inl ended ↦ (ended.out.faultless, ended.err.faultless)
      | inr closed ↦ absurd (other closed.status)
    ]

    -- without faults the status is 0, so it is 0 or 8
    with_safe : IsFaultless r → (r.status ≡ 0) ⊎ (r.status ≡ 8)
    with_safe faultless =
        elim with.ending [ inl ended ↦ inl ended.status | inr closed ↦ absurd (faultless.out closed.out.rose) ]

    -- if the tables of a graph without a given order are asked for, and an item `x` is too wide under its first order,
    -- the run ends with 6, or memory ran out (8)
    with_wide : (a : Admission) (x : ℕ) → AsksForTables r a → a.graph.order ≡ None →
        IsWide a.graph (first_order a.graph a.order) x →
        (r.status ≡ 6) ⊎ (r.status ≡ 8)
    with_wide a x asks ungiven wide = let made = made_here a asks text with.prints in
        absurd (moved a made.1 made.2
        (λ g o. g.order ≡ None → IsNarrow g (first_order g o)) made.3.compilation.compiled.narrow ungiven x wide)

    -- if tables are printed, the graph isn't late, as it is compiled
    with_late : (a : Admission) → AsksForTables r a → IsLate a.graph a.order →
        ((r.status ≡ 5) ⊎ (r.status ≡ 8)) ⊎ IsRefusedAsWide r a
    with_late a asks late = let made = made_here a asks text with.prints in
        absurd (not_late_and_compiled a.graph (formed a asks) a.order (topological a asks)
        (first_is_topological a asks) made.3.compiled.order late
        (moved a made.1 made.2 (λ g o. IsCompiled g o made.3.compiled.order) made.3.compilation.compiled))

    -- if a node's table is printed, some node has the name
    with_nameless : (pack name : Text) (t : Tables) → Asks r (Node pack name) (tables_value t ∷ []) →
        first_named t.head name ≡ None →
        (r.status ≡ 4) ⊎ (r.status ≡ 8)
    with_nameless pack name t asks none = let put = printed r _ _ asks.has text with.prints in
        let shown_for = on_tables t put.0 _ put.1 put.2 in
        absurd (none-some shown_for.node (sym none ∙ shown_for.named))

    -- if a graph of parts is printed, the parts aren't refused
    with_apart : (pairs : List Pair) (parts : List Part) (fault : HyperFault) →
        Asks r (Hyper pairs) (part_values parts) → HavePeriods pairs parts →
        ShowsUnrolled parts (Err fault) →
        fault ≢ OutOfMemory → (r.status ≡ 4) ⊎ (r.status ≡ 8)
    with_apart pairs parts fault asks periods shows other = let put = printed r _ _ asks.has text with.prints in
        let unrolled = on_parts pairs parts put.0 _ put.1 periods put.2 in
        absurd (not_both parts unrolled.0 fault unrolled.1 shows other)

    -- a run of `live` has no such output
    with_unfollowed : (pack name stream : Text) (t : Tables) → Asks r (Live pack name stream) (tables_value t ∷ []) →
        (r.status ≡ 4) ⊎ (r.status ≡ 8)
    with_unfollowed pack name stream t asks = absurd (printed r _ _ asks.has text with.prints).2

    -- A run that ends with an output keeps what each status says. Its status is 0 or 3, and what its files say allows
    -- an output.
    pub lawful_with : IsLawful r
    lawful_with = record {
      ends = inl (text, with);
      done = with_done;
      -- statuses other than 0 and 3 don't come with an output
      words = λ one. absurd (other_status 1 one (λ e. omega arith) (λ e. omega arith));
      formless = λ none other. absurd (none-some with.prints.command (sym none ∙ with.prints.has.words));
      read = λ two. absurd (other_status 2 two (λ e. omega arith) (λ e. omega arith));
      unread = inl (reads_sound None (files_of with.prints.command) _ _ with.prints.values with.prints.has.reads);
      write = with_write;
      unmet = with_unmet;
      refused = λ four. absurd (other_status 4 four (λ e. omega arith) (λ e. omega arith));
      is_late = λ five. absurd (other_status 5 five (λ e. omega arith) (λ e. omega arith));
      is_wide = λ six. absurd (other_status 6 six (λ e. omega arith) (λ e. omega arith));
      is_unsafe = λ seven. absurd (other_status 7 seven (λ e. omega arith) (λ e. omega arith));
      silent = λ zero three. absurd (elim with_status [ inl z ↦ zero z | inr t ↦ three t ]);
      -- what the files say: tables that were printed were made, and made tables are neither too wide nor late
      wide = with_wide;
      made = λ a asks timely. inl (with_safe (tables_faultless a asks));
      late = with_late;
      other = λ a t asks differs. absurd (differs (judged_here a t asks text with.prints).0);
      safe = λ a t asks head valid. with_safe (check_faultless a t asks);
      broken = λ a t asks head broken. absurd (broken (judged_here a t asks text with.prints).1);
      named = λ pack name t node asks named. with_safe asks.faultless;
      nameless = with_nameless;
      tried = λ number asks. elim with_status [ inl zero ↦ inl zero | inr three ↦ inr (inl three) ];
      tuned = λ graph a asks. with_safe asks.faultless;
      unrolled = λ pairs parts g asks periods shows. with_safe asks.faultless;
      apart = with_apart;
      -- a run that follows a stream has no output
      followed = λ f faultless sound. absurd (no_output f text with.prints);
      unfollowed = λ pack name stream t asks none. with_unfollowed pack name stream t asks;
    }

  -- ---- without

  -- given that the run stops with a halt
  module _ (halt : Halt) (by : EndsBy r halt) where
    -- with a status other than 3 the reason was told
    told_of : r.status ≢ 3 → IsTold r halt
    told_of other = elim by.ending [ inl told ↦ told | inr met ↦ absurd (other met.status) ]

    -- the same, for a status n other than 3
    told_at : (n : ℕ) → r.status ≡ n → n ≢ 3 → IsTold r halt
    told_at n status_is other = told_of (λ three. other (sym status_is ∙ three))

    -- with a status n other than 3, the halt's status is n
    status_at : (n : ℕ) → r.status ≡ n → n ≢ 3 → status_of halt ≡ n
    status_at n status_is other = sym (told_at n status_is other).status ∙ status_is

    -- if no sink met a fault, the status is the halt's
    told_here : IsFaultless r → r.status ≡ status_of halt
    told_here faultless = elim by.ending [ inl told ↦ told.status | inr met ↦ absurd (faultless.err met.err.rose) ]

    -- A halt with status 1 says that the words form no command. By where the run stops: a file or the work stops it
    -- with another status.
    words_at : status_of halt ≡ 1 → Stops r halt → command_of r.words ≡ None
    words_at one (inl words) = elim words.cause [
      | inl formless ↦ formless.1
      | inr memory ↦ absurd (let status = ap status_of memory in omega (arith, one, status))
    ]
    words_at one (inr (inl files)) = elim (of_files None (files_of files.command) _ _ halt files.stops) [
      | inl read ↦ absurd (let status = ap status_of read.0 in omega (arith, one, status))
      | inr later ↦ absurd (omega (arith, one, later))
    ]
    words_at one (inr (inr work)) = elim work.stops [
      | inl stops ↦ absurd (let later = of_work work.command work.values halt stops in omega (arith, one, later))
      | inr memory ↦ absurd (let status = ap status_of memory in omega (arith, one, status))
    ]

    -- if the words form no command, the halt has status 1, or 8 as memory ran out
    formless_at : command_of r.words ≡ None → Stops r halt → (status_of halt ≡ 1) ⊎ (status_of halt ≡ 8)
    formless_at none (inl words) =
        elim words.cause [ inl formless ↦ inl (ap status_of formless.0) | inr memory ↦ inr (ap status_of memory) ]
    formless_at none (inr (inl files)) = absurd (none-some files.command (sym none ∙ files.words))
    formless_at none (inr (inr work)) = absurd (none-some work.command (sym none ∙ work.has.words))

    -- A halt with status 2 says that the last fetch failed. By where the run stops: only a file stops it with this
    -- status.
    failed_at : status_of halt ≡ 2 → Stops r halt → IsFailed r
    failed_at two (inl words) = elim words.cause [
      | inl formless ↦ absurd (let status = ap status_of formless.0 in omega (arith, two, status))
      | inr memory ↦ absurd (let status = ap status_of memory in omega (arith, two, status))
    ]
    failed_at two (inr (inl files)) = elim (of_files None (files_of files.command) _ _ halt files.stops) [
      | inl read ↦ let last = read.1 in
          record { fetch = last.fetch; past = last.past; last = last.last; failed = last.failed }
      | inr later ↦ absurd (omega (arith, two, later))
    ]
    failed_at two (inr (inr work)) = elim work.stops [
      | inl stops ↦ absurd (let later = of_work work.command work.values halt stops in omega (arith, two, later))
      | inr memory ↦ absurd (let status = ap status_of memory in omega (arith, two, status))
    ]

    -- if the words form no command, the run has status 1 or 8, unless `err` met a fault
    by_formless : command_of r.words ≡ None → r.status ≢ 3 → (r.status ≡ 1) ⊎ (r.status ≡ 8)
    by_formless none other = let told = (told_of other).status in
        elim (formless_at none by.stops) [
          | inl halt_status ↦ inl (told ∙ halt_status)
          | inr halt_status ↦ inr (told ∙ halt_status)
        ]

    -- with status 2 the last fetch failed, and the line that says so was written
    by_read : r.status ≡ 2 → IsFailed r × ((Stops r Read × IsTold r Read) ⊎ IsUnreadStream r)
    by_read two =
        let at = status_at 2 two (λ e. omega arith) in
        let is = read_of halt at in (
          failed_at at by.stops,
          inl (subst (Stops r) is by.stops, subst (IsTold r) is (told_at 2 two (λ e. omega arith))),
        )

    -- no fetch failed, or the halt says that one did
    sound_at : Stops r halt → AreSound r.shelf.old.history r.shelf.new.history ⊎ (halt ≡ Read)
    sound_at (inl words) = inl (sound_none r.shelf.old.history r.shelf.new.history words.unread)
    sound_at (inr (inl files)) = stops_sound None (files_of files.command) _ _ halt files.stops
    sound_at (inr (inr work)) = inl (reads_sound None (files_of work.command) _ _ work.values work.has.reads)

    -- the fetches are sound, or the status says that one failed
    by_unread : AreSound r.shelf.old.history r.shelf.new.history ⊎
        ((r.status ≡ 2) ⊎ ((r.status ≡ 3) × TookPart r.err (line_of Read)))
    by_unread = elim (sound_at by.stops) [
      | inl sound ↦ inl sound
      | inr read ↦ elim by.ending [
        | inl t ↦ inr (inl (t.status ∙ ap status_of read))
        | inr m ↦ inr (inr (m.status, subst (λ h. TookPart r.err (line_of h)) read m.err))
      ]
    ]

    -- with status 3 a sink counted a fault
    by_write : r.status ≡ 3 → Rose r.out.before r.out.now ⊎ Rose r.err.before r.err.now
    by_write three = elim by.ending [ inl t ↦ absurd (not_three halt (sym t.status ∙ three)) | inr m ↦ inr m.err.rose ]

    -- with another status none did
    by_unmet : r.status ≢ 3 → (r.out.now ≡ r.out.before) × (r.err.now ≡ r.err.before)
    by_unmet other = let told = told_of other in (told.out.faultless, told.err.faultless)

    -- with status 4 the run stops with a refusal
    by_refused : r.status ≡ 4 → (refusal : Refusal) × Stops r (Refused refusal) × IsTold r (Refused refusal)
    by_refused four =
        let is = refused_of halt (status_at 4 four (λ e. omega arith)) in
        (is.0, subst (Stops r) is.1 by.stops, subst (IsTold r) is.1 (told_at 4 four (λ e. omega arith)))

    -- with status 5 the run stops as a process `p` is late in a scenario `s`, and ends at `finish` there
    by_tardy : r.status ≡ 5 →
        (a : Admission) × (s : Scenario) × (p : ℕ) × (finish : ℕ) × Stops r (Late a s p finish) ×
        IsTold r (Late a s p finish)
    by_tardy five =
        let is = late_of halt (status_at 5 five (λ e. omega arith)) in (
          is.0,
          is.1,
          is.2,
          is.3,
          subst (Stops r) is.4 by.stops,
          subst (IsTold r) is.4 (told_at 5 five (λ e. omega arith)),
        )

    -- with status 6 the run stops as an item `x` is too wide
    by_width : r.status ≡ 6 → (a : Admission) × (x : ℕ) × Stops r (TooWide a x) × IsTold r (TooWide a x)
    by_width six =
        let is = wide_of halt (status_at 6 six (λ e. omega arith)) in
        (is.0, is.1, subst (Stops r) is.2 by.stops, subst (IsTold r) is.2 (told_at 6 six (λ e. omega arith)))

    -- with status 7 the run stops as tables break a rule
    by_fault : r.status ≡ 7 → (a : Admission) × (fault : Fault) × Stops r (Unsafe a fault) × IsTold r (Unsafe a fault)
    by_fault seven =
        let is = unsafe_of halt (status_at 7 seven (λ e. omega arith)) in
        (is.0, is.1, subst (Stops r) is.2 by.stops, subst (IsTold r) is.2 (told_at 7 seven (λ e. omega arith)))

    -- nothing was written to `out`
    by_silent : Untouched r.out
    by_silent = elim by.ending [ inl t ↦ t.out | inr m ↦ m.out ]

    -- given that it asks for a graph's tables
    module _ (a : Admission) (asks : AsksForTables r a) where
      -- the status is that of the halt, as no sink met a fault
      here : r.status ≡ status_of halt
      here = told_here (tables_faultless a asks)

      -- a graph that is too wide gives status 6 or 8
      by_wide : (x : ℕ) → a.graph.order ≡ None → IsWide a.graph (first_order a.graph a.order) x →
          (r.status ≡ 6) ⊎ (r.status ≡ 8)
      by_wide x ungiven wide = elim (tables_left a asks halt by.stops) [
        | inl e ↦ inr (here ∙ e)
        | inr (inl late) ↦ absurd (late.1.narrow ungiven x wide)
        | inr (inr shows) ↦ inl (here ∙ shows.0)
      ]

      -- a halt with status 6, and an item that is too wide, are a refusal as too wide
      refused_as_wide : (status_of halt ≡ 6) × ((x : ℕ) × IsWide a.graph (first_order a.graph a.order) x) →
          IsRefusedAsWide r a
      refused_as_wide both = record { status = here ∙ both.0; item = both.1.0; wide = both.1.1 }

      -- a graph that is timely gives status 0 or 8, or is refused as too wide
      by_made : IsTimely a.graph a.order → ((r.status ≡ 0) ⊎ (r.status ≡ 8)) ⊎ IsRefusedAsWide r a
      by_made timely = elim (tables_left a asks halt by.stops) [
        | inl e ↦ inl (inr (here ∙ e))
        | inr (inl late) ↦ absurd (not_timely_and_late a.graph (formed a asks) a.order (topological a asks)
            (first_is_topological a asks) timely late.1)
        | inr (inr wide) ↦ inr (refused_as_wide wide)
      ]

      -- a graph that is late gives status 5 or 8, or is refused as too wide
      by_late : IsLate a.graph a.order → ((r.status ≡ 5) ⊎ (r.status ≡ 8)) ⊎ IsRefusedAsWide r a
      by_late is_late = elim (tables_left a asks halt by.stops) [
        | inl e ↦ inl (inr (here ∙ e))
        | inr (inl late) ↦ inl (inl (here ∙ late.0))
        | inr (inr wide) ↦ inr (refused_as_wide wide)
      ]

    -- given that it asks to judge tables for a graph
    module _ (a : Admission) (t : Tables) (asks : AsksVerdict r a t) where
      -- the status is that of the halt, as no sink met a fault
      here_too : r.status ≡ status_of halt
      here_too = told_here (check_faultless a t asks)

      -- tables of another graph give status 4 or 8
      by_other : (IsHeadFor a.graph t.head → ⊥) → (r.status ≡ 4) ⊎ (r.status ≡ 8)
      by_other differs = elim (verdict_left a t asks halt by.stops) [
        | inl memory ↦ inr (here_too ∙ ap status_of memory)
        | inr (inl other) ↦ inl (here_too ∙ other.0)
        | inr (inr broken) ↦ absurd (differs broken.1)
      ]

      -- valid tables of the graph's head give status 8, as a run that stops has no output
      by_safe : IsHeadFor a.graph t.head → IsValid a.graph t.nodes → (r.status ≡ 0) ⊎ (r.status ≡ 8)
      by_safe head valid = elim (verdict_left a t asks halt by.stops) [
        | inl memory ↦ inr (here_too ∙ ap status_of memory)
        | inr (inl other) ↦ absurd (other.1 head)
        | inr (inr broken) ↦ absurd (broken.2 valid)
      ]

      -- tables that aren't valid give status 7 or 8
      by_broken : IsHeadFor a.graph t.head → (IsValid a.graph t.nodes → ⊥) → (r.status ≡ 7) ⊎ (r.status ≡ 8)
      by_broken head invalid = elim (verdict_left a t asks halt by.stops) [
        | inl memory ↦ inr (here_too ∙ ap status_of memory)
        | inr (inl other) ↦ absurd (other.1 head)
        | inr (inr broken) ↦ inl (here_too ∙ broken.0)
      ]

    -- a name that some node has gives status 8
    by_named : (pack name : Text) (t : Tables) (node : ℕ) → Asks r (Node pack name) (tables_value t ∷ []) →
        first_named t.head name ≡ Some node →
        (r.status ≡ 0) ⊎ (r.status ≡ 8)
    by_named pack name t node asks named = elim (stopped_by r _ _ asks.has halt by.stops) [
      | inl memory ↦ inr (told_here asks.faultless ∙ ap status_of memory)
      | inr work ↦ let unnamed = on_tables t work.0 _ work.1 work.2 in
          absurd (none-some node (sym unnamed.none ∙ named))
    ]

    -- a name that no node has gives status 4 or 8
    by_nameless : (pack name : Text) (t : Tables) → Asks r (Node pack name) (tables_value t ∷ []) →
        first_named t.head name ≡ None →
        (r.status ≡ 4) ⊎ (r.status ≡ 8)
    by_nameless pack name t asks none = elim (stopped_by r _ _ asks.has halt by.stops) [
      | inl memory ↦ inr (told_here asks.faultless ∙ ap status_of memory)
      | inr work ↦ let nameless = on_tables t work.0 _ work.1 work.2 in
          inl (told_here asks.faultless ∙ ap status_of nameless.halt_is)
    ]

    -- a name that no node has gives status 4 or 8 for `live`
    by_unfollowed : (pack name stream : Text) (t : Tables) → Asks r (Live pack name stream) (tables_value t ∷ []) →
        first_named t.head name ≡ None →
        (r.status ≡ 4) ⊎ (r.status ≡ 8)
    by_unfollowed pack name stream t asks none = elim (stopped_by r _ _ asks.has halt by.stops) [
      | inl memory ↦ inr (told_here asks.faultless ∙ ap status_of memory)
      | inr work ↦ let nameless = on_tables t work.0 _ work.1 work.2 in
          inl (told_here asks.faultless ∙ ap status_of nameless.halt_is)
    ]

    -- a run of `trial` that stops has status 8, or 3 as `err` met a fault
    by_tried : (number : ℕ) → command_of r.words ≡ Some (Trial number) →
        (r.status ≡ 0) ⊎ ((r.status ≡ 3) ⊎ (r.status ≡ 8))
    by_tried number asks = elim by.ending [
      | inl told ↦ inr (inr (told.status ∙ ap status_of (trial_memory number asks by.stops)))
      | inr muted ↦ inr (inl muted.status)
    ]
      where
        -- the halt is that memory ran out: the words form a command, which reads no file, and whose work stops for
        -- nothing else
        trial_memory : (number : ℕ) → command_of r.words ≡ Some (Trial number) → Stops r halt → halt ≡ Memory
        trial_memory number asks (inl words) = elim words.cause [
          | inl formless ↦ absurd (none-some (Trial number) (sym formless.1 ∙ asks))
          | inr memory ↦ memory
        ]
        trial_memory number asks (inr (inl files)) =
            absurd (subst (λ (k : Command). StopsReading None (files_of k) r.shelf.old.history r.shelf.new.history halt)
            (same_Some files.command (Trial number) (sym files.words ∙ asks)) files.stops)
        trial_memory number asks (inr (inr work)) = elim work.stops [
          | inl stops ↦ absurd (subst (λ (k : Command). StopsWork k work.values halt)
              (same_Some work.command (Trial number) (sym work.has.words ∙ asks)) stops)
          | inr memory ↦ memory
        ]

    -- a run of `tune` on an admitted graph that stops has status 8
    by_tuned : (graph : Text) (a : Admission) → Asks r (Tune graph) (graph_value a ∷ []) →
        (r.status ≡ 0) ⊎ (r.status ≡ 8)
    by_tuned graph a asks = elim (stopped_by r _ _ asks.has halt by.stops) [
      | inl memory ↦ inr (told_here asks.faultless ∙ ap status_of memory)
      | inr q ↦ absurd q.2
    ]

    -- if a run of `hyper` whose parts were read stops, memory ran out, or the parts are refused
    left_parts : (pairs : List Pair) (parts : List Part) → Asks r (Hyper pairs) (part_values parts) →
        HavePeriods pairs parts →
        PartsLeft parts halt
    left_parts pairs parts asks periods = elim (stopped_by r _ _ asks.has halt by.stops) [
      | inl memory ↦ inl (ap status_of memory)
      | inr q ↦ parts_left parts halt (on_parts pairs parts q.0 (λ ps. IsNotUnrolled ps halt) q.1 periods q.2)
    ]

    -- parts that have a graph of all their instances give status 8
    by_unrolled : (pairs : List Pair) (parts : List Part) (g : Graph) → Asks r (Hyper pairs) (part_values parts) →
        HavePeriods pairs parts → ShowsUnrolled parts (Ok g) →
        (r.status ≡ 0) ⊎
        (r.status ≡ 8)
    by_unrolled pairs parts g asks periods made = elim (left_parts pairs parts asks periods) [
      | inl e ↦ inr (told_here asks.faultless ∙ e)
      | inr refused ↦ absurd (not_both parts g refused.1.0 made refused.1.1 refused.1.2)
    ]

    -- parts that were read give status 4 or 8
    by_apart : (pairs : List Pair) (parts : List Part) → Asks r (Hyper pairs) (part_values parts) →
        HavePeriods pairs parts →
        (r.status ≡ 4) ⊎ (r.status ≡ 8)
    by_apart pairs parts asks periods = elim (left_parts pairs parts asks periods) [
      | inl e ↦ inr (told_here asks.faultless ∙ e)
      | inr refused ↦ inl (told_here asks.faultless ∙ refused.0)
    ]

    -- A run that stops keeps what each status says. Its status is that of its halt, or 3, and what its files say leaves
    -- only such halts.
    pub lawful_by : IsLawful r
    lawful_by = record {
      -- how the run ends, and what each status says of it
      ends = inr (inl (halt, by));
      done = λ zero. absurd (not_zero halt (status_at 0 zero (λ e. omega arith)));
      words = λ one. words_at (status_at 1 one (λ e. omega arith)) by.stops;
      formless = by_formless;
      read = by_read;
      unread = by_unread;
      write = by_write;
      unmet = by_unmet;
      refused = λ four. inl (by_refused four);
      is_late = by_tardy;
      is_wide = by_width;
      is_unsafe = by_fault;
      silent = λ zero three. inl by_silent;
      -- what status each graph, each verdict and each name gives
      wide = λ a x asks ungiven wide. by_wide a asks x ungiven wide;
      made = by_made;
      late = by_late;
      other = by_other;
      safe = by_safe;
      broken = by_broken;
      named = by_named;
      nameless = by_nameless;
      tried = by_tried;
      tuned = by_tuned;
      unrolled = by_unrolled;
      apart = λ pairs parts fault asks periods shows other. by_apart pairs parts asks periods;
      followed = λ f faultless sound. absurd (no_stop f halt by.stops);
      unfollowed = by_unfollowed;
    }
