-- What a run answers if the shelf reports what it asks for, and no count of faults rises.
use Rattle.std.proofs.Common.{ℕ, ◌≡◌, ◌≢◌, ◌∙◌, Bool, true, false, List, [], ◌∷◌, Option, Some, None, refl, sym, ap}
use Rattle.std.proofs.Common.{subst, inl, inr, true≢false}
use Rattle.std.specs.Prelude.{◌⊎◌, Ok, Err}
use Rattle.cpg_base.specs.Graph.{Graph}
use Rattle.cpg_io.specs.Shelf.{KeepsShelf}
use Rattle.cpg_words.specs.Parts.{Text}
use Rattle.cpg_words.specs.Forms.{command_of}
use Rattle.cpg_words.specs.declared.command.Pair.{Pair}
use Rattle.cpg_words.specs.declared.command.Command.{Command}
use Rattle.cpg_words.specs.declared.command.Command.TheVariants.{Show, Compile, Check, Play, Node, Trial, Live, Hyper}
use Rattle.cpg_words.specs.declared.command.Command.TheVariants.{Tune, Audit}
use Rattle.cpg_reach.specs.Wide.{IsWide}
use Rattle.cpg_order.specs.Urgency.{first_order}
use Rattle.cpg_core.specs.Compiled.{IsLate, IsTimely}
use Rattle.cpg_rules.specs.Admission.{Admission}
use Rattle.cpg_table.specs.Lawful.{Tables}
use Rattle.cpg_table.specs.Valid.{IsValid}
use Rattle.cpg_violation.specs.Heads.{IsHeadFor}
use Rattle.cpg_codec.specs.Packs.{AreLawful}
use Rattle.cpg_codec.specs.Spelling.{spelling}
use Rattle.cpg_codec.proofs.Lengths.{all_short}
use Rattle.cpg_hyper.specs.declared.part.Part.{Part}
use Rattle.cpg_hyper.specs.declared.part.HyperFault.{HyperFault}
use Rattle.cpg_hyper.specs.declared.part.HyperFault.TheVariants.{OutOfMemory}
use Rattle.cpg_hyper.specs.Refusals.{ShowsUnrolled}
use Rattle.cpg_log.specs.Log.{Log}
use Rattle.cpg_scenario.specs.declared.reading.Played.{Played}
use Rattle.cpg_refusal.specs.declared.halt.Halt.{Halt}
use Rattle.cpg_refusal.specs.declared.halt.Halt.TheVariants.{Memory}
use Rattle.cpg_refusal.specs.Lines.{status_of}
use Rattle.cpg_inputs.specs.declared.kind.FileKind.TheVariants.{GraphFile, PackFile}
use Rattle.cpg_inputs.specs.Files.{file, files_of, part_files}
use Rattle.cpg_inputs.specs.Says.{Value, graph_value, part_value, tables_value, played_value, log_value}
use Rattle.cpg_inputs.specs.Shapes.{HavePeriods, part_values}
use Rattle.cpg_inputs.specs.Reading.{StopsReading}
use Rattle.cpg_inputs.proofs.OneReading.{AllAlike, AreAlike, moved}
use Rattle.cpg_app.specs.Causes.{first_named}
use Rattle.cpg_app.specs.Endings.{Ran as Run, Ends as EndsRun, Follows as FollowsRun, Has, IsMuted as IsMutedRun}
use Rattle.cpg_app.specs.Endings.{IsTold as IsToldRun, Stops as StopsRun}
use Rattle.cpg_app.specs.Lawful.{IsLawful as IsLawfulRun, IsFaultless as IsFaultlessRun, Asks as AsksRun, AsksForTables}
use Rattle.cpg_app.specs.Lawful.{AsksVerdict as AsksVerdictRun, IsRefusedAsWide as WideRun}
use Rattle.cpg_shelf_laws.specs.Lawful.{AreAdmitted, AreTold as AreTellingParts, Asks, AsksNode, AsksTuning}
use Rattle.cpg_shelf_laws.specs.Lawful.{AsksUnrolling, AsksVerdict, IsFaultless, IsRefusedAsWide as WideTold}
use Rattle.cpg_shelf_laws.specs.Told.{told_of}
use Rattle.cpg_shelf_laws.proofs.Telling.{AreTold, Tells, none_stops, read_as_told}

-- ---- commands apart

-- whether a command is `Live`
abbrev is_live : Option Command → Bool
is_live None = false
is_live (Some (Live pack name stream)) = true
is_live (Some (Show a)) = false
is_live (Some (Compile a)) = false
is_live (Some (Check a b)) = false
is_live (Some (Play a b c n)) = false
is_live (Some (Node a b)) = false
is_live (Some (Trial n)) = false
is_live (Some (Hyper pairs)) = false
is_live (Some (Tune a)) = false
is_live (Some (Audit a b c)) = false

-- the command, or d if there is none
abbrev command_or : Command → Option Command → Command
command_or d None = d
command_or d (Some c) = c

-- if the words form commands `a` and `b` (`o`), these are equal
pub same_command : (o : Option Command) (a b : Command) → o ≡ Some a → o ≡ Some b → a ≡ b
same_command o a b is_a is_b = ap (command_or a) (sym is_a ∙ is_b)

-- words that form none form no command
pub no_command : (c : Command) → None ≡ Some c → ⊥
no_command c none = absurd (cc none)

-- ---- values that are alike, and facts of admissions that are alike

-- if admissions `a` and `b` are alike, what holds of the graph and order of `a` holds of those of `b`
moved_on : (a b : Admission) → AreAlike a b → (P : Graph → List ℕ → Type 0) → P a.graph a.order → P b.graph b.order
moved_on a b same P p = subst (P b.graph) (sym same.order) (subst (λ g. P g a.order) (sym same.graph) p)

-- values `ws` that are alike to a graph `a` alone are one graph `b`, which is alike
graph_alone : (a : Admission) (ws : List Value) → AllAlike (graph_value a ∷ []) ws →
    (b : Admission) × (ws ≡ graph_value b ∷ []) × AreAlike a b
graph_alone a [] alike = absurd alike
graph_alone a (graph_value b ∷ []) alike = (b, refl, alike.0)
graph_alone a (graph_value b ∷ w ∷ ws) alike = absurd alike.1
graph_alone a (part_value h ∷ ws) alike = absurd alike.0
graph_alone a (tables_value t ∷ ws) alike = absurd alike.0
graph_alone a (played_value p ∷ ws) alike = absurd alike.0
graph_alone a (log_value l ∷ ws) alike = absurd alike.0

-- values `ws` that are alike to tables `t` alone are these tables
pub tables_alone : (t : Tables) (ws : List Value) → AllAlike (tables_value t ∷ []) ws → ws ≡ tables_value t ∷ []
tables_alone t [] alike = absurd alike
tables_alone t (tables_value u ∷ []) alike = ap (λ u. tables_value u ∷ []) alike.0
tables_alone t (tables_value u ∷ w ∷ ws) alike = absurd alike.1
tables_alone t (graph_value b ∷ ws) alike = absurd alike.0
tables_alone t (part_value h ∷ ws) alike = absurd alike.0
tables_alone t (played_value p ∷ ws) alike = absurd alike.0
tables_alone t (log_value l ∷ ws) alike = absurd alike.0

-- values `ws` that are alike to a graph `a` and others, `vs`, are a graph `b` that is alike, and others that are alike
graph_first : (a : Admission) (vs ws : List Value) → AllAlike (graph_value a ∷ vs) ws →
    (b : Admission) × (rest : List Value) × (ws ≡ graph_value b ∷ rest) × AreAlike a b × AllAlike vs rest
graph_first a vs [] alike = absurd alike
graph_first a vs (graph_value b ∷ ws) alike = (b, ws, refl, alike.0, alike.1)
graph_first a vs (part_value h ∷ ws) alike = absurd alike.0
graph_first a vs (tables_value t ∷ ws) alike = absurd alike.0
graph_first a vs (played_value p ∷ ws) alike = absurd alike.0
graph_first a vs (log_value l ∷ ws) alike = absurd alike.0

-- values `ws` that are alike to tables `t` and others, `vs`, are these tables, and others that are alike
tables_first : (t : Tables) (vs ws : List Value) → AllAlike (tables_value t ∷ vs) ws →
    (rest : List Value) × (ws ≡ tables_value t ∷ rest) × AllAlike vs rest
tables_first t vs [] alike = absurd alike
tables_first t vs (tables_value u ∷ ws) alike = (ws, ap (λ u. tables_value u ∷ ws) alike.0, alike.1)
tables_first t vs (graph_value b ∷ ws) alike = absurd alike.0
tables_first t vs (part_value h ∷ ws) alike = absurd alike.0
tables_first t vs (played_value p ∷ ws) alike = absurd alike.0
tables_first t vs (log_value l ∷ ws) alike = absurd alike.0

-- Values `ws` that are alike to what is played, `p`, alone are one such value: no value, a further value or a value of
-- another kind isn't alike.
played_alone : (p : Played) (ws : List Value) → AllAlike (played_value p ∷ []) ws →
    (q : Played) × (ws ≡ played_value q ∷ [])
played_alone p [] alike = absurd alike
played_alone p (played_value q ∷ []) alike = (q, refl)
played_alone p (played_value q ∷ w ∷ ws) alike = absurd alike.1
played_alone p (graph_value b ∷ ws) alike = absurd alike.0
played_alone p (part_value h ∷ ws) alike = absurd alike.0
played_alone p (tables_value t ∷ ws) alike = absurd alike.0
played_alone p (log_value l ∷ ws) alike = absurd alike.0

-- values `ws` that are alike to a log `l` alone are one log, by the same cases as for a scenario
log_alone : (l : Log) (ws : List Value) → AllAlike (log_value l ∷ []) ws → (m : Log) × (ws ≡ log_value m ∷ [])
log_alone l [] alike = absurd alike
log_alone l (log_value m ∷ []) alike = (m, refl)
log_alone l (log_value m ∷ w ∷ ws) alike = absurd alike.1
log_alone l (graph_value b ∷ ws) alike = absurd alike.0
log_alone l (part_value h ∷ ws) alike = absurd alike.0
log_alone l (tables_value t ∷ ws) alike = absurd alike.0
log_alone l (played_value p ∷ ws) alike = absurd alike.0

-- values that are alike to those of parts are those of these parts; by induction on the parts
parts_alone : (parts : List Part) (ws : List Value) → AllAlike (part_values parts) ws → ws ≡ part_values parts
parts_alone [] [] alike = refl
parts_alone [] (w ∷ ws) alike = absurd alike
parts_alone (part ∷ parts) [] alike = absurd alike
parts_alone (part ∷ parts) (part_value h ∷ ws) alike =
    ap (λ h. part_value h ∷ ws) alike.0 ∙ ap (λ ws. part_value part.problem ∷ ws) (parts_alone parts ws alike.1)
parts_alone (part ∷ parts) (graph_value b ∷ ws) alike = absurd alike.0
parts_alone (part ∷ parts) (tables_value t ∷ ws) alike = absurd alike.0
parts_alone (part ∷ parts) (played_value p ∷ ws) alike = absurd alike.0
parts_alone (part ∷ parts) (log_value l ∷ ws) alike = absurd alike.0

-- If the shelf reports the parts of pairs, it reports each file with the part's graph, and the parts have the pairs'
-- periods.
parts_told : (stands : Text → Option Text) (pairs : List Pair) (parts : List Part) →
    AreTellingParts stands pairs parts →
    AreTold stands None (part_files pairs) (part_values parts) ×
    HavePeriods pairs parts
parts_told stands [] [] telling = (tt, tt)
parts_told stands [] (part ∷ parts) telling = absurd telling
parts_told stands (pair ∷ pairs) [] telling = absurd telling
parts_told stands (pair ∷ pairs) (part ∷ parts) telling =
    let rest = parts_told stands pairs parts telling.2 in (
      (telling.1.bytes, telling.1.is, telling.1.short, (part.problem, refl, telling.1.says), rest.0),
      (telling.0, rest.1),
    )

-- bytes that say an admitted graph `a` tell it as a value, whatever graph `o` was read before
graph_tells : (o : Option Graph) (bytes : Text) (a : Admission) → AreAdmitted bytes a →
    Tells o GraphFile bytes (graph_value a)
graph_tells o bytes a are_admitted = (a, refl, record { says = are_admitted.says; admitted = are_admitted.admitted })

-- the spelling of lawful tables `t` tells them as a value, whatever graph `o` was read before
pack_tells : (o : Option Graph) (t : Tables) → AreLawful t → Tells o PackFile (spelling t) (tables_value t)
pack_tells o t lawful = (t, refl, record { spelled = refl; lawful = lawful })

-- ---- a run that is asked so

-- given a lawful run in which neither the shelf nor a sink met a fault
module _ (r : Run) (w : IsLawfulRun r) (k : KeepsShelf r.shelf.old r.shelf.new) (calm : IsFaultless (told_of r)) where
  -- no sink met a fault, by the present contract
  faultless : IsFaultlessRun r
  faultless = record { out = calm.out; err = calm.err }

  -- if it stops as memory ran out, its status is 8
  pub of_memory : (halt : Halt) → halt ≡ Memory → IsToldRun r halt ⊎ IsMutedRun r halt → r.status ≡ 8
  of_memory halt is_memory (inl told) = told.status ∙ ap status_of is_memory
  of_memory halt is_memory (inr muted) = absurd (calm.err muted.err.rose)

  -- its files were read, or memory ran out, or it follows a stream
  abbrev Comes : Command → List Value → Type 0
  Comes c values = ((ws : List Value) × Has r c ws × AllAlike values ws) ⊎ ((r.status ≡ 8) ⊎ FollowsRun r)

  -- If the run's words are command `c`, and the shelf reports files of `c` with values, then whatever command `d` and
  -- values `ws` the run has, the command is `c`, and the values are alike.
  has : (c : Command) (values : List Value) → command_of r.words ≡ Some c →
      AreTold r.shelf.old.stands None (files_of c) values → (d : Command) (ws : List Value) → Has r d ws →
      Comes c values
  has c values words_are told d ws had =
      let same : d ≡ c = same_command (command_of r.words) d c had.words words_are in
      let also : Has r c ws = subst (λ d. Has r d ws) same had in
      inl (
        ws,
        also,
        read_as_told r.shelf.old r.shelf.new k None (files_of c) r.shelf.old.history [] values ws refl told also.reads,
      )

  -- The same if the run stops. By where: in its words or its files it stops only as memory ran out, and in its work it
  -- has read them.
  by_stop : (c : Command) (values : List Value) → command_of r.words ≡ Some c →
      AreTold r.shelf.old.stands None (files_of c) values → (halt : Halt) →
      (IsToldRun r halt ⊎ IsMutedRun r halt) →
      StopsRun r halt → Comes c values
  by_stop c values words_are told halt ending (inl stopped) = elim stopped.cause [
    | inl formless ↦ absurd (no_command c (sym formless.1 ∙ words_are))
    | inr memory ↦ inr (inl (of_memory halt memory ending))
  ]
  by_stop c values words_are told halt ending (inr (inl stopped)) =
      let same : stopped.command ≡ c = same_command (command_of r.words) stopped.command c stopped.words words_are in
      let stops =
      subst (λ d. StopsReading None (files_of d) r.shelf.old.history r.shelf.new.history halt) same stopped.stops in
      inr (inl (of_memory halt (none_stops r.shelf.old r.shelf.new k calm.shelf None
      (files_of c) r.shelf.old.history [] values halt refl told stops) ending))
  by_stop c values words_are told halt ending (inr (inr stopped)) =
      has c values words_are told stopped.command stopped.values stopped.has

  -- the same for any run, by how it ends
  comes : (c : Command) (values : List Value) → command_of r.words ≡ Some c →
      AreTold r.shelf.old.stands None (files_of c) values → EndsRun r → Comes c values
  comes c values words_are told (inl (text, ended)) = has c values words_are told ended.prints.command
      ended.prints.values ended.prints.has
  comes c values words_are told (inr (inl (halt, ended))) = by_stop c values words_are told halt ended.ending
      ended.stops
  comes c values words_are told (inr (inr (inl ended))) = inr (inr ended.follows)
  comes c values words_are told (inr (inr (inr ended))) = inr (inr ended.follows)

  -- for each command but `live`: its files were read, or memory ran out
  asked : (c : Command) (values : List Value) → is_live (Some c) ≡ false → command_of r.words ≡ Some c →
      AreTold r.shelf.old.stands None (files_of c) values →
      ((ws : List Value) × Has r c ws × AllAlike values ws) ⊎ (r.status ≡ 8)
  asked c values other words_are told = elim (comes c values words_are told w.ends) [
    | inl files ↦ inl files
    | inr rest ↦ elim rest [
      | inl memory ↦ inr memory
      | inr follows ↦ absurd (true≢false (ap is_live (sym follows.words ∙ words_are) ∙ other))
    ]
  ]

  -- the status is n, or memory ran out
  abbrev Answer : ℕ → Type 0
  Answer n = (r.status ≡ n) ⊎ (r.status ≡ 8)

  -- ---- tables of a graph

  -- For a command on one graph file, which `make` makes of its name: the run asks for it with an admission that is
  -- alike to `a`, or memory ran out (status 8).
  of_graph : (make : Text → Command) (graph : Text) (a : Admission) → is_live (Some (make graph)) ≡ false →
      files_of (make graph) ≡ file GraphFile graph ∷ [] →
      command_of r.words ≡ Some (make graph) →
      AreTold r.shelf.old.stands None (file GraphFile graph ∷ []) (graph_value a ∷ []) →
      ((b : Admission) × AsksRun r (make graph) (graph_value b ∷ []) × AreAlike a b) ⊎ (r.status ≡ 8)
  of_graph make graph a other files found are_told = elim (asked (make graph) (graph_value a ∷ []) other found
      (subst (λ fs. AreTold r.shelf.old.stands None fs (graph_value a ∷ [])) (sym files) are_told)) [
        | inl had ↦ (let read = graph_alone a had.0 had.2 in
            inl (read.0, record { has = subst (Has r (make graph)) read.1 had.1; faultless = faultless }, read.2))
        | inr memory ↦ inr memory
      ]

  -- if the tables of a graph `a` are asked for, the run asks for those of an admission `b` that is alike, or memory ran
  -- out
  tables_asked : (a : Admission) → Asks (told_of r) a →
      ((b : Admission) × AsksForTables r b × AreAlike a b) ⊎ (r.status ≡ 8)
  tables_asked a asks =
      let told : AreTold r.shelf.old.stands None (file GraphFile asks.graph ∷ []) (graph_value a ∷ []) = (
        asks.bytes,
        asks.told,
        asks.file.short,
        (a, refl, record { says = asks.file.says; admitted = asks.file.admitted }),
        tt,
      ) in
      elim asks.words [
        | inl show ↦ elim (of_graph Show asks.graph a refl refl show told) [
          | inl asked_for ↦ inl (asked_for.0, (asks.graph, inl asked_for.1), asked_for.2)
          | inr memory ↦ inr memory
        ]
        | inr pack ↦ elim (of_graph Compile asks.graph a refl refl pack told) [
          | inl asked_for ↦ inl (asked_for.0, (asks.graph, inr asked_for.1), asked_for.2)
          | inr memory ↦ inr memory
        ]
      ]

  -- a graph with an item `x` that is too wide under its urgency order is rejected as such, with 6
  pub wide : (a : Admission) (x : ℕ) → Asks (told_of r) a → a.graph.order ≡ None →
      IsWide a.graph (first_order a.graph a.order) x → Answer 6
  wide a x asks ungiven is = elim (tables_asked a asks) [
    | inl h ↦ w.wide h.0 x h.1 (moved_on a h.0 h.2 (λ g o. g.order ≡ None) ungiven)
        (moved_on a h.0 h.2 (λ g o. IsWide g (first_order g o) x) is)
    | inr memory ↦ inr memory
  ]

  -- if a graph `b` is rejected as too wide, so is a graph `a` that is alike
  as_wide : (a b : Admission) → AreAlike a b → (n : ℕ) → Answer n ⊎ WideRun r b → Answer n ⊎ WideTold (told_of r) a
  as_wide a b same n answer = elim answer [
    | inl e ↦ inl e
    | inr refused ↦
        inr (record {
          status = refused.status;
          item = refused.item;
          wide = moved a b same (λ g o. IsWide g (first_order g o) refused.item) refused.wide;
        })
  ]

  -- a timely graph is compiled, with 0, or rejected as too wide
  pub made : (a : Admission) → Asks (told_of r) a → IsTimely a.graph a.order → Answer 0 ⊎ WideTold (told_of r) a
  made a asks timely = elim (tables_asked a asks) [
    | inl h ↦ as_wide a h.0 h.2 0 (w.made h.0 h.1 (moved_on a h.0 h.2 IsTimely timely))
    | inr memory ↦ inl (inr memory)
  ]

  -- a late graph is rejected as late, with 5, or as too wide
  pub late : (a : Admission) → Asks (told_of r) a → IsLate a.graph a.order → Answer 5 ⊎ WideTold (told_of r) a
  late a asks is = elim (tables_asked a asks) [
    | inl h ↦ as_wide a h.0 h.2 5 (w.late h.0 h.1 (moved_on a h.0 h.2 IsLate is))
    | inr memory ↦ inl (inr memory)
  ]

  -- a graph is tuned, with 0
  pub tuned : (a : Admission) → AsksTuning (told_of r) a → Answer 0
  tuned a asks = elim (of_graph Tune asks.graph a refl refl asks.words (
    asks.bytes,
    asks.told,
    asks.file.short,
    (a, refl, record { says = asks.file.says; admitted = asks.file.admitted }),
    tt,
  )) [
    | inl h ↦ w.tuned asks.graph h.0 h.1
    | inr memory ↦ inr memory
  ]

  -- ---- tables that are judged

  -- If it is asked to judge tables, the run asks to judge them for an admission that is alike, or memory ran out. By
  -- the command: `check`, `play` or `audit`; the values of its files are alike to those that the shelf reports.
  verdict_asked : (a : Admission) (t : Tables) → AsksVerdict (told_of r) a t →
      ((b : Admission) × AsksVerdictRun r b t × AreAlike a b) ⊎ (r.status ≡ 8)
  -- in each case the values that the files say are alike to those that the shelf reports (`graph_read`, `tables_read`,
  -- `play_read`, `log_read`)
  verdict_asked a t asking =
      let graph_told = graph_tells None asking.bytes a asking.file in
      let pack_told = pack_tells (Some a.graph) t asking.lawful in
      let short = all_short t asking.lawful in
      elim asking.words [
        -- `check`: a graph that is alike, and the same tables
        | inl check ↦ elim (asked (Check asking.graph asking.pack) (graph_value a ∷ tables_value t ∷ [])
            refl check (
              asking.bytes,
              asking.told,
              asking.file.short,
              graph_told,
              (spelling t, asking.spelled, short, pack_told, tt),
            )) [
              | inl values ↦ (
                  let graph_read = graph_first a (tables_value t ∷ []) values.0 values.2 in
                  let tables_read = tables_alone t graph_read.1 graph_read.4 in
                  inl (
                    graph_read.0,
                    (
                      asking.graph,
                      asking.pack,
                      inl (record {
                        has = subst (Has r (Check asking.graph asking.pack))
                            (graph_read.2 ∙ ap (λ vs. graph_value graph_read.0 ∷ vs) tables_read) values.1;
                        faultless = faultless;
                      }),
                    ),
                    graph_read.3,
                  ))
              | inr memory ↦ inr memory
            ]
        | inr rest ↦ elim rest [
          -- `play`: also what is played, which is the same
          | inl play ↦ (let told_play = play.3 in let command =
              Play asking.graph asking.pack play.0 play.1 in
              elim (asked command (graph_value a ∷ tables_value t ∷ played_value told_play.played ∷ []) refl play.2 (
                asking.bytes,
                asking.told,
                asking.file.short,
                graph_told,
                (
                  spelling t,
                  asking.spelled,
                  short,
                  pack_told,
                  (
                    told_play.bytes,
                    told_play.told,
                    told_play.short,
                    (told_play.played, refl, told_play.says),
                    tt,
                  ),
                ),
              )) [
                | inl values ↦ (
                    let graph_read =
                    graph_first a (tables_value t ∷ played_value told_play.played ∷ []) values.0 values.2 in
                    let tables_read = tables_first t (played_value told_play.played ∷ []) graph_read.1 graph_read.4 in
                    let play_read = played_alone told_play.played tables_read.0 tables_read.2 in
                    let same = graph_read.2 ∙ ap (λ vs. graph_value graph_read.0 ∷ vs)
                    (tables_read.1 ∙ ap (λ vs. tables_value t ∷ vs) play_read.1) in
                    inl (
                      graph_read.0,
                      (
                        asking.graph,
                        asking.pack,
                        inr (inl (record {
                          scenario = play.0;
                          turns = play.1;
                          played = play_read.0;
                          asks = record { has = subst (Has r command) same values.1; faultless = faultless };
                        })),
                      ),
                      graph_read.3,
                    ))
                | inr memory ↦ inr memory
              ])
          -- `audit`: also a log, which may be another
          | inr audit ↦ (let told_log = audit.2 in let command = Audit asking.graph asking.pack audit.0 in
              elim (asked command (graph_value a ∷ tables_value t ∷ log_value told_log.log ∷ []) refl audit.1 (
                asking.bytes,
                asking.told,
                asking.file.short,
                graph_told,
                (
                  spelling t,
                  asking.spelled,
                  short,
                  pack_told,
                  (
                    told_log.bytes,
                    told_log.told,
                    told_log.short,
                    (told_log.log, refl, record { says = told_log.says; lawful = told_log.says.lawful }),
                    tt,
                  ),
                ),
              )) [
                | inl values ↦ (
                    let graph_read = graph_first a (tables_value t ∷ log_value told_log.log ∷ []) values.0 values.2 in
                    let tables_read = tables_first t (log_value told_log.log ∷ []) graph_read.1 graph_read.4 in
                    let log_read = log_alone told_log.log tables_read.0 tables_read.2 in
                    let same = graph_read.2 ∙ ap (λ vs. graph_value graph_read.0 ∷ vs)
                    (tables_read.1 ∙ ap (λ vs. tables_value t ∷ vs) log_read.1) in
                    inl (
                      graph_read.0,
                      (
                        asking.graph,
                        asking.pack,
                        inr (inr (record {
                          path = audit.0;
                          log = log_read.0;
                          asks = record { has = subst (Has r command) same values.1; faultless = faultless };
                        })),
                      ),
                      graph_read.3,
                    ))
                | inr memory ↦ inr memory
              ])
        ]
      ]

  -- tables `t` of another graph than `a` are rejected, with 4
  pub other : (a : Admission) (t : Tables) → AsksVerdict (told_of r) a t → (IsHeadFor a.graph t.head → ⊥) → Answer 4
  other a t asks differs = elim (verdict_asked a t asks) [
    | inl h ↦ w.other h.0 t h.1 (moved_on a h.0 h.2 (λ g o. IsHeadFor g t.head → ⊥) differs)
    | inr memory ↦ inr memory
  ]

  -- valid tables `t` of the graph are accepted, with 0
  pub safe : (a : Admission) (t : Tables) → AsksVerdict (told_of r) a t → IsHeadFor a.graph t.head →
      IsValid a.graph t.nodes → Answer 0
  safe a t asks head valid = elim (verdict_asked a t asks) [
    | inl h ↦ w.safe h.0 t h.1 (moved_on a h.0 h.2 (λ g o. IsHeadFor g t.head) head)
        (moved_on a h.0 h.2 (λ g o. IsValid g t.nodes) valid)
    | inr memory ↦ inr memory
  ]

  -- tables `t` of the graph that break a rule are found unsafe, with 7
  pub broken : (a : Admission) (t : Tables) → AsksVerdict (told_of r) a t → IsHeadFor a.graph t.head →
      (IsValid a.graph t.nodes → ⊥) → Answer 7
  broken a t asks head invalid = elim (verdict_asked a t asks) [
    | inl h ↦ w.broken h.0 t h.1 (moved_on a h.0 h.2 (λ g o. IsHeadFor g t.head) head)
        (moved_on a h.0 h.2 (λ g o. IsValid g t.nodes → ⊥) invalid)
    | inr memory ↦ inr memory
  ]

  -- ---- a node, parts

  -- if the table of a node is asked for (`q`), the run asks for it of the tables `t` that the shelf reports, or memory
  -- ran out
  node_asked : (t : Tables) (name : Text) (q : AsksNode (told_of r) t name) →
      AsksRun r (Node q.pack name) (tables_value t ∷ []) ⊎ (r.status ≡ 8)
  node_asked t name q = elim (asked (Node q.pack name) (tables_value t ∷ []) refl q.words
      (spelling t, q.spelled, all_short t q.lawful, (t, refl, record { spelled = refl; lawful = q.lawful }), tt)) [
        | inl h ↦
            inl (record { has = subst (Has r (Node q.pack name)) (tables_alone t h.0 h.2) h.1; faultless = faultless })
        | inr memory ↦ inr memory
      ]

  -- the table of a node that has the name is printed, with 0
  pub named : (t : Tables) (name : Text) (node : ℕ) → AsksNode (told_of r) t name →
      first_named t.head name ≡ Some node → Answer 0
  named t name node asks is = elim (node_asked t name asks) [
    | inl h ↦ w.named asks.pack name t node h is
    | inr memory ↦ inr memory
  ]

  -- a name that no node has is rejected, with 4
  pub nameless : (t : Tables) (name : Text) → AsksNode (told_of r) t name → first_named t.head name ≡ None → Answer 4
  nameless t name asks is = elim (node_asked t name asks) [
    | inl h ↦ w.nameless asks.pack name t h is
    | inr memory ↦ inr memory
  ]

  -- if the graph of parts is asked for, the run asks for it with the parts that the shelf reports, or memory ran out
  unrolling_asked : (parts : List Part) (q : AsksUnrolling (told_of r) parts) →
      AsksRun r (Hyper q.pairs) (part_values parts) ⊎ (r.status ≡ 8)
  unrolling_asked parts q = elim (asked (Hyper q.pairs) (part_values parts) refl q.words
      (parts_told r.shelf.old.stands q.pairs parts q.told).0) [
        | inl h ↦
            inl (record { has = subst (Has r (Hyper q.pairs)) (parts_alone parts h.0 h.2) h.1; faultless = faultless })
        | inr memory ↦ inr memory
      ]

  -- parts that have a graph of all their instances are unrolled, with 0
  pub unrolled : (parts : List Part) (g : Graph) → AsksUnrolling (told_of r) parts → ShowsUnrolled parts (Ok g) →
      Answer 0
  unrolled parts g asks shows = elim (unrolling_asked parts asks) [
    | inl h ↦ w.unrolled asks.pairs parts g h (parts_told r.shelf.old.stands asks.pairs parts
        asks.told).1 shows
    | inr memory ↦ inr memory
  ]

  -- parts that are refused are rejected, with 4
  pub apart : (parts : List Part) (fault : HyperFault) → AsksUnrolling (told_of r) parts →
      ShowsUnrolled parts (Err fault) → fault ≢ OutOfMemory → Answer 4
  apart parts fault asks shows told = elim (unrolling_asked parts asks) [
    | inl h ↦ w.apart asks.pairs parts fault h (parts_told r.shelf.old.stands asks.pairs parts
        asks.told).1 shows told
    | inr memory ↦ inr memory
  ]
