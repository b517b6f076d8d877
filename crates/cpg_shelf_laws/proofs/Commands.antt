-- What a command reads, why it stops and what it puts out, by what the shelf reports of its files.
use Rattle.std.proofs.Common.{ℕ, suc, ◌≡◌, ◌<◌, ◌≤◌, ◌∙◌, List, [], ◌∷◌, ◌++◌, Option, Some, None, length, refl, ap}
use Rattle.std.proofs.Common.{subst, arith, inl, inr}
use Rattle.cpg_base.specs.Graph.{Graph}
use Rattle.cpg_history.specs.Fetch.{Fetch}
use Rattle.cpg_io.specs.Agreement.{Agrees}
use Rattle.cpg_io.specs.Shelf.{KeepsShelf}
use Rattle.cpg_io.specs.State.{ShelfState, given_count}
use Rattle.cpg_words.specs.Parts.{Text}
use Rattle.cpg_words.specs.Forms.{command_of}
use Rattle.cpg_words.specs.declared.command.Pair.{Pair}
use Rattle.cpg_words.specs.declared.command.Command.{Command}
use Rattle.cpg_words.specs.declared.command.Command.TheVariants.{Show, Compile, Check, Play, Node, Trial, Live, Hyper}
use Rattle.cpg_words.specs.declared.command.Command.TheVariants.{Tune, Audit}
use Rattle.cpg_reader.specs.declared.place.ReadFault.{ReadFault}
use Rattle.cpg_rules.specs.Admission.{Admission}
use Rattle.cpg_table.specs.Lawful.{Tables}
use Rattle.cpg_codec.specs.declared.fault.PackFault.{PackFault}
use Rattle.cpg_hyper.specs.declared.part.Part.{Part}
use Rattle.cpg_log.specs.Log.{Log}
use Rattle.cpg_scenario.specs.declared.reading.Played.{Played}
use Rattle.cpg_refusal.specs.declared.halt.Halt.{Halt}
use Rattle.cpg_refusal.specs.declared.halt.Halt.TheVariants.{Memory}
use Rattle.cpg_inputs.specs.declared.kind.FileKind.{FileKind}
use Rattle.cpg_inputs.specs.declared.kind.FileKind.TheVariants.{GraphFile, PartFile, PackFile, ScenarioFile, LogFile}
use Rattle.cpg_inputs.specs.Files.{file, files_of, limit_of, part_files}
use Rattle.cpg_inputs.specs.Reading.{IsRead, Reads, StopsAt, StopsReading as StopsFiles}
use Rattle.cpg_inputs.specs.Says.{Value, graph_value, part_value, tables_value, played_value, log_value, graph_after}
use Rattle.cpg_inputs.specs.Shapes.{HavePeriods, OnGraph, OnTables, part_values}
use Rattle.cpg_inputs.proofs.OneReading.{reads_grown, stops_grown}
use Rattle.cpg_app.specs.Causes.{IsUncompiled, StopsVerdict as Unverified, StopsWork, StopsNaming as Unnamed}
use Rattle.cpg_app.specs.Outputs.{PutsOut}
use Rattle.cpg_shelf_laws.specs.Causes.{Admits, AreSaid, GRAPH_LIMIT, IsAfterReading, IsUnsaid, PACK_LIMIT, Says}
use Rattle.cpg_shelf_laws.specs.Causes.{SaysLog, SaysPlayed, Spells, StopsCommand, StopsGraph, StopsNaming}
use Rattle.cpg_shelf_laws.specs.Causes.{StopsReading}
use Rattle.cpg_shelf_laws.specs.Causes.{StopsTables, StopsVerdict, seen}
use Rattle.cpg_shelf_laws.specs.Outputs.{CommandPrints}
use Rattle.cpg_shelf_laws.proofs.Fetched.{IsLast, agreed, last, tells_whole}
use Rattle.cpg_shelf_laws.proofs.Parts.{some_parts}
use Rattle.cpg_shelf_laws.proofs.Stops.{admits, says, says_acts, says_scenario, spells, stops_graph, stops_log}
use Rattle.cpg_shelf_laws.proofs.Stops.{stops_pack, stops_part, stops_scenario}
use Rattle.cpg_shelf_laws.proofs.Values.{says_graph, says_log, says_part, says_played, says_tables}

-- ---- memory runs out

-- memory may run out as a file is read, whatever the shelf reports
unread_memory : (old new : ShelfState) (told : Option Text) (halt : Halt) → halt ≡ Memory →
    StopsReading (seen old new) told halt
unread_memory old new told halt is_memory =
    inr (inr (record {
      fault = ReadFault.OutOfMemory;
      halt_is = is_memory;
      within = λ other. absurd (other refl);
      first = λ other. absurd (other refl);
    }))

-- any command may be stopped by memory running out
pub memory_stops : (old new : ShelfState) (c : Command) (halt : Halt) → halt ≡ Memory →
    StopsCommand (seen old new) c halt
memory_stops old new (Show graph) halt is_memory = inl (inl (unread_memory old new _ halt is_memory))
memory_stops old new (Compile graph) halt is_memory = inl (inl (unread_memory old new _ halt is_memory))
memory_stops old new (Check graph pack) halt is_memory = inl (inl (unread_memory old new _ halt is_memory))
memory_stops old new (Play graph pack scenario turns) halt is_memory =
    inl (inl (unread_memory old new _ halt is_memory))
memory_stops old new (Node pack name) halt is_memory = inl (inr
    (inr (record {
      fault = PackFault.OutOfMemory;
      halt_is = is_memory;
      within = λ other. absurd (other refl);
      shows = tt;
    })))
memory_stops old new (Trial number) halt is_memory = is_memory
memory_stops old new (Live pack name stream) halt is_memory = inl (inr
    (inr (record {
      fault = PackFault.OutOfMemory;
      halt_is = is_memory;
      within = λ other. absurd (other refl);
      shows = tt;
    })))
memory_stops old new (Hyper pairs) halt is_memory = inl (inr is_memory)
memory_stops old new (Tune graph) halt is_memory = inl (inl (unread_memory old new _ halt is_memory))
memory_stops old new (Audit graph pack log) halt is_memory = inl (inl (unread_memory old new _ halt is_memory))

-- a halt by which a check of tables `t` stops is one of the earlier contract
verdict_told : (a : Admission) (t : Tables) (halt : Halt) → Unverified a t halt → StopsVerdict a t halt
verdict_told a t halt (inl other) = inl other
verdict_told a t halt (inr broken) = inr (inl broken)

-- the halt for a name that no node has is one of the earlier contract
naming_told : (t : Tables) (name : Text) (halt : Halt) → Unnamed t name halt → StopsNaming t name halt
naming_told t name halt unnamed = inl (unnamed.halt_is, unnamed.none)

-- given a shelf that a run has kept
module _ (old new : ShelfState) (k : KeepsShelf old new) where
  -- ---- one, two or three files

  -- the one fetch is the last
  one : (f : Fetch) → new.history ≡ f ∷ old.history → IsLast old new f
  one f history_is = last old new k f [] history_is

  -- of two fetches `f` and `p`, one after the other, the second is the last
  two : (f p : Fetch) → new.history ≡ p ∷ f ∷ old.history → IsLast old new p
  two f p history_is = last old new k p (f ∷ []) history_is

  -- of two fetches `f` and `p`, one after the other, the first gave what the shelf reports
  first : (f p : Fetch) → new.history ≡ p ∷ f ∷ old.history → Agrees old.stands f
  first f p history_is = agreed old new k f (record { newer = p ∷ []; older = []; is = history_is })

  -- of three fetches `f`, `p` and `c`, one after another, the third is the last
  three : (f p c : Fetch) → new.history ≡ c ∷ p ∷ f ∷ old.history → IsLast old new c
  three f p c history_is = last old new k c (p ∷ f ∷ []) history_is

  -- of three fetches `f`, `p` and `c`, one after another, the first gave what the shelf reports
  first_three : (f p c : Fetch) → new.history ≡ c ∷ p ∷ f ∷ old.history → Agrees old.stands f
  first_three f p c history_is = agreed old new k f (record { newer = c ∷ p ∷ []; older = []; is = history_is })

  -- of three fetches `f`, `p` and `c`, one after another, the second gave what the shelf reports
  second_three : (f p c : Fetch) → new.history ≡ c ∷ p ∷ f ∷ old.history → Agrees old.stands p
  second_three f p c history_is = agreed old new k p (record { newer = c ∷ []; older = f ∷ []; is = history_is })

  -- if the last fetch gave no more than a limit, the count of its bytes isn't more
  within : (f : Fetch) (limit : ℕ) → IsLast old new f → length f.given ≤ limit → given_count new ≤ limit
  within f limit is short = let count = is.count in omega (arith, count, short)

  -- the value `v` of a graph file that fetch `f` read is an admitted graph, and what the shelf reports of the file says
  -- it
  graph_of : (g : Option Graph) (name : Text) (f : Fetch) (v : Value) → IsRead g (file GraphFile name) f v →
      Agrees old.stands f →
      (a : Admission) × (v ≡ graph_value a) × Admits (old.stands name) a
  graph_of g name f v reads agrees = (
    reads.says.0,
    reads.says.1,
    admits (old.stands name) f.given reads.says.0
        (tells_whole old.stands (file GraphFile name) f reads.whole agrees) reads.whole.short reads.says.2,
  )

  -- the value `v` of a pack that fetch `f` read is tables, and what the shelf reports of the file spells them
  tables_of : (g : Option Graph) (name : Text) (f : Fetch) (v : Value) → IsRead g (file PackFile name) f v →
      Agrees old.stands f →
      (t : Tables) × (v ≡ tables_value t) × Spells (old.stands name) t
  tables_of g name f v reads agrees = (
    reads.says.0,
    reads.says.1,
    spells (old.stands name) f.given reads.says.0
        (tells_whole old.stands (file PackFile name) f reads.whole agrees) reads.whole.short reads.says.2,
  )

  -- what the shelf reports of a graph file that fetch `f` read says the graph `a`
  graph_is : (g : Option Graph) (name : Text) (f : Fetch) (a : Admission) →
      IsRead g (file GraphFile name) f (graph_value a) → Agrees old.stands f →
      Admits (old.stands name) a
  graph_is g name f a reads agrees = admits (old.stands name) f.given a
      (tells_whole old.stands (file GraphFile name) f reads.whole agrees) reads.whole.short
      (says_graph g f.given a reads.says)

  -- what the shelf reports of a pack that fetch `f` read spells the tables `t`
  tables_are : (g : Option Graph) (name : Text) (f : Fetch) (t : Tables) →
      IsRead g (file PackFile name) f (tables_value t) → Agrees old.stands f →
      Spells (old.stands name) t
  tables_are g name f t reads agrees = spells (old.stands name) f.given t
      (tells_whole old.stands (file PackFile name) f reads.whole agrees) reads.whole.short
      (says_tables g f.given t reads.says)

  -- the same for a pack that fetch `f` read before any graph, with tables `t`
  pub spelled_by : (name : Text) (f : Fetch) (t : Tables) → IsRead None (file PackFile name) f (tables_value t) →
      Agrees old.stands f →
      Spells (old.stands name) t
  spelled_by name f t reads agrees = tables_are None name f t reads agrees

  -- what the shelf reports of a scenario file that fetch `f` read says what is played, `p`
  played_is : (g : Graph) (name : Text) (f : Fetch) (p : Played) →
      IsRead (Some g) (file ScenarioFile name) f (played_value p) → Agrees old.stands f →
      SaysPlayed (old.stands name) g p
  played_is g name f p reads agrees = says_scenario (old.stands name) f.given g p
      (tells_whole old.stands (file ScenarioFile name) f reads.whole agrees) reads.whole.short
      (says_played g f.given p reads.says)

  -- what the shelf reports of a log that fetch `f` read says the log `l`
  log_is : (g : Graph) (name : Text) (f : Fetch) (l : Log) → IsRead (Some g) (file LogFile name) f (log_value l) →
      Agrees old.stands f →
      SaysLog (old.stands name) g l
  log_is g name f l reads agrees = says_acts (old.stands name) f.given g l
      (tells_whole old.stands (file LogFile name) f reads.whole agrees) reads.whole.short
      (says_log g f.given l reads.says)

  -- what the shelf reports of a part's file that fetch `f` read says its graph `h`
  part_is : (g : Option Graph) (name : Text) (f : Fetch) (h : Graph) → IsRead g (file PartFile name) f (part_value h) →
      Agrees old.stands f →
      Says (old.stands name) h
  part_is g name f h reads agrees = says (old.stands name) f.given h
      (tells_whole old.stands (file PartFile name) f reads.whole agrees) reads.whole.short
      (says_part g f.given h reads.says)

  -- after the values `v` and `w` of a graph and of tables, files are read for that graph
  behind : (v w : Value) (a : Admission) (t : Tables) → v ≡ graph_value a → w ≡ tables_value t →
      graph_after (graph_after None v) w ≡ Some a.graph
  behind v w a t is_graph is_tables = ap (graph_after (graph_after None v)) is_tables ∙ ap (graph_after None) is_graph

  -- ---- parts

  -- If the reading of the parts' files stops the run, one of them isn't read as a graph, and all before it are. By
  -- induction on the pairs: the first file stops it, or it was read, and a later one stops it.
  pub unsaid : (g : Option Graph) (pairs : List Pair) (past older : List Fetch) (halt : Halt) →
      past ≡ older ++ old.history →
      StopsFiles g (part_files pairs) past new.history halt →
      IsUnsaid (seen old new) pairs halt
  unsaid g [] past older halt grown_by stops_here = absurd stops_here
  -- the first file stops it, and none is before it
  unsaid g (pair ∷ pairs) past older halt same (f, inl (stops, is)) = record {
    place = 0;
    within = omega arith;
    earlier = [];
    said = tt;
    stops = λ d. stops_part old new f (last old new k f older (is ∙ ap (λ h. f ∷ h) same)) pair.graph g halt stops;
  }
  -- the first file was read, so what the shelf reports of it says its graph, and a later one stops the run
  unsaid g (pair ∷ pairs) past older halt same (f, inr (v, r, there)) =
      let rest = unsaid (graph_after g v) pairs (f ∷ past) (f ∷ older) halt (ap (λ h. f ∷ h) same) there in
      let grown = stops_grown (graph_after g v) (part_files pairs) (f ∷ past) new.history halt there in
      let ag = agreed old new k f
      (record { newer = grown.fetches; older = older; is = grown.is ∙ ap (λ h. grown.fetches ++ f ∷ h) same }) in
      record {
        place = suc rest.place;
        within = (let inside = rest.within in omega (arith, inside));
        earlier = record { period = pair.period; problem = r.says.0 } ∷ rest.earlier;
        said = (
          refl,
          says (old.stands pair.graph) f.given r.says.0
              (tells_whole old.stands (file PartFile pair.graph) f r.whole ag) r.whole.short r.says.2,
          rest.said,
        );
        stops = rest.stops;
      }

  -- if the files of all parts were read, what the shelf reports of them says their graphs; by induction on the pairs
  pub parts_said : (g : Option Graph) (pairs : List Pair) (parts : List Part) (past older : List Fetch) →
      past ≡ older ++ old.history →
      Reads g (part_files pairs) past new.history (part_values parts) → HavePeriods pairs parts →
      AreSaid old.stands pairs parts
  -- there are as many parts as pairs
  parts_said g [] [] past older same reads have_periods = tt
  parts_said g [] (part ∷ parts) past older same reads have_periods = absurd have_periods
  parts_said g (pair ∷ pairs) [] past older same reads have_periods = absurd have_periods
  -- the first file was read, and so were the others
  parts_said g (pair ∷ pairs) (part ∷ parts) past older same (f, r, rest) h =
      let grown = reads_grown g (part_files pairs) (f ∷ past) new.history (part_values parts) rest in
      let ag = agreed old new k f
      (record { newer = grown.fetches; older = older; is = grown.is ∙ ap (λ h. grown.fetches ++ f ∷ h) same }) in (
        h.0,
        part_is g pair.graph f part.problem r ag,
        parts_said g pairs parts (f ∷ past) (f ∷ older) (ap (λ h. f ∷ h) same) rest h.1,
      )

  -- the file of the last part, if all were read, gave no more than the limit; by induction on the pairs, of which there
  -- is one
  pub parts_within : (g : Option Graph) (pairs : List Pair) (parts : List Part) (past older : List Fetch) →
      past ≡ older ++ old.history →
      0 < length pairs →
      Reads g (part_files pairs) past new.history (part_values parts) → HavePeriods pairs parts →
      given_count new ≤ GRAPH_LIMIT
  -- there is a pair, and as many parts
  parts_within g [] parts past older same some reads have_periods = absurd (omega (arith, some))
  parts_within g (pair ∷ pairs) [] past older same some reads have_periods = absurd have_periods
  -- a single file is the last
  parts_within g (pair ∷ []) (part ∷ []) past older same some (f, r, is) h =
      within f (limit_of PartFile) (last old new k f older (is ∙ ap (λ h. f ∷ h) same)) r.whole.short
  parts_within g (pair ∷ []) (part ∷ other ∷ parts) past older same some reads have_periods = absurd have_periods.1
  -- if another file follows, the last one is among the others
  parts_within g (pair ∷ next ∷ pairs) (part ∷ parts) past older same some (f, r, rest) h =
      parts_within g (next ∷ pairs) parts (f ∷ past) (f ∷ older) (ap (λ h. f ∷ h) same) (omega arith) rest h.1

  -- ---- a file stops a command

  -- If a file stops a command, the earlier contract has this stop too, by what the shelf reports of the files. By the
  -- command, and by which of its files stops it: each earlier one was read, and gave what the shelf reports.
  pub stops_files : (c : Command) (halt : Halt) → StopsFiles None (files_of c) old.history new.history halt →
      StopsCommand (seen old new) c halt
  -- commands on a graph file alone
  stops_files (Show name) halt (f, inl (stops, e)) = inl (stops_graph old new f (one f e) name None halt stops)
  stops_files (Show name) halt (f, inr (v, r, none)) = absurd none
  stops_files (Compile name) halt (f, inl (stops, e)) = inl (stops_graph old new f (one f e) name None halt stops)
  stops_files (Compile name) halt (f, inr (v, r, none)) = absurd none
  stops_files (Tune name) halt (f, inl (stops, e)) = inl (stops_graph old new f (one f e) name None halt stops)
  stops_files (Tune name) halt (f, inr (v, r, none)) = absurd none
  -- `check`: the graph file, or the pack after it
  stops_files (Check name pack) halt (f, inl (stops, e)) = inl (stops_graph old new f (one f e) name None halt stops)
  stops_files (Check name pack) halt (f, inr (v, r, (p, inl (stops, e)))) =
      let admitted = graph_of None name f v r (first f p e) in
      inr (admitted.0, admitted.2, inl (stops_pack old new p (two f p e) pack (graph_after None v) halt stops))
  stops_files (Check name pack) halt (f, inr (v, r, (p, inr (w, q, none)))) = absurd none
  -- `play`: the graph file, the pack after it, or the scenario file after both
  stops_files (Play name pack scenario turns) halt (f, inl (stops, e)) =
      inl (stops_graph old new f (one f e) name None halt stops)
  stops_files (Play name pack scenario turns) halt (f, inr (v, r, (p, inl (stops, e)))) =
      let admitted = graph_of None name f v r (first f p e) in
      inr (admitted.0, admitted.2, inl (stops_pack old new p (two f p e) pack (graph_after None v) halt stops))
  stops_files (Play name pack scenario turns) halt (f, inr (v, r, (p, inr (w, q, (c, inl (stops, e)))))) =
      let admitted = graph_of None name f v r (first_three f p c e) in
      let packed = tables_of (graph_after None v) pack p w q (second_three f p c e) in
      inr (
        admitted.0,
        admitted.2,
        inr (
          packed.0,
          packed.2,
          inl (stops_scenario old new c (three f p c e) scenario admitted.0.graph halt
              (subst (λ g. StopsAt g (file ScenarioFile scenario) c halt)
              (behind v w admitted.0 packed.0 admitted.1 packed.1) stops)),
        ),
      )
  stops_files (Play name pack scenario turns) halt (f, inr (v, r, (p, inr (w, q, (c, inr (u, s, none)))))) = absurd none
  -- `audit`: the graph file, the pack after it, or the log after both
  stops_files (Audit name pack log) halt (f, inl (stops, e)) =
      inl (stops_graph old new f (one f e) name None halt stops)
  stops_files (Audit name pack log) halt (f, inr (v, r, (p, inl (stops, e)))) =
      let admitted = graph_of None name f v r (first f p e) in
      inr (admitted.0, admitted.2, inl (stops_pack old new p (two f p e) pack (graph_after None v) halt stops))
  stops_files (Audit name pack log) halt (f, inr (v, r, (p, inr (w, q, (c, inl (stops, e)))))) =
      let admitted = graph_of None name f v r (first_three f p c e) in
      let packed = tables_of (graph_after None v) pack p w q (second_three f p c e) in
      inr (
        admitted.0,
        admitted.2,
        inr (
          packed.0,
          packed.2,
          inl (stops_log old new c (three f p c e) log admitted.0.graph halt
              (subst (λ g. StopsAt g (file LogFile log) c halt) (behind v w admitted.0 packed.0 admitted.1 packed.1)
              stops)),
        ),
      )
  stops_files (Audit name pack log) halt (f, inr (v, r, (p, inr (w, q, (c, inr (u, s, none)))))) = absurd none
  -- commands on a pack alone
  stops_files (Node pack name) halt (p, inl (stops, e)) = inl (stops_pack old new p (one p e) pack None halt stops)
  stops_files (Node pack name) halt (p, inr (v, r, none)) = absurd none
  stops_files (Live pack name stream) halt (p, inl (stops, e)) =
      inl (stops_pack old new p (one p e) pack None halt stops)
  stops_files (Live pack name stream) halt (p, inr (v, r, none)) = absurd none
  -- `trial` has no file, and `hyper` one for each part
  stops_files (Trial number) halt none = absurd none
  stops_files (Hyper pairs) halt s = inl (inl (unsaid None pairs old.history [] halt refl s))

  -- ---- all files of a command

  -- one file was read
  record OneRead (kind : FileKind) (name : Text) (v : Value) : Type 0 where
    -- the fetch, in which the file said `v`
    f : Fetch
    r : IsRead None (file kind name) f v
    -- it is the only new one
    end : new.history ≡ f ∷ old.history

  -- reading a list of one file is reading it
  one_read : (kind : FileKind) (name : Text) (v : Value) →
      Reads None (file kind name ∷ []) old.history new.history (v ∷ []) →
      OneRead kind name v
  one_read kind name v (f, r, e) = record { f = f; r = r; end = e }

  -- a graph and a pack were read
  record TwoRead (name pack : Text) (a : Admission) (t : Tables) : Type 0 where
    -- the fetches of the graph and of the pack
    f : Fetch
    p : Fetch
    -- in them the files said the graph of `a`, and tables `t` for it
    r : IsRead None (file GraphFile name) f (graph_value a)
    q : IsRead (Some a.graph) (file PackFile pack) p (tables_value t)
    -- they are the only new ones
    end : new.history ≡ p ∷ f ∷ old.history

  -- to read the two files of a graph `a` and of tables `t` is to read each of them
  two_read : (name pack : Text) (a : Admission) (t : Tables) →
      Reads None (file GraphFile name ∷ file PackFile pack ∷ []) old.history new.history
      (graph_value a ∷ tables_value t ∷ []) →
      TwoRead name pack a t
  two_read name pack a t (f, r, (p, q, e)) = record { f = f; p = p; r = r; q = q; end = e }

  -- a graph, a pack and a third file were read
  record ThreeRead (kind : FileKind) (name pack third : Text) (a : Admission) (t : Tables) (v : Value) : Type 0 where
    -- the fetches of the graph, of the pack and of the third file
    f : Fetch
    p : Fetch
    c : Fetch
    -- in them the files said the graph of `a`, and tables `t` and a value `v` for it
    r : IsRead None (file GraphFile name) f (graph_value a)
    q : IsRead (Some a.graph) (file PackFile pack) p (tables_value t)
    s : IsRead (Some a.graph) (file kind third) c v
    -- they are the only new ones
    end : new.history ≡ c ∷ p ∷ f ∷ old.history

  -- to read the three files of a graph `a`, tables `t` and a value `v` is to read each of them
  three_read : (kind : FileKind) (name pack third : Text) (a : Admission) (t : Tables) (v : Value) →
      Reads None (file GraphFile name ∷ file PackFile pack ∷ file kind third ∷ []) old.history new.history
      (graph_value a ∷ tables_value t ∷ v ∷ []) → ThreeRead kind name pack third a t v
  three_read kind name pack third a t v (f, r, (p, q, (c, s, e))) =
      record { f = f; p = p; c = c; r = r; q = q; s = s; end = e }

  -- the files of a command were read
  abbrev Files : Command → List Value → Type 0
  Files c values = Reads None (files_of c) old.history new.history values

  -- given that one file was read, a graph
  module _ (name : Text) (a : Admission) (h : OneRead GraphFile name (graph_value a)) where
    -- what the shelf reports of the file says the graph
    one_graph : Admits (old.stands name) a
    one_graph = graph_is None name h.f a h.r (one h.f h.end).agrees

    -- what was given of the one file is within its limit
    one_within : given_count new ≤ GRAPH_LIMIT
    one_within = within h.f (limit_of GraphFile) (one h.f h.end) h.r.whole.short

  -- given that one file was read, a pack
  module _ (pack : Text) (t : Tables) (h : OneRead PackFile pack (tables_value t)) where
    -- what the shelf reports of the file spells the tables
    one_pack : Spells (old.stands pack) t
    one_pack = tables_are None pack h.f t h.r (one h.f h.end).agrees

    -- what was given of the one pack is within its limit
    pack_within : given_count new ≤ PACK_LIMIT
    pack_within = within h.f (limit_of PackFile) (one h.f h.end) h.r.whole.short

  -- given that two files were read, a graph and a pack
  module _ (name pack : Text) (a : Admission) (t : Tables) (h : TwoRead name pack a t) where
    -- what the shelf reports of the first says the graph
    two_graph : Admits (old.stands name) a
    two_graph = graph_is None name h.f a h.r (first h.f h.p h.end)

    -- what the shelf reports of the second spells the tables
    two_pack : Spells (old.stands pack) t
    two_pack = tables_are (Some a.graph) pack h.p t h.q (two h.f h.p h.end).agrees

    -- what was given of the pack after the graph is within its limit
    two_within : given_count new ≤ PACK_LIMIT
    two_within = within h.p (limit_of PackFile) (two h.f h.p h.end) h.q.whole.short

  -- given that a graph, a pack and a third file were read
  module _ (kind : FileKind) (name pack third : Text) (a : Admission) (t : Tables) (v : Value)
      (h : ThreeRead kind name pack third a t v) where
    -- given three files that were read, what the shelf reports of the first says the graph
    three_graph : Admits (old.stands name) a
    three_graph = graph_is None name h.f a h.r (first_three h.f h.p h.c h.end)

    -- what the shelf reports of the second spells the tables
    three_pack : Spells (old.stands pack) t
    three_pack = tables_are (Some a.graph) pack h.p t h.q (second_three h.f h.p h.c h.end)

    -- the fetch of the third gave what the shelf reports
    three_agrees : Agrees old.stands h.c
    three_agrees = (three h.f h.p h.c h.end).agrees

    -- what was given of the third file is within its limit
    three_within : given_count new ≤ limit_of kind
    three_within = within h.c (limit_of kind) (three h.f h.p h.c h.end) h.s.whole.short

  -- ---- the work stops a command

  -- if the compile of a graph file fails, the earlier contract has this stop too
  compiled_stops : (name : Text) (halt : Halt) (values : List Value) →
      Reads None (file GraphFile name ∷ []) old.history new.history values →
      OnGraph values (λ a. IsUncompiled a halt) →
      StopsGraph (seen old new) (old.stands name) (IsAfterReading (given_count new) GRAPH_LIMIT IsUncompiled) halt
  compiled_stops name halt values reads (a, e, un) =
      let files = one_read GraphFile name (graph_value a)
      (subst (λ vs. Reads None (file GraphFile name ∷ []) old.history new.history vs) e reads) in
      inr (a, one_graph name a files, record { stops = un; within = one_within name a files })

  -- if no node of a pack has the name, the earlier contract has this stop too
  naming_stops : (pack name : Text) (halt : Halt) (values : List Value) →
      Reads None (file PackFile pack ∷ []) old.history new.history values →
      OnTables values (λ t. Unnamed t name halt) →
      StopsTables (seen old new) (old.stands pack)
      (IsAfterReading (given_count new) PACK_LIMIT (λ t. StopsNaming t name)) halt
  naming_stops pack name halt values reads (t, e, un) =
      let files = one_read PackFile pack (tables_value t)
      (subst (λ vs. Reads None (file PackFile pack ∷ []) old.history new.history vs) e reads) in
      inr (t, one_pack pack t files, record { stops = naming_told t name halt un; within = pack_within pack t files })

  -- If a command's work on what its files say stops it, the earlier contract has this stop too, by what the shelf
  -- reports of the files. By the command, whose files were all read.
  pub stops_work : (words : List Text) (c : Command) (halt : Halt) (values : List Value) → command_of words ≡ Some c →
      Files c values → StopsWork c values halt →
      StopsCommand (seen old new) c halt
  -- commands on a graph file alone; the work of `tune` and `trial` stops for nothing but memory
  stops_work words (Show name) halt values is reads stops = compiled_stops name halt values reads stops
  stops_work words (Compile name) halt values is reads stops = compiled_stops name halt values reads stops
  stops_work words (Tune name) halt values is reads stops = absurd stops
  stops_work words (Trial number) halt values is reads stops = absurd stops
  -- commands on a pack alone
  stops_work words (Node pack name) halt values is reads stops = naming_stops pack name halt values reads stops
  stops_work words (Live pack name stream) halt values is reads stops = naming_stops pack name halt values reads stops
  -- `check`: both files were read
  stops_work words (Check name pack) halt values is reads (a, t, e, un) =
      let files = two_read name pack a t (subst (λ vs. Files (Check name pack) vs) e reads) in
      inr (
        a,
        two_graph name pack a t files,
        inr (
          t,
          two_pack name pack a t files,
          record { stops = verdict_told a t halt un; within = two_within name pack a t files },
        ),
      )
  -- `play`: the three files were read, and the last says what is played
  stops_work words (Play name pack scenario turns) halt values is reads (a, t, p, e, un) =
      let played = played_value p in
      let files = three_read ScenarioFile name pack scenario a t played
      (subst (λ vs. Files (Play name pack scenario turns) vs) e reads) in
      let said =
      played_is a.graph scenario files.c p files.s (three_agrees ScenarioFile name pack scenario a t played files) in
      inr (
        a,
        three_graph ScenarioFile name pack scenario a t played files,
        inr (
          t,
          three_pack ScenarioFile name pack scenario a t played files,
          inr (
            p,
            said,
            record {
              stops = verdict_told a t halt un;
              within = three_within ScenarioFile name pack scenario a t played files;
            },
          ),
        ),
      )
  -- `audit`: the three files were read, and the last says the log
  stops_work words (Audit name pack log) halt values is reads (a, t, l, e, un) =
      let logged = log_value l in
      let files = three_read LogFile name pack log a t logged (subst (λ vs. Files (Audit name pack log) vs) e reads) in
      let said = log_is a.graph log files.c l files.s (three_agrees LogFile name pack log a t logged files) in
      inr (
        a,
        three_graph LogFile name pack log a t logged files,
        inr (
          t,
          three_pack LogFile name pack log a t logged files,
          inr (
            l,
            said,
            record { stops = verdict_told a t halt un; within = three_within LogFile name pack log a t logged files },
          ),
        ),
      )
  -- `hyper`: the files of all parts were read
  stops_work words (Hyper pairs) halt values is reads (parts, e, periods, un) =
      let files = subst (λ vs. Files (Hyper pairs) vs) e reads in
      inr (
        parts,
        parts_said None pairs parts old.history [] refl files periods,
        record {
          stops = un;
          within = parts_within None pairs parts old.history [] refl (some_parts words pairs is) files periods;
        },
      )

  -- ---- a command puts out a text

  -- A text that a command puts out by what its files say is one that it puts out by what the shelf reports of them. By
  -- the command, whose files were all read.
  pub prints : (words : List Text) (c : Command) (text : Text) (values : List Value) → command_of words ≡ Some c →
      Files c values → PutsOut c values text →
      CommandPrints (seen old new) c text
  -- commands on a graph file alone
  prints words (Show name) text values is reads (a, e, made) =
      let files = one_read GraphFile name (graph_value a) (subst (λ vs. Files (Show name) vs) e reads) in
      record { output = (a, one_graph name a files, made); within = one_within name a files }
  prints words (Compile name) text values is reads (a, e, made) =
      let files = one_read GraphFile name (graph_value a) (subst (λ vs. Files (Compile name) vs) e reads) in
      record { output = (a, one_graph name a files, made); within = one_within name a files }
  prints words (Tune name) text values is reads (a, e, made) =
      let files = one_read GraphFile name (graph_value a) (subst (λ vs. Files (Tune name) vs) e reads) in
      record { output = (a, one_graph name a files, made); within = one_within name a files }
  -- `trial` has no file
  prints words (Trial number) text values is reads made = record { output = made; within = tt }
  -- commands on a pack alone; `live` puts out no text here
  prints words (Node pack name) text values is reads (t, e, made) =
      let files = one_read PackFile pack (tables_value t) (subst (λ vs. Files (Node pack name) vs) e reads) in
      record { output = (t, one_pack pack t files, made); within = pack_within pack t files }
  prints words (Live pack name stream) text values is reads none = absurd none
  -- `check`: both files were read
  prints words (Check name pack) text values is reads (a, t, e, made) =
      let files = two_read name pack a t (subst (λ vs. Files (Check name pack) vs) e reads) in
      record {
        output = (a, two_graph name pack a t files, (t, two_pack name pack a t files, made));
        within = two_within name pack a t files;
      }
  -- `play`: the three files were read, and the last says what is played
  prints words (Play name pack scenario turns) text values is reads (a, t, p, e, made) =
      let play_value = played_value p in
      let files = three_read ScenarioFile name pack scenario a t play_value
      (subst (λ vs. Files (Play name pack scenario turns) vs) e reads) in
      let said =
      played_is a.graph scenario files.c p files.s (three_agrees ScenarioFile name pack scenario a t play_value
      files) in
      record {
        output = (
          a,
          three_graph ScenarioFile name pack scenario a t play_value files,
          (
            t,
            three_pack ScenarioFile name pack scenario a t play_value files,
            record {
              judged = made.judged;
              played = p;
              says = said;
              lawful = (says_played a.graph files.c.given p files.s.says).lawful;
              played_text = made.play;
            },
          ),
        );
        within = three_within ScenarioFile name pack scenario a t play_value files;
      }
  -- `audit`: the three files were read, and the last says the log
  prints words (Audit name pack log) text values is reads (a, t, l, e, made) =
      let logged = log_value l in
      let files = three_read LogFile name pack log a t logged (subst (λ vs. Files (Audit name pack log) vs) e reads) in
      let said = log_is a.graph log files.c l files.s (three_agrees LogFile name pack log a t logged files) in
      record {
        output = (
          a,
          three_graph LogFile name pack log a t logged files,
          (
            t,
            three_pack LogFile name pack log a t logged files,
            record {
              judged = made.judged;
              log = l;
              says = said;
              lawful = (says_log a.graph files.c.given l files.s.says).lawful;
              audited = made.audited;
            },
          ),
        );
        within = three_within LogFile name pack log a t logged files;
      }
  -- `hyper`: the files of all parts were read
  prints words (Hyper pairs) text values is reads (parts, e, periods, made) =
      let files = subst (λ vs. Files (Hyper pairs) vs) e reads in
      record {
        output = (parts, parts_said None pairs parts old.history [] refl files periods, made);
        within = parts_within None pairs parts old.history [] refl (some_parts words pairs is) files periods;
      }
