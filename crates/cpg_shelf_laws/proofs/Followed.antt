-- The answer of a run that is to follow a stream, if the shelf reports the pack and the stream, and no count rises.
use Rattle.std.proofs.Common.{ℕ, ◌≡◌, ◌∙◌, List, [], ◌∷◌, Option, Some, None, IfSome, refl, sym, ap, ap₂, subst, inl}
use Rattle.std.proofs.Common.{inr, true≢false}
use Rattle.std.specs.Prelude.{◌⊎◌, Result, Ok, Err, is_some}
use Rattle.cpg_io.specs.Agreement.{IsFrontOf}
use Rattle.cpg_io.specs.Shelf.{KeepsShelf}
use Rattle.cpg_words.specs.Parts.{Text}
use Rattle.cpg_words.specs.Forms.{command_of}
use Rattle.cpg_words.specs.declared.command.Command.{Command}
use Rattle.cpg_words.specs.declared.command.Command.TheVariants.{Live}
use Rattle.cpg_table.specs.Lawful.{Tables}
use Rattle.cpg_table.specs.Table.{table_at}
use Rattle.cpg_codec.specs.Spelling.{spelling}
use Rattle.cpg_codec.proofs.Lengths.{all_short}
use Rattle.cpg_refusal.specs.declared.halt.Halt.{Halt}
use Rattle.cpg_refusal.specs.declared.halt.Halt.TheVariants.{Memory}
use Rattle.cpg_inputs.specs.declared.kind.FileKind.TheVariants.{PackFile}
use Rattle.cpg_inputs.specs.Files.{file, files_of}
use Rattle.cpg_inputs.specs.Says.{Value, tables_value}
use Rattle.cpg_inputs.specs.Shapes.{OnTables}
use Rattle.cpg_inputs.specs.Reading.{StopsReading}
use Rattle.cpg_inputs.proofs.OneReading.{says_alike}
use Rattle.cpg_live.specs.declared.following.Broken.{Broken}
use Rattle.cpg_live.specs.declared.following.Broken.TheVariants.{Shelf, Sink, Refused}
use Rattle.cpg_live.specs.declared.following.StreamFault.{StreamFault}
use Rattle.cpg_live.specs.Following.{Breaks}
use Rattle.cpg_live.specs.Streams.{stream_end}
use Rattle.cpg_app.specs.Causes.{StopsNaming, StopsWork, first_named}
use Rattle.cpg_app.specs.Endings.{Ran as Run, Ends as EndsRun, Follows as FollowsRun, Has, IsMuted as IsMutedRun}
use Rattle.cpg_app.specs.Endings.{IsTold as IsToldRun, Stops as StopsRun, StopsInFiles, StopsInWords, StopsInWork}
use Rattle.cpg_app.specs.Endings.{stream_of, table_of}
use Rattle.cpg_outputs.specs.Said.{IsSaid}
use Rattle.cpg_app.specs.Lawful.{IsLawful as IsLawfulRun}
use Rattle.cpg_app.specs.Outputs.{PutsOut}
use Rattle.cpg_shelf_laws.specs.Lawful.{AsksStream, status_of_end}
use Rattle.cpg_shelf_laws.specs.Told.{told_of}
use Rattle.cpg_shelf_laws.proofs.Complete.{no_command, of_memory, same_command, tables_alone}
use Rattle.cpg_shelf_laws.proofs.Endings.{front_of}
use Rattle.cpg_shelf_laws.proofs.Fetched.{agreed, last, tells_whole}
use Rattle.cpg_shelf_laws.proofs.Streams.{closed_ends, refused_ends}
use Rattle.cpg_shelf_laws.proofs.Telling.{AreTold, none_stops, read_as_told}

-- the pack that a command of `live` names, or d for any other
abbrev pack_in : Text → Command → Text
pack_in d (Live pack name stream) = pack
pack_in d c = d

-- the name of the node in a command of `live`, or d for any other
abbrev name_in : Text → Command → Text
name_in d (Live pack name stream) = name
name_in d c = d

-- the stream that a command of `live` names, or d for any other
abbrev stream_in : Text → Command → Text
stream_in d (Live pack name stream) = stream
stream_in d c = d

-- the tables that are the first of some values, or d if they aren't
abbrev tables_or : Tables → List Value → Tables
tables_or d (tables_value t ∷ vs) = t
tables_or d vs = d

-- the node, or d if there is none
abbrev node_or : ℕ → Option ℕ → ℕ
node_or d None = d
node_or d (Some n) = n

-- an option isn't both `None` and some node
not_both_named : (o : Option ℕ) (n : ℕ) → o ≡ None → o ≡ Some n → ⊥
not_both_named o n none found = true≢false (ap is_some (sym found ∙ none))

-- Given a lawful run that is asked to follow a stream, whose shelf reports the pack and the stream, and in which
-- nothing failed.
module _ (r : Run) (w : IsLawfulRun r) (k : KeepsShelf r.shelf.old r.shelf.new) (t : Tables) (name bytes : Text)
    (q : AsksStream (told_of r) t name bytes) where
  -- the shelf reports the pack, which says the tables
  told : AreTold r.shelf.old.stands None (file PackFile q.pack ∷ []) (tables_value t ∷ [])
  told = (spelling t, q.spelled, all_short t q.lawful, (t, refl, record { spelled = refl; lawful = q.lawful }), tt)

  -- ---- what it follows is what it was asked to

  -- the run's command is the one asked
  live_is : (f : FollowsRun r) → Live f.pack f.name f.stream ≡ Live q.pack name q.stream
  live_is f =
      same_command (command_of r.words) (Live f.pack f.name f.stream) (Live q.pack name q.stream) f.words q.words

  -- the pack was given as the shelf reports it
  given_is : (f : FollowsRun r) → spelling t ≡ f.read.given
  given_is f =
      let ag = agreed r.shelf.old r.shelf.new k f.read (record { newer = f.fetch ∷ []; older = []; is = f.history }) in
      let alike = tells_whole r.shelf.old.stands (file PackFile f.pack) f.read f.spelled.whole ag in
      let here : r.shelf.old.stands f.pack ≡ Some (spelling t) =
      ap r.shelf.old.stands (ap (pack_in f.pack) (live_is f)) ∙ q.spelled in
      subst (λ o. IfSome o (λ b. b ≡ f.read.given)) here alike

  -- the tables are those of the pack
  tables_are : (f : FollowsRun r) → f.tables ≡ t
  tables_are f = says_alike None PackFile f.read.given (tables_value t) (tables_value f.tables)
      (t, refl, record { spelled = sym (given_is f); lawful = q.lawful }) f.spelled.says

  -- the node that the run follows is the first of this name
  named_so : (f : FollowsRun r) → first_named t.head name ≡ Some f.node
  named_so f = ap₂ (λ (t : Tables) n. first_named t.head n) (sym (tables_are f)) (sym (ap (name_in f.name) (live_is f)))
      ∙ f.named

  -- what was given of the stream is a front of what the shelf reports
  front : (f : FollowsRun r) → IsFrontOf bytes f.fetch
  front f = subst (λ o. IfSome o (λ whole. IsFrontOf whole f.fetch))
      (ap r.shelf.old.stands (ap (stream_in f.stream) (live_is f)) ∙ q.told) (front_of r k f)

  -- ---- it isn't stopped before, unless memory runs out

  -- the values `ws` of the command `c` are the tables
  value_is : (c : Command) (ws : List Value) → c ≡ Live q.pack name q.stream → Has r c ws → ws ≡ tables_value t ∷ []
  value_is c ws same has =
      let also : Has r (Live q.pack name q.stream) ws = subst (λ c. Has r c ws) same has in
      tables_alone t ws (read_as_told r.shelf.old r.shelf.new k None (file PackFile q.pack ∷ []) r.shelf.old.history []
      (tables_value t ∷ []) ws refl told also.reads)

  -- If the run stops in its work (`x`), no node has the name, or memory ran out. `P` is what follows in both cases.
  by_work : (P : Type 0) (halt : Halt) → (x : StopsInWork r halt) → (first_named t.head name ≡ None → P) →
      (halt ≡ Memory → P) → P
  by_work P halt x none memory =
      let same : x.command ≡ Live q.pack name q.stream =
      same_command (command_of r.words) x.command (Live q.pack name q.stream) x.has.words q.words in
      let values : x.values ≡ tables_value t ∷ [] = value_is x.command x.values same x.has in
      elim x.stops [
        | inl stops ↦ (let on : OnTables x.values (λ u. StopsNaming u name halt) =
            subst (λ c. StopsWork c x.values halt) same stops in
            none (ap (λ (u : Tables). first_named u.head name) (ap (tables_or t) (sym values ∙ on.1)) ∙ on.2.none))
        | inr e ↦ memory e
      ]

  -- the same if the run stops anywhere: in its words or its files it stops only as memory ran out
  by_stop : (P : Type 0) (halt : Halt) → StopsRun r halt → (first_named t.head name ≡ None → P) → (halt ≡ Memory → P) →
      P
  by_stop P halt (inl x) none memory = elim x.cause [
    | inl formless ↦ absurd (no_command (Live q.pack name q.stream) (sym formless.1 ∙ q.words))
    | inr e ↦ memory e
  ]
  by_stop P halt (inr (inl x)) none memory =
      let same : x.command ≡ Live q.pack name q.stream =
      same_command (command_of r.words) x.command (Live q.pack name q.stream) x.words q.words in
      memory (none_stops r.shelf.old r.shelf.new k q.faultless.shelf None
      (file PackFile q.pack ∷ []) r.shelf.old.history [] (tables_value t ∷ []) halt refl told
      (subst (λ d. StopsReading None (files_of d) r.shelf.old.history r.shelf.new.history halt) same x.stops))
  by_stop P halt (inr (inr x)) none memory = by_work P halt x none memory

  -- `live` puts out no text
  no_text : (c : Command) (values : List Value) (text : Text) → c ≡ Live q.pack name q.stream → PutsOut c values text →
      ⊥
  no_text c values text same puts = subst (λ c. PutsOut c values text) same puts

  -- ---- it is followed

  -- given that some node is the first that has the name
  module _ (node : ℕ) (is : first_named t.head name ≡ Some node) where
    -- the table of the run's node is the one asked
    table_is : (f : FollowsRun r) → table_of f ≡ table_at t.nodes node
    table_is f = ap₂ (λ (t : Tables) n. table_at t.nodes n) (tables_are f) (ap (node_or node) (sym (named_so f) ∙ is))

    -- if the status is that of how the stream ends by the run's table, it is that by the table of the node
    answers : (f : FollowsRun r) (ends : Result ℕ StreamFault) → stream_end (table_of f) bytes ≡ ends →
        r.status ≡ status_of_end ends →
        r.status ≡ status_of_end (stream_end (table_at t.nodes node) bytes)
    answers f ends same status =
        status ∙ sym (ap status_of_end (ap (λ table. stream_end table bytes) (sym (table_is f)) ∙ same))

    -- the status is that of the end of the stream, as neither the shelf nor `out` met a fault
    in_stream : (f : FollowsRun r) (b : Broken) → Breaks f.tables.head (table_of f) (stream_of r f) b →
        IsSaid r.err r.status b →
        r.status ≡ status_of_end (stream_end (table_at t.nodes node) bytes)
    in_stream f Shelf (lines, c, wrote) said =
        absurd (q.faultless.shelf ((last r.shelf.old r.shelf.new k f.fetch (f.read ∷ []) f.history).rose c.failed))
    in_stream f Sink (rose, c) said = absurd (q.faultless.out rose)
    in_stream f (Refused fault) (lines, c, wrote) said =
        answers f (Err fault) (refused_ends f.tables.head (table_of f) f.fetch bytes fault lines (front f) c)
        (said.whole (λ e. q.faultless.err (said.part e).rose)).0

    -- The run ends as the bytes of the stream say, or memory ran out. By how it ends: with no output, with no stop but
    -- that of memory, and otherwise along its stream.
    pub followed : EndsRun r → (r.status ≡ status_of_end (stream_end (table_at t.nodes node) bytes)) ⊎ (r.status ≡ 8)
    followed (inl (text, x)) = absurd (no_text x.prints.command x.prints.values text
        (same_command (command_of r.words) x.prints.command (Live q.pack name q.stream) x.prints.has.words q.words)
        x.prints.puts)
    followed (inr (inl (halt, x))) =
        by_stop ((r.status ≡ status_of_end (stream_end (table_at t.nodes node) bytes)) ⊎ (r.status ≡ 8)) halt x.stops
        (λ none. absurd (not_both_named _ node none is))
        (λ e. inr (of_memory r w k q.faultless halt e x.ending))
    followed (inr (inr (inl ended))) = let follows = ended.follows in
        let completes = ended.completes in
        inl (answers follows (Ok completes.1.time) (closed_ends follows.tables.head (table_of follows) follows.fetch
        bytes completes.0 (front follows) completes.1) ended.status)
    followed (inr (inr (inr x))) = inl (in_stream x.follows x.broken x.breaks x.said)

  -- ---- no node has the name

  -- if the run stops in its words, memory ran out, so its status is 8
  of_words : (halt : Halt) → (IsToldRun r halt ⊎ IsMutedRun r halt) → StopsInWords r halt → r.status ≡ 8
  of_words halt ending stops_in_words = elim stops_in_words.cause [
    | inl formless ↦ absurd (no_command (Live q.pack name q.stream) (sym formless.1 ∙ q.words))
    | inr e ↦ of_memory r w k q.faultless halt e ending
  ]

  -- if the run stops in its files, memory ran out, so its status is 8
  of_files : (halt : Halt) → (IsToldRun r halt ⊎ IsMutedRun r halt) → StopsInFiles r halt → r.status ≡ 8
  of_files halt ending stops_in_files =
      let same : stops_in_files.command ≡ Live q.pack name q.stream =
      same_command (command_of r.words) stops_in_files.command (Live q.pack name q.stream) stops_in_files.words
      q.words in
      of_memory r w k q.faultless halt (none_stops r.shelf.old r.shelf.new k q.faultless.shelf None
      (file PackFile q.pack ∷ []) r.shelf.old.history [] (tables_value t ∷ []) halt refl told
      (subst (λ d. StopsReading None (files_of d) r.shelf.old.history r.shelf.new.history halt) same
      stops_in_files.stops)) ending

  -- if no node has the name, a run that stops has status 4, or 8 as memory ran out
  by_halt : first_named t.head name ≡ None → (halt : Halt) → (IsToldRun r halt ⊎ IsMutedRun r halt) → StopsRun r halt →
      (r.status ≡ 4) ⊎ (r.status ≡ 8)
  by_halt none halt ending (inl x) = inr (of_words halt ending x)
  by_halt none halt ending (inr (inl x)) = inr (of_files halt ending x)
  by_halt none halt ending (inr (inr x)) =
      let same : x.command ≡ Live q.pack name q.stream =
      same_command (command_of r.words) x.command (Live q.pack name q.stream) x.has.words q.words in
      let has : Has r (Live q.pack name q.stream) (tables_value t ∷ []) =
      subst (λ vs. Has r (Live q.pack name q.stream) vs) (value_is x.command x.values same x.has)
      (subst (λ c. Has r c x.values) same x.has) in
      w.unfollowed q.pack name q.stream t
      (record { has = has; faultless = record { out = q.faultless.out; err = q.faultless.err } }) none

  -- if no node has the name, the run ends with 4, or with 8 as memory ran out; it can only stop
  pub unfollowed : first_named t.head name ≡ None → EndsRun r → (r.status ≡ 4) ⊎ (r.status ≡ 8)
  unfollowed none (inl (text, x)) = absurd (no_text x.prints.command x.prints.values text
      (same_command (command_of r.words) x.prints.command (Live q.pack name q.stream) x.prints.has.words q.words)
      x.prints.puts)
  unfollowed none (inr (inl (halt, x))) = by_halt none halt x.ending x.stops
  unfollowed none (inr (inr (inl x))) = absurd (not_both_named _ x.follows.node none (named_so x.follows))
  unfollowed none (inr (inr (inr x))) = absurd (not_both_named _ x.follows.node none (named_so x.follows))
