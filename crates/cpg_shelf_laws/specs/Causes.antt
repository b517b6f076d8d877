-- Why a run stops, and what is then true of its words and of what its shelf reports. This is as an earlier contract of
-- a run said it, which was stated over what stands under a name.
use Rattle.std.specs.Prelude.{ℕ, ◌≡◌, ◌≢◌, ◌<◌, ◌≤◌, ◌+◌, ◌⊎◌, List, [], ◌∷◌, Option, Some, None, IfSome, Ok, Err}
use Rattle.std.specs.Prelude.{length, take, get_or, ⊤}
use Rattle.cpg_base.specs.Graph.{Graph}
use Rattle.cpg_io.specs.Causes.{Rose}
use Rattle.cpg_io.specs.State.{ShelfState, given_count}
use Rattle.cpg_words.specs.Parts.{Text}
use Rattle.cpg_words.specs.Forms.{command_of}
use Rattle.cpg_words.specs.declared.command.Pair.{Pair}
use Rattle.cpg_words.specs.declared.command.Command.{Command}
use Rattle.cpg_words.specs.declared.command.Command.TheVariants.{Show, Compile, Check, Play, Node, Trial, Live, Hyper}
use Rattle.cpg_words.specs.declared.command.Command.TheVariants.{Tune, Audit}
use Rattle.cpg_reader.specs.declared.place.ReadFault.{ReadFault}
use Rattle.cpg_reader.specs.Document.{problem_of}
use Rattle.cpg_rules.specs.Admission.{Admission, IsAdmitted}
use Rattle.cpg_table.specs.Lawful.{Tables}
use Rattle.cpg_codec.specs.declared.fault.PackFault.{PackFault}
use Rattle.cpg_codec.specs.Packs.{AreLawful, IsBadPack}
use Rattle.cpg_codec.specs.Spelling.{spelling}
use Rattle.cpg_log.specs.Lines.{lines}
use Rattle.cpg_log.specs.Log.{Log}
use Rattle.cpg_log.specs.Reading.{IsBadLine, IsLogOf}
use Rattle.cpg_log.specs.declared.fault.LogFault.{LogFault}
use Rattle.cpg_scenario.specs.File.{file_of}
use Rattle.cpg_scenario.specs.declared.fault.ScenarioFault.{ScenarioFault}
use Rattle.cpg_scenario.specs.declared.reading.Played.{Played}
use Rattle.cpg_hyper.specs.declared.part.Part.{Part}
use Rattle.cpg_refusal.specs.declared.halt.Refusal.{Refusal}
use Rattle.cpg_refusal.specs.declared.halt.Refusal.TheVariants.{LongGraph, LongPack, LongScenario, LongLog, UnknownNode}
use Rattle.cpg_refusal.specs.declared.halt.Halt.{Halt}
use Rattle.cpg_refusal.specs.declared.halt.Halt.TheVariants.{Words, Read, Refused, Memory}
use Rattle.cpg_refusal.specs.Halts.{halt_of_reading, halt_of_pack, halt_of_scenario}
use Rattle.cpg_inputs.specs.declared.kind.FileKind.TheVariants.{GraphFile, PackFile, ScenarioFile, LogFile}
use Rattle.cpg_inputs.specs.Files.{limit_of}
use Rattle.cpg_inputs.specs.Halts.{halt_of_log}
use Rattle.cpg_inputs.specs.Says.{BreaksRule}
use Rattle.cpg_app.specs.Causes.{IsUncompiled, IsOtherGraph, IsUnsafe, IsNotUnrolled, first_named}

-- what a run sees of its shelf
pub record Seen : Type 0 where
  -- the bytes that the shelf reports under a name, or `None` if it reports none
  pub stands : Text → Option Text
  -- how many bytes the last fetch gave
  pub given : ℕ
  -- the count of faults before and after the run
  pub before : ℕ
  pub now : ℕ

-- what a run sees of its shelf, from the shelf's states before and after
abbrev pub seen : ShelfState → ShelfState → Seen
seen old new = record { stands = old.stands; given = given_count new; before = old.faults; now = new.faults }

-- the most bytes of a graph file
abbrev pub GRAPH_LIMIT : ℕ
GRAPH_LIMIT = limit_of GraphFile

-- the most bytes of a pack
abbrev pub PACK_LIMIT : ℕ
PACK_LIMIT = limit_of PackFile

-- the most bytes of a scenario file
abbrev pub SCENARIO_LIMIT : ℕ
SCENARIO_LIMIT = limit_of ScenarioFile

-- the most bytes of a log
abbrev pub LOG_LIMIT : ℕ
LOG_LIMIT = limit_of LogFile

-- if the shelf reports the bytes of a file, there are no more than the limit
abbrev pub IsShort : ℕ → Option Text → Type 0
IsShort limit told = IfSome told (λ bytes. length bytes ≤ limit)

-- if the shelf reports the bytes of a graph file, they say the graph
abbrev pub Says : Option Text → Graph → Type 0
Says told g = IsShort GRAPH_LIMIT told × IfSome told (λ bytes. problem_of bytes ≡ Ok g)

-- if the shelf reports the bytes of a graph file, they say the graph, which is admitted with its order and its guards
pub record Admits (told : Option Text) (a : Admission) : Type 0 where
  pub says : Says told a.graph
  pub admitted : IsAdmitted a.graph a.order a.guards

-- the shelf met a fault, and the halt says so
pub record IsUnread (seen : Seen) (halt : Halt) : Type 0 where
  pub halt_is : halt ≡ Read
  pub rose : Rose seen.before seen.now

-- a file gave one byte more than its limit, and the halt is its refusal; if the shelf reports its bytes, they are too
-- many
pub record IsLong (limit : ℕ) (refusal : Refusal) (seen : Seen) (told : Option Text) (halt : Halt) : Type 0 where
  pub halt_is : halt ≡ Refused refusal
  -- it gave more bytes than the limit
  pub given : limit < seen.given
  -- it gave one byte more at most
  pub most : seen.given ≤ limit + 1
  pub long : IfSome told (λ bytes. limit < length bytes)

-- the bytes of a file within the limit say no graph, and the halt is their first fault; or memory ran out
pub record IsFaulty (seen : Seen) (told : Option Text) (halt : Halt) : Type 0 where
  -- the first fault of the bytes, or that memory ran out
  pub fault : ReadFault
  pub halt_is : halt ≡ halt_of_reading fault
  -- if it isn't memory, the file is within its limit
  pub within : fault ≢ ReadFault.OutOfMemory → seen.given ≤ GRAPH_LIMIT
  -- if it isn't memory, and the shelf reports the bytes, it is their first fault
  pub first : fault ≢ ReadFault.OutOfMemory →
      IsShort GRAPH_LIMIT told × IfSome told (λ bytes. problem_of bytes ≡ Err fault)

-- something about x stops a run, after a file was read that gave no more bytes than its limit
pub record IsAfterReading {T : Type 0} (given limit : ℕ) (Stops : T → Halt → Type 0) (x : T)
    (halt : Halt) : Type 0 where
  -- something about `x` stops the run
  pub stops : Stops x halt
  -- the file that was read last gave no more bytes than its limit
  pub within : given ≤ limit

-- the reading of a graph file stops with this halt: the shelf met a fault, the file is too long or says no graph, or
-- memory ran out
abbrev pub StopsReading : Seen → Option Text → Halt → Type 0
StopsReading seen told halt =
    IsUnread seen halt ⊎ (IsLong GRAPH_LIMIT LongGraph seen told halt ⊎ IsFaulty seen told halt)

-- a graph file isn't admitted: its reading stops, the graph breaks a rule, or memory ran out
abbrev pub StopsAdmission : Seen → Option Text → Halt → Type 0
StopsAdmission seen told halt =
    StopsReading seen told halt ⊎ ((g : Graph) × Says told g × IsAfterReading seen.given GRAPH_LIMIT BreaksRule g halt)

-- a graph file stops a run: it isn't admitted, or the command's work on the admitted graph stops
abbrev pub StopsGraph : Seen → Option Text → (Admission → Halt → Type 0) → Halt → Type 0
StopsGraph seen told work halt = StopsAdmission seen told halt ⊎ ((a : Admission) × Admits told a × work a halt)

-- if the shelf reports the bytes of a pack, they spell the tables
pub record Spells (told : Option Text) (t : Tables) : Type 0 where
  -- their head allows each row
  pub lawful : AreLawful t
  pub short : IsShort PACK_LIMIT told
  pub spelled : IfSome told (λ bytes. bytes ≡ spelling t)

-- if the shelf reports the bytes of a pack, they spell no tables from this place on; nothing if memory ran out
abbrev pub ShowsPackFault : Option Text → PackFault → Type 0
ShowsPackFault told (PackFault.BadPack n) = IsShort PACK_LIMIT told × IfSome told (λ bytes. IsBadPack bytes n)
ShowsPackFault told PackFault.OutOfMemory = ⊤

-- the bytes of a file within the limit are no pack, or memory ran out
pub record IsNoPack (seen : Seen) (told : Option Text) (halt : Halt) : Type 0 where
  -- why there is no pack, or that memory ran out
  pub fault : PackFault
  pub halt_is : halt ≡ halt_of_pack fault
  -- if it isn't memory, the file is within its limit
  pub within : fault ≢ PackFault.OutOfMemory → seen.given ≤ PACK_LIMIT
  pub shows : ShowsPackFault told fault

-- the reading of a pack stops with this halt: the shelf met a fault, or the file is too long or no pack
abbrev pub StopsPack : Seen → Option Text → Halt → Type 0
StopsPack seen told halt = IsUnread seen halt ⊎ (IsLong PACK_LIMIT LongPack seen told halt ⊎ IsNoPack seen told halt)

-- a pack stops a run: its reading stops, or the command's work on the tables does
abbrev pub StopsTables : Seen → Option Text → (Tables → Halt → Type 0) → Halt → Type 0
StopsTables seen told work halt = StopsPack seen told halt ⊎ ((t : Tables) × Spells told t × work t halt)

-- a check of tables for a graph stops with this halt: they are another graph's or break a rule, or memory ran out
abbrev pub StopsVerdict : Admission → Tables → Halt → Type 0
StopsVerdict a t halt = IsOtherGraph a t halt ⊎ (IsUnsafe a t halt ⊎ (halt ≡ Memory))

-- if the shelf reports the bytes of a scenario file, they say this scenario of the graph, and lengths
abbrev pub SaysPlayed : Option Text → Graph → Played → Type 0
SaysPlayed told g p = IsShort SCENARIO_LIMIT told × IfSome told (λ bytes. file_of g bytes ≡ Ok p)

-- the bytes of a file within the limit say no scenario of the graph, and the halt is the first cause; or memory ran out
pub record IsNoScenario (seen : Seen) (told : Option Text) (g : Graph) (halt : Halt) : Type 0 where
  -- the first cause, or that memory ran out
  pub fault : ScenarioFault
  pub halt_is : halt ≡ halt_of_scenario fault
  -- if it isn't memory, the file is within its limit
  pub within : fault ≢ ScenarioFault.OutOfMemory → seen.given ≤ SCENARIO_LIMIT
  -- if it isn't memory, and the shelf reports the bytes, it is their first cause
  pub first : fault ≢ ScenarioFault.OutOfMemory →
      IsShort SCENARIO_LIMIT told × IfSome told (λ bytes. file_of g bytes ≡ Err fault)

-- the reading of a scenario file stops with this halt: the shelf met a fault, or the file is too long or says no
-- scenario
abbrev pub StopsPlayed : Seen → Option Text → Graph → Halt → Type 0
StopsPlayed seen told g halt =
    IsUnread seen halt ⊎ (IsLong SCENARIO_LIMIT LongScenario seen told halt ⊎ IsNoScenario seen told g halt)

-- a scenario file stops a run: its reading stops, or the check before its play does
abbrev pub StopsPlay : Seen → Option Text → Admission → Tables → Halt → Type 0
StopsPlay seen told a t halt = StopsPlayed seen told a.graph halt ⊎ ((p : Played) × SaysPlayed told a.graph p ×
    IsAfterReading seen.given SCENARIO_LIMIT (StopsVerdict a) t halt)

-- if the shelf reports the bytes of a log, they are this log of the graph
abbrev pub SaysLog : Option Text → Graph → Log → Type 0
SaysLog told g log = IsShort LOG_LIMIT told × IfSome told (λ bytes. IsLogOf g bytes log)

-- if the shelf reports the bytes of a log, they are no log of the graph, and this is the first line to blame; nothing
-- if memory ran out
abbrev pub ShowsLogFault : Option Text → Graph → LogFault → Type 0
ShowsLogFault told g (LogFault.Bad line) =
    IsShort LOG_LIMIT told × IfSome told (λ bytes. IsBadLine g (lines bytes) line)
ShowsLogFault told g LogFault.OutOfMemory = ⊤

-- the bytes of a file within the limit are no log of the graph, or memory ran out
pub record IsNoLog (seen : Seen) (told : Option Text) (g : Graph) (halt : Halt) : Type 0 where
  -- why there is no log, or that memory ran out
  pub fault : LogFault
  pub halt_is : halt ≡ halt_of_log fault
  -- if it isn't memory, the file is within its limit
  pub within : fault ≢ LogFault.OutOfMemory → seen.given ≤ LOG_LIMIT
  pub shows : ShowsLogFault told g fault

-- the reading of a log stops with this halt: the shelf met a fault, or the file is too long or no log of the graph
abbrev pub StopsLog : Seen → Option Text → Graph → Halt → Type 0
StopsLog seen told g halt = IsUnread seen halt ⊎ (IsLong LOG_LIMIT LongLog seen told halt ⊎ IsNoLog seen told g halt)

-- a log stops a run: its reading stops, or the check before its audit does
abbrev pub StopsAudit : Seen → Option Text → Admission → Tables → Halt → Type 0
StopsAudit seen told a t halt = StopsLog seen told a.graph halt ⊎ ((log : Log) × SaysLog told a.graph log ×
    IsAfterReading seen.given LOG_LIMIT (StopsVerdict a) t halt)

-- no node has the name, or memory ran out
abbrev pub StopsNaming : Tables → Text → Halt → Type 0
StopsNaming t name halt = ((halt ≡ Refused UnknownNode) × (first_named t.head name ≡ None)) ⊎ (halt ≡ Memory)

-- there are as many parts as pairs of words, with the pairs' periods and with the graphs that their files say
abbrev pub AreSaid : (Text → Option Text) → List Pair → List Part → Type 0
AreSaid stands [] [] = ⊤
AreSaid stands [] (part ∷ parts) = ⊥
AreSaid stands (pair ∷ pairs) [] = ⊥
AreSaid stands (pair ∷ pairs) (part ∷ parts) =
    (part.period ≡ pair.period) × Says (stands pair.graph) part.problem × AreSaid stands pairs parts

-- the reading of one of the parts' files stops with this halt, and all files before it were read
pub record IsUnsaid (seen : Seen) (pairs : List Pair) (halt : Halt) : Type 0 where
  -- the part, by place
  pub place : ℕ
  pub within : place < length pairs
  -- the parts before it, as their files say them
  pub earlier : List Part
  pub said : AreSaid seen.stands (take place pairs) earlier
  -- the reading of this part's file stops; the default `d` isn't used, since `place` is below the number of pairs
  pub stops : (d : Pair) → StopsReading seen (seen.stands (get_or pairs place d).graph) halt

-- the reading of the parts' files stops with this halt: by one of them, or as memory ran out
abbrev pub StopsReadingParts : Seen → List Pair → Halt → Type 0
StopsReadingParts seen pairs halt = IsUnsaid seen pairs halt ⊎ (halt ≡ Memory)

-- the reading or the unrolling of the words' parts stops with this halt
abbrev pub StopsParts : Seen → List Pair → Halt → Type 0
StopsParts seen pairs halt =
    StopsReadingParts seen pairs halt ⊎ ((parts : List Part) × AreSaid seen.stands pairs parts ×
    IsAfterReading seen.given GRAPH_LIMIT IsNotUnrolled parts halt)

-- a command's work on an admitted graph stops only as memory runs out
abbrev pub IsOutOfMemory : Admission → Halt → Type 0
IsOutOfMemory a halt = halt ≡ Memory

-- A run of the command stops with this halt; a run of `live` does so before its stream is followed. `seen.given` is of
-- the file that was fetched last, so the bounds by it say something of that file alone.
abbrev pub StopsCommand : Seen → Command → Halt → Type 0
StopsCommand seen (Show graph) halt =
    StopsGraph seen (seen.stands graph) (IsAfterReading seen.given GRAPH_LIMIT IsUncompiled) halt
StopsCommand seen (Compile graph) halt =
    StopsGraph seen (seen.stands graph) (IsAfterReading seen.given GRAPH_LIMIT IsUncompiled) halt
StopsCommand seen (Check graph pack) halt = StopsGraph seen (seen.stands graph) (λ a.
    StopsTables seen (seen.stands pack) (IsAfterReading seen.given PACK_LIMIT (StopsVerdict a))) halt
StopsCommand seen (Play graph pack scenario turns) halt = StopsGraph seen (seen.stands graph) (λ a.
    StopsTables seen (seen.stands pack) (StopsPlay seen (seen.stands scenario) a)) halt
StopsCommand seen (Node pack name) halt =
    StopsTables seen (seen.stands pack) (IsAfterReading seen.given PACK_LIMIT (λ t. StopsNaming t name)) halt
StopsCommand seen (Trial number) halt = halt ≡ Memory
StopsCommand seen (Live pack name stream) halt =
    StopsTables seen (seen.stands pack) (IsAfterReading seen.given PACK_LIMIT (λ t. StopsNaming t name)) halt
StopsCommand seen (Hyper parts) halt = StopsParts seen parts halt
StopsCommand seen (Tune graph) halt =
    StopsGraph seen (seen.stands graph) (IsAfterReading seen.given GRAPH_LIMIT IsOutOfMemory) halt
StopsCommand seen (Audit graph pack log) halt = StopsGraph seen (seen.stands graph) (λ a.
    StopsTables seen (seen.stands pack) (StopsAudit seen (seen.stands log) a)) halt

-- a run stops with this halt: its words form no command, or memory runs out, or the command stops
abbrev pub StopsAsked : Seen → Option Command → Halt → Type 0
StopsAsked seen None halt = (halt ≡ Words) ⊎ (halt ≡ Memory)
StopsAsked seen (Some command) halt = StopsCommand seen command halt

-- a run of these words stops with this halt
abbrev pub Stops : Seen → List Text → Halt → Type 0
Stops seen words halt = StopsAsked seen (command_of words) halt
