-- Runs one after another: what one wrote, the others read; and runs for one graph.
use Rattle.std.specs.Prelude.{ℕ, ◌≡◌, ◌<◌, ◌⊎◌, true, false, [], ◌∷◌, Option, get_or, length, take}
use Rattle.cpg_base.specs.Graph.{Graph}
use Rattle.cpg_history.specs.Fetch.{Fetch}
use Rattle.cpg_words.specs.Parts.{Text}
use Rattle.cpg_words.specs.declared.command.Command.{Command}
use Rattle.cpg_words.specs.declared.command.Command.TheVariants.{Show, Compile, Node}
use Rattle.cpg_rules.specs.Admission.{Admission, IsAdmitted}
use Rattle.cpg_table.specs.Lawful.{Tables}
use Rattle.cpg_codec.specs.Spelling.{spelling}
use Rattle.cpg_core.specs.CompileLaws.{AskTheSame}
use Rattle.cpg_refusal.specs.declared.halt.Halt.{Halt}
use Rattle.cpg_refusal.specs.declared.halt.Halt.TheVariants.{Memory, Refused}
use Rattle.cpg_refusal.specs.declared.halt.Refusal.TheVariants.{BadPack}
use Rattle.cpg_inputs.specs.declared.kind.FileKind.TheVariants.{PackFile}
use Rattle.cpg_inputs.specs.Files.{file}
use Rattle.cpg_inputs.specs.Says.{Value, graph_value, tables_value}
use Rattle.cpg_inputs.specs.Reading.{IsRead, StopsAt}
use Rattle.cpg_app.specs.Endings.{Has, Ran}
use Rattle.cpg_app.specs.Lawful.{Asks, AsksVerdict, IsLawful}
use Rattle.cpg_app.specs.Outputs.{IsMadeOf, shown, packed as packed_of}
use Rattle.cpg_outputs.specs.Told.{Whole}

-- a run of a command on a graph file that says this graph wrote these bytes, whole
pub record HasMade (asked : Text → Command) (r : Ran) (g : Graph) (made : Text) : Type 0 where
  -- what the run's exit status says is so
  pub lawful : IsLawful r
  -- the graph's file, and the graph as it is admitted
  pub graph : Text
  pub admission : Admission
  pub of : admission.graph ≡ g
  -- the run's words are the command on this file, which says the graph
  pub has : Has r (asked graph) (graph_value admission ∷ [])
  -- it ended well, and its output took all of the bytes
  pub done : r.status ≡ 0
  pub wrote : Whole r.out made

-- a run of `show` wrote this text for the graph
abbrev pub HasShown : Ran → Graph → Text → Type 0
HasShown r g text = HasMade Show r g text

-- a run of `compile` wrote this pack for the graph
abbrev pub HasPacked : Ran → Graph → Text → Type 0
HasPacked r g pack = HasMade Compile r g pack

-- a run succeeds (status 0), or memory runs out (8)
abbrev pub EndsWell : Ran → Type 0
EndsWell r = (r.status ≡ 0) ⊎ (r.status ≡ 8)

-- a fetch gave these bytes, which are the whole file, and met no fault
pub record GaveAll (fetch : Fetch) (bytes : Text) : Type 0 where
  pub given : fetch.given ≡ bytes
  -- it came to the end of the file
  pub ended : fetch.ended ≡ true
  -- the shelf met no fault
  pub sound : fetch.failed ≡ false

-- commands that read packs accept this pack of a graph, if no sink meets a fault
pub record IsTaken (g : Graph) (pack : Text) : Type 0 where
  -- A fetch that gave the whole pack is read as its tables. It stops no run unless memory runs out.
  pub read : (o : Option Graph) (fetch : Fetch) → GaveAll fetch pack → (t : Tables) ×
      IsRead o (file PackFile fetch.name) fetch (tables_value t) × (pack ≡ spelling t)
  pub unstopped : (o : Option Graph) (fetch : Fetch) (halt : Halt) → GaveAll fetch pack →
      StopsAt o (file PackFile fetch.name) fetch halt → halt ≡ Memory
  -- With a file that says the graph, the pack is found safe, played for each scenario file of the graph, and used to
  -- audit each log of the graph.
  pub judged : (r : Ran) (a : Admission) (t : Tables) → IsLawful r → a.graph ≡ g → pack ≡ spelling t →
      AsksVerdict r a t → EndsWell r
  -- the table of each of its nodes is printed
  pub printed : (r : Ran) (name : Text) (t : Tables) (node : ℕ) → IsLawful r → pack ≡ spelling t →
      node < length g.nodes →
      Asks r (Node name (get_or g.nodes node [])) (tables_value t ∷ []) → EndsWell r

-- If memory suffices, the other commands accept the pack that `compile` wrote for a graph. With that graph, `check`
-- finds it safe, `play` plays it for each scenario file of the graph, and `audit` audits each log of the graph by it.
-- `node` prints the table of each of its nodes.
abbrev pub PacksAreTaken : Type 0
PacksAreTaken = (r : Ran) (g : Graph) (pack : Text) → HasPacked r g pack → IsTaken g pack

-- each command that reads packs rejects these bytes, at the place where they end
pub record IsCutShort (bytes : Text) : Type 0 where
  -- a fetch that gave all of the bytes isn't read as any value
  pub unread : (o : Option Graph) (fetch : Fetch) (value : Value) → GaveAll fetch bytes →
      IsRead o (file PackFile fetch.name) fetch value → ⊥
  -- If it stops a run, the bytes are rejected as no pack from the place where they end, or memory runs out.
  pub stops : (o : Option Graph) (fetch : Fetch) (halt : Halt) → GaveAll fetch bytes →
      StopsAt o (file PackFile fetch.name) fetch halt →
      (halt ≡ Refused (BadPack (length bytes))) ⊎ (halt ≡ Memory)

-- If what `compile` wrote is cut short anywhere, each command that reads packs rejects it, at the place where it ends.
abbrev pub FrontsAreRefused : Type 0
FrontsAreRefused =
    (r : Ran) (g : Graph) (pack : Text) (n : ℕ) → HasPacked r g pack → n < length pack → IsCutShort (take n pack)

-- A text and a pack are of two compilations of one admitted graph. The tables of both ask the same in every scenario.
pub record AreOfOneGraph (g : Graph) (text pack : Text) : Type 0 where
  -- the graph with its order and guards, as it is admitted
  pub admission : Admission
  pub of : admission.graph ≡ g
  pub admitted : IsAdmitted admission.graph admission.order admission.guards
  -- the text is that of one compilation's tables
  pub shows : IsMadeOf admission shown text
  -- the pack is that of a compilation's tables, which may be another
  pub packs : IsMadeOf admission packed_of pack
  -- in each scenario the tables of both have each item at the same time
  pub same : AskTheSame admission.graph shows.compiled packs.compiled

-- what a run of `show` printed for a graph and what a run of `compile` wrote for it are of one graph
abbrev pub ShowAndCompileAgree : Type 0
ShowAndCompileAgree =
    (r q : Ran) (g : Graph) (text pack : Text) → HasShown r g text → HasPacked q g pack → AreOfOneGraph g text pack
