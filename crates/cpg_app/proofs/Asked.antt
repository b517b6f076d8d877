-- A run's words are one command, and its files say one thing. So what it puts out, or stops for, is by what they say.
use Rattle.std.proofs.Common.{ℕ, ◌≡◌, ◌∙◌, List, [], ◌∷◌, Some, None, refl, sym, ap₂, subst, inl, inr}
use Rattle.std.specs.Prelude.{◌⊎◌}
use Rattle.std.proofs.lemmas.Option.{none-some, same_Some}
use Rattle.cpg_base.specs.Graph.{Graph}
use Rattle.cpg_words.specs.Parts.{Text}
use Rattle.cpg_words.specs.Forms.{command_of}
use Rattle.cpg_words.specs.declared.command.Pair.{Pair}
use Rattle.cpg_words.specs.declared.command.Command.{Command}
use Rattle.cpg_rules.specs.Admission.{Admission}
use Rattle.cpg_table.specs.Lawful.{Tables}
use Rattle.cpg_log.specs.Log.{Log}
use Rattle.cpg_scenario.specs.declared.reading.Played.{Played}
use Rattle.cpg_hyper.specs.declared.part.Part.{Part}
use Rattle.cpg_refusal.specs.declared.halt.Halt.{Halt}
use Rattle.cpg_refusal.specs.declared.halt.Halt.TheVariants.{Memory}
use Rattle.cpg_inputs.specs.Files.{files_of}
use Rattle.cpg_inputs.specs.Says.{Value, graph_value, tables_value, played_value, log_value}
use Rattle.cpg_inputs.specs.Shapes.{HavePeriods, OnGraph, OnJudged, OnLogged, OnParts, OnPlayed, OnTables, part_values}
use Rattle.cpg_inputs.specs.Reading.{Reads, StopsReading}
use Rattle.cpg_inputs.proofs.OneReading.{AllAlike, AreAlike, reads_alike, stops_memory}
use Rattle.cpg_app.specs.Causes.{StopsWork}
use Rattle.cpg_app.specs.Outputs.{PutsOut}
use Rattle.cpg_app.specs.Endings.{Ran, Has, Prints, Stops}

-- ---- by what was read

-- if the files say values that are alike to the graph `a` alone, a fact `F` of what they say is a fact of a graph `b`
-- that is alike
pub on_graph : (a : Admission) (values : List Value) (F : Admission → Type 0) → AllAlike (graph_value a ∷ []) values →
    OnGraph values F →
    (b : Admission) × AreAlike a b × F b
on_graph a values F alike (b, is, fact) =
    let alike_too : AllAlike (graph_value a ∷ []) (graph_value b ∷ []) =
    subst (AllAlike (graph_value a ∷ [])) is alike in
    (b, alike_too.0, fact)

-- if the files say values that are alike to tables `t` alone, a fact `F` of what they say is a fact of these tables
pub on_tables : (t : Tables) (values : List Value) (F : Tables → Type 0) → AllAlike (tables_value t ∷ []) values →
    OnTables values F → F t
on_tables t values F alike (u, is, fact) =
    let alike_too : AllAlike (tables_value t ∷ []) (tables_value u ∷ []) =
    subst (AllAlike (tables_value t ∷ [])) is alike in
    subst F alike_too.0 fact

-- the same for a graph `a` and tables `t`: a fact of a graph `b` that is alike, and of these tables
pub on_judged : (a : Admission) (t : Tables) (values : List Value) (F : Admission → Tables → Type 0) →
    AllAlike (graph_value a ∷ tables_value t ∷ []) values → OnJudged values F →
    (b : Admission) ×
    AreAlike a b × F b t
on_judged a t values F alike (b, u, is, fact) =
    let alike_too : AllAlike (graph_value a ∷ tables_value t ∷ []) (graph_value b ∷ tables_value u ∷ []) =
    subst (AllAlike (graph_value a ∷ tables_value t ∷ [])) is alike in
    (b, alike_too.0, subst (F b) alike_too.1.0 fact)

-- the same for a graph `a`, tables `t` and what is played, `p`: a fact of a graph `b` that is alike, and of these
-- tables and this play
pub on_played : (a : Admission) (t : Tables) (p : Played) (values : List Value)
    (F : Admission → Tables → Played → Type 0) →
    AllAlike (graph_value a ∷ tables_value t ∷ played_value p ∷ []) values →
    OnPlayed values F → (b : Admission) × AreAlike a b × F b t p
on_played a t p values F alike (b, u, q, is, fact) =
    let alike_too : AllAlike (graph_value a ∷ tables_value t ∷ played_value p ∷ [])
    (graph_value b ∷ tables_value u ∷ played_value q ∷ []) =
    subst (AllAlike (graph_value a ∷ tables_value t ∷ played_value p ∷ [])) is alike in
    (b, alike_too.0, subst (F b t) alike_too.1.1.0 (subst (λ v. F b v q) alike_too.1.0 fact))

-- the same for a graph `a`, tables `t` and a log `l`: a fact of a graph `b` that is alike, of these tables and of some
-- log `m`
pub on_logged : (a : Admission) (t : Tables) (l : Log) (values : List Value) (F : Admission → Tables → Log → Type 0) →
    AllAlike (graph_value a ∷ tables_value t ∷ log_value l ∷ []) values →
    OnLogged values F → (b : Admission) × AreAlike a b × ((m : Log) × F b t m)
on_logged a t l values F alike (b, u, m, is, fact) =
    let alike_too : AllAlike (graph_value a ∷ tables_value t ∷ log_value l ∷ [])
    (graph_value b ∷ tables_value u ∷ log_value m ∷ []) =
    subst (AllAlike (graph_value a ∷ tables_value t ∷ log_value l ∷ [])) is alike in
    (b, alike_too.0, (m, subst (λ v. F b v m) alike_too.1.0 fact))

-- a period and a graph as a part
abbrev part_of : ℕ → Graph → Part
part_of period problem = record { period = period; problem = problem }

-- parts `p` and `q` with one period and one graph are equal
same_part : (p q : Part) → p.period ≡ q.period → p.problem ≡ q.problem → p ≡ q
same_part p q periods problems = ap₂ part_of periods problems

-- parts whose values are alike, with the periods of the same pairs, are equal; by induction on the pairs
same_parts : (pairs : List Pair) (parts others : List Part) → AllAlike (part_values parts) (part_values others) →
    HavePeriods pairs parts → HavePeriods pairs others → others ≡ parts
same_parts [] [] [] alike periods other_periods = refl
same_parts [] [] (q ∷ others) alike periods other_periods = absurd other_periods
same_parts [] (p ∷ parts) others alike periods other_periods = absurd periods
same_parts (pair ∷ pairs) [] others alike periods other_periods = absurd periods
same_parts (pair ∷ pairs) (p ∷ parts) [] alike periods other_periods = absurd other_periods
same_parts (pair ∷ pairs) (p ∷ parts) (q ∷ others) alike periods other_periods =
    ap₂ (λ d ds. d ∷ ds) (same_part q p (other_periods.0 ∙ sym periods.0) alike.0)
    (same_parts pairs parts others alike.1 periods.1 other_periods.1)

-- if the files say values that are alike to those of these parts, a fact of what they say is a fact of these parts
pub on_parts : (pairs : List Pair) (parts : List Part) (values : List Value) (F : List Part → Type 0) →
    AllAlike (part_values parts) values → HavePeriods pairs parts → OnParts pairs values F → F parts
on_parts pairs parts values F alike periods (others, is, also, fact) =
    subst F (same_parts pairs parts others (subst (AllAlike (part_values parts)) is alike) periods also) fact

-- ---- of a run

-- given a run whose words are a command and whose files say these values
module _ (r : Ran) (c : Command) (vs : List Value) (has : Has r c vs) where
  -- if the run's words are also command d, it is c
  same_command : (d : Command) → command_of r.words ≡ Some d → d ≡ c
  same_command d also = same_Some d c (sym also ∙ has.words)

  -- if the run's files also say other values `ws`, for a command `d`, these are alike to the first
  alike : (d : Command) (ws : List Value) → Has r d ws → AllAlike vs ws
  alike d ws also = reads_alike None (files_of c) r.shelf.old.history r.shelf.new.history vs ws has.reads
      (subst (λ (k : Command). Reads None (files_of k) r.shelf.old.history r.shelf.new.history ws)
      (same_command d also.words) also.reads)

  -- a text that the run puts out is one that c puts out, by values that are alike
  pub printed : (text : Text) → Prints r text → (ws : List Value) × AllAlike vs ws × PutsOut c ws text
  printed text prints = (
    prints.values,
    alike prints.command prints.values prints.has,
    subst (λ (k : Command). PutsOut k prints.values text) (same_command prints.command prints.has.words) prints.puts,
  )

  -- If the run stops with halt `h`, memory ran out, or the work of `c` stops, by values `ws` that are alike: the words
  -- form a command, and the files were read.
  pub stopped_by : (h : Halt) → Stops r h → (h ≡ Memory) ⊎ ((ws : List Value) × AllAlike vs ws × StopsWork c ws h)
  stopped_by h (inl words) =
      elim words.cause [ inl formless ↦ absurd (none-some c (sym formless.1 ∙ has.words)) | inr memory ↦ inl memory ]
  stopped_by h (inr (inl files)) =
      inl (stops_memory None (files_of c) r.shelf.old.history r.shelf.new.history vs h has.reads
      (subst (λ (k : Command). StopsReading None (files_of k) r.shelf.old.history r.shelf.new.history h)
      (same_command files.command files.words) files.stops))
  stopped_by h (inr (inr work)) = elim work.stops [
    | inl stops ↦ inr (
      work.values,
      alike work.command work.values work.has,
      subst (λ (k : Command). StopsWork k work.values h) (same_command work.command work.has.words) stops,
    )
    | inr memory ↦ inl memory
  ]
