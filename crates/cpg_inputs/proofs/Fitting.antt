-- A scenario or log that was read after a graph is of that graph.
use Rattle.std.proofs.Common.{ℕ, ◌≡◌, List, [], ◌∷◌, Some, None, refl, subst}
use Rattle.cpg_base.specs.Graph.{Graph}
use Rattle.cpg_history.specs.Fetch.{Fetch}
use Rattle.cpg_words.specs.Parts.{Text}
use Rattle.cpg_words.specs.declared.command.Command.{Command}
use Rattle.cpg_words.specs.declared.command.Command.TheVariants.{Play, Audit}
use Rattle.cpg_rules.specs.Admission.{Admission}
use Rattle.cpg_table.specs.Lawful.{Tables}
use Rattle.cpg_log.specs.Log.{Log, IsLog}
use Rattle.cpg_scenario.specs.File.{IsPlayed}
use Rattle.cpg_scenario.specs.declared.reading.Played.{Played}
use Rattle.cpg_inputs.specs.declared.kind.FileKind.TheVariants.{ScenarioFile, LogFile}
use Rattle.cpg_inputs.specs.declared.inputs.Inputs.{Inputs}
use Rattle.cpg_inputs.specs.Files.{files_of}
use Rattle.cpg_inputs.specs.Inputs.{AreFit, HasInputs}
use Rattle.cpg_inputs.specs.Says.{Value, graph_value, log_value, played_value, tables_value, Says}
use Rattle.cpg_inputs.specs.Reading.{Reads}
use Rattle.cpg_inputs.proofs.OneReading.{IsAlike}

-- if the value is a log, it is this one
abbrev IsValueOf : Log → Value → Type 0
IsValueOf l (log_value m) = m ≡ l
IsValueOf l v = Unit {0}

-- the scenario `p` that `bytes`, as a scenario file, say for graph `g` is one of `g`
played_fits : (g : Graph) (bytes : Text) (p : Played) → Says (Some g) ScenarioFile bytes (played_value p) → IsPlayed g p
played_fits g bytes p (q, value_is, are) =
    let same : q ≡ p = subst (IsAlike (played_value p)) value_is refl in subst (IsPlayed g) same are.lawful

-- the log `l` that `bytes`, as a log file, say for graph `g` is one of `g`
log_fits : (g : Graph) (bytes : Text) (l : Log) → Says (Some g) LogFile bytes (log_value l) → IsLog g l
log_fits g bytes l (heard, value_is, are) =
    let same : heard ≡ l = subst (IsValueOf l) value_is refl in subst (IsLog g) same are.lawful

-- the scenario of `play` is of the graph before it
play_fits : (a : Admission) (t : Tables) (p : Played) (graph pack scenario : Text) (turns : ℕ) (past now : List Fetch) →
    Reads None (files_of (Play graph pack scenario turns)) past now
    (graph_value a ∷ tables_value t ∷ played_value p ∷ []) → IsPlayed a.graph p
play_fits a t p graph pack scenario turns past now reads = let last = reads.2.2 in
    played_fits a.graph last.0.given p last.1.says

-- the log of `audit` is of the graph before it
audit_fits : (a : Admission) (t : Tables) (l : Log) (graph pack log : Text) (past now : List Fetch) →
    Reads None (files_of (Audit graph pack log)) past now (graph_value a ∷ tables_value t ∷ log_value l ∷ []) →
    IsLog a.graph l
audit_fits a t l graph pack log past now reads = let last = reads.2.2 in log_fits a.graph last.0.given l last.1.says

-- The scenario or the log among the inputs is of the graph that was read before it. By the inputs: only those of `play`
-- and `audit` have one.
pub inputs_fit : (c : Command) (past now : List Fetch) (inputs : Inputs) → HasInputs c past now inputs → AreFit inputs
inputs_fit c past now (Inputs.Graph a purpose) has = tt
inputs_fit c past now (Inputs.Check a t) has = tt
inputs_fit c past now (Inputs.Play a t p turns) has = go has.values has.reads has.are
  where
    -- the three files that were read are the graph, the pack and the scenario, in this order
    go : (vs : List Value) → Reads None (files_of c) past now vs →
        (graph : Text) × (pack : Text) × (scenario : Text) × (c ≡ Play graph pack scenario turns) ×
        (vs ≡ graph_value a ∷ tables_value t ∷ played_value p ∷ []) → IsPlayed a.graph p
    go vs reads (graph, pack, scenario, e, is) = play_fits a t p graph pack scenario turns past now
        (subst (Reads None (files_of (Play graph pack scenario turns)) past now) is
        (subst (λ (k : Command). Reads None (files_of k) past now vs) e reads))
inputs_fit c past now (Inputs.Audit a t l) has = go has.values has.reads has.are
  where
    -- the three files that were read are the graph, the pack and the log, in this order
    go : (vs : List Value) → Reads None (files_of c) past now vs →
        (graph : Text) × (pack : Text) × (log : Text) × (c ≡ Audit graph pack log) ×
        (vs ≡ graph_value a ∷ tables_value t ∷ log_value l ∷ []) → IsLog a.graph l
    go vs reads (graph, pack, log, e, is) = audit_fits a t l graph pack log past now
        (subst (Reads None (files_of (Audit graph pack log)) past now) is
        (subst (λ (k : Command). Reads None (files_of k) past now vs) e reads))
inputs_fit c past now (Inputs.Node t name) has = tt
inputs_fit c past now (Inputs.Live t name stream) has = tt
inputs_fit c past now (Inputs.Hyper parts) has = tt
inputs_fit c past now (Inputs.Trial number) has = tt
