-- What the work on inputs answers is the answer of the command whose files say them.
use Rattle.std.proofs.Common.{ℕ, ◌≡◌, List, [], ◌∷◌, refl, sym, subst, inl, inr}
use Rattle.std.specs.Prelude.{Result, Ok, Err, IfOk, IfErr, string_bytes}
use Rattle.cpg_words.specs.Parts.{Text}
use Rattle.cpg_words.specs.declared.command.Command.{Command}
use Rattle.cpg_words.specs.declared.command.Command.TheVariants.{Show, Compile, Check, Play, Node, Trial, Live, Hyper}
use Rattle.cpg_words.specs.declared.command.Command.TheVariants.{Tune, Audit}
use Rattle.cpg_rules.specs.Admission.{Admission}
use Rattle.cpg_table.specs.Lawful.{Tables}
use Rattle.cpg_log.specs.Log.{Log}
use Rattle.cpg_scenario.specs.declared.reading.Played.{Played}
use Rattle.cpg_hyper.specs.declared.part.Part.{Part}
use Rattle.cpg_refusal.specs.declared.halt.Halt.{Halt}
use Rattle.cpg_refusal.specs.declared.halt.Halt.TheVariants.{Memory}
use Rattle.cpg_inputs.specs.declared.inputs.Inputs.{Inputs}
use Rattle.cpg_inputs.specs.declared.inputs.Purpose.{Purpose}
use Rattle.cpg_inputs.specs.Inputs.{AreInputs}
use Rattle.cpg_inputs.specs.Says.{Value, tables_value}
use Rattle.cpg_live.specs.Follower.{Follower}
use Rattle.cpg_show.specs.NodeText.{node_text}
use Rattle.cpg_app.specs.declared.output.Output.{Output}
use Rattle.cpg_app.specs.declared.output.Output.TheVariants.{Lines, Table as Shown, NodeTable as OfNode, Pack, Stream}
use Rattle.cpg_app.specs.Causes.{IsNotUnrolled, IsUncompiled, OrMemory, StopsNaming, StopsVerdict, StopsWork}
use Rattle.cpg_app.specs.Outputs.{Answers, IsAuditedText, IsFollower, IsMadeOf, IsNodeText, IsPlayedText, IsSafeText}
use Rattle.cpg_app.specs.Outputs.{IsTrialText, IsUnrolledText, Opens, Puts, PutsOut, packed, packed_by, shown, shown_by}
use Rattle.cpg_app.specs.Tunes.{IsTuningText}

-- ---- answers

-- if `P` of a value implies `Q`, a result `r` whose value has `P` has `Q`
pub if_ok : {T E : Type 0} {P Q : T → Type 0} (r : Result T E) → ((x : T) → P x → Q x) → IfOk r P → IfOk r Q
if_ok (Ok x) each p = each x p
if_ok (Err e) each p = p

-- if `P` of an error implies `Q`, a result `r` whose error has `P` has `Q`
pub if_err : {T E : Type 0} {P Q : E → Type 0} (r : Result T E) → ((e : E) → P e → Q e) → IfErr r P → IfErr r Q
if_err (Ok x) each p = p
if_err (Err e) each p = each e p

-- if a fact of a text implies another, an output whose text has the first has the second; by the kind of output
put_on : {P Q : Text → Type 0} (o : Output) → ((text : Text) → P text → Q text) → Puts o P → Puts o Q
put_on (Lines text) each puts = each (string_bytes text) puts
put_on (Shown made) each puts = each (shown_by made.admitted.graph made.rows) puts
put_on (OfNode tables node) each puts = (puts.0, each (node_text tables node) puts.1)
put_on (Pack made) each puts = (puts.0, each (packed_by made.admitted.graph made.rows) puts.1)
put_on (Stream follower path) each puts = puts

-- given a command, the values of its files, and the result of the work
module _ (c : Command) (vs : List Value) (r : Result Output Halt) where
  -- what answers a command that equals c answers c
  known : (d : Command) → c ≡ d → IfOk r (Answers d vs) → IfOk r (Answers c vs)
  known d same = subst (λ k. IfOk r (Answers k vs)) (sym same)

  -- if each text of which `P` holds is one of which `Q` holds, an output that `P` holds of is one that `Q` holds of
  puts : {P Q : Text → Type 0} → ((text : Text) → P text → Q text) → IfOk r (λ o. Puts o P) → IfOk r (λ o. Puts o Q)
  puts each = if_ok r (λ o. put_on o each)

  -- What is put out by the inputs of `show` answers the command, which is `show`, as the inputs say. So it is for each
  -- command below.
  pub of_show : (a : Admission) → AreInputs c vs (Inputs.Graph a Purpose.Show) →
      IfOk r (λ o. Puts o (IsMadeOf a shown)) →
      IfOk r (Answers c vs)
  of_show a (graph, e, is) ok = known (Show graph) e (puts (λ text made. (a, is, made)) ok)

  -- an answer to the inputs of `compile` is an answer to the command
  pub of_compile : (a : Admission) → AreInputs c vs (Inputs.Graph a Purpose.Compile) →
      IfOk r (λ o. Puts o (IsMadeOf a packed)) →
      IfOk r (Answers c vs)
  of_compile a (graph, e, is) ok = known (Compile graph) e (puts (λ text made. (a, is, made)) ok)

  -- an answer to the inputs of `tune` is an answer to the command
  pub of_tune : (a : Admission) → AreInputs c vs (Inputs.Graph a Purpose.Tune) →
      IfOk r (λ o. Puts o (IsTuningText a.graph)) →
      IfOk r (Answers c vs)
  of_tune a (graph, e, is) ok = known (Tune graph) e (puts (λ text made. (a, is, made)) ok)

  -- an answer to the inputs of `check` is an answer to the command
  pub of_check : (a : Admission) (t : Tables) → AreInputs c vs (Inputs.Check a t) →
      IfOk r (λ o. Puts o (IsSafeText a t)) →
      IfOk r (Answers c vs)
  of_check a t (graph, pack, e, is) ok = known (Check graph pack) e (puts (λ text made. (a, t, is, made)) ok)

  -- an answer to the inputs of `play` is an answer to the command
  pub of_play : (a : Admission) (t : Tables) (p : Played) (turns : ℕ) → AreInputs c vs (Inputs.Play a t p turns) →
      IfOk r (λ o. Puts o (IsPlayedText a t p turns)) →
      IfOk r (Answers c vs)
  of_play a t p turns (graph, pack, scenario, e, is) ok =
      known (Play graph pack scenario turns) e (puts (λ text made. (a, t, p, is, made)) ok)

  -- an answer to the inputs of `audit` is an answer to the command
  pub of_audit : (a : Admission) (t : Tables) (l : Log) → AreInputs c vs (Inputs.Audit a t l) →
      IfOk r (λ o. Puts o (IsAuditedText a t l)) →
      IfOk r (Answers c vs)
  of_audit a t l (graph, pack, log, e, is) ok =
      known (Audit graph pack log) e (puts (λ text made. (a, t, l, is, made)) ok)

  -- an answer to the inputs of `node` is an answer to the command
  pub of_node : (t : Tables) (name : Text) → AreInputs c vs (Inputs.Node t name) →
      IfOk r (λ o. Puts o (IsNodeText t name)) →
      IfOk r (Answers c vs)
  of_node t name (pack, e, is) ok = known (Node pack name) e (puts (λ text made. (t, is, made)) ok)

  -- an answer to the inputs of `live` is an answer to the command
  pub of_live : (t : Tables) (name stream : Text) → AreInputs c vs (Inputs.Live t name stream) →
      IfOk r (Opens t name stream) →
      IfOk r (Answers c vs)
  of_live t name stream (pack, e, is) ok = known (Live pack name stream) e (if_ok r (λ o opens. (t, is, opens)) ok)

  -- an answer to the inputs of `hyper` is an answer to the command
  pub of_hyper : (parts : List Part) → AreInputs c vs (Inputs.Hyper parts) →
      IfOk r (λ o. Puts o (IsUnrolledText parts)) →
      IfOk r (Answers c vs)
  of_hyper parts (pairs, e, is, periods) ok = known (Hyper pairs) e (puts (λ text made. (parts, is, periods, made)) ok)

  -- an answer to the inputs of `trial` is an answer to the command
  pub of_trial : (number : ℕ) → AreInputs c vs (Inputs.Trial number) → IfOk r (λ o. Puts o (IsTrialText number)) →
      IfOk r (Answers c vs)
  of_trial number (e, is) ok = known (Trial number) e ok

  -- ---- halts

  -- a halt of a command that equals c is one of c
  stop_as : (d : Command) → c ≡ d → IfErr r (OrMemory (StopsWork d vs)) → IfErr r (OrMemory (StopsWork c vs))
  stop_as d same = subst (λ k. IfErr r (OrMemory (StopsWork k vs))) (sym same)

  -- if a fact of a halt implies another, a result whose halt has the first, or is that memory ran out, has the second,
  -- or so
  stops : {P Q : Halt → Type 0} → ((h : Halt) → P h → Q h) → IfErr r (OrMemory P) → IfErr r (OrMemory Q)
  stops {P = P} {Q = Q} each = if_err r (λ h so. go h so)
    where
      -- by whether memory ran out
      go : (h : Halt) → OrMemory P h → OrMemory Q h
      go h (inl p) = inl (each h p)
      go h (inr memory) = inr memory

  -- a halt of the work on the inputs of `show` is one of the command's work
  pub stops_show : (a : Admission) → AreInputs c vs (Inputs.Graph a Purpose.Show) → IfErr r (IsUncompiled a) →
      IfErr r (OrMemory (StopsWork c vs))
  stops_show a (graph, e, is) err = stop_as (Show graph) e (if_err r (λ h wrong. inl (a, is, wrong)) err)

  -- a halt of the work on the inputs of `compile` is one of the command's work
  pub stops_compile : (a : Admission) → AreInputs c vs (Inputs.Graph a Purpose.Compile) → IfErr r (IsUncompiled a) →
      IfErr r (OrMemory (StopsWork c vs))
  stops_compile a (graph, e, is) err = stop_as (Compile graph) e (if_err r (λ h wrong. inl (a, is, wrong)) err)

  -- that memory ran out is a halt of the work of any command
  pub stops_memory : IfErr r (λ h. h ≡ Memory) → IfErr r (OrMemory (StopsWork c vs))
  stops_memory err = if_err r (λ h memory. inr memory) err

  -- a halt of the work on the inputs of `check` is one of the command's work
  pub stops_check : (a : Admission) (t : Tables) → AreInputs c vs (Inputs.Check a t) →
      IfErr r (OrMemory (StopsVerdict a t)) →
      IfErr r (OrMemory (StopsWork c vs))
  stops_check a t (graph, pack, e, is) err = stop_as (Check graph pack) e (stops (λ h wrong. (a, t, is, wrong)) err)

  -- a halt of the work on the inputs of `play` is one of the command's work
  pub stops_play : (a : Admission) (t : Tables) (p : Played) (turns : ℕ) → AreInputs c vs (Inputs.Play a t p turns) →
      IfErr r (OrMemory (StopsVerdict a t)) →
      IfErr r (OrMemory (StopsWork c vs))
  stops_play a t p turns (graph, pack, scenario, e, is) err =
      stop_as (Play graph pack scenario turns) e (stops (λ h wrong. (a, t, p, is, wrong)) err)

  -- a halt of the work on the inputs of `audit` is one of the command's work
  pub stops_audit : (a : Admission) (t : Tables) (l : Log) → AreInputs c vs (Inputs.Audit a t l) →
      IfErr r (OrMemory (StopsVerdict a t)) →
      IfErr r (OrMemory (StopsWork c vs))
  stops_audit a t l (graph, pack, log, e, is) err =
      stop_as (Audit graph pack log) e (stops (λ h wrong. (a, t, l, is, wrong)) err)

  -- a halt of the work on the inputs of `node` is one of the command's work
  pub stops_node : (t : Tables) (name : Text) → AreInputs c vs (Inputs.Node t name) →
      IfErr r (OrMemory (StopsNaming t name)) →
      IfErr r (OrMemory (StopsWork c vs))
  stops_node t name (pack, e, is) err = stop_as (Node pack name) e (stops (λ h wrong. (t, is, wrong)) err)

  -- a halt of the work on the inputs of `live` is one of the command's work
  pub stops_live : (t : Tables) (name stream : Text) → AreInputs c vs (Inputs.Live t name stream) →
      IfErr r (OrMemory (StopsNaming t name)) →
      IfErr r (OrMemory (StopsWork c vs))
  stops_live t name stream (pack, e, is) err = stop_as (Live pack name stream) e (stops (λ h wrong. (t, is, wrong)) err)

  -- a halt of the work on the inputs of `hyper` is one of the command's work
  pub stops_hyper : (parts : List Part) → AreInputs c vs (Inputs.Hyper parts) → IfErr r (IsNotUnrolled parts) →
      IfErr r (OrMemory (StopsWork c vs))
  stops_hyper parts (pairs, e, is, periods) err =
      stop_as (Hyper pairs) e (if_err r (λ h wrong. inl (parts, is, periods, wrong)) err)

-- ---- what an answer is of

-- an output is a text, and no stream
abbrev pub IsText : Output → Type 0
IsText (Lines text) = Unit {0}
IsText (Shown made) = Unit {0}
IsText (OfNode tables node) = Unit {0}
IsText (Pack made) = Unit {0}
IsText (Stream follower path) = ⊥

-- an output `o` that is a text opens no follower
not_opened : (t : Tables) (name stream : Text) (o : Output) → IsText o → Opens t name stream o → ⊥
not_opened t name stream (Lines text) is opens = opens
not_opened t name stream (Shown made) is opens = opens
not_opened t name stream (OfNode tables node) is opens = opens
not_opened t name stream (Pack made) is opens = opens
not_opened t name stream (Stream follower path) is opens = is

-- an answer `o` that is a text is the output that command `c` puts out
pub text_of : (c : Command) (vs : List Value) (o : Output) → IsText o → Answers c vs o → Puts o (PutsOut c vs)
text_of (Show graph) vs o is answers = answers
text_of (Compile graph) vs o is answers = answers
text_of (Check graph pack) vs o is answers = answers
text_of (Play graph pack scenario turns) vs o is answers = answers
text_of (Node pack name) vs o is answers = answers
text_of (Trial number) vs o is answers = answers
text_of (Live pack name stream) vs o is answers = absurd (not_opened answers.0 name stream o is answers.2)
text_of (Hyper pairs) vs o is answers = answers
text_of (Tune graph) vs o is answers = answers
text_of (Audit graph pack log) vs o is answers = answers

-- the command is `live`, on the stream with this path, and the follower is the node that it names in the tables
pub record IsLive (c : Command) (vs : List Value) (f : Follower) (path : Text) : Type 0 where
  -- the paths of the pack and the name of the node that the command gives
  pub pack : Text
  pub name : Text
  pub command : c ≡ Live pack name path
  -- the tables that the pack says, and nothing else was read
  pub tables : Tables
  pub said : vs ≡ tables_value tables ∷ []
  -- the follower is the node of this name in them
  pub follower : IsFollower tables name f

-- if a node that is to follow a stream answers a command, the command is `live`, and this is its node; by the command
pub live_of : (c : Command) (vs : List Value) (f : Follower) (path : Text) → Answers c vs (Stream f path) →
    IsLive c vs f path
live_of (Show graph) vs f path answers = absurd answers
live_of (Compile graph) vs f path answers = absurd answers
live_of (Check graph pack) vs f path answers = absurd answers
live_of (Play graph pack scenario turns) vs f path answers = absurd answers
live_of (Node pack name) vs f path answers = absurd answers
live_of (Trial number) vs f path answers = absurd answers
live_of (Live pack name stream) vs f path (t, is, opens) =
    record {
      pack = pack;
      name = name;
      command = subst (λ p. Live pack name stream ≡ Live pack name p) (sym opens.1) refl;
      tables = t;
      said = is;
      follower = opens.0;
    }
live_of (Hyper pairs) vs f path answers = absurd answers
live_of (Tune graph) vs f path answers = absurd answers
live_of (Audit graph pack log) vs f path answers = absurd answers
