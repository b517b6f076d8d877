-- A run that follows a stream keeps what each status says.
use Rattle.std.proofs.Common.{ℕ, ◌≡◌, ◌≢◌, ◌∙◌, Bool, true, false, true≢false, List, [], ◌∷◌, Option, Some, None, refl}
use Rattle.std.proofs.Common.{sym, ap, subst, arith, inl, inr}
use Rattle.std.specs.Prelude.{◌⊎◌}
use Rattle.std.proofs.lemmas.Bool.{cases_eq}
use Rattle.std.proofs.lemmas.Option.{none-some, same_Some}
use Rattle.cpg_io.specs.Causes.{Rose}
use Rattle.cpg_history.specs.Fetch.{Fetch}
use Rattle.cpg_words.specs.Parts.{Text}
use Rattle.cpg_words.specs.Forms.{command_of}
use Rattle.cpg_words.specs.declared.command.Command.{Command}
use Rattle.cpg_words.specs.declared.command.Command.TheVariants.{Show, Compile, Check, Play, Node, Trial, Live, Hyper}
use Rattle.cpg_words.specs.declared.command.Command.TheVariants.{Tune, Audit}
use Rattle.cpg_rules.specs.Admission.{Admission}
use Rattle.cpg_head.specs.Head.{Head}
use Rattle.cpg_table.specs.Lawful.{Tables}
use Rattle.cpg_table.specs.Table.{NodeTable, table_at}
use Rattle.cpg_refusal.specs.declared.halt.Halt.TheVariants.{Read}
use Rattle.cpg_refusal.specs.Lines.{line_of}
use Rattle.cpg_inputs.specs.declared.kind.FileKind.TheVariants.{PackFile}
use Rattle.cpg_inputs.specs.Says.{Says, tables_value}
use Rattle.cpg_inputs.specs.Reading.{AreSound}
use Rattle.cpg_inputs.proofs.OneReading.{says_alike}
use Rattle.cpg_inputs.proofs.Soundness.{sound_none, sound_on}
use Rattle.cpg_live.specs.declared.following.Broken.{Broken}
use Rattle.cpg_live.specs.Following.{AreWritten, Breaks}
use Rattle.cpg_live.specs.Streams.{fault_line, stream_end}
use Rattle.cpg_app.specs.Causes.{first_named}
use Rattle.cpg_outputs.specs.Told.{Part, Sent, SinkSeen, Untouched, Whole}
use Rattle.cpg_app.specs.Endings.{Ran, EndsAtClose, EndsInStream, Follows, stream_of, table_of}
use Rattle.cpg_outputs.specs.Said.{IsSaid}
use Rattle.cpg_app.specs.Lawful.{AsksForTables, AsksVerdict, IsFailed, IsFaultless, IsLawful, IsRefusedStream}
use Rattle.cpg_app.specs.Lawful.{IsUnreadStream, status_of_end}
use Rattle.cpg_app.proofs.Shown.{one_file}

-- ---- words

-- whether a command is `live`
abbrev pub is_live : Option Command → Bool
is_live (Some (Live pack name stream)) = true
is_live other = false

-- the name of the node in a command of `live`, or the empty text for any other
abbrev name_in : Option Command → Text
name_in (Some (Live pack name stream)) = name
name_in other = []

-- given a run that follows a stream
module _ (r : Ran) (f : Follows r) where
  -- its words aren't those of a command other than `live`
  pub other_words : (c : Option Command) → is_live c ≡ false → command_of r.words ≡ c → ⊥
  other_words c off same = true≢false (ap is_live (sym f.words ∙ same) ∙ off)

  -- it doesn't ask for a graph's tables
  not_shown : (a : Admission) → AsksForTables r a → ⊥
  not_shown a (graph, inl asks) = other_words (Some (Show graph)) refl asks.has.words
  not_shown a (graph, inr asks) = other_words (Some (Compile graph)) refl asks.has.words

  -- it doesn't ask to judge any tables `t`
  not_judged : (a : Admission) (t : Tables) → AsksVerdict r a t → ⊥
  not_judged a t (graph, pack, inl asks) = other_words (Some (Check graph pack)) refl asks.has.words
  not_judged a t (graph, pack, inr (inl play)) =
      other_words (Some (Play graph pack play.scenario play.turns)) refl play.asks.has.words
  not_judged a t (graph, pack, inr (inr audit)) =
      other_words (Some (Audit graph pack audit.path)) refl audit.asks.has.words

-- ---- one stream

-- the last fetch of a history, or d if there is none
head_or : Fetch → List Fetch → Fetch
head_or d [] = d
head_or d (f ∷ fs) = f

-- the last fetch but one, or d if there is none
second_or : Fetch → List Fetch → Fetch
second_or d [] = d
second_or d (f ∷ fs) = head_or d fs

-- given two accounts of a run that follows a stream; they agree
module _ (r : Ran) (f g : Follows r) where
  -- both have the same fetches
  histories : f.fetch ∷ f.read ∷ r.shelf.old.history ≡ g.fetch ∷ g.read ∷ r.shelf.old.history
  histories = sym f.history ∙ g.history

  -- both have the same fetch of the stream, which is the last
  pub same_fetch : f.fetch ≡ g.fetch
  unfolding head_or
  same_fetch = ap (head_or f.fetch) histories

  -- both have the same fetch of the pack, which is the last but one
  same_read : f.read ≡ g.read
  unfolding head_or second_or
  same_read = ap (second_or f.read) histories

  -- both have the same tables, as the same bytes say them
  same_tables : g.tables ≡ f.tables
  same_tables = says_alike None PackFile f.read.given (tables_value f.tables) (tables_value g.tables) f.spelled.says
      (subst (λ (e : Fetch). Says None PackFile e.given (tables_value g.tables)) (sym same_read) g.spelled.says)

  -- both have the same name, as it is in the words
  same_name : f.name ≡ g.name
  same_name = ap name_in (sym f.words ∙ g.words)

  -- both have the same node: the first that has the name in the tables
  same_node : g.node ≡ f.node
  same_node = same_Some g.node f.node (sym g.named ∙ (ap (λ (t : Tables). first_named t.head g.name) same_tables
      ∙ (ap (first_named f.tables.head) (sym same_name) ∙ f.named)))

  -- both have the same table of the node
  pub same_table : table_of g ≡ table_of f
  same_table = ap (λ (t : Tables). table_at t.nodes g.node) same_tables ∙ ap (table_at f.tables.nodes) same_node

  -- the end of the stream is the same by both
  pub same_end : stream_end (table_of g) g.fetch.given ≡ stream_end (table_of f) f.fetch.given
  same_end = ap (λ (e : Fetch). stream_end (table_of g) e.given) (sym same_fetch)
      ∙ ap (λ t. stream_end t f.fetch.given) same_table

-- if the fetch of the stream that `r` follows didn't fail, no fetch of the run did: that of the pack, which was read,
-- didn't either
sound_all : (r : Ran) (f : Follows r) → f.fetch.failed ≡ false → AreSound r.shelf.old.history r.shelf.new.history
sound_all r f sound =
    let past = f.read ∷ r.shelf.old.history in
    let here = sound_none (f.fetch ∷ past) r.shelf.new.history f.history in
    sound_on f.read r.shelf.old.history r.shelf.new.history f.spelled.whole.sound
    (sound_on f.fetch past r.shelf.new.history sound here)

-- the lines that a stream wrote are what `out` took
wrote_all : (r : Ran) (f : Follows r) (lines : Text) → AreWritten (stream_of r f) lines → Whole r.out lines
wrote_all r f lines wrote = record { faultless = wrote.faultless; taken = wrote.taken }

-- ---- followed to its close

-- given a run that follows its stream to the close
module _ (r : Ran) (ends : EndsAtClose r) where
  -- what the run follows
  abbrev closed_stream : Follows r
  closed_stream = ends.follows

  -- the run has no status but 0
  zero_alone : (n : ℕ) → r.status ≡ n → n ≢ 0 → ⊥
  zero_alone n same other = other (sym same ∙ ends.status)

  -- the status is that of the stream's end
  closes : (g : Follows r) → r.status ≡ status_of_end (stream_end (table_of g) g.fetch.given)
  closes g = ends.status ∙ sym (ap status_of_end (same_end r closed_stream g ∙ ends.completes.1.ends))

  -- a run that follows its stream to the close keeps what each status says
  pub lawful_closed : IsLawful r
  lawful_closed = record {
    -- how the run ends; its status is 0 alone
    ends = inr (inr (inl ends));
    done = λ zero.
        inr (record { follows = ends.follows; lines = ends.completes.0; closed = ends.completes.1; out = wrote_all r closed_stream ends.completes.0 ends.completes.2; err = ends.err });
    words = λ one. absurd (zero_alone 1 one (λ e. omega arith));
    formless = λ none other. absurd
        (none-some (Live closed_stream.pack closed_stream.name closed_stream.stream) (sym none ∙ closed_stream.words));
    read = λ two. absurd (zero_alone 2 two (λ e. omega arith));
    unread = inl (sound_all r closed_stream ends.completes.1.sound);
    write = λ three. absurd (zero_alone 3 three (λ e. omega arith));
    unmet = λ other. (ends.completes.2.faultless, ends.err.faultless);
    refused = λ four. absurd (zero_alone 4 four (λ e. omega arith));
    is_late = λ five. absurd (zero_alone 5 five (λ e. omega arith));
    is_wide = λ six. absurd (zero_alone 6 six (λ e. omega arith));
    is_unsafe = λ seven. absurd (zero_alone 7 seven (λ e. omega arith));
    silent = λ zero three. absurd (zero ends.status);
    -- the command is `live`, so nothing is asked of a graph, of a verdict, or of another command
    wide = λ a x asks ungiven wide. absurd (not_shown r closed_stream a asks);
    made = λ a asks timely. absurd (not_shown r closed_stream a asks);
    late = λ a asks late. absurd (not_shown r closed_stream a asks);
    other = λ a t asks differs. absurd (not_judged r closed_stream a t asks);
    safe = λ a t asks head valid. absurd (not_judged r closed_stream a t asks);
    broken = λ a t asks head broken. absurd (not_judged r closed_stream a t asks);
    named =
        λ pack name t node asks named. absurd (other_words r closed_stream (Some (Node pack name)) refl asks.has.words);
    nameless =
        λ pack name t asks none. absurd (other_words r closed_stream (Some (Node pack name)) refl asks.has.words);
    tried = λ number asks. absurd (other_words r closed_stream (Some (Trial number)) refl asks);
    tuned = λ graph a asks. absurd (other_words r closed_stream (Some (Tune graph)) refl asks.has.words);
    unrolled = λ pairs parts g asks periods shows.
        absurd (other_words r closed_stream (Some (Hyper pairs)) refl asks.has.words);
    apart = λ pairs parts fault asks periods shows other.
        absurd (other_words r closed_stream (Some (Hyper pairs)) refl asks.has.words);
    -- the status is that of the stream's end
    followed = λ g faultless sound. closes g;
    unfollowed = λ pack name stream t asks none. absurd (one_file r closed_stream (tables_value t ∷ []) asks.has);
  }

-- ---- not followed to its close

-- if bytes were sent to a sink, and the status is n and not 3, the wanted status was n
status_sent : (sink : SinkSeen) (status wanted n : ℕ) (bytes : Text) → Sent sink status wanted bytes → status ≡ n →
    n ≢ 3 → wanted ≡ n
status_sent sink status wanted n bytes sent same other = sym (sent.whole (λ three. other (sym same ∙ three))).0 ∙ same

-- a stream that breaks off gives status 2, 3 or 4
said_status : (r : Ran) (broken : Broken) → IsSaid r.err r.status broken →
    (r.status ≡ 2) ⊎ ((r.status ≡ 3) ⊎ (r.status ≡ 4))
said_status r Broken.Shelf said =
    elim (cases_eq r.status 3) [ inl three ↦ inr (inl three) | inr other ↦ inl (said.whole other).0 ]
said_status r Broken.Sink said = inr (inl said.0)
said_status r (Broken.Refused fault) said =
    elim (cases_eq r.status 3) [ inl three ↦ inr (inl three) | inr other ↦ inr (inr (said.whole other).0) ]

-- given a run that follows its stream, but not to the close
module _ (r : Ran) (ends : EndsInStream r) where
  -- what the run follows
  abbrev stream : Follows r
  stream = ends.follows

  -- the head of the tables
  abbrev head : Head
  head = stream.tables.head

  -- the table of the node
  abbrev table : NodeTable
  table = table_of stream

  -- the run has no status but 2, 3 and 4
  other_status : (n : ℕ) → r.status ≡ n → n ≢ 2 → n ≢ 3 → n ≢ 4 → ⊥
  other_status n same not_2 not_3 not_4 = elim (said_status r ends.broken ends.said) [
    | inl two ↦ not_2 (sym same ∙ two)
    | inr (inl three) ↦ not_3 (sym same ∙ three)
    | inr (inr four) ↦ not_4 (sym same ∙ four)
  ]

  -- with status 3 a sink counted a fault
  write_rose : (broken : Broken) → Breaks head table (stream_of r stream) broken → IsSaid r.err r.status broken →
      r.status ≡ 3 →
      Rose r.out.before r.out.now ⊎ Rose r.err.before r.err.now
  write_rose Broken.Shelf breaks said three = inr (said.part three).rose
  write_rose Broken.Sink breaks said three = inl breaks.0
  write_rose (Broken.Refused fault) breaks said three = inr (said.part three).rose

  -- with another status none did
  faultless_stream : (broken : Broken) → Breaks head table (stream_of r stream) broken → IsSaid r.err r.status broken →
      r.status ≢ 3 →
      (r.out.now ≡ r.out.before) × (r.err.now ≡ r.err.before)
  faultless_stream Broken.Shelf breaks said other = (breaks.2.faultless, (said.whole other).1.faultless)
  faultless_stream Broken.Sink breaks said other = absurd (other said.0)
  faultless_stream (Broken.Refused fault) breaks said other = (breaks.2.faultless, (said.whole other).1.faultless)

  -- with status 4 the stream was refused
  refused_stream : (broken : Broken) → Breaks head table (stream_of r stream) broken → IsSaid r.err r.status broken →
      r.status ≡ 4 →
      IsRefusedStream r
  refused_stream Broken.Shelf breaks said four =
      absurd (let two = status_sent r.err r.status 2 4 (line_of Read) said four (λ e. omega arith) in omega arith)
  refused_stream Broken.Sink breaks said four = absurd (let three = said.0 in omega arith)
  refused_stream (Broken.Refused fault) breaks said four = record
      { follows = stream; fault = fault; lines = breaks.0; refused = breaks.1; out = wrote_all r stream breaks.0 breaks.2; err = (said.whole (λ three. omega arith)).1 }

  -- with status 2 the shelf met a fault in the stream
  unread_stream : (broken : Broken) → Breaks head table (stream_of r stream) broken → IsSaid r.err r.status broken →
      r.status ≡ 2 →
      IsUnreadStream r
  unread_stream Broken.Shelf breaks said two = record
      { follows = stream; lines = breaks.0; lawful = breaks.1; out = wrote_all r stream breaks.0 breaks.2; err = (said.whole (λ three. omega arith)).1 }
  unread_stream Broken.Sink breaks said two = absurd (let three = said.0 in omega arith)
  unread_stream (Broken.Refused fault) breaks said two =
      absurd (let four = status_sent r.err r.status 4 2 (fault_line fault) said two (λ e. omega arith) in omega arith)

  -- the fetches are sound, or the status says that one failed
  sound_stream : (broken : Broken) → Breaks head table (stream_of r stream) broken → IsSaid r.err r.status broken →
      AreSound r.shelf.old.history r.shelf.new.history ⊎
      ((r.status ≡ 2) ⊎ ((r.status ≡ 3) × Part r.err (line_of Read)))
  sound_stream Broken.Shelf breaks said = elim (cases_eq r.status 3) [
    | inl three ↦ inr (inr (three, said.part three))
    | inr other ↦ inr (inl (said.whole other).0)
  ]
  sound_stream Broken.Sink breaks said = inl (sound_all r stream breaks.1.sound)
  sound_stream (Broken.Refused fault) breaks said = inl (sound_all r stream breaks.1.sound)

  -- if the shelf met a fault in the stream, the last fetch failed
  failed_stream : IsUnreadStream r → IsFailed r
  failed_stream unread = let follows = unread.follows in
      record {
        fetch = follows.fetch;
        past = follows.read ∷ r.shelf.old.history;
        last = follows.history;
        failed = unread.lawful.failed;
      }

  -- with a status other than 0 and 3, the shelf met a fault in the stream, or the stream was refused
  silent : r.status ≢ 0 → r.status ≢ 3 →
      Untouched r.out ⊎ (((r.status ≡ 2) × IsUnreadStream r) ⊎ ((r.status ≡ 4) × IsRefusedStream r))
  silent zero other = elim (said_status r ends.broken ends.said) [
    | inl two ↦ inr (inl (two, unread_stream ends.broken ends.breaks ends.said two))
    | inr (inl three) ↦ absurd (other three)
    | inr (inr four) ↦ inr (inr (four, refused_stream ends.broken ends.breaks ends.said four))
  ]

  -- Without faults the status is that of the stream's end. By why the stream isn't followed: only a refusal is no
  -- fault.
  ended : (g : Follows r) → IsFaultless r → g.fetch.failed ≡ false → (broken : Broken) →
      Breaks head table (stream_of r stream) broken →
      IsSaid r.err r.status broken →
      r.status ≡ status_of_end (stream_end (table_of g) g.fetch.given)
  ended g faultless sound Broken.Shelf breaks said =
      absurd (true≢false (sym breaks.1.failed ∙ (ap (λ (e : Fetch). e.failed) (same_fetch r stream g) ∙ sound)))
  ended g faultless sound Broken.Sink breaks said = absurd (faultless.out breaks.0)
  ended g faultless sound (Broken.Refused fault) breaks said = elim (cases_eq r.status 3) [
    | inl three ↦ absurd (faultless.err (said.part three).rose)
    | inr other ↦ (said.whole other).0 ∙ sym (ap status_of_end (same_end r stream g ∙ breaks.1.ends))
  ]

  -- a run that doesn't follow its stream to the close keeps what each status says
  pub lawful_stream : IsLawful r
  lawful_stream = record {
    -- how the run ends; its status is 2, 3 or 4
    ends = inr (inr (inr ends));
    done = λ zero. absurd (other_status 0 zero (λ e. omega arith) (λ e. omega arith) (λ e. omega arith));
    words = λ one. absurd (other_status 1 one (λ e. omega arith) (λ e. omega arith) (λ e. omega arith));
    formless = λ none other. absurd (none-some (Live stream.pack stream.name stream.stream) (sym none ∙ stream.words));
    read =
        λ two. let unread = unread_stream ends.broken ends.breaks ends.said two in (failed_stream unread, inr unread);
    unread = sound_stream ends.broken ends.breaks ends.said;
    write = write_rose ends.broken ends.breaks ends.said;
    unmet = faultless_stream ends.broken ends.breaks ends.said;
    refused = λ four. inr (refused_stream ends.broken ends.breaks ends.said four);
    is_late = λ five. absurd (other_status 5 five (λ e. omega arith) (λ e. omega arith) (λ e. omega arith));
    is_wide = λ six. absurd (other_status 6 six (λ e. omega arith) (λ e. omega arith) (λ e. omega arith));
    is_unsafe = λ seven. absurd (other_status 7 seven (λ e. omega arith) (λ e. omega arith) (λ e. omega arith));
    silent = silent;
    -- the command is `live`, so nothing is asked of a graph, of a verdict, or of another command
    wide = λ a x asks ungiven wide. absurd (not_shown r stream a asks);
    made = λ a asks timely. absurd (not_shown r stream a asks);
    late = λ a asks late. absurd (not_shown r stream a asks);
    other = λ a t asks differs. absurd (not_judged r stream a t asks);
    safe = λ a t asks head valid. absurd (not_judged r stream a t asks);
    broken = λ a t asks head broken. absurd (not_judged r stream a t asks);
    named = λ pack name t node asks named. absurd (other_words r stream (Some (Node pack name)) refl asks.has.words);
    nameless = λ pack name t asks none. absurd (other_words r stream (Some (Node pack name)) refl asks.has.words);
    tried = λ number asks. absurd (other_words r stream (Some (Trial number)) refl asks);
    tuned = λ graph a asks. absurd (other_words r stream (Some (Tune graph)) refl asks.has.words);
    unrolled =
        λ pairs parts g asks periods shows. absurd (other_words r stream (Some (Hyper pairs)) refl asks.has.words);
    apart = λ pairs parts fault asks periods shows other.
        absurd (other_words r stream (Some (Hyper pairs)) refl asks.has.words);
    -- without faults the status is that of the stream's end
    followed = λ g faultless sound. ended g faultless sound ends.broken ends.breaks ends.said;
    unfollowed = λ pack name path t asks none. absurd (one_file r stream (tables_value t ∷ []) asks.has);
  }
