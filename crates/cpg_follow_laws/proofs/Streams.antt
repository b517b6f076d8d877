-- The bytes that a node of a play is fed give what is due.
use Rattle.std.proofs.Common.{◌≡◌, ℕ, ◌+◌, ◌≤◌, Bool, true, false, cond, ◌&&◌, List, [], ◌∷◌, ◌++◌, length, refl, sym}
use Rattle.std.proofs.Common.{ap, ap₂, ◌∙◌, subst, arith, le-ltb}
use Rattle.std.specs.Prelude.{is_none, Result, Ok, Err}
use Rattle.std.proofs.lemmas.List.{take_all}
use Rattle.std.proofs.lemmas.List.Sums.{fold-append}
use Rattle.cpg_head.specs.Head.{Head}
use Rattle.cpg_table.specs.Table.{NodeTable, table_at}
use Rattle.cpg_table.proofs.GraphTables.{has_shape}
use Rattle.cpg_cluster.specs.Cluster.{own_table, initial_cluster}
use Rattle.cpg_cluster.specs.Correct.{IsDue}
use Rattle.cpg_cluster.proofs.Owning.{own_is}
use Rattle.cpg_cluster.proofs.Reached.{reached_open}
use Rattle.cpg_cluster.proofs.Plays.{played_of}
use Rattle.cpg_live.specs.declared.event.Event.{Event}
use Rattle.cpg_live.specs.declared.event.Event.TheVariants.{Close}
use Rattle.cpg_live.specs.declared.following.StreamFault.{StreamFault}
use Rattle.cpg_live.specs.declared.following.StreamFault.TheVariants.{Long}
use Rattle.cpg_live.specs.declared.following.TheConstants.{STREAM_LIMIT}
use Rattle.cpg_live.specs.Stream.{NodeProgress, Step, lawful, start, after, outcome}
use Rattle.cpg_live.specs.Streams.{act_lines, closed_line, close_of, end_by, end_of, read_part, stream_end}
use Rattle.cpg_live.specs.Streams.{stream_lines}
use Rattle.cpg_live.specs.Told.{follow_one, follow}
use Rattle.cpg_live.specs.Spelling.{HasRoom, closed_at, stream_bytes}
use Rattle.cpg_live.proofs.Spelling.{bytes_spell}
use Rattle.cpg_live.proofs.Reorder.{events_commute, all_of}
use Rattle.cpg_follow_laws.specs.Follow.{records_in}
use Rattle.cpg_follow_laws.specs.Streams.{BytesOfPlaysGiveWhatIsDue}
use Rattle.cpg_follow_laws.proofs.Follow.{plays_are_followed, streams_give}
use Rattle.cpg_follow_laws.proofs.Rising.{records_rise}
use Rattle.cpg_follow_laws.proofs.Room.{all_fit}

-- given the bytes of a stream that aren't more than the limit
module _ (table : NodeTable) (bytes : List ℕ) (short : length bytes ≤ STREAM_LIMIT) where
  -- no bytes are left out, since there are no more than the limit
  whole : read_part bytes ≡ bytes
  whole = take_all (STREAM_LIMIT + 1) bytes (omega (arith, short))

  -- the stream isn't refused for its length
  not_long : (b : Bool) (end : Result ℕ StreamFault) → cond (b && false) (Err Long) end ≡ end
  not_long true end = refl
  not_long false end = refl

  -- the end of the stream, as it is read, is that close
  read_end : (close : ℕ) → outcome (after table bytes) ≡ Ok close → stream_end table bytes ≡ Ok close
  read_end close is =
      ap (λ bytes. end_of (after table bytes) (length bytes)) whole
      ∙ ap (λ b. cond (is_none (after table bytes).lawless && b) (Err Long) (end_by (outcome (after table bytes))))
      (le-ltb STREAM_LIMIT (length bytes) short)
      ∙ not_long (is_none (after table bytes).lawless) (end_by (outcome (after table bytes))) ∙ ap end_by is

  -- its lines are those of its acts and that of the close
  read_lines : (h : Head) (close : ℕ) → stream_end table bytes ≡ Ok close →
      stream_lines h table bytes ≡ act_lines h (after table bytes).progress.acts ++ closed_line close
  read_lines h close is =
      ap₂ (λ (bytes : List ℕ) end. act_lines h (after table bytes).progress.acts ++ close_of end) whole is

-- The stream that spells a node's records and a close is lawful to that close, and on it the node does what is due. In
-- any order in which time doesn't fall, the records lead to one state, and each has room in a record's bytes, so what
-- holds of the records in the play's order (`streams_give`) holds of the bytes.
pub bytes_give : BytesOfPlaysGiveWhatIsDue
bytes_give g tables within of f v w turns node close es is in_play spelled =
    let shape = has_shape g within tables of in
    let played = played_of g tables f shape v w is in
    let table : NodeTable = own_table g node (table_at tables node) in
    -- what the node is told up to the close, and that it can follow these records
    let told : List (ℕ × Event) = records_in g w (initial_cluster g tables) node turns in
    let fine = (plays_are_followed g tables f shape v w turns node is in_play).none in
    -- the records lead to the same state in the order in which they are spelled
    let same : follow (lawful (start table)) es ≡ follow (lawful (start table)) told =
    events_commute (start table) 0 close told es
    (records_rise g tables f shape v w turns node close is in_play spelled.late) spelled.rise spelled.those fine in
    -- its records have room in a table's bytes, so the stream spells them
    let room = all_of (λ (e : ℕ × Event). HasRoom table e.1) es told spelled.those
    (all_fit played within of node in_play turns (initial_cluster g tables) (reached_open played)) in
    let taken = bytes_spell table es close spelled.small spelled.rise room (ap (λ (s : Step). s.fault) same ∙ fine) in
    let closed : follow (lawful (start table)) (closed_at es close)
    ≡ follow (lawful (start table)) (closed_at told close) =
    fold-append follow_one (lawful (start table)) es ((close, Close) ∷ []) ∙ ap (λ s. follow_one s (close, Close)) same
    ∙ sym (fold-append follow_one (lawful (start table)) told ((close, Close) ∷ [])) in
    -- the acts that it has come to are those that are due
    let due = (streams_give g tables f shape v w turns node close is in_play spelled.done spelled.late).acts in
    let count : length tables ≡ length g.nodes = shape.count in
    let own : table ≡ table_at tables node = own_is g tables within of node (omega (arith, in_play, count)) in
    let ends = subst (λ t. outcome (after t (stream_bytes (closed_at es close))) ≡ Ok close) own taken.ends in
    -- the stream ends with the close, the acts are what is due, and the lines that are shown are those of the acts
    record {
      ends = ends;
      acts = subst (λ t. IsDue g tables w.scenario node (after t (stream_bytes (closed_at es close))).progress.acts) own
          (subst (λ (p : NodeProgress). IsDue g tables w.scenario node p.acts)
          (sym (taken.comes ∙ ap (λ (s : Step). s.progress) closed)) due);
      read = λ short. read_end (table_at tables node) (stream_bytes (closed_at es close)) short close ends;
      lines = λ h short. read_lines (table_at tables node) (stream_bytes (closed_at es close)) short h close
          (read_end (table_at tables node) (stream_bytes (closed_at es close)) short close ends);
    }
