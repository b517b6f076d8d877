-- A stream that a node of a pack follows: the lines of what the node does, and how the stream ends. A fetch is what the
-- shelf gave of a stream, and whether it came to its end or failed.
use Rattle.std.specs.Prelude.{ℕ, ◌+◌, ◌≡◌, ◌≢◌, ◌<◌, ◌≤◌, ◌⊎◌, true, false, ◌&&◌, nat_lt, if◌then◌else◌, List, [], ◌++◌}
use Rattle.std.specs.Prelude.{None, is_none, Result, Ok, Err, codes, length, take}
use Rattle.std.specs.List.{flat_map}
use Rattle.std.specs.Fmt.{decimal}
use Rattle.cpg_history.specs.Fetch.{Fetch}
use Rattle.cpg_io.specs.Sink.{TookPrefix}
use Rattle.cpg_head.specs.Head.{Head}
use Rattle.cpg_table.specs.Table.{NodeTable}
use Rattle.cpg_node.specs.Dispatcher.{Act}
use Rattle.cpg_live.specs.declared.lawless.LawlessRecord.{LawlessRecord}
use Rattle.cpg_live.specs.declared.lawless.Defect.{Defect}
use Rattle.cpg_live.specs.declared.lawless.Defect.TheVariants.{Length, Kind, Order, Frame, End}
use Rattle.cpg_live.specs.Stream.{LiveState, after, outcome}
use Rattle.cpg_label.specs.Labels.{head_labels}
use Rattle.cpg_label.specs.ItemText.{item_of, done_text}
use Rattle.cpg_live.specs.declared.following.StreamFault.{StreamFault}
use Rattle.cpg_live.specs.declared.following.StreamFault.TheVariants.{Lawless, Long}
use Rattle.cpg_live.specs.declared.following.TheConstants.{STREAM_LIMIT}

-- the line of an act: its time, and what is done
abbrev pub act_line : Head → Act → List ℕ
act_line h a = decimal a.time ++ codes " " ++ done_text (head_labels h) (item_of (head_labels h) a.item) ++ codes "\n"

-- the lines of several acts
abbrev pub act_lines : Head → List Act → List ℕ
act_lines h acts = flat_map (act_line h) acts

-- the line of a close
abbrev pub closed_line : ℕ → List ℕ
closed_line time = codes "closed " ++ decimal time ++ codes "\n"

-- the word for what is wrong with a record
abbrev pub defect_text : Defect → List ℕ
defect_text Length = codes "length"
defect_text Kind = codes "kind"
defect_text Order = codes "order"
defect_text Frame = codes "frame"
defect_text End = codes "end"

-- why a stream is refused: the number of the refusal, and what is wrong
abbrev pub fault_text : StreamFault → List ℕ
fault_text (Lawless lawless) = codes "21 stream " ++ decimal lawless.index ++ codes " " ++ defect_text lawless.defect
fault_text Long = codes "16 long stream"

-- the line that says that a stream is refused, and why
abbrev pub fault_line : StreamFault → List ℕ
fault_line fault = codes "cpgc: refused " ++ fault_text fault ++ codes "\n"

-- what is read of a stream at most: the bytes of 16,777,216 records, and one more
abbrev pub read_part : List ℕ → List ℕ
read_part bytes = take (STREAM_LIMIT + 1) bytes

-- the end of a stream, by how its records end: a lawless record is the stream's fault
abbrev pub end_by : Result ℕ LawlessRecord → Result ℕ StreamFault
end_by (Ok time) = Ok time
end_by (Err lawless) = Err (Lawless lawless)

-- how a stream ends that ends in a state after `count` bytes; if no record is lawless, more than the limit are too many
abbrev pub end_of : LiveState → ℕ → Result ℕ StreamFault
end_of s count = if is_none s.lawless && nat_lt STREAM_LIMIT count then Err Long else end_by (outcome s)

-- how a stream of these bytes ends: the time of its close, or why it is refused
abbrev pub stream_end : NodeTable → List ℕ → Result ℕ StreamFault
stream_end table bytes = end_of (after table (read_part bytes)) (length (read_part bytes))

-- the line of a stream's close, by how the stream ends; nothing if it has none
abbrev pub close_of : Result ℕ StreamFault → List ℕ
close_of (Ok time) = closed_line time
close_of (Err fault) = []

-- all lines of a stream: those of the acts up to its first lawless record and, if it is lawful to its close, that of the
-- close
abbrev pub stream_lines : Head → NodeTable → List ℕ → List ℕ
stream_lines h table bytes =
    act_lines h (after table (read_part bytes)).progress.acts ++ close_of (stream_end table bytes)

-- a stream that was read to its end and is lawful to its close, at `time`; `lines` are all its lines
pub record IsClosed (h : Head) (table : NodeTable) (fetch : Fetch) (lines : List ℕ) : Type 0 where
  -- all bytes of the stream came, and no fault of the shelf
  pub ended : fetch.ended ≡ true
  pub sound : fetch.failed ≡ false
  -- there are no more bytes than the limit
  pub short : length fetch.given ≤ STREAM_LIMIT
  -- the time of the close
  pub time : ℕ
  -- the close is the last record, and has this time
  pub ends : stream_end table fetch.given ≡ Ok time
  -- these are all lines of the stream
  pub spelled : lines ≡ stream_lines h table fetch.given

-- a stream is too long: as many records as the limit allows are lawful, none of them is a close, and another byte came
pub record IsTooLong (table : NodeTable) (bytes : List ℕ) : Type 0 where
  -- more bytes came than the limit
  pub more : STREAM_LIMIT < length bytes
  -- no record within the limit is lawless
  pub lawful : (after table (read_part bytes)).lawless ≡ None
  -- 2^24 records of 14 bytes are as many bytes as the limit
  pub taken : (after table (read_part bytes)).taken ≡ 16777216
  -- and none is a close
  pub not_closed : (after table (read_part bytes)).closed ≡ false

-- A stream is refused because of the bytes that came; `lines` are all its lines. The bytes have a lawless record, are too
-- many, or are all that there are, without a close.
pub record IsRefused (h : Head) (table : NodeTable) (fetch : Fetch) (fault : StreamFault)
    (lines : List ℕ) : Type 0 where
  -- the shelf met no fault
  pub sound : fetch.failed ≡ false
  -- at most a byte more than the limit came
  pub few : length fetch.given ≤ STREAM_LIMIT + 1
  -- how the stream ends is a fault of its bytes
  pub ends : stream_end table fetch.given ≡ Err fault
  -- only a stream that is too long is refused as such
  pub long : fault ≡ Long → IsTooLong table fetch.given
  -- a stream without a lawless record that isn't too long is refused only at its end, as it has no close
  pub all : fault ≢ Long → (after table fetch.given).lawless ≡ None → fetch.ended ≡ true
  -- these are all its lines
  pub spelled : lines ≡ stream_lines h table fetch.given

-- the shelf met a fault; all records of the bytes that came before are lawful, and `lines` are the lines of their acts
pub record IsLawfulSoFar (h : Head) (table : NodeTable) (fetch : Fetch) (lines : List ℕ) : Type 0 where
  -- the shelf met a fault before the end
  pub failed : fetch.failed ≡ true
  -- no more bytes came than the limit
  pub few : length fetch.given ≤ STREAM_LIMIT
  -- no record of them is lawless
  pub lawful : (after table fetch.given).lawless ≡ None
  -- these are the lines of their acts
  pub spelled : lines ≡ act_lines h (after table fetch.given).progress.acts

-- of all lines of the bytes that came only a proper prefix was written. If the bytes haven't come to their end, it is one
-- of the acts' lines, without a part of the close's
pub record IsCutOff (h : Head) (table : NodeTable) (fetch : Fetch) (old new : List ℕ) : Type 0 where
  -- the shelf met no fault
  pub sound : fetch.failed ≡ false
  -- at most a byte more than the limit came
  pub few : length fetch.given ≤ STREAM_LIMIT + 1
  -- the sink had taken `old` before the stream, and has taken `new` now
  pub front : TookPrefix old new (stream_lines h table fetch.given)
  -- the bytes have come to their end, or it is a proper prefix of the acts' lines alone
  pub so_far : (fetch.ended ≡ true) ⊎ TookPrefix old new (act_lines h (after table fetch.given).progress.acts)
