-- A node that follows a stream of a shelf, piece by piece, and writes lines to a sink, `out`.
use Rattle.std.specs.Prelude.{ℕ, ◌≡◌, true, false, ◌+◌, ◌≤◌, List, ◌∷◌, None, Result, Ok, Err, MatchResult, length}
use Rattle.cpg_history.specs.Fetch.{Fetch, gave}
use Rattle.cpg_io.specs.Causes.{Rose}
use Rattle.cpg_io.specs.State.{ShelfState, SinkState}
use Rattle.cpg_io.specs.Sink.{Took, TookPrefix}
use Rattle.cpg_head.specs.Head.{Head}
use Rattle.cpg_table.specs.Table.{NodeTable}
use Rattle.cpg_live.specs.Stream.{after, outcome}
use Rattle.cpg_live.specs.Laws.{Feeds}
use Rattle.cpg_live.specs.declared.following.TheConstants.{STREAM_LIMIT}
use Rattle.cpg_live.specs.declared.following.Broken.{Broken}
use Rattle.cpg_live.specs.declared.following.Broken.TheVariants.{Shelf, Sink, Refused}
use Rattle.cpg_live.specs.declared.following.StreamFault.TheVariants.{Lawless, Long}
use Rattle.cpg_live.specs.Follower.{Follower}
use Rattle.cpg_live.specs.Streams.{act_lines, closed_line, IsClosed, IsRefused, IsLawfulSoFar, IsCutOff}

-- both followers are of the same node
pub record IsOfSame (old new : Follower) : Type 0 where
  -- they have the head of one pack
  pub head : new.head ≡ old.head
  -- and the table of one node
  pub table : new.table ≡ old.table

-- A piece of `count` bytes was read from the shelf, which notes it as given, and fed. The state of the node is that after
-- it, and at most a byte more than the limit has been read. `shelf` and `old` are before it, `rest` and `new` after it.
pub record TakesPiece (shelf rest : ShelfState) (old new : Follower) (count : ℕ) : Type 0 where
  -- the bytes of the piece
  pub piece : List ℕ
  -- it has `count` bytes
  pub long : length piece ≡ count
  -- the shelf notes that it gave the piece
  pub gave : rest.history ≡ gave piece shelf.history
  -- nothing else of the follower changes
  pub state : new ≡ record old { live = new.live; read = old.read + count }
  -- at most a byte more than the limit has been read
  pub few : new.read ≤ STREAM_LIMIT + 1
  -- the node took the bytes of the piece
  pub fed : Feeds old.live piece new.live

-- a piece was read and fed, which led from `old` to `fed`, and then the lines of all acts so far count as written
pub record TakesAndTells (shelf rest : ShelfState) (old new : Follower) : Type 0 where
  -- how many bytes the piece has
  pub count : ℕ
  -- the follower after the piece was fed
  pub fed : Follower
  -- the piece leads from the old follower to this one
  pub piece : TakesPiece shelf rest old fed count
  -- only the count of written acts changes then
  pub told : new ≡ record fed { told = length fed.live.progress.acts }

-- What a call for the next piece leaves of a follower, by its answer: if the shelf met a fault, it is as it was; else it
-- took the piece, and counts the lines as written (even if the sink met a fault). `shelf` and `old` are before the call,
-- `rest` and `new` after it.
abbrev pub IsLeftBy : Result ℕ Broken → ShelfState → ShelfState → Follower → Follower → Type 0
IsLeftBy (Err Shelf) shelf rest old new = new ≡ old
IsLeftBy other shelf rest old new = TakesAndTells shelf rest old new

-- A follower is along the stream of a name. The shelf's history has one fetch, of this name, more than `past`; what it
-- gave was fed and is lawful, and the lines of all acts were written: `out` had taken `start` before, and `now` after.
pub record IsAlong (name : List ℕ) (past history : List Fetch) (start now : List ℕ) (f : Follower) : Type 0 where
  -- the fetch that is going on
  pub fetch : Fetch
  -- it is of this name, without a fault so far, and the only one since `past`
  pub named : fetch.name ≡ name
  pub sound : fetch.failed ≡ false
  pub history_is : history ≡ fetch ∷ past
  -- all that it gave was read and fed, within the limit, and is lawful
  pub read : f.read ≡ length fetch.given
  pub few : f.read ≤ STREAM_LIMIT
  pub live : f.live ≡ after f.table fetch.given
  pub lawful : f.live.lawless ≡ None
  -- the lines of all acts are written
  pub all_told : f.told ≡ length f.live.progress.acts
  pub wrote : Took start now (act_lines f.head f.live.progress.acts)

-- a follower along a stream, after a piece of this many bytes; a piece of no bytes is the end of the stream
pub record IsAlongAt (count : ℕ) (name : List ℕ) (past history : List Fetch) (start now : List ℕ)
    (f : Follower) : Type 0 where
  -- the follower is along the stream
  pub along : IsAlong name past history start now f
  -- if the piece has no bytes, the fetch has come to the end of the stream
  pub end : count ≡ 0 → along.fetch.ended ≡ true

-- what a run sees of a stream and of `out`
pub record Stream : Type 0 where
  -- the fetch of the stream
  pub fetch : Fetch
  -- how many faults `out` had met before the stream, and after it
  pub faults_before : ℕ
  pub faults_after : ℕ
  -- the bytes that `out` had taken before the stream, and after it
  pub taken_before : List ℕ
  pub taken_after : List ℕ

-- the lines were written whole, and `out` met no fault
pub record AreWritten (s : Stream) (lines : List ℕ) : Type 0 where
  -- `out` met no fault
  pub faultless : s.faults_after ≡ s.faults_before
  -- it took the lines whole
  pub taken : Took s.taken_before s.taken_after lines

-- a stream is followed to its close, and all its lines, with that of the close, are written
abbrev pub Completes : Head → NodeTable → Stream → Type 0
Completes h table s = (lines : List ℕ) × IsClosed h table s.fetch lines × AreWritten s lines

-- a stream isn't followed to its close, and why: the shelf met a fault, `out` met one, or the stream is refused
abbrev pub Breaks : Head → NodeTable → Stream → Broken → Type 0
Breaks h table s Shelf = (lines : List ℕ) × IsLawfulSoFar h table s.fetch lines × AreWritten s lines
Breaks h table s Sink =
    Rose s.faults_before s.faults_after × IsCutOff h table s.fetch s.taken_before s.taken_after
Breaks h table s (Refused fault) = (lines : List ℕ) × IsRefused h table s.fetch fault lines × AreWritten s lines

-- a fact holds of the stream of this name, which was fetched once since `past`; `out` had taken `start` before it
pub record IsStreamed (Is : Stream → Type 0) (name : List ℕ) (past history : List Fetch) (start : List ℕ)
    (old new : SinkState) : Type 0 where
  -- the one fetch since `past`
  pub fetch : Fetch
  -- it is of this name, and the newest in the history
  pub named : fetch.name ≡ name
  pub history_is : history ≡ fetch ∷ past
  -- the fact holds of what the run sees of it
  pub is : Is (record {
    fetch = fetch;
    faults_before = old.faults;
    faults_after = new.faults;
    taken_before = start;
    taken_after = new.taken;
  })

-- What an answer says of any stream that the follower was along, whatever `out` had taken before it (`start`), its name,
-- and what had been fetched before (`past`): after Ok the given fact, after Err how the stream broke. `shelf` and `old` are
-- the shelf and `out` before the call, `rest` and `new` after it.
abbrev pub GoesOn : {T : Type 0} → Follower → ShelfState → ShelfState → SinkState → SinkState →
    (T → List ℕ → List ℕ → List Fetch → Type 0) → Result T Broken → Type 0
GoesOn f shelf rest old new Is result =
    (start name : List ℕ) (past : List Fetch) → IsAlong name past shelf.history start old.taken f →
    MatchResult result (λ x. Is x start name past)
    (λ broken. IsStreamed (λ s. Breaks f.head f.table s broken) name past rest.history start old new)

-- A stream without more bytes ends, by the answer: the line of its close is written; or `out` meets a fault on the way;
-- or the stream is lawless, and nothing is written. `faults` and `faults_after` are how many faults `out` had met before
-- and after, `taken` and `taken_after` the bytes that it had taken. The last two answers don't come.
abbrev pub Closes : Follower → ℕ → ℕ → List ℕ → List ℕ → Result Unit Broken → Type 0
Closes f faults faults_after taken taken_after (Ok done) = (time : ℕ) × (outcome f.live ≡ Ok time) ×
    Took taken taken_after (closed_line time) × (faults_after ≡ faults)
Closes f faults faults_after taken taken_after (Err Sink) = Rose faults faults_after ×
    ((time : ℕ) × (outcome f.live ≡ Ok time) × TookPrefix taken taken_after (closed_line time))
Closes f faults faults_after taken taken_after (Err (Refused (Lawless lawless))) =
    (outcome f.live ≡ Err lawless) × (taken_after ≡ taken) × (faults_after ≡ faults)
Closes f faults faults_after taken taken_after (Err (Refused Long)) = ⊥
Closes f faults faults_after taken taken_after (Err Shelf) = ⊥
