-- How a stream ends, in terms of what the shelf reports of it.
use Rattle.std.specs.Prelude.{ℕ, ◌≡◌, ◌<◌, ◌≤◌, List, Option, None, IfSome, Ok, Err, length, take}
use Rattle.std.specs.Io.KnownBytes.{Appends}
use Rattle.cpg_io.specs.Causes.{Rose}
use Rattle.cpg_head.specs.Head.{Head}
use Rattle.cpg_table.specs.Table.{NodeTable}
use Rattle.cpg_live.specs.Stream.{after}
use Rattle.cpg_live.specs.Streams.{IsTooLong, act_lines, stream_end, stream_lines}
use Rattle.cpg_live.specs.declared.following.Broken.{Broken}
use Rattle.cpg_live.specs.declared.following.Broken.TheVariants.{Shelf, Sink, Refused}
use Rattle.cpg_live.specs.declared.following.StreamFault.{StreamFault}
use Rattle.cpg_live.specs.declared.following.StreamFault.TheVariants.{Long}
use Rattle.cpg_live.specs.declared.following.TheConstants.{STREAM_LIMIT}
use Rattle.cpg_shelf_laws.specs.Sinks.{TookPrefix}

-- if the shelf reports the bytes of a file, they are these
abbrev pub AreBytesOf : Option (List ℕ) → List ℕ → Type 0
AreBytesOf told bytes = IfSome told (λ whole. bytes ≡ whole)

-- a stream is lawful to its close, and these are all its lines
pub record IsClosed (h : Head) (table : NodeTable) (told : Option (List ℕ)) (lines : List ℕ) : Type 0 where
  pub bytes : List ℕ
  -- the bytes are the stream's, if these are known
  pub of : AreBytesOf told bytes
  pub time : ℕ
  -- the stream is lawful and has its close at this time
  pub ends : stream_end table bytes ≡ Ok time
  pub spelled : lines ≡ stream_lines h table bytes

-- a stream is rejected, and these are the lines of the lawful records before the place of the fault
pub record IsRefused (h : Head) (table : NodeTable) (told : Option (List ℕ)) (fault : StreamFault)
    (lines : List ℕ) : Type 0 where
  -- the bytes that were read
  pub bytes : List ℕ
  -- the bytes are the stream's, if these are known
  pub of : AreBytesOf told bytes
  -- the stream ends with this fault
  pub ends : stream_end table bytes ≡ Err fault
  -- the fault `Long` says that all bytes up to the limit are lawful, have no close, and at least one byte more came
  pub long : fault ≡ Long → IsTooLong table bytes
  -- the lines are those of the records before it
  pub spelled : lines ≡ stream_lines h table bytes

-- the records in the first bytes of a stream, as many as the shelf gave, are all lawful, and these are their lines
pub record IsLawfulSoFar (h : Head) (table : NodeTable) (told : Option (List ℕ)) (given : ℕ)
    (lines : List ℕ) : Type 0 where
  -- the bytes that the shelf gave
  pub bytes : List ℕ
  pub count : given ≡ length bytes
  -- if the whole stream is known, the bytes are its first ones
  pub first : IfSome told (λ whole. bytes ≡ take given whole)
  -- no record in these bytes is lawless
  pub lawful : (after table bytes).lawless ≡ None
  -- the lines are those of the acts after these bytes
  pub spelled : lines ≡ act_lines h (after table bytes).progress.acts

-- only a proper prefix of all lines of a stream was written
pub record IsCutOff (h : Head) (table : NodeTable) (told old new : Option (List ℕ)) : Type 0 where
  pub bytes : List ℕ
  -- the bytes are the stream's, if these are known
  pub of : AreBytesOf told bytes
  -- `out` took a proper prefix of the lines
  pub front : TookPrefix old new (stream_lines h table bytes)

-- what a run sees of a stream, of the shelf and of `out`
pub record Stream : Type 0 where
  -- the bytes of the stream, if they are known
  pub told : Option (List ℕ)
  -- how many bytes the shelf gave
  pub given : ℕ
  -- the counts of faults of the shelf and of `out`, before and after the run
  pub shelf_before : ℕ
  pub shelf_now : ℕ
  pub out_before : ℕ
  pub out_now : ℕ
  -- what `out` had taken before the run, and after it
  pub old : Option (List ℕ)
  pub new : Option (List ℕ)

-- a stream is followed to its close: all its lines are written, and no more bytes were given than the limit
abbrev pub Completes : Head → NodeTable → Stream → Type 0
Completes h table r =
    (lines : List ℕ) × IsClosed h table r.told lines × Appends r.old r.new lines × (r.given ≤ STREAM_LIMIT)

-- A stream isn't followed to its close: the shelf met a fault, `out` met one, or the stream is rejected. It is too long
-- only if more bytes were given than the limit.
abbrev pub Breaks : Head → NodeTable → Stream → Broken → Type 0
Breaks h table r Shelf = Rose r.shelf_before r.shelf_now ×
    ((lines : List ℕ) × IsLawfulSoFar h table r.told r.given lines × Appends r.old r.new lines)
Breaks h table r Sink = Rose r.out_before r.out_now × IsCutOff h table r.told r.old r.new
Breaks h table r (Refused fault) = (lines : List ℕ) × IsRefused h table r.told fault lines × Appends r.old r.new lines ×
    (fault ≡ Long → STREAM_LIMIT < r.given)
