-- What a run has read: its files one after another, each fetched once, in the order of the words. A shelf's history is
-- all its fetches, the newest first.
use Rattle.std.specs.Prelude.{◌≡◌, ◌≤◌, ◌+◌, ◌⊎◌, true, false, All, List, [], ◌∷◌, ◌++◌, Option, length}
use Rattle.cpg_base.specs.Graph.{Graph}
use Rattle.cpg_history.specs.Fetch.{Fetch}
use Rattle.cpg_refusal.specs.declared.halt.Halt.{Halt}
use Rattle.cpg_refusal.specs.declared.halt.Halt.TheVariants.{Read, Refused, Memory}
use Rattle.cpg_inputs.specs.Files.{File, limit_of, long_of}
use Rattle.cpg_inputs.specs.Says.{Value, graph_after, Says, Refuses}

-- the fetch is of this file
pub record IsFetchOf (file : File) (fetch : Fetch) : Type 0 where
  -- it was made with the file's name
  pub named : fetch.name ≡ file.name

-- the fetch gave the whole file, within its limit
pub record IsWhole (file : File) (fetch : Fetch) : Type 0 where
  -- it was made with the file's name
  pub named : fetch.name ≡ file.name
  -- it came to the end of the file
  pub ended : fetch.ended ≡ true
  -- the shelf met no fault in it
  pub sound : fetch.failed ≡ false
  -- it has no more bytes than a file of its kind may have
  pub short : length fetch.given ≤ limit_of file.kind

-- the fetch gave the whole file, and its bytes say the value; `g` is the graph that was read before, if any
pub record IsRead (g : Option Graph) (file : File) (fetch : Fetch) (value : Value) : Type 0 where
  -- the fetch gave the whole file
  pub whole : IsWhole file fetch
  -- its bytes say the value
  pub says : Says g file.kind fetch.given value

-- the shelf failed in fetching or reading the file, before it gave more than the limit
pub record IsUnread (file : File) (fetch : Fetch) (halt : Halt) : Type 0 where
  -- the fetch is of the file
  pub of : IsFetchOf file fetch
  -- it gave no more bytes than the limit
  pub few : length fetch.given ≤ limit_of file.kind
  -- the shelf met a fault in it
  pub failed : fetch.failed ≡ true
  pub halt_is : halt ≡ Read

-- the file gave one byte more than the limit, and no more was read
pub record IsLong (file : File) (fetch : Fetch) (halt : Halt) : Type 0 where
  -- the fetch is of the file
  pub of : IsFetchOf file fetch
  -- the shelf met no fault in it
  pub sound : fetch.failed ≡ false
  -- one byte more than the limit shows that the file is too long
  pub over : length fetch.given ≡ limit_of file.kind + 1
  pub halt_is : halt ≡ Refused (long_of file.kind)

-- the file was read whole, and its bytes are rejected for this halt
pub record IsRefused (g : Option Graph) (file : File) (fetch : Fetch) (halt : Halt) : Type 0 where
  -- the fetch gave the whole file
  pub whole : IsWhole file fetch
  -- read as a file of its kind, the bytes give this halt
  pub refuses : Refuses g file.kind fetch.given halt

-- memory ran out in reading the file; the shelf met no fault, and gave at most a byte more than the limit
pub record IsWanting (file : File) (fetch : Fetch) (halt : Halt) : Type 0 where
  -- the fetch is of the file
  pub of : IsFetchOf file fetch
  -- the shelf met no fault in it
  pub sound : fetch.failed ≡ false
  -- it gave at most a byte more than the limit
  pub few : length fetch.given ≤ limit_of file.kind + 1
  pub halt_is : halt ≡ Memory

-- a file stops a run with this halt: the shelf failed, it is too long or rejected, or memory ran out
abbrev pub StopsAt : Option Graph → File → Fetch → Halt → Type 0
StopsAt g file fetch halt =
    IsUnread file fetch halt ⊎ (IsLong file fetch halt ⊎ (IsRefused g file fetch halt ⊎ IsWanting file fetch halt))

-- all files were read, in order, and say these values; nothing else was fetched. `past` and `now` are the histories
-- before and after, and `g` is the graph that was read before, if any.
abbrev pub Reads : Option Graph → List File → List Fetch → List Fetch → List Value → Type 0
Reads g [] past now [] = now ≡ past
Reads g [] past now (value ∷ values) = ⊥
Reads g (file ∷ files) past now [] = ⊥
Reads g (file ∷ files) past now (value ∷ values) =
    (fetch : Fetch) × IsRead g file fetch value × Reads (graph_after g value) files (fetch ∷ past) now values

-- one of the files stops the run with this halt: every earlier file was read, and none was fetched after it
abbrev pub StopsReading : Option Graph → List File → List Fetch → List Fetch → Halt → Type 0
StopsReading g [] past now halt = ⊥
StopsReading g (file ∷ files) past now halt = (fetch : Fetch)
    × ((StopsAt g file fetch halt × (now ≡ fetch ∷ past)) ⊎ ((value : Value) × IsRead g file fetch value ×
    StopsReading (graph_after g value) files (fetch ∷ past) now halt))

-- from one history to a later one none of the fetches failed
pub record AreSound (past now : List Fetch) : Type 0 where
  -- the fetches between the two histories, the newest first
  pub fetches : List Fetch
  -- they lead from the one history to the other
  pub history : now ≡ fetches ++ past
  -- none of them failed
  pub sound : All (λ fetch. fetch.failed ≡ false) fetches
