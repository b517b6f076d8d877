-- What contracts see of a shelf in memory.
use Rattle.std.specs.Prelude.{ℕ, ◌≡◌, ◌≢◌, ◌<◌, ◌≤◌, Bool, List, [], ◌∷◌, Option, Some, None, IfSome, length}
use Rattle.std.specs.Prelude.{slice_index_or, if◌then◌else◌}
use Rattle.std.specs.Str.{bytes_eq}
use Rattle.cpg_history.specs.Fetch.{Fetch}
use Rattle.cpg_io.specs.State.{ShelfState}

-- a file of a shelf in memory
pub record File : Type 0 where
  -- its name
  pub name : List ℕ
  -- the bytes that stand under the name
  pub bytes : List ℕ

-- a shelf in memory
pub record MemoryShelfState : Type 0 where
  -- the files; of several with one name, the first is the one that stands under it
  pub files : List File
  -- the bytes that are left of the fetched file; none if no file is fetched
  pub left : List ℕ
  -- how many of its bytes were read
  pub at : ℕ
  -- the count of faults
  pub faults : ℕ
  -- the number of the next call, counted from 0 over `fetch` and `read` together
  pub calls : ℕ
  -- the numbers of the calls that fail
  pub failing : List ℕ
  -- all fetches, newest first, with what each gave
  pub history : List Fetch

-- whether a file has the name
abbrev pub is_named : List ℕ → File → Bool
is_named name file = bytes_eq file.name name

-- the bytes of the first file with the name, or None if there is no such file
abbrev pub stands_in : List File → List ℕ → Option (List ℕ)
stands_in [] name = None
stands_in (file ∷ files) name = if is_named name file then Some file.bytes else stands_in files name

-- what the shelf reports as a `Shelf`: always what stands under names, and what is left
abbrev pub shelf_of : MemoryShelfState → ShelfState
shelf_of s = record { stands = stands_in s.files; left = Some s.left; faults = s.faults; history = s.history }

-- from `old` to `new` these bytes are put under the name, and what stands under other names is unchanged
pub record PutsUnder (old new : List File) (name bytes : List ℕ) : Type 0 where
  -- the name has these bytes
  pub there : stands_in new name ≡ Some bytes
  -- every other name has what it had
  pub others : (other : List ℕ) → other ≢ name → stands_in new other ≡ stands_in old other

-- the bytes of the file at a place, or none if no place is given
abbrev pub bytes_at : List File → Option ℕ → List ℕ
bytes_at files None = []
bytes_at files (Some place) = (slice_index_or files place (record { name = []; bytes = [] })).bytes

-- if a file is fetched, it is one of the files, and no more of its bytes were read than it has
abbrev pub GivesWithin : List File → Option ℕ → ℕ → Type 0
GivesWithin files fetched at =
    IfSome fetched (λ place. (place < length files) × (at ≤ length (bytes_at files (Some place))))
