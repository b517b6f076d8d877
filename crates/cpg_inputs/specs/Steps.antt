-- The steps of reading, one file each.
use Rattle.std.specs.Prelude.{◌≡◌, ◌⊎◌, List, ◌∷◌, Option}
use Rattle.cpg_base.specs.Graph.{Graph}
use Rattle.cpg_history.specs.Fetch.{Fetch}
use Rattle.cpg_words.specs.Parts.{Text}
use Rattle.cpg_refusal.specs.declared.halt.Halt.{Halt}
use Rattle.cpg_refusal.specs.declared.halt.Halt.TheVariants.{Memory}
use Rattle.cpg_inputs.specs.Files.{File}
use Rattle.cpg_inputs.specs.Says.{Value, AreFaulty, AreOfNone}
use Rattle.cpg_inputs.specs.Reading.{IsRead, IsUnread, IsLong, IsWanting, IsWhole, StopsAt}

-- the file was fetched next, was read whole, and gave these bytes
pub record Gives (file : File) (past now : List Fetch) (bytes : Text) : Type 0 where
  -- the fetch of the file
  pub fetch : Fetch
  -- it gave the whole file
  pub whole : IsWhole file fetch
  -- and these bytes
  pub given : fetch.given ≡ bytes
  -- the fetch is the newest of the later history
  pub history : now ≡ fetch ∷ past

-- the file was fetched next, and wasn't read whole: the shelf failed, it is too long, or memory ran out
pub record GivesNone (file : File) (past now : List Fetch) (halt : Halt) : Type 0 where
  -- the fetch of the file
  pub fetch : Fetch
  -- why the file wasn't read whole
  pub stops : IsUnread file fetch halt ⊎ (IsLong file fetch halt ⊎ IsWanting file fetch halt)
  -- the fetch is the newest of the later history
  pub history : now ≡ fetch ∷ past

-- the bytes say no graph that is admitted, or memory ran out
abbrev pub RefusesGraph : Text → Halt → Type 0
RefusesGraph bytes halt = (AreFaulty bytes halt ⊎ AreOfNone bytes halt) ⊎ (halt ≡ Memory)

-- the file was fetched next, was read whole, and says a value
pub record ReadsNext (g : Option Graph) (file : File) (past now : List Fetch) (value : Value) : Type 0 where
  -- the fetch of the file
  pub fetch : Fetch
  -- it gave the whole file, which says the value
  pub read : IsRead g file fetch value
  -- the fetch is the newest of the later history
  pub history : now ≡ fetch ∷ past

-- the file was fetched next, and stops the run with this halt
pub record StopsNext (g : Option Graph) (file : File) (past now : List Fetch) (halt : Halt) : Type 0 where
  -- the fetch of the file
  pub fetch : Fetch
  -- the file stops the run
  pub stops : StopsAt g file fetch halt
  -- the fetch is the newest of the later history
  pub history : now ≡ fetch ∷ past
