-- What reading all that a shelf gives of a name promises.
use Rattle.std.specs.Prelude.{ℕ, ◌≡◌, ◌+◌, ◌≤◌, Bool, true, false, List, ◌∷◌, Option, Result, Ok, Err, length, take}
use Rattle.std.specs.Prelude.{drop}
use Rattle.std.specs.Io.KnownBytes.{Consumes, IsAtEnd}
use Rattle.cpg_history.specs.Fetch.{Fetch, gave, failed}
use Rattle.cpg_io.specs.declared.reading.ReadAll.{ReadAll}
use Rattle.cpg_io.specs.declared.reading.ReadAll.TheVariants.{Failed, TooLong, OutOfMemory}

-- the next n bytes of what was left were added to the bytes read so far; n is 0 only at the end
pub record ReadsOn (left left' : Option (List ℕ)) (old new : List ℕ) (n : ℕ) : Type 0 where
  -- n more bytes
  pub long : length new ≡ length old + n
  -- those read before are as they were
  pub kept : take (length old) new ≡ old
  -- the new ones are the first of what was left
  pub taken : Consumes left left' (drop (length old) new)
  -- if none came, nothing is left
  pub end : n ≡ 0 → IsAtEnd left'

-- the shelf gave a piece of `count` bytes, which isn't among the bytes that were read
pub record IsLost (past now : List Fetch) (count : ℕ) : Type 0 where
  -- the piece that the read gave
  pub piece : List ℕ
  -- the history notes it
  pub gave : now ≡ gave piece past
  -- it has `count` bytes
  pub long : length piece ≡ count

-- what one read of `read_piece` gave, by its result: the bytes that were added; nothing, as the shelf failed; a piece that
-- goes one byte past the limit; or a piece for which there is no memory
abbrev pub GivesPiece : ℕ → List Fetch → List Fetch → List ℕ → List ℕ → Result ℕ ReadAll → Type 0
GivesPiece limit past now old new (Ok n) = now ≡ gave (drop (length old) new) past
GivesPiece limit past now old new (Err Failed) = now ≡ failed past
GivesPiece limit past now old new (Err TooLong) = (n : ℕ) × (length old + n ≡ limit + 1) × IsLost past now n
GivesPiece limit past now old new (Err OutOfMemory) = (n : ℕ) × (length old + n ≤ limit) × IsLost past now n

-- the history has one fetch more, of the name, which gave these bytes; `fails` says whether it failed
pub record IsFetch (past now : List Fetch) (name given : List ℕ) (fails : Bool) : Type 0 where
  -- whether a read came to the end
  pub ended : Bool
  -- the history has this fetch more
  pub is : now ≡ record { name = name; given = given; ended = ended; failed = fails } ∷ past

-- the history has one fetch more, of the name, which gave these bytes to their end, at most as many as the limit
pub record IsReadWhole (past now : List Fetch) (name : List ℕ) (limit : ℕ) (bytes : List ℕ) : Type 0 where
  -- there are at most as many bytes as the limit
  pub short : length bytes ≤ limit
  -- the history has this fetch more, to the end of which these bytes were given
  pub is : now ≡ record { name = name; given = bytes; ended = true; failed = false } ∷ past

-- the history has one fetch more, of the name, which isn't read whole, by the error: it failed, gave one byte more than the
-- limit, or there is no memory for what it gave
abbrev pub IsReadInPart : List Fetch → List Fetch → List ℕ → ℕ → ReadAll → Type 0
IsReadInPart past now name limit Failed = (given : List ℕ) × (length given ≤ limit) × IsFetch past now name given true
IsReadInPart past now name limit TooLong =
    (given : List ℕ) × (length given ≡ limit + 1) × IsFetch past now name given false
IsReadInPart past now name limit OutOfMemory =
    (given : List ℕ) × (length given ≤ limit) × IsFetch past now name given false
