-- A piece is read of the fetch before.
use Rattle.std.proofs.Common.{ℕ, ◌+◌, ◌<◌, ◌≡◌, ◌∙◌, ◌||◌, true, false, List, [], ◌∷◌, ◌++◌, Option, Some, None, ap, ap₂, arith}
use Rattle.std.proofs.Common.{drop, take, length, length-append, refl, subst, sym}
use Rattle.std.specs.Prelude.{Result, Ok, Err, IfSome}
use Rattle.std.specs.Io.KnownBytes.{Consumes}
use Rattle.std.proofs.KnownBytes.{Consumes-trans}
use Rattle.std.proofs.lemmas.List.{take-append-drop}
use Rattle.cpg_history.specs.Fetch.{Fetch, failed, gave, is_none}
use Rattle.cpg_io.specs.Reading.{GivesPiece, ReadsOn}
use Rattle.cpg_io.specs.declared.reading.ReadAll.{ReadAll}
use Rattle.cpg_io.specs.declared.reading.ReadAll.TheVariants.{Failed, TooLong, OutOfMemory}

-- if the history `mid` has one fetch before the past, so has the history after a piece, as the piece belongs to that fetch
gave_more : (piece : List ℕ) (past now mid : List Fetch) (f : Fetch) → mid ≡ f ∷ past → now ≡ gave piece mid →
    (one : Fetch) × (now ≡ one ∷ past)
gave_more piece past now mid f is more = (
  record { name = f.name; given = f.given ++ piece; ended = is_none piece || f.ended; failed = f.failed },
  more ∙ ap (gave piece) is,
)

-- after a call of `read_piece` the history has the same one fetch more: by the result of the call, a piece was given in each
-- case but `Failed`, which marks the fetch
pub one_fetch : (limit : ℕ) (past now mid : List Fetch) (f : Fetch) → mid ≡ f ∷ past →
    (old new : List ℕ) (result : Result ℕ ReadAll) → GivesPiece limit mid now old new result → (one : Fetch) ×
    (now ≡ one ∷ past)
one_fetch limit past now mid f is old new (Ok n) given = gave_more (drop (length old) new) past now mid f is given
one_fetch limit past now mid f is old new (Err Failed) given = (record f { failed = true }, given ∙ ap failed is)
one_fetch limit past now mid f is old new (Err TooLong) given = gave_more given.2.piece past now mid f is given.2.gave
one_fetch limit past now mid f is old new (Err OutOfMemory) given =
    gave_more given.2.piece past now mid f is given.2.gave

-- the bytes read before and the piece are all that is read
joined : (left left' : Option (List ℕ)) (old new : List ℕ) (n : ℕ) → ReadsOn left left' old new n →
    old ++ drop (length old) new ≡ new
joined left left' old new n read =
    ap (λ (t : List ℕ). t ++ drop (length old) new) (sym read.kept) ∙ take-append-drop (length old) new

-- what was read and what is left are still the whole, if a piece more is read
pub read_on : (stands left left' : Option (List ℕ)) (old new : List ℕ) (n : ℕ) →
    IfSome stands (λ whole. Consumes (Some whole) left old) → ReadsOn left left' old new n →
    IfSome stands (λ whole. Consumes (Some whole) left' new)
read_on None left left' old new n came read = tt
read_on (Some whole) left left' old new n came read =
    subst (λ (bs : List ℕ). Consumes (Some whole) left' bs) (joined left left' old new n read)
    (Consumes-trans (Some whole) left left' old (drop (length old) new) came read.taken)

-- a piece of at least one byte isn't found to be empty
some_bytes : (piece : List ℕ) → 0 < length piece → is_none piece ≡ false
some_bytes [] some = absurd (omega (arith, some))
some_bytes (x ∷ xs) some = refl

-- if n more bytes are read, at least one, the newest fetch has given all bytes that were read
pub given_on : (name : List ℕ) (left left' : Option (List ℕ)) (past mid now : List Fetch) (old new : List ℕ) (n : ℕ) →
    mid ≡ record { name = name; given = old; ended = false; failed = false } ∷ past →
    ReadsOn left left' old new n → now ≡ gave (drop (length old) new) mid → 0 < n →
    now ≡ record { name = name; given = new; ended = false; failed = false } ∷ past
given_on name left left' past mid now old new n before read more some =
    let piece = drop (length old) new in
    let both = joined left left' old new n read in
    let count : 0 < length piece = omega (arith, some, read.long, length-append old piece, ap length both) in
    more ∙ ap (gave piece) before
    ∙ ap₂ (λ bs e. record { name = name; given = bs; ended = e || false; failed = false } ∷ past) both
    (some_bytes piece count)
