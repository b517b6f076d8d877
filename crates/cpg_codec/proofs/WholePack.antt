-- What the answer of a reader of packs in code says of the bytes, if it agrees with the grammar (`Answers`).
use Rattle.std.proofs.Common.{◌≡◌, ℕ, List, Result, Ok, Err, ap, ◌∙◌}
use Rattle.std.specs.Prelude.{IfOk}
use Rattle.cpg_table.specs.Lawful.{Tables}
use Rattle.cpg_codec.specs.Spelling.{spelling}
use Rattle.cpg_codec.specs.Grammar.{read}
use Rattle.cpg_codec.specs.Packs.{AreLawful, IsBadPack}
use Rattle.cpg_codec.specs.Gives.{Answers, OnBadPack, UnlessMemory}
use Rattle.cpg_codec.specs.declared.fault.PackFault.{PackFault}
use Rattle.cpg_codec.specs.declared.fault.PackFault.TheVariants as faults
use Rattle.cpg_codec.proofs.Theorems.{read_is_spelled, spelled_is_read, refused_is_bad}

-- tables that it answers are lawful, and the bytes are their spelling
pub found : (bytes : List ℕ) (r : Result Tables PackFault) → Answers r (read bytes) →
    IfOk r (λ t. AreLawful t × (bytes ≡ spelling t))
found bytes (Ok t) answers = read_is_spelled bytes t answers
found bytes (Err e) answers = tt

-- a result has one value
same : (t u : Tables) (r : Result Tables ℕ) → r ≡ Ok u → r ≡ Ok t → u ≡ t
same t u r is_ok f = cc

-- a result isn't both an error and a value
not_both : (t : Tables) (n : ℕ) (r : Result Tables ℕ) → r ≡ Err n → r ≡ Ok t → ⊥
not_both t n r is_err is_ok = cc

-- if the bytes spell lawful tables, it answers these, unless memory runs out
pub only : (bytes : List ℕ) (r : Result Tables PackFault) → Answers r (read bytes) → (t : Tables) → AreLawful t →
    bytes ≡ spelling t →
    UnlessMemory r (λ u. u ≡ t)
only bytes (Ok u) answers t are_lawful e = same t u (read bytes) answers (ap read e ∙ spelled_is_read t are_lawful)
only bytes (Err (faults.BadPack n)) answers t are_lawful same =
    not_both t n (read bytes) answers (ap read same ∙ spelled_is_read t are_lawful)
only bytes (Err faults.OutOfMemory) answers t are_lawful same = tt

-- the number of `BadPack` is the length of the longest prefix that begins some pack
pub bad : (bytes : List ℕ) (r : Result Tables PackFault) → Answers r (read bytes) → OnBadPack r (IsBadPack bytes)
bad bytes (Ok t) answers = tt
bad bytes (Err (faults.BadPack n)) answers = refused_is_bad bytes n answers
bad bytes (Err faults.OutOfMemory) answers = tt
