-- How a reader in code agrees with the reader of the grammar: it gives the same value or fails at the same byte, unless
-- memory runs out.
use Rattle.std.specs.Prelude.{◌≡◌, ℕ, Result, Ok, Err}
use Rattle.cpg_table.specs.Lawful.{Tables}
use Rattle.cpg_codec.specs.declared.fault.PackFault.{PackFault}
use Rattle.cpg_codec.specs.declared.fault.PackFault.TheVariants as faults
use Rattle.cpg_codec.specs.declared.fault.ReadError.{ReadError}
use Rattle.cpg_codec.specs.declared.fault.ReadError.TheVariants as errors

-- a reader in code fails: the grammar fails with the same number of bytes left, or memory ran out, which says nothing
abbrev pub Fails : {Y : Type 0} → ReadError → Result Y ℕ → Type 0
Fails errors.Memory read = Unit {0}
Fails (errors.Left n) read = read ≡ Err n

-- a reader in code gives x, and the grammar gives `view x`, which is x as the grammar has it; or the code fails as in
-- `Fails`
abbrev pub Gives : {X Y : Type 0} → (X → Y) → Result X ReadError → Result Y ℕ → Type 0
Gives view (Ok x) read = read ≡ Ok (view x)
Gives view (Err e) read = Fails e read

-- a reader of a whole pack gives the tables that the grammar gives, or the same place of the first bad byte, unless
-- memory runs out
abbrev pub Answers : Result Tables PackFault → Result Tables ℕ → Type 0
Answers (Ok t) read = read ≡ Ok t
Answers (Err (faults.BadPack n)) read = read ≡ Err n
Answers (Err faults.OutOfMemory) read = Unit {0}

-- if the result is `BadPack`, P holds of its number
abbrev pub OnBadPack : {X : Type 0} → Result X PackFault → (ℕ → Type 0) → Type 0
OnBadPack (Ok x) P = Unit {0}
OnBadPack (Err (faults.BadPack n)) P = P n
OnBadPack (Err faults.OutOfMemory) P = Unit {0}

-- P holds of what was read, or memory ran out; the result is no `BadPack`
abbrev pub UnlessMemory : {X : Type 0} → Result X PackFault → (X → Type 0) → Type 0
UnlessMemory (Ok x) P = P x
UnlessMemory (Err (faults.BadPack n)) P = ⊥
UnlessMemory (Err faults.OutOfMemory) P = Unit {0}
