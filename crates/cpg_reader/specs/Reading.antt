-- Reading, step by step. Each step gives a value or rejects the document.
use Rattle.std.specs.Prelude.{◌≡◌, ℕ, ◌+◌, List, [], ◌∷◌, Result, Ok, Err}
use Rattle.cpg_reader.specs.declared.place.ReadFault.{ReadFault}
use Rattle.cpg_reader.specs.declared.place.ReadFault.TheVariants.{NotToml, BadField, DoubleName, UnknownName, OverLimit}
use Rattle.cpg_reader.specs.declared.place.ReadFault.TheVariants.{OutOfMemory}

-- what a step gives: a value, or the reason to refuse the document
abbrev pub Reading : Type 0 → Type 0
Reading T = Result T ReadFault

-- a step that gives a value
abbrev pub pure : {T : Type 0} → T → Reading T
pure x = Ok x

-- a step that gives nothing but its success
abbrev pub done : Reading (Unit {0})
done = Ok tt

-- a step and the next one, which isn't taken if the first rejects the document
infixl 10 ◌>>=◌
abbrev pub ◌>>=◌ : {T U : Type 0} → Reading T → (T → Reading U) → Reading U
(Ok x >>= next) = next x
(Err fault >>= next) = Err fault

-- a step and then the next, which doesn't need the value of the first; if the first fails, the whole does
infixl 10 ◌>>◌
abbrev pub ◌>>◌ : {T U : Type 0} → Reading T → Reading U → Reading U
(Ok x >> next) = next
(Err fault >> next) = Err fault

-- the values that a step gives for the elements, each with its index; the first element has the index i
abbrev pub each : {T U : Type 0} → (ℕ → T → Reading U) → ℕ → List T → Reading (List U)
each step i [] = pure []
each step i (x ∷ xs) = do
  y ← step i x
  ys ← each step (i + 1) xs
  pure (y ∷ ys)

-- Code may fail with this fault: the document is refused for it. `OutOfMemory` is always allowed.
abbrev pub Refuses : {T : Type 0} → ReadFault → Reading T → Type 0
Refuses NotToml reading = reading ≡ Err NotToml
Refuses (BadField place) reading = reading ≡ Err (BadField place)
Refuses (DoubleName place) reading = reading ≡ Err (DoubleName place)
Refuses (UnknownName place) reading = reading ≡ Err (UnknownName place)
Refuses (OverLimit what) reading = reading ≡ Err (OverLimit what)
Refuses OutOfMemory reading = Unit {0}

-- a result of code, whose value is seen through `view`, is what reading gives or refuses, or is `OutOfMemory`
abbrev pub Gives : {S T : Type 0} → (S → T) → Reading S → Reading T → Type 0
Gives view (Ok x) reading = reading ≡ Ok (view x)
Gives view (Err fault) reading = Refuses fault reading
