-- What a sink takes of the bytes that are written to it.
use Rattle.std.specs.Prelude.{ℕ, ◌≡◌, ◌<◌, List, ◌++◌, Result, MatchResult, length, take}

-- from `old` to `new` the sink took just these bytes, after those that it took before
abbrev pub Took : List ℕ → List ℕ → List ℕ → Type 0
Took old new bytes = new ≡ old ++ bytes

-- the sink took as many bytes from the front of the piece as the write answered, or none if the write failed
abbrev pub WriteTook : {E : Type 0} → List ℕ → List ℕ → Result ℕ E → List ℕ → Type 0
WriteTook old new result piece = MatchResult result (λ n. Took old new (take n piece)) (λ _. new ≡ old)

-- the sink took a proper prefix of the piece
abbrev pub TookPrefix : List ℕ → List ℕ → List ℕ → Type 0
TookPrefix old new piece = (n : ℕ) × (n < length piece) × Took old new (take n piece)
