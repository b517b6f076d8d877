-- A place that is among some places is among more.
use Rattle.std.proofs.Common.{ℕ, List, Option, Some, None, Contains}
use Rattle.cpg_row_trees.specs.Places.{IsAmong}

-- a place that is among some places is among more of them
pub among_more : (xs ys : List ℕ) → ((i : ℕ) → Contains xs i → Contains ys i) → (o : Option ℕ) → IsAmong xs o →
    IsAmong ys o
among_more xs ys more None h = h
among_more xs ys more (Some i) h = more i h
