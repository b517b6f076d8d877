-- What a piece of a stream does: it doesn't matter how the stream is cut, and acts are only added.
use Rattle.std.specs.Prelude.{ℕ, ◌≡◌, List, ◌++◌}
use Rattle.cpg_table.specs.Table.{NodeTable}
use Rattle.cpg_node.specs.Dispatcher.{Act}
use Rattle.cpg_live.specs.Stream.{LiveState, after}

-- if `before` is the state after some bytes, `now` is the state after these and the piece
abbrev pub Feeds : LiveState → List ℕ → LiveState → Type 0
Feeds before piece now =
    (table : NodeTable) (fed : List ℕ) → before ≡ after table fed → now ≡ after table (fed ++ piece)

-- `now` has the acts of `before`, and perhaps more after them
abbrev pub Grows : List Act → List Act → Type 0
Grows before now = (more : List Act) × (now ≡ before ++ more)
