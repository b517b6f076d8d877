-- A node of a pack on a stream: what it is of, its state, and how much it has read and written.
use Rattle.std.specs.Prelude.{ℕ}
use Rattle.cpg_head.specs.Head.{Head}
use Rattle.cpg_table.specs.Table.{NodeTable}
use Rattle.cpg_live.specs.Stream.{LiveState, open_stream}

-- the head of a pack, the table of a node, its state on the stream, and how much it has written and been fed
pub record Follower : Type 0 where
  -- the head of the pack
  pub head : Head
  -- the node's table
  pub table : NodeTable
  -- its state on the stream
  pub live : LiveState
  -- how many of the node's acts have been written
  pub told : ℕ
  -- how many bytes have been fed
  pub read : ℕ

-- a follower before the first byte of its stream
abbrev pub open_follower : Head → NodeTable → Follower
open_follower h table = record { head = h; table = table; live = open_stream table; told = 0; read = 0 }
