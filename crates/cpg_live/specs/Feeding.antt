-- A stream that is taken byte by byte, as the code does it, and the turns that a live node takes on it.
use Rattle.std.specs.Prelude.{ℕ, ◌≡◌, ◌≤◌, ◌+◌, ◌==◌, if◌then◌else◌, List, [], ◌∷◌, ◌++◌, IfSome, is_some, fold, length}
use Rattle.cpg_node.specs.Dispatcher.{Dispatcher, next}
use Rattle.cpg_node.specs.Instants.{instants_left}
use Rattle.cpg_live.specs.declared.lawless.Defect.TheVariants.{Length}
use Rattle.cpg_live.specs.Stream.{LiveState, NodeProgress, turns_below, refused, take_record}

-- the state after a byte of a lawful stream without a close; `rest` are the bytes of its record so far, with this one. The
-- 14th completes the record, which is taken
abbrev pub take_open : LiveState → List ℕ → LiveState
take_open s rest = if length rest == 14 then take_record (record s { rest = [] }) rest else record s { rest = rest }

-- the state after one more byte: after a lawless record nothing changes, and a byte after the close is lawless
abbrev pub take_byte : LiveState → ℕ → LiveState
take_byte s byte =
    if is_some s.lawless then s else if s.closed then refused s Length else take_open s (s.rest ++ byte ∷ [])

-- the state after more bytes
abbrev pub take_bytes : LiveState → List ℕ → LiveState
take_bytes s bytes = fold take_byte s bytes

-- all turns before a time have been taken: the next instant, if there is one, isn't before it
abbrev pub IsTurned : Dispatcher → ℕ → Type 0
IsTurned d time = IfSome (next d) (λ instant. time ≤ instant)

-- Turns at instants below a limit lead from one state of a node to another, and with each of them at least one instant
-- that the node could come to is gone. So there are no more turns than such instants, which the entries of its table
-- bound.
pub record AreFewTurns (limit : ℕ) (before after : NodeProgress) : Type 0 where
  -- how many turns
  pub turns : ℕ
  -- each of them used up at least one instant
  pub few : turns + instants_left after.dispatcher ≤ instants_left before.dispatcher
  -- so many turns lead from the one state to the other
  pub is : after ≡ turns_below turns limit before
