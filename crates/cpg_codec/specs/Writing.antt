-- What a buffer in front of a sink does with a piece. `before` and `after` are the bytes that the sink has taken before
-- and after the call; `held` and `left` are those in the buffer.
use Rattle.std.specs.Prelude.{◌≡◌, ◌<◌, ℕ, List, ◌++◌, Result, Ok, Err}
use Rattle.cpg_io.specs.Sink.{Took, TookPrefix}

-- of the held bytes and the piece after them the sink has taken a first part, `written`, and the buffer holds the rest
pub record IsPut (before after held left piece : List ℕ) : Type 0 where
  pub written : List ℕ
  -- the sink, which had taken `before`, has taken `after` by now
  pub taken : Took before after written
  -- nothing is lost, and nothing else is written
  pub same : held ++ piece ≡ written ++ left

-- after Ok the piece is put as in `IsPut`; after Err the sink has taken a proper prefix of the held bytes and the piece,
-- and nothing is said of the buffer
abbrev pub Puts : {E : Type 0} → List ℕ → List ℕ → List ℕ → List ℕ → Result Unit E → List ℕ → Type 0
Puts before after held left (Ok _) piece = IsPut before after held left piece
Puts before after held left (Err _) piece = TookPrefix before after (held ++ piece)

-- an edge whose ends fit a byte each
pub record IsShortEdge (e : ℕ × ℕ) : Type 0 where
  pub from : e.0 < 256
  pub to : e.1 < 256
