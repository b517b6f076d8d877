-- How the program ends without words.
use Rattle.std.specs.Prelude.{ℕ, ◌≡◌}
use Rattle.cpg_io.specs.State.{ShelfState, SinkState}
use Rattle.cpg_words.specs.declared.fault.WordsFault.{WordsFault}
use Rattle.cpg_refusal.specs.Halts.{halt_of_words}
use Rattle.cpg_refusal.specs.Lines.{line_of, status_of}
use Rattle.cpg_outputs.specs.Told.{Sent, sent}

-- A run without words, as its shelf and its two sinks show it, before the run and after it.
pub record EndsWithout (fault : WordsFault) (shelf shelf_after : ShelfState)
    (out out_after err err_after : SinkState) (status : ℕ) : Type 0 where
  -- nothing was fetched
  pub files : shelf_after ≡ shelf
  -- nothing was written to the first sink
  pub silent : out_after ≡ out
  -- the line of the fault was sent to the second sink, under the status of the fault
  pub said : Sent (sent err err_after) status (status_of (halt_of_words fault)) (line_of (halt_of_words fault))
