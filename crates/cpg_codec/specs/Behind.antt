-- The part of a head after the names of the nodes.
use Rattle.std.specs.Prelude.{ℕ, List}
use Rattle.cpg_base.specs.declared.limits.TheConstants.{MOST_PROCESSES, MOST_EDGES}
use Rattle.cpg_head.specs.Head.{Head}
use Rattle.cpg_codec.specs.Reading.{Reader, pure, ◌>>=◌, read_number, within, read_repeated}
use Rattle.cpg_codec.specs.Grammar.{read_small, limit, read_processes, read_edge, head_from}

-- reads the processes and the edges, and gives the whole head: `version`, `faults`, `names` and how many `nodes` there
-- are were read before
unfoldable pub behind_names : ℕ → ℕ → ℕ → List (List ℕ) → Reader Head
behind_names version faults nodes names = do
  count ← read_small 0 (limit nodes MOST_PROCESSES)
  processes ← read_processes version faults nodes count
  ends ← read_number 2 (within 0 (limit count MOST_EDGES))
  edges ← read_repeated (read_edge count) ends
  pure (head_from version faults names processes edges)
