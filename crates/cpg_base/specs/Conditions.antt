-- Which processes have a condition, as it is found in one pass over the edges.
use Rattle.std.specs.Prelude.{ℕ, Bool, ◌&&◌, ◌==◌, List, is_some}
use Rattle.std.specs.List.{list_any}
use Rattle.cpg_base.specs.Graph.{Edge}

-- whether an edge leads away from a process and has a `when`
abbrev pub is_conditional_output : ℕ → Edge → Bool
is_conditional_output p e = (e.from == p) && is_some e.when

-- whether a process has a conditional output among these edges, which is to say, has a condition
abbrev pub has_conditional_output : List Edge → ℕ → Bool
has_conditional_output edges p = list_any (is_conditional_output p) edges
