-- Loops of `past_tops`: returns, for each process, how far its top is past its due; `None` if it has none or isn't
-- past it.
use Rattle.std.proofs.Common.{◌≡◌, map, get_or, None}
use Rattle.cpg_base.specs.Duration.{due}
use Rattle.cpg_base.specs.Numbers.{numbers_below}
use Rattle.cpg_tree_columns.specs.Past.{time_past}
use Rattle.cpg_tree_columns.proofs.tops.past_tops.Given as goal

-- after each process, the list has how far the top of each process so far is past the due of its process
abbrev pub invariant-loop-process : goal.invariant-loop-process
invariant-loop-process l =
    l.past.items ≡ map (λ q. time_past (due l.problem q) (get_or l.tops q None)) (numbers_below l.process)
