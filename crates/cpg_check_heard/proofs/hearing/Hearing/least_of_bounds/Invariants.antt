-- Loops of `Hearing::least_of_bounds`: the least scenario that a column matches and in which a node hasn't been told
-- one of these bounds by its time.
use Rattle.std.proofs.Common.{◌&&◌, take}
use Rattle.cpg_base.specs.First.{IsFirst}
use Rattle.cpg_cube.specs.Cube.{matches}
use Rattle.cpg_check_heard.specs.Unheard.{is_one_untold}
use Rattle.cpg_check_heard.proofs.hearing.Hearing.least_of_bounds.Given as goal

-- after each bound, `found` is the least scenario that the column matches and in which one of the bounds so far is
-- untold, and `None` if there is none
abbrev pub invariant-loop-bound : goal.invariant-loop-bound
invariant-loop-bound l = IsFirst l.self.admitted.now.graph l.self.admitted.now.order
    (λ s. matches l.column.cube s && is_one_untold l.self.admitted.now.graph l.self.tables.now.nodes l.node
    l.column.time (take l.bound-index l.bounds) s) l.found
