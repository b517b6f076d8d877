-- Loops of `processes_are_named`, which says in its contract that the names of these processes are lawful.
use Rattle.std.proofs.Common.{All, take}
use Rattle.cpg_base.specs.Name.{IsName}
use Rattle.cpg_app.proofs.heads.processes_are_named.Given as goal

-- the name of each process so far is lawful
abbrev pub invariant-loop-process : goal.invariant-loop-process
invariant-loop-process l = All (λ p. IsName p.name) (take l.process-index l.processes)
