-- Loops of `processes_are_named`: the names of these processes are well-formed.
use Rattle.std.proofs.Common.{All, take}
use Rattle.cpg_base.specs.Name.{IsName}
use Rattle.cpg_codec.proofs.lawful.processes_are_named.Given as goal

-- each process so far has a well-formed name
abbrev pub invariant-loop-process : goal.invariant-loop-process
invariant-loop-process l = All (λ p. IsName p.name) (take l.process-index l.processes)
