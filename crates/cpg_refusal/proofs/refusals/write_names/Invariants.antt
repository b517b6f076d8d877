-- Loops of `write_names`: writes the names of the processes of a walk, each after a space.
use Rattle.std.proofs.Common.{◌≡◌, ◌++◌, codes, drop, flat_map, string_bytes}
use Rattle.cpg_base.specs.Called.{name_of}
use Rattle.cpg_refusal.proofs.refusals.write_names.Given as goal

-- the text so far, followed by the names of the processes that are left, is the old text followed by the names of all
abbrev pub invariant-loop-process : goal.invariant-loop-process
invariant-loop-process l = string_bytes l.fn.out ++ flat_map (λ p. codes " " ++ name_of l.problem p) l.walk
    ≡ string_bytes l.out ++ flat_map (λ p. codes " " ++ name_of l.problem p)
    (drop l.process-index l.walk)
