-- Loops of `own_of`: the node's own process with this number, if there is one.
use Rattle.std.proofs.Common.{◌≡◌, [], ◌==◌, None, filter, drop, get_or}
use Rattle.cpg_table.specs.declared.own.Own.{Own}
use Rattle.cpg_node.proofs.own.own_of.Given as goal

-- no process so far is the one that is looked for, so it is found among those left, or the default is
abbrev pub invariant-loop-own : goal.invariant-loop-own
invariant-loop-own l = get_or (filter (λ (o : Own). o.process == l.process) l.table.own) 0
    (record { process = 0; condition = None; times = [] }) ≡ get_or
    (filter (λ (o : Own). o.process == l.process) (drop l.own-index l.own-items)) 0
    (record { process = 0; condition = None; times = [] })
