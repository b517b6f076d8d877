-- Proof of `write_kind`: writes what a node did, without the time and the node.
use Rattle.std.proofs.Common.{subst, arith}
use Rattle.cpg_show.specs.TraceEvents.{IsKindWithin}
use Rattle.cpg_show.proofs.trace.write_kind.Goals as goal

-- the process that ended is one of the problem
pub write_outcome-requires : goal.write_outcome-requires
write_outcome-requires c = (subst (IsKindWithin c.args.problem.now) c.in-End.is c.requires.within).0

-- the process that ended is one of the problem
pub duration-full-requires-clause-process : goal.duration-full-requires-clause-process
duration-full-requires-clause-process c = (subst (IsKindWithin c.args.problem.now) c.in-End.is c.requires.within).0

-- its faults are no more than the problem has
pub duration-full-requires-clause-faults : goal.duration-full-requires-clause-faults
duration-full-requires-clause-faults c = (subst (IsKindWithin c.args.problem.now) c.in-End.is c.requires.within).1

-- there is a length for each process
pub length_of-requires : goal.length_of-requires
length_of-requires c =
    omega (arith, (subst (IsKindWithin c.args.problem.now) c.in-End.is c.requires.within).0, c.requires.lengths)

-- the process that started is an item of the problem
pub write_item-requires : goal.write_item-requires
write_item-requires c = omega (arith, subst (IsKindWithin c.args.problem.now) c.in-Start.is c.requires.within)

-- what was sent is an item of the problem
pub write_item-requires-in-Send : goal.write_item-requires-in-Send
write_item-requires-in-Send c = subst (IsKindWithin c.args.problem.now) c.in-Send.is c.requires.within
