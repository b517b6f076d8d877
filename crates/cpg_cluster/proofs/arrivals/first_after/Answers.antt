-- Proof of `first_after`, which returns the place of the first time that is later than `time`, or their number if
-- there is none.
use Rattle.std.proofs.Common.{◌≡◌, true, false, rules, arith}
use Rattle.std.specs.Prelude.{nat_le}
use Rattle.std.specs.List.Sorted.{IsPartitionPoint}
use Rattle.std.proofs.lemmas.Bool.{leb-true, leb-false}
use Rattle.std.proofs.lemmas.List.Sorted.{IsPartitionPoint-from_clause, IsPartitionedBy-leb}
use Rattle.cpg_cluster.proofs.arrivals.first_after.Goals as goal

-- The times before the place are no later than the time, and those from it on are later. They don't fall, so a place
-- with this property is found.
point : (c : goal.After-partition_point) →
    IsPartitionPoint (λ y. nat_le y c.args.time ≡ true)
    (λ y. nat_le y c.args.time ≡ false) c.args.times.now c.partition_point.result
point c = IsPartitionPoint-from_clause (λ y. nat_le y c.args.time) c.args.times.now c.partition_point.result
    c.partition_point.ensures.partitioned
    (IsPartitionedBy-leb (λ t. t) c.args.times.now c.args.time c.requires) (λ a r f' k. search rules)

-- the times before the partition point pass the test, so they are no later than the time
pub returns-clause-before : goal.returns-clause-before
returns-clause-before c i d l = leb-true _ _ ((point c).0 i d (omega arith) l)

-- the times from the partition point on fail the test, so they are later
pub returns-clause-past : goal.returns-clause-past
returns-clause-past c i d k l = leb-false _ _ ((point c).1 i d k l)
