-- Proof of `first_at`: the first place whose time is no less than this, if the times rise.
use Rattle.std.proofs.Common.{ltb, ltb-true, arith, rules}
use Rattle.std.proofs.lemmas.Bool.{ltb-false}
use Rattle.std.proofs.lemmas.List.Sorted.{IsPartitionPoint-from_clause, IsPartitionedBy-ltb}
use Rattle.cpg_list.specs.TimeOrder.{TimedColumn}
use Rattle.cpg_list.proofs.timed.first_at.Goals as goal

-- the times rise, so they are parted at the first that is no less
pub returns : goal.returns
returns c =
    let parted = IsPartitionedBy-ltb (λ (t : TimedColumn). t.time) c.args.by_time.now c.args.time c.requires in
    let point = IsPartitionPoint-from_clause (λ (t : TimedColumn). ltb t.time c.args.time) c.args.by_time.now
    c.partition_point.result c.partition_point.ensures.partitioned parted
    (λ a r q k. search rules) in
    record {
      inside = c.partition_point.ensures.bound;
      before = λ i d l. ltb-true _ _ (point.0 i d (omega arith) l);
      after = λ i d l m. ltb-false _ _ (point.1 i d l m);
    }
