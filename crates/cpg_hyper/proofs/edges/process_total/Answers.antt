-- Proof of `process_total`, which returns how many processes there are in all instances.
use Rattle.std.proofs.Common.{◌≡◌, length, ap, sym, arith}
use Rattle.cpg_hyper.specs.Unrolled.{size_of}
use Rattle.cpg_hyper.proofs.Counted.{more_processes, part_le}
use Rattle.cpg_hyper.proofs.edges.process_total.Goals as goal

-- with the next part's processes counted, the sum is that of one part more, and still too small to overflow
pub loop-part-preserved : goal.loop-part-preserved
loop-part-preserved c =
    -- the code counts the processes of this part
    let count : size_of c.part-item.result ≡ length c.processes.result.now =
    ap length (sym c.processes.ensures.processes) in
    let most = part_le c.args.whole c.part-item.result.period
    (size_of c.part-item.result) 128 c.requires.short c.processes.ensures.within.few_processes in
    rw (← count) (record {
      total = more_processes c.args.parts.now c.loop-part.part-index c.part-item.result c.loop-part-test.true
          c.part-item.is c.args.whole _ c.loop-part.total c.loop-part.invariant.total;
      short = omega (arith, most, c.loop-part.invariant.short);
    })
