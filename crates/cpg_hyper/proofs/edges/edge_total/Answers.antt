-- Proof of `edge_total`, which returns how many edges there are in all instances.
use Rattle.std.proofs.Common.{◌≡◌, length, ap, sym, arith}
use Rattle.cpg_hyper.proofs.Counted.{more_edges, part_le}
use Rattle.cpg_hyper.proofs.edges.edge_total.Goals as goal

-- with the next part's edges counted, the sum is that of one part more, and still too small to overflow
pub loop-part-preserved : goal.loop-part-preserved
loop-part-preserved c =
    -- the code counts the edges of this part
    let count : length c.part-item.result.problem.edges ≡ length c.edges.result.now =
    ap length (sym c.edges.ensures.edges) in
    let most = part_le c.args.whole c.part-item.result.period
    (length c.part-item.result.problem.edges) 256 c.requires.short c.edges.ensures.within.few_edges in
    rw (← count) (record {
      total = more_edges c.args.parts.now c.loop-part.part-index c.part-item.result c.loop-part-test.true c.part-item.is
          c.args.whole _ c.loop-part.total c.loop-part.invariant.total;
      short = omega (arith, most, c.loop-part.invariant.short);
    })
