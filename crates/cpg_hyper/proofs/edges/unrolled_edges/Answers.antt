-- Proof of `unrolled_edges`, which returns the edges of all instances of all parts.
use Rattle.std.proofs.Common.{◌≡◌, length, ap, sym, arith}
use Rattle.cpg_hyper.specs.Unrolled.{size_of}
use Rattle.cpg_hyper.proofs.Counted.{more_processes, next_edges}
use Rattle.cpg_hyper.proofs.edges.unrolled_edges.Goals as goal

-- the processes of this part are among all the processes, which are few enough
pub add_part-requires-clause-few : goal.add_part-requires-clause-few
add_part-requires-clause-few c =
    omega (
      arith,
      c.requires.few,
      more_processes c.args.parts.now c.loop-part.part-index c.part-item.result c.loop-part-test.true c.part-item.is
          c.args.whole _ c.loop-part.first
          c.loop-part.invariant.first,
    )

-- the processes of this part are few enough to be multiplied
pub overflow_mul-first : goal.overflow_mul-first
overflow_mul-first c =
    -- the code counts the processes of this part
    let count : size_of c.part-item.result ≡ length c.processes.result.now =
    ap length (sym c.processes.ensures.processes) in
    rw (← count) (omega (
      arith,
      c.requires.few,
      more_processes c.args.parts.now c.loop-part.part-index c.part-item.result c.loop-part-test.true c.part-item.is
          c.args.whole _ c.loop-part.first
          c.loop-part.invariant.first,
    ))

-- the processes up to this part are few enough to be added
pub overflow_add-first : goal.overflow_add-first
overflow_add-first c =
    -- the code counts the processes of this part
    let count : size_of c.part-item.result ≡ length c.processes.result.now =
    ap length (sym c.processes.ensures.processes) in
    rw (← count) (omega (
      arith,
      c.requires.few,
      more_processes c.args.parts.now c.loop-part.part-index c.part-item.result c.loop-part-test.true c.part-item.is
          c.args.whole _ c.loop-part.first
          c.loop-part.invariant.first,
    ))

-- with the edges of the next part added, the list has those of one part more, and `first` is behind its processes
pub loop-part-preserved : goal.loop-part-preserved
loop-part-preserved c =
    -- the code counts the processes of this part
    let count : size_of c.part-item.result ≡ length c.processes.result.now =
    ap length (sym c.processes.ensures.processes) in
    rw (← count) (record {
      edges = next_edges c.args.parts.now c.loop-part.part-index c.part-item.result c.loop-part-test.true c.part-item.is
          c.args.whole _ c.loop-part.edges.items c.add_part.new.out.items
          c.loop-part.first c.loop-part.invariant.edges c.in_ok-add_part.ensures;
      first = more_processes c.args.parts.now c.loop-part.part-index c.part-item.result c.loop-part-test.true
          c.part-item.is c.args.whole _ c.loop-part.first c.loop-part.invariant.first;
    })
