-- Proof of `add_part`, which adds the edges of all instances of a part whose first process has the number `first`.
use Rattle.std.proofs.Common.{◌≡◌, ◌+◌, ◌*◌, ◌++◌, map, length, ap, ◌∙◌, arith}
use Rattle.cpg_hyper.specs.Unrolled.{size_of, edges_in, copied_edge}
use Rattle.cpg_hyper.proofs.Counted.{nothing_added, next_instance}
use Rattle.cpg_hyper.proofs.edges.add_part.Goals as goal

-- a part without processes has no edges, since each leads from one of its processes
pub returns-then-size-eq0 : goal.returns-then-size-eq0
returns-then-size-eq0 c =
    let none : size_of c.args.part.now ≡ 0 =
    omega (arith, ap length c.processes.ensures.processes, c.if-size-eq0.true) in
    nothing_added c.args.out.now.items c.args.whole c.args.first c.args.part.now c.processes.ensures.within none

-- the edges of one more instance are added
pub loop-instance-preserved : goal.loop-instance-preserved
loop-instance-preserved c =
    -- the code counts the processes of this part
    let count : length c.processes.result.now ≡ size_of c.args.part.now = ap length c.processes.ensures.processes in
    next_instance (edges_in c.args.first c.args.part.now) c.loop-instance.instance c.args.out.now.items
    c.loop-instance.out.items c.add_instance.new.out.items c.loop-instance.invariant
    (c.in_ok-add_instance.ensures ∙ ap (λ n. c.loop-instance.out.items
    ++ map (copied_edge (c.args.first + c.loop-instance.instance * n)) c.args.part.now.problem.edges) count)
