-- Proof of `places_of`: returns for each process number the place at which the process stands.
use Rattle.std.proofs.Common.{◌≡◌, ap, length, arith, subst}
use Rattle.cpg_base.proofs.Standing.{AreWritten, process_within, written_more, all_written}
use Rattle.cpg_base.proofs.order.places_of.Goals as goal

-- each number in the order is below its length, which is that of the list of places
pub index_mut-requires : goal.index_mut-requires
index_mut-requires c =
    let long : length c.as_slice-process-items.result.now ≡ length c.args.processes.now.items =
    ap length c.as_slice-process-items.ensures.value in
    -- the number at this place of the order is below its length
    let inside = process_within c.args.processes.now.items c.requires c.loop-i.i (omega arith) in
    rw c.as_slice-process-items.ensures.value (omega (arith, c.loop-i.invariant.long))

-- the place of one more process is written down
pub loop-i-preserved : goal.loop-i-preserved
loop-i-preserved c = rw c.as_slice-process-items.ensures.value
    (written_more c.args.processes.now.items c.requires c.loop-i.places.items c.loop-i.i
    (omega (arith, ap length c.as_slice-process-items.ensures.value)) c.loop-i.invariant)

-- once all are written down, the places are those of the order
pub returns : goal.returns
returns c = all_written c.args.processes.now.items c.requires c.loop-i.places.items
    (let all_read : c.loop-i.i ≡ length c.args.processes.now.items =
    omega (arith, ap length c.as_slice-process-items.ensures.value) in
    subst (AreWritten c.args.processes.now.items c.loop-i.places.items) all_read c.loop-i.invariant)
