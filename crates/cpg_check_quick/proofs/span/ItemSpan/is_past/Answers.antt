-- Proof of `ItemSpan::is_past`: whether an item that begins at `start` is over by `time` in all scenarios of a space.
use Rattle.std.proofs.Common.{◌-◌, arith, get_or}
use Rattle.cpg_violation.proofs.SureLaws.{on_le}
use Rattle.cpg_check_quick.proofs.span.ItemSpan.is_past.Goals as goal

-- the greatest number that the space leaves the variable has a length, and with that the item is over by the time
pub returns : goal.returns
returns c = on_le (get_or c.args.self.now.lengths c.most-most.result 0) (c.args.time - c.args.start)
    (λ l s lies. record {
      count = c.most-most.result;
      most = c.most-most.ensures s lies;
      known = omega (arith, c.if-most-gt-MOST_FAULTS.false);
      over = omega (arith, l, c.if-time-start.false);
    })
