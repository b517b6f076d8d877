-- Proof of `refuse`: writes the line which says that a record of the stream is rejected.
use Rattle.std.proofs.Common.{arith, refl}
use Rattle.cpg_outputs.proofs.living.refuse.Goals as goal

-- the line is written: the status isn't 3, and the sink took the line whole
pub returns-in-Ok : goal.returns-in-Ok
returns-in-Ok g c = record {
  whole = λ other. (refl, record { faultless = c.in-Ok.ensures.cause.kept; taken = c.in-Ok.ensures.whole });
  part = λ three. absurd (omega (arith, three));
}

-- the sink met a fault: the status is 3, and it took a proper prefix of the line
pub returns-in-Err : goal.returns-in-Err
returns-in-Err g c = record {
  whole = λ other. absurd (other refl);
  part = λ three. record { rose = c.in-Err.ensures.cause.failed; prefix = c.in-Err.ensures.part };
}
