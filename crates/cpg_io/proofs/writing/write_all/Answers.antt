-- Proof of `write_all`: writes all of the bytes, in as many writes as the sink needs.
use Rattle.std.proofs.Common.{rules}
use Rattle.cpg_io.proofs.Writes.{Took-next, Took-part, rest_of}
use Rattle.cpg_io.proofs.writing.write_all.Goals as goal

-- the sink takes the next bytes after those before, so it has taken one piece more
pub loop-at-preserved : goal.loop-at-preserved
loop-at-preserved g c = record {
  within = search rules;
  taken = Took-next _ _ _ _ _ _ c.loop-at.invariant.taken (rw rest_of at c.in_ok-at.ensures.bytes);
  kept = search rules;
}

-- a write that fails takes nothing, so the bytes before `at` were taken, which aren't all
pub returns-in_err-at-clause-part : goal.returns-in_err-at-clause-part
returns-in_err-at-clause-part g c = Took-part c.from_residual.result _ _ _ _ c.loop-at.at
    (search rules) c.loop-at.invariant.taken c.in_err-at.ensures.bytes
