-- Proof of `outcome`: runs the program over a shelf and two sinks, and returns its exit status.
use Rattle.std.proofs.Common.{arith, inl, refl}
use Rattle.cpg_io.proofs.Agreeing.{fetched_same}
use Rattle.cpgc.proofs.outcome.Goals as goal

-- without words nothing is fetched, so the shelf is as it was
pub returns-in-Err-clause-keeps : goal.returns-in-Err-clause-keeps
returns-in-Err-clause-keeps g c =
    record {
      names = λ name. refl;
      fetched = fetched_same (g.S.Shelf.state c.args.shelf.now);
      later = omega arith;
      rose = λ fetch past is failed. inl refl;
    }
