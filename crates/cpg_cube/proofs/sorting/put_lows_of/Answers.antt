-- Proof of `put_lows_of`, which puts the lows of literals into a key.
use Rattle.std.proofs.Common.{ℕ, ◌<◌, take, All, arith, rules, sym, subst}
use Rattle.std.proofs.lemmas.List.{take_all, take_more}
use Rattle.std.proofs.lemmas.List.Elements.{All-push}
use Rattle.std.proofs.lemmas.Grind.{common_steps}
use Rattle.cpg_cube.specs.Cube.{Literal}
use Rattle.cpg_cube.specs.Keys.{AreBytes}
use Rattle.cpg_cube.proofs.sorting.put_lows_of.Goals as goal

-- the key has the low of one literal more, which is a byte
pub loop-literal-preserved : goal.loop-literal-preserved
loop-literal-preserved c =
    let literals = c.args.literals.now in
    let index = c.loop-literal.literal-index in
    let invariant = c.loop-literal.invariant in
    record {
      key = grind (arith, common_steps);
      bytes = subst AreBytes (sym (take_more literals index _ (omega arith)))
          (All-push (λ (l : Literal). l.low < 256) (take index literals) _ invariant.bytes c.put_low_of.ensures.byte);
    }

-- all lows that were put are bytes
pub returns-clause-bytes : goal.returns-clause-bytes
returns-clause-bytes c = subst AreBytes
    (take_all c.loop-literal.literal-index c.args.literals.now (omega arith)) c.loop-literal.invariant.bytes
