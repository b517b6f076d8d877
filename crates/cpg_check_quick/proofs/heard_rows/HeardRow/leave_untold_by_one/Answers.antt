-- Proof of `HeardRow::leave_untold_by_one`: writes to `left`, in place of what is there, those of the wanted literals
-- that the frame of one column isn't found to tell.
use Rattle.std.proofs.Common.{◌≡◌, ◌⊎◌, Some, Contains, subst, sym}
use Rattle.std.proofs.lemmas.Bool.{OnTrue_at}
use Rattle.std.proofs.lemmas.List.{take_all}
use Rattle.cpg_cube.specs.declared.literal.Literal.{Literal}
use Rattle.cpg_check_quick.specs.HeardRows.{IsToldIn}
use Rattle.cpg_check_quick.proofs.InputLaws.{others_among, others_push, others_skip}
use Rattle.cpg_check_quick.proofs.heard_rows.HeardRow.leave_untold_by_one.Goals as goal

-- the default of `get_or`, which is never reached
abbrev any : Literal
any = record { variable = 0; low = 0; high = 0 }

-- the next wanted literal is told, so it needn't be left
pub loop-literal-preserved-then-tells_by : goal.loop-literal-preserved-then-tells_by
loop-literal-preserved-then-tells_by c = record {
  among = c.loop-literal.invariant.among;
  told = others_skip (λ (m : Literal). (c.args.self.now.value ≡ Some m.variable) ⊎ IsToldIn c.args.own.now m)
      c.args.wanted.now c.loop-literal.left.items c.loop-literal.literal-index any
      c.loop-literal-test.true
      (OnTrue_at c.if-tells_by.true c.tells_by.ensures) c.loop-literal.invariant.told;
}

-- the next wanted literal is kept, so each wanted literal so far is told or left
pub loop-literal-preserved : goal.loop-literal-preserved
loop-literal-preserved c = rw c.in_ok-push.ensures.items (record {
  among = others_among (λ (m : Literal). (c.args.self.now.value ≡ Some m.variable) ⊎ IsToldIn c.args.own.now m)
      c.args.wanted.now c.loop-literal.left.items c.loop-literal.literal-index any
      c.loop-literal-test.true c.loop-literal.invariant.among;
  told = others_push (λ (m : Literal). (c.args.self.now.value ≡ Some m.variable) ⊎ IsToldIn c.args.own.now m)
      c.args.wanted.now c.loop-literal.left.items c.loop-literal.literal-index any
      c.loop-literal-test.true c.loop-literal.invariant.told;
})

-- the loop has gone over all literals, so what its invariant says of those so far holds of each
pub returns-clause-told : goal.returns-clause-told
returns-clause-told c = λ m h. c.loop-literal.invariant.told m (subst (λ xs. Contains xs m)
    (sym (take_all c.loop-literal.literal-index c.args.wanted.now c.loop-literal-test.false)) h)
