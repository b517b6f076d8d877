-- Proof of `literals_of`: reads `count` literals, and returns them with the bytes after them.
use Rattle.std.proofs.Common.{◌≡◌, ◌+◌, ◌-◌, ℕ, suc, arith}
use Rattle.std.proofs.lemmas.Result.{err_from_is_err_and}
use Rattle.cpg_cube.specs.declared.literal.Literal.{Literal}
use Rattle.cpg_codec.specs.Reading.{down}
use Rattle.cpg_codec.specs.Grammar.{read_literal, read_literals}
use Rattle.cpg_codec.proofs.Loop.{goes_on, ends, is_done, nothing_in_front, down_more, down_none}
use Rattle.cpg_codec.proofs.row_reading.literals_of.Goals as goal

-- the least variable that the next literal may be on
abbrev step : ℕ → Literal → ℕ
step least x = suc x.variable

-- before the loop no literal is read, so all of them are left to read
pub loop-done-init : goal.loop-done-init
unfolding read_literals
loop-done-init c = let all_left : c.args.count - 0 ≡ c.args.count = omega arith in
    rw (c.in_ok-literals.ensures.items, all_left) (nothing_in_front _)

-- the next literal can't be read; by the invariant reading all of them then fails in the same way
pub returns-in_err-literal : goal.returns-in_err-literal
returns-in_err-literal c =
    let failure = err_from_is_err_and c.from_residual-in_err-literal.result c.from_residual-in_err-literal.ensures.1 in
    rw (failure.1, failure.2) (ends step (read_literal c.args.space.now) c.in_err-literal.field-0.0
    c.loop-done.literals.items (down (c.args.count - c.loop-done.done)) (c.args.count - (c.loop-done.done + 1))
    (down (c.args.count - (c.loop-done.done + 1))) c.loop-done.least c.loop-done.rest.now
    (read_literals c.args.space.now c.args.count c.args.bytes.now)
    (down_more c.args.count c.loop-done.done c.loop-done-test.true) c.in_err-literal.ensures c.loop-done.invariant)

-- the next literal is read, and the least variable is now one above its own; by the invariant reading all goes on
pub loop-done-preserved : goal.loop-done-preserved
loop-done-preserved c =
    let literal = c.in_ok-literal.literal in
    let going_on = goes_on step (read_literal c.args.space.now) c.loop-done.literals.items
    (down (c.args.count - c.loop-done.done)) (c.args.count - (c.loop-done.done + 1))
    (down (c.args.count - (c.loop-done.done + 1))) c.loop-done.least c.loop-done.rest.now literal
    c.in_ok-literal.after.now
    (read_literals c.args.space.now c.args.count c.args.bytes.now)
    (down_more c.args.count c.loop-done.done c.loop-done-test.true) c.in_ok-literal.ensures c.loop-done.invariant in
    let one : literal.variable + 1 ≡ suc literal.variable = omega arith in
    rw (c.in_ok-push.ensures.items, one) going_on

-- no literal is left, so those so far are all
pub returns : goal.returns
returns c = is_done step (read_literal c.args.space.now) c.loop-done.literals.items
    (down (c.args.count - c.loop-done.done)) c.loop-done.least c.loop-done.rest.now
    (read_literals c.args.space.now c.args.count c.args.bytes.now)
    (down_none c.args.count c.loop-done.done c.loop-done-test.false) c.loop-done.invariant
