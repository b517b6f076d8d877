-- Proof of `act_of`: the act of a line that a log may go on with, and `None` exactly if there is none.
use Rattle.std.proofs.Common.{◌<◌, ◌^◌, ◌∙◌, sym, ap, arith}
use Rattle.std.proofs.lemmas.Fmt.{decimal_injective}
use Rattle.cpg_log.specs.Log.{Log}
use Rattle.cpg_log.proofs.ReadingLaws.{act_parts}
use Rattle.cpg_log.proofs.reading.act_of.Goals as goal

-- the line of an act would have the digits of its time before the first blank, and these are those of no time
pub returns-in_default-2-clause-none : goal.returns-in_default-2-clause-none
returns-in_default-2-clause-none c = λ act may e.
    let early : act.time < 2 ^ 60 = omega (arith, may.act.time, c.requires.until) in
    let parts = act_parts c.args.problem.now c.args.line.now c.in-Some.digits.now c.in-Some.text.now act
    c.in-Some.ensures.some early e in
    let none = rw c.in_default-2.is at c.in_ok-time.ensures.none in
    none act.time early parts.0

-- the line of an act would have the act's time, and the time of this line is past that of the log
pub returns-then-log-time-clause-none : goal.returns-then-log-time-clause-none
returns-then-log-time-clause-none c = λ act may e.
    let early : act.time < 2 ^ 60 = omega (arith, may.act.time, c.requires.until) in
    let parts = act_parts c.args.problem.now c.args.line.now c.in-Some.digits.now c.in-Some.text.now act
    c.in-Some.ensures.some early e in
    let read = rw c.in-Some-2.is at c.in_ok-time.ensures.some in
    let same = decimal_injective c.in-Some-2.time act.time (omega (arith, read.1)) (omega (arith, early))
    (sym read.0 ∙ parts.0) in
    omega (arith, c.if-log-time.true, ap (λ (l : Log). l.until) c.log.view_is, may.act.time, same)

-- the line of an act would have the text of its item, and this is the text of no item that the log may go on with
pub returns-in_default-item_named-clause-none : goal.returns-in_default-item_named-clause-none
returns-in_default-item_named-clause-none c = λ act may e.
    let early : act.time < 2 ^ 60 = omega (arith, may.act.time, c.requires.until) in
    let parts = act_parts c.args.problem.now c.args.line.now c.in-Some.digits.now c.in-Some.text.now act
    c.in-Some.ensures.some early e in
    c.in_default-item_named.ensures.none act.item (record { item = may.act.item; new = may.new; spelled = parts.1 })
