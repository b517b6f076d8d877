-- Proof of `read_log`: the log that a file spells, or the number of the first line that makes it none.
use Rattle.std.proofs.Common.{◌≡◌, Err, rules, sym, subst}
use Rattle.cpg_log.specs.Lines.{lines}
use Rattle.cpg_log.specs.Reading.{IsBadLine}
use Rattle.cpg_log.specs.declared.fault.LogFault.TheVariants.{Bad}
use Rattle.cpg_log.proofs.ReadingLaws.{lack_bad, line_read, line_strange}
use Rattle.cpg_log.proofs.reading.read_log.Goals as goal

-- the first line opens no log, or there is none, so line 0 is the first bad one
pub returns-in_err-log-clause-bad : goal.returns-in_err-log-clause-bad
returns-in_err-log-clause-bad c = λ place e.
    let told : c.opened.result ≡ Err (Bad place) = search rules in
    let lack = c.opened.ensures.bad place told in
    subst (IsBadLine c.args.problem.now (lines c.args.bytes.now)) (sym lack.0)
    (lack_bad c.args.problem.now (lines c.args.bytes.now) lack.1)

-- the lines so far are those of a log, which can't go on with this one, so this is the first bad line
pub returns-in_err-rest-clause-bad : goal.returns-in_err-rest-clause-bad
returns-in_err-rest-clause-bad c = λ place e.
    let told : c.read_line.result ≡ Err (Bad place) = search rules in
    line_strange c.args.problem.now c.processes-processes.ensures.within c.in_ok-texts.ensures.names
    (lines c.args.bytes.now) c.loop-rest.log c.loop-rest.rest.now c.loop-rest.invariant.lawful
    c.loop-rest.invariant.spelled
    place (c.read_line.ensures.bad place told)

-- the log with the act of this line is lawful, and the lines are its lines and those of the rest
pub loop-rest-preserved : goal.loop-rest-preserved
loop-rest-preserved c =
    let read = line_read c.args.problem.now (lines c.args.bytes.now) c.loop-rest.log c.loop-rest.rest.now
    c.loop-rest.invariant.lawful c.loop-rest.invariant.spelled c.read_line.new.log
    c.in_ok-rest.rest.now c.in_ok-rest.ensures.more in
    record { lawful = read.0; spelled = read.1 }
