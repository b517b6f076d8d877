-- Proof of `processes_of`: reads `count` processes and what version 2 says of them, and returns them with the bytes
-- after them.
use Rattle.std.proofs.Common.{◌≡◌, ◌+◌, ◌-◌, ◌==◌, ℕ, arith, ◌≤◌, Bool, true, false, cond, refl}
use Rattle.std.proofs.lemmas.Result.{err_from_is_err_and}
use Rattle.cpg_codec.specs.Reading.{down}
use Rattle.cpg_codec.specs.Spelling.{Written, bit, written_by, written_with}
use Rattle.cpg_codec.specs.Grammar.{read_process, read_processes}
use Rattle.cpg_codec.proofs.Loop.{goes_on, ends, is_done, nothing_in_front, down_more, down_none}
use Rattle.cpg_codec.proofs.WrittenHeads.{written_push, kept_push}
use Rattle.cpg_codec.proofs.head_reading.processes_of.Goals as goal

-- how many processes have a condition, with one process more
abbrev step : ℕ → Written → ℕ
step ones w = ones + bit w.process.condition

-- before the loop there are no processes and no extras, in either version
none_kept : (b : Bool) → ◌≡◌ {A = ℕ} 0 (cond b 0 0)
none_kept true = refl
none_kept false = refl

-- at the start nothing is read, and all processes are left
pub loop-init : goal.loop-init
unfolding read_processes
loop-init c = record {
  so_far = let all_left : c.args.count - 0 ≡ c.args.count = omega arith in
      rw (c.in_ok-processes.ensures.items, all_left) (nothing_in_front _);
  few = omega arith;
  kept = rw (c.in_ok-processes.ensures.items, c.new-extras.ensures.items) (none_kept (c.args.version == 2));
}

-- the next process can't be read; by the invariant reading all of them then fails in the same way
pub returns-in_err-process-clause-gives : goal.returns-in_err-process-clause-gives
returns-in_err-process-clause-gives c =
    let failure = err_from_is_err_and c.from_residual-in_err-process.result c.from_residual-in_err-process.ensures.1 in
    rw (failure.1, failure.2)
    (ends step (λ (left : ℕ) ones. read_process c.args.version c.args.faults c.args.nodes ones)
    c.in_err-process.field-0.0 (written_by c.loop.processes.items c.loop.extras.items)
    (down (c.args.count - c.loop.counter)) (c.args.count - (c.loop.counter + 1))
    (down (c.args.count - (c.loop.counter + 1))) c.loop.ones c.loop.rest.now
    (read_processes c.args.version c.args.faults c.args.nodes c.args.count c.args.bytes.now)
    (down_more c.args.count c.loop.counter c.loop-test.true) c.in_err-process.ensures.gives
    c.loop.invariant.so_far)

-- a process has at most one condition, so there are still no more conditions than processes
few_more : (ones b counter : ℕ) (t : Bool) → b ≡ bit t → ones ≤ counter → ones + b ≤ counter + 1
few_more ones b counter true is_bit few = omega arith
few_more ones b counter false is_bit few = omega arith

-- the next process is read with its extras; by the invariant reading all goes on with the bytes after it
pub loop-preserved : goal.loop-preserved
loop-preserved c =
    let process = c.in_ok-process.process in
    let extra = c.in_ok-process.extra in
    let pushed = written_push (c.args.version == 2) c.loop.processes.items c.loop.extras.items process extra
    c.in_ok-process.ensures.kind c.loop.invariant.kept in
    -- reading goes on with the process and its extras
    let going_on = goes_on step (λ (left : ℕ) ones. read_process c.args.version c.args.faults c.args.nodes ones)
    (written_by c.loop.processes.items c.loop.extras.items)
    (down (c.args.count - c.loop.counter)) (c.args.count - (c.loop.counter + 1))
    (down (c.args.count - (c.loop.counter + 1))) c.loop.ones c.loop.rest.now
    (written_with process extra) c.in_ok-process.after.now
    (read_processes c.args.version c.args.faults c.args.nodes c.args.count c.args.bytes.now)
    (down_more c.args.count c.loop.counter c.loop-test.true) c.in_ok-process.ensures.gives
    c.loop.invariant.so_far in
    -- `few`: a condition more at most; `kept`: an extra more exactly in version 2
    record {
      so_far = rw (c.in_ok-push.ensures.items, c.in_ok-push_extra.ensures, pushed, c.bit_of-ones.ensures) going_on;
      few = few_more c.loop.ones c.bit_of-ones.result c.loop.counter process.condition c.bit_of-ones.ensures
          c.loop.invariant.few;
      kept = rw (c.in_ok-push.ensures.items, c.in_ok-push_extra.ensures)
          (kept_push (c.args.version == 2) c.loop.processes.items c.loop.extras.items process extra
          c.in_ok-process.ensures.kind c.loop.invariant.kept);
    }

-- no process is left, so those so far are all
pub returns-clause-gives : goal.returns-clause-gives
returns-clause-gives c = is_done step (λ (left : ℕ) ones. read_process c.args.version c.args.faults c.args.nodes ones)
    (written_by c.loop.processes.items c.loop.extras.items)
    (down (c.args.count - c.loop.counter)) c.loop.ones c.loop.rest.now
    (read_processes c.args.version c.args.faults c.args.nodes c.args.count c.args.bytes.now)
    (down_none c.args.count c.loop.counter c.loop-test.false) c.loop.invariant.so_far
