-- Proof of `read_parts`, which reads the graphs of parts, one after the other, and returns them with their periods.
use Rattle.std.proofs.Common.{rules, List, subst, sym}
use Rattle.std.proofs.lemmas.Result.{err_from_is_err_and}
use Rattle.cpg_history.specs.Fetch.{Fetch}
use Rattle.cpg_inputs.proofs.Keeping.{keeps_on, keeps_same, access_on}
use Rattle.cpg_inputs.proofs.PartsRead.{may_at, periods_next, read_next, stops_next, wants_next}
use Rattle.cpg_inputs.proofs.reading.read_parts.Goals as goal

-- the graph of each pair may be fetched at the start, and the same names may be fetched still
pub read_part-requires : goal.read_part-requires
read_part-requires g c =
    subst (g.S.Shelf.may_fetch c.loop-pair.shelf) (sym c.as_str.ensures)
    ((c.loop-pair.invariant.access c.pair-item.result.graph).0
    (may_at (g.S.Shelf.may_fetch c.args.shelf.now) c.args.pairs.now c.loop-pair.pair-index c.pair-item.result
    c.loop-pair-test.true c.pair-item.is c.requires))

-- the parts before were read, and the file of this one stops the run
pub returns-in_err-problem-clause-halt : goal.returns-in_err-problem-clause-halt
returns-in_err-problem-clause-halt g c =
    let S = g.S.Shelf in
    -- the histories: when the function was called, before the file of this part, and after it
    let at_start : List Fetch = (S.state c.args.shelf.now).history in
    let before_file : List Fetch = (S.state c.loop-pair.shelf).history in
    let after_file : List Fetch = (S.state c.read_part.new.shelf).history in
    let failed = err_from_is_err_and c.from_residual.result c.from_residual.ensures.1 in
    rw (failed.1, failed.2) (stops_next c.args.pairs.now c.loop-pair.pair-index c.pair-item.result c.loop-pair-test.true
    c.pair-item.is c.loop-pair.parts.items at_start before_file after_file c.loop-pair.invariant.read
    c.in_err-problem.field-0.0 (rw c.as_str.ensures at c.in_err-problem.ensures.halt))

-- the file of the next part was read, and the part is added with its period
pub loop-pair-preserved : goal.loop-pair-preserved
loop-pair-preserved g c =
    let S = g.S.Shelf in
    let before = c.loop-pair.invariant in
    -- the histories: when the function was called, before the file of this part, and after it
    let at_start : List Fetch = (S.state c.args.shelf.now).history in
    let before_file : List Fetch = (S.state c.loop-pair.shelf).history in
    let after_file : List Fetch = (S.state c.read_part.new.shelf).history in
    let pair = c.pair-item.result in
    -- the shelf was kept, may still be asked, has given the next file, and the parts have one period more
    record {
      keeps = keeps_on (S.state c.args.shelf.now) (S.state c.loop-pair.shelf)
          (S.state c.read_part.new.shelf) before.keeps c.in_ok-problem.ensures.keeps;
      access = access_on (S.may_fetch c.args.shelf.now) (S.may_fetch c.loop-pair.shelf)
          (S.may_fetch c.read_part.new.shelf) before.access c.in_ok-problem.ensures.access;
      read = read_next c.args.pairs.now c.loop-pair.pair-index pair c.loop-pair-test.true c.pair-item.is
          c.loop-pair.parts.items at_start before_file after_file before.read c.in_ok-problem.problem
          c.add.new.parts.items (rw c.as_str.ensures at c.in_ok-problem.ensures.graph) c.in_ok-add.ensures.added;
      periods = periods_next c.args.pairs.now c.loop-pair.pair-index pair c.loop-pair-test.true c.pair-item.is
          c.loop-pair.parts.items at_start before_file after_file before.read c.in_ok-problem.problem
          c.add.new.parts.items before.periods c.in_ok-add.ensures.added;
    }

-- the file of the part was read, but memory ran out as the part was added; this counts as if the file had taken the
-- memory
pub returns-in_err-add-clause-halt : goal.returns-in_err-add-clause-halt
returns-in_err-add-clause-halt g c =
    let S = g.S.Shelf in
    -- the histories: when the function was called, before the file of this part, and after it
    let at_start : List Fetch = (S.state c.args.shelf.now).history in
    let before_file : List Fetch = (S.state c.loop-pair.shelf).history in
    let after_file : List Fetch = (S.state c.read_part.new.shelf).history in
    let failed = err_from_is_err_and c.from_residual-in_err-add.result c.from_residual-in_err-add.ensures.1 in
    rw (failed.1, failed.2) (wants_next c.args.pairs.now c.loop-pair.pair-index c.pair-item.result c.loop-pair-test.true
    c.pair-item.is c.loop-pair.parts.items at_start before_file after_file c.loop-pair.invariant.read
    c.in_ok-problem.problem c.in_err-add.field-0.0
    (rw c.as_str.ensures at c.in_ok-problem.ensures.graph) c.in_err-add.ensures.halt)

-- the loop kept the shelf, and so did the reading that failed
pub returns-in_err-problem-clause-keeps : goal.returns-in_err-problem-clause-keeps
returns-in_err-problem-clause-keeps g c =
    let S = g.S.Shelf in
    keeps_on (S.state c.args.shelf.now) (S.state c.loop-pair.shelf)
    (S.state c.read_part.new.shelf) c.loop-pair.invariant.keeps c.in_err-problem.ensures.keeps

-- the loop kept the shelf, and so did the reading of this part
pub returns-in_err-add-clause-keeps : goal.returns-in_err-add-clause-keeps
returns-in_err-add-clause-keeps g c =
    let S = g.S.Shelf in
    keeps_on (S.state c.args.shelf.now) (S.state c.loop-pair.shelf)
    (S.state c.read_part.new.shelf) c.loop-pair.invariant.keeps c.in_ok-problem.ensures.keeps

-- nothing was read yet
pub loop-pair-init : goal.loop-pair-init
loop-pair-init g c = record {
  keeps = keeps_same (g.S.Shelf.state c.args.shelf.now);
  access = λ name. (λ may. may, λ may. may);
  read = search rules;
  periods = search rules;
}
