-- Proof of `InputRows::are_late_enough`: whether each of these columns is no earlier than a release, and each of these
-- inputs is there by then wherever the column matches and the input is live.
use Rattle.std.proofs.Common.{arith}
use Rattle.std.proofs.lemmas.Bool.{OnTrue_at}
use Rattle.std.proofs.lemmas.List.Elements.{All-contains}
use Rattle.cpg_check_quick.specs.Inputs.{IsInputThere, IsLateEnough}
use Rattle.cpg_violation.proofs.SureLaws.{each_all, each_more}
use Rattle.cpg_check_quick.proofs.input_rows.InputRows.are_late_enough.Goals as goal

-- the next column is no earlier than the release, and the inputs are there by its time
pub loop-column-preserved : goal.loop-column-preserved
loop-column-preserved c =
    λ tables w rules. each_more (IsLateEnough c.args.self.now.admitted.now.graph tables c.args.edges.now c.args.release)
    c.args.columns.now c.loop-column.column-index
    c.column-item.result c.loop-column-test.true c.column-item.is (c.loop-column.invariant tables w rules)
    (record {
      released = omega (arith, c.if-column-release.false);
      there = λ e k.
          All-contains (IsInputThere c.args.self.now.admitted.now.graph tables c.column-item.result) c.args.edges.now e
          (OnTrue_at c.if-not-are_there.false c.are_there.ensures tables w rules) k;
    })

-- the loop has gone over all columns, so what its invariant says of those so far holds of each
pub returns : goal.returns
returns c =
    λ tables w rules. each_all (IsLateEnough c.args.self.now.admitted.now.graph tables c.args.edges.now c.args.release)
    c.args.columns.now c.loop-column.column-index c.loop-column-test.false
    (c.loop-column.invariant tables w rules)
