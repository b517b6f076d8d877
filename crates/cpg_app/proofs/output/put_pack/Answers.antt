-- Proof of `put_pack`, which writes the tables of a compiled graph as a pack.
use Rattle.std.proofs.Common.{List, ap, sym, subst}
use Rattle.cpg_base.specs.Graph.{Graph}
use Rattle.cpg_base.specs.WellFormed.{WellFormed}
use Rattle.cpg_table.specs.Table.{Row}
use Rattle.cpg_table.specs.Writing.{AreWritable}
use Rattle.cpg_outputs.specs.Told.{IsWritten, sent}
use Rattle.cpg_packing.specs.PackBytes.{pack_bytes}
use Rattle.cpg_app.proofs.Written.{packed}
use Rattle.cpg_app.proofs.output.put_pack.Goals as goal

-- an admitted graph is well-formed
pub write_made-written-requires-clause-formed : goal.write_made-written-requires-clause-formed
write_made-written-requires-clause-formed g c =
    subst WellFormed (sym c.problem-problem.ensures.problem) c.problem-problem.ensures.admitted.well_formed

-- the rows can be written, as the caller requires
pub write_made-written-requires-clause-rows : goal.write_made-written-requires-clause-rows
write_made-written-requires-clause-rows g c =
    subst (λ (h : Graph). AreWritable h c.as_slice.result.now) (sym c.problem-problem.ensures.problem)
    (subst (AreWritable c.args.made.admitted.graph) (sym c.as_slice.ensures.value) c.requires)

-- what was written, whole or in part, is the pack of these rows
pub returns : goal.returns
returns g c =
    let before = g.O.Sink.state c.args.out.now in
    let after = g.O.Sink.state c.write_made-written.new.sink in
    let made = c.args.made in
    subst (λ (h : Graph). IsWritten (sent before after) c.write_made-written.result (pack_bytes h made.rows.rows.items))
    c.problem-problem.ensures.problem
    (subst (λ (rows : List Row). IsWritten (sent before after) c.write_made-written.result
    (pack_bytes c.problem-problem.result.now rows)) c.as_slice.ensures.value
    (packed before after (pack_bytes c.problem-problem.result.now c.as_slice.result.now) c.write_made-written.result
    c.write_made-written.ensures.whole c.write_made-written.ensures.kept c.write_made-written.ensures.part
    c.write_made-written.ensures.cause
    (λ e. ap g.O.Sink.state (c.write_made-written.ensures.same e))))
