-- Proof of `put_tables`, which writes the tables of a compiled graph as a text.
use Rattle.std.proofs.Common.{List, ap, subst}
use Rattle.cpg_table.specs.Table.{Row}
use Rattle.cpg_show.specs.TableText.{text_of_rows}
use Rattle.cpg_outputs.specs.Told.{IsWritten, sent}
use Rattle.cpg_app.proofs.Written.{packed}
use Rattle.cpg_app.proofs.output.put_tables.Goals as goal

-- what was written, whole or in part, is the text of these rows
pub returns : goal.returns
returns g c =
    let before = g.O.Sink.state c.args.out.now in
    let after = g.O.Sink.state c.write_table-written.new.sink in
    let made = c.args.made in
    subst (λ (rows : List Row). IsWritten (sent before after) c.write_table-written.result
    (text_of_rows made.admitted.graph made.rows.order rows made.rows.worst.time)) c.as_slice.ensures.value
    (packed before after (text_of_rows made.admitted.graph made.rows.order c.as_slice.result.now made.rows.worst.time)
    c.write_table-written.result
    c.write_table-written.ensures.whole c.write_table-written.ensures.kept c.write_table-written.ensures.part
    c.write_table-written.ensures.cause
    (λ e. ap g.O.Sink.state (c.write_table-written.ensures.same e)))
