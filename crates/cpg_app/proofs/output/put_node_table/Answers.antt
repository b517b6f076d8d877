-- Proof of `put_node_table`, which writes the table of a node as a text.
use Rattle.std.proofs.Common.{ap}
use Rattle.cpg_show.specs.NodeText.{node_text}
use Rattle.cpg_app.proofs.Written.{packed}
use Rattle.cpg_app.proofs.output.put_node_table.Goals as goal

-- what was written, whole or in part, is the text of this node's table
pub returns : goal.returns
returns g c = packed (g.O.Sink.state c.args.out.now) (g.O.Sink.state c.write_node-written.new.sink)
    (node_text c.args.tables c.args.node) c.write_node-written.result c.write_node-written.ensures.whole
    c.write_node-written.ensures.kept
    c.write_node-written.ensures.part c.write_node-written.ensures.cause
    (λ e. ap g.O.Sink.state (c.write_node-written.ensures.same e))
