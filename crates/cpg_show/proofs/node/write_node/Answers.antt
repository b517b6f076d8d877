-- Proof of `write_node`: writes the name of a node, and the rows of what it starts, sends and hears.
use Rattle.std.proofs.Common.{subst}
use Rattle.cpg_io.specs.Sink.{TookPrefix}
use Rattle.cpg_show.proofs.node.write_node.Goals as goal

-- if the writing fails, the sink took a proper prefix of the sheet's text, which is that of the node
pub returns-clause-part : goal.returns-clause-part
returns-clause-part g c =
    λ failed. subst (TookPrefix (g.O.Sink.state c.args.sink.now).taken (g.O.Sink.state c.write_sheet.new.sink).taken)
    c.in_ok-sheet.ensures (c.write_sheet.ensures.part failed)
