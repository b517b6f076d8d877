-- Proof of `tables_of`: the tables of all nodes with these rows, one for each item by number.
use Rattle.std.proofs.Common.{◌∙◌, sym, ap, subst}
use Rattle.cpg_table.specs.Lawful.{Tables, AreTablesOf}
use Rattle.cpg_table.proofs.TablesWith.{lawful, tables_with}
use Rattle.cpg_table.proofs.assembling.tables_of.Goals as goal

-- a table for each node with its rows is lawful, and together they have no more columns than the rows allow
pub of-requires : goal.of-requires
of-requires c =
    let problem = c.args.problem.now in
    subst (λ h. AreTablesOf h c.in_ok-nodes.nodes.items) (sym c.in_ok-head.ensures)
    (lawful problem c.nodes-nodes.ensures.within c.requires.formed c.args.rows.items c.requires.rows
    c.in_ok-nodes.nodes.items c.in_ok-nodes.ensures)

-- lawful tables of all nodes with these rows have the columns and the hear rows that are asked for
pub returns : goal.returns
returns c =
    let problem = c.args.problem.now in
    tables_with problem c.nodes-nodes.ensures.within c.requires.formed c.args.rows.items c.requires.rows
    c.in_ok-nodes.nodes.items c.in_ok-nodes.ensures c.of.result
    (ap (λ (t : Tables). t.head) c.of.ensures ∙ c.in_ok-head.ensures) (ap (λ (t : Tables). t.nodes) c.of.ensures)
