-- Proof of `node_named`, which returns the table of the first node that has this name, to be written as a text.
use Rattle.std.proofs.Common.{rules, ◌≡◌, ◌<◌, Some, length, refl}
use Rattle.cpg_app.specs.Causes.{first_named}
use Rattle.cpg_app.proofs.work.node_named.Goals as goal

-- the tables have a node of this name, and the text is of it
pub returns-clause-text : goal.returns-clause-text
returns-clause-text c =
    let named : first_named c.args.tables.head c.args.name.now ≡ Some c.in-Some.node = search rules in
    let within : c.in-Some.node < length c.args.tables.head.nodes = search rules in
    (within, record { node = c.in-Some.node; named = named; spelled = refl })
