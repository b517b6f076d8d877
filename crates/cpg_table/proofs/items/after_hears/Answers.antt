-- Proof of `after_hears`: the rows after those of the items that a node hears, or `None` if other rows stand
-- there.
use Rattle.std.proofs.Common.{rules, sym, ◌∙◌, ◌==◌, not}
use Rattle.cpg_table.specs.Items.{numbers_where, enters, first_message, first_broadcast, conditioned}
use Rattle.cpg_table.proofs.AfterItems.{after_both, after_neither}
use Rattle.cpg_table.proofs.items.after_hears.Goals as goal

-- the rows don't begin with those of the messages, so they don't with those of all that is heard
pub returns-in_default : goal.returns-in_default
returns-in_default c = search (rules, after_neither)

-- the broadcasts of the other nodes come after the messages to this one
pub returns : goal.returns
returns c =
    let head = c.args.head.now in
    c.after_broadcasts.ensures
    ∙ sym (after_both (numbers_where (enters head c.args.node) (first_message head) head.edges)
    (numbers_where (λ p. not (p.node == c.args.node)) (first_broadcast head) (conditioned head)) c.args.rows.now
    c.in-Some.rest.now c.in-Some.ensures)
