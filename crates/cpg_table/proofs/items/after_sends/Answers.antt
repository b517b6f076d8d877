-- Proof of `after_sends`: the rows after those of the items that a node sends, or `None` if other rows stand
-- there.
use Rattle.std.proofs.Common.{rules, sym, ap, ◌∙◌, ◌==◌, ◌<◌, [], length, ltb, cond, lt-ltb, arith}
use Rattle.std.proofs.lemmas.Bool.{cond-true}
use Rattle.cpg_table.specs.Items.{numbers_where, leaves, first_message, first_broadcast, conditioned, after_items}
use Rattle.cpg_table.proofs.AfterItems.{after_both, after_neither}
use Rattle.cpg_table.proofs.items.after_sends.Goals as goal

-- the rows don't begin with those of the messages, so they don't with those of all that is sent
pub returns-in_default : goal.returns-in_default
returns-in_default c = search (rules, after_neither)

-- with more than one node the broadcasts come after the messages
pub returns-then-nodes-gt1 : goal.returns-then-nodes-gt1
returns-then-nodes-gt1 c =
    let head = c.args.head.now in
    let broadcasts = numbers_where (λ p. p.node == c.args.node) (first_broadcast head) (conditioned head) in
    let two : 1 < length head.nodes = omega (arith, ap length c.nodes.ensures.nodes) in
    c.after_broadcasts.ensures
    ∙ ap (λ xs. after_items xs c.in-Some.rest.now)
    (sym (cond-true (ltb 1 (length head.nodes)) broadcasts [] (lt-ltb 1 (length head.nodes) two)))
    ∙ sym (after_both (numbers_where (leaves head c.args.node) (first_message head) head.edges)
    (cond (ltb 1 (length head.nodes)) broadcasts []) c.args.rows.now c.in-Some.rest.now c.in-Some.ensures)
