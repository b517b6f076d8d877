-- Proof of `counts_of`: how many rows a node starts and sends, or `None` if the rows aren't those of its items.
use Rattle.std.proofs.Common.{◌++◌, sym, ◌∙◌, arith, true≢false}
use Rattle.cpg_table.specs.Items.{starts_of, sends_of, hears_of}
use Rattle.cpg_table.proofs.AfterItems.{after_both, after_neither, after_parts, after_three, not_these}
use Rattle.cpg_table.proofs.AfterItems.{these_where_nothing}
use Rattle.cpg_table.proofs.counts.counts_of.Goals as goal

-- the rows don't begin with those of the starts, so they aren't those of all the node's items
pub returns-in_default-clause-other : goal.returns-in_default-clause-other
returns-in_default-clause-other c =
    let xs = starts_of c.args.head.now c.args.node in
    let ys = sends_of c.args.head.now c.args.node in
    let zs = hears_of c.args.head.now c.args.node in
    not_these (xs ++ (ys ++ zs)) c.args.rows.now (after_neither xs (ys ++ zs) c.args.rows.now c.in_default.ensures)

-- the rows after the starts don't begin with those of the sends, so they aren't those of all items
pub returns-in_default-after_sends-clause-other : goal.returns-in_default-after_sends-clause-other
returns-in_default-after_sends-clause-other c =
    let xs = starts_of c.args.head.now c.args.node in
    let ys = sends_of c.args.head.now c.args.node in
    let zs = hears_of c.args.head.now c.args.node in
    not_these (xs ++ (ys ++ zs)) c.args.rows.now
    (after_neither ys zs c.in-Some.sends.now c.in_default-after_sends.ensures
    ∙ sym (after_both xs (ys ++ zs) c.args.rows.now c.in-Some.sends.now c.in-Some.ensures))

-- the rows after the sends don't begin with those of the hears, so they aren't those of all items
pub returns-in_default-after_hears-clause-other : goal.returns-in_default-after_hears-clause-other
returns-in_default-after_hears-clause-other c =
    let xs = starts_of c.args.head.now c.args.node in
    let ys = sends_of c.args.head.now c.args.node in
    let zs = hears_of c.args.head.now c.args.node in
    not_these (xs ++ (ys ++ zs)) c.args.rows.now
    (c.in_default-after_hears.ensures ∙ sym (after_three xs ys zs c.args.rows.now c.in-Some.sends.now
    c.in-Some-after_sends.hears.now c.in-Some.ensures c.in-Some-after_sends.ensures))

-- a row is left after those of the hears, so they aren't just those of all items
pub returns-then-not-is_empty-clause-other : goal.returns-then-not-is_empty-clause-other
returns-then-not-is_empty-clause-other c =
    let xs = starts_of c.args.head.now c.args.node in
    let ys = sends_of c.args.head.now c.args.node in
    let zs = hears_of c.args.head.now c.args.node in
    λ same. absurd (true≢false (sym (
    (these_where_nothing (xs ++ (ys ++ zs)) c.args.rows.now c.in-Some-after_hears.rest.now
    (c.in-Some-after_hears.ensures ∙ sym (after_three xs ys zs c.args.rows.now c.in-Some.sends.now
    c.in-Some-after_sends.hears.now c.in-Some.ensures c.in-Some-after_sends.ensures))
    c.is_empty.result c.is_empty.ensures).1 same) ∙ c.if-not-is_empty.true))

-- no more rows are left after the starts than there are
pub overflow_sub-result : goal.overflow_sub-result
overflow_sub-result c = omega (
  arith,
  (after_parts (starts_of c.args.head.now c.args.node) c.args.rows.now c.in-Some.sends.now c.in-Some.ensures).1,
)

-- no more rows are left after the sends than after the starts
pub overflow_sub-result-2 : goal.overflow_sub-result-2
overflow_sub-result-2 c = omega (
  arith,
  (after_parts (sends_of c.args.head.now c.args.node) c.in-Some.sends.now c.in-Some-after_sends.hears.now
      c.in-Some-after_sends.ensures).1,
)

-- no row is left, so these are the rows of all the node's items
pub returns-clause-items : goal.returns-clause-items
returns-clause-items c =
    let xs = starts_of c.args.head.now c.args.node in
    let ys = sends_of c.args.head.now c.args.node in
    let zs = hears_of c.args.head.now c.args.node in
    (these_where_nothing (xs ++ (ys ++ zs)) c.args.rows.now c.in-Some-after_hears.rest.now
    (c.in-Some-after_hears.ensures ∙ sym (after_three xs ys zs c.args.rows.now c.in-Some.sends.now
    c.in-Some-after_sends.hears.now c.in-Some.ensures c.in-Some-after_sends.ensures))
    c.is_empty.result c.is_empty.ensures).0 c.if-not-is_empty.false

-- as many rows come before the sends as there are starts
pub returns-clause-starts : goal.returns-clause-starts
returns-clause-starts c = omega (
  arith,
  (after_parts (starts_of c.args.head.now c.args.node) c.args.rows.now c.in-Some.sends.now c.in-Some.ensures).1,
)

-- as many rows come before the hears, after the starts, as there are sends
pub returns-clause-sends : goal.returns-clause-sends
returns-clause-sends c = omega (
  arith,
  (after_parts (sends_of c.args.head.now c.args.node) c.in-Some.sends.now c.in-Some-after_sends.hears.now
      c.in-Some-after_sends.ensures).1,
)
