-- Proof of `are_table_rows`: whether all rows of a table are lawful.
use Rattle.std.proofs.Common.{◌↔◌, IsTrue, All, List, subst}
use Rattle.cpg_table.specs.Table.{Row}
use Rattle.cpg_table.specs.Lawful.{IsLawfulRow}
use Rattle.cpg_table.proofs.TableRows.{not_first, not_second, if_third}
use Rattle.cpg_table.proofs.node_table.are_table_rows.Goals as goal

-- a start row isn't lawful, so not all rows are
pub returns-then-not-are_rows : goal.returns-then-not-are_rows
returns-then-not-are_rows c =
    let table = c.args.table.now in
    not_first (IsLawfulRow c.args.space) table.starts table.sends table.hears c.are_rows.result
    (subst (λ (rows : List Row). IsTrue c.are_rows.result ↔ All (IsLawfulRow c.args.space) rows) c.starts.ensures.starts
    c.are_rows.ensures) c.if-not-are_rows.true

-- a send row isn't lawful, so not all rows are
pub returns-then-not-are_rows-2 : goal.returns-then-not-are_rows-2
returns-then-not-are_rows-2 c =
    let table = c.args.table.now in
    not_second (IsLawfulRow c.args.space) table.starts table.sends table.hears c.are_rows-2.result
    (subst (λ (rows : List Row). IsTrue c.are_rows-2.result ↔ All (IsLawfulRow c.args.space) rows) c.sends.ensures.sends
    c.are_rows-2.ensures) c.if-not-are_rows-2.true

-- the first two kinds of rows are lawful, so the test of the third decides
pub returns : goal.returns
returns c =
    let table = c.args.table.now in
    if_third (IsLawfulRow c.args.space) table.starts table.sends table.hears
    (subst (λ (rows : List Row). All (IsLawfulRow c.args.space) rows) c.starts.ensures.starts
    (c.are_rows.ensures.0 c.if-not-are_rows.false))
    (subst (λ (rows : List Row). All (IsLawfulRow c.args.space) rows) c.sends.ensures.sends
    (c.are_rows-2.ensures.0 c.if-not-are_rows-2.false))
    c.are_rows-3.result
    (subst (λ (rows : List Row). IsTrue c.are_rows-3.result ↔ All (IsLawfulRow c.args.space) rows) c.hears.ensures.hears
    c.are_rows-3.ensures)
