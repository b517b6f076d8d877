-- Proof of `heard`: the row that is heard of an item: its own row, later by the sender's slot.
use Rattle.std.proofs.Common.{◌≡◌, ◌∙◌, ◌<◌, ◌^◌, ℕ, List, map, All, sym, ap, ap₂, subst, arith}
use Rattle.std.proofs.lemmas.List.{get_or_default}
use Rattle.std.proofs.lemmas.List.Elements.{All-weaker}
use Rattle.cpg_base.specs.Graph.{home}
use Rattle.cpg_base.specs.Bus.{slot_length}
use Rattle.cpg_table.specs.Table.{Row}
use Rattle.cpg_cube.specs.declared.column.Column.{Column}
use Rattle.cpg_table.specs.Valid.{later_by}
use Rattle.cpg_table.specs.Writing.{row_for, IsWritable}
use Rattle.cpg_table.proofs.NodeRows.{no_row, long, writable, slot_short}
use Rattle.cpg_table.proofs.assembling.heard.Goals as goal

-- there is a row for each item of the graph, and this is one
pub bounds-rows-item : goal.bounds-rows-item
bounds-rows-item c = omega (arith, c.requires.item, long c.args.problem.now c.args.rows.now c.requires.rows)

-- the row is the item's (`is`), and a writable row has times below 2 ^ 59
pub later-requires-clause-times : goal.later-requires-clause-times
later-requires-clause-times c =
    let problem = c.args.problem.now in
    let rows = c.args.rows.now in
    let item = c.args.item in
    let is : c.columns.result.now ≡ (row_for rows item).columns = c.columns.ensures ∙ ap (λ (row : Row). row.columns)
    (c.index-rows-item.is ∙ get_or_default rows item c.index-rows-item.result no_row
    (omega (arith, c.requires.item, long problem rows c.requires.rows))) in
    subst (All (λ (e : Column). e.time < 2 ^ 59)) (sym is)
    (All-weaker (IsWritable problem) (λ (e : Column). e.time < 2 ^ 59) (λ e w. w.time) (row_for rows item).columns
    (writable problem rows c.requires.rows item c.requires.item))

-- the length of a slot is below 2 ^ 59 in a graph within the limits
pub later-requires-clause-delay : goal.later-requires-clause-delay
later-requires-clause-delay c = subst (λ n. n < 2 ^ 59) (sym c.slot_length-delay.ensures)
    (slot_short c.args.problem.now c.nodes-nodes.ensures.within c.home.result)

-- rows of an item with equal columns are equal
same_row : (x : ℕ) (a b : List Column) → a ≡ b →
    (let row : Row = record { item = x; columns = a } in row) ≡ record { item = x; columns = b }
same_row x a b e = cc

-- the row that is made is that of the item, later by the sender's slot
pub returns : goal.returns
returns c =
    let problem = c.args.problem.now in
    let rows = c.args.rows.now in
    let item = c.args.item in
    let is : c.columns.result.now ≡ (row_for rows item).columns = c.columns.ensures ∙ ap (λ (row : Row). row.columns)
    (c.index-rows-item.is ∙ get_or_default rows item c.index-rows-item.result no_row
    (omega (arith, c.requires.item, long problem rows c.requires.rows))) in
    c.new.ensures
    ∙ same_row item c.in_ok-columns.columns.items (map (later_by (slot_length problem (home problem item)))
    (row_for rows item).columns) (c.in_ok-columns.ensures
    ∙ ap₂ (λ d cs. map (later_by d) cs) (c.slot_length-delay.ensures ∙ ap (slot_length problem) c.home.ensures.home) is)
