-- Proof of `NodeTable::of`: the table of a node with the lawful rows of its items.
use Rattle.std.proofs.Common.{◌≡◌, ◌∙◌, ◌++◌, All, List, take, drop, sym, ap, ap₂, subst}
use Rattle.cpg_table.specs.Table.{Row}
use Rattle.cpg_table.specs.Shape.{items_of}
use Rattle.cpg_table.specs.Items.{starts_of, sends_of, hears_of}
use Rattle.cpg_table.specs.Lawful.{IsLawfulRow, space_of}
use Rattle.std.proofs.lemmas.List.{take-append-drop}
use Rattle.cpg_table.proofs.TableRows.{first_items, second_items, third_items}
use Rattle.cpg_table.proofs.node_table.NodeTable.of.Goals as goal

-- the rows are cut into starts, sends and hears, which together are all the rows
pub returns-clause-table : goal.returns-clause-table
returns-clause-table c =
    let rows : List Row = c.args.rows.items in
    let start_count = c.args.counts.starts in
    let send_count = c.args.counts.sends in
    let xs = starts_of c.args.head.now c.args.node in
    let ys = sends_of c.args.head.now c.args.node in
    let zs = hears_of c.args.head.now c.args.node in
    let is : items_of rows ≡ xs ++ (ys ++ zs) = c.requires.rows.items in
    -- the starts are the first `start_count` rows, the sends the next `send_count`, and the hears the others
    let starts : c.split_off.new.self.items ≡ take start_count rows = c.in_ok-sends.ensures.items in
    let rest : c.in_ok-sends.sends.items ≡ drop start_count rows = c.in_ok-sends.ensures.tail in
    let sends : c.split_off-2.new.self.items ≡ take send_count (drop start_count rows) =
    c.in_ok-hears.ensures.items ∙ ap (take send_count) rest in
    let hears : c.in_ok-hears.hears.items ≡ drop send_count (drop start_count rows) =
    c.in_ok-hears.ensures.tail ∙ ap (drop send_count) rest in
    let all : c.split_off.new.self.items ++ (c.split_off-2.new.self.items ++ c.in_ok-hears.hears.items) ≡ rows =
    ap₂ (λ ps qs. ps ++ qs) starts
    (ap₂ (λ ps qs. ps ++ qs) sends hears ∙ take-append-drop send_count (drop start_count rows))
    ∙ take-append-drop start_count rows in
    -- each part has the items of its kind, and all rows are lawful
    record {
      faults = c.faults.ensures.faults;
      first_broadcast = c.first_broadcast.ensures;
      own = c.in_ok-own.ensures;
      starts = ap items_of starts ∙ first_items rows xs ys zs is start_count c.requires.starts;
      sends =
          ap items_of sends ∙ second_items rows xs ys zs is start_count send_count c.requires.starts c.requires.sends;
      hears =
          ap items_of hears ∙ third_items rows xs ys zs is start_count send_count c.requires.starts c.requires.sends;
      lawful = subst (All (IsLawfulRow (space_of c.args.head.now))) (sym all) c.requires.rows.lawful;
    }

-- the table is one of the node by the answer above, and the head is within the limits
pub invariant_of-result : goal.invariant_of-result
invariant_of-result c =
    record { head = c.args.head.now; node = c.args.node; lawful = c.faults.ensures.within; of = returns-clause-table c }
