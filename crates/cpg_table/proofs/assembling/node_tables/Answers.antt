-- Proof of `node_tables`: the tables of the nodes, each with the rows that it hears.
use Rattle.std.proofs.Common.{◌≡◌, ◌∙◌, ◌<◌, ◌++◌, ◌∷◌, List, [], length, map, get_or, ℕ, refl, sym, ap, ap₂, subst}
use Rattle.std.proofs.Common.{arith, rules}
use Rattle.std.specs.List.{range_with_len}
use Rattle.cpg_base.specs.Graph.{item_count}
use Rattle.cpg_head.specs.GraphHead.{head_of}
use Rattle.cpg_table.specs.Lawful.{AreRowsOf, IsTableOf}
use Rattle.cpg_table.specs.Table.{Row}
use Rattle.cpg_table.specs.Writing.{hears_at, own_rows, IsTableWith}
use Rattle.cpg_table.proofs.NodeRows.{are_rows}
use Rattle.cpg_table.proofs.OwnRows.{view_count, view_first, still_there, still_known, all_known, node_rows}
use Rattle.cpg_table.proofs.TablesWith.{table_pushed}
use Rattle.cpg_table.proofs.assembling.node_tables.Goals as goal

-- at the start there is no table, and all rows are left
pub loop-heard-init : goal.loop-heard-init
loop-heard-init c =
    let problem = c.args.problem.now in
    let rows = c.args.rows.items in
    let all = c.args.hears.items in
    let left = c.into_iter-heard-iterator.result.rest.items in
    let whole : left ≡ all = search rules in
    let many : length left ≡ length problem.nodes =
    ap length whole ∙ view_count (λ h. h.items) (hears_at problem rows) (length problem.nodes) all c.requires.hears in
    let none : c.reserve.new.self.items ≡ [] = c.in_ok-reserve.ensures.items ∙ c.new-tables.ensures.items in
    record {
      count = omega (arith, many);
      hears = ap (map (λ h. h.items)) whole ∙ c.requires.hears
          ∙ ap (λ n. map (hears_at problem rows) (range_with_len 0 n)) (sym many);
      tables = record { long = ap length none; each = λ node l. absurd (omega (arith, l)) };
      left = λ m l. refl;
      items = all_known problem rows c.requires.rows;
    }

-- the rows left still have all own rows of this node (`own`), and the iterator its heard rows next (`heard`): these are the
-- rows of its table
pub node_table-requires : goal.node_table-requires
node_table-requires c =
    let problem = c.args.problem.now in
    let rows = c.args.rows.items in
    let node = c.loop-heard.node in
    let inv = c.loop-heard.invariant in
    let left = c.loop-heard.heard-iterator.rest.items in
    let rest = c.next.new.self.rest.items in
    let within = c.nodes-nodes.ensures.within in
    let is : left ≡ c.in-Some.heard ∷ rest = search rules in
    let is_node : node < length problem.nodes = omega (arith, inv.count, ap length is) in
    let own : c.in_ok-own.field-0.own.items ≡ own_rows problem node rows =
    c.in_ok-own.ensures.own ∙ inv.left node (omega arith) in
    let heard : c.in-Some.heard.items ≡ hears_at problem rows node =
    (view_first (λ h. h.items) (hears_at problem rows) node left rest c.in-Some.heard is inv.hears).0 in
    subst (λ h. AreRowsOf h node (c.in_ok-own.field-0.own.items ++ c.in-Some.heard.items)) (sym c.requires.head)
    (subst (AreRowsOf (head_of problem) node)
    (sym (ap₂ (λ (xs ys : List Row). xs ++ ys) own heard ∙ node_rows problem within node rows c.requires.rows))
    (are_rows problem within rows c.requires.rows node is_node))

-- the table of this node is made, and the rows that other nodes start or send are left
pub loop-heard-preserved : goal.loop-heard-preserved
loop-heard-preserved c =
    let problem = c.args.problem.now in
    let rows = c.args.rows.items in
    let node = c.loop-heard.node in
    let inv = c.loop-heard.invariant in
    let left = c.loop-heard.heard-iterator.rest.items in
    let rest = c.next.new.self.rest.items in
    let table = c.in_ok-table.table in
    let within = c.nodes-nodes.ensures.within in
    let is : left ≡ c.in-Some.heard ∷ rest = search rules in
    let first = view_first (λ h. h.items) (hears_at problem rows) node left rest c.in-Some.heard is inv.hears in
    let own : c.in_ok-own.field-0.own.items ≡ own_rows problem node rows =
    c.in_ok-own.ensures.own ∙ inv.left node (omega arith) in
    let others = c.in_ok-own.ensures.others in
    -- the new table is the one of the node, with its own rows and those that it hears
    let new : IsTableWith problem rows node table = record {
      table = subst (λ h. IsTableOf h node table) c.requires.head c.in_ok-table.ensures.table;
      stands = c.in_ok-table.ensures.rows ∙ ap₂ (λ (xs ys : List Row). xs ++ ys) own first.0
          ∙ node_rows problem within node rows c.requires.rows;
    } in
    record {
      count = omega (arith, inv.count, ap length is);
      hears = first.1;
      tables = table_pushed problem rows node c.loop-heard.tables.items c.push.new.self.items table inv.tables new
          c.in_ok-push.ensures.items;
      left = λ m l. ap (own_rows problem m) others ∙ still_there problem m node c.loop-heard.left.items
          (λ e. absurd (omega (arith, e, l))) ∙ inv.left m (omega (arith, l));
      items = subst (λ rs. (k : ℕ) (d : Row) → k < length rs → (get_or rs k d).item < item_count problem) (sym others)
          (still_known problem node c.loop-heard.left.items inv.items);
    }
