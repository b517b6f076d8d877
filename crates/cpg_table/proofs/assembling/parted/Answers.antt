-- Proof of `parted`: puts the rows of the items that a node starts and sends apart from the others.
use Rattle.std.proofs.Common.{◌≡◌, ◌∙◌, ◌<◌, ◌∷◌, All, true, false, not, sym, ap, subst, rules}
use Rattle.std.proofs.lemmas.List.Elements.{All-tail}
use Rattle.cpg_base.specs.Graph.{item_count}
use Rattle.cpg_table.specs.Table.{Row}
use Rattle.cpg_table.specs.Writing.{has_own}
use Rattle.cpg_table.proofs.OwnRows.{filter_moved, filter_left}
use Rattle.cpg_table.proofs.assembling.parted.Goals as goal

-- this row is of an item that the node starts or sends, and goes to its own rows
pub loop-row-preserved-in-Continue-1 : goal.loop-row-preserved-in-Continue-1
loop-row-preserved-in-Continue-1 c =
    let problem = c.args.problem.now in
    let node = c.args.node in
    let row = c.in-Some.row in
    let left = c.loop-row.row-iterator.rest.items in
    let rest = c.next.new.self.rest.items in
    let is : left ≡ row ∷ rest = search rules in
    let on : has_own problem node row.item ≡ true =
    ap (has_own problem node) (sym c.item.ensures) ∙ sym c.has_own.ensures ∙ c.if-has_own.true in
    record {
      own = filter_moved (λ (r : Row). has_own problem node r.item) c.args.rows.items c.loop-row.own.items left rest
          row is c.loop-row.invariant.own on c.push.new.self.items c.in_ok-push.ensures.items;
      others =
          filter_left (λ (r : Row). not (has_own problem node r.item)) c.args.rows.items c.loop-row.others.items left
          rest row is c.loop-row.invariant.others (ap not on);
      known = All-tail (λ (r : Row). r.item < item_count problem) row rest
          (subst (All (λ (r : Row). r.item < item_count problem)) is c.loop-row.invariant.known);
    }

-- this row is of an item that the node neither starts nor sends, and goes to the other rows
pub loop-row-preserved : goal.loop-row-preserved
loop-row-preserved c =
    let problem = c.args.problem.now in
    let node = c.args.node in
    let row = c.in-Some.row in
    let left = c.loop-row.row-iterator.rest.items in
    let rest = c.next.new.self.rest.items in
    let is : left ≡ row ∷ rest = search rules in
    let off : has_own problem node row.item ≡ false =
    ap (has_own problem node) (sym c.item.ensures) ∙ sym c.has_own.ensures ∙ c.if-has_own.false in
    record {
      own =
          filter_left (λ (r : Row). has_own problem node r.item) c.args.rows.items c.loop-row.own.items left rest row is
          c.loop-row.invariant.own off;
      others =
          filter_moved (λ (r : Row). not (has_own problem node r.item)) c.args.rows.items c.loop-row.others.items left
          rest row is c.loop-row.invariant.others
          (ap not off) c.push-else-has_own.new.self.items c.in_ok-push-2.ensures.items;
      known = All-tail (λ (r : Row). r.item < item_count problem) row rest
          (subst (All (λ (r : Row). r.item < item_count problem)) is c.loop-row.invariant.known);
    }
