-- Proof of `spanned_row_of`: the row of an item that lasts as long as `span` says.
use Rattle.std.proofs.Common.{◌≡◌, ◌∙◌, ◌≤◌, All, List, ap, subst}
use Rattle.std.proofs.lemmas.Bool.{OnTrue_at}
use Rattle.cpg_base.specs.Graph.{Graph}
use Rattle.cpg_cube.specs.declared.column.Column.{Column}
use Rattle.cpg_violation.proofs.SpaceLaws.{few_of}
use Rattle.cpg_row_trees.proofs.TreeLaws.{tree_of_row}
use Rattle.cpg_check_quick.proofs.spanned_rows.spanned_row_of.Goals as goal

-- the columns and the tree are the item's, the two times bound those of the columns, the span is the given one, and the
-- item is said to be always active only if it is running in the whole space
pub returns : goal.returns
returns c =
    let graph = c.args.admitted.now.graph in
    let same = c.columns_of-columns.ensures.columns in
    -- the space is of the graph's faults
    let faults : c.faults.result ≡ graph.faults =
    c.faults.ensures.faults ∙ ap (λ (h : Graph). h.faults) c.problem.ensures.problem in
    λ lasts span. record {
      item = c.requires.item;
      columns = same;
      tree = tree_of_row graph c.args.tables.now.nodes c.args.trees.now c.args.item c.requires.trees c.requires.item
          c.index-trees-item.result c.index-trees-item.is;
      -- the two times bound those of the columns
      first = subst (λ (columns : List Column). All (λ (d : Column). c.first_time.result ≤ d.time) columns) same
          c.first_time.ensures.all;
      last = subst (λ (columns : List Column). All (λ (d : Column). d.time ≤ c.last_time.result) columns) same
          c.last_time.ensures.all;
      -- the span is the given one, and an item that runs in the whole space is always active
      span = span;
      always = λ e s law. OnTrue_at e c.is_item_running.ensures s law
          (c.whole-everywhere.ensures.lies s (few_of graph c.faults.result faults s law));
    }
