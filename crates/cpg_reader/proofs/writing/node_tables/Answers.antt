-- Proof of `node_tables`, which returns a table for each node.
use Rattle.std.proofs.Common.{◌∙◌, ◌++◌, ◌∷◌, [], ap, map}
use Rattle.toml.specs.Data.{table}
use Rattle.toml.specs.View.{view}
use Rattle.cpg_base.specs.Name.{IsName}
use Rattle.cpg_reader.specs.WrittenTree.{node_members}
use Rattle.cpg_reader.proofs.Members.{all_more, made_more}
use Rattle.cpg_reader.proofs.writing.node_tables.Goals as goal

-- the table of one more node is made
pub loop-name-preserved : goal.loop-name-preserved
loop-name-preserved c =
    let names = c.nodes-name-items.result.now in
    let place = c.loop-name.name-index in
    record {
      made = made_more names place c.name-item.result c.loop-name-test.true c.name-item.is (λ n. table (node_members n))
          (map view c.loop-name.made.items)
          (map view c.push.new.elements.items) c.loop-name.invariant.made
          (c.in_ok-push.ensures
          ∙ ap (λ t. map view c.loop-name.made.items ++ table t ∷ []) c.in_ok-node_table.ensures.table);
      named = all_more names place c.name-item.result c.loop-name-test.true c.name-item.is IsName
          c.loop-name.invariant.named
          c.in_ok-node_table.ensures.named;
    }
