-- Proof of `process_tables`, which returns a table for each process.
use Rattle.std.proofs.Common.{◌∙◌, ◌++◌, ◌∷◌, [], ap, map}
use Rattle.toml.specs.Data.{table}
use Rattle.toml.specs.View.{view}
use Rattle.cpg_base.specs.Name.{IsName}
use Rattle.cpg_base.specs.declared.process.Process.{Process}
use Rattle.cpg_reader.specs.WrittenTree.{process_members}
use Rattle.cpg_reader.proofs.Members.{all_more, made_more}
use Rattle.cpg_reader.proofs.writing.process_tables.Goals as goal

-- the table of one more process is made
pub loop-process-preserved : goal.loop-process-preserved
loop-process-preserved c =
    let processes = c.processes-process-items.result.now in
    let place = c.loop-process.process-index in
    record {
      made = made_more processes place c.process-item.result c.loop-process-test.true c.process-item.is
          (λ (p : Process). table (process_members c.args.problem.now.nodes p)) (map view c.loop-process.made.items)
          (map view c.push.new.elements.items) c.loop-process.invariant.made
          (c.in_ok-push.ensures
          ∙ ap (λ t. map view c.loop-process.made.items ++ table t ∷ []) c.in_ok-process_table.ensures.table ∙
          ap (λ ns. map view c.loop-process.made.items ++ table (process_members ns c.process-item.result) ∷ [])
          c.nodes.ensures.nodes);
      named = all_more processes place c.process-item.result c.loop-process-test.true c.process-item.is
          (λ (p : Process). IsName p.name) c.loop-process.invariant.named c.in_ok-process_table.ensures.named;
    }
