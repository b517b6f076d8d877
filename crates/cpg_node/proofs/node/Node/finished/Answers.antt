-- Proof of `Node::finished`: notes an execution that ended at a time, maybe early.
use Rattle.std.proofs.Common.{ap, sym, ◌∙◌, length, ◌≡◌, subst, arith, List, Option}
use Rattle.std.specs.Vec.{with_items}
use Rattle.std.proofs.lemmas.List.{with_items_is}
use Rattle.cpg_node.specs.Dispatcher.{Running, next, zip_with, with_report}
use Rattle.cpg_node.specs.State.{AreTimed}
use Rattle.cpg_node.proofs.Turning.{length_zip, timed_reported, next_reported}
use Rattle.cpg_node.proofs.node.Node.finished.Goals as goal

-- what runs after the report: each process's execution with the report, if it is its own
runs : (c : goal.After-self-1) →
    (with_items c.self.inside.running c.note_report.new.running).items
    ≡ zip_with (with_report c.args.ended) c.self.inside.table.own c.self.inside.running.items
runs c = with_items_is c.self.inside.running c.note_report.new.running (omega arith) ∙ cc

-- a report changes what runs, but no start and no possible end, so the next instant stays
pub invariant_of-self : goal.invariant_of-self
invariant_of-self c =
    let inside = c.self.inside in
    record {
      made = c.self.invariant.made;
      -- there is still one for each process, with the same start
      count =
          ap length (runs c) ∙ length_zip (with_report c.args.ended) inside.table.own inside.running.items
          c.self.invariant.count;
      mirror = c.self.invariant.mirror;
      starts = subst AreTimed (sym (runs c))
          (timed_reported c.args.ended inside.table.own inside.running.items c.self.invariant.starts);
      planned = c.self.invariant.planned;
      early = c.self.invariant.early;
      entries = c.self.invariant.entries;
      times = c.self.invariant.times;
      instants = c.self.invariant.instants;
      next = c.self.invariant.next ∙ sym (ap (λ (r : List (Option Running)).
          next (record { table = inside.table; heard = inside.heard.items; running = r; last = inside.last })) (runs c)
          ∙ next_reported c.args.ended inside.table inside.heard.items inside.running.items inside.last);
      room = c.self.invariant.room;
      due_room = c.self.invariant.due_room;
    }
