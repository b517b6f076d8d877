-- Proof of `NodeProgress::new`: the node of a table before its first turn.
use Rattle.std.proofs.Common.{◌≡◌, ◌≤◌, length, arith, sym, ap, subst, rules}
use Rattle.std.specs.Vec.{vec_capacity}
use Rattle.cpg_table.specs.Lawful.{IsTable}
use Rattle.cpg_node.specs.Dispatcher.{initial_dispatcher}
use Rattle.cpg_node.specs.State.{NodeState}
use Rattle.cpg_node.specs.Instants.{entries_left}
use Rattle.cpg_node.proofs.Rooms.{room_open}
use Rattle.cpg_live.proofs.progress.NodeProgress.new.Goals as goal

-- the table is lawful, no act is there yet, and the room that was asked for is that of all entries
pub invariant_of-result : goal.invariant_of-result
invariant_of-result c =
    let room : c.in-Some.entries ≤ vec_capacity c.reserve.new.self = search rules in
    let none : length c.reserve.new.self.items ≡ 0 = search rules in
    record {
      made =
          subst (λ (s : NodeState). IsTable s.dispatcher.table) (sym c.in_ok-node.ensures) c.count_entries.ensures.made;
      room = omega (
        arith,
        room,
        none,
        ap (λ (s : NodeState). length (entries_left s.dispatcher)) c.in_ok-node.ensures,
        room_open (initial_dispatcher c.args.table),
        c.in-Some.ensures.count,
      );
    }
