-- Proof of `Follower::new`: a node of these tables before the first byte of its stream.
use Rattle.std.proofs.Common.{◌≡◌, ◌∙◌, [], refl, sym, ap, arith}
use Rattle.cpg_table.specs.Table.{table_at}
use Rattle.cpg_live.specs.Stream.{LiveState, open_stream}
use Rattle.cpg_live.specs.LinesKept.{entry_count}
use Rattle.cpg_live.proofs.Along.{opened}
use Rattle.cpg_live.proofs.following.Follower.new.Goals as goal

-- no byte is fed and no act told, and the room that was asked for is that of all lines and one more
pub invariant_of-result : goal.invariant_of-result
invariant_of-result c =
    let is = c.in_ok-live.ensures in
    let same = ap (λ (s : LiveState). s.progress.dispatcher.table) is in
    record {
      fed = [];
      live = is ∙ ap open_stream (sym same);
      read = refl;
      few = omega arith;
      told = omega arith;
      room = omega (arith, c.in_ok-reserve.ensures.ok, c.in-Some.ensures, ap entry_count same);
    }

-- the head and the table are those of the tables, and the state is that before the first byte
pub returns : goal.returns
returns c = opened c.args.tables.head c.into_node-head.result.0
    (table_at c.args.tables.nodes c.args.node) c.into_node-head.result.1 c.in_ok-live.live c.into_node-head.ensures.head
    c.into_node-head.ensures.table c.in_ok-live.ensures
