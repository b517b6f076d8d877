-- Loops of `follow_pieces`: follows all pieces to the end of the stream.
use Rattle.std.proofs.Common.{ℕ, List, ◌≡◌, ◌≤◌, ◌-◌}
use Rattle.cpg_history.specs.Fetch.{Fetch}
use Rattle.cpg_io.specs.Agreement.{LeavesRest}
use Rattle.cpg_io.specs.Shelf.{SameAccess, SameNames}
use Rattle.cpg_live.specs.declared.following.TheConstants.{STREAM_LIMIT}
use Rattle.cpg_live.specs.Following.{IsAlong, IsOfSame}
use Rattle.cpg_outputs.proofs.streaming.follow_pieces.Given as goal

-- `few`: no more bytes were read than the limit. `names`, `access`: what stands under names, and which may be fetched, is
-- unchanged. `rest`: what is left is the rest of the fetched name, if it was so at the start. `same`: the follower has the
-- same head and table. `along`: shelf, sink and follower are as far along the stream as each other, if they were at the
-- start. `later`: the shelf's count of faults didn't fall. `out_kept`: that of the sink is as at the start.
abbrev pub invariant-loop-count : goal.invariant-loop-count
invariant-loop-count g l = record {
  few : l.follower.read ≤ STREAM_LIMIT;
  names : SameNames (g.S.Shelf.state l.fn.shelf) (g.S.Shelf.state l.shelf);
  access : SameAccess (g.S.Shelf.may_fetch l.fn.shelf) (g.S.Shelf.may_fetch l.shelf);
  rest : LeavesRest (g.S.Shelf.state l.fn.shelf) → LeavesRest (g.S.Shelf.state l.shelf);
  same : IsOfSame l.fn.follower l.follower;
  along : (start name : List ℕ) (past : List Fetch) →
      IsAlong name past (g.S.Shelf.state l.fn.shelf).history start (g.O.Sink.state l.fn.out).taken l.fn.follower
      → IsAlong name past (g.S.Shelf.state l.shelf).history start (g.O.Sink.state l.out).taken l.follower;
  later : (g.S.Shelf.state l.fn.shelf).faults ≤ (g.S.Shelf.state l.shelf).faults;
  out_kept : (g.O.Sink.state l.out).faults ≡ (g.O.Sink.state l.fn.out).faults;
}

-- each turn reads at least one byte, so the room up to the limit gets smaller
abbrev pub decreases-loop-count : goal.decreases-loop-count
decreases-loop-count g l = STREAM_LIMIT - l.follower.read
