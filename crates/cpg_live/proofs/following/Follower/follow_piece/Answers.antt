-- Proof of `Follower::follow_piece`: follows the next piece: reads it, feeds it, and writes the lines of the acts
-- that it brings, before anything else is read.
use Rattle.std.proofs.Common.{rules, ◌≡◌, ◌∙◌, ◌<◌, ◌≤◌, true, false, None, Some, arith, ap, refl, subst}
use Rattle.std.specs.Prelude.{is_err}
use Rattle.cpg_io.specs.Sink.{Took, TookPrefix}
use Rattle.cpg_live.specs.declared.following.TheConstants.{STREAM_LIMIT}
use Rattle.cpg_live.specs.Follower.{Follower}
use Rattle.cpg_live.specs.Streams.{act_lines}
use Rattle.cpg_live.proofs.Along.{along_at, fed_cut, fed_lawless, fed_long, fed_on, lines_told, on_err, on_ok, unread}
use Rattle.cpg_live.proofs.Along.{wrote_all}
use Rattle.cpg_live.proofs.following.Follower.follow_piece.Goals as goal

-- the shelf met a fault, so the stream breaks there, and the lines of all acts so far are written
pub returns-in_default-clause-along : goal.returns-in_default-clause-along
returns-in_default-clause-along g c start name past a =
    let shelf = g.S.Shelf.state c.args.shelf.now in
    let rest = g.S.Shelf.state c.feed_piece.new.shelf in
    let out = g.O.Sink.state c.args.out.now in
    unread name past shelf.history rest.history start out.taken c.args.self.now out a c.in_default.ensures.failed refl

-- the sink met a fault, so a part of the lines was written and the stream is cut off
pub returns-then-is_err-clause-along : goal.returns-then-is_err-clause-along
returns-then-is_err-clause-along g c start name past a =
    let before = c.args.self.now in
    -- the follower after the piece, the shelf before and after it, and what `out` had taken before its lines and after them
    let fed = c.feed_piece.new.self in
    let shelf = g.S.Shelf.state c.args.shelf.now in
    let rest = g.S.Shelf.state c.feed_piece.new.shelf in
    let taken_before = (g.O.Sink.state c.args.out.now).taken in
    let taken_after = (g.O.Sink.state c.tell.new.out).taken in
    -- the fetch of the stream and the state after the piece
    let along = fed_on name past shelf rest c.in-Ok.fed.count start taken_before before fed a c.in-Ok.ensures.piece in
    let failed : is_err c.tell.result ≡ true = search rules in
    -- the sink has counted a fault, and took a proper prefix of the lines
    record {
      fetch = along.fetch;
      named = along.named;
      history_is = along.history_is;
      is = (
        on_err c.tell.result failed c.tell.ensures.cause.failed,
        fed_cut name past rest.history start taken_before taken_after before.head before.table
            before.live.progress.acts before.told fed.read fed.live along
            (subst (TookPrefix taken_before taken_after) (lines_told shelf rest before fed c.in-Ok.fed.count
            c.in-Ok.ensures.piece)
            (on_err c.tell.result failed c.tell.ensures.part)),
      );
    }

-- the piece has a lawless record, so the stream is refused by it, and all lines before are written
pub returns-in-Some-clause-along : goal.returns-in-Some-clause-along
returns-in-Some-clause-along g c start name past a =
    let before = c.args.self.now in
    -- the follower after the piece, the shelf before and after it, and what `out` had taken before its lines and after them
    let fed = c.feed_piece.new.self in
    let shelf = g.S.Shelf.state c.args.shelf.now in
    let rest = g.S.Shelf.state c.feed_piece.new.shelf in
    let taken_before = (g.O.Sink.state c.args.out.now).taken in
    let taken_after = (g.O.Sink.state c.tell.new.out).taken in
    -- the fetch of the stream and the state after the piece
    let along = fed_on name past shelf rest c.in-Ok.fed.count start taken_before before fed a c.in-Ok.ensures.piece in
    -- all lines were written, and the piece has a lawless record
    let told_all : is_err c.tell.result ≡ false = search rules in
    let lawless : fed.live.lawless ≡ Some c.in-Some.lawless = search rules in
    -- the stream is refused by it, after all lines
    record {
      fetch = along.fetch;
      named = along.named;
      history_is = along.history_is;
      is = (
        act_lines before.head fed.live.progress.acts,
        fed_lawless name past rest.history start taken_before taken_after before.head before.table
            before.live.progress.acts before.told fed.read fed.live along
            c.in-Some.lawless lawless,
        record {
          faultless = on_ok c.tell.result told_all c.tell.ensures.cause.kept;
          taken =
              wrote_all name past rest.history start taken_before taken_after before.head before.table
              before.live.progress.acts before.told fed.read fed.live along
              (subst (Took taken_before taken_after) (lines_told shelf rest before fed c.in-Ok.fed.count
              c.in-Ok.ensures.piece)
              (on_ok c.tell.result told_all c.tell.ensures.whole));
        },
      );
    }

-- the piece goes past the limit, so the stream is too long, and all lines are written
pub returns-then-self-gt-STREAM_LIMIT-clause-along : goal.returns-then-self-gt-STREAM_LIMIT-clause-along
returns-then-self-gt-STREAM_LIMIT-clause-along g c start name past a =
    let before = c.args.self.now in
    -- the follower after the piece, the shelf before and after it, and what `out` had taken before its lines and after them
    let fed = c.feed_piece.new.self in
    let shelf = g.S.Shelf.state c.args.shelf.now in
    let rest = g.S.Shelf.state c.feed_piece.new.shelf in
    let taken_before = (g.O.Sink.state c.args.out.now).taken in
    let taken_after = (g.O.Sink.state c.tell.new.out).taken in
    -- the fetch of the stream and the state after the piece
    let along = fed_on name past shelf rest c.in-Ok.fed.count start taken_before before fed a c.in-Ok.ensures.piece in
    -- all lines were written, no record is lawless, and the bytes are more than the limit
    let told_all : is_err c.tell.result ≡ false = search rules in
    let none : fed.live.lawless ≡ None = search rules in
    let read : c.self.inside.read ≡ fed.read = ap (λ (f : Follower). f.read) (c.self.view_is ∙ c.tell.ensures.state) in
    let over : STREAM_LIMIT < fed.read = omega (arith, c.if-self-gt-STREAM_LIMIT.true, read) in
    -- the stream is refused as too long, after all lines
    record {
      fetch = along.fetch;
      named = along.named;
      history_is = along.history_is;
      is = (
        act_lines before.head fed.live.progress.acts,
        fed_long name past rest.history start taken_before taken_after before.head before.table
            before.live.progress.acts before.told fed.read
            fed.live along none over,
        record {
          faultless = on_ok c.tell.result told_all c.tell.ensures.cause.kept;
          taken =
              wrote_all name past rest.history start taken_before taken_after before.head before.table
              before.live.progress.acts before.told fed.read fed.live along
              (subst (Took taken_before taken_after) (lines_told shelf rest before fed c.in-Ok.fed.count
              c.in-Ok.ensures.piece)
              (on_ok c.tell.result told_all c.tell.ensures.whole));
        },
      );
    }

-- the piece is lawful and within the limit, so the follower is along the stream, with all lines written
pub returns-clause-along : goal.returns-clause-along
returns-clause-along g c start name past a =
    let before = c.args.self.now in
    -- the follower after the piece, the shelf before and after it, and what `out` had taken before its lines and after them
    let fed = c.feed_piece.new.self in
    let shelf = g.S.Shelf.state c.args.shelf.now in
    let rest = g.S.Shelf.state c.feed_piece.new.shelf in
    let taken_before = (g.O.Sink.state c.args.out.now).taken in
    let taken_after = (g.O.Sink.state c.tell.new.out).taken in
    let told_all : is_err c.tell.result ≡ false = search rules in
    let none : fed.live.lawless ≡ None = search rules in
    let read : c.self.inside.read ≡ fed.read = ap (λ (f : Follower). f.read) (c.self.view_is ∙ c.tell.ensures.state) in
    let within : fed.read ≤ STREAM_LIMIT = omega (arith, c.if-self-gt-STREAM_LIMIT.false, read) in
    along_at name past shelf rest c.in-Ok.fed.count start taken_before taken_after before fed c.tell.new.self a
    c.in-Ok.ensures.piece none within
    (subst (Took taken_before taken_after) (lines_told shelf rest before fed c.in-Ok.fed.count c.in-Ok.ensures.piece)
    (on_ok c.tell.result told_all c.tell.ensures.whole)) c.tell.ensures.state

-- a piece that can't be read leaves the follower as it was
pub returns-in_default-clause-left : goal.returns-in_default-clause-left
returns-in_default-clause-left g c = c.in_default.ensures.same

-- the piece was fed, and its lines count as written though the sink met a fault
pub returns-then-is_err-clause-left : goal.returns-then-is_err-clause-left
returns-then-is_err-clause-left g c = record {
  count = c.in-Ok.fed.count;
  fed = c.feed_piece.new.self;
  piece = c.in-Ok.ensures.piece;
  told = c.tell.ensures.state;
}

-- the piece was fed, and its lines were written
pub returns-in-Some-clause-left : goal.returns-in-Some-clause-left
returns-in-Some-clause-left g c = record {
  count = c.in-Ok.fed.count;
  fed = c.feed_piece.new.self;
  piece = c.in-Ok.ensures.piece;
  told = c.tell.ensures.state;
}

-- the piece was fed, and its lines were written
pub returns-then-self-gt-STREAM_LIMIT-clause-left : goal.returns-then-self-gt-STREAM_LIMIT-clause-left
returns-then-self-gt-STREAM_LIMIT-clause-left g c = record {
  count = c.in-Ok.fed.count;
  fed = c.feed_piece.new.self;
  piece = c.in-Ok.ensures.piece;
  told = c.tell.ensures.state;
}

-- the piece was fed, and its lines were written
pub returns-clause-left : goal.returns-clause-left
returns-clause-left g c = record {
  count = c.in-Ok.fed.count;
  fed = c.feed_piece.new.self;
  piece = c.in-Ok.ensures.piece;
  told = c.tell.ensures.state;
}
