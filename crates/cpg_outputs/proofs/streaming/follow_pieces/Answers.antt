-- Proof of `follow_pieces`: follows all pieces to the end of the stream.
use Rattle.std.proofs.Common.{◌∙◌, arith, subst}
use Rattle.cpg_live.specs.Following.{IsAlongAt}
use Rattle.cpg_live.proofs.Along.{breaks_on}
use Rattle.cpg_outputs.proofs.streaming.follow_pieces.Goals as goal

-- the pieces before were followed, and this one broke off
pub returns-in-Err-clause-along : goal.returns-in-Err-clause-along
returns-in-Err-clause-along g c start name past a =
    let before = c.loop-count.invariant in
    breaks_on c.args.follower.now c.loop-count.follower name past (g.S.Shelf.state c.follow_piece.new.shelf).history
    start (g.O.Sink.state c.args.out.now) (g.O.Sink.state c.loop-count.out)
    (g.O.Sink.state c.follow_piece.new.out) c.in-Err.broken before.same before.out_kept
    (c.in-Err.ensures.along start name past (before.along start name past a))

-- the piece is empty, so the stream has come to its end
pub returns-then-count-eq0-clause-along : goal.returns-then-count-eq0-clause-along
returns-then-count-eq0-clause-along g c start name past a =
    subst (λ n. IsAlongAt n name past (g.S.Shelf.state c.follow_piece.new.shelf).history start
    (g.O.Sink.state c.follow_piece.new.out).taken c.follow_piece.new.self) c.if-count-eq0.true
    (c.in-Ok.ensures.along start name past (c.loop-count.invariant.along start name past a))

-- one piece more was followed: each fact holds from the start to before the piece, and from there to after it
pub loop-count-preserved : goal.loop-count-preserved
loop-count-preserved g c =
    let before = c.loop-count.invariant in
    let after = c.in-Ok.ensures in
    record {
      few = after.within;
      names = λ name. after.names name ∙ before.names name;
      access = λ name. (
        λ may. (after.access name).0 ((before.access name).0 may),
        λ may. (before.access name).1 ((after.access name).1 may),
      );
      rest = λ r. after.rest (before.rest r);
      same = record { head = after.same.head ∙ before.same.head; table = after.same.table ∙ before.same.table };
      along = λ start name past a. (after.along start name past (before.along start name past a)).along;
      later = omega (arith, before.later, after.later);
      out_kept = after.out_kept ∙ before.out_kept;
    }

-- if the shelf left the rest of the stream before, it does so after the piece that fails
pub returns-in-Err-clause-rest : goal.returns-in-Err-clause-rest
returns-in-Err-clause-rest g c r = c.in-Err.ensures.rest (c.loop-count.invariant.rest r)

-- if the shelf left the rest of the stream before, it does so after the empty piece at the end
pub returns-then-count-eq0-clause-rest : goal.returns-then-count-eq0-clause-rest
returns-then-count-eq0-clause-rest g c r = c.in-Ok.ensures.rest (c.loop-count.invariant.rest r)
