-- Proof of `follow_rest`: follows the rest of a stream to its close.
use Rattle.cpg_live.proofs.Along.{end_of_all}
use Rattle.cpg_outputs.proofs.streaming.follow_rest.Goals as goal

-- all pieces were followed, and the line of the close was written
pub returns-in-Ok-clause-along : goal.returns-in-Ok-clause-along
returns-in-Ok-clause-along g c start name past a =
    let all = c.in-Ok.ensures in
    let out = g.O.Sink.state c.follow_pieces.new.out in
    end_of_all c.args.follower.now c.follow_pieces.new.follower name past
    (g.S.Shelf.state c.follow_pieces.new.shelf).history start out.taken (g.O.Sink.state c.args.out.now) out
    (g.O.Sink.state c.close.new.out) c.close.result all.same all.out_kept (all.along start name past a)
    c.close.ensures.closes

-- the pieces broke off, and `follow_pieces` says where and why
pub returns-in-Err-clause-along : goal.returns-in-Err-clause-along
returns-in-Err-clause-along g c start name past a = c.in-Err.ensures.along start name past a
