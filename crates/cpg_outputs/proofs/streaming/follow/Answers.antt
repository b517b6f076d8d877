-- Proof of `follow`: follows the named stream to its close.
use Rattle.std.proofs.Common.{◌∙◌, arith, ap, subst, sym}
use Rattle.cpg_io.proofs.Agreeing.{fetch_rest, fetched_none, fetched_one}
use Rattle.cpg_io.specs.Shelf.{SameNames}
use Rattle.cpg_live.specs.Follower.{Follower}
use Rattle.cpg_live.specs.Following.{Breaks, Completes, IsAlong}
use Rattle.cpg_live.proofs.Along.{along_open, on_match_err, on_match_ok, unfetched}
use Rattle.cpg_outputs.proofs.StreamFetch.{fetch_of}
use Rattle.cpg_outputs.proofs.streaming.follow.Goals as goal

-- an opened follower has read nothing yet
pub follow_rest-requires : goal.follow_rest-requires
follow_rest-requires g c = omega (arith, ap (λ (f : Follower). f.read) c.requires.opened)

-- an opened follower is along with a fetch that gave nothing yet, so `follow_rest` says that the stream was followed to its
-- close
pub returns-in-Ok-clause-whole : goal.returns-in-Ok-clause-whole
returns-in-Ok-clause-whole g c =
    let follower = c.args.follower.now in
    let name = c.args.name.now in
    let past = (g.S.Shelf.state c.args.shelf.now).history in
    let now = (g.O.Sink.state c.args.out.now).taken in
    let history = (g.S.Shelf.state c.fetch.new.self).history in
    -- what `follow_rest` answers of a stream that the follower is along
    on_match_ok _ _ c.follow_rest.result (c.follow_rest.ensures.along now name past
    (subst (IsAlong name past history now now) (sym c.requires.opened)
    (along_open name past history now follower.head follower.table c.in-Ok.ensures.history)))

-- an opened follower is along with a fetch that gave nothing yet, so `follow_rest` says where and why the stream broke off
pub returns-in-Ok-clause-broken : goal.returns-in-Ok-clause-broken
returns-in-Ok-clause-broken g c =
    let follower = c.args.follower.now in
    let name = c.args.name.now in
    let past = (g.S.Shelf.state c.args.shelf.now).history in
    let now = (g.O.Sink.state c.args.out.now).taken in
    let history = (g.S.Shelf.state c.fetch.new.self).history in
    -- what `follow_rest` answers of a stream that the follower is along
    on_match_err _ _ c.follow_rest.result (c.follow_rest.ensures.along now name past
    (subst (IsAlong name past history now now) (sym c.requires.opened)
    (along_open name past history now follower.head follower.table c.in-Ok.ensures.history)))

-- the fetch of the stream failed, so nothing was followed
pub returns-in-Err-clause-broken : goal.returns-in-Err-clause-broken
returns-in-Err-clause-broken g c =
    let follower = c.args.follower.now in
    unfetched c.args.name.now (g.S.Shelf.state c.args.shelf.now).history (g.S.Shelf.state c.fetch.new.self).history
    follower.head follower.table (g.O.Sink.state c.args.out.now) c.in-Err.ensures.history

-- there is one fetch more, that of the stream, and what is left is the rest of what stands under its name, so it gave a
-- prefix of that
pub returns-in-Ok-clause-fetched : goal.returns-in-Ok-clause-fetched
returns-in-Ok-clause-fetched g c =
    let follower = c.args.follower.now in
    let name = c.args.name.now in
    let old = g.S.Shelf.state c.args.shelf.now in
    let mid = g.S.Shelf.state c.fetch.new.self in
    let new = g.S.Shelf.state c.follow_rest.new.shelf in
    let out = g.O.Sink.state c.args.out.now in
    -- the follower is along the stream from its first byte
    let start = subst (IsAlong name old.history mid.history out.taken out.taken) (sym c.requires.opened)
    (along_open name old.history mid.history out.taken follower.head follower.table c.in-Ok.ensures.history) in
    -- one fetch is added, that of the stream
    let one = fetch_of (Completes follower.head follower.table)
    (λ broken s. Breaks follower.head follower.table s broken) name old.history
    new.history out.taken out (g.O.Sink.state c.follow_rest.new.out) c.follow_rest.result
    (c.follow_rest.ensures.along out.taken name old.history start) in
    -- the names stay as they are
    let names : SameNames old new = λ n. c.follow_rest.ensures.names n ∙ c.in-Ok.ensures.names n in
    fetched_one old new names one.0 one.1 (c.follow_rest.ensures.rest
    (fetch_rest old mid c.in-Ok.ensures.names name c.in-Ok.ensures.history c.in-Ok.ensures.started))

-- a fetch that failed gave nothing, and nothing agrees with whatever stands under the name
pub returns-in-Err-clause-fetched : goal.returns-in-Err-clause-fetched
returns-in-Err-clause-fetched g c = fetched_none (g.S.Shelf.state c.args.shelf.now)
    (g.S.Shelf.state c.fetch.new.self) c.args.name.now c.in-Err.ensures.history
