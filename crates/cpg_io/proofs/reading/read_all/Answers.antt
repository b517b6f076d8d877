-- Proof of `read_all`: reads all bytes that stand under a name, if there are at most `limit` of them, in large pieces.
use Rattle.std.proofs.Common.{◌∙◌, arith}
use Rattle.cpg_io.specs.Shelf.{SameNames}
use Rattle.cpg_io.proofs.Agreeing.{fetched_none, fetched_one}
use Rattle.cpg_io.proofs.PiecesRead.{given_on, one_fetch, read_on}
use Rattle.cpg_io.proofs.reading.read_all.Goals as goal

-- a fetch that failed gave nothing, and nothing agrees with whatever stands under the name
pub returns-in_err-fetch-clause-fetched : goal.returns-in_err-fetch-clause-fetched
returns-in_err-fetch-clause-fetched g c = fetched_none (g.S.Shelf.state c.args.shelf.now)
    (g.S.Shelf.state c.fetch.new.self) c.args.name.now c.in_err-fetch.ensures.history

-- there is one fetch more, that of the name; since what is left is still the rest of what stands under it, the fetch gave a
-- prefix of that, though the last read failed
pub returns-in_err-read_piece-clause-fetched : goal.returns-in_err-read_piece-clause-fetched
returns-in_err-read_piece-clause-fetched g c =
    let old = g.S.Shelf.state c.args.shelf.now in
    let new = g.S.Shelf.state c.read_piece.new.shelf in
    let before = c.loop-bytes.invariant in
    let names : SameNames old new = λ name. c.read_piece.ensures.names name ∙ before.names name in
    let one = one_fetch c.args.limit old.history new.history _ _ before.history c.loop-bytes.bytes.items
    c.read_piece.new.bytes.items c.read_piece.result c.read_piece.ensures.history in
    fetched_one old new names one.0 one.1 (c.read_piece.ensures.rest before.rest)

-- there is one fetch more, that of the name; since what is left is the rest of what stands under it, the fetch gave a prefix
-- of that
pub returns-clause-fetched : goal.returns-clause-fetched
returns-clause-fetched g c =
    let old = g.S.Shelf.state c.args.shelf.now in
    let new = g.S.Shelf.state c.read_piece.new.shelf in
    let before = c.loop-bytes.invariant in
    let names : SameNames old new = λ name. c.read_piece.ensures.names name ∙ before.names name in
    let one = one_fetch c.args.limit old.history new.history _ _ before.history c.loop-bytes.bytes.items
    c.read_piece.new.bytes.items c.read_piece.result c.read_piece.ensures.history in
    fetched_one old new names one.0 one.1 (c.read_piece.ensures.rest before.rest)

-- one piece more was read of the same fetch
pub loop-bytes-preserved : goal.loop-bytes-preserved
loop-bytes-preserved g c =
    let old = g.S.Shelf.state c.args.shelf.now in
    let mid = g.S.Shelf.state c.loop-bytes.shelf in
    let new = g.S.Shelf.state c.read_piece.new.shelf in
    let before = c.loop-bytes.invariant in
    let read = c.read_piece.ensures in record {
      names = λ name. read.names name ∙ before.names name;
      access = λ name. (
        λ may. (read.access name).0 ((before.access name).0 may),
        λ may. (before.access name).1 ((read.access name).1 may),
      );
      rest = read.rest before.rest;
      came = read_on (old.stands c.args.name.now) mid.left new.left c.loop-bytes.bytes.items
          c.read_piece.new.bytes.items c.in_ok-read_piece.field-0 before.came c.in_ok-read_piece.ensures.piece;
      history = given_on c.args.name.now mid.left new.left old.history mid.history new.history c.loop-bytes.bytes.items
          c.read_piece.new.bytes.items c.in_ok-read_piece.field-0 before.history c.in_ok-read_piece.ensures.piece
          c.in_ok-read_piece.ensures.history c.if-branch-gt0.true;
      within = c.in_ok-read_piece.ensures.within;
      later = omega (arith, before.later, read.later);
    }
