-- Loops of `read_all`: reads all bytes that stand under a name, if there are at most `limit` of them, in large pieces.
use Rattle.std.proofs.Common.{◌≡◌, ◌-◌, ◌≤◌, ◌∷◌, false, vec_len, IfSome, Some}
use Rattle.std.specs.Io.KnownBytes.{Consumes}
use Rattle.cpg_io.specs.Agreement.{LeavesRest}
use Rattle.cpg_io.specs.Shelf.{SameNames, SameAccess}
use Rattle.cpg_io.proofs.reading.read_all.Given as goal

-- `names`, `access`: what stands under names, and which may be fetched, is unchanged. `rest`: what is left is the rest of
-- what stands under the name. `came`: the bytes so far and then what is left are what stands under the name. `history`:
-- the one new fetch has given the bytes so far, and hasn't ended or failed. `within`: there are no more bytes than the
-- limit. `later`: the count of faults didn't fall.
abbrev pub invariant-loop-bytes : goal.invariant-loop-bytes
invariant-loop-bytes g l = record {
  names : SameNames (g.S.Shelf.state l.fn.shelf) (g.S.Shelf.state l.shelf);
  access : SameAccess (g.S.Shelf.may_fetch l.fn.shelf) (g.S.Shelf.may_fetch l.shelf);
  rest : LeavesRest (g.S.Shelf.state l.shelf);
  came : IfSome ((g.S.Shelf.state l.fn.shelf).stands l.fn.name)
      (λ whole. Consumes (Some whole) (g.S.Shelf.state l.shelf).left l.bytes.items);
  history : (g.S.Shelf.state l.shelf).history ≡ record {
    name = l.fn.name;
    given = l.bytes.items;
    ended = false;
    failed = false;
  } ∷ (g.S.Shelf.state l.fn.shelf).history;
  within : vec_len l.bytes ≤ l.limit;
  later : (g.S.Shelf.state l.fn.shelf).faults ≤ (g.S.Shelf.state l.shelf).faults;
}

-- each turn reads at least one byte, so the room up to the limit gets smaller
abbrev pub decreases-loop-bytes : goal.decreases-loop-bytes
decreases-loop-bytes g l = l.limit - vec_len l.bytes
