-- Proof of `read_piece`: reads one piece by way of `buffer` and adds it to `bytes`, and returns how many bytes came; 0
-- means the end.
use Rattle.std.proofs.Common.{rules}
use Rattle.cpg_io.proofs.Agreeing.{read_rest}
use Rattle.cpg_io.proofs.reading.read_piece.Goals as goal

-- if the read fails, it takes nothing of what is left, so that is still the rest of what stands under the name
pub returns-in_err-count-clause-rest : goal.returns-in_err-count-clause-rest
returns-in_err-count-clause-rest g c r =
    read_rest (g.S.Shelf.state c.args.shelf.now) (g.S.Shelf.state c.read.new.self) c.read.ensures.names c.read.result
    c.read.new.buf (search rules) c.read.ensures.history c.read.ensures.bytes r

-- if there is no memory for the piece, the read has given it all the same, and the rest behind it is left
pub returns-in_err-extend_from_slice-clause-rest : goal.returns-in_err-extend_from_slice-clause-rest
returns-in_err-extend_from_slice-clause-rest g c r =
    read_rest (g.S.Shelf.state c.args.shelf.now) (g.S.Shelf.state c.read.new.self) c.read.ensures.names c.read.result
    c.read.new.buf (search rules) c.read.ensures.history c.read.ensures.bytes r

-- a read gives what it takes from what is left, so the rest behind its bytes is left
pub returns-clause-rest : goal.returns-clause-rest
returns-clause-rest g c r =
    read_rest (g.S.Shelf.state c.args.shelf.now) (g.S.Shelf.state c.read.new.self) c.read.ensures.names c.read.result
    c.read.new.buf (search rules) c.read.ensures.history c.read.ensures.bytes r
