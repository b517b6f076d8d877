-- Proof of `next_row`: reads the next row.
use Rattle.std.proofs.Common.{◌∙◌, List, ℕ, Ok, ap, sym}
use Rattle.cpg_codec.specs.Grammar.{read_row}
use Rattle.cpg_codec.proofs.Rests.{left_is, left_within}
use Rattle.cpg_codec.proofs.TableFields.{row_reads}
use Rattle.cpg_codec.proofs.row_reading.next_row.Goals as goal

-- what is left after a row is a part of what was unread, so it isn't longer
pub read_to-requires : goal.read_to-requires
read_to-requires c =
    let read =
    ap (read_row c.args.space.now c.args.item c.args.columns_read) (sym c.rest.ensures) ∙ c.in_ok-row.ensures.gives in
    left_within (row_reads c.args.space.now c.args.item c.args.columns_read c.requires.space c.requires.few)
    c.args.unread.now c.in_ok-row.row c.in_ok-row.rest.now read

-- the bytes that are left unread are those that the reader of a row leaves
pub returns-clause-gives : goal.returns-clause-gives
returns-clause-gives c =
    let read =
    ap (read_row c.args.space.now c.args.item c.args.columns_read) (sym c.rest.ensures) ∙ c.in_ok-row.ensures.gives in
    left_is (row_reads c.args.space.now c.args.item c.args.columns_read c.requires.space c.requires.few) c.args.unread.now
    c.in_ok-row.row c.in_ok-row.rest.now read
    ∙ ap (λ (t : List ℕ). Ok (c.in_ok-row.row, t)) (sym c.read_to.ensures)
