-- Proof of `next_head`: reads the head.
use Rattle.std.proofs.Common.{◌∙◌, List, ℕ, Ok, ap, sym}
use Rattle.cpg_codec.specs.Grammar.{read_head}
use Rattle.cpg_codec.proofs.HeadFields.{head_reads}
use Rattle.cpg_codec.proofs.Rests.{left_is, left_within}
use Rattle.cpg_codec.proofs.reading.next_head.Goals as goal

-- what is left after a head is a part of what was unread, so it isn't longer
pub read_to-requires : goal.read_to-requires
read_to-requires c =
    let read = ap read_head (sym c.rest.ensures) ∙ c.in_ok-head.ensures in
    left_within head_reads c.args.unread.now c.in_ok-head.head c.in_ok-head.rest.now read

-- the bytes that are left unread are those that the reader of a head leaves
pub returns : goal.returns
returns c =
    let read = ap read_head (sym c.rest.ensures) ∙ c.in_ok-head.ensures in
    left_is head_reads c.args.unread.now c.in_ok-head.head c.in_ok-head.rest.now read
    ∙ ap (λ (t : List ℕ). Ok (c.in_ok-head.head, t)) (sym c.read_to.ensures)
