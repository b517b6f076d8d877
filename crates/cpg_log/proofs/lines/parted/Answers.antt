-- Proof of `parted`: the bytes before the first byte that is `byte`, and those after it, or `None` if there is none.
use Rattle.std.proofs.Common.{◌∙◌, sym}
use Rattle.cpg_log.proofs.LineLaws.{not_there, parted_at, rest_of}
use Rattle.cpg_log.proofs.lines.parted.Goals as goal

-- the byte isn't found, so it isn't there
pub returns-in_default-clause-none : goal.returns-in_default-clause-none
returns-in_default-clause-none c =
    not_there c.args.byte c.args.bytes.now (sym c.byte_index.ensures.place ∙ c.in_default.is)

-- the byte is found at its first place, which parts the bytes
pub returns-clause-some : goal.returns-clause-some
returns-clause-some c =
    rw rest_of (parted_at c.args.byte c.args.bytes.now c.in-Some.place (sym c.byte_index.ensures.place ∙ c.in-Some.is))
