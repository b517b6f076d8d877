-- Proof of `named`: the name of these letters.
use Rattle.cpg_codec.proofs.NameBytes.{name_is_utf8}
use Rattle.cpg_codec.proofs.field_reading.named.Goals as goal

-- the letters of a name are ASCII, and so valid UTF-8
pub unreachable-requires : goal.unreachable-requires
unreachable-requires c = c.in_default.ensures.cases.0 (name_is_utf8 c.args.text.now c.requires)
