-- Proof of `read_pack`: the tables that all of the bytes spell.
use Rattle.cpg_codec.proofs.WholePack.{found, only, bad}
use Rattle.cpg_codec.proofs.reading.read_pack.Goals as goal

-- tables that are returned are what the grammar reads of the bytes, so they are lawful and spelled by these
pub returns-clause-found : goal.returns-clause-found
returns-clause-found c = found c.args.bytes.items c.answer_of.result c.answer_of.ensures

-- if the bytes spell lawful tables, the grammar reads just these, so no others are returned, and no `BadPack`
pub returns-clause-only : goal.returns-clause-only
returns-clause-only c = only c.args.bytes.items c.answer_of.result c.answer_of.ensures

-- the length that comes with `BadPack` is that of the longest prefix that is one of some pack
pub returns-clause-bad : goal.returns-clause-bad
returns-clause-bad c = bad c.args.bytes.items c.answer_of.result c.answer_of.ensures
