-- Proof of `process`, which returns the process of a number, by the next five draws.
use Rattle.cpg_gen.proofs.Names.{process_name_is}
use Rattle.cpg_gen.proofs.parts.process.Goals as goal

-- `p` and a number below 60 make a name
pub numbered-requires : goal.numbered-requires
numbered-requires c = process_name_is c.args.number c.requires
