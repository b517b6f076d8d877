-- Loops of `nodes_are_named`: these names are well-formed.
use Rattle.std.proofs.Common.{All, take}
use Rattle.cpg_base.specs.Name.{IsName}
use Rattle.cpg_codec.proofs.lawful.nodes_are_named.Given as goal

-- each name so far is well-formed
abbrev pub invariant-loop-name : goal.invariant-loop-name
invariant-loop-name l = All IsName (take l.name-index l.names)
