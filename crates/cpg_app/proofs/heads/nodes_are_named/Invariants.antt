-- Loops of `nodes_are_named`, which says in its contract that these names are lawful.
use Rattle.std.proofs.Common.{All, take}
use Rattle.cpg_base.specs.Name.{IsName}
use Rattle.cpg_app.proofs.heads.nodes_are_named.Given as goal

-- each name so far is lawful
abbrev pub invariant-loop-name : goal.invariant-loop-name
invariant-loop-name l = All IsName (take l.name-index l.names)
