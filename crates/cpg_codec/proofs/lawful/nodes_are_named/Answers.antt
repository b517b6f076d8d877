-- Proof of `nodes_are_named`: these names are well-formed.
use Rattle.std.proofs.Common.{All, subst}
use Rattle.std.proofs.lemmas.List.{take_all}
use Rattle.std.proofs.lemmas.List.Elements.{All-more}
use Rattle.cpg_base.specs.Name.{IsName}
use Rattle.cpg_codec.proofs.lawful.nodes_are_named.Goals as goal

-- this name is well-formed, as each is by its type
pub loop-name-preserved : goal.loop-name-preserved
loop-name-preserved c = All-more IsName c.args.names.now c.loop-name.name-index c.name-item.result c.loop-name-test.true
    c.loop-name.invariant (subst IsName c.name-item.is c.as_str-text.ensures.name)

-- at the end of the loop the names so far are all names
pub returns : goal.returns
returns c =
    subst (All IsName) (take_all c.loop-name.name-index c.args.names.now c.loop-name-test.false) c.loop-name.invariant
