-- Proof of `nodes_are_named`, which says in its contract that these names are lawful.
use Rattle.std.proofs.Common.{All, subst}
use Rattle.std.proofs.lemmas.List.{take_all}
use Rattle.std.proofs.lemmas.List.Elements.{All-more}
use Rattle.cpg_base.specs.Name.{IsName}
use Rattle.cpg_app.proofs.heads.nodes_are_named.Goals as goal

-- taking its text shows that one more name is lawful
pub loop-name-preserved : goal.loop-name-preserved
loop-name-preserved c = All-more IsName c.args.names.now c.loop-name.name-index c.name-item.result c.loop-name-test.true
    c.loop-name.invariant (subst IsName c.name-item.is c.as_str-text.ensures.name)

-- after the loop all names have been taken
pub returns : goal.returns
returns c =
    subst (All IsName) (take_all c.loop-name.name-index c.args.names.now c.loop-name-test.false) c.loop-name.invariant
