-- Proof of `processes_are_named`, which says in its contract that the names of these processes are lawful.
use Rattle.std.proofs.Common.{All, subst}
use Rattle.std.proofs.lemmas.List.{take_all}
use Rattle.std.proofs.lemmas.List.Elements.{All-more}
use Rattle.cpg_base.specs.Name.{IsName}
use Rattle.cpg_base.specs.declared.process.Process.{Process}
use Rattle.cpg_app.proofs.heads.processes_are_named.Goals as goal

-- the name of this process is lawful
abbrev HasName : Process → Type 0
HasName p = IsName p.name

-- taking its text shows that the name of one more process is lawful
pub loop-process-preserved : goal.loop-process-preserved
loop-process-preserved c = All-more HasName c.args.processes.now c.loop-process.process-index c.process-item.result
    c.loop-process-test.true c.loop-process.invariant
    (subst HasName c.process-item.is c.as_str-text.ensures.name)

-- after the loop all names have been taken
pub returns : goal.returns
returns c = subst (All HasName)
    (take_all c.loop-process.process-index c.args.processes.now c.loop-process-test.false) c.loop-process.invariant
