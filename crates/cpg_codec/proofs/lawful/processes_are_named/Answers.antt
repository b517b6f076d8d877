-- Proof of `processes_are_named`: the names of these processes are well-formed.
use Rattle.std.proofs.Common.{All, subst}
use Rattle.std.proofs.lemmas.List.{take_all}
use Rattle.std.proofs.lemmas.List.Elements.{All-more}
use Rattle.cpg_base.specs.Name.{IsName}
use Rattle.cpg_head.specs.declared.head_parts.HeadProcess.{HeadProcess}
use Rattle.cpg_codec.proofs.lawful.processes_are_named.Goals as goal

-- the name of a process is well-formed
abbrev HasName : HeadProcess → Type 0
HasName p = IsName p.name

-- the name of this process is well-formed, as each is by its type
pub loop-process-preserved : goal.loop-process-preserved
loop-process-preserved c = All-more HasName c.args.processes.now c.loop-process.process-index c.process-item.result
    c.loop-process-test.true c.loop-process.invariant
    (subst HasName c.process-item.is c.as_str-text.ensures.name)

-- at the end of the loop the processes so far are all processes
pub returns : goal.returns
returns c = subst (All HasName)
    (take_all c.loop-process.process-index c.args.processes.now c.loop-process-test.false) c.loop-process.invariant
