-- Proof of `copied_name`, which returns the name that a process gets in an instance; `None` exactly if it is too long.
use Rattle.std.proofs.Common.{◌∙◌, arith}
use Rattle.cpg_hyper.specs.Unrolled.{name_in}
use Rattle.cpg_hyper.proofs.Texts.{long_name, long_if}
use Rattle.cpg_hyper.proofs.processes.copied_name.Goals as goal

-- a made name that isn't a name is too long
pub returns-clause-long : goal.returns-clause-long
returns-clause-long c =
    long_if c.new.result c.as_str.result.now (name_in c.args.number c.args.instance c.args.name.now)
    c.new.ensures.refused (c.as_str.ensures.value ∙ c.in_ok-text.ensures.text)
    (long_name c.args.number c.args.instance c.args.name.now
    (omega (arith, c.requires)) c.ranges.instance.fits c.in_ok-text.ensures.name)
