-- Proof of `is_active`: whether a process is active in each scenario of a space.
use Rattle.std.proofs.Common.{◌∙◌, sym}
use Rattle.cpg_check_rows.proofs.quick_activity.is_active.Goals as goal

-- a process that is marked is active in every scenario
pub returns-then-is_marked : goal.returns-then-is_marked
returns-then-is_marked c s law lies =
    c.requires.always c.args.process c.requires.process (sym c.is_marked.ensures ∙ c.if-is_marked.true) s law
