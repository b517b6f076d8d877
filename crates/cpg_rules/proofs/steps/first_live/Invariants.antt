-- Loops of `first_live`: returns how a join with these inputs is active: by the first that is live, or not at all.
use Rattle.std.proofs.Common.{◌≡◌, drop}
use Rattle.cpg_rules.specs.Growing.{first_live}
use Rattle.cpg_rules.proofs.steps.first_live.Given as goal

-- no input so far is live, so the first live one is the first of those left
abbrev pub invariant-loop-input : goal.invariant-loop-input
invariant-loop-input l = first_live l.standings l.inputs ≡ first_live l.standings (drop l.input-index l.inputs)
