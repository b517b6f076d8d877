-- Loops of `are_live`: whether all these inputs are live.
use Rattle.std.proofs.Common.{◌≡◌, drop}
use Rattle.std.specs.List.{list_all}
use Rattle.cpg_rules.specs.Growing.{is_live_in}
use Rattle.cpg_rules.proofs.steps.are_live.Given as goal

-- all inputs so far are live, so all of them are live exactly if those left are
abbrev pub invariant-loop-input : goal.invariant-loop-input
invariant-loop-input l =
    list_all (is_live_in l.standings) l.inputs ≡ list_all (is_live_in l.standings) (drop l.input-index l.inputs)
