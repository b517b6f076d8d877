-- Proof of `GuardTrees::live`: whether an edge is live in a scenario.
use Rattle.std.proofs.Common.{◌∙◌, arith}
use Rattle.cpg_rules.proofs.EdgeGuards.{live_by-is, length-edges}
use Rattle.cpg_rules.proofs.trees.GuardTrees.live.Goals as goal

-- an edge is live by its guard exactly if it is live
pub returns-clause-live : goal.returns-clause-live
returns-clause-live c = λ g order topological are. c.is_live-live.ensures
    ∙ live_by-is g order topological c.args.self.now are c.args.scenario.now.values
    (c.requires.scenario ∙ are.conditions) c.args.edge
    (let within = c.requires.edge in omega (arith, length-edges g order c.args.self.now are))
