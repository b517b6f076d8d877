-- Proof of `GuardTrees::deciding`: returns the conditions that decide a process in a scenario, in urgency order.
use Rattle.std.proofs.Common.{◌∙◌, arith}
use Rattle.cpg_rules.specs.Guards.{tree_of}
use Rattle.cpg_rules.proofs.Ways.{ways_are_deciding}
use Rattle.cpg_rules.proofs.trees.GuardTrees.deciding.Goals as goal

-- the conditions on the scenario's way through the tree are those that decide
pub returns-clause-deciding : goal.returns-clause-deciding
returns-clause-deciding c = λ g order urgency topological are. c.in_ok-conditions.ensures
    ∙ ways_are_deciding g order c.args.process
    (tree_of c.args.self.now c.args.process) c.args.scenario.now.values urgency topological
    (are.trees c.args.process (let within = c.requires.process in omega (arith, are.count)))
    (c.requires.scenario ∙ are.conditions)
