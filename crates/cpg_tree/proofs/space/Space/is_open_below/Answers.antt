-- Proof of `Space::is_open_below`: whether the variable can be at most the cut: if not, all scenarios of the space are
-- above it.
use Rattle.std.proofs.Common.{rules, ◌<◌}
use Rattle.cpg_base.specs.Scenario.{Scenario, number_of}
use Rattle.cpg_tree.specs.Space.{IsInSpace}
use Rattle.cpg_tree.proofs.Spaces.{none_below, on_false}
use Rattle.cpg_tree.proofs.space.Space.is_open_below.Goals as goal

-- the low is above the cut, so each number of the space is
pub returns-clause-none : goal.returns-clause-none
returns-clause-none c =
    on_false {P = (s : Scenario) → IsInSpace c.args.self.now s → c.args.cut < number_of s c.args.variable} _
    (λ e s lies. none_below c.args.self.now s lies c.args.variable c.args.cut (search rules) e)
