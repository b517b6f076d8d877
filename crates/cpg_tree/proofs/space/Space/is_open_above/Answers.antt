-- Proof of `Space::is_open_above`: whether the variable can be above the cut, by its range and the faults left: if not,
-- no scenario of the space is.
use Rattle.std.proofs.Common.{rules, sym, ◌∙◌, ◌≤◌}
use Rattle.cpg_base.specs.Scenario.{Scenario, number_of}
use Rattle.cpg_tree.specs.Space.{IsInSpace}
use Rattle.cpg_tree.proofs.Spaces.{none_by_range, none_by_faults, on_false}
use Rattle.cpg_tree.proofs.space.Space.is_open_above.Goals as goal

-- the faults that are left allow no number above the cut
pub returns-then-cut-self-clause-none : goal.returns-then-cut-self-clause-none
returns-then-cut-self-clause-none c = on_false
    {P = (s : Scenario) → IsInSpace c.args.self.now s → number_of s c.args.variable ≤ c.args.cut} c.allows_above.result
    (λ e s lies. none_by_faults c.args.self.now s lies c.args.variable c.args.cut (search rules)
    (sym c.allows_above.ensures ∙ e))

-- the high isn't above the cut, so no number of the space is
pub returns-else-cut-self-clause-none : goal.returns-else-cut-self-clause-none
returns-else-cut-self-clause-none c =
    on_false {P = (s : Scenario) → IsInSpace c.args.self.now s → number_of s c.args.variable ≤ c.args.cut} _
    (λ e s lies. none_by_range c.args.self.now s lies c.args.variable c.args.cut (search rules) e)
