-- Loops of `variables_of`, which returns the variables on which some cube has a literal, in the order of the processes.
use Rattle.std.specs.Prelude.{All}
use Rattle.cpg_base.specs.Graph.{IsVariable}
use Rattle.cpg_cover.proofs.cover.variables_of.Given as goal

-- each variable so far is a variable of the graph
abbrev pub invariant-loop-variable : goal.invariant-loop-variable
invariant-loop-variable l = All (IsVariable l.problem) l.variables.items
