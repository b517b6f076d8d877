-- Proof of `push_variables`, which adds the variable of a process's fault count, and then that of its condition's value
-- if it has a condition.
use Rattle.std.proofs.Common.{◌<◌, arith, rules}
use Rattle.cpg_base.specs.Graph.{condition_count}
use Rattle.cpg_base.proofs.ConditionProcesses.{condition_of_below}
use Rattle.cpg_cube.proofs.sorting.push_variables.Goals as goal

-- a graph has at most 32 conditions, so the number of one fits a byte
pub overflow_cast-condition : goal.overflow_cast-condition
overflow_cast-condition c =
    let below : c.in-Some.condition < condition_count c.args.problem.now =
    condition_of_below c.args.problem.now c.args.process c.in-Some.condition (search rules) in
    omega arith

-- a graph has at most 32 conditions, so 128 + a condition fits a byte
pub overflow_add-condition : goal.overflow_add-condition
overflow_add-condition c =
    let below : c.in-Some.condition < condition_count c.args.problem.now =
    condition_of_below c.args.problem.now c.args.process c.in-Some.condition (search rules) in
    omega arith
