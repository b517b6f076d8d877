-- Proof of `frozen_end`: the cube of what is carried at the end of a frozen process in a scenario: what decides it, and
-- its fault count.
use Rattle.std.proofs.Common.{◌∷◌, [], ◌++◌, subst}
use Rattle.cpg_base.specs.Graph.{Graph}
use Rattle.cpg_run.specs.Carried.{decided, number_known}
use Rattle.cpg_list.specs.Narrowing.{IsNarrowed}
use Rattle.cpg_list.proofs.CodeCubes.{narrowed_then}
use Rattle.cpg_list.proofs.CodeStarts.{from_whole}
use Rattle.cpg_list.proofs.sends.frozen_end.Goals as goal

-- a cube that matches every scenario is narrowed by what decides the process, and then by its count, so it is the cube of
-- both
pub returns : goal.returns
returns c =
    let graph = c.args.admitted.now.graph in
    let scenario = c.args.scenario.now in
    let process = c.args.process in
    let by_decided =
    subst (λ (h : Graph). IsNarrowed h.faults (decided h scenario process) c.whole-cube.result
    c.narrow_by_decided.new.cube)
    c.problem-problem.ensures.problem c.in_ok-narrow_by_decided.ensures in
    let by_count = subst (λ (h : Graph). IsNarrowed h.faults (number_known scenario process ∷ [])
    c.narrow_by_decided.new.cube
    c.narrow_to_number.new.cube) c.problem-problem.ensures.problem
    c.in_ok-narrow_to_number.ensures in
    from_whole graph.faults
    (decided graph scenario process ++ number_known scenario process ∷ []) c.whole-cube.result
    c.narrow_to_number.new.cube c.whole-cube.ensures
    (narrowed_then graph.faults (decided graph scenario process) (number_known scenario process ∷ [])
    c.whole-cube.result c.narrow_by_decided.new.cube
    c.narrow_to_number.new.cube by_decided by_count)
