-- Proof of `is_start_sure`: whether V5 is known to hold at the start of a process, which has these columns.
use Rattle.std.proofs.Common.{◌≡◌, ◌<◌, All, Contains, ap, sym, ◌∙◌, subst}
use Rattle.cpg_base.specs.Graph.{edge_count, inputs, process_at}
use Rattle.cpg_tree.proofs.Passes.{of_true}
use Rattle.cpg_check_quick.specs.Inputs.{IsLateEnough}
use Rattle.cpg_check_quick.proofs.InputLaws.{inputs_below, start_late}
use Rattle.cpg_check_quick.proofs.inputs.is_start_sure.Goals as goal

-- the inputs of a process are edges of the graph
pub others-requires-clause-edges : goal.others-requires-clause-edges
others-requires-clause-edges c =
    let graph = c.args.input_rows.now.admitted.now.graph in
    subst (All (λ e. e < edge_count graph)) (sym (c.inputs-edges.ensures.of_graph graph c.requires.links))
    (inputs_below graph c.args.process)

-- each column is no earlier than the release, the other inputs are there by then, and the rest always are, so the start
-- keeps V5
pub returns : goal.returns
returns c = of_true c.are_late_enough.result c.are_late_enough.ensures (λ late tables w rules is.
    let graph = c.args.input_rows.now.admitted.now.graph in
    -- the edges are the inputs of the process, and the release is its
    let all : c.inputs-edges.result.now ≡ inputs graph c.args.process =
    c.inputs-edges.ensures.of_graph graph c.requires.links in
    let release =
    c.release-release.ensures ∙ ap (λ h. (process_at h c.args.process).release) c.problem.ensures.problem in
    start_late graph tables rules c.problem.ensures.admitted.well_formed c.args.process c.requires.process
    c.release-release.result release c.in_ok-others.others.items
    (λ e k. c.in_ok-others.ensures.known tables e w (subst (λ xs. Contains xs e) (sym all) k))
    (subst (All (IsLateEnough graph tables c.in_ok-others.others.items c.release-release.result)) is
    (rw c.as_slice.ensures.value at late tables w rules)))
