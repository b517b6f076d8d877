-- Proof of `make_sends_after`: makes the rows of what a process sends, given what its node carries on up to the
-- process, and narrows what the queue of the node leaves.
use Rattle.std.proofs.Common.{◌≡◌, ◌∙◌, true, false, sym, ap}
use Rattle.cpg_base.specs.Graph.{Graph, process_at, is_frozen}
use Rattle.cpg_run.specs.Found.{columns_of_rows}
use Rattle.cpg_list.proofs.CodeQueue.{ends_plain, ends_frozen}
use Rattle.cpg_list.proofs.CodeStarts.{frozen_start}
use Rattle.cpg_list.proofs.making.make_sends_after.Goals as goal

-- the process is frozen, so its ends carry only what decides it and its count
pub make_sends-requires-clause-ends : goal.make_sends-requires-clause-ends
make_sends-requires-clause-ends c =
    let graph = c.args.listed.now.admitted.now.graph in
    let process = c.args.process in
    let on : (process_at graph process).frozen ≡ true =
    sym (c.is_frozen.ensures ∙ ap (λ (h : Graph). is_frozen h process) c.problem.ensures.problem
    ∙ frozen_start graph process c.requires.process) ∙ c.if-is_frozen.true in
    ends_frozen graph c.args.listed.now.order.now (columns_of_rows c.args.rows.now.items)
    c.args.listed.now.scenarios.now process
    c.in_ok-ends.ends on c.in_ok-ends.ensures

-- the process isn't frozen, so its ends carry what its node passes on
pub make_sends-requires-2-clause-ends : goal.make_sends-requires-2-clause-ends
make_sends-requires-2-clause-ends c =
    let graph = c.args.listed.now.admitted.now.graph in
    let process = c.args.process in
    let off : (process_at graph process).frozen ≡ false =
    sym (c.is_frozen.ensures ∙ ap (λ (h : Graph). is_frozen h process) c.problem.ensures.problem
    ∙ frozen_start graph process c.requires.process) ∙ c.if-is_frozen.false in
    ends_plain graph c.args.listed.now.order.now
    (columns_of_rows c.args.rows.now.items) c.args.listed.now.scenarios.now process
    c.args.known.now off c.requires.known
