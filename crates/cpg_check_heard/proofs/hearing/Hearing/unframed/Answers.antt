-- Proof of `Hearing::unframed`: those of some bounds that no single frame is found to tell by a column's time wherever
-- the column matches.
use Rattle.std.proofs.Common.{◌≤◌, ◌∙◌, [], Contains, not, sym}
use Rattle.std.proofs.lemmas.List.Elements.{All-nil, All-push}
use Rattle.cpg_base.specs.Graph.{process_count}
use Rattle.cpg_table.specs.Shape.{heard_by}
use Rattle.cpg_check_heard.specs.Bounds.{is_told, variable_of}
use Rattle.cpg_check_heard.proofs.Framed.{frame_told}
use Rattle.cpg_check_heard.proofs.Sides.{variable_within}
use Rattle.cpg_check_heard.proofs.hearing.Hearing.unframed.Goals as goal

-- the node hears the item of the rank
pub arrivals-requires-clause-items : goal.arrivals-requires-clause-items
arrivals-requires-clause-items c =
    let P = Contains (heard_by c.args.self.now.admitted.now.graph c.args.node) in
    All-push P [] _ (All-nil P) (c.requires.ranks c.loop-rank.rank-index _ c.loop-rank-test.true)

-- the arrivals are on variables of the graph, and can tell each bound
pub left_open-requires-clause-arrivals : goal.left_open-requires-clause-arrivals
left_open-requires-clause-arrivals c =
    rw (c.problem-problem.ensures.problem, c.as_slice.ensures.value) c.in_ok-arrivals.ensures.each

-- what the next row's frames tell wherever the column matches is told, so leaving it out changes no answer there
pub loop-rank-preserved : goal.loop-rank-preserved
loop-rank-preserved c =
    let graph = c.args.self.now.admitted.now.graph in
    let tables = c.args.self.now.tables.now.nodes in
    let time = c.args.column.now.time in
    let few : process_count graph ≤ 128 = c.requires.hearing.admitted.well_formed.few_processes in
    -- what the frames of the row leave open
    let left = rw (c.problem-problem.ensures.problem, c.as_slice.ensures.value, c.as_slice-in-loop-rank.ensures.value)
    at c.in_ok-left.ensures.left in
    -- what is left are bounds of known variables, and one of them is untold exactly if one was before
    record {
      known = rw c.problem-problem.ensures.problem at c.in_ok-left.ensures.known;
      untold = λ s law m. left s (λ b. not (is_told graph tables c.args.node time b s)) law m
          (λ b v told. frame_told graph tables time b s few (variable_within graph (variable_of b) few v) c.args.node _
          (c.requires.ranks c.loop-rank.rank-index _ c.loop-rank-test.true)
          (sym (c.in_ok-arrivals.ensures.told b s m) ∙ told))
          ∙ c.loop-rank.invariant.untold s law m;
    }
