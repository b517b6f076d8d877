-- Proof of `over`, which returns the graph over a hyperperiod.
use Rattle.std.proofs.Common.{◌≡◌, ◌≤◌, ◌∙◌, arith}
use Rattle.cpg_base.specs.declared.limits.TheConstants.{MOST_PROCESSES, MOST_EDGES}
use Rattle.cpg_base.specs.Graph.{condition_count, edge_count, process_count}
use Rattle.cpg_hyper.specs.Unrolled.{unrolled}
use Rattle.cpg_hyper.specs.Refusals.{HasFewEnough}
use Rattle.cpg_hyper.proofs.Outcome.{count_is, from_processes}
use Rattle.cpg_hyper.proofs.unrolling.over.Goals as goal

-- there are too many conditions, but few enough processes and edges
pub returns-then-condition_total-gt-MOST_CONDITIONS : goal.returns-then-condition_total-gt-MOST_CONDITIONS
returns-then-condition_total-gt-MOST_CONDITIONS c =
    let graph = unrolled c.args.whole c.args.parts.now in
    -- the conditions that are counted are those of the graph
    let count : c.condition_total.result ≡ condition_count graph =
    count_is graph c.as_slice.result.now c.process_total-process_count.result c.condition_total.result
    (c.as_slice.ensures.value ∙ c.in_ok-edges.ensures) c.process_total-process_count.ensures
    c.condition_total.ensures in
    let processes : process_count graph ≤ MOST_PROCESSES =
    omega (arith, c.process_total-process_count.ensures, c.if-process_count-gt-MOST_PROCESSES.false) in
    let edges : edge_count graph ≤ MOST_EDGES =
    omega (arith, c.edge_total.ensures, c.if-edge_total-gt-MOST_EDGES.false) in (
      c.args.whole,
      c.requires.over,
      (processes, edges, omega (arith, count, c.if-condition_total-gt-MOST_CONDITIONS.true)),
    )

-- the counts have passed, and the processes couldn't be made: the fault says why
pub returns-in-Err : goal.returns-in-Err
returns-in-Err c =
    let graph = unrolled c.args.whole c.args.parts.now in
    -- the conditions that are counted are those of the graph
    let count : c.condition_total.result ≡ condition_count graph =
    count_is graph c.as_slice.result.now c.process_total-process_count.result c.condition_total.result
    (c.as_slice.ensures.value ∙ c.in_ok-edges.ensures) c.process_total-process_count.ensures
    c.condition_total.ensures in
    let few : HasFewEnough graph = record {
      processes = omega (arith, c.process_total-process_count.ensures, c.if-process_count-gt-MOST_PROCESSES.false);
      edges = omega (arith, c.edge_total.ensures, c.if-edge_total-gt-MOST_EDGES.false);
      conditions = omega (arith, count, c.if-condition_total-gt-MOST_CONDITIONS.false);
    } in
    from_processes c.args.whole c.args.parts.now c.requires.over few c.in-Err.fault c.in-Err.ensures

-- this part is the first that gives an order; the counts have passed, and all names are short enough
pub returns-in-Some : goal.returns-in-Some
returns-in-Some c =
    let graph = unrolled c.args.whole c.args.parts.now in
    -- the conditions that are counted are those of the graph
    let count : c.condition_total.result ≡ condition_count graph =
    count_is graph c.as_slice.result.now c.process_total-process_count.result c.condition_total.result
    (c.as_slice.ensures.value ∙ c.in_ok-edges.ensures) c.process_total-process_count.ensures
    c.condition_total.ensures in
    let few : HasFewEnough graph = record {
      processes = omega (arith, c.process_total-process_count.ensures, c.if-process_count-gt-MOST_PROCESSES.false);
      edges = omega (arith, c.edge_total.ensures, c.if-edge_total-gt-MOST_EDGES.false);
      conditions = omega (arith, count, c.if-condition_total-gt-MOST_CONDITIONS.false);
    } in
    (c.args.whole, c.requires.over, few, c.in-Ok.ensures.1, c.in-Some.ensures.first)

-- there are few enough processes, edges and conditions
pub built-requires-clause-counts : goal.built-requires-clause-counts
built-requires-clause-counts c =
    let graph = unrolled c.args.whole c.args.parts.now in
    -- the conditions that are counted are those of the graph
    let count : c.condition_total.result ≡ condition_count graph =
    count_is graph c.as_slice.result.now c.process_total-process_count.result c.condition_total.result
    (c.as_slice.ensures.value ∙ c.in_ok-edges.ensures) c.process_total-process_count.ensures
    c.condition_total.ensures in
    record {
      processes = omega (arith, c.process_total-process_count.ensures, c.if-process_count-gt-MOST_PROCESSES.false);
      edges = omega (arith, c.edge_total.ensures, c.if-edge_total-gt-MOST_EDGES.false);
      conditions = omega (arith, count, c.if-condition_total-gt-MOST_CONDITIONS.false);
    }
