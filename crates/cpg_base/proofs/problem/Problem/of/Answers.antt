-- Proof of `Problem::of`: returns the graph of these parts, without an order to compile under.
use Rattle.std.proofs.Common.{◌≡◌, None, ◌<◌, rules, ◌∙◌, ap₂, length, filter, arith}
use Rattle.cpg_base.specs.Numbers.{numbers_below}
use Rattle.cpg_base.specs.Conditions.{has_conditional_output}
use Rattle.cpg_base.specs.Graph.{Graph, disjunctions}
use Rattle.cpg_base.proofs.Found.{conditions_found}
use Rattle.cpg_base.proofs.problem.Problem.of.Goals as goal

-- `None` for the conditions would mean more than 32, but they are those of the graph, of which there are at most 32
pub unreachable-requires : goal.unreachable-requires
unreachable-requires c =
    -- the graph of the arguments
    let graph : Graph = record {
      faults = c.args.faults;
      deadline = c.args.deadline;
      nodes = c.args.nodes.items;
      slots = c.args.slots.items;
      processes = c.args.processes.items;
      edges =
          c.args.edges.items;
      order = None;
    } in
    -- the conditions that one pass over the edges finds are those of this graph
    let count : c.len.result ≡ length c.args.processes.items = search rules in
    let found : filter (has_conditional_output c.as_slice.result.now)
    (numbers_below c.len.result) ≡ disjunctions graph =
    ap₂ (λ es n. filter (has_conditional_output es) (numbers_below n)) c.as_slice.ensures.value count
    ∙ conditions_found graph in
    -- more than 32 would break the limits
    let many : 32 < length (filter (has_conditional_output c.as_slice.result.now) (numbers_below c.len.result)) =
    c.in_default.ensures.many in
    let over : 32 < length (disjunctions graph) = rw found at many in
    omega (arith, c.requires.few_conditions, over)

-- The graph keeps its invariant: it is required to be within the limits, and the conditions that are found are its own.
pub invariant_of-result : goal.invariant_of-result
invariant_of-result c =
    -- the graph of the arguments
    let graph : Graph = record {
      faults = c.args.faults;
      deadline = c.args.deadline;
      nodes = c.args.nodes.items;
      slots = c.args.slots.items;
      processes = c.args.processes.items;
      edges =
          c.args.edges.items;
      order = None;
    } in
    -- it is within the limits, and has the conditions that were found
    let count : c.len.result ≡ length c.args.processes.items = search rules in (
      c.requires,
      c.in-Some.ensures.found
          ∙ ap₂ (λ es n. filter (has_conditional_output es) (numbers_below n)) c.as_slice.ensures.value count
          ∙ conditions_found graph,
    )
