-- Proof of `head_of`, which returns the head of tables for a graph.
use Rattle.std.proofs.Common.{◌≡◌, rules, sym, subst, option_map}
use Rattle.cpg_head.specs.Head.{Head, IsHead}
use Rattle.cpg_head.specs.GraphHead.{head_of}
use Rattle.cpg_head.proofs.HeadWithin.{head_within}
use Rattle.cpg_head.proofs.head.head_of.Goals as goal

-- the parts are those of the head for the graph, which is within its limits
pub invariant_of-result : goal.invariant_of-result
invariant_of-result c =
    let made : Head = record {
      faults = c.faults.result;
      nodes = c.in_ok-head_nodes.field-0.items;
      processes = c.in_ok-head_processes.field-0.items;
      edges = c.in_ok-head_edges.field-0.items;
      extras = option_map (λ v. v.items) c.in_ok-head_extras.field-0;
    } in
    let same : made ≡ head_of c.args.problem.now = search rules in
    subst IsHead (sym same) (head_within c.args.problem.now c.faults.ensures.within)
