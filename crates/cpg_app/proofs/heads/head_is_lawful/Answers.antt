-- Proof of `head_is_lawful`, which says in its contract that the head of a graph's tables is one that a pack may
-- have: it is within the limits of a pack, and all its names are lawful.
use Rattle.std.proofs.Common.{All, subst}
use Rattle.std.proofs.lemmas.List.Elements.{All-get_or, All-map}
use Rattle.cpg_base.specs.Graph.{process_at, process_count}
use Rattle.cpg_base.specs.Name.{IsName}
use Rattle.cpg_base.specs.Numbers.{numbers_below}
use Rattle.cpg_base.specs.declared.process.Process.{Process}
use Rattle.cpg_head.specs.GraphHead.{head_process}
use Rattle.cpg_head.proofs.HeadWithin.{All-below, head_within}
use Rattle.cpg_app.proofs.heads.head_is_lawful.Goals as goal

-- the head is within its limits, and the names of its nodes and processes are names
pub returns : goal.returns
returns c =
    let graph = c.args.graph.now in
    let named : All (λ (p : Process). IsName p.name) graph.processes =
    subst (All (λ (p : Process). IsName p.name)) c.processes.ensures.processes c.processes_are_named.ensures in
    record {
      within = head_within graph c.nodes.ensures.within;
      nodes = subst (All IsName) c.nodes.ensures.nodes c.nodes_are_named.ensures;
      processes = All-map (λ p. IsName p.name) (head_process graph) (numbers_below (process_count graph))
          (All-below (λ p. IsName (process_at graph p).name) (process_count graph)
          (λ p l. All-get_or (λ (q : Process). IsName q.name) graph.processes p _ l named));
    }
