-- The acts and ends of a play are on items and of processes of the graph, and an end has at most the graph's faults.
use Rattle.std.proofs.Common.{ℕ, ◌≡◌, ◌<◌, ◌≤◌, ◌==◌, List, [], All, Contains, length, get_or, ap, subst, arith, inl}
use Rattle.std.proofs.Common.{inr}
use Rattle.std.proofs.lemmas.Bool.{cases_lt}
use Rattle.std.proofs.lemmas.List.{get_or_past}
use Rattle.std.proofs.lemmas.List.Elements.{All-weaker, All-contains_itself}
use Rattle.std.proofs.lemmas.List.Sums.{get_or-le-sum_by}
use Rattle.cpg_base.specs.Graph.{Graph, node_of, process_count}
use Rattle.cpg_base.specs.Numbers.{numbers_below}
use Rattle.cpg_base.specs.Scenario.{Scenario, IsScenario, fault_of}
use Rattle.cpg_base.proofs.Lists.{Contains-filter_parts, numbers-Contains}
use Rattle.cpg_node.specs.Dispatcher.{Act, Ended}
use Rattle.cpg_cluster.specs.Playing.{Playing, IsPlaying}
use Rattle.cpg_cluster.proofs.Ends.{ended_by}
use Rattle.cpg_cluster.proofs.Nodes.{Played}
use Rattle.cpg_cluster.proofs.Passed.{played_reached}
use Rattle.cpg_cluster.proofs.Plays.{played_of}
use Rattle.cpg_show.specs.TraceEvents.{IsActWithin, IsEndWithin}

-- in a lawful scenario `s`, process `p` has at most the graph's faults, since all together have
fault_within : (g : Graph) (s : Scenario) → IsScenario g s → (p : ℕ) → fault_of s p ≤ g.faults
fault_within g s law p = elim (cases_lt p (length s.faults)) [
  | inl l ↦ omega (arith, get_or-le-sum_by (λ x. x) s.faults p 0 l, law.budget)
  | inr past ↦ omega (arith, get_or_past s.faults p 0 past)
]

-- given a play of valid tables
module _ (p : Playing) (is : IsPlaying p) where
  -- what is known of any play of these tables
  known : Played p.graph p.tables p.world
  known = played_of p.graph p.tables is.formed is.shape is.valid p.world is.world

  -- the acts of a node are on items of the graph
  acts_within : (node : ℕ) → node < length p.graph.nodes → All (IsActWithin p.graph) (get_or p.cluster.acts node [])
  acts_within node inside =
      let acts : List Act = get_or p.cluster.acts node [] in
      let done = ((played_reached known p.cluster is.played).holds node inside).done in
      All-weaker (Contains acts) (IsActWithin p.graph) (λ a listed. (done.only a listed).0.row.within) acts
      (All-contains_itself acts)

  -- its ends are those of its processes in the scenario, so their faults are at most the graph's: each end of the
  -- cluster is one that was planned for a process on the node, with the faults of the scenario
  ends_within : (node : ℕ) → node < length p.graph.nodes → All (IsEndWithin p.graph) (get_or p.cluster.ends node [])
  ends_within node inside =
      let graph = p.graph in
      let ends : List (ℕ × Ended) = get_or p.cluster.ends node [] in
      let ends_are = ended_by known p.cluster is.played node inside in
      All-weaker (Contains ends) (IsEndWithin graph) (λ q listed.
      let planned = (ends_are.only q listed).0 in
      let here = numbers-Contains (process_count graph) planned.process
      (Contains-filter_parts (λ r. node_of graph r == node)
      (numbers_below (process_count graph)) planned.process planned.on).0 in
      let same : planned.process ≡ q.1.process = ap (λ (e : Ended). e.process) planned.is in
      let faults : fault_of p.world.scenario planned.process ≡ q.1.faults = ap (λ (e : Ended). e.faults) planned.is in
      record {
        process = omega (arith, here, same);
        faults = omega (arith, faults, fault_within graph p.world.scenario is.world.scenario planned.process);
      }) ends (All-contains_itself ends)

-- The same for `g`, the graph as code sees it, which is that of the play.

-- the acts of each `node` in the play `p` are on items of the graph
pub acts_at : (p : Playing) → IsPlaying p → (g : Graph) → p.graph ≡ g → (node : ℕ) → node < length g.nodes →
    All (IsActWithin g) (get_or p.cluster.acts node [])
acts_at p is g same =
    subst (λ (g : Graph). (node : ℕ) → node < length g.nodes → All (IsActWithin g) (get_or p.cluster.acts node [])) same
    (acts_within p is)

-- the ends of each `node` in the play `p` are of processes of the graph, with at most the graph's faults
pub ends_at : (p : Playing) → IsPlaying p → (g : Graph) → p.graph ≡ g → (node : ℕ) → node < length g.nodes →
    All (IsEndWithin g) (get_or p.cluster.ends node [])
ends_at p is g same =
    subst (λ (g : Graph). (node : ℕ) → node < length g.nodes → All (IsEndWithin g) (get_or p.cluster.ends node [])) same
    (ends_within p is)
