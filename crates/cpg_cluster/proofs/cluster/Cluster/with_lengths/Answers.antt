-- Proof of `Cluster::with_lengths`, which returns all nodes before their first turns, with all the room that a play
-- needs.
use Rattle.std.proofs.Common.{◌≡◌, ◌≤◌, ◌<◌, arith, sym, ◌∙◌, ℕ, length, List, subst, rules}
use Rattle.std.specs.Prelude.{All}
use Rattle.std.specs.Vec.{vec_capacity}
use Rattle.cpg_base.specs.Graph.{Graph}
use Rattle.cpg_table.specs.Table.{table_at}
use Rattle.cpg_head.specs.GraphHead.{head_of}
use Rattle.cpg_table.specs.Lawful.{AreTablesOf}
use Rattle.cpg_cluster.specs.Keeping.{HearsItems, AreOpen, AllFit}
use Rattle.cpg_cluster.specs.Cluster.{World}
use Rattle.cpg_cluster.specs.Playing.{IsPlaying}
use Rattle.cpg_cluster.proofs.Stepping.{play_of}
use Rattle.cpg_cluster.specs.declared.member.Member.{Member}
use Rattle.cpg_cluster.proofs.Opening.{hears_items, play_is, playing_open, fits_open, correct_open}
use Rattle.cpg_cluster.proofs.cluster.Cluster.with_lengths.Goals as goal

-- the nodes of valid tables hear only items of the graph
pub open_members-requires : goal.open_members-requires
open_members-requires c =
    subst (λ (g : Graph). (i : ℕ) → i < length c.args.tables.nodes → HearsItems g (table_at c.args.tables.nodes i))
    (sym c.problem.ensures.problem)
    (hears_items c.args.admitted.now.graph c.args.tables.nodes c.requires.valid)

-- the play with the copies of the graph, the scenario and the lengths is the play with those that the caller gave
parts : (c : goal.In_ok-lengths) →
    play_of c.in_ok-problem.problem
    (record { scenario = c.in_ok-scenario.scenario; lengths = c.in_ok-lengths.lengths }) c.in_ok-members.members.items
    ≡ play_of c.args.admitted.now.graph
    (record { scenario = c.args.scenario.now; lengths = c.args.lengths.now }) c.in_ok-members.members.items
parts c = λ i. play_of ((c.in_ok-problem.ensures ∙ c.problem-2.ensures.problem) i)
    (record { scenario = c.in_ok-scenario.ensures i; lengths = c.in_ok-lengths.ensures i })
    c.in_ok-members.members.items

-- the members are those of the tables before their first turns
open' : (c : goal.In_ok-lengths) →
    AreOpen c.args.admitted.now.graph c.args.tables.nodes (length c.args.tables.nodes) c.in_ok-members.members.items
open' c =
    subst (λ (g : Graph). AreOpen g c.args.tables.nodes (length c.args.tables.nodes) c.in_ok-members.members.items)
    c.problem.ensures.problem c.in_ok-members.ensures.members

-- the tables are lawful for the graph, as the caller requires
of : (c : goal.In_ok-lengths) → AreTablesOf (head_of c.args.admitted.now.graph) c.args.tables.nodes
of c = c.requires.tables

-- the play is opened, each member keeps what it should, and the frames have room for all hear rows
pub invariant_of-result : goal.invariant_of-result
invariant_of-result c =
    let graph = c.args.admitted.now.graph in
    let tables = c.args.tables.nodes in
    let world : World = record { scenario = c.args.scenario.now; lengths = c.args.lengths.now } in
    let ms = c.in_ok-members.members.items in
    let admitted = c.problem.ensures.admitted in
    record {
      -- the play is opened, with at most 16 members
      playing = subst IsPlaying (sym (parts c))
          (playing_open graph tables world admitted.limits (of c) ms (open' c) admitted.well_formed
          c.requires.valid c.requires.world);
      few = omega (arith, (open' c).count, (of c).count, admitted.limits.few_nodes);
      -- each member keeps what it should
      members = subst (λ (g : Graph). AllFit g ms) (sym (c.in_ok-problem.ensures ∙ c.problem-2.ensures.problem))
          (fits_open graph tables world admitted.limits (of c) ms (open' c));
      -- and there is room for the frames of the node that hears most
      frames = λ i d l.
          let few = subst (λ (ms : List Member).
          All (λ (m : Member). length m.node.dispatcher.table.hears ≤ c.most_heard.result) ms)
          c.as_slice.ensures.value c.most_heard.ensures i d l in
          let room : c.most_heard.result ≤ vec_capacity c.reserve.new.self = search rules in
          omega (arith, few, room);
    }

-- the play of members before their first turns is the one before the first turn
pub returns-clause-opened : goal.returns-clause-opened
returns-clause-opened c = parts c ∙ play_is c.args.admitted.now.graph c.args.tables.nodes
    (record { scenario = c.args.scenario.now; lengths = c.args.lengths.now }) c.problem.ensures.admitted.limits
    (of c) c.in_ok-members.members.items (open' c)

-- valid tables play correctly, in this and in all other worlds
pub returns-clause-correct : goal.returns-clause-correct
returns-clause-correct c = correct_open c.args.admitted.now.graph c.args.tables.nodes c.problem.ensures.admitted.limits
    (of c) c.problem.ensures.admitted.well_formed c.requires.valid
