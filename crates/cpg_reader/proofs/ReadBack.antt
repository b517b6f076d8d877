-- A written document is read as the graph.
use Rattle.std.proofs.Common.{◌≡◌, ℕ, ◌<◌, ◌≤◌, Bool, false, List, [], ◌∷◌, length, get_or, map, Option, Some, None, Ok}
use Rattle.std.proofs.Common.{refl, sym, ◌∙◌, subst, arith}
use Rattle.std.specs.Prelude.{All, IfSome}
use Rattle.std.specs.List.{AllByRecursion}
use Rattle.std.specs.Str.{IsUtf8}
use Rattle.std.proofs.lemmas.List.{get_or-map}
use Rattle.toml.specs.Data.{Members, string, table, items_depth, members_depth}
use Rattle.toml.specs.View.{items_of}
use Rattle.toml.specs.Parse.{parse_document}
use Rattle.cpg_base.specs.Graph.{Graph}
use Rattle.cpg_base.specs.Name.{IsName}
use Rattle.cpg_base.specs.Limits.{IsOrderWithin, IsWithinLimits}
use Rattle.cpg_base.specs.declared.process.Process.{Process}
use Rattle.cpg_base.specs.declared.process.Edge.{Edge}
use Rattle.cpg_reader.specs.Document.{read_members, problem_of}
use Rattle.cpg_reader.proofs.DocumentLaws.{problem_of-read}
use Rattle.cpg_reader.specs.WrittenTree.{node_members, slot_members, process_members, edge_members, graph_members}
use Rattle.cpg_reader.specs.RawOf.{name_in, names_of}
use Rattle.cpg_reader.proofs.RawReads.{IsCalled, IsJoined, AreNames, all_by_recursion, raw_read}
use Rattle.cpg_reader.proofs.Limited.{raw_limited}
use Rattle.cpg_reader.proofs.Numbered.{graph_back}

-- a list of tables that hold no table is one deep
tables_flat : {T : Type 0} (f : T → Members) → ((x : T) → members_depth (f x) ≤ 0) → (xs : List T) →
    items_depth (items_of (map (λ x. table (f x)) xs)) ≤ 1
tables_flat f h [] = omega arith
tables_flat f h (x ∷ xs) = omega (arith, h x, tables_flat f h xs)

-- the table of a process has no table in it
process_flat : (nodes : List (List ℕ)) (p : Process) (own : Option ℕ) → p.deadline ≡ own →
    members_depth (process_members nodes p) ≤ 0
process_flat nodes p None is = rw is (omega arith)
process_flat nodes p (Some d) is = rw is (omega arith)

-- the table of an edge has no tables in it
edge_flat : (ps : List Process) (e : Edge) (when : Option Bool) → e.when ≡ when → members_depth (edge_members ps e) ≤ 0
edge_flat ps e None is = rw is (omega arith)
edge_flat ps e (Some value) is = rw is (omega arith)

-- the names of an order have no table in them
names_flat : (names : List (List ℕ)) (order : List ℕ) →
    items_depth (items_of (map (λ p. string (name_in names p)) order)) ≤ 0
names_flat names [] = omega arith
names_flat names (p ∷ ps) = omega (arith, names_flat names ps)

-- A written document is at most 80 deep, which a reader of documents allows. By whether the graph gives an order.
shallow_by : (g : Graph) (order : Option (List ℕ)) → g.order ≡ order → members_depth (graph_members g) ≤ 80
shallow_by g None is = rw is (
    let nodes = tables_flat node_members (λ n. omega arith) g.nodes in
    let slots = tables_flat (slot_members g.nodes) (λ s. omega arith) g.slots in
    let processes = tables_flat (process_members g.nodes) (λ p. process_flat g.nodes p p.deadline refl) g.processes in
    let edges = tables_flat (edge_members g.processes) (λ e. edge_flat g.processes e e.when refl) g.edges in
    omega (arith, nodes, slots, processes, edges))
shallow_by g (Some order) is = rw is (
    let nodes = tables_flat node_members (λ n. omega arith) g.nodes in
    let slots = tables_flat (slot_members g.nodes) (λ s. omega arith) g.slots in
    let processes = tables_flat (process_members g.nodes) (λ p. process_flat g.nodes p p.deadline refl) g.processes in
    let edges = tables_flat (edge_members g.processes) (λ e. edge_flat g.processes e e.when refl) g.edges in
    omega (arith, nodes, slots, processes, edges, names_flat (names_of g.processes) order))

-- the document of any graph is at most 80 deep
pub graph_shallow : (g : Graph) → members_depth (graph_members g) ≤ 80
graph_shallow g = shallow_by g g.order refl

-- given a graph within the limits whose nodes and processes have lawful names
module _ (g : Graph) (limited : IsWithinLimits g) (nodes : All IsName g.nodes)
    (processes : All (λ p. IsName p.name) g.processes) where
  -- each node has a lawful name
  node_named : (n : ℕ) → n < length g.nodes → IsName (get_or g.nodes n [])
  node_named n below = nodes n [] below

  -- each process has a lawful name
  process_named : (n : ℕ) → n < length g.processes → IsName (get_or (names_of g.processes) n [])
  process_named n below =
      let none : Process = record {
        name = [];
        node = 0;
        wcet = 0;
        parts = 1;
        alpha = 0;
        chi = 0;
        mu = 0;
        join = false;
        frozen = false;
        release = 0;
        deadline = None;
      } in
      subst IsName (sym (get_or-map (λ (p : Process). p.name) g.processes n none [] below)) (processes n none below)

  -- the names of an order within the limits are names
  order_named : (order : Option (List ℕ)) → IfSome order (IsOrderWithin (length g.processes)) →
      IfSome order (AllByRecursion (λ p. IsName (name_in (names_of g.processes) p)))
  order_named None h = tt
  order_named (Some o) h = all_by_recursion _ o (λ k d l. process_named (get_or o k d) (h.there k d l))

  -- all names that its document has are lawful, as each number in the graph is one of a node or a process
  are_names : AreNames g
  are_names = record {
    nodes = all_by_recursion IsName g.nodes nodes;
    slots = all_by_recursion (λ s. IsName (get_or g.nodes s.node [])) g.slots
        (λ k d l. node_named (get_or g.slots k d).node (limited.slots k d l).node);
    processes = all_by_recursion (IsCalled g.nodes) g.processes (λ k d l. record {
      name = processes k d l;
      node = node_named (get_or g.processes k d).node (limited.processes k d l).node;
    });
    edges = all_by_recursion (IsJoined (names_of g.processes)) g.edges
        (λ k d l. record {
          from = process_named (get_or g.edges k d).from (limited.edges k d l).from;
          to = process_named (get_or g.edges k d).to (limited.edges k d l).to;
        });
    order = order_named g.order limited.order;
  }

  -- The written members are read as the graph: by keys and types as its document, which is within the limits, and whose
  -- names are read as the numbers.
  members_back : read_members (graph_members g) ≡ Ok g
  unfolding read_members
  members_back = rw (raw_read g are_names, raw_limited g limited) (graph_back g limited)

  -- a text that is parsed as the members of a graph is read as the graph
  pub text_back : (text : List ℕ) → IsUtf8 text → parse_document text ≡ Some (graph_members g) → problem_of text ≡ Ok g
  text_back text utf8 parsed = problem_of-read text (graph_members g) utf8 parsed ∙ members_back
