-- The graph of a document that is within the limits is within the limits.
use Rattle.std.proofs.Common.{◌≡◌, ◌≢◌, ℕ, ◌<◌, ◌≤◌, false, List, [], length, get_or, map, filter, Option, Some, None}
use Rattle.std.proofs.Common.{Ok, AllPairs, Contains, sym, ap, ◌∙◌, subst, inr, arith, ℤ, pos, eqb-true}
use Rattle.std.proofs.Common.{zero-add}
use Rattle.std.specs.Prelude.{All, IfSome, unwrap_or, option_map, is_some, ◌==◌}
use Rattle.std.proofs.lemmas.Bool.{and_parts}
use Rattle.std.proofs.lemmas.List.{length-map, get_or-map}
use Rattle.std.proofs.lemmas.List.Elements.{Contains-get_or}
use Rattle.std.proofs.lemmas.List.Kept.{AllPairs-from_increasing, AllPairs-filter}
use Rattle.cpg_base.specs.declared.process.Process.{Process}
use Rattle.cpg_base.specs.declared.process.Edge.{Edge}
use Rattle.cpg_base.specs.declared.process.Slot.{Slot}
use Rattle.cpg_base.specs.Numbers.{numbers_below}
use Rattle.cpg_base.specs.Graph.{Graph, condition_count}
use Rattle.cpg_base.specs.Conditions.{is_conditional_output, has_conditional_output}
use Rattle.cpg_base.specs.Limits.{IsProcessWithin, IsSlotWithin, IsEdgeWithin, IsOrderWithin, IsWithinLimits}
use Rattle.cpg_base.proofs.Lists.{Contains-map, Contains-map_parts, Contains-filter, Contains-filter_parts}
use Rattle.cpg_base.proofs.Lists.{numbers-Contains, numbers_rise, list_any_parts}
use Rattle.cpg_base.proofs.Pairs.{length-le_of_apart}
use Rattle.cpg_base.proofs.Found.{conditions_found}
use Rattle.cpg_reader.specs.declared.shape.RawSlot.{RawSlot}
use Rattle.cpg_reader.specs.declared.shape.RawProcess.{RawProcess}
use Rattle.cpg_reader.specs.declared.shape.RawEdge.{RawEdge}
use Rattle.cpg_reader.specs.declared.place.Table.TheVariants as tables
use Rattle.cpg_reader.specs.declared.place.Key.TheVariants.{Name, Node, From, To, Order}
use Rattle.cpg_reader.specs.Reading.{each}
use Rattle.cpg_reader.specs.Shape.{RawGraph}
use Rattle.cpg_reader.specs.Ranges.{sources, different, limits}
use Rattle.cpg_base.specs.Natural.{natural}
use Rattle.cpg_reader.specs.Names.{place, number_of, slot_of, process_of, edge_of, ordered, order_of, order_apart}
use Rattle.cpg_reader.specs.Names.{slot_names, process_names, graph_with, resolved, graph_of}
use Rattle.cpg_reader.proofs.Steps.{then-parts, bind-parts, same_ok, each-length, each-at}
use Rattle.cpg_reader.proofs.Limits.{AreLimits, are_limits}
use Rattle.cpg_reader.proofs.Numbering.{number-is, apart-pairs, different-Contains}

-- a slot of the graph has what the document's slot i says, and the number of the node that is named
record ShowsSlot (nodes : List (List ℕ)) (i : ℕ) (raw : RawSlot) (s : Slot) : Type 0 where
  -- its node is the one that is named
  pub node : number_of nodes (place tables.Slot i Node) raw.node ≡ Ok s.node
  -- its length is the document's
  pub length : natural raw.length ≡ s.length
  -- its bytes are the document's
  pub bytes : natural raw.bytes ≡ s.bytes

-- a slot that was read has what the document says
shows_slot : (nodes : List (List ℕ)) (i : ℕ) (raw : RawSlot) (s : Slot) → slot_of nodes i raw ≡ Ok s →
    ShowsSlot nodes i raw s
unfolding slot_of
shows_slot nodes i raw s i_is =
    let (node, found, rest) = bind-parts (number_of nodes (place tables.Slot i Node) raw.node) _ s i_is in
    let is = same_ok _ s rest in
    record {
      node = found ∙ ap (λ (x : Slot). Ok x.node) is;
      length = ap (λ (x : Slot). x.length) is;
      bytes = ap (λ (x : Slot). x.bytes) is;
    }

-- a process of the graph has what the document says of it, and the number of the node that is named
record ShowsProcess (nodes : List (List ℕ)) (i : ℕ) (raw : RawProcess) (p : Process) : Type 0 where
  -- its name is the document's
  pub name : raw.name ≡ p.name
  -- its node is the one that is named
  pub node : number_of nodes (place tables.Process i Node) raw.node ≡ Ok p.node
  -- its numbers are the document's
  pub wcet : natural raw.wcet ≡ p.wcet
  pub parts : natural raw.parts ≡ p.parts
  pub alpha : natural raw.alpha ≡ p.alpha
  pub chi : natural raw.chi ≡ p.chi
  pub mu : natural raw.mu ≡ p.mu
  pub release : natural raw.release ≡ p.release
  pub deadline : option_map natural raw.deadline ≡ p.deadline

-- a process that was read has what the document says
shows_process : (nodes : List (List ℕ)) (i : ℕ) (raw : RawProcess) (p : Process) → process_of nodes i raw ≡ Ok p →
    ShowsProcess nodes i raw p
unfolding process_of
shows_process nodes i raw p i_is =
    let (node, found, rest) = bind-parts (number_of nodes (place tables.Process i Node) raw.node) _ p i_is in
    let is = same_ok _ p rest in
    record {
      name = ap (λ (x : Process). x.name) is;
      node = found ∙ ap (λ (x : Process). Ok x.node) is;
      wcet = ap (λ (x : Process). x.wcet) is;
      parts = ap (λ (x : Process). x.parts) is;
      alpha = ap (λ (x : Process). x.alpha) is;
      chi = ap (λ (x : Process). x.chi) is;
      mu = ap (λ (x : Process). x.mu) is;
      release = ap (λ (x : Process). x.release) is;
      deadline = ap (λ (x : Process). x.deadline) is;
    }

-- an edge of the graph has what the document says of it, and the numbers of the processes that are named
record ShowsEdge (processes : List (List ℕ)) (i : ℕ) (raw : RawEdge) (e : Edge) : Type 0 where
  -- its source is the process that is named
  pub from : number_of processes (place tables.Edge i From) raw.from ≡ Ok e.from
  -- its target is the process that is named
  pub to : number_of processes (place tables.Edge i To) raw.to ≡ Ok e.to
  -- its size is the document's
  pub size : natural raw.bytes ≡ e.size
  -- its `when` is the document's
  pub when : raw.when ≡ e.when

-- an edge that was read has what the document says
shows_edge : (processes : List (List ℕ)) (i : ℕ) (raw : RawEdge) (e : Edge) → edge_of processes i raw ≡ Ok e →
    ShowsEdge processes i raw e
unfolding edge_of
shows_edge processes i raw e i_is =
    let (from, found, next) = bind-parts (number_of processes (place tables.Edge i From) raw.from) _ e i_is in
    let (to, met, rest) = bind-parts (number_of processes (place tables.Edge i To) raw.to) _ e next in
    let is = same_ok _ e rest in
    record {
      from = found ∙ ap (λ (x : Edge). Ok x.from) is;
      to = met ∙ ap (λ (x : Edge). Ok x.to) is;
      size = ap (λ (x : Edge). x.size) is;
      when = ap (λ (x : Edge). x.when) is;
    }

-- The numbers of an order that was read are below the number of names, and differ, as the names of the order do.
-- Without an order there are none.
order_within : (names : List (List ℕ)) (raw : Option (List (List ℕ))) (order : Option (List ℕ)) →
    order_apart raw ≡ Ok tt →
    order_of names raw ≡ Ok order
    → IfSome order (λ o. (n : ℕ) → length names ≡ n → IsOrderWithin n o)
unfolding order_apart order_of
order_within names None order h e =
    subst (λ o. IfSome o (λ o. (n : ℕ) → length names ≡ n → IsOrderWithin n o)) (same_ok None order e) tt
order_within names (Some called) order h e =
    let (o, found, is) = bind-parts (each (ordered names) 0 called) _ order e in
    let differ = apart-pairs tables.Top Order called tt h in
    let count = each-length (ordered names) 0 called o found in
    let at : (k d : ℕ) → k < length o →
    (get_or o k d < length names) × (get_or names (get_or o k d) [] ≡ get_or called k []) =
    λ k d l. number-is names _ _ _
    (each-at (ordered names) 0 called o found k k [] d (zero-add k) (omega (arith, l, count))) [] in
    subst (λ o. IfSome o (λ o. (n : ℕ) → length names ≡ n → IsOrderWithin n o)) (same_ok (Some o) order is)
    (λ n same. record {
      there = λ k d l. omega (arith, (at k d l).0, same);
      once = λ i j d lt l twice. differ i j [] lt (omega (arith, l, count))
          (sym (at i d (omega (arith, lt, l))).1 ∙ ap (λ p. get_or names p []) twice ∙ (at j d l).1);
    })

-- no name of document g is double, and these parts of a graph are read of it
record AreParts (g : RawGraph) (ss : List Slot) (ps : List Process) (es : List Edge)
    (found : Option (List ℕ)) : Type 0 where
  -- no two nodes have one name
  pub nodes_apart : AllPairs (λ a b. a ≢ b) g.nodes
  -- no two slots belong to one node
  pub slots_apart : AllPairs (λ a b. a ≢ b) (slot_names g.slots)
  -- no two processes have one name
  pub processes_apart : AllPairs (λ a b. a ≢ b) (process_names g.processes)
  -- ss are the slots that are read
  pub slots : each (slot_of g.nodes) 0 g.slots ≡ Ok ss
  -- ps are the processes that are read
  pub processes : each (process_of g.nodes) 0 g.processes ≡ Ok ps
  -- es are the edges that are read
  pub edges : each (edge_of (process_names g.processes)) 0 g.edges ≡ Ok es
  -- no name stands twice in the order
  pub order_apart : order_apart g.order ≡ Ok tt
  -- `found` is the order that is read
  pub order : order_of (process_names g.processes) g.order ≡ Ok found

-- a process's own deadline, which counts as 0 if it is absent, is within the limit as a natural number too
deadline_within : (own : Option ℤ) (most : ℕ) → natural (unwrap_or own (pos 0)) ≤ most →
    IfSome (option_map natural own) (λ d. d ≤ most)
deadline_within (Some d) most at_most = at_most
deadline_within None most at_most = tt

-- a slot for places past the end of the list
some_slot : RawSlot
some_slot = record { node = []; length = pos 0; bytes = pos 0 }

-- a process for places past the end of the list
some_process : RawProcess
some_process = record {
  name = [];
  node = [];
  wcet = pos 0;
  parts = pos 0;
  alpha = pos 0;
  chi = pos 0;
  mu = pos 0;
  join = false;
  frozen = false;
  release = pos 0;
  deadline = None;
}

-- an edge for places past the end of the list
some_edge : RawEdge
some_edge = record { from = []; to = []; bytes = pos 0; when = None; frozen = false }

-- given a document g within the limits, and the slots ss, processes ps, edges es and order that are read of it
module _ (g : RawGraph) (ss : List Slot) (ps : List Process) (es : List Edge) (order : Option (List ℕ))
    (limited : AreLimits g) (parts : AreParts g ss ps es order) where
  -- there are as many slots as tables of slots
  slot_count : length ss ≡ length g.slots
  slot_count = each-length (slot_of g.nodes) 0 g.slots ss parts.slots

  -- there are as many processes as tables of processes
  process_count : length ps ≡ length g.processes
  process_count = each-length (process_of g.nodes) 0 g.processes ps parts.processes

  -- there are as many edges as tables of edges
  edge_count : length es ≡ length g.edges
  edge_count = each-length (edge_of (process_names g.processes)) 0 g.edges es parts.edges

  -- there are as many names as processes
  name_count : length (process_names g.processes) ≡ length ps
  name_count = length-map g.processes (λ p. p.name) ∙ sym process_count

  -- each slot of the graph has what the document says of it
  slot_there : (k : ℕ) (d : Slot) → k < length ss → ShowsSlot g.nodes k (get_or g.slots k some_slot) (get_or ss k d)
  slot_there k d below = shows_slot g.nodes k _ _
      (each-at (slot_of g.nodes) 0 g.slots ss parts.slots k k some_slot d (zero-add k)
      (omega (arith, below, slot_count)))

  -- each process of the graph has what the document says of it
  process_there : (k : ℕ) (d : Process) → k < length ps →
      ShowsProcess g.nodes k (get_or g.processes k some_process) (get_or ps k d)
  process_there k d below = shows_process g.nodes k _ _ (each-at (process_of g.nodes)
      0 g.processes ps parts.processes k k
      some_process d (zero-add k) (omega (arith, below, process_count)))

  -- each edge of the graph has what the document says of it
  edge_there : (k : ℕ) (d : Edge) → k < length es →
      ShowsEdge (process_names g.processes) k (get_or g.edges k some_edge) (get_or es k d)
  edge_there k d below = shows_edge (process_names g.processes) k _ _ (each-at (edge_of (process_names g.processes)) 0
      g.edges es parts.edges k k some_edge d (zero-add k) (omega (arith, below, edge_count)))

  -- each slot is within the limits, as its numbers are in their ranges in the document
  slots_within : All (IsSlotWithin (length g.nodes)) ss
  slots_within k d l =
      let shown = slot_there k d l in
      let ranges = limited.slot_ranges k some_slot (omega (arith, l, slot_count)) in
      record {
        node = (number-is g.nodes _ _ _ shown.node []).0;
        lasts = rw (← shown.length) ranges.0;
        length = rw (← shown.length) ranges.1;
        holds = rw (← shown.bytes) ranges.2.0;
        bytes = rw (← shown.bytes) ranges.2.1;
      }

  -- each process is within the limits, as its numbers are in their ranges in the document
  processes_within : All (IsProcessWithin (length g.nodes)) ps
  processes_within k d l =
      let shown = process_there k d l in
      let ranges = limited.process_ranges k some_process (omega (arith, l, process_count)) in
      record {
        node = (number-is g.nodes _ _ _ shown.node []).0;
        works = rw (← shown.wcet) ranges.0;
        wcet = rw (← shown.wcet) ranges.1;
        divided = rw (← shown.parts) ranges.2.0;
        parts = rw (← shown.parts) ranges.2.1;
        alpha = rw (← shown.alpha) ranges.2.2.1;
        chi = rw (← shown.chi) ranges.2.2.2.1;
        mu = rw (← shown.mu) ranges.2.2.2.2.1;
        release = rw (← shown.release) ranges.2.2.2.2.2.1;
        deadline = rw (← shown.deadline)
            (deadline_within (get_or g.processes k some_process).deadline 1000000000 ranges.2.2.2.2.2.2.1);
      }

  -- each edge is within the limits, as its number is in its range in the document
  edges_within : All (IsEdgeWithin (length ps)) es
  edges_within k d l =
      let shown = edge_there k d l in
      let ranges = limited.edge_ranges k some_edge (omega (arith, l, edge_count)) in
      record {
        from = rw (← name_count) (number-is (process_names g.processes) _ _ _ shown.from []).0;
        to = rw (← name_count) (number-is (process_names g.processes) _ _ _ shown.to []).0;
        sized = rw (← shown.size) ranges.0;
        size = rw (← shown.size) ranges.1;
      }

  -- the name of a process in the document is its name in the graph
  named : (k : ℕ) (d : Process) → k < length ps → get_or (process_names g.processes) k [] ≡ (get_or ps k d).name
  named k d below =
      get_or-map _ g.processes k some_process [] (omega (arith, below, process_count)) ∙ (process_there k d below).name

  -- the names of the graph's processes differ, as they do in the document
  names_differ : AllPairs (λ p q. p.name ≢ q.name) ps
  names_differ i j d lt l e =
      parts.processes_apart i j [] lt (omega (arith, l, name_count))
      (named i d (omega (arith, lt, l)) ∙ e ∙ sym (named j d l))

  -- the nodes of the graph's slots differ, as their names do in the document
  slots_differ : AllPairs (λ s t. s.node ≢ t.node) ss
  slots_differ i j d lt j_inside same_node =
      let node_i = number-is g.nodes _ _ _ (slot_there i d (omega (arith, lt, j_inside))).node [] in
      let node_j = number-is g.nodes _ _ _ (slot_there j d j_inside).node [] in
      let name_i = get_or-map (λ (s : RawSlot). s.node) g.slots i some_slot []
      (omega (arith, lt, j_inside, slot_count)) in
      let name_j = get_or-map (λ (s : RawSlot). s.node) g.slots j some_slot [] (omega (arith, j_inside, slot_count)) in
      let same = sym node_i.1 ∙ ap (λ n. get_or g.nodes n []) same_node ∙ node_j.1 in
      parts.slots_apart i j [] lt (omega (arith, j_inside, slot_count, length-map g.slots (λ s. s.node)))
      (name_i ∙ same ∙ sym name_j)

  -- the processes with a conditional output
  conditional : List ℕ
  conditional = filter (has_conditional_output es) (numbers_below (length ps))

  -- the name of a process
  name_of : ℕ → List ℕ
  name_of p = get_or (process_names g.processes) p []

  -- a conditional process is one of the graph
  conditional_below : (p : ℕ) → Contains conditional p → p < length ps
  unfolding conditional
  conditional_below p among = numbers-Contains (length ps) p
      (Contains-filter_parts (has_conditional_output es) (numbers_below (length ps)) p among).0

  -- the names of the conditional processes differ, as these are different processes
  conditional_names_differ : AllPairs (λ a b. a ≢ b) (map name_of conditional)
  unfolding conditional name_of
  conditional_names_differ i j d lt j_inside same_name =
      let j_below : j < length conditional = omega (arith, j_inside, length-map conditional name_of) in
      let at_i = get_or-map name_of conditional i 0 d (omega (arith, lt, j_below)) in
      let at_j = get_or-map name_of conditional j 0 d j_below in
      -- the process at i is below that at j
      let rise = AllPairs-filter (λ x y. x < y) (has_conditional_output es) (numbers_below (length ps))
      (AllPairs-from_increasing (numbers_below (length ps)) (numbers_rise (length ps))) i j 0 lt j_below in
      parts.processes_apart (get_or conditional i 0) (get_or conditional j 0) [] rise
      (omega (arith, name_count, conditional_below (get_or conditional j 0) (Contains-get_or conditional j 0 j_below)))
      (sym at_i ∙ same_name ∙ at_j)

  -- The name of a conditional process is the source of a conditional edge in the document: that from which its
  -- conditional edge was read.
  conditional_named : (p : ℕ) → Contains conditional p → Contains (sources g.edges) (name_of p)
  unfolding conditional name_of
  conditional_named p among =
      -- edge e, at place k, is a conditional output of p
      let (e, (k, l, here), test) = list_any_parts (is_conditional_output p) es
      (Contains-filter_parts (has_conditional_output es) (numbers_below (length ps)) p among).1 in
      let (from, taken) = and_parts (e.from == p) (is_some e.when) test in
      -- it was read from the edge at place k of the document, which has its condition and the name of its source
      let shown = edge_there k e l in
      let raw = get_or g.edges k some_edge in
      let when : raw.when ≡ e.when = shown.when ∙ ap (λ (x : Edge). x.when) here in
      let source : name_of p ≡ raw.from = ap name_of (sym (ap (λ (x : Edge). x.from) here ∙ eqb-true e.from p from))
      ∙ (number-is (process_names g.processes) _ _ _ shown.from []).1 in
      subst (Contains (sources g.edges)) (sym source)
      (Contains-map (λ (r : RawEdge). r.from) (filter (λ (r : RawEdge). is_some r.when) g.edges) raw
      (Contains-filter (λ (r : RawEdge). is_some r.when) g.edges raw (ap is_some when ∙ taken)
      (Contains-get_or g.edges k some_edge (omega (arith, l, edge_count)))))

  -- There are at most 32 conditional processes: their names differ, and are among the different sources of conditional
  -- edges.
  few_conditional : length conditional ≤ 32
  few_conditional =
      let all = length-le_of_apart (map name_of conditional) (different [] (sources g.edges)) conditional_names_differ
      (λ name c. let (p, there, is) = Contains-map_parts name_of conditional name c in
      different-Contains [] (sources g.edges) name
      (inr (subst (Contains (sources g.edges)) is (conditional_named p there)))) in
      omega (arith, all, limited.conditions, length-map conditional name_of)

  -- there are at most 32 conditions, as there is one for each conditional process
  conditions_within : condition_count (graph_with g ss ps es order) ≤ 32
  unfolding conditional
  conditions_within = subst (λ n. n ≤ 32) (ap length (conditions_found (graph_with g ss ps es order))) few_conditional

  -- an order of the document's names is one of the graph's processes
  order_there : (o : Option (List ℕ)) →
      IfSome o (λ o. (n : ℕ) → length (process_names g.processes) ≡ n → IsOrderWithin n o) →
      IfSome o (IsOrderWithin (length ps))
  order_there None h = tt
  order_there (Some o) h = h (length ps) name_count

  -- each limit of the graph follows from one of the document
  all_within : IsWithinLimits (graph_with g ss ps es order)
  all_within = record {
    faults = limited.top_range.1;
    deadline = limited.top_range.2.1;
    few_nodes = limited.nodes;
    few_slots = omega (arith, slot_count, limited.slots);
    few_processes = omega (arith, process_count, limited.processes);
    few_edges = omega (arith, edge_count, limited.edges);
    few_conditions = conditions_within;
    slots = slots_within;
    processes = processes_within;
    edges = edges_within;
    node_names = parts.nodes_apart;
    process_names = names_differ;
    own_slots = slots_differ;
    order = order_there order (order_within (process_names g.processes) g.order order parts.order_apart parts.order);
  }

-- The graph of a document within the limits is within the limits. Its reading is taken apart step by step, which gives
-- its parts and that no name is double.
pub graph-within : (g : RawGraph) (graph : Graph) → limits g ≡ Ok tt → graph_of g ≡ Ok graph → IsWithinLimits graph
unfolding graph_of resolved
graph-within g graph limited is =
    let (_, nodes, h1) = then-parts _ _ graph is in
    let (_, own_slots, h2) = then-parts _ _ graph h1 in
    let (_, names, h3) = then-parts _ _ graph h2 in
    let (_, differs, h4) = then-parts _ _ graph h3 in
    let (ss, slots, h5) = bind-parts (each (slot_of g.nodes) 0 g.slots) _ graph h4 in
    let (ps, processes, h6) = bind-parts (each (process_of g.nodes) 0 g.processes) _ graph h5 in
    let (es, edges, h7) = bind-parts (each (edge_of (process_names g.processes)) 0 g.edges) _ graph h6 in
    let (order, ordered, h8) = bind-parts (order_of (process_names g.processes) g.order) _ graph h7 in
    let parts : AreParts g ss ps es order = record {
      nodes_apart = apart-pairs tables.Node Name g.nodes _ nodes;
      slots_apart = apart-pairs tables.Slot Node (slot_names g.slots) _ own_slots;
      processes_apart = apart-pairs tables.Process Name (process_names g.processes) _ names;
      slots = slots;
      processes = processes;
      edges = edges;
      order_apart = differs;
      order = ordered;
    } in
    subst IsWithinLimits (same_ok (graph_with g ss ps es order) graph h8)
    (all_within g ss ps es order (are_limits g limited) parts)

-- a graph within the limits is so without its order, too
pub unordered-within : (graph : Graph) → IsWithinLimits graph → IsWithinLimits (record graph { order = None })
unordered-within graph h = record {
  faults = h.faults;
  deadline = h.deadline;
  few_nodes = h.few_nodes;
  few_slots = h.few_slots;
  few_processes = h.few_processes;
  few_edges = h.few_edges;
  few_conditions = h.few_conditions;
  slots = h.slots;
  processes = h.processes;
  edges = h.edges;
  node_names = h.node_names;
  process_names = h.process_names;
  own_slots = h.own_slots;
  order = tt;
}

-- if a fact holds of f x for the optional value x, it holds of x by way of f
pub of_mapped : {S T : Type 0} (f : S → T) (P : T → Type 0) (o : Option S) → IfSome (option_map f o) P →
    IfSome o (λ x. P (f x))
of_mapped f P None h = tt
of_mapped f P (Some x) h = h
