-- A document with the names of an order at its key `order` says the graph that gives this order.
use Rattle.std.proofs.Common.{◌≡◌, ℕ, ◌<◌, List, [], All, length, get_or, map, Option, Some, Ok, refl, sym, ap, ◌∙◌}
use Rattle.std.proofs.Common.{subst}
use Rattle.std.proofs.lemmas.List.{length-map}
use mathlib.Core.List.{map-map}
use Rattle.toml.specs.Data.{Members, string, array}
use Rattle.toml.specs.View.{items_of}
use Rattle.cpg_base.specs.Graph.{Graph, process_count}
use Rattle.cpg_base.specs.Limits.{IsWithinLimits, IsOrderWithin}
use Rattle.cpg_base.specs.declared.process.Process.{Process}
use Rattle.cpg_reader.specs.declared.place.Table.TheVariants as tables
use Rattle.cpg_reader.specs.declared.place.Key.TheVariants.{Node, Name}
use Rattle.cpg_reader.specs.Document.{document_of, read_members, problem_of}
use Rattle.cpg_reader.specs.Names.{apart, slot_of, process_of, edge_of, order_of, order_apart, slot_names}
use Rattle.cpg_reader.specs.Names.{process_names, graph_with, graph_of, resolved}
use Rattle.cpg_reader.specs.Ranges.{limits}
use Rattle.cpg_reader.specs.RawOf.{raw_of, raw_process, name_in, names_of}
use Rattle.cpg_reader.specs.Reading.{each}
use Rattle.cpg_reader.specs.Rows.{as_names}
use Rattle.cpg_reader.specs.Shape.{RawGraph, read_raw}
use Rattle.cpg_reader.proofs.Numbered.{graph_back}
use Rattle.cpg_reader.proofs.Steps.{same_ok}
use Rattle.cpg_reader.proofs.Within.{graph-within}
use Rattle.cpg_given_laws.specs.Kept.{with_order}
use Rattle.cpg_given_laws.specs.Read.{names_along, with_key}
use Rattle.cpg_given_laws.proofs.Opened.{opened, passed_on}
use Rattle.cpg_given_laws.proofs.Documents.{raw_with, raw_processes}
use Rattle.cpg_given_laws.proofs.Names.{all_called, names_read}
use Rattle.cpg_given_laws.proofs.Admission.{limits_with}

-- the names of an order differ, and stand for its numbers
record AreNumbered (names : List (List ℕ)) (order : List ℕ) : Type 0 where
  -- no two names are equal
  pub apart : order_apart (Some (map (name_in names) order)) ≡ Ok tt
  -- read as names of processes, they are the numbers of the order
  pub numbers : order_of names (Some (map (name_in names) order)) ≡ Ok (Some order)

-- the names of the processes are those of the graph
names_back : (g : Graph) → process_names (raw_of g).processes ≡ names_of g.processes
names_back g = map-map (λ p. p.name) (raw_process g.nodes) g.processes

-- The names of an order are read as its numbers, since the document of a graph is read back as the graph.
-- The checks of the reader are passed one by one; those of the order give that its names differ and are found.
are_numbered : (g : Graph) (order : List ℕ) → IsWithinLimits g → IsOrderWithin (process_count g) order →
    AreNumbered (names_of g.processes) order
unfolding graph_of resolved
are_numbered g order limited within =
    let ordered = with_order g order in
    let raw = raw_of ordered in
    -- no two names of nodes, of slots' nodes, of processes and of the order are the same
    passed_on (apart tables.Node Name raw.nodes) _ ordered (graph_back ordered (limits_with g order limited within))
    λ _ _ rest.
    passed_on (apart tables.Slot Node (slot_names raw.slots)) _ ordered rest λ _ _ rest.
    passed_on (apart tables.Process Name (process_names raw.processes)) _ ordered rest λ _ _ rest.
    passed_on (order_apart raw.order) _ ordered rest λ _ differ rest.
    -- the slots, the processes, the edges and the order by number
    opened (each (slot_of raw.nodes) 0 raw.slots) _ ordered rest λ slots _ rest.
    opened (each (process_of raw.nodes) 0 raw.processes) _ ordered rest λ processes _ rest.
    opened (each (edge_of (process_names raw.processes)) 0 raw.edges) _ ordered rest λ edges _ rest.
    opened (order_of (process_names raw.processes) raw.order) _ ordered rest λ found numbers last.
    record {
      apart = differ;
      numbers = ap (λ names. order_of names raw.order) (sym (names_back ordered)) ∙ numbers
          ∙ ap (λ (g : Graph). Ok g.order) (same_ok (graph_with raw slots processes edges found) ordered last);
    }

-- The processes of the graph `g` are called as in its document `r`. Step by step of the reading: only the list of
-- processes makes the names, and it keeps them.
same_names : (r : RawGraph) (g : Graph) → graph_of r ≡ Ok g → names_of g.processes ≡ process_names r.processes
unfolding graph_of resolved
same_names r g is_g =
    passed_on (apart tables.Node Name r.nodes) _ g is_g λ _ _ rest.
    passed_on (apart tables.Slot Node (slot_names r.slots)) _ g rest λ _ _ rest.
    passed_on (apart tables.Process Name (process_names r.processes)) _ g rest λ _ _ rest.
    passed_on (order_apart r.order) _ g rest λ _ _ rest.
    opened (each (slot_of r.nodes) 0 r.slots) _ g rest λ slots _ rest.
    opened (each (process_of r.nodes) 0 r.processes) _ g rest λ processes ps rest.
    opened (each (edge_of (process_names r.processes)) 0 r.edges) _ g rest λ edges _ rest.
    opened (order_of (process_names r.processes) r.order) _ g rest λ found _ last.
    ap (λ (g : Graph). names_of g.processes) (sym (same_ok (graph_with r slots processes edges found) g last))
    ∙ all_called r.nodes 0 r.processes processes ps

-- With the names of the processes in `order`, the document `r` of the graph `g` says `g` with that order. Each step of
-- the reading gives the same as before, and the last one finds the order's numbers by their names.
graph_ordered : (r : RawGraph) (g : Graph) (order : List ℕ) → graph_of r ≡ Ok g →
    AreNumbered (process_names r.processes) order
    → graph_of (record r { order = Some (map (name_in (process_names r.processes)) order) }) ≡ Ok (with_order g order)
unfolding graph_of resolved
graph_ordered r g order is_g are =
    passed_on (apart tables.Node Name r.nodes) _ g is_g λ _ nodes_apart rest.
    passed_on (apart tables.Slot Node (slot_names r.slots)) _ g rest λ _ slots_apart rest.
    passed_on (apart tables.Process Name (process_names r.processes)) _ g rest λ _ processes_apart rest.
    passed_on (order_apart r.order) _ g rest λ _ _ rest.
    opened (each (slot_of r.nodes) 0 r.slots) _ g rest λ slots are_slots rest.
    opened (each (process_of r.nodes) 0 r.processes) _ g rest λ processes are_processes rest.
    opened (each (edge_of (process_names r.processes)) 0 r.edges) _ g rest λ edges are_edges rest.
    opened (order_of (process_names r.processes) r.order) _ g rest λ found _ last.
    rw (nodes_apart, slots_apart, processes_apart, are.apart, are_slots, are_processes, are_edges, are.numbers)
    (ap (λ (g : Graph). Ok (with_order g order)) (same_ok (graph_with r slots processes edges found) g last))

-- the faults and the deadline are the same whatever the order
same_limits : (r : RawGraph) (order : Option (List (List ℕ))) → limits (record r { order = order }) ≡ limits r
unfolding limits
same_limits r order = refl

-- The document with the key `order` is read as the graph with this order: the raw document has the names of the
-- order, and these names are read as its numbers.
read_with : (ms : Members) (g : Graph) (order : List ℕ) → read_members ms ≡ Ok g →
    IsOrderWithin (process_count g) order →
    read_members (with_key g order ms) ≡ Ok (with_order g order)
unfolding read_members
read_with ms g order is_g within =
    opened (read_raw ms) _ g is_g λ r raw rest.
    passed_on (limits r) _ g rest λ x limited graph.
    -- the names are those of the graph's processes, and are read as the order
    let same = same_names r g graph in
    let count : length (process_names r.processes) ≡ process_count g =
    ap length (sym same) ∙ length-map g.processes (λ (p : Process). p.name) in
    let are : AreNumbered (process_names r.processes) order =
    subst (λ names. AreNumbered names order) same (are_numbered g order (graph-within r g limited graph) within) in
    -- the key's value is read as these names
    let read : as_names (names_along g order) ≡ Some (map (name_in (process_names r.processes)) order) =
    ap (λ names. as_names (array (items_of (map (λ p. string (get_or names p [])) order)))) same
    ∙ names_read (process_names r.processes) order (raw_processes ms r raw)
    (subst (λ n. All (λ p. p < n) order) (sym count) within.there) in
    -- the rest of the document is read as before
    rw (
      raw_with (names_along g order) ms r (map (name_in (process_names r.processes)) order) read raw,
      same_limits r (Some (map (name_in (process_names r.processes)) order)),
      limited,
    )
    (graph_ordered r g order graph are)

-- a file whose document differs only at the key `order` says the same graph with that order
pub orders_are_read : (bytes new : List ℕ) (ms : Members) (g : Graph) (order : List ℕ) → document_of bytes ≡ Ok ms →
    problem_of bytes ≡ Ok g
    → IsOrderWithin (process_count g) order → document_of new ≡ Ok (with_key g order ms) →
    problem_of new ≡ Ok (with_order g order)
unfolding problem_of
orders_are_read bytes new ms g order is says within keyed =
    rw keyed (read_with ms g order (let says_g = rw is at says in says_g) within)
