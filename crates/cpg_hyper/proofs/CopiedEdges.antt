-- Where the copies of an edge stand. In the lemmas `whole` is the hyperperiod, p a part, i an instance of it, e an edge
-- of it, and `first` the number of the first process of all.
use Rattle.std.proofs.Common.{◌≡◌, ℕ, zero, suc, ◌+◌, ◌*◌, ◌/◌, ◌<◌, false, List, [], ◌∷◌, ◌++◌, length, get_or, take}
use Rattle.std.proofs.Common.{flat_map, None, sym, ap, ◌∙◌, arith}
use Rattle.std.proofs.lemmas.List.{length-map, get_or-map, get_or_append_left, get_or-append-add}
use Rattle.std.proofs.lemmas.List.Concat.{get_or-flat_map}
use Rattle.std.proofs.lemmas.List.FromFn.{length-range_with_len, get_or-range_with_len}
use Rattle.cpg_base.specs.Graph.{edge_at}
use Rattle.cpg_base.specs.declared.process.Edge.{Edge}
use Rattle.cpg_hyper.specs.declared.part.Part.{Part}
use Rattle.cpg_hyper.specs.Unrolled.{copied_edge, size_of, instances, first_in, after_part, edges_in, edges_of}
use Rattle.cpg_hyper.specs.Unrolled.{edges_from}
use Rattle.cpg_hyper.specs.Instances.{part_at, IsInstance, processes_before, first_process_of, edges_before, first_edge_of}
use Rattle.cpg_hyper.specs.Laws.{InstancesHaveEdges}
use Rattle.cpg_hyper.proofs.Counted.{constant_pieces, edges_size}
use Rattle.cpg_hyper.proofs.Copies.{within_pieces, take_count}
use Rattle.cpg_hyper.proofs.Whole.{nothing_before}

-- what an index past the end would show
abbrev pub no_edge : Edge
no_edge = record { from = 0; to = 0; size = 0; when = None; frozen = false }

-- the copy of an edge stands at its place among the edges of its part's instances
in_part : (whole first i e : ℕ) (part : Part) → i < whole / part.period → e < length part.problem.edges →
    get_or (edges_of whole first part) (i * length part.problem.edges + e) no_edge
    ≡ copied_edge (first_in first part i) (get_or part.problem.edges e no_edge)
-- the edges of the instances before i are i pieces of one length, so the edge is in piece i at place e
in_part whole first i e part instance_inside edge_inside =
    let copied = edges_in first part in
    let numbers = instances whole part in
    let size = length part.problem.edges in
    let count : i < length numbers = omega (arith, length-range_with_len 0 (whole / part.period), instance_inside) in
    let here : get_or numbers i 0 ≡ i = get_or-range_with_len 0 (whole / part.period) i 0 instance_inside
    ∙ nothing_before i in
    let front : length (flat_map copied (take i numbers)) ≡ i * size =
    constant_pieces copied size (λ j. length-map part.problem.edges _) (take i numbers)
    ∙ ap (λ n. n * size) (take_count whole i part instance_inside) in
    ap (λ n. get_or (edges_of whole first part) (n + e) no_edge) (sym front)
    ∙ get_or-flat_map copied numbers i e 0 no_edge count
    (omega (arith, length-map part.problem.edges (copied_edge (first_in first part (get_or numbers i 0))), edge_inside))
    ∙ ap (λ j. get_or (copied j) e no_edge) here
    ∙ get_or-map (copied_edge (first_in first part i)) part.problem.edges e no_edge no_edge edge_inside

-- 0 may be left out of a sum
drop_zero : (a b : ℕ) → 0 + a + b ≡ a + b
drop_zero a b = omega arith

-- a sum stays the same if 0 is put into it: no process comes before the first part
pub same_first : (first a : ℕ) → first + a ≡ first + (0 + a)
same_first first a = omega arith

-- a part's own edges, and then those before the copy
moved : (own b c e all : ℕ) → all ≡ own → own + b + c + e ≡ all + (b + c + e)
moved own b c e all is = omega (arith, is)

-- the first process after a part, plus those before an instance, in another order
pub next_first : (first own b a : ℕ) → first + own + (b + a) ≡ first + (own + b + a)
next_first first own b a = omega arith

-- the copy of a part's edge stands at its place after the instance's first edge
pub edge_copy_at : (whole first : ℕ) (parts : List Part) (p i e : ℕ) → IsInstance whole parts p i →
    e < length (part_at parts p).problem.edges
    → get_or (edges_from whole first parts) (first_edge_of whole parts p i + e) no_edge
    ≡ copied_edge (first + first_process_of whole parts p i) (get_or (part_at parts p).problem.edges e no_edge)
-- by induction on the parts
edge_copy_at whole first [] p i e is_instance edge_inside = absurd (omega (arith, is_instance.part))
edge_copy_at whole first (part ∷ parts) zero i e is_instance edge_inside =
    -- an edge of the first part's instances
    let inside = within_pieces i (whole / part.period) (length part.problem.edges) e is_instance.instance edge_inside in
    get_or_append_left (edges_of whole first part) (edges_from whole (after_part whole first part) parts) no_edge
    (0 + i * length part.problem.edges + e)
    (omega (arith, edges_size whole first part, inside))
    ∙ ap (λ n. get_or (edges_of whole first part) n no_edge) (drop_zero (i * length part.problem.edges) e)
    ∙ in_part whole first i e part is_instance.instance edge_inside
    ∙ ap (λ n. copied_edge n (get_or part.problem.edges e no_edge)) (same_first first (i * size_of part))
edge_copy_at whole first (part ∷ parts) (suc p) i e is_instance edge_inside =
    -- an edge of a later part's, behind all of the first part's
    let size = edges_size whole first part in
    let number = first_edge_of whole parts p i + e in
    ap (λ m. get_or (edges_of whole first part ++ edges_from whole (after_part whole first part) parts) m no_edge)
    (moved (whole / part.period * length part.problem.edges) (edges_before whole parts p)
    (i * length (part_at parts p).problem.edges) e (length (edges_of whole first part)) size)
    ∙ get_or-append-add (edges_of whole first part)
    (edges_from whole (after_part whole first part) parts) number no_edge
    ∙ edge_copy_at whole (after_part whole first part) parts p i e
    (record { part = omega (arith, is_instance.part); instance = is_instance.instance }) edge_inside
    ∙ ap (λ m. copied_edge m (get_or (part_at parts p).problem.edges e no_edge))
    (next_first first (whole / part.period * size_of part) (processes_before whole parts p) (i * size_of (part_at parts p)))

-- each edge of an instance is the copy of its part's edge
pub have_edges : InstancesHaveEdges
have_edges whole parts p i e is_instance edge_inside = edge_copy_at whole 0 parts p i e is_instance edge_inside
    ∙ ap (λ n. copied_edge n (edge_at (part_at parts p).problem e)) (nothing_before (first_process_of whole parts p i))
