-- How many instants the nodes of a play may come to, and how many nodes wait in a choice.
use Rattle.std.proofs.Common.{◌≡◌, ℕ, ◌+◌, ◌*◌, ◌<◌, ◌≤◌, ◌%◌, ◌==◌, List, [], ◌∷◌, length, map, get_or, Some, sym, ap}
use Rattle.std.proofs.Common.{◌∙◌, subst, arith}
use Rattle.std.specs.Prelude.{All, sum_by}
use Rattle.std.proofs.lemmas.List.{length-map, get_or_default}
use Rattle.std.proofs.lemmas.List.Elements.{All-head, All-tail, All-map}
use Rattle.std.proofs.lemmas.List.FromFn.{length-range_with_len}
use Rattle.std.proofs.lemmas.List.Sums.{sum_by-cons}
use Rattle.cpg_base.specs.declared.limits.TheConstants.{MOST_LOAD}
use Rattle.cpg_base.specs.Graph.{Graph, node_of, process_count}
use Rattle.cpg_base.specs.Duration.{duration}
use Rattle.cpg_base.specs.Limits.{IsWithinLimits}
use Rattle.cpg_base.specs.Numbers.{numbers_below}
use Rattle.cpg_base.proofs.Lists.{Contains-map_parts}
use Rattle.cpg_base.proofs.Ordered.{Rises, Rises-filter, numbers_go_up}
use Rattle.cpg_table.specs.Lawful.{column_count, rows_of}
use Rattle.cpg_table.specs.Shape.{processes_on}
use Rattle.cpg_table.specs.Table.{NodeTable}
use Rattle.cpg_node.specs.Dispatcher.{Dispatcher, Ended, Frame, Own, next, initial_dispatcher, turn}
use Rattle.cpg_table.specs.Items.{own_process}
use Rattle.cpg_cluster.specs.Cluster.{World, Cluster, Answer, Took, Waits, Done, answer, dispatcher_at, reported}
use Rattle.cpg_cluster.specs.Cluster.{reports_now}
use Rattle.cpg_cluster.specs.Driving.{choose, chosen, circle, remaining}
use Rattle.cpg_node.specs.Instants.{instants_left}
use Rattle.cpg_cluster.proofs.Finishing.{next_finished, table_finished}
use Rattle.cpg_node.proofs.TableBounds.{DoRise, HaveFewEnds}
use Rattle.cpg_node.proofs.Rooms.{all_left}
use Rattle.cpg_node.proofs.Instants.{most_instants, reported_left, turn_less}
use Rattle.cpg_cluster.proofs.Nodes.{own_of_node}

-- a node has at most 128 processes, each of which may end at 9 times
few_own : (g : Graph) (node : ℕ) → IsWithinLimits g → length (own_of_node g node) ≤ 128
few_own g node within = omega (
  arith,
  length-map (processes_on g node) (own_process g),
  all_left (λ p. node_of g p == node) (numbers_below (process_count g)),
  length-range_with_len 0 (process_count g),
  within.few_processes,
)

-- each process of a node may end at most at 9 times
own_few_ends : (g : Graph) (node : ℕ) → IsWithinLimits g → HaveFewEnds (own_of_node g node)
own_few_ends g node within =
    All-map (λ (o : Own). length o.times ≤ 9) (own_process g) (processes_on g node) (λ i p l. omega (
      arith,
      length-map (numbers_below (g.faults + 1)) (duration g (get_or (processes_on g node) i p)),
      length-range_with_len 0 (g.faults + 1),
      within.faults,
    ))

-- the processes of a node are in rising order
own_rise : (g : Graph) (node : ℕ) → DoRise (own_of_node g node)
own_rise g node = mapped (processes_on g node) (Rises-filter (λ x y. x < y) (λ p. node_of g p == node)
    (numbers_below (process_count g)) (numbers_go_up (process_count g)))
  where
    -- so they do with what the node knows of each; by induction on `ps`
    mapped : (ps : List ℕ) → Rises (λ x y. x < y) ps → DoRise (map (own_process g) ps)
    mapped [] rising = tt
    mapped (p ∷ ps) rising = (
      λ own there. let process = Contains-map_parts (own_process g) ps own there in
          subst (λ (o : Own). p < o.process) process.2 (rising.0 process.0 process.1),
      mapped ps rising.1,
    )

-- A turn leaves a node fewer instants. Its processes are few, rise, and may each end at few times, which is what
-- `instants_left` counts on.
pub less_turn : (g : Graph) (w : World) (node : ℕ) (d : Dispatcher) (time : ℕ) (frames : List Frame) →
    IsWithinLimits g → d.table.own ≡ own_of_node g node →
    next d ≡ Some time →
    instants_left (turn (reported g w d time) time [] frames) < instants_left d
less_turn g w node d time frames within own comes =
    let es : List Ended = map (λ (r : ℕ × Ended). r.1) (reports_now g w d time) in
    let same : (reported g w d time).table.own ≡ own_of_node g node = ap (λ t. t.own) (table_finished d es) ∙ own in
    let less = turn_less (reported g w d time) time frames (next_finished d es ∙ comes)
    (subst DoRise (sym same) (own_rise g node)) (subst HaveFewEnds (sym same) (own_few_ends g node within)) in
    omega (arith, less, reported_left d es)

-- a dispatcher has at most 128 processes, each of which may end at 9 times at most
abbrev HasFew : Dispatcher → Type 0
HasFew d = (length d.table.own ≤ 128) × HaveFewEnds d.table.own

-- The instants that such dispatchers have left together are at most 10 for each column and 1153 (128 * 9 + 1) for each
-- of them. By induction on `ds`.
most_of : (ds : List Dispatcher) → All HasFew ds →
    sum_by instants_left ds ≤ sum_by (λ (t : NodeTable). column_count (rows_of t))
    (map (λ (d : Dispatcher). d.table) ds) * 10 + length ds * 1153
most_of [] all = omega arith
most_of (d ∷ ds) all =
    let here = All-head HasFew d ds all in
    omega (
      arith,
      sum_by-cons instants_left d ds,
      sum_by-cons (λ (t : NodeTable). column_count (rows_of t)) d.table (map (λ (d : Dispatcher). d.table) ds),
      most_instants d here.0 here.1,
      most_of ds (All-tail HasFew d ds all),
    )

-- All nodes together have at most 5,261,328 instants left: 10 for each of 524,288 columns, and 1153 for each of 16
-- nodes.
pub most_remaining : (g : Graph) (c : Cluster) → IsWithinLimits g → length c.nodes ≤ 16 →
    ((i : ℕ) → i < length c.nodes → (dispatcher_at c i).table.own ≡ own_of_node g i) →
    sum_by (λ (t : NodeTable). column_count (rows_of t)) (map (λ (d : Dispatcher). d.table) c.nodes) ≤ MOST_LOAD →
    remaining c ≤ 5261328
most_remaining g c within few own columns = omega (
  arith,
  few,
  columns,
  most_of c.nodes (λ i d l.
      let same : (get_or c.nodes i d).table.own ≡ own_of_node g i = ap (λ (d : Dispatcher). d.table.own)
      (get_or_default c.nodes i d (initial_dispatcher
      (record { faults = 0; first_broadcast = 0; own = []; starts = []; sends = []; hears = [] })) l) ∙ own i l in (
        subst (λ (os : List Own). length os ≤ 128) (sym same) (few_own g i within),
        subst HaveFewEnds (sym same) (own_few_ends g i within),
      )),
)

-- in a choice among nodes `xs` no more than these wait; by induction on the nodes
pub few_waits : (g : Graph) (w : World) (c : Cluster) (xs : List ℕ) → (choose g w c xs).waits ≤ length xs
few_waits g w c [] = omega arith
few_waits g w c (x ∷ xs) = go (answer g c x) (few_waits g w c xs)
  where
    -- by what the node answers: one that waits counts as one more
    go : (a : Answer) → (choose g w c xs).waits ≤ length xs →
        (chosen g w c x a (choose g w c xs)).waits ≤ length (x ∷ xs)
    go Took l = omega arith
    go (Waits b) l = omega arith
    go Done l = omega arith

-- in a choice round the circle of `nodes` nodes, from node `first` on, no more than these wait
pub few_of_circle : (g : Graph) (w : World) (c : Cluster) (nodes first : ℕ) →
    (choose g w c (circle nodes first)).waits ≤ nodes
few_of_circle g w c nodes first = omega (
  arith,
  few_waits g w c (circle nodes first),
  length-map (numbers_below nodes) (λ i. (first + i) % nodes),
  length-range_with_len 0 nodes,
)
