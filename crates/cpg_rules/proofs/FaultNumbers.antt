-- An admitted graph is admitted with any other fault number, and its order and guards stay: only how many faults there
-- may be rests on that number.
use Rattle.std.proofs.Common.{ℕ, zero, suc, ◌+◌, ◌≤◌, ◌≡◌, ◌==◌, if◌then◌else◌, Bool, false, not, ◌&&◌, ◌||◌}
use Rattle.std.proofs.Common.{List, length, get_or, refl, sym, ap, ◌∙◌, subst}
use Rattle.std.specs.Prelude.{nat_lt, IfSome, IsTrue, Option, None, Some}
use Rattle.std.specs.Option.{option_map}
use Rattle.cpg_base.specs.declared.limits.TheConstants.{MOST_FAULTS}
use Rattle.cpg_base.specs.Numbers.{numbers_below, greatest}
use Rattle.cpg_base.specs.Graph.{Graph, process_count, condition_count, process_at, edge_at, source, target, inputs}
use Rattle.cpg_base.specs.Graph.{outputs, is_message, process_of}
use Rattle.cpg_base.specs.Activity.{is_active, takes, value_of, activation_within, activation, live}
use Rattle.cpg_base.specs.Bus.{round}
use Rattle.cpg_base.specs.Duration.{duration}
use Rattle.cpg_base.specs.Limits.{IsWithinLimits}
use Rattle.cpg_base.specs.Order.{place}
use Rattle.cpg_base.specs.WellFormed.{WellFormed, HasSingleJoins}
use Rattle.cpg_base.proofs.Inputs.{same_activation_by}
use Rattle.cpg_base.proofs.Lists.{same_filter, same_all, same_map}
use Rattle.cpg_order.specs.Deciding.{outcomes}
use Rattle.cpg_order.specs.Guard.{Guard, Leaf, Test, IsOrderedFrom, IsGuardOf}
use Rattle.cpg_order.specs.Track.{is_track, track_count, most_tracks}
use Rattle.cpg_order.specs.Urgency.{tail_within, tail, IsUrgencyOrder, IsTopological}
use Rattle.cpg_rules.specs.Admission.{IsAdmitted}
use Rattle.cpg_rules.specs.FaultNumber.{with_fault_number}
use Rattle.cpg_rules.specs.Given.{GivesTopological}
use Rattle.cpg_rules.specs.Guards.{Guards, tree_of, AreGuardsOf}

-- a graph within its limits stays so with another fault number in range; no other limit looks at that number
pub limits_same : (g : Graph) (faults : ℕ) → IsWithinLimits g → faults ≤ MOST_FAULTS →
    IsWithinLimits (with_fault_number g faults)
limits_same g faults limits few = record {
  faults = few;
  deadline = limits.deadline;
  few_nodes = limits.few_nodes;
  few_slots = limits.few_slots;
  few_processes = limits.few_processes;
  few_edges = limits.few_edges;
  few_conditions = limits.few_conditions;
  slots = limits.slots;
  processes = limits.processes;
  edges = limits.edges;
  node_names = limits.node_names;
  process_names = limits.process_names;
  own_slots = limits.own_slots;
  order = limits.order;
}

-- a graph within its limits stays so without its order; no other limit looks at the order
pub orderless_within : (g : Graph) → IsWithinLimits g → IsWithinLimits (record g { order = None })
orderless_within g limits = record {
  faults = limits.faults;
  deadline = limits.deadline;
  few_nodes = limits.few_nodes;
  few_slots = limits.few_slots;
  few_processes = limits.few_processes;
  few_edges = limits.few_edges;
  few_conditions = limits.few_conditions;
  slots = limits.slots;
  processes = limits.processes;
  edges = limits.edges;
  node_names = limits.node_names;
  process_names = limits.process_names;
  own_slots = limits.own_slots;
  order = tt;
}

-- what holds of the view of an option's value holds of the value's view
pub of_view : {X Y : Type 0} (f : X → Y) (P : Y → Type 0) (r : Option X) (o : Option Y) → option_map f r ≡ o →
    IfSome o P →
    IfSome r (λ x. P (f x))
of_view f P None o is h = tt
of_view f P (Some x) o is h = subst (λ q. IfSome q P) (sym is) h

-- given: a graph g, and the fault number that it gets
module _ (g : Graph) (faults : ℕ) where
  -- the graph with the other fault number
  abbrev h : Graph
  h = with_fault_number g faults

  -- ---- activity

  -- activations don't depend on the fault number, to any depth
  activation_within_same : (depth : ℕ) (values : List Bool) (p : ℕ) →
      activation_within depth h values p ≡ activation_within depth g values p
  activation_within_same zero values p = refl
  activation_within_same (suc depth) values p =
      same_activation_by (process_at g p).join (inputs g p) _ _
      (λ e among. ap (λ a. is_active a && takes (edge_at g e).when (value_of g values (source g e)))
      (activation_within_same depth values (source g e)))

  -- activations don't depend on the fault number
  activation_same : (values : List Bool) (p : ℕ) → activation h values p ≡ activation g values p
  activation_same values p = activation_within_same (process_count g) values p

  -- which edges are live doesn't depend on the fault number
  live_same : (values : List Bool) (e : ℕ) → live h values e ≡ live g values e
  live_same values e = ap (λ a. is_active a && takes (edge_at g e).when (value_of g values (source g e)))
      (activation_same values (source g e))

  -- ---- tracks and joins

  -- which outcomes are tracks doesn't depend on the fault number
  track_same : (o : List Bool) → is_track h o ≡ is_track g o
  track_same o = same_all _ _ (numbers_below (condition_count g))
      (λ c among. ap (λ a. not (get_or o c false) || is_active a) (activation_same o (process_of g c)))

  -- how many tracks there are doesn't depend on the fault number
  tracks_same : track_count h ≡ track_count g
  tracks_same =
      ap length (same_filter (is_track h) (is_track g) (outcomes (condition_count g)) (λ o among. track_same o))

  -- no join has two live inputs, as before
  joins_same : HasSingleJoins g → HasSingleJoins h
  joins_same single p values l join long =
      subst (λ n. n ≤ 1)
      (sym (ap length (same_filter (live h values) (live g values) (inputs g p) (λ e among. live_same values e))))
      (single p values l join long)

  -- ---- orders

  -- a topological order stays one
  topological_same : (order : List ℕ) → IsTopological g order → IsTopological h order
  topological_same order top = record { all = top.all; forward = top.forward }

  -- an order that the graph gives stays topological
  given_same : GivesTopological g → GivesTopological h
  given_same = go g.order
    where
      -- by whether the graph gives an order
      go : (o : Option (List ℕ)) → IfSome o (IsTopological g) → IfSome o (IsTopological h)
      go None none = none
      go (Some order) top = topological_same order top

  -- the longest ways don't depend on the fault number, to any depth
  tail_within_same : (depth p : ℕ) → tail_within depth h p ≡ tail_within depth g p
  tail_within_same zero p = refl
  tail_within_same (suc depth) p =
      ap (λ ways. duration g p 0 + greatest ways)
      (same_map _ _ (outputs g p)
      (λ e among. ap (λ way. (if is_message g e then round g else 0) + way) (tail_within_same depth (target g e))))

  -- the longest ways don't depend on the fault number
  tail_same : (p : ℕ) → tail h p ≡ tail g p
  tail_same p = tail_within_same (process_count g) p

  -- the urgency order stays: tails count executions without faults
  urgency_same : (order : List ℕ) → IsUrgencyOrder g order → IsUrgencyOrder h order
  urgency_same order urgent = record {
    all = urgent.all;
    falling = λ i j d before inside. (let first = get_or order i d in let second = get_or order j d in
        subst (λ n. IsTrue (nat_lt n (tail h first) || ((tail h first == n) && nat_lt first second)))
        (sym (tail_same second))
        (subst (λ n. IsTrue (nat_lt (tail g second) n || ((n == tail g second) && nat_lt first second)))
        (sym (tail_same first))
        (urgent.falling i j d before inside)));
  }

  -- ---- guards

  -- a tree stays ordered: the processes of conditions are the same
  ordered_same : (order : List ℕ) (k : ℕ) (tree : Guard) → IsOrderedFrom g order k tree → IsOrderedFrom h order k tree
  ordered_same order k (Leaf a) is = is
  ordered_same order k (Test c off on) (within, later, is_off, is_on) = (
    within,
    later,
    ordered_same order (place order (process_of g c) + 1) off is_off,
    ordered_same order (place order (process_of g c) + 1) on is_on,
  )

  -- the guard of a process stays
  guard_same : (order : List ℕ) (p : ℕ) (tree : Guard) → IsGuardOf g order p tree → IsGuardOf h order p tree
  guard_same order p tree guard = record {
    is = λ o long. guard.is o long ∙ sym (activation_same o p);
    ordered = ordered_same order 0 tree guard.ordered;
    reduced = guard.reduced;
  }

  -- the guards of the graph are those with any other fault number
  guards_same : (order : List ℕ) (guards : Guards) → AreGuardsOf g order guards → AreGuardsOf h order guards
  guards_same order guards are = record {
    conditions = are.conditions;
    count = are.count;
    trees = λ p l. guard_same order p (tree_of guards p) (are.trees p l);
    edges = are.edges;
  }

  -- the graph stays well-formed: no field looks at the fault number
  well_formed_same : WellFormed g → WellFormed h
  well_formed_same w = record {
    sources = w.sources;
    targets = w.targets;
    nodes = w.nodes;
    works = w.works;
    parts = w.parts;
    slot_nodes = w.slot_nodes;
    slot_lengths = w.slot_lengths;
    own_slots = w.own_slots;
    senders = w.senders;
    few_processes = w.few_processes;
    few_conditions = w.few_conditions;
  }

  -- A graph that is admitted is admitted with any other fault number in range, by the same order and guards: each rule
  -- stays by itself.
  pub admitted_same : (order : List ℕ) (guards : Guards) → faults ≤ MOST_FAULTS → IsAdmitted g order guards →
      IsAdmitted h order guards
  admitted_same order guards few is = record {
    limits = limits_same g faults is.limits few;
    well_formed = well_formed_same is.well_formed;
    urgency = urgency_same order is.urgency;
    topological = topological_same order is.topological;
    tracks = subst (λ n. n ≤ most_tracks) (sym tracks_same) is.tracks;
    guards = guards_same order guards is.guards;
    joins = joins_same is.joins;
    slots = is.slots;
    sizes = is.sizes;
    given = given_same is.given;
  }
