-- An admitted graph is also admitted if it gives a topological order of its processes.
use Rattle.std.proofs.Common.{ℕ, ◌+◌, ◌≡◌, ◌<◌, ◌≤◌, ◌||◌, not, false, List, Option, Some, AllPairs, IsTrue, filter}
use Rattle.std.proofs.Common.{length, get_or, sym, ap, ◌∙◌, subst}
use Rattle.std.specs.List.{list_all}
use Rattle.std.proofs.lemmas.List.Elements.{All-from_get_or, Contains-get_or}
use Rattle.cpg_base.specs.Numbers.{numbers_below}
use Rattle.cpg_base.specs.Graph.{Graph, process_count, condition_count, process_of, inputs}
use Rattle.cpg_base.specs.Activity.{is_active}
use Rattle.cpg_base.specs.Limits.{IsWithinLimits, IsOrderWithin}
use Rattle.cpg_base.specs.WellFormed.{WellFormed, HasSingleJoins}
use Rattle.cpg_base.specs.Order.{place}
use Rattle.cpg_base.proofs.Pairs.{order_apart}
use Rattle.cpg_base.proofs.Places.{from_order}
use Rattle.cpg_order.specs.Guard.{Guard, Leaf, Test, IsOrderedFrom}
use Rattle.cpg_order.specs.Track.{track_count, most_tracks}
use Rattle.cpg_order.specs.Deciding.{outcomes}
use Rattle.cpg_order.specs.Urgency.{IsUrgencyOrder, IsTopological}
use Rattle.cpg_rules.specs.Admission.{IsAdmitted}
use Rattle.cpg_rules.specs.Guards.{Guards, AreGuardsOf, tree_of}
use Rattle.cpg_given_laws.proofs.Runs.{other, same_activations, same_urgency, same_live}

module _ (g : Graph) (given : Option (List ℕ)) where
  -- a well-formed graph is so whatever order it gives
  pub formed_of_other : WellFormed g → WellFormed (other g given)
  formed_of_other formed = record {
    sources = formed.sources;
    targets = formed.targets;
    nodes = formed.nodes;
    works = formed.works;
    parts = formed.parts;
    slot_nodes = formed.slot_nodes;
    slot_lengths = formed.slot_lengths;
    own_slots = formed.own_slots;
    senders = formed.senders;
    few_processes = formed.few_processes;
    few_conditions = formed.few_conditions;
  }

  -- an order that is topological for a graph is so whatever order the graph gives
  pub topological_of_other : (order : List ℕ) → IsTopological g order → IsTopological (other g given) order
  topological_of_other order top = record { all = top.all; forward = top.forward }

  -- the urgency order is that of the graph with another order, too
  urgency_of_other : (order : List ℕ) → IsUrgencyOrder g order → IsUrgencyOrder (other g given) order
  urgency_of_other order is = record {
    all = is.all;
    falling = subst (λ f. AllPairs (λ p q. IsTrue (f p q)) order) (sym (same_urgency g given)) is.falling;
  }

  -- the graph has as many tracks
  same_tracks : track_count (other g given) ≡ track_count g
  same_tracks = ap (λ f. length (filter (λ o. list_all (λ c. not (get_or o c false) || is_active (f o (process_of g c)))
      (numbers_below (condition_count g))) (outcomes (condition_count g))))
      (same_activations g given)

  -- a guard tests its conditions along the same order
  ordered_of_other : (order : List ℕ) (tree : Guard) (k : ℕ) → IsOrderedFrom g order k tree →
      IsOrderedFrom (other g given) order k tree
  ordered_of_other order (Leaf a) k is = is
  ordered_of_other order (Test c off on) k is =
      let next = place order (process_of g c) + 1 in
      (is.0, is.1, ordered_of_other order off next is.2, ordered_of_other order on next is.3)

  -- The guards are those of the graph with another order, too.
  -- Activations don't look at the order that a graph gives.
  guards_of_other : (order : List ℕ) (guards : Guards) → AreGuardsOf g order guards →
      AreGuardsOf (other g given) order guards
  guards_of_other order guards are = record {
    conditions = are.conditions;
    count = are.count;
    trees = λ p below. let is = are.trees p below in record {
      is = λ o long. is.is o long ∙ ap (λ f. f o p) (sym (same_activations g given));
      ordered = ordered_of_other order (tree_of guards p) 0 is.ordered;
      reduced = is.reduced;
    };
    edges = are.edges;
  }

  -- at most one input of a join is live
  joins_of_other : HasSingleJoins g → HasSingleJoins (other g given)
  joins_of_other joins p values l join long =
      subst (λ f. length (filter (f values) (inputs g p)) ≤ 1) (sym (same_live g given)) (joins p values l join long)

-- the processes of a topological order are different ones
order_within : (g : Graph) (order : List ℕ) → IsTopological g order → IsOrderWithin (process_count g) order
order_within g order top = record {
  there = All-from_get_or (λ p. p < process_count g) order 0
      (λ i below. from_order (process_count g) order top.all (get_or order i 0) (Contains-get_or order i 0 below));
  once = order_apart (process_count g) order top.all;
}

-- a graph within its limits is so with an order of its processes
pub limits_with : (g : Graph) (order : List ℕ) → IsWithinLimits g → IsOrderWithin (process_count g) order →
    IsWithinLimits (other g (Some order))
limits_with g order limits within = record {
  faults = limits.faults;
  deadline = limits.deadline;
  few_nodes = limits.few_nodes;
  few_slots = limits.few_slots;
  few_processes = limits.few_processes;
  few_edges = limits.few_edges;
  few_conditions = limits.few_conditions;
  slots = limits.slots;
  processes = limits.processes;
  edges = limits.edges;
  node_names = limits.node_names;
  process_names = limits.process_names;
  own_slots = limits.own_slots;
  -- only the order differs, which has processes of the graph alone
  order = within;
}

-- An admitted graph is admitted with a topological order, with the same urgency order and guards.
-- No rule but the one on given orders looks at the order, and that one holds of a topological one.
pub admitted_with : (g : Graph) (urgency order : List ℕ) (guards : Guards) → IsAdmitted g urgency guards →
    IsTopological g order →
    IsAdmitted (other g (Some order)) urgency guards
admitted_with g urgency order guards is top = record {
  limits = limits_with g order is.limits (order_within g order top);
  well_formed = formed_of_other g (Some order) is.well_formed;
  urgency = urgency_of_other g (Some order) urgency is.urgency;
  topological = topological_of_other g (Some order) urgency is.topological;
  tracks = subst (λ n. n ≤ most_tracks) (sym (same_tracks g (Some order))) is.tracks;
  guards = guards_of_other g (Some order) urgency guards is.guards;
  joins = joins_of_other g (Some order) is.joins;
  slots = is.slots;
  sizes = is.sizes;
  given = topological_of_other g (Some order) order top;
}
