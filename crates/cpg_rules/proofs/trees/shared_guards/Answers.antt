-- Proof of `shared_guards`: returns the guards of a graph along an order, with the shared parts of their trees.
use Rattle.std.proofs.Common.{ℕ, ◌≡◌, ◌∙◌, ap, arith, length, List, None, map, replicate, min}
use Rattle.cpg_base.specs.Graph.{process_count}
use Rattle.cpg_base.specs.declared.activation.Activation.TheVariants.{Inactive}
use Rattle.cpg_order.specs.Guard.{Guard, Leaf}
use Rattle.cpg_base.proofs.Places.{length_order}
use Rattle.cpg_rules.specs.declared.edges.EdgeGuard.{EdgeGuard}
use Rattle.cpg_rules.specs.declared.steps.Aim.TheVariants.{Conditions}
use Rattle.cpg_rules.specs.Steps.{ActivationStep, step_of, IsStepBelow}
use Rattle.cpg_rules.specs.Rested.{rested}
use Rattle.cpg_rules.proofs.Rested.{all_rested, tracks_rested}
use Rattle.cpg_rules.specs.Growing.{tracks_from}
use Rattle.cpg_rules.specs.Guards.{Guards}
use Rattle.cpg_rules.specs.Sharing.{trees_of}
use Rattle.cpg_rules.proofs.Below.{steps_below, guards_below}
use Rattle.cpg_rules.proofs.Counted.{tracks_counted}
use Rattle.cpg_rules.proofs.Made.{made}
use Rattle.cpg_rules.proofs.trees.shared_guards.Goals as goal

-- a topological order has each process once, so it is as long as there are processes
pub steps_of-requires : goal.steps_of-requires
steps_of-requires c = length_order (process_count c.args.problem.now) c.args.order.now c.requires.all

-- the steps that the count rests on refer to processes of the graph
pub tracks-requires : goal.tracks-requires
tracks-requires c =
    rw (c.as_slice-2.ensures.value, c.in_ok-choosing.ensures, c.as_slice.ensures.value, c.in_ok-steps.ensures)
    (all_rested (IsStepBelow 128) Conditions _
    (steps_below c.args.problem.now c.args.order.now c.requires 128 c.processes-count.ensures.within.few_processes))

-- what was counted along the steps that conditions rest on is the number of all tracks, or 16,385 if there are more
counted : (steps whole : List ActivationStep) (result all : ℕ) →
    result ≡ min 16385 (tracks_from steps (replicate 128 None)) →
    steps ≡ rested Conditions whole →
    tracks_from whole (replicate 128 None) ≡ all
    → result ≡ min 16385 all
counted steps whole result all is along are = is ∙ ap (λ s. min 16385 (tracks_from s (replicate 128 None))) along
    ∙ ap (min 16385) (tracks_rested whole (replicate 128 None) ∙ are)

-- 16,385 tracks were counted, so there are more than 16,384
pub returns-then-tracks-gt-MOST_TRACKS-clause-many :
    goal.returns-then-tracks-gt-MOST_TRACKS-clause-many
returns-then-tracks-gt-MOST_TRACKS-clause-many c = λ e.
    let is = counted c.as_slice-2.result.now
    (map (step_of c.args.problem.now) c.args.order.now) c.tracks.result _ c.tracks.ensures
    (c.as_slice-2.ensures.value ∙ c.in_ok-choosing.ensures
    ∙ ap (rested Conditions) (c.as_slice.ensures.value ∙ c.in_ok-steps.ensures))
    (tracks_counted c.args.problem.now c.args.order.now c.requires c.processes-count.ensures.within.few_processes) in
    let over = c.if-tracks-gt-MOST_TRACKS.true in
    omega arith

-- the order is as long as there are processes, so each process of a condition has a place
pub ranks_of-requires : goal.ranks_of-requires
ranks_of-requires c = let long = length_order (process_count c.args.problem.now) c.args.order.now c.requires.all in
    omega (arith, long)

-- the process of each step and the sources of its inputs are processes of the graph
pub composed_along-requires-clause-steps : goal.composed_along-requires-clause-steps
composed_along-requires-clause-steps c = rw (c.as_slice-3.ensures.value, c.in_ok-steps.ensures)
    (steps_below c.args.problem.now c.args.order.now c.requires (process_count c.args.problem.now) (omega arith))

-- guards of these parts
abbrev made_guards : (conditions : ℕ) (trees : List Guard) (edges : List EdgeGuard) → Guards
made_guards conditions trees edges = record { conditions = conditions; trees = trees; edges = edges }

-- the guards refer to processes and conditions of the graph, as they are those of the graph
pub invariant_of-guards : goal.invariant_of-guards
invariant_of-guards c = guards_below c.args.problem.now c.args.order.now c.requires
    (made_guards c.conditions.result c.in_ok-trees.trees.items c.in_ok-edges.edges.items)
    (made c.args.problem.now c.args.order.now c.requires c.seeds.new.parts.ranks
    (c.in_ok-seeds.ensures.more.ranks ∙ c.in_ok-parts.ensures.ranks ∙ c.in_ok-ranks.ensures)
    c.as_slice-3.result.now (c.as_slice-3.ensures.value ∙ c.in_ok-steps.ensures)
    (trees_of c.seeds.new.parts.parts c.in_ok-seeds.seeds.items)
    (c.in_ok-seeds.ensures.trees
    ∙ ap (λ n. replicate n (Leaf Inactive)) (ap length c.processes-count.ensures.processes))
    (made_guards c.conditions.result c.in_ok-trees.trees.items c.in_ok-edges.edges.items) c.conditions.ensures.count
    (c.in_ok-trees.ensures ∙ ap (trees_of c.composed_along.new.parts.parts) c.as_slice-4.ensures.value
    ∙ c.in_ok-roots.ensures.trees) c.in_ok-edges.ensures)

-- the trees were composed along the order, so they are the guards of the graph
pub returns-clause-guards : goal.returns-clause-guards
returns-clause-guards c =
    made c.args.problem.now c.args.order.now c.requires c.seeds.new.parts.ranks
    (c.in_ok-seeds.ensures.more.ranks ∙ c.in_ok-parts.ensures.ranks ∙ c.in_ok-ranks.ensures)
    c.as_slice-3.result.now (c.as_slice-3.ensures.value ∙ c.in_ok-steps.ensures)
    (trees_of c.seeds.new.parts.parts c.in_ok-seeds.seeds.items)
    (c.in_ok-seeds.ensures.trees
    ∙ ap (λ n. replicate n (Leaf Inactive)) (ap length c.processes-count.ensures.processes))
    (made_guards c.conditions.result c.in_ok-trees.trees.items c.in_ok-edges.edges.items) c.conditions.ensures.count
    (c.in_ok-trees.ensures ∙ ap (trees_of c.composed_along.new.parts.parts) c.as_slice-4.ensures.value
    ∙ c.in_ok-roots.ensures.trees) c.in_ok-edges.ensures

-- fewer than 16,385 tracks were counted, so that is how many there are
pub returns-clause-few : goal.returns-clause-few
returns-clause-few c =
    let is = counted c.as_slice-2.result.now
    (map (step_of c.args.problem.now) c.args.order.now) c.tracks.result _ c.tracks.ensures
    (c.as_slice-2.ensures.value ∙ c.in_ok-choosing.ensures
    ∙ ap (rested Conditions) (c.as_slice.ensures.value ∙ c.in_ok-steps.ensures))
    (tracks_counted c.args.problem.now c.args.order.now c.requires c.processes-count.ensures.within.few_processes) in
    let under = c.if-tracks-gt-MOST_TRACKS.false in
    omega arith
