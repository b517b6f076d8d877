-- Proof of `Problem::new`: the graph of these parts, which gives no order, and `None` exactly if one of the limits is
-- broken.
use Rattle.std.proofs.Common.{ℕ, ◌≡◌, ◌≤◌, ◌<◌, ◌∙◌, filter, length, arith, ap, ap₂, subst, sym, true≢false}
use Rattle.cpg_base.specs.Conditions.{has_conditional_output}
use Rattle.cpg_base.specs.Graph.{disjunctions}
use Rattle.cpg_base.specs.Numbers.{numbers_below}
use Rattle.cpg_base.proofs.Found.{conditions_found}
use Rattle.cpg_base.proofs.PartsWithin.{graph_of, parts_of, tested_of, within_by_parts}
use Rattle.cpg_base.proofs.problem.Problem.new.Goals as goal

-- no number is both at most another and above it
above : (a b : ℕ) → a ≤ b → b < a → ⊥
above a b low high = omega arith

-- a part is not within its limits
pub returns-then-not-are_parts_within-clause-refused : goal.returns-then-not-are_parts_within-clause-refused
returns-then-not-are_parts_within-clause-refused c =
    let graph = graph_of c.args.faults c.args.deadline c.args.nodes.items c.args.slots.items c.args.processes.items
    c.args.edges.items in
    -- what was tested are the parts of the arguments
    let tested = tested_of c.are_parts_within.result c.args.faults c.args.deadline c.as_slice.result.now
    c.args.nodes.items c.as_slice-2.result.now c.args.slots.items c.as_slice-3.result.now c.args.processes.items
    c.as_slice-4.result.now c.args.edges.items c.as_slice.ensures.value c.as_slice-2.ensures.value
    c.as_slice-3.ensures.value c.as_slice-4.ensures.value c.are_parts_within.ensures in
    λ within. true≢false (sym (tested.1 (parts_of graph within)) ∙ c.if-not-are_parts_within.true)

-- more conditions than 32 were found, and these are those of the graph
pub returns-in_default-clause-refused : goal.returns-in_default-clause-refused
returns-in_default-clause-refused c =
    let graph = graph_of c.args.faults c.args.deadline c.args.nodes.items c.args.slots.items c.args.processes.items
    c.args.edges.items in
    -- the conditions that one pass over the edges finds are those of this graph
    let count : c.len.result ≡ length c.args.processes.items = c.len.ensures ∙ c.args.processes.ok.0 in
    let found : filter (has_conditional_output c.as_slice-5.result.now)
    (numbers_below c.len.result) ≡ disjunctions graph =
    ap₂ (λ es n. filter (has_conditional_output es) (numbers_below n)) c.as_slice-5.ensures.value count
    ∙ conditions_found graph in
    -- there are more than 32 of them, so the graph isn't within the limits
    let many : 32 < length (filter (has_conditional_output c.as_slice-5.result.now) (numbers_below c.len.result)) =
    c.in_default.ensures.many in
    let over : 32 < length (disjunctions graph) = subst (λ ns. 32 < length ns) found many in
    λ within. above (length (disjunctions graph)) 32 within.few_conditions over

-- the parts were tested, and the conditions that were found are those of the graph
pub invariant_of-result : goal.invariant_of-result
invariant_of-result c =
    let graph = graph_of c.args.faults c.args.deadline c.args.nodes.items c.args.slots.items c.args.processes.items
    c.args.edges.items in
    -- what was tested are the parts of the arguments
    let tested = tested_of c.are_parts_within.result c.args.faults c.args.deadline c.as_slice.result.now
    c.args.nodes.items c.as_slice-2.result.now c.args.slots.items c.as_slice-3.result.now c.args.processes.items
    c.as_slice-4.result.now c.args.edges.items c.as_slice.ensures.value c.as_slice-2.ensures.value
    c.as_slice-3.ensures.value c.as_slice-4.ensures.value c.are_parts_within.ensures in
    -- the conditions that one pass over the edges finds are those of this graph
    let count : c.len.result ≡ length c.args.processes.items = c.len.ensures ∙ c.args.processes.ok.0 in
    let found : c.in-Some.conditions ≡ disjunctions graph = c.in-Some.ensures.found
    ∙ ap₂ (λ es n. filter (has_conditional_output es) (numbers_below n)) c.as_slice-5.ensures.value count
    ∙ conditions_found graph in (
      within_by_parts c.args.faults c.args.deadline c.args.nodes.items c.args.slots.items c.args.processes.items
          c.args.edges.items (tested.0 c.if-not-are_parts_within.false) (omega (arith, ap length found, c.in-Some.ensures.few)),
      found,
    )

-- the graph is within the limits, as its parts passed their test and its conditions are few enough
pub returns-clause-within : goal.returns-clause-within
returns-clause-within c =
    let graph = graph_of c.args.faults c.args.deadline c.args.nodes.items c.args.slots.items c.args.processes.items
    c.args.edges.items in
    -- what was tested are the parts of the arguments
    let tested = tested_of c.are_parts_within.result c.args.faults c.args.deadline c.as_slice.result.now
    c.args.nodes.items c.as_slice-2.result.now c.args.slots.items c.as_slice-3.result.now c.args.processes.items
    c.as_slice-4.result.now c.args.edges.items c.as_slice.ensures.value c.as_slice-2.ensures.value
    c.as_slice-3.ensures.value c.as_slice-4.ensures.value c.are_parts_within.ensures in
    -- the conditions that one pass over the edges finds are those of this graph
    let count : c.len.result ≡ length c.args.processes.items = c.len.ensures ∙ c.args.processes.ok.0 in
    let found : c.in-Some.conditions ≡ disjunctions graph = c.in-Some.ensures.found
    ∙ ap₂ (λ es n. filter (has_conditional_output es) (numbers_below n)) c.as_slice-5.ensures.value count
    ∙ conditions_found graph in
    within_by_parts c.args.faults c.args.deadline c.args.nodes.items c.args.slots.items c.args.processes.items
    c.args.edges.items (tested.0 c.if-not-are_parts_within.false) (omega (arith, ap length found, c.in-Some.ensures.few))
