-- Proof of `WaitedInputsTimeJudge::least`: the least scenario in which a column of an item is earlier than the release
-- of its process or something that the item waits for.
use Rattle.std.proofs.Common.{◌≡◌, ◌<◌, ◌≤◌, ◌==◌, ◌∙◌, length, Contains, All, arith, sym, ap, subst}
use Rattle.std.specs.List.{list_any}
use Rattle.std.proofs.lemmas.List.Elements.{All-weaker, All-contains_itself}
use Rattle.cpg_base.specs.Graph.{process_count, edge_count, process_at, producer, inputs, target}
use Rattle.cpg_base.specs.Numbers.{numbers_below}
use Rattle.cpg_base.proofs.Items.{producer_within}
use Rattle.cpg_base.proofs.Lists.{Contains-filter_parts, numbers-Contains}
use Rattle.cpg_base.specs.First.{IsFirst}
use Rattle.cpg_cube.specs.Cube.{matches}
use Rattle.cpg_check_time.specs.Inputs.{lacks_input}
use Rattle.cpg_check_time.proofs.InputLaws.{first_released, first_input, first_send}
use Rattle.cpg_check_time.proofs.inputs.WaitedInputsTimeJudge.least.Goals as goal

-- the producer of an item is a process of the graph
pub least_delay-requires-clause-item : goal.least_delay-requires-clause-item
least_delay-requires-clause-item c =
    let is : c.producer-process.result ≡ producer c.args.admitted.now.graph c.args.item =
    c.producer-process.ensures.producer ∙ ap (λ h. producer h c.args.item) c.problem-problem.ensures.problem in
    omega (
      arith,
      is,
      producer_within c.args.admitted.now.graph c.problem-problem.ensures.admitted.well_formed c.args.item
          c.requires.item,
    )

-- so the delay is an execution of a process of the graph
pub least_delay-requires-clause-delay : goal.least_delay-requires-clause-delay
least_delay-requires-clause-delay c =
    let is : c.producer-process.result ≡ producer c.args.admitted.now.graph c.args.item =
    c.producer-process.ensures.producer ∙ ap (λ h. producer h c.args.item) c.problem-problem.ensures.problem in
    omega (
      arith,
      is,
      producer_within c.args.admitted.now.graph c.problem-problem.ensures.admitted.well_formed c.args.item
          c.requires.item,
    )

-- the item is a send, which breaks V5 exactly if its producer ends after the column's time
pub returns-then-item-processes : goal.returns-then-item-processes
returns-then-item-processes c =
    let send : process_count c.args.admitted.now.graph ≤ c.args.item =
    omega (
      arith,
      c.if-item-processes.true,
      ap length c.processes.ensures.processes,
      ap process_count c.problem-problem.ensures.problem,
    ) in
    let found = rw (c.producer-process.ensures.producer, c.problem-problem.ensures.problem) at c.in_ok-least.ensures in
    first_send c.problem-problem.ensures.admitted c.args.tables.now.nodes c.requires.suits.rules c.args.item
    c.args.column.now c.in_ok-least.least c.requires.item send c.requires.place found

-- the item is a process, and the column is before its release, so it breaks V5 wherever it matches
pub returns-then-column-release : goal.returns-then-column-release
returns-then-column-release c =
    let graph = c.args.admitted.now.graph in
    -- the item is a start
    let start : c.args.item < process_count graph = omega (
      arith,
      c.if-item-processes.false,
      ap length c.processes.ensures.processes,
      ap process_count c.problem-problem.ensures.problem,
    ) in
    -- its column is before the release
    let early : c.args.column.now.time < (process_at graph c.args.item).release =
    omega (
      arith,
      c.if-column-release.true,
      c.release.ensures,
      ap (λ h. (process_at h c.args.item).release) c.problem-problem.ensures.problem,
    ) in
    -- so the least scenario of the column is the least in which it breaks V5
    let first : IsFirst graph c.args.admitted.now.order (matches c.args.column.now.cube) c.in_ok-least-2.least =
    rw (← c.problem-problem.ensures.problem) (c.in_ok-least-2.ensures.first c.args.admitted.now.order) in
    first_released c.problem-problem.ensures.admitted c.args.tables.now.nodes c.requires.suits.rules c.args.item
    c.args.column.now c.in_ok-least-2.least start early first

-- the inputs of a process are edges of the graph
pub least_of_lacking-requires-clause-edges : goal.least_of_lacking-requires-clause-edges
least_of_lacking-requires-clause-edges c =
    let graph = c.args.admitted.now.graph in
    let is : c.inputs-edges.result.now ≡ inputs graph c.args.item =
    c.inputs-edges.ensures.of_graph graph c.requires.suits.links in
    subst (All (λ e. e < edge_count graph)) (sym is)
    (All-weaker (Contains (inputs graph c.args.item)) (λ e. e < edge_count graph)
    (λ e member. numbers-Contains (edge_count graph) e
    (Contains-filter_parts (λ e. target graph e == c.args.item) (numbers_below (edge_count graph)) e member).0)
    (inputs graph c.args.item) (All-contains_itself (inputs graph c.args.item)))

-- the column is not before the release, so it breaks V5 exactly if an input is missing
pub returns : goal.returns
returns c =
    let graph = c.args.admitted.now.graph in
    -- the item is a start
    let start : c.args.item < process_count graph = omega (
      arith,
      c.if-item-processes.false,
      ap length c.processes.ensures.processes,
      ap process_count c.problem-problem.ensures.problem,
    ) in
    -- its column isn't before the release
    let released : (process_at graph c.args.item).release ≤ c.args.column.now.time =
    omega (
      arith,
      c.if-column-release.false,
      c.release.ensures,
      ap (λ h. (process_at h c.args.item).release) c.problem-problem.ensures.problem,
    ) in
    -- the edges that are asked about are its inputs, and the answer is the least scenario that lacks one
    let is : c.inputs-edges.result.now ≡ inputs graph c.args.item =
    c.inputs-edges.ensures.of_graph graph c.requires.suits.links in
    let first : IsFirst graph c.args.admitted.now.order
    (λ s. list_any (λ e. lacks_input graph c.args.tables.now.nodes c.args.column.now e s) (inputs graph c.args.item))
    c.in_ok-least-3.least =
    rw (← is) c.in_ok-least-3.ensures in
    first_input c.problem-problem.ensures.admitted c.args.tables.now.nodes c.requires.suits.rules c.args.item
    c.args.column.now c.in_ok-least-3.least start released first
