-- Proof of `SlotsTimeJudge::least`: the least scenario in which a column of an item breaks V7: it isn't at the start of
-- a slot of the node, or shares its slot with a lower item of the node.
use Rattle.std.proofs.Common.{◌≡◌, ◌==◌, ◌∙◌, true, false, sym, eqb-true, true≢false, eq-eqb}
use Rattle.cpg_base.specs.Bus.{next_slot}
use Rattle.cpg_base.specs.Graph.{home, is_sent}
use Rattle.cpg_base.specs.First.{IsFirst}
use Rattle.cpg_cube.specs.Cube.{matches}
use Rattle.cpg_check_time.proofs.SlotLaws.{first_no_start, first_shared}
use Rattle.cpg_check_time.proofs.slots.SlotsTimeJudge.least.Goals as goal

-- the column is at no start of a slot, so it breaks V7 wherever it matches
pub returns-then-not-is_slot_start : goal.returns-then-not-is_slot_start
returns-then-not-is_slot_start c =
    let graph = c.args.admitted.now.graph in
    let problem = c.problem-problem.ensures.problem in
    -- the item is sent, no slot starts at the time, and `least` is the least scenario that the column matches
    let sent : is_sent graph c.args.item ≡ true = rw (← problem) (sym c.if-not-is_sent.ensures) in
    let no : (next_slot graph (home graph c.args.item) c.args.column.now.time == c.args.column.now.time) ≡ false =
    rw (← problem, ← c.home.ensures.home) (sym c.if-not-is_slot_start.ensures) in
    let first : IsFirst graph c.args.admitted.now.order (matches c.args.column.now.cube) c.in_ok-least.least =
    rw (← problem) (c.in_ok-least.ensures.first c.args.admitted.now.order) in
    first_no_start graph c.args.admitted.now.order c.args.tables.now.nodes c.args.item c.args.column.now sent
    (λ start. true≢false (sym (eq-eqb _ _ start) ∙ no)) c.in_ok-least.least first

-- the column is at the start of a slot, so it breaks V7 exactly if a lower item shares that slot
pub returns : goal.returns
returns c =
    let graph = c.args.admitted.now.graph in
    let problem = c.problem-problem.ensures.problem in
    let sent : is_sent graph c.args.item ≡ true = rw (← problem) (sym c.if-not-is_sent.ensures) in
    let start : next_slot graph (home graph c.args.item) c.args.column.now.time ≡ c.args.column.now.time =
    eqb-true _ _ (rw (← problem, ← c.home.ensures.home) (sym c.if-not-is_slot_start.ensures)) in
    first_shared graph c.args.admitted.now.order c.args.tables.now.nodes c.args.item c.args.column.now sent start
    c.in_ok-least-2.least c.in_ok-least-2.ensures
