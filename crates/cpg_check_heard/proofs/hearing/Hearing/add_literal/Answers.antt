-- Proof of `Hearing::add_literal`: adds to `bounds` the bounds of a column's literal that the node's own ends leave
-- open where the column matches, at its time.
use Rattle.std.proofs.Common.{◌||◌, ◌∙◌, not, ap, sym}
use Rattle.std.proofs.Math.Bool.{or-false}
use Rattle.cpg_base.proofs.Lists.{from_all}
use Rattle.cpg_cube.specs.Cube.{holds}
use Rattle.cpg_table.specs.Heard.{facts}
use Rattle.cpg_check_heard.specs.Bounds.{is_told, high_of, low_of}
use Rattle.cpg_check_heard.specs.Unheard.{is_literal_unheard, is_one_untold}
use Rattle.cpg_violation.proofs.Tests.{not_both}
use Rattle.cpg_check_heard.proofs.Bounded.{heard_is, literal_more}
use Rattle.cpg_check_heard.proofs.Endings.{ended_heard}
use Rattle.cpg_check_heard.proofs.hearing.Hearing.add_literal.Goals as goal

-- the literal's process has ended on the node, so the literal is heard, and `bounds` stay as they are
pub returns-then-has_ended-clause-unheard : goal.returns-then-has_ended-clause-unheard
returns-then-has_ended-clause-unheard c = λ s law is_true.
    let graph = c.args.self.now.admitted.now.graph in
    let tables = c.args.self.now.tables.now.nodes in
    let literal = c.args.literal.now in
    let old = is_one_untold graph tables c.args.node c.args.column.now.time c.args.bounds.now.items s in
    -- its process is active, as the column matches, and its number there is within the literal
    let heard = ended_heard graph tables c.requires.hearing.admitted.well_formed.few_processes
    c.requires.hearing.rules s
    law c.args.node c.args.column.now.time literal c.requires.variable
    c.if-has_ended.ensures
    (c.requires.active s literal law is_true c.requires.literal)
    (from_all (holds s) c.args.column.now.cube literal is_true c.requires.literal) in
    sym (ap (λ x. old || x) heard ∙ or-false old)

-- the literal is unheard exactly if its low or its high is untold, and one of the two calls is for each of them
pub returns-clause-unheard : goal.returns-clause-unheard
returns-clause-unheard c = λ s law m.
    let graph = c.args.self.now.admitted.now.graph in
    let tables = c.args.self.now.tables.now.nodes in
    let node = c.args.node in
    let time = c.args.column.now.time in
    let literal = c.args.literal.now in
    -- what the call for the low says of `bounds`, and what the call for the high does
    let with_low = rw c.low_of.ensures at c.in_ok-add_open.ensures.untold s law m in
    let with_high = rw c.high_of.ensures at c.in_ok-add_open-2.ensures.untold s law m in
    literal_more (is_one_untold graph tables node time c.args.bounds.now.items s)
    (is_one_untold graph tables node time c.add_open.new.bounds.items s)
    (is_one_untold graph tables node time c.add_open-2.new.bounds.items s)
    (not (is_told graph tables node time (low_of literal) s)) (not (is_told graph tables node time (high_of literal) s))
    (is_literal_unheard graph tables node time s literal) with_low with_high
    (not_both (is_told graph tables node time (low_of literal) s) (is_told graph tables node time (high_of literal) s)
    ∙ ap not (sym (heard_is graph.faults (facts graph tables node s time) literal)))
