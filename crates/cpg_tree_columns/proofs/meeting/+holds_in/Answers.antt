-- Proof of `holds_in`, which says whether the tree is true in some scenario of the space. `shows` has the trees below
-- and above the cut (0 and 1), that the lists of the two sides are theirs (2 and 3), and that the items are the fork's
-- (4).
use Rattle.std.proofs.Common.{◌≡◌, ◌∙◌, sym, ap, subst}
use Rattle.cpg_tree.specs.TreeNode.{Fork}
use Rattle.cpg_tree.specs.declared.space.Space.{Space}
use Rattle.cpg_tree.specs.Space.{below_cut, above_cut}
use Rattle.cpg_tree.proofs.Flats.{flat-same}
use Rattle.cpg_tree.proofs.Forks.{from_false, from_true}
use Rattle.cpg_tree_columns.proofs.Meetings.{IsTrueIn, leaf_met, leaf_never, true_low, true_high, true_below}
use Rattle.cpg_tree_columns.proofs.Meetings.{true_above, never_low, never_high, never_both}
use Rattle.cpg_tree.proofs.Passes.{of_true, of_false}
use Rattle.cpg_tree.proofs.Spaces.{lies_reopened}
use Rattle.cpg_tree_columns.proofs.meeting.+holds_in.Goals as goal

-- a leaf that is true is so in a scenario of the space
pub returns-in-Value-clause-met : goal.returns-in-Value-clause-met
returns-in-Value-clause-met t c = leaf_met c.args.space.now c.in-Value.is' c.args.items.now c.in-Value.ensures.shows

-- a leaf that is false is so in every scenario
pub returns-in-Value-clause-never : goal.returns-in-Value-clause-never
returns-in-Value-clause-never t c = leaf_never c.args.space.now c.in-Value.is' c.args.items.now c.in-Value.ensures.shows

-- all scenarios go above, so the fork is true in the one in which the side above is
pub returns-then-not-is_open_below-clause-met : goal.returns-then-not-is_open_below-clause-met
returns-then-not-is_open_below-clause-met t c =
    let shows = c.in-Cut.ensures.shows in
    of_true c.holds_in.result c.holds_in.ensures.met
    (λ met n are. true_high c.in-Cut.variable c.in-Cut.cut c.in-Cut.ensures.variable shows.0 shows.1 n
    (flat-same n (Fork c.in-Cut.variable c.in-Cut.cut shows.0 shows.1) (sym are ∙ shows.4)) c.args.space.now
    (from_false c.is_open_below.result c.if-not-is_open_below.true c.is_open_below.ensures.none) (met shows.1 shows.3))

-- all scenarios go above, and the side there is true in none, so the fork is too
pub returns-then-not-is_open_below-clause-never : goal.returns-then-not-is_open_below-clause-never
returns-then-not-is_open_below-clause-never t c =
    let shows = c.in-Cut.ensures.shows in
    of_false c.holds_in.result c.holds_in.ensures.never
    (λ never n are. never_high c.in-Cut.variable c.in-Cut.cut c.in-Cut.ensures.variable shows.0 shows.1 n
    (flat-same n (Fork c.in-Cut.variable c.in-Cut.cut shows.0 shows.1) (sym are ∙ shows.4)) c.args.space.now
    (from_false c.is_open_below.result c.if-not-is_open_below.true c.is_open_below.ensures.none)
    (never shows.1 shows.3))

-- all scenarios go below, so the fork is true in the one in which the side below is
pub returns-then-not-is_open_above-clause-met : goal.returns-then-not-is_open_above-clause-met
returns-then-not-is_open_above-clause-met t c =
    let shows = c.in-Cut.ensures.shows in
    of_true c.holds_in-then-not-is_open_above.result c.holds_in-then-not-is_open_above.ensures.met
    (λ met n are. true_low c.in-Cut.variable c.in-Cut.cut c.in-Cut.ensures.variable shows.0 shows.1 n
    (flat-same n (Fork c.in-Cut.variable c.in-Cut.cut shows.0 shows.1) (sym are ∙ shows.4)) c.args.space.now
    (from_false c.is_open_above.result c.if-not-is_open_above.true c.is_open_above.ensures.none) (met shows.0 shows.2))

-- all scenarios go below, and the side there is true in none, so the fork is too
pub returns-then-not-is_open_above-clause-never : goal.returns-then-not-is_open_above-clause-never
returns-then-not-is_open_above-clause-never t c =
    let shows = c.in-Cut.ensures.shows in
    of_false c.holds_in-then-not-is_open_above.result c.holds_in-then-not-is_open_above.ensures.never
    (λ never n are. never_low c.in-Cut.variable c.in-Cut.cut c.in-Cut.ensures.variable shows.0 shows.1 n
    (flat-same n (Fork c.in-Cut.variable c.in-Cut.cut shows.0 shows.1) (sym are ∙ shows.4)) c.args.space.now
    (from_false c.is_open_above.result c.if-not-is_open_above.true c.is_open_above.ensures.none)
    (never shows.0 shows.2))

-- a scenario in which the side below is true is one of the fork
pub returns-then-holds_below-clause-met : goal.returns-then-holds_below-clause-met
returns-then-holds_below-clause-met t c n are =
    let shows = c.in-Cut.ensures.shows in
    true_below c.in-Cut.variable c.in-Cut.cut c.in-Cut.ensures.variable shows.0 shows.1 n
    (flat-same n (Fork c.in-Cut.variable c.in-Cut.cut shows.0 shows.1) (sym are ∙ shows.4)) c.args.space.now
    (sym c.is_open_below.ensures.is ∙ c.if-not-is_open_below.false)
    (sym c.is_open_above.ensures.is ∙ c.if-not-is_open_above.false)
    (subst (λ (r : Space). IsTrueIn r shows.0) c.close_above-most.ensures.is
    (from_true c.holds_in-holds_below.result c.if-holds_below.true c.holds_in-holds_below.ensures.met shows.0 shows.2))

-- the high is put back, so a scenario in which the side above is true is one of the fork
pub returns-else-holds_below-clause-met : goal.returns-else-holds_below-clause-met
returns-else-holds_below-clause-met t c =
    let shows = c.in-Cut.ensures.shows in
    let space : Space = c.args.space.now in
    let back : c.reopen_above.new.self ≡ space = c.reopen_above.ensures
    ∙ ap (λ (r : Space). below_cut r c.in-Cut.variable c.close_above-most.result) c.holds_in-holds_below.ensures.back ∙
    c.close_above-most.ensures.back in
    let upper : c.close_below-least.new.self ≡ above_cut space c.in-Cut.variable c.in-Cut.cut =
    c.close_below-least.ensures.is ∙
    ap (λ (r : Space). above_cut r c.in-Cut.variable c.in-Cut.cut) back in
    of_true c.holds_in-holds_above.result c.holds_in-holds_above.ensures.met
    (λ met n are. true_above c.in-Cut.variable c.in-Cut.cut c.in-Cut.ensures.variable shows.0 shows.1 n
    (flat-same n (Fork c.in-Cut.variable c.in-Cut.cut shows.0 shows.1) (sym are ∙ shows.4)) space
    (sym c.is_open_below.ensures.is ∙ c.if-not-is_open_below.false)
    (sym c.is_open_above.ensures.is ∙ c.if-not-is_open_above.false)
    (subst (λ (r : Space). IsTrueIn r shows.1) upper (met shows.1 shows.3)))

-- neither side is true in any scenario, so the fork is not either
pub returns-else-holds_below-clause-never : goal.returns-else-holds_below-clause-never
returns-else-holds_below-clause-never t c =
    let shows = c.in-Cut.ensures.shows in
    let space : Space = c.args.space.now in
    let low = from_false c.holds_in-holds_below.result c.if-holds_below.false c.holds_in-holds_below.ensures.never shows.0 shows.2 in
    of_false c.holds_in-holds_above.result c.holds_in-holds_above.ensures.never
    (λ high n are. never_both c.in-Cut.variable c.in-Cut.cut c.in-Cut.ensures.variable shows.0 shows.1 n
    (flat-same n (Fork c.in-Cut.variable c.in-Cut.cut shows.0 shows.1) (sym are ∙ shows.4)) space
    (λ s lies h. low s (c.close_above-most.ensures.lies s lies h))
    (λ s lies h. high shows.1 shows.3 s (lies_reopened space c.close_above-most.new.self c.holds_in-holds_below.new.space
    c.reopen_above.new.self c.close_below-least.new.self c.in-Cut.variable
    c.close_above-most.result c.in-Cut.cut
    c.close_above-most.ensures.back c.holds_in-holds_below.ensures.back c.reopen_above.ensures
    c.close_below-least.ensures.lies s lies h)))
