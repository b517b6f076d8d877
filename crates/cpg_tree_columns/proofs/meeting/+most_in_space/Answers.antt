-- Proof of `most_in_space`, which returns the greater of `best` and of the greatest number that the tree has in a
-- scenario of the space in which `wanted` is true; `None` exactly if there is neither. `shows` has the trees below and
-- above the cut (0 and 1), that the lists of the two sides are theirs (2 and 3), and that the items are the fork's
-- (4).
use Rattle.std.proofs.Common.{◌≡◌, ◌∙◌, sym, ap, subst}
use Rattle.cpg_tree.specs.TreeNode.{Leaf, Fork}
use Rattle.cpg_tree_columns.specs.Meeting.{IsMostInSpace}
use Rattle.cpg_tree.specs.declared.space.Space.{Space}
use Rattle.cpg_tree.specs.Space.{IsInSpace, below_cut, above_cut}
use Rattle.cpg_tree.proofs.Flats.{flat-same}
use Rattle.cpg_tree.proofs.Forks.{from_false, from_true}
use Rattle.cpg_tree_columns.proofs.Meetings.{most_never, most_least, most_leaf, most_low, most_high, most_both}
use Rattle.cpg_tree.proofs.Spaces.{lies_reopened}
use Rattle.cpg_tree_columns.proofs.meeting.+most_in_space.Goals as goal

-- all scenarios go above, so the greatest number of the side above is that of the fork
pub returns-then-not-is_open_below-clause-most : goal.returns-then-not-is_open_below-clause-most
returns-then-not-is_open_below-clause-most t c n w are wanted =
    let shows = c.in-Cut.ensures.shows in
    most_high c.in-Cut.variable c.in-Cut.cut c.in-Cut.ensures.variable shows.0 shows.1 n
    (flat-same n (Fork c.in-Cut.variable c.in-Cut.cut shows.0 shows.1) (sym are ∙ shows.4)) w
    c.args.space.now c.args.best
    c.most_in_space.result
    (from_false c.is_open_below.result c.if-not-is_open_below.true c.is_open_below.ensures.none)
    (c.most_in_space.ensures.most shows.1 w shows.3 wanted)

-- all scenarios go below, so the greatest number of the side below is that of the fork
pub returns-then-not-is_open_above-clause-most : goal.returns-then-not-is_open_above-clause-most
returns-then-not-is_open_above-clause-most t c n w are wanted =
    let shows = c.in-Cut.ensures.shows in
    most_low c.in-Cut.variable c.in-Cut.cut c.in-Cut.ensures.variable shows.0 shows.1 n
    (flat-same n (Fork c.in-Cut.variable c.in-Cut.cut shows.0 shows.1) (sym are ∙ shows.4)) w
    c.args.space.now c.args.best
    c.most_in_space-then-not-is_open_above.result
    (from_false c.is_open_above.result c.if-not-is_open_above.true c.is_open_above.ensures.none)
    (c.most_in_space-then-not-is_open_above.ensures.most shows.0 w shows.2 wanted)

-- the leaf's number is no greater than the best, which stays
pub returns-then-not-is_greater-clause-most : goal.returns-then-not-is_greater-clause-most
returns-then-not-is_greater-clause-most t c n w are wanted =
    most_least c.args.space.now n w c.get-number.result c.args.best
    (flat-same n (Leaf c.get-number.result) (sym are ∙ (rw (← c.get-number.ensures) at c.in-Value.ensures.shows)))
    (from_false c.is_greater.result c.if-not-is_greater.true c.is_greater.ensures.none)

-- the leaf's number is greater than the best, and some scenario has it where the other tree is true
pub returns-then-holds_in-clause-most : goal.returns-then-holds_in-clause-most
returns-then-holds_in-clause-most t c n w are wanted =
    most_leaf c.args.space.now n w c.get-number.result c.args.best
    (flat-same n (Leaf c.get-number.result) (sym are ∙ (rw (← c.get-number.ensures) at c.in-Value.ensures.shows)))
    (from_true c.is_greater.result c.if-not-is_greater.false c.is_greater.ensures.some)
    (from_true c.holds_in.result c.if-holds_in.true c.holds_in.ensures.met w wanted)

-- the other tree is true in no scenario of the space, so the greatest number so far stays
pub returns-else-holds_in-clause-most : goal.returns-else-holds_in-clause-most
returns-else-holds_in-clause-most t c n w are wanted =
    most_never c.args.space.now n w c.args.best
    (from_false c.holds_in.result c.if-holds_in.false c.holds_in.ensures.never w wanted)

-- One side after the other is looked at. In between the high is put back, so that the space above the cut is that of
-- the space given.
pub returns-else-not-is_open_above-clause-most : goal.returns-else-not-is_open_above-clause-most
returns-else-not-is_open_above-clause-most t c n w are wanted =
    let shows = c.in-Cut.ensures.shows in
    let space : Space = c.args.space.now in
    -- the space is opened again, and closed below the cut it is the one above it
    let back : c.reopen_above.new.self ≡ space = c.reopen_above.ensures
    ∙ ap (λ (r : Space). below_cut r c.in-Cut.variable c.close_above-most.result) c.most_in_space-with_below.ensures.back ∙
    c.close_above-most.ensures.back in
    let upper : c.close_below-least.new.self ≡ above_cut space c.in-Cut.variable c.in-Cut.cut =
    c.close_below-least.ensures.is ∙
    ap (λ (r : Space). above_cut r c.in-Cut.variable c.in-Cut.cut) back in
    -- the greatest number of both sides, one after the other, is that of the fork
    most_both c.in-Cut.variable c.in-Cut.cut c.in-Cut.ensures.variable shows.0 shows.1 n
    (flat-same n (Fork c.in-Cut.variable c.in-Cut.cut shows.0 shows.1) (sym are ∙ shows.4)) w space c.args.best
    c.most_in_space-with_below.result
    c.most_in_space-with_both.result
    (sym c.is_open_below.ensures.is ∙ c.if-not-is_open_below.false)
    (sym c.is_open_above.ensures.is ∙ c.if-not-is_open_above.false)
    -- the scenarios of each side lie in its space
    (λ s lies h.
    subst (λ (r : Space). IsInSpace r s) c.close_above-most.ensures.is (c.close_above-most.ensures.lies s lies h))
    (λ s lies h. subst (λ (r : Space). IsInSpace r s) upper
    (lies_reopened space c.close_above-most.new.self c.most_in_space-with_below.new.space c.reopen_above.new.self
    c.close_below-least.new.self c.in-Cut.variable c.close_above-most.result c.in-Cut.cut
    c.close_above-most.ensures.back c.most_in_space-with_below.ensures.back c.reopen_above.ensures
    c.close_below-least.ensures.lies s lies h))
    -- what each side was asked for is the greatest number in its space
    (subst (λ (r : Space). IsMostInSpace r shows.0 w c.args.best c.most_in_space-with_below.result)
    c.close_above-most.ensures.is (c.most_in_space-with_below.ensures.most shows.0 w shows.2 wanted))
    (subst (λ (r : Space). IsMostInSpace r shows.1 w c.most_in_space-with_below.result c.most_in_space-with_both.result) upper
    (c.most_in_space-with_both.ensures.most shows.1 w shows.3 wanted))
