-- Proof of `narrow_to_first`, which narrows the cube to that of the first leaf from the left that has the number, and
-- returns true. `shows` has the trees below and above the cut (0 and 1), that the lists of the two sides are theirs (2
-- and 3), and that the items are the fork's (4).
use Rattle.std.proofs.Common.{◌≡◌, ◌∙◌, None, Some, arith, sym, ap, refl}
use Rattle.std.specs.Option.{is_some}
use Rattle.cpg_tree.specs.TreeNode.{Leaf, Fork}
use Rattle.cpg_tree.proofs.Flats.{flat-same}
use Rattle.cpg_tree.proofs.Forks.{from_false, from_true}
use Rattle.cpg_tree_columns.proofs.ColumnsFound.{side_cuts, cut_fits, above_of}
use Rattle.cpg_tree_columns.proofs.FirstColumns.{on_true, on_false, fork_below, fork_above, fork_only_above, leaf_first}
use Rattle.cpg_tree_columns.proofs.FirstColumns.{leaf_none}
use Rattle.cpg_tree_columns.proofs.peaks.+narrow_to_first.Goals as goal

-- the cut leaves numbers above it, so the next number fits its type
pub overflow_add-upper : goal.overflow_add-upper
overflow_add-upper t c =
    let shows = c.in-Cut.ensures.shows in
    let cuts = c.requires.cuts (Fork c.in-Cut.variable c.in-Cut.cut shows.0 shows.1) shows.4 in
    omega (arith, cut_fits c.args.k c.in-Cut.variable c.in-Cut.cut c.ranges.k.fits cuts.1)

-- the call for the side below: its list is shorter, and its cuts leave numbers above them
pub narrow_to_first-requires : goal.narrow_to_first-requires
narrow_to_first-requires t c =
    let shows = c.in-Cut.ensures.shows in
    let cuts = c.requires.cuts (Fork c.in-Cut.variable c.in-Cut.cut shows.0 shows.1) shows.4 in (
      omega (arith, c.decreases, c.in-Cut.ensures.less.0),
      ((shows.0, shows.2), λ n are. side_cuts c.args.k c.in-Cut.below.now shows.0 n shows.2 cuts.2 are),
    )

-- the call for the side above, after the cube is exchanged: its list is shorter, and its cuts leave numbers above
-- them
pub narrow_to_first-requires-then-exchange : goal.narrow_to_first-requires-then-exchange
narrow_to_first-requires-then-exchange t c =
    let shows = c.in-Cut.ensures.shows in
    let cuts = c.requires.cuts (Fork c.in-Cut.variable c.in-Cut.cut shows.0 shows.1) shows.4 in (
      omega (arith, c.decreases, c.in-Cut.ensures.less.1),
      ((shows.1, shows.3), λ n are. side_cuts c.args.k c.in-Cut.above.now shows.1 n shows.3 cuts.3 are),
    )

-- the call for the side above, if nothing is below: its list is shorter, and its cuts leave numbers above them
pub narrow_to_first-requires-in-Some-upper_step : goal.narrow_to_first-requires-in-Some-upper_step
narrow_to_first-requires-in-Some-upper_step t c =
    let shows = c.in-Cut.ensures.shows in
    let cuts = c.requires.cuts (Fork c.in-Cut.variable c.in-Cut.cut shows.0 shows.1) shows.4 in (
      omega (arith, c.decreases, c.in-Cut.ensures.less.1),
      ((shows.1, shows.3), λ n are. side_cuts c.args.k c.in-Cut.above.now shows.1 n shows.3 cuts.3 are),
    )

-- the leaf has the number, so its cube is the first
pub returns-in-Value-clause-some : goal.returns-in-Value-clause-some
returns-in-Value-clause-some t c = on_true c.is_some.result (λ on n are.
    leaf_first c.args.wanted c.args.k c.args.cube.now c.in-Value.number n
    (flat-same n (Leaf c.in-Value.number) (sym are ∙ c.in-Value.ensures.shows))
    (sym (c.is_some.ensures ∙ ap is_some c.if_wanted.ensures) ∙ on))

-- the leaf's value isn't the number, so its only column, if it has one, isn't either
pub returns-in-Value-clause-none : goal.returns-in-Value-clause-none
returns-in-Value-clause-none t c = on_false c.is_some.result (λ off n are.
    leaf_none c.args.wanted c.args.k c.args.cube.now c.in-Value.number n
    (flat-same n (Leaf c.in-Value.number) (sym are ∙ c.in-Value.ensures.shows))
    (sym (c.is_some.ensures ∙ ap is_some c.if_wanted.ensures) ∙ off))

-- the side below has a column with the number, and the fork's columns begin with those of that side
pub returns-then-branch-clause-some : goal.returns-then-branch-clause-some
returns-then-branch-clause-some t c n are =
    let shows = c.in-Cut.ensures.shows in
    fork_below c.args.wanted c.args.k c.args.cube.now c.in-Cut.variable c.in-Cut.cut shows.0 shows.1 n
    (flat-same n (Fork c.in-Cut.variable c.in-Cut.cut shows.0 shows.1) (sym are ∙ shows.4))
    c.narrow.new.self c.narrow_to_first.new.cube (rw c.in-Some.is at c.in_ok-step-in-Cut.ensures.narrowed)
    (from_true c.in_ok-narrow_to_first-in-Some.field-0 c.if-branch.true c.in_ok-narrow_to_first-in-Some.ensures.some
    shows.0 shows.2)

-- the side below has no column with the number, so the first of the fork is that of the side above
pub returns-then-branch-2-clause-some : goal.returns-then-branch-2-clause-some
returns-then-branch-2-clause-some t c n are =
    let shows = c.in-Cut.ensures.shows in
    fork_above c.args.wanted c.args.k c.args.cube.now c.in-Cut.variable c.in-Cut.cut shows.0 shows.1 n
    (flat-same n (Fork c.in-Cut.variable c.in-Cut.cut shows.0 shows.1) (sym are ∙ shows.4))
    c.in-Some.step c.top.result c.narrow.new.self c.narrow_to_first.new.cube (Some c.exchange.new.self)
    (Some c.narrow_to_first-then-exchange.new.cube) c.top.ensures
    (rw c.in-Some.is at c.in_ok-step-in-Cut.ensures.narrowed) (rw c.in-Some.is at c.in_ok-step-in-Cut.ensures.undo)
    (from_false c.in_ok-narrow_to_first-in-Some.field-0 c.if-branch.false c.in_ok-narrow_to_first-in-Some.ensures.none
    shows.0 shows.2)
    (from_false c.in_ok-narrow_to_first-in-Some.field-0 c.if-branch.false c.in_ok-narrow_to_first-in-Some.ensures.same)
    c.if-exchange.ensures.narrowed
    (from_true c.in_ok-narrow_to_first-in-Some-2.field-0 c.if-branch-2.true
    c.in_ok-narrow_to_first-in-Some-2.ensures.some shows.1 shows.3)

-- neither side has a column with the number, so the fork has none
pub returns-else-branch-2-clause-none : goal.returns-else-branch-2-clause-none
returns-else-branch-2-clause-none t c n are =
    let shows = c.in-Cut.ensures.shows in
    fork_above c.args.wanted c.args.k c.args.cube.now c.in-Cut.variable c.in-Cut.cut shows.0 shows.1 n
    (flat-same n (Fork c.in-Cut.variable c.in-Cut.cut shows.0 shows.1) (sym are ∙ shows.4))
    c.in-Some.step c.top.result c.narrow.new.self c.narrow_to_first.new.cube
    (Some c.exchange.new.self) None c.top.ensures
    (rw c.in-Some.is at c.in_ok-step-in-Cut.ensures.narrowed) (rw c.in-Some.is at c.in_ok-step-in-Cut.ensures.undo)
    (from_false c.in_ok-narrow_to_first-in-Some.field-0 c.if-branch.false c.in_ok-narrow_to_first-in-Some.ensures.none
    shows.0 shows.2)
    (from_false c.in_ok-narrow_to_first-in-Some.field-0 c.if-branch.false c.in_ok-narrow_to_first-in-Some.ensures.same)
    c.if-exchange.ensures.narrowed
    (from_false c.in_ok-narrow_to_first-in-Some-2.field-0 c.if-branch-2.false
    c.in_ok-narrow_to_first-in-Some-2.ensures.none shows.1 shows.3)

-- the side below has no column with the number, and the cube has no numbers above the cut, so the fork has none
pub returns-else-exchange-clause-none : goal.returns-else-exchange-clause-none
returns-else-exchange-clause-none t c n are =
    let shows = c.in-Cut.ensures.shows in
    fork_above c.args.wanted c.args.k c.args.cube.now c.in-Cut.variable c.in-Cut.cut shows.0 shows.1 n
    (flat-same n (Fork c.in-Cut.variable c.in-Cut.cut shows.0 shows.1) (sym are ∙ shows.4))
    c.in-Some.step c.top.result c.narrow.new.self c.narrow_to_first.new.cube None None c.top.ensures
    (rw c.in-Some.is at c.in_ok-step-in-Cut.ensures.narrowed) (rw c.in-Some.is at c.in_ok-step-in-Cut.ensures.undo)
    (from_false c.in_ok-narrow_to_first-in-Some.field-0 c.if-branch.false c.in_ok-narrow_to_first-in-Some.ensures.none
    shows.0 shows.2)
    (from_false c.in_ok-narrow_to_first-in-Some.field-0 c.if-branch.false c.in_ok-narrow_to_first-in-Some.ensures.same)
    c.if-exchange.ensures.none refl

-- the cube has no numbers below the cut, so the first of the fork is that of the side above
pub returns-then-branch-3-clause-some : goal.returns-then-branch-3-clause-some
returns-then-branch-3-clause-some t c n are =
    let shows = c.in-Cut.ensures.shows in
    let same : c.narrow.new.self ≡ c.args.cube.now = rw c.in-None.is at c.in_ok-step-in-Cut.ensures.same in
    fork_only_above c.args.wanted c.args.k c.args.cube.now c.in-Cut.variable c.in-Cut.cut shows.0 shows.1 n
    (flat-same n (Fork c.in-Cut.variable c.in-Cut.cut shows.0 shows.1) (sym are ∙ shows.4))
    (Some c.narrow-in-None.new.self) (Some c.narrow_to_first-in-Some-upper_step.new.cube)
    (rw c.in-None.is at c.in_ok-step-in-Cut.ensures.none)
    (above_of c.args.k c.in-Cut.variable c.in-Cut.cut c.top.result c.args.cube.now c.narrow.new.self
    (Some c.narrow-in-None.new.self) c.top.ensures same
    (rw c.in-Some-upper_step.is at c.in_ok-upper_step-in-None.ensures.narrowed))
    (from_true c.in_ok-narrow_to_first-in-None.field-0 c.if-branch-3.true c.in_ok-narrow_to_first-in-None.ensures.some
    shows.1 shows.3)

-- the cube has no numbers below the cut, and the side above has no column with the number, so the fork has none
pub returns-else-branch-3-clause-none : goal.returns-else-branch-3-clause-none
returns-else-branch-3-clause-none t c n are =
    let shows = c.in-Cut.ensures.shows in
    let same : c.narrow.new.self ≡ c.args.cube.now = rw c.in-None.is at c.in_ok-step-in-Cut.ensures.same in
    fork_only_above c.args.wanted c.args.k c.args.cube.now c.in-Cut.variable c.in-Cut.cut shows.0 shows.1 n
    (flat-same n (Fork c.in-Cut.variable c.in-Cut.cut shows.0 shows.1) (sym are ∙ shows.4))
    (Some c.narrow-in-None.new.self) None (rw c.in-None.is at c.in_ok-step-in-Cut.ensures.none)
    (above_of c.args.k c.in-Cut.variable c.in-Cut.cut c.top.result c.args.cube.now c.narrow.new.self
    (Some c.narrow-in-None.new.self) c.top.ensures same
    (rw c.in-Some-upper_step.is at c.in_ok-upper_step-in-None.ensures.narrowed))
    (from_false c.in_ok-narrow_to_first-in-None.field-0 c.if-branch-3.false c.in_ok-narrow_to_first-in-None.ensures.none
    shows.1 shows.3)

-- the cube has numbers on neither side, so the fork has no columns
pub returns-in_default-clause-none : goal.returns-in_default-clause-none
returns-in_default-clause-none t c n are =
    let shows = c.in-Cut.ensures.shows in
    let same : c.narrow.new.self ≡ c.args.cube.now = rw c.in-None.is at c.in_ok-step-in-Cut.ensures.same in
    fork_only_above c.args.wanted c.args.k c.args.cube.now c.in-Cut.variable c.in-Cut.cut shows.0 shows.1 n
    (flat-same n (Fork c.in-Cut.variable c.in-Cut.cut shows.0 shows.1) (sym are ∙ shows.4))
    None None (rw c.in-None.is at c.in_ok-step-in-Cut.ensures.none)
    (above_of c.args.k c.in-Cut.variable c.in-Cut.cut c.top.result c.args.cube.now c.narrow.new.self None
    c.top.ensures same
    (rw c.in_default.is at c.in_ok-upper_step-in-None.ensures.none))
    refl
