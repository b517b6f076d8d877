-- Proof of `push_columns`, which adds the columns of a tree that is entered with a cube, from left to right. `shows`
-- has the trees below and above the cut (0 and 1), that the lists of the two sides are theirs (2 and 3), and that the
-- items are the fork's (4).
use Rattle.std.proofs.Common.{◌≡◌, None, Some, sym, arith, rules}
use Rattle.std.proofs.lemmas.List.{append-nil}
use Rattle.cpg_tree.specs.TreeNode.{Fork}
use Rattle.cpg_tree_columns.proofs.ColumnsFound.{side_cuts, cut_fits, leaf_columns, fork_columns, above_of, above_again}
use Rattle.cpg_tree_columns.proofs.listing.+push_columns.Goals as goal

-- the cut leaves numbers above it, so the next number fits its type
pub overflow_add-upper : goal.overflow_add-upper
overflow_add-upper t c =
    let shows = c.in-Cut.ensures.shows in
    let cuts = c.requires.cuts (Fork c.in-Cut.variable c.in-Cut.cut shows.0 shows.1) shows.4 in
    omega (arith, cut_fits c.args.k c.in-Cut.variable c.in-Cut.cut c.ranges.k.fits cuts.1)

-- the call for the side below: its list is shorter, and its cuts leave numbers above them
pub push_columns-requires : goal.push_columns-requires
push_columns-requires t c =
    let shows = c.in-Cut.ensures.shows in
    let cuts = c.requires.cuts (Fork c.in-Cut.variable c.in-Cut.cut shows.0 shows.1) shows.4 in (
      omega (arith, c.decreases, c.in-Cut.ensures.less.0),
      ((shows.0, shows.2), λ n are. side_cuts c.args.k c.in-Cut.below.now shows.0 n shows.2 cuts.2 are),
    )

-- the call for the side above, after the cube is exchanged: its list is shorter, and its cuts leave numbers above
-- them
pub push_columns-requires-then-exchange : goal.push_columns-requires-then-exchange
push_columns-requires-then-exchange t c =
    let shows = c.in-Cut.ensures.shows in
    let cuts = c.requires.cuts (Fork c.in-Cut.variable c.in-Cut.cut shows.0 shows.1) shows.4 in (
      omega (arith, c.decreases, c.in-Cut.ensures.less.1),
      ((shows.1, shows.3), λ n are. side_cuts c.args.k c.in-Cut.above.now shows.1 n shows.3 cuts.3 are),
    )

-- the call for the side above, if nothing is below: its list is shorter, and its cuts leave numbers above them
pub push_columns-requires-in-Some-upper_step : goal.push_columns-requires-in-Some-upper_step
push_columns-requires-in-Some-upper_step t c =
    let shows = c.in-Cut.ensures.shows in
    let cuts = c.requires.cuts (Fork c.in-Cut.variable c.in-Cut.cut shows.0 shows.1) shows.4 in (
      omega (arith, c.decreases, c.in-Cut.ensures.less.1),
      ((shows.1, shows.3), λ n are. side_cuts c.args.k c.in-Cut.above.now shows.1 n shows.3 cuts.3 are),
    )

-- the tree is a leaf with a time, so its one column is added
pub returns-in_ok-push-in-Value-clause-columns : goal.returns-in_ok-push-in-Value-clause-columns
returns-in_ok-push-in-Value-clause-columns t c n are =
    leaf_columns c.args.k c.args.cube.now c.args.items.now n (Some c.in-Some.time) c.args.columns.now.items
    c.push.new.self.items (rw (← c.get.ensures, c.in-Some.is) at c.in-Value.ensures.shows) are (search rules)

-- the tree is a leaf without a time, so no column is added
pub returns-in_default-clause-columns : goal.returns-in_default-clause-columns
returns-in_default-clause-columns t c n are =
    leaf_columns c.args.k c.args.cube.now c.args.items.now n None c.args.columns.now.items c.args.columns.now.items
    (rw (← c.get.ensures, c.in_default.is) at c.in-Value.ensures.shows) are (sym (append-nil c.args.columns.now.items))

-- the cube has numbers on both sides, so the columns of both sides are added one behind the other
pub returns-in_ok-push_columns-in-Some-step-2-clause-columns :
    goal.returns-in_ok-push_columns-in-Some-step-2-clause-columns
returns-in_ok-push_columns-in-Some-step-2-clause-columns t c n are =
    let shows = c.in-Cut.ensures.shows in
    fork_columns c.args.k c.args.cube.now c.in-Cut.variable c.in-Cut.cut shows.0 shows.1 n c.args.items.now shows.4 are
    (Some c.narrow.new.self) (Some c.exchange.new.self)
    (rw c.in-Some-step.is at c.in_ok-step-in-Cut.ensures.narrowed)
    (above_again c.args.k c.in-Cut.variable c.in-Cut.cut c.top.result c.in-Some-step.step c.args.cube.now
    c.narrow.new.self c.push_columns.new.cube (Some c.exchange.new.self) c.top.ensures
    (rw c.in-Some-step.is at c.in_ok-step-in-Cut.ensures.undo) c.in_ok-push_columns-in-Some-step.ensures.cube
    c.if-exchange.ensures.narrowed)
    c.args.columns.now.items c.push_columns.new.columns.items c.push_columns-then-exchange.new.columns.items
    (c.in_ok-push_columns-in-Some-step.ensures.columns shows.0 shows.2)
    (c.in_ok-push_columns-in-Some-step-2.ensures.columns shows.1 shows.3)

-- the cube has numbers only below the cut, so the columns of that side are those of the fork
pub returns-else-exchange-clause-columns : goal.returns-else-exchange-clause-columns
returns-else-exchange-clause-columns t c n are =
    let shows = c.in-Cut.ensures.shows in
    fork_columns c.args.k c.args.cube.now c.in-Cut.variable c.in-Cut.cut shows.0 shows.1 n c.args.items.now shows.4 are
    (Some c.narrow.new.self) None
    (rw c.in-Some-step.is at c.in_ok-step-in-Cut.ensures.narrowed)
    (above_again c.args.k c.in-Cut.variable c.in-Cut.cut c.top.result c.in-Some-step.step c.args.cube.now
    c.narrow.new.self c.push_columns.new.cube None c.top.ensures
    (rw c.in-Some-step.is at c.in_ok-step-in-Cut.ensures.undo) c.in_ok-push_columns-in-Some-step.ensures.cube
    c.if-exchange.ensures.none)
    c.args.columns.now.items c.push_columns.new.columns.items c.push_columns.new.columns.items
    (c.in_ok-push_columns-in-Some-step.ensures.columns shows.0 shows.2)
    (sym (append-nil c.push_columns.new.columns.items))

-- the cube has numbers only above the cut, so the columns of that side are those of the fork
pub returns-in_ok-push_columns-in-None-clause-columns : goal.returns-in_ok-push_columns-in-None-clause-columns
returns-in_ok-push_columns-in-None-clause-columns t c n are =
    let shows = c.in-Cut.ensures.shows in
    let same : c.narrow.new.self ≡ c.args.cube.now = rw c.in-None.is at c.in_ok-step-in-Cut.ensures.same in
    fork_columns c.args.k c.args.cube.now c.in-Cut.variable c.in-Cut.cut shows.0 shows.1 n c.args.items.now shows.4 are
    None (Some c.narrow-in-None.new.self)
    (rw c.in-None.is at c.in_ok-step-in-Cut.ensures.none)
    (above_of c.args.k c.in-Cut.variable c.in-Cut.cut c.top.result c.args.cube.now c.narrow.new.self
    (Some c.narrow-in-None.new.self) c.top.ensures same
    (rw c.in-Some-upper_step.is at c.in_ok-upper_step-in-None.ensures.narrowed))
    c.args.columns.now.items c.args.columns.now.items c.push_columns-in-Some-upper_step.new.columns.items
    (sym (append-nil c.args.columns.now.items)) (c.in_ok-push_columns-in-None.ensures.columns shows.1 shows.3)

-- the cube has numbers on neither side, so the fork has no columns
pub returns-in_default-upper_step-clause-columns : goal.returns-in_default-upper_step-clause-columns
returns-in_default-upper_step-clause-columns t c n are =
    let shows = c.in-Cut.ensures.shows in
    let same : c.narrow.new.self ≡ c.args.cube.now = rw c.in-None.is at c.in_ok-step-in-Cut.ensures.same in
    fork_columns c.args.k c.args.cube.now c.in-Cut.variable c.in-Cut.cut shows.0 shows.1 n c.args.items.now
    shows.4 are None None
    (rw c.in-None.is at c.in_ok-step-in-Cut.ensures.none)
    (above_of c.args.k c.in-Cut.variable c.in-Cut.cut c.top.result c.args.cube.now c.narrow.new.self None
    c.top.ensures same
    (rw c.in_default-upper_step.is at c.in_ok-upper_step-in-None.ensures.none))
    c.args.columns.now.items c.args.columns.now.items c.args.columns.now.items
    (sym (append-nil c.args.columns.now.items)) (sym (append-nil c.args.columns.now.items))
