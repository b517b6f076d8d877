-- Proof of `put_paths`, which puts the lines of the columns that the tree has below a path: the time of each is a
-- leaf, and its cube is the path to there.
use Rattle.std.proofs.Common.{arith, refl, subst}
use Rattle.std.proofs.lemmas.Result.{err_from_is_err_and}
use Rattle.cpg_codec.specs.Writing.{IsPut, Puts}
use Rattle.cpg_codec.proofs.Puts.{IsPut-none, IsPut-then, Puts-failed, Puts-first, fails_second}
use Rattle.cpg_cube.specs.Narrow.{narrowed_by}
use Rattle.cpg_label.specs.CubeText.{column_line}
use Rattle.cpg_tree.specs.Paths.{above, up_to}
use Rattle.cpg_tree.specs.TreeNode.{Fork}
use Rattle.cpg_tree_columns.proofs.ColumnsFound.{side_cuts, cut_fits}
use Rattle.cpg_tree_columns.proofs.PathWalks.{above_back, both_pieces, no_piece, one_piece, pieces_from}
use Rattle.cpg_show.proofs.walking.+put_paths.Goals as goal

-- a cut leaves a number of its variable above it, which fits a byte
pub overflow_add-upper : goal.overflow_add-upper
overflow_add-upper g t c =
    -- the tree is a fork, and its two sides are those of the cut
    let shows = c.in-Cut.ensures.shows in
    let cuts = c.requires.cuts (Fork c.in-Cut.variable c.in-Cut.cut shows.0 shows.1) shows.4 in
    omega (arith, cut_fits c.args.k c.in-Cut.variable c.in-Cut.cut c.ranges.k.fits cuts.1)

-- the side below has fewer items, and its cuts leave numbers above them as those of the whole do
pub put_paths-requires : goal.put_paths-requires
put_paths-requires g t c κs within =
    -- the tree is a fork, and its two sides are those of the cut
    let shows = c.in-Cut.ensures.shows in
    let cuts = c.requires.cuts (Fork c.in-Cut.variable c.in-Cut.cut shows.0 shows.1) shows.4 in (
      omega (arith, c.decreases, c.in-Cut.ensures.less.0),
      (
        within,
        (
          c.requires.line,
          (
            (shows.0, shows.2),
            λ n are. side_cuts c.args.k c.in-Cut.below.now shows.0 n shows.2 cuts.2 are,
          ),
        ),
      ),
    )

-- the same for the side above
pub put_paths-requires-in-Cut : goal.put_paths-requires-in-Cut
put_paths-requires-in-Cut g t c κs within =
    -- the tree is a fork, and its two sides are those of the cut
    let shows = c.in-Cut.ensures.shows in
    let cuts = c.requires.cuts (Fork c.in-Cut.variable c.in-Cut.cut shows.0 shows.1) shows.4 in (
      omega (arith, c.decreases, c.in-Cut.ensures.less.1),
      (
        within,
        (
          c.in_ok-put_paths-in-Cut.ensures.line,
          (
            (shows.1, shows.3),
            λ n are. side_cuts c.args.k c.in-Cut.above.now shows.1 n shows.3 cuts.3 are,
          ),
        ),
      ),
    )

-- the tree is a leaf without a time, so it has no column and nothing is put
pub returns-in-None-clause-put : goal.returns-in-None-clause-put
returns-in-None-clause-put g t c n are =
    subst (IsPut _ _ _ _) (no_piece (column_line c.args.labels.now) c.args.k c.args.path.now c.args.items.now n are
    (rw (← c.get.ensures, c.in-None.is) at c.in-Value.ensures.shows)) (IsPut-none _ _)

-- the tree is a leaf with a time, so its one column is what was put
pub returns-in-Some-clause-put : goal.returns-in-Some-clause-put
returns-in-Some-clause-put g t c n are =
    subst (Puts _ _ _ _ c.put_next.result)
    (one_piece (column_line c.args.labels.now) c.args.k c.args.path.now c.args.items.now n are c.in-Some.time
    (rw (← c.get.ensures, c.in-Some.is) at c.in-Value.ensures.shows))
    (rw c.literals.ensures.literals at c.put_next.ensures.put)

-- the sink took only a proper prefix of the lines of the side below, with which those of both begin
pub returns-in_err-put_paths-in-Cut-clause-put : goal.returns-in_err-put_paths-in-Cut-clause-put
returns-in_err-put_paths-in-Cut-clause-put g t c n are =
    -- the tree is a fork, and its two sides are those of the cut
    let shows = c.in-Cut.ensures.shows in
    let variable = c.in-Cut.variable in
    let cut = c.in-Cut.cut in
    let k = c.args.k in
    let line = column_line c.args.labels.now in
    -- the call failed
    let failed = err_from_is_err_and c.from_residual.result c.from_residual.ensures.1 in
    subst (Puts _ _ _ _ c.from_residual.result)
    (both_pieces line k c.args.path.now c.args.items.now n are variable cut shows.0 shows.1 shows.4)
    (Puts-first _ _ _ _ (pieces_from line k (narrowed_by (up_to variable cut) c.args.path.now) shows.0)
    (pieces_from line k (narrowed_by (above k variable cut) c.args.path.now) shows.1)
    c.from_residual.result failed.0 failed.1
    (rw c.narrow-step.ensures.narrowed at (c.in_err-put_paths-in-Cut.ensures.put shows.0 shows.2)))

-- the side below is put, and of the side above (on from the exchanged path) a proper prefix was taken; together that is
-- one of both
pub returns-in_err-put_paths-in-Cut-2-clause-put : goal.returns-in_err-put_paths-in-Cut-2-clause-put
returns-in_err-put_paths-in-Cut-2-clause-put g t c n are =
    -- the tree is a fork, and its two sides are those of the cut
    let shows = c.in-Cut.ensures.shows in
    let variable = c.in-Cut.variable in
    let cut = c.in-Cut.cut in
    let k = c.args.k in
    let line = column_line c.args.labels.now in
    -- the path is as before, but for the range above the cut
    let path = above_back k variable cut c.top.result c.top.ensures c.narrow-step.result c.args.path.now
    c.narrow-step.new.self
    c.put_paths.new.path c.exchange.new.self c.narrow-step.ensures.undo
    c.in_ok-put_paths-in-Cut.ensures.path _ refl c.exchange.ensures.narrowed in
    let failing = c.from_residual-in_err-put_paths-in-Cut-2 in
    -- the call failed
    let failed = err_from_is_err_and failing.result failing.ensures.1 in
    subst (Puts _ _ _ _ failing.result)
    (both_pieces line k c.args.path.now c.args.items.now n are variable cut shows.0 shows.1 shows.4)
    (Puts-failed _ _ _ _ _ failing.result failed.0 failed.1
    (fails_second _ _ _ _ _ (pieces_from line k (narrowed_by (up_to variable cut) c.args.path.now) shows.0)
    (pieces_from line k (narrowed_by (above k variable cut) c.args.path.now) shows.1)
    (rw c.narrow-step.ensures.narrowed at (c.in_ok-put_paths-in-Cut.ensures.put shows.0 shows.2))
    (rw path at (c.in_err-put_paths-in-Cut-2.ensures.put shows.1 shows.3))))

-- the lines of a fork are those of the side below and then those of the side above, on from the exchanged path
pub returns-in_ok-put_paths-in-Cut-2-clause-put : goal.returns-in_ok-put_paths-in-Cut-2-clause-put
returns-in_ok-put_paths-in-Cut-2-clause-put g t c n are =
    -- the tree is a fork, and its two sides are those of the cut
    let shows = c.in-Cut.ensures.shows in
    let variable = c.in-Cut.variable in
    let cut = c.in-Cut.cut in
    let k = c.args.k in
    let line = column_line c.args.labels.now in
    -- the path is as before, but for the range above the cut
    let path = above_back k variable cut c.top.result c.top.ensures c.narrow-step.result c.args.path.now
    c.narrow-step.new.self
    c.put_paths.new.path c.exchange.new.self c.narrow-step.ensures.undo
    c.in_ok-put_paths-in-Cut.ensures.path _ refl c.exchange.ensures.narrowed in
    subst (IsPut _ _ _ _) (both_pieces line k c.args.path.now c.args.items.now n are variable cut shows.0 shows.1
    shows.4)
    (IsPut-then _ _ _ _ _ _ (pieces_from line k (narrowed_by (up_to variable cut) c.args.path.now) shows.0)
    (pieces_from line k (narrowed_by (above k variable cut) c.args.path.now) shows.1)
    (rw c.narrow-step.ensures.narrowed at (c.in_ok-put_paths-in-Cut.ensures.put shows.0 shows.2))
    (rw path at (c.in_ok-put_paths-in-Cut-2.ensures.put shows.1 shows.3)))
