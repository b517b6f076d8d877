-- Proof of `put_paths`, which puts the columns that the tree has below a path, each later by a delay: the time of each is
-- a leaf, and its cube is the path to there.
use Rattle.std.proofs.Common.{ℕ, [], Option, Some, arith, refl, subst}
use Rattle.std.proofs.lemmas.Result.{err_from_is_err_and}
use Rattle.cpg_codec.specs.Writing.{IsPut, Puts}
use Rattle.cpg_codec.proofs.Puts.{IsPut-none, IsPut-then, Puts-failed, Puts-first, fails_second}
use Rattle.cpg_cube.specs.Narrow.{narrowed_by}
use Rattle.cpg_tree.specs.Paths.{above, up_to}
use Rattle.cpg_tree.specs.TreeNode.{TreeNode, Leaf, Fork}
use Rattle.cpg_tree_columns.proofs.ColumnsFound.{side_cuts, cut_fits}
use Rattle.cpg_tree_columns.proofs.PathWalks.{above_back, both_pieces, no_piece, one_piece}
use Rattle.cpg_packing.proofs.PathBytes.{bytes_from, delayed, packable_side, packable_sides, puts_failed_as}
use Rattle.cpg_packing.proofs.walking.+put_paths.Goals as goal

-- a cut is below the greatest number of its variable, so the number above it fits a byte
pub overflow_add-upper : goal.overflow_add-upper
overflow_add-upper g t c =
    -- the tree is a fork, and its two sides are those of the cut
    let shows = c.in-Cut.ensures.shows in
    let cuts = c.requires.cuts (Fork c.in-Cut.variable c.in-Cut.cut shows.0 shows.1) shows.4 in
    omega (arith, cut_fits c.args.k c.in-Cut.variable c.in-Cut.cut c.ranges.k.fits cuts.1)

-- a time that fits a pack and a delay of at most a slot stay below 2 ^ 60
pub overflow_add-time : goal.overflow_add-time
overflow_add-time g t c =
    let is = rw (← c.get.ensures, c.in-Some.is) at c.in-Value.ensures.shows in
    let first = c.requires.packable (Leaf (Some c.in-Some.time)) is 0 (record { time = 0; cube = [] }) (omega arith) in
    omega (arith, first.time, c.requires.delay)

-- the path of a column that fits has at most 255 literals
pub put_column-requires : goal.put_column-requires
put_column-requires g t c =
    let is = rw (← c.get.ensures, c.in-Some.is) at c.in-Value.ensures.shows in
    let first = c.requires.packable (Leaf (Some c.in-Some.time)) is 0 (record { time = 0; cube = [] }) (omega arith) in
    rw c.literals.ensures.literals first.short

-- the side below has fewer items, its cuts leave numbers above them, and its columns on from the narrowed path fit
pub put_paths-requires : goal.put_paths-requires
put_paths-requires g t c κs within =
    -- the tree is a fork, and its two sides are those of the cut
    let shows = c.in-Cut.ensures.shows in
    let v = c.in-Cut.variable in
    let cut = c.in-Cut.cut in
    let root : TreeNode (Option ℕ) = Fork v cut shows.0 shows.1 in
    let cuts = c.requires.cuts root shows.4 in
    -- both sides can be packed if the fork can
    let sides = packable_sides c.args.k c.args.path.now v cut shows.0 shows.1 (c.requires.packable root shows.4) in (
      -- it has fewer items, and these are those of the side
      omega (arith, c.decreases, c.in-Cut.ensures.less.0),
      (
        within,
        (
          (shows.0, shows.2),
          (
            -- its cuts leave numbers above them, and its columns fit with the narrowed path
            λ n are. side_cuts c.args.k c.in-Cut.below.now shows.0 n shows.2 cuts.2 are,
            (
              λ n are. packable_side c.args.k c.in-Cut.below.now shows.0 n (narrowed_by (up_to v cut) c.args.path.now)
                  c.narrow-step.new.self shows.2 c.narrow-step.ensures.narrowed sides.0 are,
              c.requires.delay,
            ),
          ),
        ),
      ),
    )

-- the same for the side above, on from the exchanged path
pub put_paths-requires-in-Cut : goal.put_paths-requires-in-Cut
put_paths-requires-in-Cut g t c κs within =
    -- the tree is a fork, and its two sides are those of the cut
    let shows = c.in-Cut.ensures.shows in
    let v = c.in-Cut.variable in
    let cut = c.in-Cut.cut in
    let root : TreeNode (Option ℕ) = Fork v cut shows.0 shows.1 in
    let cuts = c.requires.cuts root shows.4 in
    let sides = packable_sides c.args.k c.args.path.now v cut shows.0 shows.1 (c.requires.packable root shows.4) in
    -- the path is as before, but for the range above the cut
    let path = above_back c.args.k v cut c.top.result c.top.ensures c.narrow-step.result c.args.path.now
    c.narrow-step.new.self c.put_paths.new.path c.exchange.new.self c.narrow-step.ensures.undo
    c.in_ok-put_paths-in-Cut.ensures.path _ refl c.exchange.ensures.narrowed in (
      -- it has fewer items, and these are those of the side
      omega (arith, c.decreases, c.in-Cut.ensures.less.1),
      (
        within,
        (
          (shows.1, shows.3),
          (
            λ n are. side_cuts c.args.k c.in-Cut.above.now shows.1 n shows.3 cuts.3 are,
            (
              λ n are. packable_side c.args.k c.in-Cut.above.now shows.1 n
                  (narrowed_by (above c.args.k v cut) c.args.path.now) c.exchange.new.self shows.3 path sides.1 are,
              c.requires.delay,
            ),
          ),
        ),
      ),
    )

-- the tree is a leaf with a time, so its one column is what was put
pub returns-in_ok-put_column-in-Value-clause-put : goal.returns-in_ok-put_column-in-Value-clause-put
returns-in_ok-put_column-in-Value-clause-put g t c n are =
    subst (IsPut _ _ _ _)
    (one_piece (delayed c.args.delay) c.args.k c.args.path.now c.args.items.now n are c.in-Some.time
    (rw (← c.get.ensures, c.in-Some.is) at c.in-Value.ensures.shows))
    (rw c.literals.ensures.literals at c.in_ok-put_column-in-Value.ensures.put)

-- the tree is a leaf without a time, so it has no column and nothing is put
pub returns-in_default-clause-put : goal.returns-in_default-clause-put
returns-in_default-clause-put g t c n are =
    subst (IsPut _ _ _ _) (no_piece (delayed c.args.delay) c.args.k c.args.path.now c.args.items.now n are
    (rw (← c.get.ensures, c.in_default.is) at c.in-Value.ensures.shows)) (IsPut-none _ _)

-- the tree is a leaf with a time, and of its one column a proper prefix was taken
pub returns-in_err-put_column-in-Value-clause-put : goal.returns-in_err-put_column-in-Value-clause-put
returns-in_err-put_column-in-Value-clause-put g t c n are =
    -- the call failed
    let p = err_from_is_err_and c.from_residual.result c.from_residual.ensures.1 in
    puts_failed_as _ _ _ _ _ _ c.from_residual.result p.0 p.1
    (one_piece (delayed c.args.delay) c.args.k c.args.path.now c.args.items.now n are c.in-Some.time
    (rw (← c.get.ensures, c.in-Some.is) at c.in-Value.ensures.shows))
    (rw c.literals.ensures.literals at c.in_err-put_column-in-Value.ensures.put)

-- the sink took only a proper prefix of the side below, with which both begin
pub returns-in_err-put_paths-in-Cut-clause-put : goal.returns-in_err-put_paths-in-Cut-clause-put
returns-in_err-put_paths-in-Cut-clause-put g t c n are =
    -- the tree is a fork, and its two sides are those of the cut
    let shows = c.in-Cut.ensures.shows in
    let v = c.in-Cut.variable in
    let cut = c.in-Cut.cut in
    let k = c.args.k in
    -- the call failed
    let p = err_from_is_err_and c.from_residual-in_err-put_paths-in-Cut.result
    c.from_residual-in_err-put_paths-in-Cut.ensures.1 in
    subst (Puts _ _ _ _ c.from_residual-in_err-put_paths-in-Cut.result)
    (both_pieces (delayed c.args.delay) k c.args.path.now c.args.items.now n are v cut shows.0 shows.1 shows.4)
    (Puts-first _ _ _ _ (bytes_from k c.args.delay (narrowed_by (up_to v cut) c.args.path.now) shows.0)
    (bytes_from k c.args.delay (narrowed_by (above k v cut) c.args.path.now) shows.1)
    c.from_residual-in_err-put_paths-in-Cut.result p.0 p.1
    (rw c.narrow-step.ensures.narrowed at (c.in_err-put_paths-in-Cut.ensures.put shows.0 shows.2)))

-- the side below is put, and of the side above (on from the exchanged path) a proper prefix was taken; together that is
-- one of both
pub returns-in_err-put_paths-in-Cut-2-clause-put : goal.returns-in_err-put_paths-in-Cut-2-clause-put
returns-in_err-put_paths-in-Cut-2-clause-put g t c n are =
    -- the tree is a fork, and its two sides are those of the cut
    let shows = c.in-Cut.ensures.shows in
    let v = c.in-Cut.variable in
    let cut = c.in-Cut.cut in
    let k = c.args.k in
    -- the bytes of the two sides
    let first = bytes_from k c.args.delay (narrowed_by (up_to v cut) c.args.path.now) shows.0 in
    let second = bytes_from k c.args.delay (narrowed_by (above k v cut) c.args.path.now) shows.1 in
    -- the path is as before, but for the range above the cut
    let path = above_back k v cut c.top.result c.top.ensures c.narrow-step.result c.args.path.now c.narrow-step.new.self
    c.put_paths.new.path c.exchange.new.self c.narrow-step.ensures.undo
    c.in_ok-put_paths-in-Cut.ensures.path _ refl c.exchange.ensures.narrowed in
    let r = c.from_residual-in_err-put_paths-in-Cut-2 in
    -- the call failed
    let p = err_from_is_err_and r.result r.ensures.1 in
    subst (Puts _ _ _ _ r.result)
    (both_pieces (delayed c.args.delay) k c.args.path.now c.args.items.now n are v cut shows.0 shows.1 shows.4)
    (Puts-failed _ _ _ _ _ r.result p.0 p.1
    (fails_second _ _ _ _ _ first second
    (rw c.narrow-step.ensures.narrowed at (c.in_ok-put_paths-in-Cut.ensures.put shows.0 shows.2))
    (rw path at (c.in_err-put_paths-in-Cut-2.ensures.put shows.1 shows.3))))

-- both sides are put one after the other, and the columns of a fork are those of both
pub returns-in_ok-put_paths-in-Cut-2-clause-put : goal.returns-in_ok-put_paths-in-Cut-2-clause-put
returns-in_ok-put_paths-in-Cut-2-clause-put g t c n are =
    -- the tree is a fork, and its two sides are those of the cut
    let shows = c.in-Cut.ensures.shows in
    let v = c.in-Cut.variable in
    let cut = c.in-Cut.cut in
    let k = c.args.k in
    -- the bytes of the two sides
    let first = bytes_from k c.args.delay (narrowed_by (up_to v cut) c.args.path.now) shows.0 in
    let second = bytes_from k c.args.delay (narrowed_by (above k v cut) c.args.path.now) shows.1 in
    -- the path is as before, but for the range above the cut
    let path = above_back k v cut c.top.result c.top.ensures c.narrow-step.result c.args.path.now c.narrow-step.new.self
    c.put_paths.new.path c.exchange.new.self c.narrow-step.ensures.undo
    c.in_ok-put_paths-in-Cut.ensures.path _ refl c.exchange.ensures.narrowed in
    subst (IsPut _ _ _ _)
    (both_pieces (delayed c.args.delay) k c.args.path.now c.args.items.now n are v cut shows.0 shows.1 shows.4)
    (IsPut-then _ _ _ _ _ _ first second
    (rw c.narrow-step.ensures.narrowed at (c.in_ok-put_paths-in-Cut.ensures.put shows.0 shows.2))
    (rw path at (c.in_ok-put_paths-in-Cut-2.ensures.put shows.1 shows.3)))
