-- Proof of `slice_top`, which returns the top of the tree of a slice for the scenarios of a space, which are those that
-- the literals of a path match.
use Rattle.std.proofs.Common.{arith, sym, ◌∙◌, subst, map, Bor, List}
use Rattle.cpg_cube.specs.Cube.{IsRising}
use Rattle.cpg_cube.specs.declared.literal.Literal.{Literal}
use Rattle.cpg_row_trees.specs.Slices.{IsOwn}
use Rattle.cpg_tree.proofs.Forks.{from_true}
use Rattle.cpg_row_trees.proofs.PlaceHintLaws.{cube_here, within_lent}
use Rattle.cpg_row_trees.proofs.SliceLaws.{finds_here, finds_nowhere}
use Rattle.cpg_row_trees.proofs.slices.slice_top.Goals as goal

-- the literals of a cube are by rising variables
pub is_their_own-requires-clause-rising : goal.is_their_own-requires-clause-rising
is_their_own-requires-clause-rising c =
    subst IsRising (sym c.literals-literals.ensures.literals) c.literals-literals.ensures.rising

-- the slice has one cube, and its literals say which scenarios are in the space, so the leaf is right
pub returns-then-is_their_own : goal.returns-then-is_their_own
returns-then-is_their_own c =
    -- the cube that was looked up is the one at its place in the list
    let look = c.in-Some.ensures.lookup in
    let cubes : List (List Literal) = map (λ (b : Bor (List Literal)). b.now) c.args.cubes.now in
    let at = cube_here c.args.cubes.now c.args.slice.from c.in-Some.cube.now look.3.0 look.1 in
    finds_here cubes c.args.k c.args.space.now c.args.slice.from c.args.slice.to
    (within_lent c.args.cubes.now c.args.slice.from c.in-Some.cube.now look.3.0 look.1)
    (omega (arith, c.if-slice-eq1.true))
    (subst (IsOwn c.args.k c.args.space.now) (sym at)
    (subst (IsOwn c.args.k c.args.space.now) c.literals-literals.ensures.literals
    (from_true c.is_their_own.result c.if-is_their_own.true c.is_their_own.ensures)))

-- the slice has one cube, and its literals are those of the path, so the leaf is right
pub returns-then-are_same_literals : goal.returns-then-are_same_literals
returns-then-are_same_literals c =
    -- the cube that was looked up is the one at its place in the list
    let look = c.in-Some.ensures.lookup in
    let cubes : List (List Literal) = map (λ (b : Bor (List Literal)). b.now) c.args.cubes.now in
    let at = cube_here c.args.cubes.now c.args.slice.from c.in-Some.cube.now look.3.0 look.1 in
    finds_here cubes c.args.k c.args.space.now c.args.slice.from c.args.slice.to
    (within_lent c.args.cubes.now c.args.slice.from c.in-Some.cube.now look.3.0 look.1)
    (omega (arith, c.if-slice-eq1.true))
    (subst (IsOwn c.args.k c.args.space.now) (sym at)
    (subst (IsOwn c.args.k c.args.space.now) (from_true c.are_same_literals.result c.if-are_same_literals.true
    c.are_same_literals.ensures ∙ c.literals-literals.ensures.literals) c.requires.own))

-- the slice is empty, so a leaf without a place is right
pub returns-then-slice : goal.returns-then-slice
returns-then-slice c =
    finds_nowhere (map (λ (b : Bor (List Literal)). b.now) c.args.cubes.now) c.args.k c.args.space.now c.args.slice.from
    c.args.slice.to c.if-slice.true
