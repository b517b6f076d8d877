-- Proof of `tree_of`, which returns the tree of a row's columns.
use Rattle.std.proofs.Common.{◌≡◌, ◌∙◌, Bor, List, map, arith, ap}
use Rattle.cpg_cube.specs.declared.literal.Literal.{Literal}
use Rattle.cpg_cube.specs.declared.column.Column.{Column}
use Rattle.cpg_row_trees.proofs.TreeLaws.{as_long, row_tree_of}
use Rattle.cpg_row_trees.proofs.trees.tree_of.Goals as goal

-- there are as many cubes as columns, which are few enough
pub of-requires : goal.of-requires
of-requires c =
    -- the cubes referred to are those of the columns
    let same : map (λ (b : Bor (List Literal)). b.now) c.as_slice.result.now
    ≡ map (λ (d : Column). d.cube) c.args.columns.now =
    ap (map (λ (b : Bor (List Literal)). b.now)) c.as_slice.ensures.value ∙ c.in_ok-cubes.ensures in
    omega (arith, c.requires, as_long c.as_slice.result.now c.args.columns.now same)

-- the cubes that are referred to are those of the columns, so their tree is that of the row
pub returns : goal.returns
returns c =
    -- the cubes referred to are those of the columns
    let same : map (λ (b : Bor (List Literal)). b.now) c.as_slice.result.now
    ≡ map (λ (d : Column). d.cube) c.args.columns.now =
    ap (map (λ (b : Bor (List Literal)). b.now)) c.as_slice.ensures.value ∙ c.in_ok-cubes.ensures in
    row_tree_of c.as_slice.result.now c.args.columns.now same c.args.problem.now c.faults.result c.in_ok-places.places
    c.faults.ensures.faults c.in_ok-places.ensures
