-- Proof of `take_cube`, which returns the cube of the first `count` literals of `bytes`, all lawful, and the bytes
-- after them.
use Rattle.std.proofs.Common.{◌≡◌, ◌++◌, All, take, sym, subst, rules}
use Rattle.std.proofs.lemmas.List.Elements.{All-append, All-take}
use Rattle.cpg_cube.specs.Cube.{IsRising}
use Rattle.cpg_cube.proofs.Joined.{rising_behind}
use Rattle.cpg_table.specs.Lawful.{IsLawfulLiteral}
use Rattle.cpg_codec.proofs.row_taking.take_cube.Goals as goal

-- the cube was made, so its variables rise; those held are its last ones
pub are_lawful-requires-clause-rising : goal.are_lawful-requires-clause-rising
are_lawful-requires-clause-rising c =
    let front = take c.skip_same-same.result.0 c.args.previous.now in
    let all : IsRising (front ++ c.as_slice.result.now) = search rules in
    let same : c.as_slice.result.now ≡ c.as_slice-2.result.now = search rules in
    subst IsRising same (rising_behind front c.as_slice.result.now all)

-- the cube has literals of the column before, which are lawful, and those held, which were tested
pub returns-clause-lawful : goal.returns-clause-lawful
returns-clause-lawful c =
    let P = IsLawfulLiteral c.args.space.now in
    let front = take c.skip_same-same.result.0 c.args.previous.now in
    let is : c.in-Some.cube ≡ front ++ c.as_slice.result.now = search rules in
    let same : c.as_slice.result.now ≡ c.as_slice-2.result.now = search rules in
    let held : All P c.as_slice-2.result.now = c.if-not-are_lawful.ensures in
    subst (All P) (sym is) (All-append P front c.as_slice.result.now
    (All-take P c.skip_same-same.result.0 c.args.previous.now c.requires.lawful) (subst (All P) (sym same) held))
