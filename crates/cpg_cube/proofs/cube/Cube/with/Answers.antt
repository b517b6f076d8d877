-- Proof of `Cube::with`, which returns the cube that matches the scenarios that this one matches and in which the
-- literal holds; `None` exactly if that leaves the literal's variable no number.
use Rattle.std.proofs.Common.{rules, ◌≡◌, None}
use Rattle.cpg_cube.specs.Narrow.{with_literal}
use Rattle.cpg_cube.proofs.Narrow.{with-none, matches-narrowed}
use Rattle.cpg_cube.proofs.cube.Cube.with.Goals as goal

-- the range left is empty, so no scenario matches the cube and the literal
pub returns-then-left-clause-none : goal.returns-then-left-clause-none
returns-then-left-clause-none c s =
    let none_left : with_literal c.args.literal c.args.self.now ≡ None = search rules in
    with-none s c.args.literal c.args.self.now none_left

-- the new cube matches where the old one does and the literal holds
pub returns-clause-both : goal.returns-clause-both
returns-clause-both c s = rw c.in_ok-cube.ensures (matches-narrowed s c.args.literal c.args.self.now)
