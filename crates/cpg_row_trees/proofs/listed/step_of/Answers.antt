-- Proof of `step_of`, which returns what a literal of the first cube of a space says there.
use Rattle.std.proofs.Common.{arith, rules}
use Rattle.cpg_cube.proofs.CubeLows.{holds-from}
use Rattle.cpg_tree.proofs.Forks.{from_false}
use Rattle.cpg_row_trees.proofs.listed.step_of.Goals as goal

-- nothing of the space is above the literal's high and nothing below its low, so it holds there and lies inside
pub returns-then-literal-space-2 : goal.returns-then-literal-space-2
returns-then-literal-space-2 c =
    let literal = c.args.literal in
    let none = from_false c.is_open_above.result c.if-not-is_open_above.true c.is_open_above.ensures.none in (
      λ s lies.
          holds-from s literal (omega (
            arith,
            c.if-literal-space.false,
            lies.low literal.variable (search rules),
          )) (none s lies),
      record { low = omega (arith, c.if-literal-space.false); high = omega (arith, c.if-literal-space-2.true) },
    )
