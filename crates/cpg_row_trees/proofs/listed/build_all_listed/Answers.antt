-- Proof of `build_all_listed`, which adds the tree of all cubes for all scenarios of at most `k` faults, and returns
-- whether there is one.
use Rattle.std.proofs.Common.{ℕ, arith, map, take, Bor, List, ◌∙◌, sym, subst}
use Rattle.cpg_cube.specs.declared.literal.Literal.{Literal}
use Rattle.cpg_row_trees.specs.Listed.{IsOwnOn}
use Rattle.cpg_row_trees.specs.Slices.{AddsSliceTree}
use Rattle.cpg_row_trees.proofs.PlaceHintLaws.{cube_here}
use Rattle.cpg_row_trees.proofs.ListedLaws.{at_some}
use Rattle.cpg_row_trees.proofs.listed.build_all_listed.Goals as goal

-- the cut that the first cube gives is open, and its first literals and the variable's range say which scenarios are in
-- the space
pub build_listed_fork-requires : goal.build_listed_fork-requires
build_listed_fork-requires c =
    -- the cube that was looked up is the one at its place in the list
    let look = c.in-Some.ensures.lookup in
    let at = cube_here c.args.cubes.now 0 c.in-Some.first.now look.3.0 look.1 in
    record {
      «open» = c.in-Fork.ensures.0;
      ranges = c.requires.ranges;
      own = subst (λ (ls : List Literal).
          IsOwnOn c.args.k c.args.space.now (take c.in-Fork.part.depth ls) c.in-Fork.part.cut.variable)
          (c.literals-literals.ensures.literals ∙ sym at) c.in-Fork.ensures.1;
    }

-- the tree ends at the last cube, so it is the tree of all cubes
pub returns : goal.returns
returns c =
    let cubes : List (List Literal) = map (λ (b : Bor (List Literal)). b.now) c.args.cubes.now in
    let adds =
    λ (n : ℕ). AddsSliceTree cubes c.args.k c.args.space.now 0 n c.args.growth.now c.build_listed_fork.new.growth in
    subst adds (omega (arith, c.if-end-count.false))
    (at_some adds c.in_ok-all.all c.in-Some-all.to c.in-Some-all.is c.in_ok-all.ensures.added)
