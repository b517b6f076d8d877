-- Proof of `extent_of`: which scenarios of a space a cube with these literals matches.
use Rattle.std.proofs.Common.{rules, ◌≡◌, arith, subst, None, List, get_or, true}
use Rattle.std.proofs.lemmas.List.{take_all}
use Rattle.cpg_base.specs.Scenario.{Scenario}
use Rattle.cpg_cube.specs.Cube.{holds, matches}
use Rattle.cpg_cube.specs.declared.literal.Literal.{Literal}
use Rattle.cpg_tree.specs.Space.{IsInSpace}
use Rattle.cpg_tree.proofs.Holding.{unmatched}
use Rattle.cpg_audit.proofs.NarrowingLaws.{first_open, none_with_told, some_with_told}
use Rattle.cpg_audit.proofs.narrowing.extent_of.Goals as goal
use Rattle.cpg_audit.proofs.narrowing.extent_of.Goals.{then-not-implies+else-is_apart+else-is_some, else-not-implies}

-- the default of `get_or`, which is never reached
abbrev blank : Literal
blank = record { variable = 0; low = 0; high = 0 }

-- the next literal holds in the whole space, or is the first that may not hold
pub loop-literal-preserved : goal.loop-literal-preserved
loop-literal-preserved c =
    let inv = c.loop-literal.invariant in
    elim c.if-not-implies.branch [
      -- the literal may fail somewhere in the space, and is the first such
      | then-not-implies+else-is_apart+else-is_some w ↦
          let none : c.loop-literal.open ≡ None = search rules in
          rw w.open-is (record {
            none = tt;
            some = first_open c.args.space.now c.args.literals.now c.loop-literal.literal-index blank
                (omega arith) c.loop-literal.open none inv.none;
          })
      -- the literal holds in the whole space
      | else-not-implies w ↦
          let told : (s : Scenario) → IsInSpace c.args.space.now s →
          holds s (get_or c.args.literals.now c.loop-literal.literal-index blank) ≡ true = search rules in
          rw w.open-is (record {
            none = none_with_told c.args.space.now c.args.literals.now c.loop-literal.literal-index blank
                (omega arith) told c.loop-literal.open inv.none;
            some = some_with_told c.args.space.now c.args.literals.now c.loop-literal.literal-index blank
                (omega arith) told c.loop-literal.open inv.some;
          })
    ]

-- this literal holds nowhere in the space, so the cube matches nowhere there
pub returns-then-is_apart : goal.returns-then-is_apart
returns-then-is_apart c s lies =
    unmatched s c.args.literals.now c.loop-literal.literal-index blank (omega arith) (search rules)

-- all literals are gone over, so the cube matches in the space exactly where the open one holds
pub returns-in-Some : goal.returns-in-Some
returns-in-Some c = subst
    (λ (ls : List Literal). (s : Scenario) → IsInSpace c.args.space.now s → matches ls s ≡ holds s c.in-Some.literal)
    (take_all c.loop-literal.literal-index c.args.literals.now (omega arith))
    (rw c.in-Some.is at c.loop-literal.invariant.some)
