-- Proof of `variable_range`, which returns the range that literals leave a variable.
use Rattle.std.proofs.Common.{arith, false, true, sym, subst}
use Rattle.cpg_row_trees.specs.declared.places.VariableRange.{VariableRange}
use Rattle.cpg_row_trees.specs.PlaceHints.{IsVariableRange}
use Rattle.cpg_row_trees.proofs.PlaceHintLaws.{range_implied}
use Rattle.cpg_row_trees.proofs.places.variable_range.Goals as goal

-- the first literal is on the variable, and holds wherever all literals match
pub returns-in-Some : goal.returns-in-Some
returns-in-Some c =
    subst (λ (r : VariableRange). IsVariableRange c.args.literals.now c.args.variable r) (sym c.literal_range.ensures)
    (range_implied c.args.literals.now c.in-Some.first c.args.variable true c.in-Some.ensures.on
    c.in-Some.ensures.implied)

-- the literal found is on the variable, and holds wherever all literals match
pub returns-then-literal-variable : goal.returns-then-literal-variable
returns-then-literal-variable c = subst (λ (r : VariableRange). IsVariableRange c.args.literals.now c.args.variable r)
    (sym c.literal_range-then-literal-variable.ensures)
    (range_implied c.args.literals.now c.in-Some-literal_on.literal c.args.variable false c.if-literal-variable.true
    c.in-Some-literal_on.ensures)

-- the literal found is on another variable, so the range is that of all numbers
pub returns-else-literal-variable : goal.returns-else-literal-variable
returns-else-literal-variable c = record { low = λ s m. omega arith; high = λ s m below. absurd (omega (arith, below)) }

-- no literal has been found, so the range is that of all numbers
pub returns-in_default-literal_on : goal.returns-in_default-literal_on
returns-in_default-literal_on c = record { low = λ s m. omega arith; high = λ s m below. absurd (omega (arith, below)) }
