-- What a list of cubes leaves of a cube: the scenarios that the cube matches and none of the list does, and the least
-- of them. To find it, the cube is split by the literals of the list's cubes.
use Rattle.std.specs.Prelude.{ℕ, ◌+◌, ◌-◌, Bool, not, ◌&&◌, nat_lt, if◌then◌else◌, List, [], ◌∷◌, ◌++◌, Option, None}
use Rattle.std.specs.Prelude.{Some}
use Rattle.std.specs.List.{list_any}
use Rattle.cpg_base.specs.Graph.{Graph}
use Rattle.cpg_base.specs.Scenario.{Scenario}
use Rattle.cpg_base.specs.First.{first_of}
use Rattle.cpg_cube.specs.Cube.{matches}
use Rattle.cpg_cube.specs.declared.literal.Literal.{Literal}
use Rattle.cpg_base.specs.Variable.{top}
use Rattle.cpg_cube.specs.Fit.{is_met, lows}
use Rattle.cpg_cube.specs.Narrow.{narrowed_by}

-- whether the cube matches s, and no cube of the list does
abbrev pub is_left : List (List Literal) → List Literal → Scenario → Bool
is_left by cube s = matches cube s && not (list_any (λ b. matches b s) by)

-- The search.

-- the part of a cube below a literal's range, as a list of one cube; empty if the range begins at 0
abbrev pub part_below : Literal → List Literal → List (List Literal)
part_below l cube = if nat_lt 0 l.low
    then narrowed_by (record { variable = l.variable; low = 0; high = l.low - 1 }) cube ∷ [] else []

-- the part of a cube above a literal's range, as a list of one cube; empty if the range reaches the most that its
-- variable can be with k faults
abbrev pub part_above : ℕ → Literal → List Literal → List (List Literal)
part_above k l cube = if nat_lt l.high (top k l.variable)
    then narrowed_by (record { variable = l.variable; low = l.high + 1; high = top k l.variable }) cube ∷ [] else []

-- The parts of a cube in which another cube's literals don't all hold: for each literal the parts below and above its
-- range, in which the literals before it do hold.
abbrev pub parts_outside : ℕ → List Literal → List Literal → List (List Literal)
parts_outside k [] cube = []
parts_outside k (l ∷ ls) cube = part_below l cube ++ part_above k l cube ++ parts_outside k ls (narrowed_by l cube)

-- The least scenario that a list of cubes leaves of a cube, or None if it leaves none. An empty list leaves the cube's
-- lows. Otherwise it is the least that the other cubes leave of the parts outside the first one.
abbrev pub uncovered : Graph → List ℕ → List (List Literal) → List Literal → Option Scenario
uncovered g order [] cube = if is_met g.faults cube then Some (lows g cube) else None
uncovered g order (b ∷ bs) cube = if is_met g.faults cube
    then first_of g order (uncovered g order bs) (parts_outside g.faults b cube) else None
