-- One pass finds whether variables rise.
use Rattle.std.proofs.Common.{ℕ, ◌+◌, ◌<◌, ◌≤◌, ◌≡◌, true, List, [], ◌∷◌, Contains, arith, refl, ⊎_elim, le-leb}
use Rattle.std.proofs.Common.{leb-true}
use Rattle.std.specs.Prelude.{nat_le}
use Rattle.std.proofs.lemmas.Bool.{and_parts, and_from}
use Rattle.cpg_base.proofs.Lists.{Contains-first, Contains-cases, Contains-nil}
use Rattle.cpg_base.proofs.Pairs.{AllPairs-nil, AllPairs-cons_by}
use Rattle.cpg_cube.specs.Cube.{Literal, IsRising}
use Rattle.cpg_cube.specs.Rising.{rises_from}
use Rattle.cpg_cube.proofs.Ranges.{rising_rest, rising_first}

-- if the variables rise from a least one on, none is below it
from_least : (least : ℕ) (ls : List Literal) → rises_from least ls ≡ true → (m : Literal) → Contains ls m →
    least ≤ m.variable
-- by induction on the literals
from_least least [] passes m member = absurd (Contains-nil m member)
from_least least (l ∷ ls) passes m member =
    let tests = and_parts (nat_le least l.variable) (rises_from (l.variable + 1) ls) passes in
    let first_from = leb-true least l.variable tests.0 in
    ⊎_elim
    -- m is the first literal, which isn't below the least
    (λ (is_first : l ≡ m). let same : l.variable ≡ m.variable = rw is_first refl in omega arith)
    -- m is one of the rest, which rise from above the first
    (λ (in_rest : Contains ls m). let above = from_least (l.variable + 1) ls tests.1 m in_rest in omega arith)
    (Contains-cases l ls m member)

-- if the pass says that the variables rise, they do
pub rising_from : (least : ℕ) (ls : List Literal) → rises_from least ls ≡ true → IsRising ls
-- by induction on the literals
rising_from least [] passes = AllPairs-nil (λ l m. l.variable < m.variable)
rising_from least (l ∷ ls) passes =
    let tests = and_parts (nat_le least l.variable) (rises_from (l.variable + 1) ls) passes in
    AllPairs-cons_by (λ l m. l.variable < m.variable) l ls
    (λ m member. let above = from_least (l.variable + 1) ls tests.1 m member in
    omega arith) (rising_from (l.variable + 1) ls tests.1)

-- if the variables rise, and none is below `least`, the pass from `least` on says so
pub rises_by : (least : ℕ) (ls : List Literal) → IsRising ls → ((l : Literal) → Contains ls l → least ≤ l.variable) →
    rises_from least ls ≡ true
-- by induction on the literals
rises_by least [] rises none_below = refl
rises_by least (l ∷ ls) rises none_below = and_from (nat_le least l.variable) (rises_from (l.variable + 1) ls)
    (le-leb least l.variable (none_below l (Contains-first l ls)))
    (rises_by (l.variable + 1) ls (rising_rest l ls rises)
    (λ m member. let above = rising_first l m ls rises member in omega arith))
