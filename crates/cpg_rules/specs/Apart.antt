-- Whether some outcome makes two inputs of a join live, by the inputs' trees.
use Rattle.std.specs.Prelude.{ℕ, Bool, true, false, not, ◌&&◌, ◌||◌, ◌==◌, nat_lt, if◌then◌else◌, List, [], ◌∷◌, Option}
use Rattle.std.specs.Prelude.{Some, None}
use Rattle.cpg_base.specs.declared.activation.Activation.TheVariants.{Inactive}
use Rattle.cpg_base.specs.Activity.{is_active}
use Rattle.cpg_base.specs.Graph.{Graph}
use Rattle.cpg_order.specs.Guard.{Guard, Leaf, Test}
use Rattle.cpg_rules.specs.declared.steps.Input.{Input}
use Rattle.cpg_rules.specs.Composing.{rank, input_tree, met}

-- whether some leaf of a tree is active
abbrev pub is_live_somewhere : Guard → Bool
is_live_somewhere (Leaf a) = is_active a
is_live_somewhere (Test c off on) = is_live_somewhere off || is_live_somewhere on

-- A test of condition c meets a second tree. `off` and `on` are the questions of the test's two sides to a tree; the
-- answer is whether one of them says yes to the part of the second tree that fits it.
abbrev pub beside : List ℕ → ℕ → (Guard → Bool) → (Guard → Bool) → Guard → Bool
beside ranks c off on (Leaf b) = is_active b && (off (Leaf b) || on (Leaf b))
beside ranks c off on (Test d low high) =
    -- Both test the same condition: each side is asked about its own side of the second tree. If the second tree tests an
    -- earlier condition, both its sides are looked at. Otherwise both questions go to the whole second tree.
    if c == d
    then off low || on high
    else (if nat_lt (rank ranks d) (rank ranks c)
    then beside ranks c off on low || beside ranks c off on high
    else off (Test d low high) || on (Test d low high))

-- whether some outcome leads to active leaves in both trees
abbrev pub are_both_live : List ℕ → Guard → Guard → Bool
are_both_live ranks (Leaf a) t = is_active a && is_live_somewhere t
are_both_live ranks (Test c off on) t = beside ranks c (are_both_live ranks off) (are_both_live ranks on) t

-- the tree of some inputs, from that of the first and that of the later ones (None if two of these are live at once):
-- None if the first is live at once with one of the later
abbrev pub union_with : List ℕ → List Input → Guard → Option Guard → Option Guard
union_with ranks [] first later = Some first
union_with ranks (i ∷ is) first None = None
union_with ranks (i ∷ is) first (Some later) = if are_both_live ranks first later then None
    else Some (met true ranks first later)

-- the tree of a join with these inputs, and None if two of them are live at once in some outcome
abbrev pub union : Graph → List ℕ → List Guard → List Input → Option Guard
union g ranks trees [] = Some (Leaf Inactive)
union g ranks trees (i ∷ is) = union_with ranks is (input_tree g true trees i) (union g ranks trees is)

-- whether the first input is never live at once with a later one, by its tree and that of the later ones; false if two
-- of these are live at once
abbrev pub is_apart : List ℕ → Guard → Option Guard → Bool
is_apart ranks first None = false
is_apart ranks first (Some later) = not (are_both_live ranks first later)

-- whether no outcome makes two of these inputs of a join live
abbrev pub are_apart : Graph → List ℕ → List Guard → List Input → Bool
are_apart g ranks trees [] = true
are_apart g ranks trees (i ∷ is) = is_apart ranks (input_tree g true trees i) (union g ranks trees is)
