-- How the tree of a process is composed from the trees of the sources of its inputs.
use Rattle.std.specs.Prelude.{ℕ, Bool, not, ◌==◌, nat_lt, if◌then◌else◌, List, [], ◌∷◌, Option, Some, None, get_or}
use Rattle.std.specs.Prelude.{slice_set}
use Rattle.cpg_base.specs.declared.activation.Activation.{Activation}
use Rattle.cpg_base.specs.declared.activation.Activation.TheVariants.{Inactive, Plain, By}
use Rattle.cpg_base.specs.Activity.{is_active}
use Rattle.cpg_base.specs.Graph.{Graph, condition_of}
use Rattle.cpg_order.specs.Guard.{Guard, Leaf, Test}
use Rattle.cpg_rules.specs.declared.steps.Input.{Input}
use Rattle.cpg_rules.specs.declared.edges.ValueTest.{ValueTest}
use Rattle.cpg_rules.specs.Guards.{test_of}
use Rattle.cpg_rules.specs.Trees.{tested}
use Rattle.cpg_rules.specs.Steps.{ActivationStep}

-- the rank of a condition: the place of its process in the urgency order, 0 if the condition has none
abbrev pub rank : List ℕ → ℕ → ℕ
rank ranks c = get_or ranks c 0

-- the tree of one test: the activation if it passes, and inactive if it doesn't; without a test, the activation alone
abbrev pub passing : Activation → Option ValueTest → Guard
passing a None = Leaf a
passing a (Some t) = if t.value then tested t.condition (Leaf Inactive) (Leaf a)
    else tested t.condition (Leaf a) (Leaf Inactive)

-- the tree of a source with each active leaf replaced by that of the test: the activation in the outcomes in which the
-- source is active and the test passes
abbrev pub live_tree : Activation → Option ValueTest → Guard → Guard
live_tree a x (Leaf b) = if is_active b then passing a x else Leaf Inactive
live_tree a x (Test c off on) = tested c (live_tree a x off) (live_tree a x on)

-- whether an input settles how the process is active: a live one of a join, or one of another process that isn't live
abbrev pub settles : Bool → Activation → Bool
settles join a = if join then is_active a else not (is_active a)

-- A test of condition c meets a second tree. `off` and `on` say what the test's two sides make of a tree; the answer is
-- the tree that tests c and goes on with what they make of the part of the second tree that fits.
abbrev pub against : List ℕ → ℕ → (Guard → Guard) → (Guard → Guard) → Guard → Guard
against ranks c off on (Leaf b) = tested c (off (Leaf b)) (on (Leaf b))
against ranks c off on (Test d low high) =
    -- Both test the same condition: side meets side. If the second tree tests an earlier condition, this test comes first.
    -- Otherwise the test of c does, and both sides meet the whole second tree.
    if c == d
    then tested c (off low) (on high)
    else (if nat_lt (rank ranks d) (rank ranks c)
    then tested d (against ranks c off on low) (against ranks c off on high)
    else tested c (off (Test d low high)) (on (Test d low high)))

-- the tree that has the leaf of the first tree in the outcomes in which this leaf settles how the process is active, and
-- otherwise the leaf of the second
abbrev pub met : Bool → List ℕ → Guard → Guard → Guard
met join ranks (Leaf a) t = if settles join a then Leaf a else t
met join ranks (Test c off on) t = against ranks c (met join ranks off) (met join ranks on) t

-- how a process is active by a live input with this edge: a join by that edge, any other process plainly
abbrev pub by_input : Bool → ℕ → Activation
by_input join e = if join then By e else Plain

-- the tree of one input of a join (`join`) or of any other process: active in exactly the outcomes in which it is live
abbrev pub input_tree : Graph → Bool → List Guard → Input → Guard
input_tree g join trees i =
    live_tree (by_input join i.edge) (test_of (condition_of g i.source) i.when) (get_or trees i.source (Leaf Inactive))

-- the tree of some inputs, from the tree of the first and that of the later ones; the last input has no later ones
abbrev pub with_later : Bool → List ℕ → List Input → Guard → Guard → Guard
with_later join ranks [] first later = first
with_later join ranks (i ∷ is) first later = met join ranks first later

-- the tree of a process with these inputs; without inputs it is active in every outcome
abbrev pub composed : Graph → Bool → List ℕ → List Guard → List Input → Guard
composed g join ranks trees [] = Leaf Plain
composed g join ranks trees (i ∷ is) =
    with_later join ranks is (input_tree g join trees i) (composed g join ranks trees is)

-- the trees by process after the steps: each step's tree comes from those of its sources and is put at its process
abbrev pub composed_along : Graph → List ℕ → List ActivationStep → List Guard → List Guard
composed_along g ranks [] trees = trees
composed_along g ranks (step ∷ steps) trees =
    composed_along g ranks steps (slice_set trees step.process (composed g step.join ranks trees step.inputs))
