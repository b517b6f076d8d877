-- Trees that are made down the guards of processes (docs/MODEL.md has the words): where a process is active, what its
-- node has heard, and its starts. A guard leads on its way through tests of conditions to an activation.
use Rattle.std.specs.Prelude.{ℕ, ◌<◌, ◌≤◌, ◌≡◌, ◌==◌, max, Bool, false, true, List, [], ◌∷◌, ◌++◌, Option, Some, None}
use Rattle.std.specs.Prelude.{map, if◌then◌else◌, Contains, get_or}
use Rattle.std.specs.List.{flat_map, list_any}
use Rattle.cpg_base.specs.Numbers.{greatest}
use Rattle.cpg_base.specs.Graph.{Graph, is_message, value_variable}
use Rattle.cpg_base.specs.Activity.{is_active}
use Rattle.cpg_base.specs.declared.activation.Activation.{Activation}
use Rattle.cpg_base.specs.declared.activation.Activation.TheVariants.{Inactive, Plain, By}
use Rattle.cpg_order.specs.Guard.{Guard, Leaf, Test, outcome_at, way}
use Rattle.cpg_base.specs.Scenario.{Scenario}
use Rattle.cpg_cube.specs.declared.literal.Literal.{Literal}
use Rattle.cpg_run.specs.Carried.{number_known}
use Rattle.cpg_tree.specs.Space.{HasAtMostFaults}
use Rattle.cpg_tree.specs.Tree.{TreeState}
use Rattle.cpg_expand.specs.Agreeing.{HasValueFrom}
use Rattle.cpg_expand.specs.Forest.{ForestState, heard_tree, heard_delay, input_tree, input_delay}
use Rattle.cpg_tree.specs.Later.{time_later}

-- the literal that says a condition's value in a scenario
abbrev pub value_known : Scenario → ℕ → Literal
value_known s c = number_known s (value_variable c)

-- the literals that say the values of these conditions
abbrev pub values_known : Scenario → List ℕ → List Literal
values_known s cs = map (value_known s) cs

-- in each scenario of at most k faults, t has the value of `high` if condition c is true there, and of `low` if it is
-- false; its path follows from the value of c and the literals of that tree
abbrev pub PicksByValue : {T : Type 0} → ℕ → ℕ → TreeState T → TreeState T → TreeState T → Type 0
PicksByValue {T} k c high low t = (s : Scenario) → HasAtMostFaults k s → (literals : List Literal) (x : T) →
    HasValueFrom s literals x (if get_or s.values c false then high else low) →
    HasValueFrom s (value_known s c ∷ literals) x t

-- t is true where the guard leads to an active leaf, and false elsewhere
abbrev pub IsActiveTree : ℕ → Guard → TreeState Bool → Type 0
IsActiveTree k guard t = (s : Scenario) → HasAtMostFaults k s →
    HasValueFrom s (values_known s (way guard s.values)) (is_active (outcome_at guard s.values)) t

-- whether a guard tests a condition on an outcome's way
abbrev pub is_tested : Guard → List Bool → ℕ → Bool
is_tested guard o c = list_any (λ d. d == c) (way guard o)

-- t is true where the guard tests the condition c on the way of the scenario, and false elsewhere
abbrev pub IsTestedOn : ℕ → Guard → ℕ → TreeState Bool → Type 0
IsTestedOn k guard c t = (s : Scenario) → HasAtMostFaults k s →
    HasValueFrom s (values_known s (way guard s.values)) (is_tested guard s.values c) t

-- for each of the conditions, the literals by which it is heard (`support c`) and that of its value
abbrev pub support_of : Scenario → (ℕ → List Literal) → List ℕ → List Literal
support_of s support cs = flat_map (λ c. support c ++ value_known s c ∷ []) cs

-- when the last of the things xs is there: each x of them is there `delay x` after `time x`, and one without a time is
-- there at 0
abbrev pub latest_of : (ℕ → ℕ) → (ℕ → Option ℕ) → List ℕ → ℕ
latest_of delay time xs = greatest (map (λ x. time_later (delay x) (time x)) xs)

-- t says when the node has heard all conditions that the guard tests on a scenario's way. It hears condition c when the
-- delay of c has passed since `time c`, which is known by the literals `support c`.
abbrev pub IsHeardTree : Graph → ForestState → ℕ → Guard → TreeState ℕ → Type 0
IsHeardTree g f node guard t =
    (s : Scenario) → HasAtMostFaults g.faults s → (support : ℕ → List Literal) (time : ℕ → Option ℕ) →
    ((c : ℕ) → Contains (way guard s.values) c → HasValueFrom s (support c) (time c) (heard_tree g f node c)) →
    HasValueFrom s (support_of s support (way guard s.values))
    (latest_of (heard_delay g node) time (way guard s.values)) t

-- those of the inputs `edges` that are no messages, so come from the node itself, are there by `ready`; e is there at
-- `time e`
abbrev pub AreOwnInputsThere : Graph → (ℕ → Option ℕ) → ℕ → List ℕ → Type 0
AreOwnInputsThere g time ready edges =
    (e : ℕ) → Contains edges e → is_message g e ≡ false → time_later 0 (time e) ≤ ready

-- In scenario s, t has the start after the wait, the release and the arrival of the inputs `edges`. The tree `wait`
-- says when the node is ready, which is x, by the literals `base`; input e follows `time e`, by the literals
-- `support e`. The path of t follows from the literals `chosen_by`, those of the wait and those of the inputs.
abbrev pub StartsAfter : Graph → ForestState → Scenario → List Literal → TreeState ℕ → ℕ → List ℕ →
    TreeState (Option ℕ) → Type 0
StartsAfter g f s chosen_by wait release edges t =
    (base : List Literal) (x : ℕ) → HasValueFrom s base x wait → (support : ℕ → List Literal) (time : ℕ → Option ℕ) →
    AreOwnInputsThere g time x edges →
    ((e : ℕ) → Contains edges e → HasValueFrom s (support e) (time e) (input_tree g f e)) →
    HasValueFrom s (chosen_by ++ (base ++ flat_map support edges))
    (Some (max (max x release) (latest_of (input_delay g) time edges))) t

-- in each scenario, t has the start after the wait, the release and the arrival of the inputs `edges`, and no literals
-- but those of the wait and of the inputs are needed for it
abbrev pub IsStartAfter : Graph → ForestState → TreeState ℕ → ℕ → List ℕ → TreeState (Option ℕ) → Type 0
IsStartAfter g f wait release edges t =
    (s : Scenario) → HasAtMostFaults g.faults s → StartsAfter g f s [] wait release edges t

-- t has the starts after the wait, the release and the arrival of the inputs `edges` where the chooser is true, and no
-- start where it is false
pub record IsStartWhere (g : Graph) (f : ForestState) (chooser : TreeState Bool) (wait : TreeState ℕ) (release : ℕ)
    (edges : List ℕ)
    (t : TreeState (Option ℕ)) : Type 0 where
  -- where the chooser is true, a start, which is known by the literals of that (`chosen_by`), the wait and the inputs
  pub on : (s : Scenario) → HasAtMostFaults g.faults s → (chosen_by : List Literal) → HasValueFrom s chosen_by true chooser →
      StartsAfter g f s chosen_by wait release edges t
  -- where it is false, no start
  pub off : (s : Scenario) → HasAtMostFaults g.faults s → (chosen_by : List Literal) → HasValueFrom s chosen_by false chooser →
      HasValueFrom s chosen_by None t

-- those of the inputs that a process with this activation waits for: none, all, or the one that the activation names
abbrev pub awaited : List ℕ → Activation → List ℕ
awaited inputs Inactive = []
awaited inputs Plain = inputs
awaited inputs (By e) = e ∷ []

-- the literals by which a process with activation a starts: those of the wait (`base`) and of each awaited input e
-- (`support e`), or none if it is inactive
abbrev pub start_literals : List Literal → (ℕ → List Literal) → List ℕ → Activation → List Literal
start_literals base support inputs a = if is_active a then base ++ flat_map support (awaited inputs a) else []

-- the start of a process with activation a: the latest of the wait, the release and the awaited inputs, each e of which
-- is there `delay e` after `time e`; or none if the process is inactive
abbrev pub start_at : ℕ → ℕ → (ℕ → ℕ) → (ℕ → Option ℕ) → List ℕ → Activation → Option ℕ
start_at wait release delay time inputs a = if is_active a
    then Some (max (max wait release) (latest_of delay time (awaited inputs a))) else None

-- t has the starts of a process with activation a, which waits for `wait`, its release and the inputs that a awaits. By
-- the literals `base` the wait is over at x; by the literals `support e` input e follows `time e`.
abbrev pub IsStartBy : Graph → ForestState → TreeState ℕ → ℕ → List ℕ → Activation → TreeState (Option ℕ) → Type 0
IsStartBy g f wait release inputs a t =
    (s : Scenario) → HasAtMostFaults g.faults s → (base : List Literal) (x : ℕ) → HasValueFrom s base x wait →
    (support : ℕ → List Literal) (time : ℕ → Option ℕ) → AreOwnInputsThere g time x (awaited inputs a) →
    ((e : ℕ) → Contains (awaited inputs a) e → HasValueFrom s (support e) (time e) (input_tree g f e)) →
    HasValueFrom s (start_literals base support inputs a) (start_at x release (input_delay g) time inputs a) t

-- t has the starts of a process with this guard: the literals are those of the guard's way and, if the process is
-- active, those of what it waits for. `base`, `x`, `support` and `time` are as in `IsStartBy`.
abbrev pub IsStartTree : Graph → ForestState → TreeState ℕ → ℕ → List ℕ → Guard → TreeState (Option ℕ) → Type 0
IsStartTree g f wait release inputs guard t =
    (s : Scenario) → HasAtMostFaults g.faults s → (base : List Literal) (x : ℕ) → HasValueFrom s base x wait →
    (support : ℕ → List Literal) (time : ℕ → Option ℕ) →
    AreOwnInputsThere g time x (awaited inputs (outcome_at guard s.values)) →
    ((e : ℕ) → Contains (awaited inputs (outcome_at guard s.values)) e →
    HasValueFrom s (support e) (time e) (input_tree g f e)) →
    HasValueFrom s
    (values_known s (way guard s.values) ++ start_literals base support inputs (outcome_at guard s.values))
    (start_at x release (input_delay g) time inputs (outcome_at guard s.values)) t

-- the activation waits for all inputs or is inactive: it names no input
abbrev pub WaitsForAll : Activation → Type 0
WaitsForAll Inactive = Unit {0}
WaitsForAll Plain = Unit {0}
WaitsForAll (By e) = ⊥

-- if the activation names an input, its number is below n
abbrev pub IsByBelow : ℕ → Activation → Type 0
IsByBelow n Inactive = Unit {0}
IsByBelow n Plain = Unit {0}
IsByBelow n (By e) = e < n

-- if the activation of a leaf names an input, its number is below n
abbrev pub LeadsBelow : ℕ → Guard → Type 0
LeadsBelow n (Leaf a) = IsByBelow n a
LeadsBelow n (Test c off on) = LeadsBelow n off × LeadsBelow n on
