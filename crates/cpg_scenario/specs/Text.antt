-- The text of a scenario: its faults and its true values, process by process.
use Rattle.std.specs.Prelude.{ℕ, ◌==◌, if◌then◌else◌, Bool, true, false, List, [], ◌∷◌, ◌++◌, Option, Some, None, codes}
use Rattle.std.specs.Prelude.{get_or}
use Rattle.std.specs.List.{flat_map, join_by}
use Rattle.std.specs.Fmt.{decimal}
use Rattle.cpg_base.specs.Numbers.{numbers_below}
use Rattle.cpg_base.specs.Graph.{Graph, process_count, process_at, condition_of}
use Rattle.cpg_base.specs.Scenario.{Scenario, fault_of}

-- the piece for a process's faults, such as `A faults 1`, if it has any
abbrev pub fault_pieces : List ℕ → ℕ → List (List ℕ)
fault_pieces name faults = if faults == 0 then [] else (name ++ codes " faults " ++ decimal faults) ∷ []

-- the piece for a process's value, such as `A true`, if the value is true
abbrev pub value_pieces : List ℕ → Bool → List (List ℕ)
value_pieces name false = []
value_pieces name true = (name ++ codes " true") ∷ []

-- the value of a condition, or false if there is no condition
abbrev pub value_at : Scenario → Option ℕ → Bool
value_at s None = false
value_at s (Some c) = get_or s.values c false

-- the pieces for one process: at most one for its faults and one for its value
abbrev pub pieces_of : Graph → Scenario → ℕ → List (List ℕ)
pieces_of g s p = fault_pieces (process_at g p).name (fault_of s p)
    ++ value_pieces (process_at g p).name (value_at s (condition_of g p))

-- the pieces, separated by a comma and a space, or `none` if there are none
abbrev pub listed : List (List ℕ) → List ℕ
listed [] = codes "none"
listed (p ∷ ps) = join_by (λ x. x) (codes ", ") (p ∷ ps)

-- the pieces of all processes by number: first the faults of a process, then its value
abbrev pub scenario_text : Graph → Scenario → List ℕ
scenario_text g s = listed (flat_map (pieces_of g s) (numbers_below (process_count g)))
