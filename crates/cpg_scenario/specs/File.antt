-- What the bytes of a scenario file say, for a graph: a scenario and the lengths of its executions, or the first cause
-- to reject them. A file has three tables, each with process names as keys; all of it may be left out.
use Rattle.std.specs.Prelude.{ℕ, ℤ, pos, negsuc, Bool, true, false, not, ◌&&◌, ◌||◌, nat_le, if◌then◌else◌, List, []}
use Rattle.std.specs.Prelude.{◌∷◌, Option, Some, None, Result, Ok, Err, is_some, unwrap_or, option_and_then, map}
use Rattle.std.specs.Prelude.{sum_by, codes, bytes_eq, ◌≡◌, ◌<◌, ◌≤◌, length, get_or}
use Rattle.std.specs.List.{list_any, list_all}
use Rattle.std.specs.Str.{is_utf8}
use Rattle.toml.specs.Data.{Data, Members, no_members, member, get_member, as_integer, as_bool, as_table}
use Rattle.toml.specs.Parse.{parse_document}
use Rattle.cpg_base.specs.Natural.{natural}
use Rattle.cpg_base.specs.Called.{name_of}
use Rattle.cpg_base.specs.Numbers.{numbers_below}
use Rattle.cpg_base.specs.Graph.{Graph, process_count, condition_count, condition_of, process_of}
use Rattle.cpg_base.specs.Duration.{duration}
use Rattle.cpg_base.specs.Scenario.{Scenario, IsScenario, fault_of}
use Rattle.cpg_scenario.specs.declared.fault.Cause.TheVariants.{Toml, Field, Unknown, Condition, Budget, Length}
use Rattle.cpg_scenario.specs.declared.fault.ScenarioFault.{ScenarioFault}
use Rattle.cpg_scenario.specs.declared.fault.ScenarioFault.TheVariants.{Bad}
use Rattle.cpg_scenario.specs.declared.reading.Played.{Played}

-- ---- fields

-- the keys that may stand at the top
abbrev pub top_keys : List (List ℕ)
top_keys = codes "faults" ∷ codes "values" ∷ codes "lengths" ∷ []

-- whether each key of a table is among these texts
abbrev pub are_among : List (List ℕ) → Members → Bool
are_among texts no_members = true
are_among texts (member text d ms) = list_any (bytes_eq text) texts && are_among texts ms

-- whether an entry is a boolean, if `flags` is true, or an integer, if it is false
abbrev pub is_typed : Bool → Data → Bool
is_typed flags d = if flags then is_some (as_bool d) else is_some (as_integer d)

-- whether all entries of a table have the type that `flags` says
abbrev pub are_typed : Bool → Members → Bool
are_typed flags no_members = true
are_typed flags (member text d ms) = is_typed flags d && are_typed flags ms

-- whether there is a table, and all its entries have the type that `flags` says
abbrev pub is_typed_table : Bool → Option Members → Bool
is_typed_table flags None = false
is_typed_table flags (Some ms) = are_typed flags ms

-- whether a key's value, if the key is there, is a table whose entries have the type that `flags` says
abbrev pub is_table_of : Bool → Option Data → Bool
is_table_of flags None = true
is_table_of flags (Some d) = is_typed_table flags (as_table d)

-- whether the top has no key but its three, and each that is there has a table with entries of its type
abbrev pub has_fields : Members → Bool
has_fields ms = are_among top_keys ms
    && is_table_of false (get_member (codes "faults") ms)
    && is_table_of true (get_member (codes "values") ms)
    && is_table_of false (get_member (codes "lengths") ms)

-- ---- names

-- the entry of a name in the table at a key, or `None` if the table or the entry isn't there
abbrev pub entry_at : Members → List ℕ → List ℕ → Option Data
entry_at ms key name = option_and_then (get_member name) (option_and_then as_table (get_member key ms))

-- the names of the processes
abbrev pub process_names : Graph → List (List ℕ)
process_names g = map (λ p. p.name) g.processes

-- whether all keys of a table are names of processes; without a table they are
abbrev pub are_named : Graph → Option Members → Bool
are_named g None = true
are_named g (Some ms) = are_among (process_names g) ms

-- whether all keys of the table at a key are names of processes; without one they are
abbrev pub names_at : Graph → Members → List ℕ → Bool
names_at g ms key = are_named g (option_and_then as_table (get_member key ms))

-- whether all keys of the three tables are names of processes
abbrev pub has_names : Graph → Members → Bool
has_names g ms = names_at g ms (codes "faults") && names_at g ms (codes "values") && names_at g ms (codes "lengths")

-- ---- values

-- the value that a process is given, if any
abbrev pub value_given : Graph → Members → ℕ → Option Bool
value_given g ms p = option_and_then as_bool (entry_at ms (codes "values") (name_of g p))

-- whether a process is given no value or has a condition
abbrev pub may_have_value : Graph → Members → ℕ → Bool
may_have_value g ms p = not (is_some (value_given g ms p)) || is_some (condition_of g p)

-- whether each process that is given a value has a condition
abbrev pub has_conditions : Graph → Members → Bool
has_conditions g ms = list_all (may_have_value g ms) (numbers_below (process_count g))

-- the value of each condition, false if its process is given none
abbrev pub values_of : Graph → Members → List Bool
values_of g ms = map (λ c. unwrap_or (value_given g ms (process_of g c)) false) (numbers_below (condition_count g))

-- ---- faults

-- whether a number is at least 0
abbrev pub is_natural : ℤ → Bool
is_natural (pos n) = true
is_natural (negsuc n) = false

-- the fault count that a process is given, or 0 if it is given none
abbrev pub count_given : Graph → Members → ℕ → ℤ
count_given g ms p = unwrap_or (option_and_then as_integer (entry_at ms (codes "faults") (name_of g p))) (pos 0)

-- the fault count of a process, or 0 if a number below 0 is given
abbrev pub count_of : Graph → Members → ℕ → ℕ
count_of g ms p = natural (count_given g ms p)

-- whether no count is below 0, and together they are no more than the graph allows
abbrev pub keeps_budget : Graph → Members → Bool
keeps_budget g ms = list_all (λ p.
    is_natural (count_given g ms p)) (numbers_below (process_count g))
    && nat_le (sum_by (count_of g ms) (numbers_below (process_count g))) g.faults

-- the scenario of a document: the values of its conditions and the fault counts of its processes
abbrev pub scenario_of : Graph → Members → Scenario
scenario_of g ms = record { values = values_of g ms; faults = map (count_of g ms) (numbers_below (process_count g)) }

-- ---- lengths

-- the length that the execution of a process is given, in time units, if any
abbrev pub length_given : Graph → Members → ℕ → Option ℤ
length_given g ms p = option_and_then as_integer (entry_at ms (codes "lengths") (name_of g p))

-- whether a number is a length: from 1 to `longest`
abbrev pub is_length : ℕ → ℤ → Bool
is_length longest (pos n) = nat_le 1 n && nat_le n longest
is_length longest (negsuc n) = false

-- whether no length is given, or one from 1 to `longest`
abbrev pub is_length_if : ℕ → Option ℤ → Bool
is_length_if longest None = true
is_length_if longest (Some n) = is_length longest n

-- whether each length that is given is from 1 to the duration of its process with its faults
abbrev pub keeps_lengths : Graph → Members → Bool
keeps_lengths g ms = list_all (λ p. is_length_if (duration g p (count_of g ms p)) (length_given g ms p))
    (numbers_below (process_count g))

-- the length that is given, or `longest` if none is
abbrev pub length_or : ℕ → Option ℤ → ℕ
length_or longest None = longest
length_or longest (Some n) = natural n

-- the length of each execution: the given one, or the duration with its faults
abbrev pub lengths_of : Graph → Members → List ℕ
lengths_of g ms =
    map (λ p. length_or (duration g p (count_of g ms p)) (length_given g ms p)) (numbers_below (process_count g))

-- ---- the file

-- what the reading of a file gives: a scenario with its lengths, or why there is none
abbrev pub Reading : Type 0
Reading = Result Played ScenarioFault

-- what a document gives; the whole of it is searched for each cause before the next one
abbrev pub played_of : Graph → Members → Reading
played_of g ms = if not (has_fields ms) then Err (Bad Field)
    else if not (has_names g ms) then Err (Bad Unknown)
    else if not (has_conditions g ms) then Err (Bad Condition)
    else if not (keeps_budget g ms) then Err (Bad Budget)
    else if not (keeps_lengths g ms) then Err (Bad Length)
    else Ok (record { scenario = scenario_of g ms; lengths = lengths_of g ms })

-- what bytes give for a graph, by the table that they spell, or the cause `Toml` if they spell no document
abbrev pub played_if : Graph → Option Members → Reading
played_if g None = Err (Bad Toml)
played_if g (Some ms) = played_of g ms

-- the scenario and the lengths that the bytes give, or the first cause to reject them
unfoldable pub file_of : Graph → List ℕ → Reading
file_of g bytes = played_if g (if is_utf8 bytes then parse_document bytes else None)

-- what can be played of the graph: a scenario, and a length for the execution of each process
pub record IsPlayed (g : Graph) (p : Played) : Type 0 where
  -- the scenario is one of the graph
  pub scenario : IsScenario g p.scenario
  -- each process has a length
  pub count : length p.lengths ≡ process_count g
  -- the length of process q is from 1 to its duration with its faults
  pub lengths : (q : ℕ) → q < process_count g →
      (1 ≤ get_or p.lengths q 0) × (get_or p.lengths q 0 ≤ duration g q (fault_of p.scenario q))
