-- What can be wrong with a scenario file, cause by cause, and which of the causes is reported.
use Rattle.std.specs.Prelude.{ℕ, ℤ, pos, negsuc, ◌≡◌, ◌<◌, ◌⊎◌, ◌↔◌, ⊤, Bool, true, false, if◌then◌else◌, List}
use Rattle.std.specs.Prelude.{Contains, Option, Some, None, IsSomeAnd, Ok, Err, option_and_then, sum_by, codes}
use Rattle.std.specs.Str.{is_utf8}
use Rattle.toml.specs.Data.{Data, Members, no_members, member, table, get_member, as_table}
use Rattle.toml.specs.Parse.{parse_document}
use Rattle.cpg_base.specs.Numbers.{numbers_below}
use Rattle.cpg_base.specs.Graph.{Graph, process_count, condition_of}
use Rattle.cpg_base.specs.Duration.{duration}
use Rattle.cpg_scenario.specs.declared.fault.Cause.{Cause}
use Rattle.cpg_scenario.specs.declared.fault.Cause.TheVariants.{Toml, Field, Unknown, Condition, Budget, Length}
use Rattle.cpg_scenario.specs.declared.fault.ScenarioFault.TheVariants.{Bad}
use Rattle.cpg_scenario.specs.declared.reading.Played.{Played}
use Rattle.cpg_scenario.specs.File.{top_keys, is_typed, process_names, value_given, count_given, count_of, length_given}
use Rattle.cpg_scenario.specs.File.{file_of}

-- the TOML document that the bytes spell, or `None` if they aren't UTF-8 or spell none
abbrev pub document_of : List ℕ → Option Members
document_of bytes = if is_utf8 bytes then parse_document bytes else None

-- the table has this entry: the value d at the key
abbrev pub Stands : Members → List ℕ → Data → Type 0
Stands no_members key d = ⊥
Stands (member text e ms) key d = ((key ≡ text) × (d ≡ e)) ⊎ Stands ms key d

-- the table has an entry for which the fact holds
pub record HasEntry (ms : Members) (Fact : List ℕ → Data → Type 0) : Type 0 where
  -- the key of the entry
  pub key : List ℕ
  -- the value of the entry
  pub value : Data
  -- the table has this value at this key
  pub stands : Stands ms key value
  -- the fact holds for this key and this value
  pub fact : Fact key value

-- the table has an entry whose key isn't among these
abbrev pub HasOtherKey : List (List ℕ) → Members → Type 0
HasOtherKey keys ms = HasEntry ms (λ key d. Contains keys key → ⊥)

-- the table has an entry that isn't a boolean, if `flags` is true, or isn't an integer, if it is false
abbrev pub HasOtherType : Bool → Members → Type 0
HasOtherType flags ms = HasEntry ms (λ key d. is_typed flags d ≡ false)

-- the value is no table, or a table with an entry of another type than `flags` says
abbrev pub IsNoTableOf : Bool → Data → Type 0
IsNoTableOf flags (table ms) = HasOtherType flags ms
IsNoTableOf flags _ = ⊤

-- the key is there, and its value is no table of entries of the type that `flags` says
abbrev pub HasBadTable : Bool → List ℕ → Members → Type 0
HasBadTable flags key ms = IsSomeAnd (get_member key ms) (IsNoTableOf flags)

-- the top has a key that isn't one of the three, or one of the three has something other than a table with entries of
-- its type: booleans for `values`, integers for the other two
abbrev pub HasBadField : Members → Type 0
HasBadField ms = HasOtherKey top_keys ms ⊎ (HasBadTable false (codes "faults") ms
    ⊎ (HasBadTable true (codes "values") ms ⊎ HasBadTable false (codes "lengths") ms))

-- there is a table at this key, and one of its keys is no process name
abbrev pub HasBadName : Graph → List ℕ → Members → Type 0
HasBadName g key ms = IsSomeAnd (option_and_then as_table (get_member key ms)) (HasOtherKey (process_names g))

-- one of the three tables has a key that is no process name
abbrev pub HasUnknownName : Graph → Members → Type 0
HasUnknownName g ms =
    HasBadName g (codes "faults") ms ⊎ (HasBadName g (codes "values") ms ⊎ HasBadName g (codes "lengths") ms)

-- some process is given a value, and has no condition
pub record HasBadValue (g : Graph) (ms : Members) : Type 0 where
  -- the process
  pub process : ℕ
  -- it is one of the graph
  pub within : process < process_count g
  -- its value
  pub value : Bool
  -- the file gives it this value
  pub given : value_given g ms process ≡ Some value
  -- it has no condition, so it has no value
  pub none : condition_of g process ≡ None

-- a number is below 0
abbrev pub IsNegative : ℤ → Type 0
IsNegative (pos n) = ⊥
IsNegative (negsuc n) = ⊤

-- some process is given a fault count below 0
pub record HasNegativeCount (g : Graph) (ms : Members) : Type 0 where
  -- the process
  pub process : ℕ
  -- it is one of the graph
  pub within : process < process_count g
  -- the count that the file gives it is below 0
  pub negative : IsNegative (count_given g ms process)

-- a fault count is below 0, or the counts add up to more than the graph allows
abbrev pub IsOverBudget : Graph → Members → Type 0
IsOverBudget g ms = HasNegativeCount g ms ⊎ (g.faults < sum_by (count_of g ms) (numbers_below (process_count g)))

-- a number is no length: it is below 1 or above `longest`
abbrev pub IsNoLength : ℕ → ℤ → Type 0
IsNoLength longest (pos n) = (n < 1) ⊎ (longest < n)
IsNoLength longest (negsuc n) = ⊤

-- some process is given a length that isn't from 1 to its duration with its faults
pub record HasBadLength (g : Graph) (ms : Members) : Type 0 where
  -- the process
  pub process : ℕ
  -- it is one of the graph
  pub within : process < process_count g
  -- its length
  pub length : ℤ
  -- the file gives it this length
  pub given : length_given g ms process ≡ Some length
  -- the length is below 1 or above the duration with as many faults as the file gives
  pub bad : IsNoLength (duration g process (count_of g ms process)) length

-- the cause is there, given the document that the bytes spell, if they do; without one, `Toml` alone is
abbrev pub IsIn : Graph → Option Members → Cause → Type 0
IsIn g document Toml = document ≡ None
IsIn g document Field = IsSomeAnd document HasBadField
IsIn g document Unknown = IsSomeAnd document (HasUnknownName g)
IsIn g document Condition = IsSomeAnd document (HasBadValue g)
IsIn g document Budget = IsSomeAnd document (IsOverBudget g)
IsIn g document Length = IsSomeAnd document (HasBadLength g)

-- the cause is there, in the bytes of a file
abbrev pub IsThere : Graph → List ℕ → Cause → Type 0
IsThere g bytes cause = IsIn g (document_of bytes) cause

-- the place of a cause in the order in which causes are looked for
abbrev pub rank_of_cause : Cause → ℕ
rank_of_cause Toml = 0
rank_of_cause Field = 1
rank_of_cause Unknown = 2
rank_of_cause Condition = 3
rank_of_cause Budget = 4
rank_of_cause Length = 5

-- the cause is there, and none before it is
pub record IsFirstCauseOf (g : Graph) (bytes : List ℕ) (cause : Cause) : Type 0 where
  -- the cause is there
  pub there : IsThere g bytes cause
  -- no cause that is looked for before it is there
  pub none : (other : Cause) → rank_of_cause other < rank_of_cause cause → IsThere g bytes other → ⊥

-- this file is rejected for its first cause, and gives a scenario if no cause is there
pub record IsJudgedByCauses (g : Graph) (bytes : List ℕ) : Type 0 where
  -- the error names a cause exactly if it is the first one
  pub refused : (cause : Cause) → file_of g bytes ≡ Err (Bad cause) ↔ IsFirstCauseOf g bytes cause
  -- the file gives a scenario exactly if no cause is there
  pub played : ((p : Played) × (file_of g bytes ≡ Ok p)) ↔ ((cause : Cause) → IsThere g bytes cause → ⊥)

-- each file is rejected for its first cause, and gives a scenario if no cause is there
abbrev pub FirstCausesAreTold : Type 0
FirstCausesAreTold = (g : Graph) (bytes : List ℕ) → IsJudgedByCauses g bytes
