-- What the laws of a table say of its own processes, rows and times. In the lemmas t is a table, and o what it says of
-- a process of its own.
use Rattle.std.proofs.Common.{◌≡◌, ℕ, ◌<◌, ◌≤◌, ◌+◌, ◌^◌, Bool, true, false, cond, ◌==◌, List, [], ◌∷◌, ◌++◌, length}
use Rattle.std.proofs.Common.{map, Contains, Some, None, refl, sym, ap, ◌∙◌, subst, arith, inl, inr}
use Rattle.std.specs.Prelude.{All}
use Rattle.std.proofs.lemmas.List.Elements.{All-cons, All-append, All-head, All-tail, All-nil, All-contains}
use Rattle.std.proofs.lemmas.List.Elements.{All-contains_itself, All-weaker, Contains-append_left}
use Rattle.std.proofs.lemmas.List.Elements.{Contains-append_right}
use Rattle.std.proofs.lemmas.List.Elements.{Contains-append_cases}
use Rattle.cpg_base.specs.declared.limits.TheConstants.{MOST_COLUMNS}
use Rattle.cpg_base.proofs.Lists.{Contains-cases, Contains-nil, Contains-flat_map_parts, Contains-map_parts}
use Rattle.cpg_base.proofs.Ordered.{Rises, Rises-append}
use Rattle.cpg_table.specs.Table.{Row, NodeTable}
use Rattle.cpg_cube.specs.declared.column.Column.{Column}
use Rattle.cpg_head.specs.declared.head_parts.HeadProcess.{HeadProcess}
use Rattle.cpg_head.specs.Head.{IsHeadProcess}
use Rattle.cpg_table.specs.Items.{own_front, own_from}
use Rattle.cpg_table.specs.Lawful.{IsTable, IsLawfulRow, IsLawfulColumn, rows_of, space_of}
use Rattle.cpg_node.specs.Dispatcher.{Own, times_in}
use Rattle.cpg_node.specs.Plan.{Planned, plan_of, SameAtEachTime, fixed_times}
use Rattle.cpg_node.proofs.Planning.{planned_in, planned_time}

-- each duration of a process is below 2^60
abbrev pub AreShort : Own → Type 0
AreShort o = All (λ d. d < 2 ^ 60) o.times

-- the durations of a node's own processes are below 2^60, as those of the head are; by induction on the processes of
-- the head: each is an own one if it is on the node
own_short : (k n node p c : ℕ) (qs : List HeadProcess) → All (IsHeadProcess k n) qs →
    All AreShort (own_from node p c qs)
own_short k n node p c [] each = All-nil AreShort
own_short k n node p c (q ∷ qs) each =
    All-append AreShort (own_front node p c q) (own_from node (p + 1) (cond q.condition (c + 1) c) qs)
    (front (q.node == node))
    (own_short k n node (p + 1) (cond q.condition (c + 1) c) qs (All-tail (IsHeadProcess k n) q qs each))
  where
    -- by whether the first process is on the node
    front : (b : Bool) →
        All AreShort
        (cond b (record { process = p; condition = cond q.condition (Some c) None; times = q.times } ∷ []) [])
    front true = All-cons AreShort (record { process = p; condition = cond q.condition (Some c) None; times = q.times })
        [] ((All-head (IsHeadProcess k n) q qs each).times) (All-nil AreShort)
    front false = All-nil AreShort

-- each duration of a lawful table is below 2^60, since the processes of its head are lawful
pub times_short : (t : NodeTable) → IsTable t → All AreShort t.own
times_short t is_table = subst (All AreShort) (sym is_table.of.own)
    (own_short is_table.head.faults (length is_table.head.nodes) is_table.node 0 0 is_table.head.processes
    is_table.lawful.processes)

-- own processes rise by number
abbrev pub DoRise : List Own → Type 0
DoRise os = Rises (λ (a b : Own). a.process < b.process) os

-- a list of x, whose number is p, or of nothing has only processes of this number
own_number : (p : ℕ) (x o : Own) (b : Bool) → x.process ≡ p → Contains (cond b (x ∷ []) []) o → o.process ≡ p
own_number p x o true is among = elim (Contains-cases x [] o among) [
  | inl e ↦ ap (λ (o : Own). o.process) (sym e) ∙ is
  | inr n ↦ absurd (Contains-nil o n)
]
own_number p x o false is among = absurd (Contains-nil o among)

-- the own processes from number p on have at least the number p; by induction: the first of the head's processes is p,
-- if it is an own one, and the others have at least p + 1
own_above : (node p c : ℕ) (qs : List HeadProcess) (o : Own) → Contains (own_from node p c qs) o → p ≤ o.process
own_above node p c [] o has = absurd (Contains-nil o has)
own_above node p c (q ∷ qs) o has =
    elim (Contains-append_cases (own_front node p c q) (own_from node (p + 1) (cond q.condition (c + 1) c) qs) o has) [
      | inl n ↦ omega (
        arith,
        own_number p (record { process = p; condition = cond q.condition (Some c) None; times = q.times }) o
            (q.node == node) refl n,
      )
      | inr n ↦ omega (arith, own_above node (p + 1) (cond q.condition (c + 1) c) qs o n)
    ]

-- the own processes from number p on rise by number; by induction: the first, p, if it is an own one, comes before all
-- others (`own_above`)
own_rises : (node p c : ℕ) (qs : List HeadProcess) → DoRise (own_from node p c qs)
own_rises node p c [] = tt
own_rises node p c (q ∷ qs) = Rises-append (λ (a b : Own). a.process < b.process) (own_front node p c q)
    (own_from node (p + 1) (cond q.condition (c + 1) c) qs)
    (front (q.node == node)) (own_rises node (p + 1) (cond q.condition (c + 1) c) qs)
    (λ a b m n. omega (
      arith,
      own_number p (record { process = p; condition = cond q.condition (Some c) None; times = q.times }) a
          (q.node == node) refl m,
      own_above node (p + 1) (cond q.condition (c + 1) c) qs b n,
    ))
  where
    -- by whether the first process is on the node
    front : (b : Bool) →
        DoRise (cond b (record { process = p; condition = cond q.condition (Some c) None; times = q.times } ∷ []) [])
    front true = (λ o m. absurd (Contains-nil o m), tt)
    front false = tt

-- the own processes of a table rise by number
pub own_rise : (t : NodeTable) → IsTable t → DoRise t.own
own_rise t is_table = subst DoRise (sym is_table.of.own) (own_rises is_table.node 0 0 is_table.head.processes)

-- each of these processes has at most 9 durations, and so at most 9 possible ends
abbrev pub HaveFewEnds : List Own → Type 0
HaveFewEnds os = All (λ (o : Own). length o.times ≤ 9) os

-- a node's own processes have at most 9 durations each: one for each number of faults, 0 to k, and k is at most 8
own_ends : (k n node p c : ℕ) (qs : List HeadProcess) → k ≤ 8 → All (IsHeadProcess k n) qs →
    HaveFewEnds (own_from node p c qs)
own_ends k n node p c [] few each = All-nil (λ (o : Own). length o.times ≤ 9)
own_ends k n node p c (q ∷ qs) few each = All-append (λ (o : Own). length o.times ≤ 9) (own_front node p c q)
    (own_from node (p + 1) (cond q.condition (c + 1) c) qs)
    (front (q.node == node))
    (own_ends k n node (p + 1) (cond q.condition (c + 1) c) qs few (All-tail (IsHeadProcess k n) q qs each))
  where
    -- by whether the first process is on the node
    front : (b : Bool) →
        HaveFewEnds
        (cond b (record { process = p; condition = cond q.condition (Some c) None; times = q.times } ∷ []) [])
    front true = All-cons (λ (o : Own). length o.times ≤ 9)
        (record { process = p; condition = cond q.condition (Some c) None; times = q.times }) []
        (omega (arith, few, (All-head (IsHeadProcess k n) q qs each).count)) (All-nil (λ (o : Own). length o.times ≤ 9))
    front false = All-nil (λ (o : Own). length o.times ≤ 9)

-- each own process of a lawful table has at most 9 possible ends, since the processes of its head are lawful
pub own_few_ends : (t : NodeTable) → IsTable t → HaveFewEnds t.own
own_few_ends t is_table = subst HaveFewEnds (sym is_table.of.own)
    (own_ends is_table.head.faults (length is_table.head.nodes) is_table.node 0 0 is_table.head.processes
    is_table.lawful.faults is_table.lawful.processes)

-- rows that are among those of a lawful table have at most MOST_COLUMNS columns each
rows_few : (t : NodeTable) → IsTable t → (rows : List Row) →
    ((row : Row) → Contains rows row → Contains (rows_of t) row) →
    All (λ (row : Row). length row.columns ≤ MOST_COLUMNS) rows
rows_few t is_table rows in' = All-weaker (Contains rows) (λ (row : Row). length row.columns ≤ MOST_COLUMNS)
    (λ row c. (All-contains (IsLawfulRow (space_of is_table.head)) (rows_of t) row is_table.of.lawful (in' row c)).few)
    rows
    (All-contains_itself rows)

-- a row that the node sends is one of its rows
in_sends : (t : NodeTable) (row : Row) → Contains t.sends row → Contains (rows_of t) row
in_sends t row among =
    Contains-append_right t.starts (t.sends ++ t.hears) row (Contains-append_left t.sends t.hears row among)

-- a row that the node starts is one of its rows
in_starts : (t : NodeTable) (row : Row) → Contains t.starts row → Contains (rows_of t) row
in_starts t row among = Contains-append_left t.starts (t.sends ++ t.hears) row among

-- each row that a node sends has at most MOST_COLUMNS columns
pub sends_few : (t : NodeTable) → IsTable t → All (λ (row : Row). length row.columns ≤ MOST_COLUMNS) t.sends
sends_few t is_table = rows_few t is_table t.sends (in_sends t)

-- each row that a node starts has at most MOST_COLUMNS columns
pub starts_few : (t : NodeTable) → IsTable t → All (λ (row : Row). length row.columns ≤ MOST_COLUMNS) t.starts
starts_few t is_table = rows_few t is_table t.starts (in_starts t)

-- each time of rows that are among those of a lawful table is below 2^60: it is the time of one of their columns
time_early : (t : NodeTable) → IsTable t → (rows : List Row) →
    ((row : Row) → Contains rows row → Contains (rows_of t) row) → (x : ℕ) → Contains (times_in rows) x → x < 2 ^ 60
time_early t lawful rows in' x among =
    let in_row =
    Contains-flat_map_parts (λ (row : Row). map (λ (d : Column). d.time) row.columns) rows x among in
    let column = Contains-map_parts (λ (d : Column). d.time) in_row.0.columns x in_row.2 in
    subst (λ n. n < 2 ^ 60) column.2 ((All-contains (IsLawfulColumn (space_of lawful.head)) in_row.0.columns column.0
    ((All-contains (IsLawfulRow (space_of lawful.head)) (rows_of t) in_row.0 lawful.of.lawful
    (in' in_row.0 in_row.1)).columns)
    column.1).time)

-- each time of a table's plan, in whatever order the entries are, is below 2^60
pub plan_early : (t : NodeTable) → IsTable t → (plan : List Planned) → SameAtEachTime plan (plan_of t) →
    All (λ (p : Planned). p.time < 2 ^ 60) plan
plan_early t is_table plan same = All-weaker (Contains plan) (λ (p : Planned). p.time < 2 ^ 60)
    (λ p c. time_early t is_table (t.sends ++ t.starts) (λ row d.
    elim (Contains-append_cases t.sends t.starts row d) [ inl k ↦ in_sends t row k | inr k ↦ in_starts t row k ])
    p.time (planned_time t p (planned_in plan (plan_of t) same p c))) plan (All-contains_itself plan)

-- a row that the node hears is one of its rows
in_hears : (t : NodeTable) (row : Row) → Contains t.hears row → Contains (rows_of t) row
in_hears t row among =
    Contains-append_right t.starts (t.sends ++ t.hears) row (Contains-append_right t.sends t.hears row among)

-- all times of the table are below 2^60
pub fixed_early : (t : NodeTable) → IsTable t → (x : ℕ) → Contains (fixed_times t) x → x < 2 ^ 60
fixed_early t made x c = elim (Contains-append_cases (times_in t.starts ++ times_in t.sends) (times_in t.hears) x c) [
  | inr k ↦ time_early t made t.hears (in_hears t) x k
  | inl k ↦ elim (Contains-append_cases (times_in t.starts) (times_in t.sends) x k) [
    | inl m ↦ time_early t made t.starts (in_starts t) x m
    | inr m ↦ time_early t made t.sends (in_sends t) x m
  ]
]
