-- Turns at which nothing ends, arrives or is due.
use Rattle.std.proofs.Common.{◌≡◌, ℕ, ◌+◌, ◌≤◌, Bool, true, false, cond, ◌&&◌, ◌==◌, List, [], ◌∷◌, ◌++◌, map, fold}
use Rattle.std.proofs.Common.{length, get_or, Contains, Option, Some, None, refl, sym, ap, ap₂, ◌∙◌, subst}
use Rattle.std.proofs.Common.{arith, inl, inr, ne_eqb}
use Rattle.std.specs.Prelude.{All, IfSome}
use Rattle.std.specs.List.{flat_map, list_all}
use Rattle.std.proofs.lemmas.List.Elements.{All-cons, All-append, All-head, All-tail, All-nil, Contains-append_left}
use Rattle.std.proofs.lemmas.List.Elements.{Contains-append_right, Contains-append_cases, Contains-get_or}
use Rattle.cpg_base.proofs.Lists.{Contains-first, Contains-rest, Contains-cases, Contains-nil, Contains-map}
use Rattle.cpg_base.proofs.Lists.{Contains-flat_map}
use Rattle.cpg_cube.specs.declared.column.Column.{Column}
use Rattle.cpg_head.specs.declared.head_parts.HeadProcess.{HeadProcess}
use Rattle.cpg_head.specs.Head.{IsHeadProcess}
use Rattle.cpg_table.specs.Items.{own_front, own_from}
use Rattle.cpg_table.specs.Table.{Row, NodeTable}
use Rattle.cpg_table.specs.Lawful.{IsTable}
use Rattle.cpg_node.specs.Dispatcher.{Own, Range, Running, Ended, times_in, zip_with, possible_ends, due_report}
use Rattle.cpg_node.specs.Dispatcher.{due_reports, due_reports_of, hear_end, has_heard, acts_of_columns, acts_at}
use Rattle.cpg_node.specs.Dispatcher.{heard_after, acts_of_turn, running_after}
use Rattle.cpg_node.specs.Plan.{fixed_times}
use Rattle.cpg_node.specs.Quiet.{QuietTurnsChangeNothing, awaited_faults, awaited_end, TurnsLeftOutAreQuiet, TellsFew}
use Rattle.cpg_node.specs.Quiet.{AwaitedAreCandidates}

-- ---- a quiet turn

-- a turn without ends and acts leaves all executions as they are
same_runs : (time : ℕ) (os : List Own) (runs : List (Option Running)) → length runs ≡ length os →
    zip_with (running_after [] [] time) os runs ≡ runs
same_runs time [] [] same = refl
same_runs time [] (run ∷ runs) same = absurd (omega arith)
same_runs time (o ∷ os) [] same = absurd (omega arith)
same_runs time (o ∷ os) (run ∷ runs) same = ap (λ l. run ∷ l) (same_runs time os runs (omega arith))

-- a quiet turn (no end is due, and no act) changes nothing but the last instant, and does nothing
pub quiet_turns : QuietTurnsChangeNothing
quiet_turns d time count q =
    let heard : heard_after d time [] [] ≡ d.heard = ap (fold (hear_end d.table) d.heard) q.ends in
    let acts : acts_of_turn d time [] [] ≡ [] = ap (λ h. acts_at d.table h time) heard ∙ q.acts in
    let runs : zip_with (running_after (due_reports d time) (acts_of_turn d time [] []) time) d.table.own d.running
    ≡ d.running =
    ap₂ (λ es acts. zip_with (running_after es acts time) d.table.own d.running) q.ends acts
    ∙ same_runs time d.table.own d.running count in
    (λ i. record { table = d.table; heard = heard i; running = runs i; last = Some time }, acts)

-- ---- an instant at which nothing is awaited

-- at a time that none of its columns has, a row has no act
no_acts_of : (heard : List Range) (time x i : ℕ) (cs : List Column) →
    (Contains (map (λ (c : Column). c.time) cs) time → ⊥) →
    acts_of_columns heard time x i cs ≡ []
no_acts_of heard time x i [] n = refl
no_acts_of heard time x i (c ∷ cs) n =
    ap (λ b. cond (b && list_all (has_heard heard) c.cube) (record { time = time; item = x; column = i } ∷ []) []
    ++ acts_of_columns heard time x (i + 1) cs)
    (ne_eqb c.time time (λ e. n (subst (Contains (c.time ∷ map (λ (c : Column). c.time) cs)) e
    (Contains-first c.time (map (λ (c : Column). c.time) cs)))))
    ∙ no_acts_of heard time x (i + 1) cs (λ m. n (Contains-rest c.time (map (λ (c : Column). c.time) cs) time m))

-- at a time that no column of the rows has, the rows have no act
no_acts_in : (heard : List Range) (time : ℕ) (rows : List Row) →
    ((row : Row) → Contains rows row → Contains (map (λ (c : Column). c.time) row.columns) time → ⊥) →
    flat_map (λ (row : Row). acts_of_columns heard time row.item 0 row.columns) rows ≡ []
no_acts_in heard time [] n = refl
no_acts_in heard time (row ∷ rows) n =
    ap₂ ◌++◌ (no_acts_of heard time row.item 0 row.columns (n row (Contains-first row rows)))
    (no_acts_in heard time rows (λ r m. n r (Contains-rest row rows r m)))

-- the times of a row are among those of the rows
in_rows : (rows : List Row) (row : Row) (time : ℕ) → Contains rows row →
    Contains (map (λ (c : Column). c.time) row.columns) time →
    Contains (times_in rows) time
in_rows rows row time among c =
    Contains-flat_map (λ (row : Row). map (λ (c : Column). c.time) row.columns) rows row time among c

-- at a time at which no end is awaited no report is due; by induction on the own processes: a report that is due then
-- is of an end that is awaited then
no_reports : (k time : ℕ) (os : List Own) (runs : List (Option Running)) →
    (Contains (flat_map (λ ends. ends) (zip_with (awaited_end k) os runs)) time → ⊥) →
    flat_map (λ es. es) (zip_with (due_reports_of time) os runs) ≡ []
no_reports k time [] runs n = refl
no_reports k time (o ∷ os) [] n = refl
no_reports k time (o ∷ os) (None ∷ runs) n = no_reports k time os runs n
no_reports k time (o ∷ os) (Some run ∷ runs) n = go run.report n (no_reports k time os runs)
  where
    -- the awaited ends of the other executions
    rest : List ℕ
    rest = flat_map (λ ends. ends) (zip_with (awaited_end k) os runs)

    -- by whether the first execution has a report
    go : (r : Option Ended) → (Contains ((run.start + get_or o.times (awaited_faults k r) 0) ∷ rest) time → ⊥) →
        ((Contains rest time → ⊥) → flat_map (λ es. es) (zip_with (due_reports_of time) os runs) ≡ []) →
        due_report time o run.start r ++ flat_map (λ es. es) (zip_with (due_reports_of time) os runs) ≡ []
    go None n ih = ih (λ m. n (Contains-rest _ rest time m))
    go (Some e) n ih = ap (λ b. cond b (e ∷ []) [] ++ flat_map (λ es. es) (zip_with (due_reports_of time) os runs))
        (ne_eqb (run.start + get_or o.times e.faults 0) time
        (λ s. n (subst (Contains ((run.start + get_or o.times e.faults 0) ∷ rest)) s
        (Contains-first (run.start + get_or o.times e.faults 0) rest))))
        ∙ ih (λ m. n (Contains-rest _ rest time m))

-- a turn at an instant that is neither a column's time nor an awaited end is quiet: no end is due (`no_reports`), and
-- no row that the node sends or starts has a column of that time (`no_acts_in`)
pub turns_left_out : TurnsLeftOutAreQuiet
turns_left_out d time n heard = record {
  ends = no_reports d.table.faults time d.table.own d.running
      (λ m. n (Contains-append_right (fixed_times d.table) ends time m));
  acts = no_acts_in heard time (d.table.sends ++ d.table.starts)
      (λ row m c. elim (Contains-append_cases d.table.sends d.table.starts row m) [
        | inl s ↦ n (Contains-append_left (fixed_times d.table) ends time
            (Contains-append_left (times_in d.table.starts ++ times_in d.table.sends) (times_in d.table.hears) time
            (Contains-append_right (times_in d.table.starts) (times_in d.table.sends) time
            (in_rows d.table.sends row time s c))))
        | inr s ↦ n (Contains-append_left (fixed_times d.table) ends time
            (Contains-append_left (times_in d.table.starts ++ times_in d.table.sends) (times_in d.table.hears) time
            (Contains-append_left (times_in d.table.starts) (times_in d.table.sends) time
            (in_rows d.table.starts row time s c))))
      ]);
}
  where
    -- the awaited ends of all executions
    ends : List ℕ
    ends = flat_map (λ ends. ends) (zip_with (awaited_end d.table.faults) d.table.own d.running)

-- ---- an awaited end is one of the possible ends

-- a process has a duration for each number of faults
abbrev HasAll : ℕ → Own → Type 0
HasAll k o = length o.times ≡ k + 1

-- each own process of a table has a duration for each number of faults; by induction on the processes of the head, of
-- which each has k + 1 durations
own_all : (k n node p c : ℕ) (qs : List HeadProcess) → All (IsHeadProcess k n) qs →
    All (HasAll k) (own_from node p c qs)
own_all k n node p c [] each = All-nil (HasAll k)
own_all k n node p c (q ∷ qs) each =
    All-append (HasAll k) (own_front node p c q) (own_from node (p + 1) (cond q.condition (c + 1) c) qs)
    (front (q.node == node))
    (own_all k n node (p + 1) (cond q.condition (c + 1) c) qs (All-tail (IsHeadProcess k n) q qs each))
  where
    -- by whether the first process is on the node
    front : (b : Bool) →
        All (HasAll k)
        (cond b (record { process = p; condition = cond q.condition (Some c) None; times = q.times } ∷ []) [])
    front true =
        All-cons (HasAll k) (record { process = p; condition = cond q.condition (Some c) None; times = q.times }) []
        ((All-head (IsHeadProcess k n) q qs each).count) (All-nil (HasAll k))
    front false = All-nil (HasAll k)

-- a lawful table says of each of its processes how long it lasts with each number of faults
own_has : (t : NodeTable) → IsTable t → All (HasAll t.faults) t.own
own_has t is_table = subst (λ k. All (HasAll k) t.own) (sym is_table.of.faults)
    (subst (All (HasAll is_table.head.faults)) (sym is_table.of.own)
    (own_all is_table.head.faults (length is_table.head.nodes) is_table.node 0 0 is_table.head.processes
    is_table.lawful.processes))

-- the faults of an awaited end, k if none was reported, are at most k
few_faults : (k : ℕ) (r : Option Ended) → IfSome r (λ (e : Ended). e.faults ≤ k) → awaited_faults k r ≤ k
few_faults k None h = omega arith
few_faults k (Some e) h = h

-- each awaited end is a possible end; by induction on the own processes: the duration with the awaited faults is one of
-- the k + 1 durations
possible : (k : ℕ) (os : List Own) (runs : List (Option Running)) → All (HasAll k) os → All (TellsFew k) runs →
    (time : ℕ) →
    Contains (flat_map (λ ends. ends) (zip_with (awaited_end k) os runs)) time →
    Contains (flat_map (λ ends. ends) (zip_with possible_ends os runs)) time
possible k [] runs full few_told time among = absurd (Contains-nil time among)
possible k (o ∷ os) [] full few_told time among = absurd (Contains-nil time among)
possible k (o ∷ os) (None ∷ runs) full few_told time among =
    possible k os runs (All-tail (HasAll k) o os full) (All-tail (TellsFew k) None runs few_told) time among
possible k (o ∷ os) (Some run ∷ runs) full few_told time among =
    let told = awaited_faults k run.report in
    let few : told ≤ k = few_faults k run.report (All-head (TellsFew k) (Some run) runs few_told) in
    let all : length o.times ≡ k + 1 = All-head (HasAll k) o os full in
    let mine : List ℕ = map (λ d. run.start + d) o.times in
    let rest : List ℕ = flat_map (λ ends. ends) (zip_with possible_ends os runs) in
    elim (Contains-cases (run.start + get_or o.times told 0)
    (flat_map (λ ends. ends) (zip_with (awaited_end k) os runs)) time among) [
      | inl is ↦ Contains-append_left mine rest time (subst (Contains mine) is
          (Contains-map (λ d. run.start + d) o.times
          (get_or o.times told 0) (Contains-get_or o.times told 0 (omega (arith, few, all)))))
      | inr in_rest ↦ Contains-append_right mine rest time
          (possible k os runs (All-tail (HasAll k) o os full) (All-tail (TellsFew k) (Some run) runs few_told) time
          in_rest)
    ]

-- each awaited instant is a candidate: a time of the table, or an awaited end
pub awaited_candidates : AwaitedAreCandidates
awaited_candidates d made few time m =
    let ends : List ℕ = flat_map (λ ends. ends) (zip_with (awaited_end d.table.faults) d.table.own d.running) in
    let all : List ℕ = flat_map (λ ends. ends) (zip_with possible_ends d.table.own d.running) in
    elim (Contains-append_cases (fixed_times d.table) ends time m) [
      | inl f ↦ Contains-append_left (fixed_times d.table) all time f
      | inr e ↦ Contains-append_right (fixed_times d.table) all time
          (possible d.table.faults d.table.own d.running (own_has d.table made) few time e)
    ]
