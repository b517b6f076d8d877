-- Reports of different processes, and frames of one time, may come in any order.
use Rattle.std.proofs.Common.{◌≡◌, ◌≢◌, ℕ, zero, suc, ◌<◌, ◌≤◌, min, max, Bool, true, false, not, ◌||◌, ◌==◌, List, []}
use Rattle.std.proofs.Common.{◌∷◌, length, set, get_or, Option, Some, None, refl, sym, ap, ap₂, ◌∙◌, subst}
use Rattle.std.proofs.Common.{arith, inl, inr, eq-eqb, ne_eqb, le-ltb}
use Rattle.std.specs.Prelude.{IfSome, option_map, nat_lt}
use Rattle.std.specs.List.{list_any}
use Rattle.std.proofs.lemmas.Bool.{cases_eq, cases_lt, cond-true, cond-false, or_parts, or_from, ltb-false}
use Rattle.std.proofs.lemmas.Option.{none-some, same_Some}
use Rattle.std.proofs.lemmas.List.{length-set, get_or-set_same, get_or-set_other, set_past, set-set, set_comm}
use Rattle.cpg_cube.specs.declared.literal.Literal.{Literal}
use Rattle.cpg_table.specs.Table.{Row, columns_in}
use Rattle.cpg_node.specs.Dispatcher.{Dispatcher, Own, Range, Running, Ended, Frame, zip_with, with_report, finished}
use Rattle.cpg_node.specs.Dispatcher.{next, range_of, cut_range, cut, cut_all, frame_literals, hear_frame, hear}
use Rattle.cpg_node.specs.Dispatcher.{no_column, is_contradicted, is_strange}
use Rattle.cpg_node.specs.State.{running_in, running_of, MayFinish}
use Rattle.cpg_node.proofs.Turning.{next_reported}

-- ---- a report leaves the execution of another process as it is

kept_run : (f : Ended) (o : Own) (run : Option Running) → o.process ≢ f.process → with_report f o run ≡ run
kept_run f o None ne = refl
kept_run f o (Some run) ne = cond-false (o.process == f.process) (Some (record run { report = Some f })) (Some run)
    (ne_eqb o.process f.process ne)

-- the execution of a process other than the reported one, looked up by its number, stays the same; by induction on
-- the own processes
pub other_running : (f : Ended) (p : ℕ) → f.process ≢ p → (os : List Own) (runs : List (Option Running)) →
    running_in os (zip_with (with_report f) os runs) p ≡ running_in os runs p
other_running f p ne [] runs = refl
other_running f p ne (o ∷ os) [] = refl
other_running f p ne (o ∷ os) (run ∷ runs) = elim (cases_eq o.process p) [
  | inl e ↦ cond-true (o.process == p) _ _ (eq-eqb o.process p e) ∙ kept_run f o run (λ s. ne (sym s ∙ e))
      ∙ sym (cond-true (o.process == p) _ _ (eq-eqb o.process p e))
  | inr far ↦ cond-false (o.process == p) _ _ (ne_eqb o.process p far) ∙ other_running f p ne os runs
      ∙ sym (cond-false (o.process == p) _ _ (ne_eqb o.process p far))
]

-- a report leaves the next instant as it is
pub next_same : (d : Dispatcher) (f : Ended) → next (finished d f) ≡ next d
next_same d f = next_reported f d.table d.heard d.running d.last

-- ---- a report that may come may still come after another one, and could have come before it

-- an execution that may be reported may still be reported after the report of another process: neither its run nor the
-- next instant changes
pub may_then : (d : Dispatcher) (f : Ended) (time : ℕ) (e : Ended) → f.process ≢ e.process → MayFinish d time e →
    MayFinish (finished d f) time e
may_then d f time e ne may_finish = record {
  run = may_finish.run;
  runs = other_running f e.process ne d.table.own d.running ∙ may_finish.runs;
  unreported = may_finish.unreported;
  few = may_finish.few;
  plain = may_finish.plain;
  started = may_finish.started;
  in_time = may_finish.in_time;
  later = may_finish.later;
  before = subst (λ o. IfSome o (λ n. time ≤ n)) (sym (next_same d f)) may_finish.before;
}

-- an execution that may be reported after the report of another process may be reported before it, for the same reason
pub may_before : (d : Dispatcher) (f : Ended) (time : ℕ) (e : Ended) → f.process ≢ e.process →
    MayFinish (finished d f) time e →
    MayFinish d time e
may_before d f time e ne may_finish = record {
  run = may_finish.run;
  runs = sym (other_running f e.process ne d.table.own d.running) ∙ may_finish.runs;
  unreported = may_finish.unreported;
  few = may_finish.few;
  plain = may_finish.plain;
  started = may_finish.started;
  in_time = may_finish.in_time;
  later = may_finish.later;
  before = subst (λ o. IfSome o (λ n. time ≤ n)) (next_same d f) may_finish.before;
}

-- ---- two reports leave the same in either order

-- the reports of two processes leave the same executions in either order: at each place at least one of the two changes
-- nothing
swapped : (x y : Ended) → x.process ≢ y.process → (os : List Own) (runs : List (Option Running)) →
    zip_with (with_report y) os (zip_with (with_report x) os runs)
    ≡ zip_with (with_report x) os (zip_with (with_report y) os runs)
swapped x y ne [] runs = refl
swapped x y ne (o ∷ os) [] = refl
swapped x y ne (o ∷ os) (run ∷ runs) = ap₂ ◌∷◌ one (swapped x y ne os runs)
  where
    -- at one place: the process there is at most one of the two, so one of the reports changes nothing
    one : with_report y o (with_report x o run) ≡ with_report x o (with_report y o run)
    one = elim (cases_eq o.process x.process) [
      | inl e ↦ let far : o.process ≢ y.process = λ s. ne (sym e ∙ s) in
          kept_run y o (with_report x o run) far ∙ ap (with_report x o) (sym (kept_run y o run far))
      | inr far ↦ ap (with_report y o) (kept_run x o run far) ∙ sym (kept_run x o (with_report y o run) far)
    ]

-- the reports of two processes leave the same dispatcher in either order
pub swap : (d : Dispatcher) (x y : Ended) → x.process ≢ y.process →
    finished (finished d x) y ≡ finished (finished d y) x
swap d x y ne = ap (λ runs. record { table = d.table; heard = d.heard; running = runs; last = d.last })
    (swapped x y ne d.table.own d.running)

-- ---- an execution is reported once

-- after the report of a process, its execution, if it has one, has that report; by induction on the own processes
reported_run : (f : Ended) (os : List Own) (runs : List (Option Running)) →
    running_in os (zip_with (with_report f) os runs) f.process
    ≡ option_map (λ (run : Running). record { start = run.start; report = Some f }) (running_in os runs f.process)
reported_run f [] runs = refl
reported_run f (o ∷ os) [] = refl
reported_run f (o ∷ os) (run ∷ runs) = elim (cases_eq o.process f.process) [
  | inl here ↦ let test = eq-eqb o.process f.process here in
      cond-true (o.process == f.process) _ _ test ∙ own run test ∙ sym (ap (option_map (λ (run : Running).
      record { start = run.start; report = Some f })) (cond-true (o.process == f.process) _ _ test))
  | inr far ↦ let test = ne_eqb o.process f.process far in
      cond-false (o.process == f.process) _ _ test ∙ reported_run f os runs
      ∙ sym (ap (option_map (λ (run : Running). record { start = run.start; report = Some f }))
      (cond-false (o.process == f.process) _ _ test))
]
  where
    own : (run : Option Running) → o.process == f.process ≡ true →
        with_report f o run ≡ option_map (λ (run : Running). record { start = run.start; report = Some f }) run
    own None test = refl
    own (Some run) test =
        cond-true (o.process == f.process) (Some (record { start = run.start; report = Some f })) (Some run) test

-- an execution whose report was noted isn't one without a report
pub reported_once : (d : Dispatcher) (f : Ended) (run : Running) → running_of (finished d f) f.process ≡ Some run →
    run.report ≡ None → ⊥
reported_once d f run e none = go (running_of d f.process) (sym (reported_run f d.table.own d.running) ∙ e)
  where
    -- by whether the process had an execution
    go : (o : Option Running) →
        option_map (λ (run : Running). record { start = run.start; report = Some f }) o ≡ Some run → ⊥
    go None found = none-some run found
    go (Some before) found = none-some f (sym none ∙ ap (λ (r : Running). r.report) (sym (same_Some _ _ found)))

-- ---- frames of one time may be heard in either order

-- a range that is cut by two literals is the same in either order
cut_ranges : (r : Range) (a b : Literal) → cut_range (cut_range r a) b ≡ cut_range (cut_range r b) a
cut_ranges r a b =
    let low : max (max r.low a.low) b.low ≡ max (max r.low b.low) a.low = omega arith in
    let high : min (min r.high a.high) b.high ≡ min (min r.high b.high) a.high = omega arith in
    λ i. record { low = low i; high = high i }

-- the range that `range_of` gives for a place past the list's end
abbrev nothing : Range
nothing = record { low = 0; high = 0 }

-- to cut the range of variable v by a and then by b is to put the range that both cut in its place
cut_same : (h : List Range) (v : ℕ) (a b : Literal) → v < length h →
    set (set h v (cut_range (range_of h v) a)) v (cut_range (range_of (set h v (cut_range (range_of h v) a)) v) b)
    ≡ set h v (cut_range (cut_range (range_of h v) a) b)
cut_same h v a b within =
    let one : Range = cut_range (range_of h v) a in
    ap (λ r. set (set h v one) v (cut_range r b)) (get_or-set_same h v one nothing within)
    ∙ set-set h v one (cut_range one b)

-- Ranges are the same cut by a and then b as by b and then a. A variable past the list's end changes nothing; on one
-- variable the greatest low and the least high stay, in either order; two variables have places of their own.
cut_twice : (h : List Range) (a b : Literal) → cut (cut h a) b ≡ cut (cut h b) a
cut_twice h a b =
    let one : Range = cut_range (range_of h a.variable) a in
    let two : Range = cut_range (range_of h b.variable) b in
    elim (cases_lt a.variable (length h)) [
      | inr past ↦ ap (λ h. cut h b) (set_past h a.variable one past)
          ∙ sym (set_past (cut h b) a.variable (cut_range (range_of (cut h b) a.variable) a)
          (omega (arith, past, length-set h b.variable two)))
      | inl within ↦ elim (cases_eq b.variable a.variable) [
        | inl e ↦ ap (λ u. set (cut h a) u (cut_range (range_of (cut h a) u) b)) e ∙ cut_same h a.variable a b within
            ∙ ap (set h a.variable) (cut_ranges (range_of h a.variable) a b)
            ∙ sym (ap (λ u. set h u (cut_range (cut_range (range_of h u) b) a)) e)
            ∙ sym (cut_same h b.variable b a (omega (arith, within, e)))
            ∙ sym (ap (λ u. set (cut h b) u (cut_range (range_of (cut h b) u) a)) (sym e))
        | inr ne ↦
            ap (λ r. set (cut h a) b.variable (cut_range r b)) (get_or-set_other h a.variable b.variable one nothing ne)
            ∙ set_comm h a.variable b.variable one two (λ s. ne (sym s))
            ∙ sym (ap (λ r. set (cut h b) a.variable (cut_range r a))
            (get_or-set_other h b.variable a.variable two nothing (λ s. ne (sym s))))
      ]
    ]

-- ranges may be cut by one literal before or after others; by induction on the others
cut_over : (ls : List Literal) (h : List Range) (l : Literal) → cut_all (cut h l) ls ≡ cut (cut_all h ls) l
cut_over [] h l = refl
cut_over (m ∷ ls) h l = ap (λ h. cut_all h ls) (cut_twice h l m) ∙ cut_over ls (cut h m) l

-- ranges that are cut by two lists of literals are the same in either order; by induction on the first list
cuts_either : (xs ys : List Literal) (h : List Range) → cut_all (cut_all h xs) ys ≡ cut_all (cut_all h ys) xs
cuts_either [] ys h = refl
cuts_either (x ∷ xs) ys h = cuts_either xs ys (cut h x) ∙ ap (λ h. cut_all h xs) (cut_over ys h x)

-- two frames leave the same dispatcher in either order
pub hear_either : (d : Dispatcher) (x y : Frame) → hear (hear d x) y ≡ hear (hear d y) x
hear_either d x y = ap (λ h. record { table = d.table; heard = h; running = d.running; last = d.last })
    (cuts_either (frame_literals d.table x) (frame_literals d.table y) d.heard)

-- If no range is empty (contradicted) after variable v was cut by a literal, none was before: the cut range was at
-- least as wide. By induction to the place v.
uncut : (h : List Range) (v : ℕ) (l : Literal) →
    list_any is_contradicted (set h v (cut_range (range_of h v) l)) ≡ false →
    list_any is_contradicted h ≡ false
uncut [] v l fine = fine
uncut (r ∷ h) zero l fine = let parts = or_parts (is_contradicted (cut_range r l)) (list_any is_contradicted h) fine in
    or_from (is_contradicted r) (list_any is_contradicted h)
    (le-ltb r.high r.low (let not_below = ltb-false (min r.high l.high) (max r.low l.low) parts.0 in
    omega (arith, not_below))) parts.1
uncut (r ∷ h) (suc v) l fine =
    let parts = or_parts (is_contradicted r) (list_any is_contradicted (set h v (cut_range (range_of h v) l))) fine in
    or_from (is_contradicted r) (list_any is_contradicted h) parts.0 (uncut h v l parts.1)

-- if no range is contradicted after several literals, none was before them
uncut_all : (ls : List Literal) (h : List Range) → list_any is_contradicted (cut_all h ls) ≡ false →
    list_any is_contradicted h ≡ false
uncut_all [] h fine = fine
uncut_all (l ∷ ls) h fine = uncut h l.variable l (uncut_all ls (cut h l) fine)

-- If x isn't strange, and y isn't after x was heard, then y isn't strange, and x isn't after y was heard. Whether a
-- frame is unknown (has no row or no column of the time) doesn't hang on what was heard; both orders leave the same
-- ranges, and before the second frame fewer literals were heard.
pub fine_either : (d : Dispatcher) (time : ℕ) (x y : Frame) → is_strange d time x ≡ false →
    is_strange (hear d x) time y ≡ false →
    (is_strange d time y ≡ false) × (is_strange (hear d y) time x ≡ false)
fine_either d time x y x_fine y_fine =
    let x_parts = or_parts (unknown x) (list_any is_contradicted (hear_frame d.table d.heard x)) x_fine in
    let y_parts =
    or_parts (unknown y) (list_any is_contradicted (hear_frame d.table (hear_frame d.table d.heard x) y)) y_fine in
    let both : list_any is_contradicted (hear_frame d.table (hear_frame d.table d.heard y) x) ≡ false =
    sym (ap (list_any is_contradicted) (cuts_either (frame_literals d.table x) (frame_literals d.table y) d.heard))
    ∙ y_parts.1 in (
      or_from (unknown y) (list_any is_contradicted (hear_frame d.table d.heard y)) y_parts.0
          (uncut_all (frame_literals d.table x) (hear_frame d.table d.heard y) both),
      or_from (unknown x) (list_any is_contradicted (hear_frame d.table (hear_frame d.table d.heard y) x))
          x_parts.0 both,
    )
  where
    -- a frame is unknown if its item has no row, or the row no such column, or the column another time
    unknown : Frame → Bool
    unknown frame = not (list_any (λ (row : Row). row.item == frame.item) d.table.hears)
        || not (nat_lt frame.column (length (columns_in d.table.hears frame.item)))
        || not ((get_or (columns_in d.table.hears frame.item) frame.column no_column).time == time)
