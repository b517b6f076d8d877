-- Turns that a node may leave out, and the instants at which it still takes one.
use Rattle.std.specs.Prelude.{ℕ, ◌≡◌, ◌≤◌, ◌+◌, List, [], ◌∷◌, ◌++◌, Option, Some, None, filter, get_or, length, All}
use Rattle.std.specs.Prelude.{IfSome, Contains}
use Rattle.std.specs.List.{flat_map}
use Rattle.cpg_table.specs.Lawful.{IsTable}
use Rattle.cpg_node.specs.Dispatcher.{Dispatcher, Own, Running, Ended, Range, times_in, zip_with, candidates, is_after}
use Rattle.cpg_node.specs.Dispatcher.{least_of, due_reports, acts_at, turn, acts_of_turn}

-- at this instant no report is due, nor any entry whose literals follow from what has been heard
pub record IsQuiet (d : Dispatcher) (time : ℕ) : Type 0 where
  pub ends : due_reports d time ≡ []
  pub acts : acts_at d.table d.heard time ≡ []

-- a turn at a quiet instant that takes no ends and no frames does nothing, and changes nothing but the last instant
abbrev pub QuietTurnsChangeNothing : Type 0
QuietTurnsChangeNothing = (d : Dispatcher) (time : ℕ) → length d.running ≡ length d.table.own → IsQuiet d time →
    (turn d time [] [] ≡ record d { last = Some time }) × (acts_of_turn d time [] [] ≡ [])

-- the fault count with which an execution is awaited to end: that of its report; without one the most, k
abbrev pub awaited_faults : ℕ → Option Ended → ℕ
awaited_faults k None = k
awaited_faults k (Some e) = e.faults

-- the time at which a process is awaited to end, if it runs
abbrev pub awaited_end : ℕ → Own → Option Running → List ℕ
awaited_end k own None = []
awaited_end k own (Some run) = (run.start + get_or own.times (awaited_faults k run.report) 0) ∷ []

-- the times at which a node takes a turn that takes no more than it must: those of its columns, and the awaited end of
-- each execution
abbrev pub awaited : Dispatcher → List ℕ
awaited d = times_in d.table.starts ++ times_in d.table.sends ++ times_in d.table.hears
    ++ flat_map (λ ends. ends) (zip_with (awaited_end d.table.faults) d.table.own d.running)

-- the next instant at which such a turn is taken: the least awaited time after the last turn
abbrev pub next_awaited : Dispatcher → Option ℕ
next_awaited d = least_of (filter (is_after d.last) (awaited d))

-- at each time that isn't awaited the node is quiet, whatever was heard
abbrev pub TurnsLeftOutAreQuiet : Type 0
TurnsLeftOutAreQuiet = (d : Dispatcher) (time : ℕ) → (Contains (awaited d) time → ⊥) → (heard : List Range) →
    IsQuiet (record d { heard = heard }) time

-- a report, if there is one, has at most k faults
abbrev pub TellsFew : ℕ → Option Running → Type 0
TellsFew k run = IfSome run (λ (run : Running). IfSome run.report (λ (e : Ended). e.faults ≤ k))

-- each awaited time is a candidate: a node that takes all turns may take one at it
abbrev pub AwaitedAreCandidates : Type 0
AwaitedAreCandidates = (d : Dispatcher) → IsTable d.table → All (TellsFew d.table.faults) d.running → (time : ℕ) →
    Contains (awaited d) time → Contains (candidates d) time
