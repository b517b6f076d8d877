-- What a compile answers for a graph that gives no order, in words that know nothing of given orders.
use Rattle.std.specs.Prelude.{ℕ, ◌≡◌, ◌⊎◌, ◌↔◌, List, Option, None, Some, get_or}
use Rattle.cpg_base.specs.Graph.{Graph}
use Rattle.cpg_base.specs.Scenario.{Scenario}
use Rattle.cpg_run.specs.Run.{Times, IsRun}
use Rattle.cpg_run.specs.Frozen.{AreFrozenTimes}
use Rattle.cpg_run.specs.Finish.{IsExcess}
use Rattle.cpg_reach.specs.Wide.{IsWide, IsNarrow, IsLeastWide}
use Rattle.cpg_tracks.specs.Tracks.{HasTrackOrder, HasManyTracks}
use Rattle.cpg_core.specs.declared.fault.CompileFault.TheVariants.{TooWide}
use Rattle.cpg_core.specs.Compilation.{ShowsCompileFault}
use Rattle.cpg_core.specs.Compiled.{IsMeasured, IsBetter, IsLateUnder, IsInTimeUnder, IsCompileOrder, IsCompiled}
use Rattle.cpg_core.specs.Compiled.{IsLate, IsShownLate}

-- the track order is taken rather than the urgency order
pub record IsTrackOrderPreferred (g : Graph) (urgency order : List ℕ) : Type 0 where
  -- the order is the track order
  pub track : HasTrackOrder g order
  -- no item is too wide by its views under it
  pub narrow : IsNarrow g order
  -- its excess and its finish
  pub excess : ℕ
  pub worst : ℕ
  pub measured : IsMeasured g urgency order excess worst
  -- those of the urgency order
  pub urgency_excess : ℕ
  pub urgency_worst : ℕ
  pub urgency_measured : IsMeasured g urgency urgency urgency_excess urgency_worst
  -- less excess, or as much and an earlier finish
  pub better : IsBetter excess worst urgency_excess urgency_worst

-- the order is the track order if that is preferred, and otherwise the urgency order
abbrev pub IsBetterOfTwo : Graph → List ℕ → List ℕ → Type 0
IsBetterOfTwo g urgency order = IsTrackOrderPreferred g urgency order ⊎
    ((order ≡ urgency) × ((other : List ℕ) → IsTrackOrderPreferred g urgency other → ⊥))

-- tables are written for the better of the two orders, under which every process ends by its due
pub record IsCompiledByTwo (g : Graph) (urgency order : List ℕ) : Type 0 where
  -- no item is too wide under the urgency order
  pub narrow : IsNarrow g urgency
  -- the order is the better of the urgency order and the track order
  pub taken : IsBetterOfTwo g urgency order
  -- nothing is late under it
  pub in_time : IsInTimeUnder g urgency order

-- no tables are written: under the urgency order some process is late, and no track order exists, or an item is too
-- wide under it, or its excess is above 0
pub record IsLateByTwo (g : Graph) (urgency : List ℕ) : Type 0 where
  -- no item is too wide under the urgency order, but something is late
  pub narrow : IsNarrow g urgency
  pub late : IsLateUnder g urgency urgency
  -- the track order doesn't help: there is none, or it is too wide or late too
  pub helpless : HasManyTracks g ⊎
      ((order : List ℕ) × HasTrackOrder g order × (((x : ℕ) × IsWide g order x) ⊎ IsLateUnder g urgency order))

-- what a late compile shows, all under the urgency order: the excess's scenario, its process, and the end of that
-- process there
pub record IsShownLateByUrgency (g : Graph) (urgency : List ℕ) (s : Scenario) (p time : ℕ) : Type 0 where
  -- the frozen times under the urgency order
  pub frozen : List (Option ℕ)
  pub frozen_times : AreFrozenTimes g urgency frozen
  -- the greatest excess under it
  pub excess : ℕ
  -- s is the least scenario with the greatest excess, and p the least process that has it there
  pub is_excess : IsExcess g urgency urgency frozen excess s (Some p)
  -- the times of a run
  pub times : Times
  -- the run is that of s, and p ends at this time in it
  pub run : IsRun g urgency frozen s times
  pub ends : get_or times.ends p None ≡ Some time

-- The definitions of a compile and those here, which know of no given order, say the same of each of its answers.
pub record IsAsWithoutTheKey (g : Graph) (urgency : List ℕ) : Type 0 where
  -- the compile's order is the better of the two
  pub taken : (order : List ℕ) → IsCompileOrder g urgency order ↔ IsBetterOfTwo g urgency order
  -- tables are written under an order by the one exactly if they are by the other
  pub compiled : (order : List ℕ) → IsCompiled g urgency order ↔ IsCompiledByTwo g urgency order
  -- the graph is late by the one exactly if it is by the other
  pub late : IsLate g urgency ↔ IsLateByTwo g urgency
  -- a late graph shows the same scenario, process and end
  pub shown : (s : Scenario) (p time : ℕ) → IsShownLate g urgency s p time ↔ IsShownLateByUrgency g urgency s p time
  -- the same item is too wide; `order` isn't given, so what is made needn't be too large as well
  pub wide : (x : ℕ) → ShowsCompileFault g urgency (TooWide x) ↔ IsLeastWide g urgency x

-- This holds for each graph that gives no order.
abbrev pub NothingChangesWithoutTheKey : Type 0
NothingChangesWithoutTheKey = (g : Graph) (urgency : List ℕ) → g.order ≡ None → IsAsWithoutTheKey g urgency
