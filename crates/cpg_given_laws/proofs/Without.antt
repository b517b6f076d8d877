-- A graph that gives no order is compiled as if there were no key.
use Rattle.std.proofs.Common.{ℕ, ◌≡◌, ◌∙◌, List, None, Some, sym, ap, subst, inl, inr}
use Rattle.std.specs.Prelude.{◌↔◌, unwrap_or}
use Rattle.cpg_base.specs.Graph.{Graph}
use Rattle.cpg_base.specs.Scenario.{Scenario}
use Rattle.cpg_order.specs.Urgency.{first_order}
use Rattle.cpg_run.specs.Frozen.{AreFrozenTimes}
use Rattle.cpg_run.specs.Finish.{IsExcess}
use Rattle.cpg_run.specs.Run.{IsRun}
use Rattle.cpg_reach.specs.Wide.{IsNarrow, IsLeastWide}
use Rattle.cpg_core.specs.declared.fault.CompileFault.TheVariants.{TooWide}
use Rattle.cpg_core.specs.Compilation.{ShowsCompileFault}
use Rattle.cpg_core.specs.Compiled.{IsMeasured, IsLateUnder, IsPreferred, IsCompileOrder, IsCompiled, IsLate}
use Rattle.cpg_core.specs.Compiled.{IsShownLate}
use Rattle.cpg_given_laws.specs.Without.{IsTrackOrderPreferred, IsBetterOfTwo, IsCompiledByTwo, IsLateByTwo}
use Rattle.cpg_given_laws.specs.Without.{IsShownLateByUrgency, NothingChangesWithoutTheKey}

-- given a graph that gives no order, and an urgency order
module _ (g : Graph) (urgency : List ℕ) (none : g.order ≡ None) where
  -- the first order is the urgency order
  first : first_order g urgency ≡ urgency
  first = ap (λ o. unwrap_or o urgency) none

  -- what holds of the first order holds of the urgency order
  back : (P : List ℕ → Type 0) → P (first_order g urgency) → P urgency
  back P p = subst P first p

  -- what holds of the urgency order holds of the first order
  forth : (P : List ℕ → Type 0) → P urgency → P (first_order g urgency)
  forth P p = subst P (sym first) p

  -- an order is preferred only as the track order
  preferred : (order : List ℕ) → IsPreferred g urgency order → IsTrackOrderPreferred g urgency order
  preferred order is_preferred = record {
    track = is_preferred.track;
    narrow = is_preferred.narrow;
    excess = is_preferred.excess;
    worst = is_preferred.worst;
    measured = is_preferred.measured;
    urgency_excess = is_preferred.first_excess;
    urgency_worst = is_preferred.first_worst;
    urgency_measured = back (λ o. IsMeasured g urgency o is_preferred.first_excess is_preferred.first_worst)
        is_preferred.first_measured;
    better = is_preferred.better;
  }

  -- the track order that is better is preferred, since the graph gives no order
  preferred_back : (order : List ℕ) → IsTrackOrderPreferred g urgency order → IsPreferred g urgency order
  preferred_back order is_preferred = record {
    ungiven = none;
    track = is_preferred.track;
    narrow = is_preferred.narrow;
    excess = is_preferred.excess;
    worst = is_preferred.worst;
    measured = is_preferred.measured;
    first_excess = is_preferred.urgency_excess;
    first_worst = is_preferred.urgency_worst;
    first_measured = forth (λ o. IsMeasured g urgency o is_preferred.urgency_excess is_preferred.urgency_worst)
        is_preferred.urgency_measured;
    better = is_preferred.better;
  }

  -- the compile's order is the better of the two
  taken : (order : List ℕ) → IsCompileOrder g urgency order ↔ IsBetterOfTwo g urgency order
  taken order = (
    λ t. elim t [
      | inl is_preferred ↦ inl (preferred order is_preferred)
      | inr is_first ↦ inr (
        is_first.0 ∙ first,
        λ other is_preferred. is_first.1 other (preferred_back other is_preferred),
      )
    ],
    λ t. elim t [
      | inl is_preferred ↦ inl (preferred_back order is_preferred)
      | inr is_first ↦ inr (
        is_first.0 ∙ sym first,
        λ other is_preferred. is_first.1 other (preferred other is_preferred),
      )
    ],
  )

  -- so a compile is one by these two orders
  compiled : (order : List ℕ) → IsCompiled g urgency order ↔ IsCompiledByTwo g urgency order
  compiled order = (
    λ is_compiled. record {
      narrow = back (IsNarrow g) (is_compiled.narrow none);
      taken = (taken order).0 is_compiled.taken;
      in_time = is_compiled.in_time;
    },
    λ is_compiled. record {
      narrow = λ _. forth (IsNarrow g) is_compiled.narrow;
      taken = (taken order).1 is_compiled.taken;
      in_time = is_compiled.in_time;
    },
  )

  -- the graph is late by the compile's definition exactly if it is by the one that knows of these two orders alone
  late : IsLate g urgency ↔ IsLateByTwo g urgency
  late = (
    λ is_late. record {
      narrow = back (IsNarrow g) (is_late.narrow none);
      late = back (IsLateUnder g urgency) is_late.late;
      helpless = elim is_late.helpless [ inl given ↦ absurd (given none) | inr no_help ↦ no_help ];
    },
    λ is_late. record {
      narrow = λ _. forth (IsNarrow g) is_late.narrow;
      late = forth (IsLateUnder g urgency) is_late.late;
      helpless = inr is_late.helpless;
    },
  )

  -- what a late compile shows is what is late under the urgency order, and the other way
  shown : (s : Scenario) (p time : ℕ) → IsShownLate g urgency s p time ↔ IsShownLateByUrgency g urgency s p time
  shown s p time = (
    -- the first order is the urgency order here, so what is under the one is under the other
    λ shows. record {
      frozen = shows.frozen;
      frozen_times = back (λ o. AreFrozenTimes g o shows.frozen) shows.frozen_times;
      excess = shows.excess;
      is_excess = back (λ o. IsExcess g urgency o shows.frozen shows.excess s (Some p)) shows.is_excess;
      times = shows.times;
      run = back (λ o. IsRun g o shows.frozen s shows.times) shows.run;
      ends = shows.ends;
    },
    -- what is shown by the urgency order is shown by the first order
    λ shows. record {
      frozen = shows.frozen;
      frozen_times = forth (λ o. AreFrozenTimes g o shows.frozen) shows.frozen_times;
      excess = shows.excess;
      is_excess = forth (λ o. IsExcess g urgency o shows.frozen shows.excess s (Some p)) shows.is_excess;
      times = shows.times;
      run = forth (λ o. IsRun g o shows.frozen s shows.times) shows.run;
      ends = shows.ends;
    },
  )

  -- the compile says that an item is too wide exactly if it is the first that is so under the urgency order
  wide : (x : ℕ) → ShowsCompileFault g urgency (TooWide x) ↔ IsLeastWide g urgency x
  wide x = (
    λ least. back (λ o. IsLeastWide g o x) least.0,
    λ least. (forth (λ o. IsLeastWide g o x) least, λ given. absurd (given none)),
  )

-- a graph that gives no order is compiled as these words say
pub nothing_changes_without_the_key : NothingChangesWithoutTheKey
nothing_changes_without_the_key g urgency none =
    record {
      taken = taken g urgency none;
      compiled = compiled g urgency none;
      late = late g urgency none;
      shown = shown g urgency none;
      wide = wide g urgency none;
    }
