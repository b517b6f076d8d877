-- What builders answer under both orders is a compilation if nothing is late, and else shows what is.
use Rattle.std.proofs.Common.{◌≡◌, ◌+◌, ◌-◌, ◌<◌, ◌≤◌, ◌∙◌, ℕ, zero, suc, List, [], ◌∷◌, Option, Some, None, Contains}
use Rattle.std.proofs.Common.{unwrap_or, option_to_list, flat_map, length, get_or, refl, sym, ap, subst, inl}
use Rattle.std.proofs.Common.{inr, arith}
use Rattle.std.proofs.lemmas.Bool.{cases_lt}
use Rattle.std.proofs.lemmas.List.{get_or_past}
use Rattle.std.proofs.lemmas.List.Elements.{Contains-append_left, Contains-append_right}
use Rattle.std.proofs.lemmas.List.FromFn.{length-map-range_with_len}
use Rattle.std.proofs.lemmas.Option.{none-some}
use Rattle.cpg_base.specs.Graph.{Graph, process_count}
use Rattle.cpg_base.specs.Duration.{due}
use Rattle.cpg_base.proofs.Lists.{greatest_above, Contains-first}
use Rattle.cpg_table.specs.Valid.{IsValid}
use Rattle.cpg_table.specs.declared.rule.Rule.{Rule}
use Rattle.cpg_base.specs.WellFormed.{WellFormed, HasSingleJoins}
use Rattle.cpg_order.specs.Urgency.{IsTopological, IsUrgencyOrder, first_order}
use Rattle.cpg_reach.specs.Wide.{IsNarrow}
use Rattle.cpg_core.specs.Compiled.{IsCompileOrder, IsMeasured, IsLateUnder, IsInTimeUnder}
use Rattle.cpg_core.specs.Compilation.{IsCompilation}
use Rattle.cpg_core.proofs.Local.{know_locally}
use Rattle.cpg_core.specs.declared.expanding.Grown.{Grown}
use Rattle.cpg_tree_columns.specs.declared.measuring.Peak.{Peak}
use Rattle.cpg_core.specs.GrownFor.{IsGrownFor}
use Rattle.cpg_core.specs.WideRows.{DoTablesFit}
use Rattle.cpg_run.specs.declared.built.Built.{Built}
use Rattle.cpg_run.specs.Built.{IsBuiltFor}
use Rattle.cpg_run.specs.Laws.{Keeps}
use Rattle.cpg_run.specs.Finish.{IsExcess, IsLeastExceeding}
use Rattle.cpg_run.specs.Run.{Times, IsRun, end_in, end_by}

-- tables that a builder answers are valid if nothing is late
pub built_valid : (g : Graph) (urgency order : List ℕ) (b : Built) → IsBuiltFor g urgency order b → b.excess ≡ 0 →
    IsValid g b.tables.nodes
built_valid g urgency order b is none = record {
  rules = λ rule x column s lawful within. kept rule s lawful x within column;
  hears = is.hears;
}
  where
    -- V9 is kept since nothing is late, and the other rules by any builder's tables
    kept : (rule : Rule) → Keeps rule g b.tables.nodes
    kept Rule.Due = is.due none
    kept rule = is.rules rule (λ is_due. cc)

-- nothing is late if no process is shown
pub nothing_late : (g : Graph) (urgency order : List ℕ) (frozen : List (Option ℕ)) (peak : Peak) →
    IsExcess g urgency order frozen peak.time peak.scenario peak.process →
    peak.process ≡ None →
    peak.time ≡ 0
nothing_late g urgency order frozen peak is none =
    let run = is.least.holds in
    subst (IsLeastExceeding g run.0 peak.time) none (is.by run.0 run.1)

-- an end of a process is one of the list of all ends
end_listed : (os : List (Option ℕ)) (p e : ℕ) → get_or os p None ≡ Some e → Contains (flat_map option_to_list os) e
end_listed [] p e has_end = absurd (none-some e has_end)
end_listed (o ∷ os) zero e has_end = Contains-append_left (option_to_list o) (flat_map option_to_list os) e
    (subst (λ q. Contains (option_to_list q) e) (sym has_end) (Contains-first e []))
end_listed (o ∷ os) (suc p) e has_end =
    Contains-append_right (option_to_list o) (flat_map option_to_list os) e (end_listed os p e has_end)

-- the end of the process that is shown, in the scenario that is shown
module _ (g : Graph) (urgency order : List ℕ) (b : Grown) (is : IsGrownFor g urgency order b) (p : ℕ)
    (late : b.excess.process ≡ Some p) where
  -- the run in which the greatest excess comes about
  abbrev pub late_times : Times
  late_times = is.excess.least.holds.0

  -- the scenario that is shown has the run of its late times
  pub late_run : IsRun g order b.trees.frozen b.excess.scenario late_times
  late_run = is.excess.least.holds.1

  -- p is the least process that exceeds its due so in this run
  exceeds : IsLeastExceeding g late_times b.excess.time (Some p)
  exceeds = subst (IsLeastExceeding g late_times b.excess.time) late (is.excess.by late_times late_run)

  -- an end that is past its due is there
  some_end : (o : Option ℕ) (d : ℕ) → 0 < unwrap_or o 0 - d → o ≡ Some (unwrap_or o 0)
  some_end None d past = absurd (omega (arith, past))
  some_end (Some e) d past = refl

  -- p ends there past its due by the excess
  end_is : end_in late_times p ≡ due g p + b.excess.time
  end_is = omega (arith, exceeds.0, exceeds.1)

  -- the late process ends there as far past its due as the excess says
  pub late_end : get_or late_times.ends p None ≡ Some (due g p + b.excess.time)
  late_end = some_end (get_or late_times.ends p None) (due g p) (omega (arith, exceeds.0, exceeds.1)) ∙ ap Some end_is

  -- The late process is one of the graph.
  -- It has an end in the run, and there are no more ends than processes.
  pub late_process : p < process_count g
  late_process = elim (cases_lt p (length late_times.ends)) [
    | inl less ↦ omega (
      arith,
      less,
      ap length late_run.ends,
      length-map-range_with_len (end_by g b.excess.scenario late_times) 0 (process_count g),
    )
    | inr not_less ↦ absurd (none-some (due g p + b.excess.time) (sym (get_or_past late_times.ends p None not_less)
        ∙ late_end))
  ]

  -- The end of a late process is no later than the greatest finish.
  -- It is among the ends of its run, and the finish of that run is no later.
  pub late_small : due g p + b.excess.time ≤ b.worst.time
  late_small = omega (
    arith,
    is.worst.greatest b.excess.scenario late_times is.excess.least.lawful late_run,
    greatest_above (flat_map option_to_list late_times.ends) (due g p + b.excess.time)
        (end_listed late_times.ends p (due g p + b.excess.time) late_end),
    late_run.finish,
  )

-- ---- both orders

-- what a builder answers measures the order
pub measured : (g : Graph) (urgency order : List ℕ) (b : Built) → IsBuiltFor g urgency order b →
    IsMeasured g urgency order b.excess b.worst
measured g urgency order b is = record {
  frozen = b.frozen;
  frozen_times = is.frozen;
  excess_in = b.excess_in;
  excess_by = b.excess_by;
  is_excess = is.excess;
  worst_in = b.worst_in;
  worst_by = b.worst_by;
  is_worst = is.worst;
}

-- what is found before the tables are made measures the order
pub found_measured : (g : Graph) (urgency order : List ℕ) (t : Grown) → IsGrownFor g urgency order t →
    IsMeasured g urgency order t.excess.time t.worst.time
found_measured g urgency order t is = record {
  frozen = t.trees.frozen;
  frozen_times = is.frozen;
  excess_in = t.excess.scenario;
  excess_by = t.excess.process;
  is_excess = is.excess;
  worst_in = t.worst.scenario;
  worst_by = t.worst.process;
  is_worst = is.worst;
}

-- an excess above 0 makes the order late
pub late_under : (g : Graph) (urgency order : List ℕ) (t : Grown) → IsGrownFor g urgency order t → 0 < t.excess.time →
    IsLateUnder g urgency order
late_under g urgency order t is exceeds = (t.excess.time, t.worst.time, found_measured g urgency order t is, exceeds)

-- if the tables have no excess, the order is in time
pub in_time_under : (g : Graph) (urgency order : List ℕ) (b : Built) → IsBuiltFor g urgency order b → b.excess ≡ 0 →
    IsInTimeUnder g urgency order
in_time_under g urgency order b is no_excess =
    (b.worst, subst (λ n. IsMeasured g urgency order n b.worst) no_excess (measured g urgency order b is))

-- some process is shown if the excess is above 0
pub some_shown : (g : Graph) (urgency order : List ℕ) (t : Grown) → IsGrownFor g urgency order t → 0 < t.excess.time →
    t.excess.process ≡ None → ⊥
some_shown g urgency order t is exceeds no_process =
    omega (arith, nothing_late g urgency order t.trees.frozen t.excess is.excess no_process)

-- given: a well-formed graph without joins of two live inputs (`joins`), and its urgency order
-- `first_top`: its first order is topological; `narrow`: if it gives no order, no item is too wide under that
module _ (g : Graph) (well_formed : WellFormed g) (urgency : List ℕ) (top : IsTopological g urgency)
    (first_top : IsTopological g (first_order g urgency))
    (narrow : g.order ≡ None → IsNarrow g (first_order g urgency))
    (joins : HasSingleJoins g) (by : IsUrgencyOrder g urgency) where
  -- tables that are built under that order are its compilation
  pub compilation : (order : List ℕ) → IsCompileOrder g urgency order → (b : Built) → IsBuiltFor g urgency order b →
      DoTablesFit g b.tables.nodes → b.excess ≡ 0 →
      IsCompilation g urgency (record { built = b; order = order })
  compilation order taken b built fit no_excess = record {
    compiled = record { narrow = narrow; taken = taken; in_time = in_time_under g urgency order b built no_excess };
    built = built;
    in_time = no_excess;
    valid = built_valid g urgency order b built no_excess;
    fit = fit;
    local = know_locally g well_formed joins urgency by top first_top order taken b built;
  }
