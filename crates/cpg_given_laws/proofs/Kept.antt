-- A graph that gives the order of a compile is compiled under it, to tables that ask the same.
use Rattle.std.proofs.Common.{ℕ, ◌≡◌, ◌↔◌, List, Some, None, inl, inr, refl, sym, ap, ◌∙◌, subst, unwrap_or}
use Rattle.std.proofs.lemmas.Option.{none-some}
use Rattle.cpg_base.specs.Graph.{Graph}
use Rattle.cpg_base.specs.Scenario.{Scenario, IsScenario}
use Rattle.cpg_order.specs.Urgency.{IsTopological, first_order}
use Rattle.cpg_rules.specs.Guards.{Guards}
use Rattle.cpg_rules.specs.Admission.{IsAdmitted}
use Rattle.cpg_table.specs.Table.{at}
use Rattle.cpg_run.specs.declared.built.Built.{Built}
use Rattle.cpg_run.specs.Built.{IsBuiltFor}
use Rattle.cpg_run.specs.Finish.{IsWorst}
use Rattle.cpg_run.specs.Run.{IsRun}
use Rattle.cpg_run.proofs.FrozenUnique.{frozen_unique}
use Rattle.cpg_run.proofs.RunExists.{a_run}
use Rattle.cpg_reach.specs.Wide.{IsNarrow}
use Rattle.cpg_core.specs.declared.compiling.Compiled.{Compiled}
use Rattle.cpg_core.specs.declared.fault.CompileFault.{CompileFault}
use Rattle.cpg_core.specs.declared.fault.CompileFault.TheVariants.{TooWide, Late, OutOfMemory}
use Rattle.cpg_core.specs.Compilation.{IsCompilation, ShowsCompileFault}
use Rattle.cpg_core.specs.CompileLaws.{AskTheSame}
use Rattle.cpg_core.specs.Compiled.{IsMeasured, IsPreferred, IsCompileOrder, IsCompiled}
use Rattle.cpg_core.proofs.BuiltUnique.{one_worst}
use Rattle.cpg_core.proofs.CompiledLaws.{compile_topological, not_late_and_compiled}
use Rattle.cpg_given_laws.specs.Kept.{with_order, KeepsTables}
use Rattle.cpg_given_laws.proofs.Runs.{other, run_of_other}
use Rattle.cpg_given_laws.proofs.Measures.{scenario_of_other, frozen_back, worst_back, measured_of_other}
use Rattle.cpg_given_laws.proofs.Width.{narrow_of_other}
use Rattle.cpg_given_laws.proofs.Admission.{formed_of_other, topological_of_other, admitted_with}

-- the greatest excess and finish under an order don't depend on the order that the graph gives
pub same_measures : (g : Graph) (urgency given order : List ℕ) (excess worst : ℕ) →
    IsMeasured (with_order g given) urgency order excess worst ↔ IsMeasured g urgency order excess worst
same_measures g urgency given order excess worst = (
  measured_of_other (other g (Some given)) g.order urgency order excess worst,
  measured_of_other g (Some given) urgency order excess worst,
)

-- an admitted graph that gives no order, and a compile of it
module _ (g : Graph) (urgency : List ℕ) (guards : Guards) (c : Compiled) (is : IsAdmitted g urgency guards)
    (ungiven : g.order ≡ None) (made : IsCompilation g urgency c) where
  -- the first order of the graph, which gives none, is the urgency order
  first_is : first_order g urgency ≡ urgency
  first_is = ap (λ o. unwrap_or o urgency) ungiven

  -- the order of the compile is topological
  topological : IsTopological g c.order
  topological = compile_topological g is.well_formed urgency is.topological
      (subst (IsTopological g) (sym first_is) is.topological) c.order made.compiled.taken

  -- no item is too wide under it
  narrow : IsNarrow g c.order
  narrow = elim made.compiled.taken [
    | inl preferred ↦ preferred.narrow
    | inr first ↦ subst (IsNarrow g) (sym first.0) (made.compiled.narrow ungiven)
  ]

  -- the graph with this order is admitted, too
  admitted : IsAdmitted (with_order g c.order) urgency guards
  admitted = admitted_with g urgency c.order guards is topological

  -- no order is preferred to one that is given
  none_preferred : (order : List ℕ) → IsPreferred (with_order g c.order) urgency order → ⊥
  none_preferred order preferred = none-some c.order (sym preferred.ungiven)

  -- so its compile takes this order
  taken : (order : List ℕ) → IsCompileOrder (with_order g c.order) urgency order ↔ (order ≡ c.order)
  taken order = (
    λ taken_order. elim taken_order [
      | inl preferred ↦ absurd (none_preferred order preferred)
      | inr first ↦ first.0
    ],
    λ equal. inr (equal, none_preferred),
  )

  -- the graph that gives the order compiles under it
  compiled : IsCompiled (with_order g c.order) urgency c.order
  compiled = record {
    narrow = λ none. absurd (none-some c.order (sym none));
    taken = (taken c.order).1 refl;
    in_time = let measures = made.compiled.in_time in
        (measures.0, measured_of_other g (Some c.order) urgency c.order 0 measures.0 measures.1);
  }

  -- so a compile of it can only fail for memory
  no_fault : (fault : CompileFault) → ShowsCompileFault (with_order g c.order) urgency fault → fault ≡ OutOfMemory
  no_fault (TooWide x) shows = absurd (narrow_of_other g (Some c.order) c.order narrow x shows.0.wide)
  no_fault (Late s p finish) shows =
      absurd (not_late_and_compiled (with_order g c.order) (formed_of_other g (Some c.order) is.well_formed) urgency
      (topological_of_other g (Some c.order) urgency is.topological)
      (topological_of_other g (Some c.order) c.order topological) c.order shows.0 compiled)
  no_fault OutOfMemory shows = refl

  -- ---- tables under one order

  -- given what a build made under the order of the compile
  module _ (b : Built) (built : IsBuiltFor (with_order g c.order) urgency c.order b) where
    -- its frozen times are those of the compile
    same_frozen : c.built.frozen ≡ b.frozen
    same_frozen = frozen_unique g c.order topological c.built.frozen b.frozen made.built.frozen
        (frozen_back g (Some c.order) c.order b.frozen built.frozen)

    -- so are its greatest finish, with the scenario and the process
    same_worst : (c.built.worst ≡ b.worst) × (c.built.worst_in ≡ b.worst_in) × (c.built.worst_by ≡ b.worst_by)
    same_worst = one_worst g urgency is.topological.all c.order topological c.built.frozen c.built.worst b.worst
        c.built.worst_in b.worst_in c.built.worst_by b.worst_by made.built.worst
        (subst (λ f. IsWorst g urgency c.order f b.worst b.worst_in b.worst_by) (sym same_frozen)
        (worst_back g (Some c.order) c.order b.frozen urgency b.worst b.worst_in b.worst_by built.worst))

    -- each item `x` has the same time in each scenario `s`, by the tables of `c` and of `b`
    same_times : (x : ℕ) (s : Scenario) → IsScenario g s → at c.built.tables.nodes x s ≡ at b.tables.nodes x s
    same_times x s law =
        let run = a_run g c.order c.built.frozen s topological in
        made.built.exact.times s run.0 x law run.1
        ∙ sym (built.exact.times s run.0 x (scenario_of_other g (Some c.order) s law)
        (run_of_other g (Some c.order) c.order s run.0 b.frozen
        (subst (λ f. IsRun g c.order f s run.0) same_frozen run.1)))

  -- Each compile of it has the same order, and tables that ask the same.
  -- What is built under one order asks the same, whatever order the graph gives.
  same : (d : Compiled) → IsCompilation (with_order g c.order) urgency d → AskTheSame g c d
  same d again =
      let order : d.order ≡ c.order = (taken d.order).0 again.compiled.taken in
      let built = subst (λ o. IsBuiltFor (with_order g c.order) urgency o d.built) order again.built in
      let worst = same_worst d.built built in
      record {
        order = sym order;
        frozen = same_frozen d.built built;
        worst = worst.0;
        worst_in = worst.1;
        worst_by = worst.2;
        head = made.built.head ∙ sym again.built.head;
        times = same_times d.built built;
      }

  -- a graph that gives the order of a compile keeps the compile's tables
  pub keeps_tables : KeepsTables g urgency guards c
  keeps_tables = record { admitted = admitted; taken = taken; made = no_fault; same = same }
