-- Two compilations of a graph ask the same.
use Rattle.std.proofs.Common.{ℕ, ◌≡◌, ◌∙◌, List, sym, subst}
use Rattle.cpg_base.specs.Graph.{Graph}
use Rattle.cpg_base.specs.WellFormed.{WellFormed}
use Rattle.cpg_base.specs.Scenario.{Scenario, IsScenario}
use Rattle.cpg_order.specs.Urgency.{IsTopological, first_order}
use Rattle.cpg_table.specs.Table.{at}
use Rattle.cpg_run.specs.declared.built.Built.{Built}
use Rattle.cpg_run.specs.Built.{IsBuiltFor}
use Rattle.cpg_run.specs.Finish.{IsWorst}
use Rattle.cpg_run.specs.Run.{IsRun}
use Rattle.cpg_run.proofs.FrozenUnique.{frozen_unique}
use Rattle.cpg_run.proofs.RunExists.{a_run}
use Rattle.cpg_core.specs.declared.compiling.Compiled.{Compiled}
use Rattle.cpg_core.specs.Compilation.{IsCompilation}
use Rattle.cpg_core.specs.CompileLaws.{AskTheSame}
use Rattle.cpg_core.proofs.BuiltUnique.{one_worst}
use Rattle.cpg_core.proofs.CompiledLaws.{compile_topological, one_compile_order}

-- given: a well-formed graph whose urgency order and first order are topological
module _ (g : Graph) (w : WellFormed g) (urgency : List ℕ) (top : IsTopological g urgency)
    (first_top : IsTopological g (first_order g urgency)) where
  -- given: two builds under one order
  module _ (order : List ℕ) (topological : IsTopological g order) (b d : Built) (of_b : IsBuiltFor g urgency order b)
      (of_d : IsBuiltFor g urgency order d) where
    -- they have the same frozen times
    same_frozen : b.frozen ≡ d.frozen
    same_frozen = frozen_unique g order topological b.frozen d.frozen of_b.frozen of_d.frozen

    -- they have the same greatest finish, with its scenario and process
    same_worst : (b.worst ≡ d.worst) × (b.worst_in ≡ d.worst_in) × (b.worst_by ≡ d.worst_by)
    same_worst = one_worst g urgency top.all order topological b.frozen b.worst d.worst b.worst_in d.worst_in b.worst_by
        d.worst_by of_b.worst
        (subst (λ f. IsWorst g urgency order f d.worst d.worst_in d.worst_by) (sym same_frozen) of_d.worst)

    -- each item has the same time in each scenario
    same_times : (n : ℕ) (s : Scenario) → IsScenario g s → at b.tables.nodes n s ≡ at d.tables.nodes n s
    same_times n s is =
        let run = a_run g order b.frozen s topological in
        of_b.exact.times s run.0 n is run.1
        ∙ sym (of_d.exact.times s run.0 n is (subst (λ f. IsRun g order f s run.0) same_frozen run.1))

  -- Two compilations of a graph ask the same in every scenario.
  -- Both have the compile's order, which is one, and what is built under one order asks the same.
  pub ask_the_same : (c d : Compiled) → IsCompilation g urgency c → IsCompilation g urgency d → AskTheSame g c d
  ask_the_same c d of_c of_d =
      let same : d.order ≡ c.order =
      one_compile_order g w urgency top first_top d.order c.order of_d.compiled.taken of_c.compiled.taken in
      let topological = compile_topological g w urgency top first_top c.order of_c.compiled.taken in
      let built : IsBuiltFor g urgency c.order d.built =
      subst (λ order. IsBuiltFor g urgency order d.built) same of_d.built in
      let worst = same_worst c.order topological c.built d.built of_c.built built in
      record {
        order = sym same;
        frozen = same_frozen c.order topological c.built d.built of_c.built built;
        worst = worst.0;
        worst_in = worst.1;
        worst_by = worst.2;
        head = of_c.built.head ∙ sym of_d.built.head;
        times = same_times c.order topological c.built d.built of_c.built built;
      }
