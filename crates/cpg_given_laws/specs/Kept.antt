-- What a graph's tables ask when its file gives the order for which they were made.
use Rattle.std.specs.Prelude.{ℕ, ◌≡◌, ◌↔◌, List, None, Some}
use Rattle.cpg_base.specs.Graph.{Graph}
use Rattle.cpg_rules.specs.Guards.{Guards}
use Rattle.cpg_rules.specs.Admission.{IsAdmitted}
use Rattle.cpg_core.specs.Measured.{IsMeasured}
use Rattle.cpg_core.specs.declared.compiling.Compiled.{Compiled}
use Rattle.cpg_core.specs.declared.fault.CompileFault.{CompileFault}
use Rattle.cpg_core.specs.declared.fault.CompileFault.TheVariants.{OutOfMemory}
use Rattle.cpg_core.specs.Compilation.{IsCompilation, ShowsCompileFault}
use Rattle.cpg_core.specs.CompileLaws.{AskTheSame}
use Rattle.cpg_core.specs.Compiled.{IsCompileOrder}

-- a graph as it is, except that its file gives this order at the key `order`; items and scenarios are the same
abbrev pub with_order : Graph → List ℕ → Graph
with_order g order = record g { order = Some order }

-- The graph that gives a compile's order is admitted, with the same urgency order, by which scenarios are compared, and
-- the same guards. The given order is taken, and no other. The graph is neither too wide nor late: its compile makes
-- tables, or is out of memory. Any tables that it makes ask the same in every scenario, and have the same frozen times
-- and greatest finish.
pub record KeepsTables (g : Graph) (urgency : List ℕ) (guards : Guards) (c : Compiled) : Type 0 where
  -- it is admitted with the same urgency order and guards, and its compile takes the given order
  pub admitted : IsAdmitted (with_order g c.order) urgency guards
  pub taken : (order : List ℕ) → IsCompileOrder (with_order g c.order) urgency order ↔ (order ≡ c.order)
  -- its compile fails only if memory runs out
  pub made : (fault : CompileFault) → ShowsCompileFault (with_order g c.order) urgency fault → fault ≡ OutOfMemory
  -- any other compilation of it asks for the same
  pub same : (d : Compiled) → IsCompilation (with_order g c.order) urgency d → AskTheSame g c d

-- This holds for each admitted graph that gives no order, and for each compile of it.
abbrev pub GivenOrdersKeepTables : Type 0
GivenOrdersKeepTables =
    (g : Graph) (urgency : List ℕ) (guards : Guards) (c : Compiled) → IsAdmitted g urgency guards → g.order ≡ None →
    IsCompilation g urgency c → KeepsTables g urgency guards c

-- The order that a graph gives doesn't change how late the graph is under any order: the greatest excess and the
-- greatest finish are the same.
abbrev pub GivenOrdersKeepMeasures : Type 0
GivenOrdersKeepMeasures = (g : Graph) (urgency given order : List ℕ) (excess worst : ℕ) →
    IsMeasured (with_order g given) urgency order excess worst ↔ IsMeasured g urgency order excess worst
