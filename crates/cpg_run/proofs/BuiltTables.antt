-- Tables of found rows, with the greatest finish and excess of the runs, have all that a builder promises.
use Rattle.std.proofs.Common.{◌≡◌, ℕ, List, arith}
use Rattle.cpg_base.specs.Graph.{Graph}
use Rattle.cpg_base.specs.Limits.{IsWithinLimits}
use Rattle.cpg_order.specs.Urgency.{IsTopological}
use Rattle.cpg_order.proofs.ReachExists.{some_reach}
use Rattle.cpg_rules.specs.Guards.{Guards}
use Rattle.cpg_rules.specs.Admission.{IsAdmitted}
use Rattle.cpg_table.specs.Table.{Row}
use Rattle.cpg_table.proofs.GraphTables.{has_shape}
use Rattle.cpg_run.specs.declared.built.Built.{Built}
use Rattle.cpg_run.specs.Alike.{Admitted}
use Rattle.cpg_run.specs.Built.{IsBuiltFor}
use Rattle.cpg_run.specs.Carrying.{AreExactAndLawful}
use Rattle.cpg_run.specs.Found.{AreTablesFound, FoundTablesAreBuilt}
use Rattle.cpg_run.specs.Laws.{NothingIsLate}
use Rattle.cpg_run.proofs.Written.{lawful}

-- an admitted graph is admitted under any topological order
pub admitted_under : (g : Graph) (urgency order : List ℕ) (guards : Guards) → IsAdmitted g urgency guards →
    IsTopological g order →
    Admitted g urgency order
admitted_under g urgency order guards a topological =
    record { formed = a.well_formed; joins = a.joins; urgent = a.urgency; topological = topological }

-- such an answer has each field of `IsBuiltFor`: what is exact and which rules are kept follows from the rows by `lawful`, the
-- rest is what was found
built : (g : Graph) (urgency order : List ℕ) (rows : List Row) (b : Built) → IsWithinLimits g →
    (a : Admitted g urgency order) → AreTablesFound g urgency order rows b →
    IsBuiltFor g urgency order b
built g urgency order rows b within a are =
    let nodes = b.tables.nodes in
    let reach = some_reach g order a.topological in
    let law : AreExactAndLawful g urgency order b.frozen reach.0 nodes =
    lawful g within urgency order a b.frozen rows are.found nodes are.written.columns reach.0 reach.1 in
    record {
      head = are.written.head;
      shape = has_shape g within nodes are.written.lawful;
      frozen = are.found.frozen_times;
      reach = reach.0;
      reached = reach.1;
      exact = law.exact;
      views = law.views within.few_processes;
      worst = are.worst;
      excess = are.excess;
      rules = law.rules;
      due = λ none. law.dues (late none);
      hears = are.written.hears;
    }
  where
    -- if the greatest excess is 0, no run has an end past its due
    late : b.excess ≡ 0 → NothingIsLate g order b.frozen
    late none s t legal run = omega (arith, are.excess.greatest s t legal run, none)

-- tables that are found are what a builder answers with
pub found_tables_are_built : FoundTablesAreBuilt
found_tables_are_built g urgency order rows b within a are = built g urgency order rows b within a are
