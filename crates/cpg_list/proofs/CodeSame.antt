-- What processes pass on and what items leave in queues depends only on the rows of items from earlier processes.
use Rattle.std.proofs.Common.{ℕ, ◌≤◌, List, [], get_or, Contains, subst}
use Rattle.cpg_base.specs.Graph.{Graph, producer}
use Rattle.cpg_base.proofs.Lists.{same_flat_map}
use Rattle.cpg_order.specs.Urgency.{IsTopological}
use Rattle.cpg_base.specs.Order.{place}
use Rattle.cpg_base.specs.Scenario.{Scenario}
use Rattle.cpg_cube.specs.declared.literal.Literal.{Literal}
use Rattle.cpg_cube.specs.declared.column.Column.{Column}
use Rattle.cpg_run.specs.Carried.{passed, queued}
use Rattle.cpg_list.specs.Made.{AreCubesOf, AreEndsOf, passed_by, queued_by}
use Rattle.cpg_run.specs.RowLaws.{SameRowsBefore}
use Rattle.cpg_run.specs.Rows.{IsCubeOf}
use Rattle.cpg_run.proofs.CarriedBefore.{passed_same, queued_same, end_same}

-- given: two lists of rows that are the same for items from processes before the place `bound`
module _ (g : Graph) (order : List ℕ) (topological : IsTopological g order) (rows others : List (List Column))
    (bound : ℕ) (same : SameRowsBefore g order bound rows others) where
  -- given: a cube for each scenario
  module _ (k : ℕ) (scenarios : List Scenario) (cubes : List (List Literal)) where
    -- cubes of what processes up to the place pass on by the one rows are cubes of what they pass on by the others
    pub passed_cubes : (processes : List ℕ) → ((q : ℕ) → Contains processes q → place order q ≤ bound) →
        AreCubesOf k scenarios (passed_by g rows processes) cubes →
        AreCubesOf k scenarios (passed_by g others processes) cubes
    passed_cubes processes early are = record {
      count = are.count;
      each = λ i d l. subst (λ ls. IsCubeOf k ls (get_or cubes i []))
          (same_flat_map (passed g rows (get_or scenarios i d)) (passed g others (get_or scenarios i d)) processes
          (λ q j. passed_same g order topological rows others bound same (get_or scenarios i d) q (early q j)))
          (are.each i d l);
    }

    -- the cubes of what items from processes up to the place leave in queues are the same by both lists of rows
    pub queued_cubes : (items : List ℕ) → ((y : ℕ) → Contains items y → place order (producer g y) ≤ bound) →
        AreCubesOf k scenarios (queued_by g order rows items) cubes →
        AreCubesOf k scenarios (queued_by g order others items) cubes
    queued_cubes items early are = record {
      count = are.count;
      each = λ i d l. subst (λ ls. IsCubeOf k ls (get_or cubes i []))
          (same_flat_map (queued g order rows (get_or scenarios i d))
          (queued g order others (get_or scenarios i d)) items
          (λ y j. queued_same g order topological rows others bound same (get_or scenarios i d) y (early y j)))
          (are.each i d l);
    }

  -- the cubes of what is carried at the ends of a process up to the place are the same by both lists of rows
  pub ends_cubes : (scenarios : List Scenario) (p : ℕ) (cubes : List (List Literal)) → place order p ≤ bound →
      AreEndsOf g order rows scenarios p cubes →
      AreEndsOf g order others scenarios p cubes
  ends_cubes scenarios p cubes early are = record {
    count = are.count;
    each = λ i d l on. subst (λ ls. IsCubeOf g.faults ls (get_or cubes i []))
        (end_same g order topological rows others bound same (get_or scenarios i d) p early) (are.each i d l on);
  }
