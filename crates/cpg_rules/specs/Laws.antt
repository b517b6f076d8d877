-- The law on guards that a contract carries.
use Rattle.std.specs.Prelude.{ℕ, ◌≡◌, Bool, List, length}
use Rattle.cpg_base.specs.Graph.{Graph, condition_count}
use Rattle.cpg_order.specs.Urgency.{IsUrgencyOrder, IsTopological}
use Rattle.cpg_order.specs.Guard.{Guard, way, IsGuardOf, deciding_along}

-- The conditions that an outcome's way through a process's tree tests are those that decide the process in that
-- outcome, in urgency order.
abbrev pub WaysAreDeciding : Type 0
WaysAreDeciding = (g : Graph) (order : List ℕ) (p : ℕ) (tree : Guard) (values : List Bool) → IsUrgencyOrder g order →
    IsTopological g order →
    IsGuardOf g order p tree → length values ≡ condition_count g → way tree values ≡ deciding_along g order values p
