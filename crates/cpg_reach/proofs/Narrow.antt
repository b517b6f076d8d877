-- If no item is wide under an order, none is too wide by any reach of it.
use Rattle.std.proofs.Common.{ℕ, ◌<◌, ◌≡◌, false, List, inl, inr}
use Rattle.std.proofs.lemmas.Bool.{cases_Bool}
use Rattle.cpg_base.specs.Graph.{Graph, item_count}
use Rattle.cpg_order.specs.Reach.{Reach, IsReach, is_too_wide}
use Rattle.cpg_reach.specs.Wide.{IsNarrow}

-- if no item is wide under the order, item x isn't too wide by a reach of it
pub none_too_wide : (g : Graph) (order : List ℕ) → IsNarrow g order → (r : Reach) → IsReach g order r → (x : ℕ) →
    x < item_count g →
    is_too_wide g r x ≡ false
none_too_wide g order narrow r is x inside = elim (cases_Bool (is_too_wide g r x)) [
  | inl wide ↦ absurd (narrow x (record { reach = r; reached = is; within = inside; wide = wide }))
  | inr fits ↦ fits
]
