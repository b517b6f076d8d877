-- Frozen times that keep to what their items could have are early.
use Rattle.std.proofs.Common.{◌≡◌, ◌∙◌, ℕ, List, length, Option, None, arith, sym, inl, inr}
use Rattle.std.proofs.lemmas.Bool.{cases_lt}
use Rattle.std.proofs.lemmas.List.{get_or_past}
use Rattle.std.proofs.lemmas.Option.{none-some}
use Rattle.cpg_base.specs.Graph.{Graph, item_count}
use Rattle.cpg_base.specs.Limits.{IsWithinLimits}
use Rattle.cpg_order.specs.Urgency.{IsTopological}
use Rattle.cpg_order.proofs.Moments.{moment_before_last}
use Rattle.cpg_run.specs.Known.{AreEarly}
use Rattle.cpg_run.proofs.Rising.{AreLow, last_le}

-- frozen times no later than their items could be, above a base of 0, are below 2 ^ 58
pub early_from_low : (g : Graph) (order : List ℕ) (frozen : List (Option ℕ)) → IsWithinLimits g →
    IsTopological g order → length frozen ≡ item_count g → AreLow 0 g order frozen → AreEarly frozen
early_from_low g order frozen within topological count low x time e = elim (cases_lt x (item_count g)) [
  | inl less ↦ omega (arith, low.low x time less e, moment_before_last g order topological x less, last_le g within)
  | inr at_least ↦ absurd (none-some time (sym (get_or_past frozen x None (omega arith)) ∙ e))
]
