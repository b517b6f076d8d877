-- Proof of `wide_if_urgent`: returns the least item that is too wide by its views under the urgency order, and `None`
-- if the graph gives an order or no item is too wide.
use Rattle.std.proofs.Common.{◌≡◌, ℕ, Option, Some, None, IfNone, subst}
use Rattle.cpg_order.specs.Urgency.{first_order}
use Rattle.cpg_reach.specs.Wide.{IsNarrow}
use Rattle.cpg_core.proofs.choosing.wide_if_urgent.Goals as goal

-- if P gives Q, and P holds if r is None, then Q does
if_none : (r : Option ℕ) (P Q : Type 0) → (P → Q) → IfNone r P → IfNone r Q
if_none None P Q f h = f h
if_none (Some x) P Q f h = h

-- no item is found, so none is too wide under the first order if the graph gives none
pub returns-clause-none : goal.returns-clause-none
returns-clause-none c =
    let g = c.args.admitted.now.graph in
    let order = first_order g c.args.admitted.now.order in
    if_none c.in_ok-found.found (IsNarrow g c.first_order.result.now) (g.order ≡ None → IsNarrow g order)
    (λ narrow ungiven. subst (IsNarrow g) c.first_order.ensures.order narrow) c.in_ok-found.ensures.none
