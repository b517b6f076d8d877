-- Proof of `grow_narrow_first`: returns what is found under the first order, under which no item is too wide by its
-- views.
use Rattle.std.proofs.Common.{◌∙◌, sym, subst}
use Rattle.cpg_reach.specs.Wide.{IsNarrow}
use Rattle.cpg_core.proofs.worst.grow_narrow_first.Goals as goal

-- no item is too wide under the order that is grown along
pub grow_narrow-requires-clause-narrow : goal.grow_narrow-requires-clause-narrow
grow_narrow-requires-clause-narrow c =
    subst (IsNarrow c.args.admitted.now.graph) (sym (c.in_ok-order.ensures ∙ c.first_order.ensures.order)) c.requires
