-- The greatest excess and finish of all runs, with the frozen times, are the measures of an order.
use Rattle.std.proofs.Common.{◌≡◌, ℕ, List, Option, arith, subst}
use Rattle.cpg_base.specs.Graph.{Graph}
use Rattle.cpg_base.specs.WellFormed.{WellFormed}
use Rattle.cpg_order.specs.Urgency.{IsTopological}
use Rattle.cpg_run.specs.Finish.{IsWorst, IsExcess}
use Rattle.cpg_run.specs.Frozen.{AreFrozenTimes}
use Rattle.cpg_run.proofs.FrozenUnique.{frozen_unique}
use Rattle.cpg_latest.specs.Laws.{HasGreatest}
use Rattle.cpg_core.specs.Compiled.{IsMeasured}
use Rattle.cpg_core.proofs.BuiltExists.{measured_exists}

-- given: a well-formed graph, and the frozen times of an order
module _ (g : Graph) (well_formed : WellFormed g) (urgency order : List ℕ) (top : IsTopological g order)
    (frozen : List (Option ℕ)) (times : AreFrozenTimes g order frozen) where
  -- the greatest excess and the greatest finish of all runs are the measures of the order
  pub measured_from : (excess worst : ℕ) → HasGreatest g order frozen excess worst →
      IsMeasured g urgency order excess worst
  measured_from excess worst greatest =
      -- the order has measures, under the same frozen times
      let measures = measured_exists g well_formed order top urgency in
      let is_measured : IsMeasured g urgency order measures.0 measures.1 = measures.2 in
      let same : is_measured.frozen ≡ frozen =
      frozen_unique g order top is_measured.frozen frozen is_measured.frozen_times times in
      let is_excess : IsExcess g urgency order frozen measures.0 is_measured.excess_in is_measured.excess_by =
      subst (λ z. IsExcess g urgency order z measures.0 is_measured.excess_in is_measured.excess_by) same
      is_measured.is_excess in
      let is_worst : IsWorst g urgency order frozen measures.1 is_measured.worst_in is_measured.worst_by =
      subst (λ z. IsWorst g urgency order z measures.1 is_measured.worst_in is_measured.worst_by) same
      is_measured.is_worst in
      let excess_run = is_excess.least.holds in
      let worst_run = is_worst.least.holds in
      let excess_reached = greatest.is_excess.reached in
      let worst_reached = greatest.is_worst.reached in
      -- they are both the greatest, so they are the same
      let same_excess : measures.0 ≡ excess = omega (
        arith,
        excess_run.2,
        greatest.is_excess.above is_measured.excess_in excess_run.0 is_excess.least.lawful excess_run.1,
        excess_reached.4,
        is_excess.greatest excess_reached.0 excess_reached.1 excess_reached.2 excess_reached.3,
      ) in
      let same_worst : measures.1 ≡ worst = omega (
        arith,
        worst_run.2,
        greatest.is_worst.above is_measured.worst_in worst_run.0 is_worst.least.lawful worst_run.1,
        worst_reached.4,
        is_worst.greatest worst_reached.0 worst_reached.1 worst_reached.2 worst_reached.3,
      ) in
      subst (λ n. IsMeasured g urgency order n worst) same_excess
      (subst (λ n. IsMeasured g urgency order measures.0 n) same_worst is_measured)
