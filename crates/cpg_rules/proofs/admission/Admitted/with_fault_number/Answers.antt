-- Proof of `Admitted::with_fault_number`: returns the graph with another fault number.
use Rattle.std.proofs.Common.{◌∙◌, sym, ap, subst}
use Rattle.cpg_base.specs.Graph.{Graph}
use Rattle.cpg_rules.specs.Admission.{IsAdmitted}
use Rattle.cpg_rules.proofs.FaultNumbers.{admitted_same}
use Rattle.cpg_rules.proofs.admission.Admitted.with_fault_number.Goals as goal

-- the graph with another fault number is admitted with the same order and guards, since no rule looks at that number
pub invariant_of-result : goal.invariant_of-result
invariant_of-result c =
    let self = c.self.inside in (
      subst (λ (g : Graph). IsAdmitted g self.order self.guards) (sym c.in_ok-problem.ensures)
          (admitted_same self.problem c.args.faults self.order self.guards c.requires c.self.invariant.0),
      c.self.invariant.1 ∙ sym (ap (λ (g : Graph). g.order) c.in_ok-problem.ensures),
    )

-- the graph that is returned is admitted, since it is the old one but for the fault number
pub returns-clause-admitted : goal.returns-clause-admitted
returns-clause-admitted c =
    let self = c.self.inside in
    subst (λ (g : Graph). IsAdmitted g self.order self.guards) (sym c.in_ok-problem.ensures)
    (admitted_same self.problem c.args.faults self.order self.guards c.requires c.self.invariant.0)
