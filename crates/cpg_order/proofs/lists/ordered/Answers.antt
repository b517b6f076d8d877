-- Proof of `ordered`: returns the order of a list of process numbers, and `None` exactly if the list isn't a
-- topological order of all processes.
use Rattle.std.proofs.Common.{◌≡◌, ◌∙◌, refl, sym, ap, subst, subst₂, true≢false, length, IsPermutation, arith}
use Rattle.cpg_base.specs.Numbers.{numbers_below}
use Rattle.cpg_base.specs.Graph.{process_count}
use Rattle.cpg_order.specs.Urgency.{IsTopological}
use Rattle.cpg_base.proofs.Places.{length_order}
use Rattle.cpg_order.proofs.lists.ordered.Goals as goal

-- a topological order is as long as there are processes, so a list of another length is none
pub returns-then-list-processes-clause-refused : goal.returns-then-list-processes-clause-refused
returns-then-list-processes-clause-refused c topological =
    absurd (c.if-list-processes.true (length_order (process_count c.args.problem.now) c.args.list.now topological.all
    ∙ sym (ap length c.processes.ensures.processes)))

-- an edge that doesn't lead to a later place shows that the list isn't topological
pub returns-then-not-is_forward-clause-refused : goal.returns-then-not-is_forward-clause-refused
returns-then-not-is_forward-clause-refused c topological =
    let same : c.in_ok-order.order ≡ c.args.list.now = c.in_ok-order.ensures ∙ c.in_ok-copied.ensures in
    absurd (true≢false
    (sym (c.if-not-is_forward.ensures.1 (subst (IsTopological c.args.problem.now) (sym same) topological).forward)))

-- the list passed both tests: it has each process once, and each edge leads to a later place
pub returns-clause-topological : goal.returns-clause-topological
returns-clause-topological c =
    let same : c.in_ok-order.order ≡ c.args.list.now = c.in_ok-order.ensures ∙ c.in_ok-copied.ensures in
    let long : length c.args.list.now ≡ process_count c.args.problem.now =
    omega (arith, ap length c.processes.ensures.processes) in
    record {
      all = subst₂ (λ n xs. IsPermutation (numbers_below n) xs) long (sym same)
          (c.in_ok-has_each.ensures.0 c.if-not-branch.false);
      forward = c.if-not-is_forward.ensures.0 refl;
    }
