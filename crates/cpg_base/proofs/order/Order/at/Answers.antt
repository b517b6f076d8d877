-- Proof of `Order::at`: returns the process at a place, counted from 0.
use Rattle.std.proofs.Common.{◌<◌, ◌∙◌, sym, ap, length, arith, subst}
use Rattle.std.proofs.lemmas.List.{get_or_default}
use Rattle.cpg_base.specs.Order.{place}
use Rattle.cpg_base.proofs.Standing.{process_within, place_at}
use Rattle.cpg_base.proofs.order.Order.at.Goals as goal

-- an order has only numbers below its length
pub returns-clause-within : goal.returns-clause-within
returns-clause-within c =
    let inside : c.args.at < length c.self.inside.processes.items =
    subst (λ xs. c.args.at < length xs) (sym c.self.view_is) c.requires in
    rw (← c.self.view_is)
    (let read = get_or_default c.self.inside.processes.items c.args.at c.index.result.now 0 (omega arith) in
    let process_inside = process_within c.self.inside.processes.items c.self.invariant.lawful c.args.at (omega arith) in
    omega (arith, c.index.ensures))

-- no process stands twice, so the place of the process at a place is that place
pub returns-clause-back : goal.returns-clause-back
returns-clause-back c =
    let inside : c.args.at < length c.self.inside.processes.items =
    subst (λ xs. c.args.at < length xs) (sym c.self.view_is) c.requires in
    rw (← c.self.view_is)
    (ap (place c.self.inside.processes.items)
    (c.index.ensures ∙ get_or_default c.self.inside.processes.items c.args.at c.index.result.now 0 (omega arith))
    ∙ place_at c.self.inside.processes.items c.self.invariant.lawful c.args.at (omega arith))
