-- Proof of `Order::place`: returns the place of a process, counted from 0.
use Rattle.std.proofs.Common.{◌<◌, ◌∙◌, sym, ap, subst, get_or, length, arith}
use Rattle.std.proofs.lemmas.List.{get_or_default}
use Rattle.cpg_base.proofs.Standing.{at_place}
use Rattle.cpg_base.proofs.order.Order.place.Goals as goal

-- each process is in the order, and the kept place is the one at which it stands
pub returns-clause-there : goal.returns-clause-there
returns-clause-there c =
    let inside : c.args.process < length c.self.inside.processes.items =
    subst (λ xs. c.args.process < length xs) (sym c.self.view_is) c.requires in
    rw (← c.self.view_is)
    (ap (λ k. get_or c.self.inside.processes.items k 0)
    (c.index.ensures ∙ get_or_default c.self.inside.places.items c.args.process c.index.result.now 0
    (omega (arith, c.self.invariant.long)) ∙ c.self.invariant.there c.args.process (omega arith))
    ∙ at_place c.self.inside.processes.items c.self.invariant.lawful c.args.process (omega arith))
