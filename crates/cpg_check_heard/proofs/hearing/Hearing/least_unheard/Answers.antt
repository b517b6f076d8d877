-- Proof of `Hearing::least_unheard`: the least scenario that a column matches and in which a node hasn't heard one of
-- its literals by its time.
use Rattle.std.proofs.Common.{All, Contains, sym, subst}
use Rattle.std.proofs.lemmas.List.Elements.{All-contains_itself}
use Rattle.cpg_table.specs.Shape.{heard_by}
use Rattle.cpg_check_heard.proofs.hearing.Hearing.least_unheard.Goals as goal

-- the node hears each of the items, as they are all that it hears
pub arrivals-requires-clause-items : goal.arrivals-requires-clause-items
arrivals-requires-clause-items c =
    let heard = heard_by c.args.self.now.admitted.now.graph c.args.node in
    subst (All (Contains heard)) (sym c.requires.items) (All-contains_itself heard)
