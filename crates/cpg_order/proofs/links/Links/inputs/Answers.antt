-- Proof of `Links::inputs`: the numbers of the edges that lead to a process, the lowest first.
use Rattle.std.proofs.Common.{◌<◌, ◌∙◌, [], sym, ap, subst, get_or, length}
use Rattle.std.proofs.lemmas.List.{get_or_default}
use Rattle.cpg_base.specs.Graph.{process_count, inputs}
use Rattle.cpg_base.proofs.Lists.{get_or-map-below}
use Rattle.cpg_order.proofs.links.Links.inputs.Goals as goal

-- the list that is read is that of the process's inputs in the graph
pub returns-clause-of_graph : goal.returns-clause-of_graph
returns-clause-of_graph c g is =
    let inside : c.args.process < process_count g = subst (λ l. c.args.process < l.count) is c.requires in
    let long : c.args.process < length c.self.inside.inputs.items =
    subst (λ l. c.args.process < l.count) (sym c.self.view_is) c.requires in
    c.as_slice.ensures ∙ c.index.ensures
    ∙ get_or_default c.self.inside.inputs.items c.args.process c.index.result.now [] long
    ∙ ap (λ l. get_or l.inputs c.args.process []) (c.self.view_is ∙ is)
    ∙ get_or-map-below (inputs g) (process_count g) c.args.process [] inside
