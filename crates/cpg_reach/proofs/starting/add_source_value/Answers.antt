-- Proof of `add_source_value`, which adds the value that an edge asks for: its source's condition, if the edge has a
-- `when` and the source a condition.
use Rattle.std.proofs.Common.{◌≡◌, ◌∷◌, [], ◌∙◌, sym, ap, not, is_some, get_or}
use Rattle.cpg_base.specs.Graph.{value_variable, condition_of, edge_at}
use Rattle.cpg_order.specs.Reach.{is_in, source_value}
use Rattle.cpg_reach.proofs.Adding.{adds_same, source_value_there}
use Rattle.cpg_reach.proofs.Sends.{no_edge}
use Rattle.cpg_reach.proofs.starting.add_source_value.Goals as goal

-- the edge is conditional, so the value of its source's condition is added
pub returns-in-Some : goal.returns-in-Some
returns-in-Some c =
    let at : get_or c.edges.result.now c.args.edge no_edge ≡ edge_at c.args.problem.now c.args.edge =
    ap (λ es. get_or es c.args.edge no_edge) c.edges.ensures.edges in
    let is = source_value_there c.args.problem.now c.args.edge c.in-Some.condition
    (ap (λ e. is_some e.when) (sym at) ∙ c.is_none.ensures ∙ ap not c.if-is_none.false)
    (ap (λ e. condition_of c.args.problem.now e.from) (sym at) ∙ sym c.in-Some.ensures) in
    adds_same c.args.reach.now (value_variable c.in-Some.condition ∷ []) (source_value c.args.problem.now c.args.edge)
    c.insert.new.self (λ v. ap (λ xs. is_in xs v) (sym is)) c.insert.ensures
