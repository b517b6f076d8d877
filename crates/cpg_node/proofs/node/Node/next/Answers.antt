-- Proof of `Node::next`: the next instant at which something may happen, in time units of the graph file.
use Rattle.std.proofs.Common.{ℕ, ◌<◌, ◌≡◌, ◌^◌, Option, Some, None, refl, sym, ◌∙◌}
use Rattle.std.specs.Prelude.{IfSome}
use Rattle.cpg_node.proofs.Turning.{next_early}
use Rattle.cpg_node.proofs.node.Node.next.Goals as goal

-- if each next instant there can be is below 2^61, the next one is, if there is one
if_each : (o : Option ℕ) → ((t : ℕ) → o ≡ Some t → t < 2 ^ 61) → IfSome o (λ t. t < 2 ^ 61)
if_each None h = tt
if_each (Some t) h = h t refl

-- an instant is a time of the table or an end, and starts and durations are below 2 ^ 60
pub returns-clause-early : goal.returns-clause-early
returns-clause-early c =
    let inside = c.self.inside in
    let invariant = c.self.invariant in
    if_each inside.next (λ t e. next_early inside.table inside.heard.items inside.running.items inside.last t
    invariant.made invariant.starts (sym invariant.next ∙ e))
