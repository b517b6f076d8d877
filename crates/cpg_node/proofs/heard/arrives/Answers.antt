-- Proof of `arrives`: whether the node hears the item of a frame, by the column that it names, at this time.
use Rattle.std.proofs.Common.{◌≡◌, ◌≤◌, ◌∙◌, Some, None, length, ap, sym, rules}
use Rattle.std.specs.Prelude.{slice_get}
use Rattle.std.proofs.lemmas.Option.{slice_get-get_or, slice_get_past}
use Rattle.cpg_node.proofs.Arriving.{arrives_at, arrives_nowhere}
use Rattle.cpg_node.proofs.heard.arrives.Goals as goal

-- the hear row of the frame's item has its column, so it arrives exactly if that has this time
pub returns-in-Some : goal.returns-in-Some
returns-in-Some c =
    let columns = c.heard_columns.result.now in
    let column = c.args.frame.now.column in
    let found : slice_get columns column ≡ Some c.in-Some.entry.now =
    slice_get-get_or columns column c.in-Some.entry.now c.in-Some.ensures.lookup.3.0
    ∙ ap Some (sym c.in-Some.ensures.lookup.1) in
    arrives_at c.args.table.now c.args.arrival c.args.frame.now c.in-Some.entry.now
    (ap (λ cs. slice_get cs column) (sym c.heard_columns.ensures) ∙ found)

-- there is no such hear row, or it has no such column, so the frame doesn't arrive
pub returns-in-None : goal.returns-in-None
returns-in-None c =
    let columns = c.heard_columns.result.now in
    let column = c.args.frame.now.column in
    let past : length columns ≤ column = search rules in
    arrives_nowhere c.args.table.now c.args.arrival c.args.frame.now
    (ap (λ cs. slice_get cs column) (sym c.heard_columns.ensures) ∙ slice_get_past columns column past)
