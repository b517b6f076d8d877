-- Proof of `Hearing::ranks`: the rows of these items, all of which a node hears: those with long cubes first.
use Rattle.std.proofs.Common.{◌<◌, List, All, Contains, arith, get_or, sym, subst}
use Rattle.std.proofs.lemmas.List.Elements.{All-push}
use Rattle.std.proofs.lemmas.List.Sorted.{All-permutation}
use Rattle.cpg_base.specs.Graph.{item_count}
use Rattle.cpg_table.specs.Shape.{heard_by}
use Rattle.cpg_check_heard.specs.declared.frames.RowRank.{RowRank}
use Rattle.cpg_check_heard.proofs.Framed.{heard_below}
use Rattle.cpg_check_heard.proofs.hearing.Hearing.ranks.Goals as goal

-- an item that is heard is one of the graph, so it has a row
pub index-row-requires : goal.index-row-requires
index-row-requires c =
    let graph = c.args.self.now.admitted.now.graph in
    let item = get_or c.args.items.now c.loop-item.item-index 0 in
    let below : item < item_count graph =
    heard_below graph c.args.node item (c.requires.items c.loop-item.item-index 0 c.loop-item-test.true) in
    omega (arith, below, c.requires.hearing.telling_rows.count)

-- the node hears the item of the rank that is added
pub loop-item-preserved : goal.loop-item-preserved
loop-item-preserved c =
    let P = λ (r : RowRank). Contains (heard_by c.args.self.now.admitted.now.graph c.args.node) r.item in
    subst (All P) (sym {A = List RowRank} c.in_ok-push.ensures.items) (All-push P c.loop-item.ranks.items _
    c.loop-item.invariant (c.requires.items c.loop-item.item-index 0 c.loop-item-test.true))

-- sorting the ranks changes only their order
pub returns : goal.returns
returns c =
    let P = λ (r : RowRank). Contains (heard_by c.args.self.now.admitted.now.graph c.args.node) r.item in
    All-permutation P c.loop-item.ranks.items c.sort_unstable.new.self.items c.sort_unstable.ensures.permutation
    c.loop-item.invariant
