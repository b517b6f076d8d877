-- Loops of `Hearing::ranks`: the rows of these items, all of which a node hears: those with long cubes first.
use Rattle.std.proofs.Common.{All, Contains}
use Rattle.cpg_table.specs.Shape.{heard_by}
use Rattle.cpg_check_heard.specs.declared.frames.RowRank.{RowRank}
use Rattle.cpg_check_heard.proofs.hearing.Hearing.ranks.Given as goal

-- each rank so far is of an item that the node hears
abbrev pub invariant-loop-item : goal.invariant-loop-item
invariant-loop-item l = All (λ (r : RowRank). Contains (heard_by l.self.admitted.now.graph l.node) r.item) l.ranks.items
