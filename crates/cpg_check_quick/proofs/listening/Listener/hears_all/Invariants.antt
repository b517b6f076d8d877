-- Loops of `Listener::hears_all`: whether the node has heard all literals of each of these columns of the item by its
-- time, wherever it matches.
use Rattle.std.proofs.Common.{ℕ, ◌≡◌, List, All, take}
use Rattle.cpg_table.specs.Table.{NodeTable, columns_of}
use Rattle.cpg_violation.specs.Violation.{AllHold, row_rules}
use Rattle.cpg_check_quick.specs.Hearing.{IsAllHeard}
use Rattle.cpg_check_quick.specs.Listening.{IsListener}
use Rattle.cpg_check_quick.proofs.listening.Listener.hears_all.Given as goal

-- the listener's node has heard all literals of each column so far, by the time of that column
abbrev pub invariant-loop-column : goal.invariant-loop-column
invariant-loop-column l = (tables : List NodeTable) (x : ℕ) → IsListener tables x l.self →
    AllHold l.self.admitted.now.graph tables row_rules → l.columns ≡ columns_of tables x →
    All (IsAllHeard l.self.admitted.now.graph tables l.self.node) (take l.column-index l.columns)
