-- Loops of `item_named`: the item of a text, of those that a node starts or sends and that the log doesn't name yet.
use Rattle.std.proofs.Common.{◌<◌, ℕ}
use Rattle.cpg_log.specs.Reading.{IsNew}
use Rattle.cpg_log.proofs.texts.item_named.Given as goal

-- the text names no item below `item` that may still be logged
abbrev pub invariant-loop-item : goal.invariant-loop-item
invariant-loop-item l = (x : ℕ) → x < l.item → IsNew l.problem l.log l.text x → ⊥
