-- Loops of `act_texts`: the texts of all items, by number.
use Rattle.std.proofs.Common.{◌≡◌, map, string_bytes}
use Rattle.cpg_base.specs.Numbers.{numbers_below}
use Rattle.cpg_log.specs.Log.{act_text}
use Rattle.cpg_log.specs.Reading.{HaveNames}
use Rattle.cpg_log.proofs.texts.act_texts.Given as goal

-- `texts`: each item below `item` has its text. `names`: the nodes of these items have lawful names.
abbrev pub invariant-loop-item : goal.invariant-loop-item
invariant-loop-item l = record {
  texts : map string_bytes l.texts.items ≡ map (act_text l.problem) (numbers_below l.item);
  names : HaveNames l.problem l.item;
}
