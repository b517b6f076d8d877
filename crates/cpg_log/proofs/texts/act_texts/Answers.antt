-- Proof of `act_texts`: the texts of all items, by number.
use Rattle.std.proofs.Common.{ap, ◌∙◌, map, string_bytes}
use Rattle.std.proofs.lemmas.List.{map_push}
use Rattle.cpg_base.proofs.Lists.{map_below_push}
use Rattle.cpg_log.specs.Log.{act_text}
use Rattle.cpg_log.proofs.TextLaws.{names_more}
use Rattle.cpg_log.proofs.texts.act_texts.Goals as goal

-- the text of the next item is added, and its node has a name
pub loop-item-preserved : goal.loop-item-preserved
loop-item-preserved c = record {
  texts = map_below_push (act_text c.args.problem.now) (map string_bytes c.loop-item.texts.items)
      (map string_bytes c.push.new.self.items) (string_bytes c.in_ok-text.text) c.loop-item.item
      c.loop-item.invariant.texts c.in_ok-text.ensures.text (ap (map string_bytes) c.in_ok-push.ensures.items
      ∙ map_push string_bytes c.loop-item.texts.items c.in_ok-text.text);
  names = names_more c.args.problem.now c.loop-item.item c.loop-item.invariant.names c.act_text.ensures.name;
}
