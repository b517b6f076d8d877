-- Proof of `text_of`: the text of an item, out of those of all items.
use Rattle.std.proofs.Common.{◌∙◌, ap, arith, string_bytes}
use Rattle.cpg_log.proofs.TextLaws.{texts_long, text_at}
use Rattle.cpg_log.proofs.texts.text_of.Goals as goal

-- there is a text for each item
pub bounds-texts-item : goal.bounds-texts-item
bounds-texts-item c = omega (arith, texts_long c.args.problem.now c.args.texts.now c.requires.texts, c.requires.item)

-- the text at an item's place is the text of the item
pub returns : goal.returns
returns c = c.as_bytes.ensures.value ∙ ap string_bytes c.index-texts-item.is
    ∙ text_at c.args.problem.now c.args.texts.now c.requires.texts c.args.item c.index-texts-item.result c.requires.item
