-- Proof of `as_name`, which returns a value as a name, or `None` if it isn't a text that is one.
use Rattle.cpg_reader.proofs.NameTexts.{named_ok}
use Rattle.cpg_reader.proofs.row.as_name.Goals as goal

-- the text is taken exactly if it is a name
pub returns-in-Some : goal.returns-in-Some
returns-in-Some c =
    let is_text = rw c.in-Some.is at c.as_str.ensures in
    rw (← is_text)
    (named_ok c.new.result c.in-Some.text.now c.new.ensures.name c.new.ensures.taken c.new.ensures.refused)
