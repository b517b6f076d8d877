-- Proof of `matches`, which returns what `clap` finds in the words; `Bad` only if it refuses them.
use Rattle.std.proofs.Common.{map, string_bytes, ◌∙◌}
use Rattle.cpg_words.proofs.Asks.{all_texts, ok_asks, bad_asks}
use Rattle.cpg_words.proofs.reading.matches.Goals as goal

-- `clap` takes the words, so the words ask for what the rule says of the same texts
pub returns-in-Ok-clause-ok : goal.returns-in-Ok-clause-ok
returns-in-Ok-clause-ok c =
    ok_asks _ (map string_bytes c.args.words.now) c.in-Ok.matches c.in_ok-line.ensures (all_texts c.args.words.now)
    c.in-Ok.ensures.kinds c.in-Ok.ensures.matches

-- `clap` refuses the words, and not for memory, so the rule refuses them too
pub returns-in-Err-clause-bad : goal.returns-in-Err-clause-bad
returns-in-Err-clause-bad c = λ bad.
    bad_asks _ (map string_bytes c.args.words.now) c.in-Err.error c.in_ok-line.ensures (all_texts c.args.words.now)
    c.in-Err.ensures.kinds (λ memory. c.fault_of.ensures.0 (cc) (c.kind.ensures ∙ memory))
