-- Proof of `pairs`, which reads the words two by two, each pair a period and a graph.
use Rattle.std.proofs.Common.{◌∙◌, sym}
use Rattle.cpg_words.proofs.Pairing.{pairs_step, pairs_odd}
use Rattle.cpg_words.proofs.forms.pairs.Goals as goal

-- one more pair is read from the words left, so the pairs of all words stay the same
pub loop-left-preserved : goal.loop-left-preserved
loop-left-preserved c = pairs_step c.loop-left.left.now _ c.loop-left.pairs.items c.push.new.self.items
    (record { period = c.in-Some.period; graph = c.in_ok-graph.graph }) _
    c.in-len2-up.len_at_least (sym c.number.ensures ∙ c.in-Some.is) c.in_ok-graph.ensures c.in_ok-push.ensures.items
    c.loop-left.invariant

-- one word is left over, so the words are no pairs
pub returns-then-not-is_empty-clause-bad : goal.returns-then-not-is_empty-clause-bad
returns-then-not-is_empty-clause-bad c = λ _. pairs_odd c.loop-left.left.now _ _ c.in_default.len_below
    (sym c.is_empty.ensures ∙ c.if-not-is_empty.true) c.loop-left.invariant
