-- Loops of `pairs`, which reads the words two by two, each pair a period and a graph.
use Rattle.std.proofs.Common.{◌≡◌, length}
use Rattle.cpg_words.specs.Parts.{texts}
use Rattle.cpg_words.specs.Forms.{pairs_of}
use Rattle.cpg_words.proofs.Pairing.{joined}
use Rattle.cpg_words.proofs.forms.pairs.Given as goal

-- the pairs so far and those of the words left are the pairs of all words
abbrev pub invariant-loop-left : goal.invariant-loop-left
invariant-loop-left l = joined l.pairs.items (pairs_of (texts l.left)) ≡ pairs_of (texts l.fn.words)

-- each turn takes words off the list
abbrev pub decreases-loop-left : goal.decreases-loop-left
decreases-loop-left l = length l.left
