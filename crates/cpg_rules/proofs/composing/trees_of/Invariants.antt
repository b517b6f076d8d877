-- Loops of `trees_of`: returns the trees of these parts, in the same order.
use Rattle.std.proofs.Common.{◌≡◌, take}
use Rattle.cpg_rules.specs.Sharing.{trees_of}
use Rattle.cpg_rules.proofs.composing.trees_of.Given as goal

-- after each root, `trees` has the trees of the roots so far
abbrev pub invariant-loop-root : goal.invariant-loop-root
invariant-loop-root l = l.trees.items ≡ trees_of l.parts.parts (take l.root-index l.roots)
