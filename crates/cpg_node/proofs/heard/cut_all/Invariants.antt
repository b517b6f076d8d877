-- Loops of `cut_all`: notes that literals hold.
use Rattle.std.proofs.Common.{◌≡◌, drop}
use Rattle.cpg_node.specs.Dispatcher.{cut_all}
use Rattle.cpg_node.proofs.heard.cut_all.Given as goal

-- the literals left cut the ranges as they are now to what all the literals cut those of the start to
abbrev pub invariant-loop-literal : goal.invariant-loop-literal
invariant-loop-literal l = cut_all l.heard (drop l.literal-index l.literals) ≡ cut_all l.fn.heard l.literals
