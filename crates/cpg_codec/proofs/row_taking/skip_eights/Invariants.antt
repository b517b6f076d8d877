-- Loops of `skip_eights`, which returns how many literals `bytes` and the list begin with in common, counted in
-- blocks of eight and at most `most`, and the bytes after these.
use Rattle.std.proofs.Common.{◌≡◌, ◌-◌, drop}
use Rattle.cpg_codec.specs.Fronts.{HasFront}
use Rattle.cpg_codec.proofs.row_taking.skip_eights.Given as goal

-- `front`: the bytes begin with the literals so far. `left`: it has those of the list after them
abbrev pub invariant-loop-count : goal.invariant-loop-count
invariant-loop-count l = record {
  front : HasFront l.fn.literals l.fn.bytes l.fn.most l.count l.rest;
  left : l.left ≡ drop l.count l.fn.literals;
}

-- each turn takes eight of those that are asked for
abbrev pub decreases-loop-count : goal.decreases-loop-count
decreases-loop-count l = l.most - l.count
