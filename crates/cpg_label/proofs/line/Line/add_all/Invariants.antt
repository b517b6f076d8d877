-- Loops of `Line::add_all`: adds literals.
use Rattle.std.proofs.Common.{◌≡◌, ◌+◌, ◌++◌, take}
use Rattle.cpg_label.specs.Lines.{IsLine}
use Rattle.cpg_label.proofs.line.Line.add_all.Given as goal

-- `line`, `count`: the line is one of as many literals as it had, and those so far. `literals`: it has the old ones and
-- after them those so far
abbrev pub invariant-loop-literal : goal.invariant-loop-literal
invariant-loop-literal l = record {
  line : IsLine l.labels l.self;
  literals : take l.self.count l.self.literals.items ≡ take l.fn.self.count l.fn.self.literals.items
      ++ take l.literal-index l.literals;
  count : l.self.count ≡ l.fn.self.count + l.literal-index;
}
