-- Loops of `Names::of`, which returns the names of the elements.
use Rattle.std.proofs.Common.{◌≡◌, [], map, take, drop}
use Rattle.cpg_reader.specs.Names.{apart_from}
use Rattle.cpg_reader.proofs.names.Names.of.Given as goal

-- `seen`: the keys are the names so far. `same`: whether all names are different is whether those that are left
-- differ from each other and from the names so far
abbrev pub invariant-loop-index : goal.invariant-loop-index
invariant-loop-index g l = record {
  seen : map (λ name. name.now) l.names.keys ≡ map g.T.Named.named (take l.index l.fn.elements);
  same : apart_from l.table l.key 0 [] (map g.T.Named.named l.fn.elements) ≡ apart_from l.table l.key l.index
      (map (λ name. name.now) l.names.keys) (map g.T.Named.named (drop l.index l.fn.elements));
}
