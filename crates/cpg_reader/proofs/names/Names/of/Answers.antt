-- Proof of `Names::of`, which returns the names of the elements.
use Rattle.std.proofs.Common.{◌∙◌, Err, sym, ap, map, []}
use Rattle.cpg_reader.specs.declared.place.ReadFault.TheVariants.{DoubleName}
use Rattle.cpg_reader.specs.Names.{apart, apart_from}
use Rattle.cpg_reader.proofs.Texts.{was_there, was_new, is_double, is_new, seen_more}
use Rattle.cpg_reader.proofs.names.Names.of.Goals as goal

-- the insertion says that an earlier element has this name, so it is double
pub returns-then-not-branch-clause-apart : goal.returns-then-not-branch-clause-apart
unfolding apart
returns-then-not-branch-clause-apart g c =
    let there = was_there _ (sym c.if-not-branch.true ∙ c.in_ok-insert.ensures.added) in
    is_double c.args.table c.args.key g.T.Named.named c.args.elements.now c.loop-index.index
    c.index-elements-index.result c.loop-index.names.keys c.name.result
    (apart_from c.args.table c.args.key 0 [] (map g.T.Named.named c.args.elements.now))
    c.loop-index-test.true c.index-elements-index.is c.name.ensures there c.loop-index.invariant.same
    ∙ ap (λ place. Err (DoubleName place)) (sym c.of_name.ensures)

-- the insertion says that this name is new, so it is one of the names so far
pub loop-index-preserved : goal.loop-index-preserved
loop-index-preserved g c =
    let new = was_new _ (sym c.if-not-branch.false ∙ c.in_ok-insert.ensures.added) in
    record {
      seen = seen_more c.loop-index.names.keys c.name.result c.insert.new.self.keys c.in_ok-insert.ensures.keys new
          g.T.Named.named c.args.elements.now c.loop-index.index c.index-elements-index.result
          c.loop-index-test.true c.index-elements-index.is c.name.ensures c.loop-index.invariant.seen;
      same = is_new c.args.table c.args.key g.T.Named.named c.args.elements.now c.loop-index.index
          c.index-elements-index.result c.loop-index.names.keys c.name.result
          (apart_from c.args.table c.args.key 0 [] (map g.T.Named.named c.args.elements.now))
          c.loop-index-test.true c.index-elements-index.is c.name.ensures new c.insert.new.self.keys
          c.in_ok-insert.ensures.keys c.loop-index.invariant.same;
    }
