-- Proof of `Hearing::open_bounds`: the bounds of a column's literals that the node's own ends leave open where the
-- column matches, at its time.
use Rattle.std.proofs.Common.{◌<◌, ◌||◌, ◌∙◌, ap, sym, arith, length, get_or}
use Rattle.std.proofs.lemmas.List.Elements.{Contains-get_or}
use Rattle.std.proofs.lemmas.List.Folds.{list_any_more}
use Rattle.cpg_check_heard.specs.Unheard.{is_literal_unheard}
use Rattle.cpg_check_heard.proofs.hearing.Hearing.open_bounds.Goals as goal

-- the literal is one of the column's
pub add_literal-requires-clause-literal : goal.add_literal-requires-clause-literal
add_literal-requires-clause-literal c =
    let cube = c.args.column.now.cube in
    let index = c.loop-literal.literal-index in
    let within : index < length cube =
    omega (arith, c.loop-literal-test.true, ap length c.literals-literal-items.ensures.literals) in
    rw c.literals-literal-items.ensures.literals
    (Contains-get_or cube index (record { variable = 0; low = 0; high = 0 }) within)

-- with the open bounds of the next literal, one bound is untold exactly if one of one literal more is unheard
pub loop-literal-preserved : goal.loop-literal-preserved
loop-literal-preserved c =
    let graph = c.args.self.now.admitted.now.graph in
    let tables = c.args.self.now.tables.now.nodes in
    let node = c.args.node in
    let time = c.args.column.now.time in
    let cube = c.args.column.now.cube in
    let index = c.loop-literal.literal-index in
    let within : index < length cube =
    omega (arith, c.loop-literal-test.true, ap length c.literals-literal-items.ensures.literals) in
    let literal = get_or cube index (record { variable = 0; low = 0; high = 0 }) in
    -- the bounds are of known variables, and one is untold exactly if one of the literals so far isn't heard
    record {
      known = c.in_ok-add_literal.ensures.known;
      unheard = λ s law m. rw c.literals-literal-items.ensures.literals at c.in_ok-add_literal.ensures.unheard s law m
          ∙ ap (λ x. x || is_literal_unheard graph tables node time s literal)
          (c.loop-literal.invariant.unheard s law m)
          ∙ sym (list_any_more (is_literal_unheard graph tables node time s) cube index
          (record { variable = 0; low = 0; high = 0 }) within);
    }
