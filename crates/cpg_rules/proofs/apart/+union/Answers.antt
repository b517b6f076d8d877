-- Proof of `union`: returns the part of a join with these inputs, and `None` exactly if two of them are live at once
-- in some outcome.
use Rattle.std.proofs.Common.{rules, ◌<◌, None, ap₂, sym, ◌∙◌}
use Rattle.std.proofs.lemmas.List.Elements.{All-rest}
use Rattle.cpg_base.specs.Graph.{process_count}
use Rattle.cpg_rules.specs.declared.steps.Input.{Input}
use Rattle.cpg_rules.specs.Apart.{are_both_live, union}
use Rattle.cpg_rules.specs.Sharing.{tree_at, trees_of}
use Rattle.cpg_rules.proofs.Sharing.{roots_stay, extends_known}
use Rattle.cpg_rules.proofs.SharedSteps.{union_none, union_live, union_apart, union_stays}
use Rattle.cpg_rules.proofs.apart.+union.Goals as goal

-- the roots and the later inputs are still those of the graph after the first input's part is made
pub union-requires : goal.union-requires
union-requires t c = (
  search rules,
  (
    roots_stay c.args.parts.now c.input_part.new.parts
        (process_count c.args.problem.now) c.args.roots.now c.in_ok-first.ensures.more c.requires.roots,
    All-rest (λ (i : Input). i.source < process_count c.args.problem.now) c.in-Some.input.now c.in-Some.rest.now
        c.args.inputs.now (search rules) c.requires.inputs,
  ),
)

-- the later inputs have no tree, so all inputs have none
pub returns-in_default-2 : goal.returns-in_default-2
returns-in_default-2 t c = union_none c.args.problem.now c.args.parts.now c.input_part.new.parts c.union.new.parts
    (process_count c.args.problem.now) c.args.roots.now c.requires.roots
    c.in-Some.input.now c.in-Some.rest.now c.args.inputs.now (search rules)
    (sym c.is_empty.ensures ∙ c.if-is_empty.false) c.in_ok-first.first c.in_ok-first.ensures c.in_ok-later.field-0
    c.in_default-2.is c.in_ok-later.ensures

-- the first input is live at once with a later one, so the inputs have no tree
pub returns-then-are_both_live : goal.returns-then-are_both_live
returns-then-are_both_live t c = union_stays c.args.parts.now c.union.new.parts c.are_both_live.new.self
    (union c.args.problem.now c.args.parts.now.ranks
    (trees_of c.args.parts.now.parts c.args.roots.now) c.args.inputs.now) None
    -- None is right after the later inputs are joined
    (union_live c.args.problem.now c.args.parts.now c.input_part.new.parts c.union.new.parts
    (process_count c.args.problem.now) c.args.roots.now c.requires.roots
    c.in-Some.input.now c.in-Some.rest.now c.args.inputs.now (search rules)
    (sym c.is_empty.ensures ∙ c.if-is_empty.false) c.in_ok-first.first c.in_ok-first.ensures c.in-Some-2.later
    c.in_ok-later.field-0 c.in-Some-2.is c.in_ok-later.ensures
    (sym c.are_both_live.ensures.live ∙ c.if-are_both_live.true))
    -- and the question of whether both are live only keeps answers
    (extends_known c.union.new.parts c.are_both_live.new.self c.are_both_live.ensures.parts
    c.are_both_live.ensures.ranks)

-- the first input is never live at once with a later one, so both parts make the part of all inputs
pub returns : goal.returns
returns t c = union_apart c.args.problem.now c.args.parts.now c.input_part.new.parts c.are_both_live.new.self
    (process_count c.args.problem.now) c.args.roots.now c.requires.roots
    c.in-Some.input.now c.in-Some.rest.now c.args.inputs.now (search rules)
    (sym c.is_empty.ensures ∙ c.if-is_empty.false) c.in_ok-first.first c.in_ok-first.ensures c.in-Some-2.later
    c.met.new.self c.in_ok-made.made c.in_ok-made.ensures c.in_ok-later.field-0 c.in-Some-2.is
    (union_stays c.input_part.new.parts c.union.new.parts c.are_both_live.new.self
    (union c.args.problem.now c.input_part.new.parts.ranks
    (trees_of c.input_part.new.parts.parts c.args.roots.now) c.in-Some.rest.now) c.in_ok-later.field-0
    c.in_ok-later.ensures (extends_known c.union.new.parts c.are_both_live.new.self c.are_both_live.ensures.parts
    c.are_both_live.ensures.ranks))
    (ap₂ (λ ranks parts. are_both_live ranks (tree_at parts c.in_ok-first.first) (tree_at parts c.in-Some-2.later))
    c.are_both_live.ensures.ranks c.are_both_live.ensures.parts ∙
    sym c.are_both_live.ensures.live ∙ c.if-are_both_live.false)
