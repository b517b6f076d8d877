-- Proof of `composed`: returns the part with the tree of a process with these inputs.
use Rattle.std.proofs.Common.{rules, ◌<◌, sym, ◌∙◌}
use Rattle.std.proofs.lemmas.List.Elements.{All-rest}
use Rattle.cpg_base.specs.Graph.{process_count}
use Rattle.cpg_rules.specs.declared.steps.Input.{Input}
use Rattle.cpg_rules.proofs.Sharing.{roots_stay}
use Rattle.cpg_rules.proofs.SharedSteps.{composed_more}
use Rattle.cpg_rules.proofs.composing.+composed.Goals as goal

-- the roots and the later inputs are still those of the graph after the first input's part is made
pub composed-requires : goal.composed-requires
composed-requires t c = (
  search rules,
  (
    roots_stay c.args.parts.now c.input_part.new.parts
        (process_count c.args.problem.now) c.args.roots.now c.in_ok-first.ensures.more c.requires.roots,
    All-rest (λ (i : Input). i.source < process_count c.args.problem.now) c.in-Some.input.now c.in-Some.rest.now
        c.args.inputs.now (search rules) c.requires.inputs,
  ),
)

-- the parts of the first input and of the later ones make the part of all inputs
pub returns : goal.returns
returns t c = composed_more c.args.problem.now c.args.join c.args.parts.now c.input_part.new.parts
    c.composed.new.parts c.met.new.self
    (process_count c.args.problem.now) c.args.roots.now c.requires.roots
    c.in-Some.input.now c.in-Some.rest.now c.args.inputs.now (search rules)
    (sym c.is_empty.ensures ∙ c.if-is_empty.false) c.in_ok-first.first c.in_ok-later.later c.in_ok-made.made
    c.in_ok-first.ensures c.in_ok-later.ensures c.in_ok-made.ensures
