-- Proof of `are_apart`: whether no outcome makes two of these inputs of a join live.
use Rattle.std.proofs.Common.{rules, not, ap, ◌∙◌}
use Rattle.cpg_base.specs.Graph.{process_count}
use Rattle.cpg_rules.specs.Apart.{union}
use Rattle.cpg_rules.specs.Sharing.{trees_of}
use Rattle.cpg_rules.proofs.Sharing.{extends_both, extends_known}
use Rattle.cpg_rules.proofs.SharedSteps.{apart_more, union_extends}
use Rattle.cpg_rules.proofs.apart.are_apart.Goals as goal

-- the inputs are apart exactly if the first is never live at once with a later one
pub returns-clause-apart : goal.returns-clause-apart
returns-clause-apart c = ap not c.are_both_live.ensures.live
    ∙ apart_more c.args.problem.now c.args.parts.now c.union.new.parts c.input_part.new.parts
    (process_count c.args.problem.now) c.args.roots.now c.requires.roots
    c.in-Some.input.now c.in-Some.rest.now c.args.inputs.now (search rules) c.in_ok-first.first c.in-Some-2.later
    c.in_ok-later.field-0 c.in-Some-2.is c.in_ok-later.ensures c.in_ok-first.ensures

-- each of the three steps only adds parts
pub returns-clause-more : goal.returns-clause-more
returns-clause-more c = extends_both c.args.parts.now c.input_part.new.parts c.are_both_live.new.self
    (extends_both c.args.parts.now c.union.new.parts c.input_part.new.parts
    (union_extends c.args.parts.now c.union.new.parts (union c.args.problem.now c.args.parts.now.ranks
    (trees_of c.args.parts.now.parts c.args.roots.now) c.in-Some.rest.now) c.in_ok-later.field-0
    c.in_ok-later.ensures)
    c.in_ok-first.ensures.more)
    (extends_known c.input_part.new.parts c.are_both_live.new.self c.are_both_live.ensures.parts
    c.are_both_live.ensures.ranks)
