-- Proof of `is_single_join`: whether the parts show that no outcome makes two inputs of this process live.
use Rattle.std.proofs.Common.{ap₂, sym, ◌∙◌}
use Rattle.cpg_rules.specs.Apart.{are_apart}
use Rattle.cpg_rules.proofs.Unions.{apart_single, inputs_within}
use Rattle.cpg_rules.proofs.apart.is_single_join.Goals as goal

-- the sources of the inputs are processes of the graph
pub are_apart-requires-clause-inputs : goal.are_apart-requires-clause-inputs
are_apart-requires-clause-inputs c = rw (c.as_slice.ensures.value, c.in_ok-inputs.ensures)
    (inputs_within c.args.problem.now c.requires.guards.order c.requires.guards.topological c.args.process)

-- the inputs are apart by their trees, so no outcome makes two of them live
pub returns-clause-single : goal.returns-clause-single
returns-clause-single c = λ is values join long. apart_single c.args.problem.now c.requires.guards.order
    c.requires.guards.topological c.requires.guards.guards c.requires.guards.are
    c.args.parts.now.ranks c.args.process values long
    (sym (ap₂ (λ trees inputs. are_apart c.args.problem.now c.args.parts.now.ranks trees inputs)
    (sym c.requires.guards.same) (c.as_slice.ensures.value ∙ c.in_ok-inputs.ensures))
    ∙ sym c.in_ok-apart.ensures.apart ∙ is)
