-- Proof of `draw_all`, which returns the processes and edges of the graph.
use Rattle.std.proofs.Common.{rules, ℕ, ◌≡◌, ◌++◌, ◌∙◌, sym, ap, ap₂, cond, map}
use Rattle.std.specs.List.{flat_map}
use Rattle.cpg_base.specs.Numbers.{numbers_below}
use Rattle.cpg_base.proofs.Lists.{map_below_push}
use Rattle.cpg_base.specs.Draws.{next_number}
use Rattle.cpg_gen.specs.Draws.{number_after}
use Rattle.cpg_gen.specs.Generated.{generated_process, generated_edges, has_predecessor, number_before, process_from}
use Rattle.cpg_gen.specs.Generated.{edges_by}
use Rattle.cpg_gen.proofs.Advancing.{number_after-zero, number_after-suc}
use Rattle.cpg_gen.proofs.Steps.{number_before_after, flat_map_below_push}
use Rattle.cpg_gen.proofs.generation.draw_all.Goals as goal

-- before the first process nothing is drawn, and the draws start from the number itself
pub loop-process_number-init : goal.loop-process_number-init
loop-process_number-init c = record {
  draws = sym (number_after-zero c.args.number);
  processes = search rules;
  edges = search rules;
}

-- one more process and its edges are drawn, and the next draws start where these end
pub loop-process_number-preserved : goal.loop-process_number-preserved
loop-process_number-preserved c =
    let i : ℕ = c.loop-process_number.process_number in
    let draws_from : ℕ = number_before c.args.number i in
    -- the process is made of the draws that belong to it
    let at : c.loop-process_number.draws.number ≡ draws_from = c.loop-process_number.invariant.draws in
    let made : c.in_ok-process.field-0 ≡ generated_process c.args.number i =
    c.in_ok-process.ensures.process ∙ ap (λ y. process_from y i) at in
    let after : c.process.new.draws.number ≡ number_after draws_from 5 =
    c.process.ensures.number ∙ ap (λ y. number_after y 5) at in
    -- where the next draws start, the processes so far, and the edges so far
    record {
      draws = c.in_ok-push_edges.ensures.number ∙ ap (λ y. cond (has_predecessor i) (next_number y) y) after
          ∙ number_before_after c.args.number i;
      processes = map_below_push (generated_process c.args.number) c.loop-process_number.processes.items
          c.push.new.self.items c.in_ok-process.field-0 i c.loop-process_number.invariant.processes made
          c.in_ok-push.ensures.items;
      edges = c.in_ok-push_edges.ensures.edges
          ∙ ap₂ ◌++◌ c.loop-process_number.invariant.edges
          (ap (λ y. edges_by (next_number y) i) after ∙ ap (λ y. edges_by y i) (sym (number_after-suc draws_from 5)))
          ∙ flat_map_below_push (generated_edges c.args.number) i;
    }

-- after 60 rounds all processes are drawn
pub returns-clause-processes : goal.returns-clause-processes
returns-clause-processes c =
    let ended : c.loop-process_number.process_number ≡ 60 = search rules in
    c.loop-process_number.invariant.processes ∙ ap (λ n. map (generated_process c.args.number) (numbers_below n)) ended

-- after 60 rounds all edges are drawn
pub returns-clause-edges : goal.returns-clause-edges
returns-clause-edges c =
    let ended : c.loop-process_number.process_number ≡ 60 = search rules in
    c.loop-process_number.invariant.edges ∙ ap (λ n. flat_map (generated_edges c.args.number) (numbers_below n)) ended
