-- Proof of `latest_start`, which returns the latest start of a process in any scenario. It waits for its release, for
-- the inputs `edges`, and for the processes in the span before it to end; and its node must have heard what the guards
-- of these and its own test. `active` says where the process is active. `None` exactly if it is never active.
use Rattle.std.proofs.Common.{◌+◌, Some, ap, subst, ◌∙◌}
use Rattle.cpg_base.specs.Graph.{condition_count, process_count, process_at}
use Rattle.cpg_tree.specs.Tree.{HasOnePathEach, IsConstant}
use Rattle.cpg_expand.specs.Latest.{HasEndedOf, HasHeardOf, IsRaised}
use Rattle.cpg_expand.proofs.latest.latest_start.Goals as goal

-- the process is never active, so it has no latest start
pub returns-in_default : goal.returns-in_default
returns-in_default c =
    let span = c.args.span.now in
    record {
      ready = c.in_ok-ready.ready;
      each = subst (λ n. HasOnePathEach n c.in_ok-ready.ready.paths)
          (ap (λ t. t.faults) c.in_ok-ready.ensures.is ∙ c.faults.ensures.faults) c.in_ok-ready.ensures.each;
      at = subst (λ n. IsConstant (Some (process_at span.problem.now c.args.process).release) n c.in_ok-ready.ready)
          c.faults.ensures.faults
          (subst (λ t. IsConstant t c.faults.result c.in_ok-ready.ready) (c.of.ensures ∙ ap Some c.release.ensures)
          c.in_ok-ready.ensures.is);
      is = c.in_default.ensures;
    }

-- the release, the ends, what is heard and the inputs raise the latest time one after another
pub returns : goal.returns
returns c =
    let span = c.args.span.now in
    let g = span.problem.now in
    let f = c.args.forest.now in
    let active = c.args.active.now in
    record {
      -- the tree that has the release everywhere
      ready = c.in_ok-ready.ready;
      each = subst (λ n. HasOnePathEach n c.in_ok-ready.ready.paths)
          (ap (λ t. t.faults) c.in_ok-ready.ensures.is ∙ c.faults.ensures.faults) c.in_ok-ready.ensures.each;
      at = subst (λ n. IsConstant (Some (process_at g c.args.process).release) n c.in_ok-ready.ready)
          c.faults.ensures.faults
          (subst (λ t. IsConstant t c.faults.result c.in_ok-ready.ready) (c.of.ensures ∙ ap Some c.release.ensures)
          c.in_ok-ready.ensures.is);
      -- raised to the ends before it, then to what is heard, and then to the inputs
      is = record {
        released = c.in-Some.released;
        releases = c.in-Some.ensures;
        ended = c.after_ends-ended.result;
        ends = subst (λ n. IsRaised g (HasEndedOf g span.order.now f active span.node span.from n (process_count g))
            c.in-Some.released c.after_ends-ended.result) c.place-at.ensures.place
            c.after_ends-ended.ensures;
        heard = c.in_ok-heard.heard;
        hears = subst (λ n. IsRaised g (HasHeardOf g span.order.now span.guards.now f active span.node span.from (n + 1)
            (condition_count g)) c.after_ends-ended.result c.in_ok-heard.heard)
            c.place-at.ensures.place c.in_ok-heard.ensures;
        raised = c.after_inputs.ensures;
      };
    }
