-- Proof of `begin`: starts a process in the course with a number of faults and returns its latest end, if it is active;
-- otherwise lets its node wait for what decides it and returns 0.
use Rattle.std.proofs.Common.{◌≡◌, ◌∙◌, ◌<◌, max, false, length, sym, ap, ap₂, subst, inl, inr, refl, arith}
use Rattle.cpg_base.specs.Activity.{active}
use Rattle.cpg_base.specs.Graph.{node_of}
use Rattle.cpg_base.specs.Order.{place}
use Rattle.cpg_latest.specs.Course.{IsDone, IsSending}
use Rattle.cpg_latest.proofs.Courses.{course_small, latest_small}
use Rattle.cpg_latest.proofs.CourseSteps.{begins, begun, end_is_latest, last_small, passed, start_is_latest, waited}
use Rattle.cpg_latest.proofs.LatestExists.{the_latest, latest_exist}
use Rattle.cpg_latest.proofs.stepping.begin.Goals as goal

-- the course knows latest times, which are below 2 ^ 59 under early frozen times
pub ready-ready-requires-clause-small : goal.ready-ready-requires-clause-small
ready-ready-requires-clause-small c =
    let graph = c.args.setting.now.problem.now in
    let order = c.args.setting.now.order.now in
    course_small graph order c.requires.setting.topological (IsDone graph order c.args.process 0) c.args.frozen.now
    c.args.asked.now.scenario.now.values c.requires.setting.admitted.1.limits
    c.requires.asked.long c.requires.early
    c.args.faults c.requires.faults (place order c.args.process) c.args.course.now c.requires.course

-- the course knows latest times, which are below 2 ^ 59 under early frozen times
pub unfrozen_start-unfrozen-requires-clause-small : goal.unfrozen_start-unfrozen-requires-clause-small
unfrozen_start-unfrozen-requires-clause-small c =
    let graph = c.args.setting.now.problem.now in
    let order = c.args.setting.now.order.now in
    course_small graph order c.requires.setting.topological (IsDone graph order c.args.process 0) c.args.frozen.now
    c.args.asked.now.scenario.now.values c.requires.setting.admitted.1.limits
    c.requires.asked.long c.requires.early
    c.args.faults c.requires.faults (place order c.args.process) c.args.course.now c.requires.course

-- the process is inactive, so all is known before the next place once its node has waited
pub returns-then-not-asked-clause-sends : goal.returns-then-not-asked-clause-sends
returns-then-not-asked-clause-sends c =
    let graph = c.args.setting.now.problem.now in
    let order = c.args.setting.now.order.now in
    let process = c.args.process in
    let values = c.args.asked.now.scenario.now.values in
    let on : node_of graph process < length graph.nodes = omega (
      arith,
      c.node_of-node.ensures.node,
      c.node_of-node.ensures.within,
    ) in
    let idle : active graph values process ≡ false = sym c.requires.asked.acts ∙ c.if-not-asked.true in
    subst (IsSending graph order (IsDone graph order process 0) c.args.frozen.now values process 0 c.args.faults)
    (sym (c.wait.ensures ∙ ap (λ m. waited c.args.course.now m c.ready-ready.result) c.node_of-node.ensures.node))
    (passed graph order c.requires.setting.topological (IsDone graph order process 0) c.args.frozen.now values
    process c.requires.process on
    c.args.faults c.requires.faults c.args.course.now c.requires.course
    c.ready-ready.result c.ready-ready.ensures idle)

-- the start that is found is a latest time, so it is small
pub latest_end-end-requires-clause-start : goal.latest_end-end-requires-clause-start
latest_end-end-requires-clause-start c =
    let graph = c.args.setting.now.problem.now in
    let order = c.args.setting.now.order.now in
    let process = c.args.process in
    let values = c.args.asked.now.scenario.now.values in
    let on : node_of graph process < length graph.nodes = omega (
      arith,
      c.node_of-node.ensures.node,
      c.node_of-node.ensures.within,
    ) in
    let acts = sym c.requires.asked.acts ∙ c.if-not-asked.false in
    -- the start that is found is a latest time of the process
    let is_start = c.max-start.ensures ∙ ap₂ max c.unfrozen_start-unfrozen.ensures c.frozen_time.ensures in
    let is = start_is_latest graph order c.requires.setting.topological (IsDone graph order process 0)
    c.args.frozen.now values process
    c.requires.process on c.args.faults c.requires.faults c.args.course.now
    c.requires.course
    c.ready-ready.result c.ready-ready.ensures
    (inr (inl refl)) acts c.max-start.result is_start c.args.frozen.now (λ x l d. refl)
    (the_latest graph order c.args.frozen.now values c.requires.setting.topological)
    (latest_exist graph order c.args.frozen.now values c.requires.setting.topological) in
    -- and latest times are small
    let small = latest_small graph order c.requires.setting.topological (IsDone graph order process 0)
    c.args.frozen.now values
    c.requires.setting.admitted.1.limits c.requires.asked.long c.requires.early
    c.args.faults c.requires.faults in
    omega (arith, is, small.times process)

-- `last` is a latest end, or 0, and so below 2 ^ 60
pub latest_end-end-requires-clause-last : goal.latest_end-end-requires-clause-last
latest_end-end-requires-clause-last c =
    let graph = c.args.setting.now.problem.now in
    let order = c.args.setting.now.order.now in
    let process = c.args.process in
    let values = c.args.asked.now.scenario.now.values in
    let acts = sym c.requires.asked.acts ∙ c.if-not-asked.false in
    let is = c.requires.last c.if-not-asked.false c.args.frozen.now (λ x l d. refl)
    (the_latest graph order c.args.frozen.now values c.requires.setting.topological)
    (latest_exist graph order c.args.frozen.now values c.requires.setting.topological) in
    let small = last_small graph order c.requires.setting.topological (IsDone graph order process 0)
    c.args.frozen.now values
    c.requires.setting.admitted.1.limits c.requires.asked.long c.requires.early process
    c.requires.process acts
    c.args.faults c.requires.faults in
    omega (arith, is, small)

-- The process is active: its start and its end are the latest ones, so it has begun. The arguments of `begins` are, in
-- turn: what the order and the track fix, the number of faults with the course before the process, when the node is
-- ready, that the process is active with its start, and its end with the end of one fault less.
pub returns-clause-sends : goal.returns-clause-sends
returns-clause-sends c =
    let graph = c.args.setting.now.problem.now in
    let order = c.args.setting.now.order.now in
    let process = c.args.process in
    let values = c.args.asked.now.scenario.now.values in
    let on : node_of graph process < length graph.nodes = omega (
      arith,
      c.node_of-node.ensures.node,
      c.node_of-node.ensures.within,
    ) in
    let acts = sym c.requires.asked.acts ∙ c.if-not-asked.false in
    let is_start = c.max-start.ensures ∙ ap₂ max c.unfrozen_start-unfrozen.ensures c.frozen_time.ensures in
    subst (IsSending graph order (IsDone graph order process 0) c.args.frozen.now values process 0 c.args.faults)
    (sym (c.begin.ensures
    ∙ ap (λ m. begun c.args.course.now process m c.max-start.result c.latest_end-end.result)
    c.node_of-node.ensures.node))
    (begins graph order c.requires.setting.topological (IsDone graph order process 0) c.args.frozen.now values
    process c.requires.process on
    c.args.faults c.requires.faults c.args.course.now c.requires.course
    c.ready-ready.result c.ready-ready.ensures (inr (inl refl)) acts c.max-start.result is_start c.latest_end-end.result
    c.args.last c.latest_end-end.ensures (c.requires.last c.if-not-asked.false))

-- the end follows from the latest start and from the latest end with one fault less as the latest end does
pub returns-clause-end : goal.returns-clause-end
returns-clause-end c on_asked =
    let graph = c.args.setting.now.problem.now in
    let order = c.args.setting.now.order.now in
    let process = c.args.process in
    let values = c.args.asked.now.scenario.now.values in
    let on : node_of graph process < length graph.nodes = omega (
      arith,
      c.node_of-node.ensures.node,
      c.node_of-node.ensures.within,
    ) in
    let acts = sym c.requires.asked.acts ∙ c.if-not-asked.false in
    let is_start = c.max-start.ensures ∙ ap₂ max c.unfrozen_start-unfrozen.ensures c.frozen_time.ensures in
    end_is_latest graph order c.requires.setting.topological (IsDone graph order process 0)
    c.args.frozen.now values process
    c.requires.process on c.args.faults c.requires.faults c.args.course.now c.requires.course
    c.ready-ready.result c.ready-ready.ensures (inr (inl refl)) acts c.max-start.result is_start c.latest_end-end.result
    c.args.last c.latest_end-end.ensures (c.requires.last c.if-not-asked.false)
