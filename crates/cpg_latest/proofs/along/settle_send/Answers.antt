-- Proof of `settle_send`: sets the frozen time of the item at a place in the queue of a process, if it is frozen and
-- active in some track.
use Rattle.std.proofs.Common.{◌≡◌, ◌∙◌, ◌+◌, ◌<◌, length, get_or, Contains, None, refl, sym, ap, subst, arith}
use Rattle.std.proofs.lemmas.List.Elements.{Contains-get_or}
use Rattle.cpg_base.specs.Graph.{is_frozen, item_count}
use Rattle.cpg_bus.specs.Plan.{queue_of}
use Rattle.cpg_run.specs.Latest.{IsUnfrozenTime}
use Rattle.cpg_latest.specs.Course.{IsDone, outcomes_asked}
use Rattle.cpg_latest.specs.Lanes.{IsSettledBy, queued}
use Rattle.cpg_latest.specs.Over.{IsLatestSend}
use Rattle.cpg_latest.proofs.Found.{on_graph}
use Rattle.cpg_latest.proofs.OverAll.{send_over, tell_sends}
use Rattle.cpg_latest.proofs.Settling.{early_of, here_within, not_yet, send_grows, send_later, send_one, send_only}
use Rattle.cpg_latest.proofs.Settling.{settled_idle, settled_more}
use Rattle.cpg_latest.proofs.along.settle_send.Goals as goal

-- the item at this place of the queue is one of the graph
pub is_frozen-requires : goal.is_frozen-requires
is_frozen-requires c =
    let graph = c.args.setting.now.problem.now in
    let order = c.args.setting.now.order.now in
    let process = c.args.process in
    let frozen = c.args.frozen.now in
    let top = c.requires.setting.topological in
    let limits = c.requires.setting.admitted.1.limits in
    let place = c.args.at in
    let item = queued graph process place in
    let here : get_or c.queue.result.now place 0 ≡ item = ap (λ xs. get_or xs place 0) c.queue.ensures in
    subst (λ y. y < item_count graph) (sym here)
    (here_within graph order top process c.requires.process place c.requires.at)

-- the item isn't frozen, so it has no frozen time, and the frozen times stay settled with it
pub returns-then-not-is_frozen-clause-settled : goal.returns-then-not-is_frozen-clause-settled
returns-then-not-is_frozen-clause-settled c =
    let graph = c.args.setting.now.problem.now in
    let order = c.args.setting.now.order.now in
    let process = c.args.process in
    let frozen = c.args.frozen.now in
    let top = c.requires.setting.topological in
    let limits = c.requires.setting.admitted.1.limits in
    let place = c.args.at in
    let item = queued graph process place in
    let here : get_or c.queue.result.now place 0 ≡ item = ap (λ xs. get_or xs place 0) c.queue.ensures in
    settled_idle graph order top limits (IsDone graph order process place) (IsDone graph order process (place + 1))
    frozen c.requires.sending.settled item
    -- the item is one of the graph and not done yet; what was done stays done, and only the item is done beside it
    (here_within graph order top process c.requires.process place c.requires.at)
    (send_later graph order top process c.requires.process place c.requires.at)
    (send_grows graph order top process c.requires.process place c.requires.at)
    (send_one graph order top process c.requires.process place c.requires.at)
    (send_only graph order top process c.requires.process place c.requires.at)
    (ap (is_frozen graph) (sym here) ∙ sym c.is_frozen.ensures ∙ c.if-not-is_frozen.true)

-- an item that isn't frozen leaves the list of frozen times as it is
pub returns-then-not-is_frozen-clause-others : goal.returns-then-not-is_frozen-clause-others
returns-then-not-is_frozen-clause-others c = record { others = λ y other. refl; count = refl }

-- the item at this place of the queue is one that the process sends
pub latest_send-latest-requires-clause-item : goal.latest_send-latest-requires-clause-item
latest_send-latest-requires-clause-item c =
    let graph = c.args.setting.now.problem.now in
    let order = c.args.setting.now.order.now in
    let process = c.args.process in
    let frozen = c.args.frozen.now in
    let top = c.requires.setting.topological in
    let limits = c.requires.setting.admitted.1.limits in
    let place = c.args.at in
    let item = queued graph process place in
    let here : get_or c.queue.result.now place 0 ≡ item = ap (λ xs. get_or xs place 0) c.queue.ensures in
    subst (Contains (queue_of graph process)) (sym here)
    (Contains-get_or (queue_of graph process) place 0 c.requires.at)

-- the last course of each lane has what `latest_send` requires, as its times are known up to the item, and small
pub latest_send-latest-requires-clause-lanes : goal.latest_send-latest-requires-clause-lanes
latest_send-latest-requires-clause-lanes c =
    let graph = c.args.setting.now.problem.now in
    let order = c.args.setting.now.order.now in
    let process = c.args.process in
    let frozen = c.args.frozen.now in
    let top = c.requires.setting.topological in
    let limits = c.requires.setting.admitted.1.limits in
    let place = c.args.at in
    -- the item at this place of what the process sends
    let item = queued graph process place in
    let here : get_or c.queue.result.now place 0 ≡ item = ap (λ xs. get_or xs place 0) c.queue.ensures in
    -- the lanes tell it, since what is settled before it is early, and nothing else is
    tell_sends graph c.requires.setting.admitted.0 order frozen (outcomes_asked c.args.asked.now)
    c.requires.setting.admitted.1.urgency c.requires.setting.admitted.1.topological top c.requires.tracks
    process c.requires.process (on_graph graph limits process c.requires.process) place c.requires.at limits
    (early_of graph order top limits (IsDone graph order process place) frozen c.requires.sending.settled)
    (not_yet graph order top limits (IsDone graph order process place) (IsDone graph order process (place + 1)) frozen
    c.requires.sending.settled item
    -- the item is one of the graph and not done yet; what was done stays done, and only the item is done beside it
    (here_within graph order top process c.requires.process place c.requires.at)
    (send_later graph order top process c.requires.process place c.requires.at)
    (send_grows graph order top process c.requires.process place c.requires.at)
    (send_one graph order top process c.requires.process place c.requires.at)
    (send_only graph order top process c.requires.process place c.requires.at))
    c.args.lanes.now c.requires.sending.known

-- the item at this place of the queue is one of the graph, so it has a place among the frozen times
pub settle-requires-clause-item : goal.settle-requires-clause-item
settle-requires-clause-item c =
    let graph = c.args.setting.now.problem.now in
    let order = c.args.setting.now.order.now in
    let process = c.args.process in
    let frozen = c.args.frozen.now in
    let top = c.requires.setting.topological in
    let limits = c.requires.setting.admitted.1.limits in
    let place = c.args.at in
    let item = queued graph process place in
    let here : get_or c.queue.result.now place 0 ≡ item = ap (λ xs. get_or xs place 0) c.queue.ensures in
    omega (
      arith,
      here,
      here_within graph order top process c.requires.process place c.requires.at,
      c.requires.sending.settled.count,
    )

-- the item is not done yet, so no frozen time of it is set
pub settle-requires-clause-unset : goal.settle-requires-clause-unset
settle-requires-clause-unset c =
    let graph = c.args.setting.now.problem.now in
    let order = c.args.setting.now.order.now in
    let process = c.args.process in
    let frozen = c.args.frozen.now in
    let top = c.requires.setting.topological in
    let limits = c.requires.setting.admitted.1.limits in
    let place = c.args.at in
    let item = queued graph process place in
    let here : get_or c.queue.result.now place 0 ≡ item = ap (λ xs. get_or xs place 0) c.queue.ensures in
    subst (λ y. get_or frozen y None ≡ None) (sym here)
    (not_yet graph order top limits (IsDone graph order process place) (IsDone graph order process (place + 1)) frozen
    c.requires.sending.settled item
    -- the item is one of the graph and not done yet; what was done stays done, and only the item is done beside it
    (here_within graph order top process c.requires.process place c.requires.at)
    (send_later graph order top process c.requires.process place c.requires.at)
    (send_grows graph order top process c.requires.process place c.requires.at)
    (send_one graph order top process c.requires.process place c.requires.at)
    (send_only graph order top process c.requires.process place c.requires.at))

-- the latest time over all tracks is the greatest that the item would have if it were not frozen, and so is its frozen time
pub returns-clause-settled : goal.returns-clause-settled
returns-clause-settled c =
    let graph = c.args.setting.now.problem.now in
    let order = c.args.setting.now.order.now in
    let process = c.args.process in
    let frozen = c.args.frozen.now in
    let top = c.requires.setting.topological in
    let limits = c.requires.setting.admitted.1.limits in
    let place = c.args.at in
    let item = queued graph process place in
    let here : get_or c.queue.result.now place 0 ≡ item = ap (λ xs. get_or xs place 0) c.queue.ensures in
    -- only the item's own place of the list is set
    let by = subst (λ y. IsSettledBy y frozen c.settle.new.frozen) here c.settle.ensures.others in
    -- one more item is settled: it is frozen
    settled_more graph order top limits (IsDone graph order process place) (IsDone graph order process (place + 1))
    frozen c.requires.sending.settled item
    -- the item is one of the graph and not done yet; what was done stays done, and only the item is done beside it
    (here_within graph order top process c.requires.process place c.requires.at)
    (send_later graph order top process c.requires.process place c.requires.at)
    (send_grows graph order top process c.requires.process place c.requires.at)
    (send_one graph order top process c.requires.process place c.requires.at)
    (send_only graph order top process c.requires.process place c.requires.at)
    (ap (is_frozen graph) (sym here) ∙ sym c.is_frozen.ensures ∙ c.if-not-is_frozen.false) c.settle.new.frozen
    -- the new frozen time is the greatest that the item would have if it weren't frozen
    (subst (IsUnfrozenTime graph order frozen item)
    (sym (ap (λ y. get_or c.settle.new.frozen y None) (sym here) ∙ c.settle.ensures.time))
    (send_over graph c.requires.setting.admitted.0 order frozen (outcomes_asked c.args.asked.now)
    c.requires.setting.admitted.1.urgency c.requires.setting.admitted.1.topological top c.requires.tracks
    process c.requires.process (on_graph graph limits process c.requires.process) place c.requires.at limits
    (early_of graph order top limits (IsDone graph order process place) frozen c.requires.sending.settled)
    (not_yet graph order top limits (IsDone graph order process place) (IsDone graph order process (place + 1)) frozen
    c.requires.sending.settled item
    -- the item is one of the graph and not done yet; what was done stays done, and only the item is done beside it
    (here_within graph order top process c.requires.process place c.requires.at)
    (send_later graph order top process c.requires.process place c.requires.at)
    (send_grows graph order top process c.requires.process place c.requires.at)
    (send_one graph order top process c.requires.process place c.requires.at)
    (send_only graph order top process c.requires.process place c.requires.at))
    c.args.lanes.now c.requires.sending.known c.latest_send-latest.result
    (subst (λ y. IsLatestSend graph (outcomes_asked c.args.asked.now) process y c.args.lanes.now
    (length c.args.lanes.now) c.latest_send-latest.result) here c.latest_send-latest.ensures)))
    by.others by.count

-- `settle` changes the frozen time of the item alone, which is the one at this place of the queue
pub returns-clause-others : goal.returns-clause-others
returns-clause-others c =
    let graph = c.args.setting.now.problem.now in
    let order = c.args.setting.now.order.now in
    let process = c.args.process in
    let frozen = c.args.frozen.now in
    let top = c.requires.setting.topological in
    let limits = c.requires.setting.admitted.1.limits in
    let place = c.args.at in
    let item = queued graph process place in
    let here : get_or c.queue.result.now place 0 ≡ item = ap (λ xs. get_or xs place 0) c.queue.ensures in
    subst (λ y. IsSettledBy y frozen c.settle.new.frozen) here c.settle.ensures.others
