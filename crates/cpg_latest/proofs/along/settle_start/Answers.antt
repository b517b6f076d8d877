-- Proof of `settle_start`: sets the frozen time of a process's start, if it is frozen and active in some track.
use Rattle.std.proofs.Common.{◌∙◌, refl, sym, subst, arith}
use Rattle.cpg_base.specs.Order.{place}
use Rattle.cpg_run.specs.Latest.{IsUnfrozenTime}
use Rattle.cpg_latest.specs.Course.{IsDone, IsEarlier, outcomes_asked}
use Rattle.cpg_latest.proofs.Found.{on_graph}
use Rattle.cpg_latest.proofs.OverAll.{start_over, tell_starts}
use Rattle.cpg_latest.proofs.Settling.{early_of, not_yet, settled_idle, settled_more, start_grows, start_later}
use Rattle.cpg_latest.proofs.Settling.{start_one, start_only}
use Rattle.cpg_latest.proofs.along.settle_start.Goals as goal

-- the start isn't frozen, so it has no frozen time, and the frozen times stay settled with it
pub returns-then-not-is_frozen-clause-settled : goal.returns-then-not-is_frozen-clause-settled
returns-then-not-is_frozen-clause-settled c =
    let graph = c.args.setting.now.problem.now in
    let order = c.args.setting.now.order.now in
    let process = c.args.process in
    let frozen = c.args.frozen.now in
    let top = c.requires.setting.topological in
    let limits = c.requires.setting.admitted.1.limits in
    settled_idle graph order top limits (IsEarlier graph order (place order process))
    (IsDone graph order process 0) frozen c.requires.known.settled process (omega (arith, c.requires.process))
    (start_later graph order top process c.requires.process) (start_grows graph order top process c.requires.process)
    (start_one graph order top process c.requires.process) (start_only graph order top process c.requires.process)
    (sym c.is_frozen.ensures ∙ c.if-not-is_frozen.true)

-- a process that isn't frozen leaves the list of frozen times as it is
pub returns-then-not-is_frozen-clause-others : goal.returns-then-not-is_frozen-clause-others
returns-then-not-is_frozen-clause-others c = record { others = λ y other. refl; count = refl }

-- the last course of each lane has what `latest_start` requires, as its times are known up to the process, and small
pub latest_start-latest-requires-clause-lanes : goal.latest_start-latest-requires-clause-lanes
latest_start-latest-requires-clause-lanes c =
    let graph = c.args.setting.now.problem.now in
    let order = c.args.setting.now.order.now in
    let process = c.args.process in
    let frozen = c.args.frozen.now in
    let top = c.requires.setting.topological in
    let limits = c.requires.setting.admitted.1.limits in
    tell_starts graph c.requires.setting.admitted.0 order frozen (outcomes_asked c.args.asked.now)
    c.requires.setting.admitted.1.urgency c.requires.setting.admitted.1.topological top c.requires.tracks
    process c.requires.process (on_graph graph limits process c.requires.process) limits
    (early_of graph order top limits (IsEarlier graph order (place order process)) frozen c.requires.known.settled)
    -- the start of the process isn't done yet, so it has no frozen time
    (not_yet graph order top limits (IsEarlier graph order (place order process))
    (IsDone graph order process 0) frozen c.requires.known.settled process (omega (arith, c.requires.process))
    (start_later graph order top process c.requires.process) (start_grows graph order top process c.requires.process)
    (start_one graph order top process c.requires.process) (start_only graph order top process c.requires.process))
    c.args.lanes.now c.requires.known.known

-- the process is an item that the list of frozen times has a place for
pub settle-requires-clause-item : goal.settle-requires-clause-item
settle-requires-clause-item c = omega (arith, c.requires.process, c.requires.known.settled.count)

-- the start is not done yet, so no frozen time of it is set
pub settle-requires-clause-unset : goal.settle-requires-clause-unset
settle-requires-clause-unset c =
    let graph = c.args.setting.now.problem.now in
    let order = c.args.setting.now.order.now in
    let process = c.args.process in
    let frozen = c.args.frozen.now in
    let top = c.requires.setting.topological in
    let limits = c.requires.setting.admitted.1.limits in
    not_yet graph order top limits (IsEarlier graph order (place order process))
    (IsDone graph order process 0) frozen c.requires.known.settled process (omega (arith, c.requires.process))
    (start_later graph order top process c.requires.process) (start_grows graph order top process c.requires.process)
    (start_one graph order top process c.requires.process) (start_only graph order top process c.requires.process)

-- the latest start over all tracks is the greatest that the process would have if it were not frozen, and so is its frozen
-- time
pub returns-clause-settled : goal.returns-clause-settled
returns-clause-settled c =
    let graph = c.args.setting.now.problem.now in
    let order = c.args.setting.now.order.now in
    let process = c.args.process in
    let frozen = c.args.frozen.now in
    let top = c.requires.setting.topological in
    let limits = c.requires.setting.admitted.1.limits in
    -- one more item is settled: the start of the process, which is frozen
    settled_more graph order top limits (IsEarlier graph order (place order process))
    (IsDone graph order process 0) frozen c.requires.known.settled process (omega (arith, c.requires.process))
    (start_later graph order top process c.requires.process) (start_grows graph order top process c.requires.process)
    (start_one graph order top process c.requires.process) (start_only graph order top process c.requires.process)
    (sym c.is_frozen.ensures ∙ c.if-not-is_frozen.false) c.settle.new.frozen
    (subst (IsUnfrozenTime graph order frozen process) (sym c.settle.ensures.time)
    (start_over graph c.requires.setting.admitted.0 order frozen (outcomes_asked c.args.asked.now)
    c.requires.setting.admitted.1.urgency c.requires.setting.admitted.1.topological top c.requires.tracks
    process c.requires.process (on_graph graph limits process c.requires.process) limits
    (early_of graph order top limits (IsEarlier graph order (place order process)) frozen c.requires.known.settled)
    -- the start of the process isn't done yet, so it has no frozen time
    (not_yet graph order top limits (IsEarlier graph order (place order process))
    (IsDone graph order process 0) frozen c.requires.known.settled process (omega (arith, c.requires.process))
    (start_later graph order top process c.requires.process) (start_grows graph order top process c.requires.process)
    (start_one graph order top process c.requires.process) (start_only graph order top process c.requires.process))
    c.args.lanes.now c.requires.known.known c.latest_start-latest.result c.latest_start-latest.ensures))
    c.settle.ensures.others.others c.settle.ensures.others.count

-- `settle` changes the frozen time of the start alone
pub returns-clause-others : goal.returns-clause-others
returns-clause-others c = c.settle.ensures.others
