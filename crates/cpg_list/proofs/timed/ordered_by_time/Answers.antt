-- Proof of `ordered_by_time`: the times and places of columns, by time.
use Rattle.std.proofs.Common.{◌≡◌, length, refl, subst, arith, rules}
use Rattle.std.proofs.lemmas.List.Sorted.{IsNonDecreasingBy-from_sort_by_key}
use Rattle.cpg_list.specs.TimeOrder.{TimedColumn}
use Rattle.cpg_list.proofs.CodeTimes.{AreTimes, one_timed, time_order}
use Rattle.cpg_list.proofs.timed.ordered_by_time.Goals as goal

-- before the loop there is no column yet
pub loop-place-init : goal.loop-place-init
loop-place-init c = record { count = search rules; each = λ i d x h. absurd (omega (arith, h)) }

-- the column at this place is added with its time and its place
pub loop-place-preserved : goal.loop-place-preserved
loop-place-preserved c =
    let timed : TimedColumn = record { time = c.index-columns-place.result.time; place = c.loop-place.place } in
    one_timed c.args.columns.now c.loop-place.place c.loop-place.by_time.items c.push.new.self.items
    c.index-columns-place.result timed c.loop-place-test.true c.loop-place.invariant
    c.index-columns-place.is (search rules) refl refl

-- the times and places of all columns, sorted by time, are the columns in time order
pub returns : goal.returns
returns c =
    let all : c.loop-place.place ≡ length c.args.columns.now =
    omega (arith, c.loop-place-test.false, c.loop-place.auto.place-end) in
    time_order c.args.columns.now c.loop-place.by_time.items c.sort_by_key.new.self.items
    (subst (λ n. AreTimes c.args.columns.now n c.loop-place.by_time.items) all c.loop-place.invariant)
    c.in_ok-sort_by_key.ensures.permutation
    (IsNonDecreasingBy-from_sort_by_key (λ (t : TimedColumn). t.time) _ c.in_ok-sort_by_key.ensures.sorted
    (λ a r f' k. search rules))
