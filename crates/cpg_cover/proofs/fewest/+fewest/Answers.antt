-- Proof of `fewest`, which returns a lower bound of the faults of scenarios that none of the cubes matches.
use Rattle.std.proofs.Common.{rules, ◌-◌, true, false, arith}
use Rattle.cpg_cover.specs.Fewest.{Needs}
use Rattle.cpg_cover.proofs.FewestLaws.{Steps, without_from, value_from, count_without, count_from, parts_from}
use Rattle.cpg_cover.proofs.fewest.+fewest.Goals as goal

-- what the cubes need after the step to 0 faults is what they need if the process has none
pub fewest_by_count-fewest_with-requires : goal.fewest_by_count-fewest_with-requires
fewest_by_count-fewest_with-requires t c =
    let cubes = c.args.cubes.now in
    -- what a step assumes, and what the cubes need after it
    let steps : Steps cubes c.args.variable false c.args.bound.budget c.in_ok-zero.zero.items =
    rw (c.zero.ensures.variable, c.zero.ensures.more) at c.in_ok-zero.ensures in
    let needs : Needs c.in_ok-zero.zero.items c.in_ok-without.without =
    rw c.as_slice.ensures.value at c.in_ok-without.ensures in (
      search rules,
      (
        c.requires,
        without_from cubes c.in_ok-zero.zero.items c.args.variable c.args.bound.budget
            c.in_ok-without.without steps needs,
      ),
    )

-- the two parts have no common variables, so the cubes need the sum of what they need
pub fewest_by_parts-returns : goal.fewest_by_parts-returns
fewest_by_parts-returns t c =
    let sum = c.saturating_add.ensures in
    parts_from c.args.cubes.now c.in_ok-first.first.items c.in_ok-others.others.items c.args.joined.now
    c.in_ok-first_faults.first_faults c.in_ok-other_faults.other_faults c.saturating_add.result
    c.in_ok-first.ensures.marked c.in_ok-others.ensures.marked c.in_ok-first.ensures.kept c.in_ok-others.ensures.kept
    (rw c.as_slice.ensures.value at c.in_ok-first_faults.ensures)
    (rw c.as_slice-2.ensures.value at c.in_ok-other_faults.ensures) (omega arith)

-- the cubes need the lesser of what they need with the value false and with it true
pub fewest_by_value-returns : goal.fewest_by_value-returns
fewest_by_value-returns t c =
    let cubes = c.args.cubes.now in
    let variable = c.args.variable in
    let budget = c.args.bound.budget in
    -- the cubes after the step that takes the value to be false
    let off : Steps cubes variable false budget c.in_ok-zero.zero.items =
    rw (c.zero.ensures.variable, c.zero.ensures.more) at c.in_ok-zero.ensures in
    -- the cubes after the step that takes the value to be true
    let on : Steps cubes variable true budget c.in_ok-one.one.items =
    rw (c.more.ensures.variable, c.more.ensures.more) at c.in_ok-one.ensures in
    let fewer_is = c.min-fewer.ensures in
    let with_is = c.saturating_add.ensures in
    let min_is = c.min.ensures in
    value_from cubes c.in_ok-zero.zero.items c.in_ok-one.one.items variable budget c.in_ok-without.without
    c.in_ok-with.with
    c.min.result c.requires
    off (rw c.as_slice.ensures.value at c.in_ok-without.ensures) on
    (rw c.as_slice-2.ensures.value at c.in_ok-with.ensures) (omega arith) (omega arith) (omega arith)

-- with a fault of the variable there is one fault at least, so the lesser of `without` and 1 is a bound
pub fewest_with-returns-then-most-eq0 : goal.fewest_with-returns-then-most-eq0
fewest_with-returns-then-most-eq0 t c =
    let min_is = c.min.ensures in
    count_without c.args.cubes.now c.args.variable c.args.bound.budget c.args.without c.min.result c.requires.count
    c.requires.without (omega arith) (omega arith)

-- the cubes need the lesser of what they need without a fault of the process and with one
pub fewest_with-returns : goal.fewest_with-returns
fewest_with-returns t c =
    let cubes = c.args.cubes.now in
    let most = c.min-most.result in
    -- what the step with one fault taken assumes
    let on : Steps cubes c.args.variable true (most - 1) c.in_ok-more.more.items =
    rw (c.more.ensures.variable, c.more.ensures.more) at c.in_ok-more.ensures in
    let one_less = c.saturating_sub.ensures in
    let most_is = c.min-most.ensures in
    let with_one = c.saturating_add-least_faults.ensures in
    let min_is = c.min-2.ensures in
    count_from cubes c.in_ok-more.more.items c.args.variable c.args.bound.budget c.args.without most c.in_ok-with.with
    c.min-2.result c.requires.count c.requires.without (omega arith) (omega arith)
    (omega arith)
    on (rw c.as_slice.ensures.value at c.in_ok-with.ensures) (omega arith) (omega arith)
