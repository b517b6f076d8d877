-- Proof of `has_each`: returns whether a list has each number below its length exactly once.
use Rattle.std.proofs.Common.{◌≡◌, ◌∙◌, ◌<◌, sym, subst, refl, false, true≢false, get_or, length, arith, rules}
use Rattle.std.proofs.lemmas.List.{get_or_default}
use Rattle.cpg_order.proofs.ListChecks.{AreSeen, seen_none, seen_more, not_great, not_twice, all_seen}
use Rattle.cpg_order.proofs.lists.has_each.Goals as goal

-- before the first number none is marked as seen
pub loop-number-init : goal.loop-number-init
loop-number-init c = seen_none c.args.list.now c.in_ok-seen.seen.items (search rules)

-- a number that is too great shows that the list doesn't have each number once
pub returns-then-place-list : goal.returns-then-place-list
returns-then-place-list c = (
  λ holds. absurd (true≢false (sym holds)),
  λ all. absurd (not_great c.args.list.now c.loop-number.seen.items c.loop-number.number-index c.loop-number.invariant
      c.loop-number-test.true c.if-place-list.true all),
)

-- a number that is marked already occurs twice, so the list doesn't have each number once
pub returns-then-index : goal.returns-then-index
returns-then-index c =
    let small : get_or c.args.list.now c.loop-number.number-index 0 < length c.args.list.now = omega arith in
    -- the mark that is read is set
    let old = sym (get_or_default c.loop-number.seen.items (get_or c.args.list.now c.loop-number.number-index 0)
    c.index.result.now false (omega (arith, c.loop-number.invariant.long))) ∙
    sym c.index.ensures ∙ c.if-index.true in (
      λ holds. absurd (true≢false (sym holds)),
      λ all. absurd (not_twice c.args.list.now c.loop-number.seen.items c.loop-number.number-index
          c.loop-number.invariant c.loop-number-test.true small old all),
    )

-- a number that is not marked yet is one more that was seen
pub loop-number-preserved : goal.loop-number-preserved
loop-number-preserved c =
    let small : get_or c.args.list.now c.loop-number.number-index 0 < length c.args.list.now = omega arith in
    -- the mark that is read isn't set
    let fresh = sym (get_or_default c.loop-number.seen.items (get_or c.args.list.now c.loop-number.number-index 0)
    c.index.result.now false (omega (arith, c.loop-number.invariant.long))) ∙
    sym c.index.ensures ∙ c.if-index.false in
    seen_more c.args.list.now c.loop-number.seen.items c.loop-number.number-index c.loop-number.invariant
    c.loop-number-test.true small fresh

-- all numbers of the list were seen, so it has each number once
pub returns : goal.returns
returns c =
    let all_read : c.loop-number.number-index ≡ length c.args.list.now = omega arith in (
      λ holds. all_seen c.args.list.now c.loop-number.seen.items
          (subst (AreSeen c.args.list.now c.loop-number.seen.items) all_read c.loop-number.invariant),
      λ all. refl,
    )
