-- Proof of `waited_on`, which returns the least number of a member that a member waits on before it takes an
-- instant, or `None` if it waits on none.
use Rattle.std.proofs.Common.{arith, refl, sym, ap, ◌∙◌, ◌≡◌, ℕ, ◌<◌, length, get_or, inl, inr, Bool, List}
use Rattle.std.proofs.lemmas.List.{get_or_default}
use Rattle.std.proofs.lemmas.Bool.{cases_eq}
use Rattle.cpg_cluster.specs.declared.member.Member.{Member}
use Rattle.cpg_cluster.specs.Keeping.{waits_between}
use Rattle.cpg_cluster.specs.Cluster.{Waits}
use Rattle.cpg_cluster.proofs.Asking.{first_waits, none_waits}
use Rattle.cpg_cluster.proofs.waiting.waited_on.Goals as goal

-- no sender is before the first
pub loop-sender-init : goal.loop-sender-init
loop-sender-init c = record { other = refl; none = λ j d h. absurd (omega arith) }

-- The answer of the call in the loop is the test of the sender with number i, as the item of the loop is the i-th
-- member and `other` counts the members.
tested : (members : List Member) (member : Member) (time other i : ℕ) (item d : Member) (r : Bool) →
    i < length members → other ≡ i →
    item ≡ get_or members i item →
    r ≡ waits_between time member other item →
    waits_between time member i (get_or members i d) ≡ r
tested members member time other i item d r l o is e =
    ap (waits_between time member i) (get_or_default members i d item l ∙ sym is)
    ∙ sym (e ∙ ap (λ n. waits_between time member n item) o)

-- the member waits on this one and on none before it, so this is the least
pub returns-then-waits_between : goal.returns-then-waits_between
returns-then-waits_between c d =
    let place = c.loop-sender.sender-index in
    ap Waits c.loop-sender.invariant.other
    ∙ first_waits (λ b. waits_between c.args.time c.args.member.now b (get_or c.args.members.now b d))
    (length c.args.members.now) place c.loop-sender-test.true
    (λ j h. c.loop-sender.invariant.none j d h)
    (tested c.args.members.now c.args.member.now c.args.time c.loop-sender.other place c.sender-item.result d
    c.waits_between.result c.loop-sender-test.true c.loop-sender.invariant.other c.sender-item.is
    c.waits_between.ensures ∙ c.if-waits_between.true)

-- the member doesn't wait on this sender either: one before it is among those so far, or is this one
pub loop-sender-preserved : goal.loop-sender-preserved
loop-sender-preserved c = record {
  other = omega (arith, c.loop-sender.invariant.other);
  none = λ j d h. elim (cases_eq j c.loop-sender.sender-index) [
    | inl e ↦ ap (λ n. waits_between c.args.time c.args.member.now n (get_or c.args.members.now n d)) e
        ∙ tested c.args.members.now c.args.member.now c.args.time c.loop-sender.other c.loop-sender.sender-index
        c.sender-item.result d c.waits_between.result c.loop-sender-test.true
        c.loop-sender.invariant.other c.sender-item.is c.waits_between.ensures ∙ c.if-waits_between.false
    | inr ne ↦ c.loop-sender.invariant.none j d (omega arith)
  ];
}

-- after the loop the member waits on no sender, so the filtered list is empty
pub returns : goal.returns
returns c d = none_waits (λ b. waits_between c.args.time c.args.member.now b (get_or c.args.members.now b d))
    (length c.args.members.now) (λ j h. c.loop-sender.invariant.none j d (omega arith))
