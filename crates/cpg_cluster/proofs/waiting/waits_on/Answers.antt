-- Proof of `waits_on`: whether a sender with this next instant and slot length may still send one of the frames whose
-- arrivals are `times` and which arrive by `time`.
use Rattle.std.proofs.Common.{◌-◌, ◌∙◌, arith, sym}
use Rattle.std.proofs.lemmas.List.{get_or_default}
use Rattle.cpg_cluster.proofs.Arriving.{none_sent, none_until, last_until}
use Rattle.cpg_cluster.proofs.waiting.waits_on.Goals as goal

-- A frame that is sent from now on arrives after the time, so no frame that arrives by the time may still be sent.
pub returns-then-not-may_still_send : goal.returns-then-not-may_still_send
returns-then-not-may_still_send c =
    none_sent c.args.time c.args.next c.args.slot c.args.times.now (sym c.if-not-may_still_send.ensures)

-- the first later arrival has the place 0, so no frame arrives by the time
pub returns-then-after-eq0 : goal.returns-then-after-eq0
returns-then-after-eq0 c = none_until c.args.time c.args.next c.args.slot c.args.times.now
    (λ i d l. c.first_after-after.ensures.past i d (omega arith) l)

-- The last arrival by the time decides: if an earlier frame may still be sent, so may this one.
pub returns : goal.returns
returns c = c.may_still_send-2.ensures ∙ last_until c.args.time c.args.next c.args.slot c.args.times.now
    (c.first_after-after.result - 1) _ c.requires (omega arith)
    (λ i d l. c.first_after-after.ensures.before i d (omega arith))
    (λ i d k l. c.first_after-after.ensures.past i d (omega arith) l)
    (λ d. get_or_default c.args.times.now (c.first_after-after.result - 1) d 0 (omega arith))
