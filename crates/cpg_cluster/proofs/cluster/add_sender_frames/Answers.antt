-- Proof of `add_sender_frames`, which adds the frame of an item, with this value, if there is such a sender, it has sent
-- the item, and the frame arrives at the time.
use Rattle.std.proofs.Common.{◌++◌, arith, sym, ap, ◌∙◌, [], append-nil, length, List, Option, subst}
use Rattle.std.specs.Option.{option_map_or}
use Rattle.std.proofs.lemmas.List.{length-append}
use Rattle.std.proofs.lemmas.Option.{slice_get_past}
use Rattle.cpg_node.specs.Dispatcher.{Frame}
use Rattle.cpg_cluster.specs.declared.member.Member.{Member}
use Rattle.cpg_cluster.specs.Keeping.{HasNoted, frames_of_member}
use Rattle.cpg_cluster.specs.Taking.{frames_from}
use Rattle.cpg_cluster.proofs.Noted.{sender_frames}
use Rattle.cpg_cluster.proofs.cluster.add_sender_frames.Goals as goal

-- the frame of what the sender has noted is the one that its acts give, so there is room for it
pub add_noted_frame-requires : goal.add_noted_frame-requires
add_noted_frame-requires c =
    let sender = c.index-members-sender.result in
    let has : HasNoted sender c.args.item = subst (λ (m : Member). HasNoted m c.args.item)
    (sym c.index-members-sender.is)
    (c.requires.noted sender c.if-sender-members.true) in
    omega (
      arith,
      c.requires.room,
      length-append c.args.frames.now.items
          (frames_of_member c.args.members.now c.args.value c.args.item c.args.time c.args.sender),
      ap (λ (l : List Frame). length l) (sender_frames c.args.members.now c.args.sender sender c.args.value c.args.item
          c.args.time c.as_slice-noted.result.now c.if-sender-members.true
          c.index-members-sender.is has c.as_slice-noted.ensures.value),
    )

-- the frame of what the sender has noted is the one that its acts give
pub returns-then-sender-members-clause-frames : goal.returns-then-sender-members-clause-frames
returns-then-sender-members-clause-frames c =
    let sender = c.index-members-sender.result in
    let has : HasNoted sender c.args.item = subst (λ (m : Member). HasNoted m c.args.item)
    (sym c.index-members-sender.is)
    (c.requires.noted sender c.if-sender-members.true) in
    c.add_noted_frame.ensures.frames ∙ ap (λ (l : List Frame). c.args.frames.now.items ++ l)
    (sender_frames c.args.members.now c.args.sender sender c.args.value c.args.item c.args.time
    c.as_slice-noted.result.now
    c.if-sender-members.true c.index-members-sender.is has
    c.as_slice-noted.ensures.value)

-- if there is no such sender, it has no frames
pub returns-else-sender-members-clause-frames : goal.returns-else-sender-members-clause-frames
returns-else-sender-members-clause-frames c =
    sym (ap (λ (o : Option Member). c.args.frames.now.items
    ++ option_map_or (λ (m : Member). frames_from c.args.value c.args.item m.slot c.args.time m.acts.items) o [])
    (slice_get_past c.args.members.now c.args.sender c.if-sender-members.false) ∙ append-nil c.args.frames.now.items)
