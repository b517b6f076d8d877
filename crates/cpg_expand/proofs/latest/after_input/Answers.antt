-- Proof of `after_input`, which returns `latest`, raised to the latest arrival of an input where `active` is true. If
-- the input comes from the node itself, `latest` stays.
use Rattle.std.proofs.Common.{◌≡◌, ◌∙◌, true, sym, subst}
use Rattle.cpg_base.specs.Bus.{slot_length}
use Rattle.cpg_base.specs.Graph.{home, is_message}
use Rattle.cpg_expand.specs.Forest.{times_of}
use Rattle.cpg_expand.specs.Latest.{HasLater, IsRaised}
use Rattle.cpg_expand.proofs.LatestFound.{input_raised}
use Rattle.cpg_expand.proofs.latest.after_input.Goals as goal

-- the input is a message, so the latest time is raised to the end of its frame
pub returns : goal.returns
returns c =
    let g = c.args.problem.now in
    let f = c.args.forest.now in
    let on : is_message g c.args.edge ≡ true = sym c.is_message.ensures ∙ c.if-not-is_message.false in
    input_raised g f c.args.active.now c.args.edge c.args.latest c.after_frame.result on
    (subst (λ x. IsRaised g (HasLater (times_of g f x) c.args.active.now (slot_length g (home g x))) c.args.latest
    c.after_frame.result) c.message_item.ensures.item c.after_frame.ensures)
