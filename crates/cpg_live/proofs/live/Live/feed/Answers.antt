-- Proof of `Live::feed`: takes the next bytes of the stream, and with them all records that they complete.
use Rattle.std.proofs.Common.{ap, ◌∙◌}
use Rattle.cpg_live.specs.Stream.{LiveState}
use Rattle.cpg_live.proofs.Cutting.{feeds, kept}
use Rattle.cpg_live.proofs.Growing.{bytes_grow}
use Rattle.cpg_live.proofs.live.Live.feed.Goals as goal

-- to take bytes one by one leads to the state after all bytes, however they are cut
pub returns-clause-whole : goal.returns-clause-whole
returns-clause-whole c = feeds c.args.self.now c.take_bytes.new.self c.args.piece.now c.take_bytes.ensures

-- no byte takes acts away, so the old acts come first among the new ones
pub returns-clause-grows : goal.returns-clause-grows
returns-clause-grows c = let grown = bytes_grow c.args.self.now c.args.piece.now in
    (grown.0, ap (λ (s : LiveState). s.progress.acts) c.take_bytes.ensures ∙ grown.1)

-- after a lawless record no byte changes anything
pub returns-clause-kept : goal.returns-clause-kept
returns-clause-kept c = kept c.args.self.now c.take_bytes.new.self c.args.piece.now c.take_bytes.ensures
