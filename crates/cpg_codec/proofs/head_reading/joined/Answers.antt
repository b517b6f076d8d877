-- Proof of `joined`: the head of lawful parts.
use Rattle.std.proofs.Common.{◌∙◌}
use Rattle.cpg_codec.proofs.WrittenHeads.{plain_head, made_extras, joined_one, joined_two}
use Rattle.cpg_codec.proofs.head_reading.joined.Goals as goal

-- a head without extras that is made of lawful parts is within its limits, so it isn't refused
pub unreachable-requires : goal.unreachable-requires
unreachable-requires c =
    let parts = c.args.parts in
    c.in_default.ensures.refused
    (plain_head parts.version parts.faults parts.nodes.items parts.processes.items parts.extras.items parts.edges.items
    c.requires.lawful)

-- in version 1 the head of the parts has no extras, so it is the one that was made
pub returns-then-parts-ne2 : goal.returns-then-parts-ne2
returns-then-parts-ne2 c =
    let parts = c.args.parts in
    c.in-Some.ensures.head
    ∙ joined_one parts.version parts.faults parts.nodes.items parts.processes.items parts.extras.items
    parts.edges.items c.if-parts-ne2.true

-- in version 2 the extras of lawful parts are lawful, so they aren't refused
pub unreachable-requires-in-None : goal.unreachable-requires-in-None
unreachable-requires-in-None c =
    let parts = c.args.parts in
    c.in-None.ensures.refused (rw c.in-Some.ensures.head
    (made_extras parts.version parts.faults parts.nodes.items parts.processes.items parts.extras.items
    parts.edges.items c.if-parts-ne2.false c.requires.kept c.requires.lawful))

-- in version 2 the head that was made gets the extras, and is then the head of the parts
pub returns : goal.returns
returns c =
    let parts = c.args.parts in
    (rw c.in-Some.ensures.head at c.in-Some-with_extras.ensures.head)
    ∙ joined_two parts.version parts.faults parts.nodes.items
    parts.processes.items parts.extras.items parts.edges.items c.if-parts-ne2.false c.requires.kept
