-- Proof of `push_four`, which adds the bytes of four literals, for which there is room.
use Rattle.std.proofs.Common.{◌≡◌, ◌∙◌, ◌++◌, true, is_ok, length, ap, rules}
use Rattle.cpg_codec.proofs.Blocks.{appended, four_bytes}
use Rattle.cpg_codec.proofs.buffer.push_four.Goals as goal

-- the added block has three bytes for each of the four literals, in the order of their spelling
pub returns-clause-items : goal.returns-clause-items
returns-clause-items c =
    let old = c.args.bytes.now.items in
    let new = c.extend_from_slice.new.self.items in
    let four : length c.args.literals.now ≡ 4 = search rules in
    let ok : is_ok c.extend_from_slice.result ≡ true = search rules in
    appended old new _ _ c.extend_from_slice.ensures.items ok
    ∙ ap (λ bs. old ++ bs) (four_bytes c.args.literals.now _ four)
