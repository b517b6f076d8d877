-- Proof of `push_eight`, which adds the bytes of eight literals, for which there is room.
use Rattle.std.proofs.Common.{◌≡◌, ◌∙◌, ◌++◌, true, is_ok, length, ap, rules}
use Rattle.cpg_codec.proofs.Blocks.{appended, eight_bytes}
use Rattle.cpg_codec.proofs.buffer.push_eight.Goals as goal

-- the added block has three bytes for each of the eight literals, in the order of their spelling
pub returns-clause-items : goal.returns-clause-items
returns-clause-items c =
    let old = c.args.bytes.now.items in
    let new = c.extend_from_slice.new.self.items in
    let eight : length c.args.literals.now ≡ 8 = search rules in
    let ok : is_ok c.extend_from_slice.result ≡ true = search rules in
    appended old new _ _ c.extend_from_slice.ensures.items ok
    ∙ ap (λ bs. old ++ bs) (eight_bytes c.args.literals.now _ eight)
