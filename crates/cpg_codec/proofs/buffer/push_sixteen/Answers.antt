-- Proof of `push_sixteen`, which adds the bytes of sixteen literals, three for each, for which there is room.
use Rattle.std.proofs.Common.{◌≡◌, ◌∙◌, ◌++◌, true, is_ok, length, ap, rules}
use Rattle.cpg_codec.proofs.Blocks.{appended, sixteen_bytes}
use Rattle.cpg_codec.proofs.buffer.push_sixteen.Goals as goal

-- the added block has three bytes for each of the sixteen literals, in the order of their spelling
pub returns-clause-items : goal.returns-clause-items
returns-clause-items c =
    let old = c.args.bytes.now.items in
    let new = c.extend_from_slice.new.self.items in
    let sixteen : length c.args.literals.now ≡ 16 = search rules in
    let ok : is_ok c.extend_from_slice.result ≡ true = search rules in
    appended old new _ _ c.extend_from_slice.ensures.items ok
    ∙ ap (λ bs. old ++ bs) (sixteen_bytes c.args.literals.now _ sixteen)
