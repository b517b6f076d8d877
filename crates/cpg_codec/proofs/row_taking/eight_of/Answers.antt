-- Proof of `eight_of`, which returns the eight literals that these bytes spell, three bytes for each.
use Rattle.std.proofs.Common.{◌≡◌, ◌∙◌, ◌∷◌, [], length, ap, ap₂, rules, sym}
use Rattle.std.specs.List.{flat_map}
use Rattle.cpg_cube.specs.declared.literal.Literal.{Literal}
use Rattle.cpg_codec.specs.Spelling.{literal_bytes}
use Rattle.cpg_codec.proofs.Blocks.{elements}
use Rattle.cpg_codec.proofs.row_taking.eight_of.Goals as goal

-- each literal is spelled by the three bytes that it is made of, so all by the 24
pub returns : goal.returns
returns c =
    let many : length c.args.bytes ≡ 24 = search rules in
    ap (flat_map literal_bytes)
    (ap₂ ◌∷◌ c.literal_of.ensures
    (ap₂ ◌∷◌ c.literal_of-2.ensures (ap₂ ◌∷◌ c.literal_of-3.ensures (ap₂ ◌∷◌ c.literal_of-4.ensures
    (ap₂ ◌∷◌ c.literal_of-5.ensures (ap₂ ◌∷◌ c.literal_of-6.ensures
    (ap₂ ◌∷◌ c.literal_of-7.ensures (ap (λ (l : Literal). l ∷ []) c.literal_of-8.ensures))))))))
    ∙ sym (elements c.args.bytes 24 _ many)
