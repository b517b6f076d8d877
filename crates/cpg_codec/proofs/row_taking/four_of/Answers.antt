-- Proof of `four_of`, which returns the four literals that these bytes spell, three bytes for each.
use Rattle.std.proofs.Common.{◌≡◌, ◌∙◌, ◌∷◌, [], length, ap, ap₂, rules, sym}
use Rattle.std.specs.List.{flat_map}
use Rattle.cpg_cube.specs.declared.literal.Literal.{Literal}
use Rattle.cpg_codec.specs.Spelling.{literal_bytes}
use Rattle.cpg_codec.proofs.Blocks.{elements}
use Rattle.cpg_codec.proofs.row_taking.four_of.Goals as goal

-- each literal is spelled by the three bytes that it is made of, so all by the 12
pub returns : goal.returns
returns c =
    let many : length c.args.bytes ≡ 12 = search rules in
    ap (flat_map literal_bytes)
    (ap₂ ◌∷◌ c.literal_of.ensures (ap₂ ◌∷◌ c.literal_of-2.ensures
    (ap₂ ◌∷◌ c.literal_of-3.ensures (ap (λ (l : Literal). l ∷ []) c.literal_of-4.ensures))))
    ∙ sym (elements c.args.bytes 12 _ many)
