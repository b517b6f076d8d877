-- Proof of `Line::add`: adds a literal.
use Rattle.std.proofs.Common.{rules, ◌≡◌, ◌∙◌, ◌+◌, ◌*◌, ◌++◌, ◌≤◌, ◌<◌, ap, ap₂, arith, get_or, length, refl, take}
use Rattle.std.proofs.lemmas.List.{get_or_default, length-set}
use Rattle.std.specs.Vec.{vec_len}
use Rattle.cpg_label.specs.Lines.{text_after}
use Rattle.cpg_label.proofs.Lines.{end_short, line_added, refilled}
use Rattle.cpg_label.proofs.line.Line.add.Goals as goal

-- the text of the new literal is put where that of the others ends, and its own end is noted, at most 84 bytes further
pub returns-clause-line : goal.returns-clause-line
returns-clause-line c =
    let labels = c.args.labels.now in
    let old = c.args.self.now in
    let is = c.requires.line in
    let put = c.place_after-end.new.out in
    -- the place `at` is where the text of the literals so far ends
    let room : old.count ≤ length old.literals.items = omega (arith, is.few, is.literals) in
    let at : c.index-at.result.now ≡ get_or old.ends.items old.count 0 =
    c.index-at.ensures
    ∙ get_or_default old.ends.items old.count c.index-at.result.now 0 (omega (arith, c.requires.few, is.ends)) in
    -- to put a text doesn't change how many bytes there are
    let long : length put ≡ 256 * 84 =
    c.place_after-end.ensures.len ∙ ap length c.as_mut_slice.ensures.value ∙ is.text in
    let stands : length old.text.items ≡ vec_len old.text = search rules in
    let same = refilled (vec_len old.text) put old.text.items
    (c.place_after-end.ensures.len ∙ ap length c.as_mut_slice.ensures.value ∙ stands) in
    let short = end_short labels old.literals.items old.text.items old.ends.items old.count is.are room in
    let few : c.place_after-end.result ≤ get_or old.ends.items old.count 0 + 84 =
    omega (arith, at, c.place_after-end.ensures.few) in
    -- the line with the literal; the counts and lengths stay those of the room
    record {
      are = rw same (line_added labels old.literals.items old.text.items old.ends.items old.count is.are room _ put _
          c.args.literal c.place_after-end.result refl refl
          (omega (arith, c.requires.few, is.literals)) (omega (arith, c.requires.few, is.ends))
          (c.place_after-end.ensures.text
          ∙ ap₂ (λ e t. take e t ++ text_after labels old.count c.args.literal) at c.as_mut_slice.ensures.value)
          few (omega (arith, few, short, long, c.requires.few)));
      few = omega (arith, c.requires.few);
      literals = length-set old.literals.items old.count c.args.literal ∙ is.literals;
      text = ap length same ∙ long;
      ends = length-set old.ends.items (old.count + 1) c.place_after-end.result ∙ is.ends;
    }
