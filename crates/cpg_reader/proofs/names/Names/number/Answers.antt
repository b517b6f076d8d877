-- Proof of `Names::number`, which returns the number of a name.
use Rattle.std.proofs.Common.{ap, ◌∙◌, sym}
use Rattle.std.specs.Prelude.{bytes_eq, position}
use Rattle.cpg_reader.proofs.Texts.{position-texts}
use Rattle.cpg_reader.specs.Names.{number_of, known}
use Rattle.cpg_reader.proofs.names.Names.number.Goals as goal

-- the name stands among the names, and its place is its number
pub returns-in-Some : goal.returns-in-Some
unfolding number_of
returns-in-Some c = record {
  number =
      ap (known c.args.place) (ap (position (bytes_eq c.args.name.now)) (sym c.self.view_is)
      ∙ sym (position-texts c.args.name.now c.self.inside.names.keys) ∙ sym c.get_index_of.ensures.index ∙
      c.in-Some.is);
}

-- the name doesn't stand among the names, so it is unknown
pub returns-in-None : goal.returns-in-None
unfolding number_of
returns-in-None c = record {
  number =
      ap (known c.args.place) (ap (position (bytes_eq c.args.name.now)) (sym c.self.view_is)
      ∙ sym (position-texts c.args.name.now c.self.inside.names.keys) ∙ sym c.get_index_of.ensures.index ∙
      c.in-None.is);
}
