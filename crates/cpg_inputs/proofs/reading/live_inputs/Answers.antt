-- Proof of `live_inputs`, which reads the pack of `live`.
use Rattle.std.proofs.Common.{List, [], ◌∷◌, None, refl}
use Rattle.std.proofs.lemmas.Result.{err_from_is_err_and}
use Rattle.cpg_history.specs.Fetch.{Fetch}
use Rattle.cpg_inputs.specs.declared.kind.FileKind.TheVariants.{PackFile}
use Rattle.cpg_inputs.specs.Files.{file}
use Rattle.cpg_inputs.specs.Says.{tables_value}
use Rattle.cpg_inputs.proofs.Readings.{reads_one, stops_one}
use Rattle.cpg_inputs.proofs.reading.live_inputs.Goals as goal

-- the pack is the only file, and it stops the run
pub returns-in_err-tables-clause-inputs : goal.returns-in_err-tables-clause-inputs
returns-in_err-tables-clause-inputs g c =
    let S = g.S.Shelf in
    let past : List Fetch = (S.state c.args.shelf.now).history in
    let now : List Fetch = (S.state c.read_tables.new.shelf).history in
    let failed = err_from_is_err_and c.from_residual.result c.from_residual.ensures.1 in
    rw (failed.1, failed.2) (stops_one None (file PackFile c.args.pack.now) [] past now c.in_err-tables.field-0.0
    (c.in_err-tables.ensures.halt None))

-- the pack was read, and the inputs are its tables with the names of the node and the stream
pub returns-clause-inputs : goal.returns-clause-inputs
returns-clause-inputs g c =
    let S = g.S.Shelf in
    let tables = c.in_ok-tables.tables in
    record {
      values = tables_value tables ∷ [];
      reads = reads_one None (file PackFile c.args.pack.now) (S.state c.args.shelf.now).history
          (S.state c.read_tables.new.shelf).history (tables_value tables) (c.in_ok-tables.ensures.tables None);
      are = (c.args.pack.now, refl, refl);
    }
