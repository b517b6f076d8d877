-- Proof of `run`, which does all that the program does, by the words after its name: reads the files that they name
-- from the shelf, one after the other, does the work on what they say, and writes the command's output to `out` or
-- one line to `err`.
use Rattle.std.proofs.Common.{rules, All, None, ap, inl, inr, map, refl, string_bytes, subst}
use Rattle.cpg_words.specs.FileWords.{file_words_if}
use Rattle.cpg_inputs.specs.Files.{files_of}
use Rattle.cpg_inputs.proofs.Fitting.{inputs_fit}
use Rattle.cpg_inputs.proofs.Keeping.{keeps_on, keeps_same}
use Rattle.cpg_app.specs.Endings.{Ran, seen}
use Rattle.cpg_outputs.specs.Told.{sent}
use Rattle.cpg_app.proofs.Finished.{stopped_lawful, wordless_lawful}
use Rattle.cpg_app.proofs.Named.{files_named}
use Rattle.cpg_app.proofs.top.run.Goals as goal

-- the files that the words name may be fetched
pub read_inputs-requires : goal.read_inputs-requires
read_inputs-requires g c =
    subst (All (g.S.Shelf.may_fetch c.args.shelf.now)) (ap file_words_if c.in-Ok.ensures.command) c.requires

-- the files of the command that was read may be fetched
pub finish-requires-clause-may : goal.finish-requires-clause-may
finish-requires-clause-may g c =
    let has = c.in-Ok-read_inputs.ensures.inputs in
    let files =
    subst (All (g.S.Shelf.may_fetch c.args.shelf.now)) (ap file_words_if c.in-Ok.ensures.command) c.requires in
    record {
      command = c.in-Ok.command;
      values = has.values;
      are = has.are;
      files = λ i d l. (c.in-Ok-read_inputs.ensures.access _).0 (files i d l);
    }

-- a scenario or a log that was read is of the graph that was read before it
pub finish-requires-clause-fit : goal.finish-requires-clause-fit
finish-requires-clause-fit g c =
    inputs_fit c.in-Ok.command _ _ c.in-Ok-read_inputs.inputs c.in-Ok-read_inputs.ensures.inputs

-- what the line of the halt names of a file's graph is there
pub stop-requires : goal.stop-requires
stop-requires g c =
    files_named None (files_of c.in-Ok.command) _ _ c.in-Err-read_inputs.halt c.in-Err-read_inputs.ensures.inputs

-- the run with what was read is lawful
pub returns-in-Ok-read_inputs-clause-lawful : goal.returns-in-Ok-read_inputs-clause-lawful
returns-in-Ok-read_inputs-clause-lawful g c =
    c.finish.ensures.lawful (map string_bytes c.args.words.now) (g.S.Shelf.state c.args.shelf.now)
    (record { command = c.in-Ok.command; words = c.in-Ok.ensures.command; has = c.in-Ok-read_inputs.ensures.inputs })

-- a file stopped the run, and the line that says so was written or met a fault
pub returns-in-Err-read_inputs-clause-lawful : goal.returns-in-Err-read_inputs-clause-lawful
returns-in-Err-read_inputs-clause-lawful g c =
    let ran : Ran = record {
      words = map string_bytes c.args.words.now;
      shelf = seen (g.S.Shelf.state c.args.shelf.now) (g.S.Shelf.state c.read_inputs.new.shelf);
      out = sent (g.O.Sink.state c.args.out.now) (g.O.Sink.state c.args.out.now);
      err = sent (g.E.Sink.state c.args.err.now) (g.E.Sink.state c.stop.new.err);
      status = c.stop.result;
    } in
    stopped_lawful ran c.in-Err-read_inputs.halt
    (inr (inl (record { command = c.in-Ok.command; words = c.in-Ok.ensures.command; stops = c.in-Err-read_inputs.ensures.inputs })))
    (record { faultless = refl; taken = refl }) c.stop.ensures

-- the words form no command, or memory ran out, and the line that says so was written or met a fault
pub returns-in-Err-clause-lawful : goal.returns-in-Err-clause-lawful
returns-in-Err-clause-lawful g c =
    let ran : Ran = record {
      words = map string_bytes c.args.words.now;
      shelf = seen (g.S.Shelf.state c.args.shelf.now) (g.S.Shelf.state c.args.shelf.now);
      out = sent (g.O.Sink.state c.args.out.now) (g.O.Sink.state c.args.out.now);
      err = sent (g.E.Sink.state c.args.err.now) (g.E.Sink.state c.run_without_words.new.err);
      status = c.run_without_words.result;
    } in
    wordless_lawful ran c.in-Err.fault (λ e. search rules) refl
    (record { faultless = refl; taken = refl }) c.run_without_words.ensures

-- what reading keeps of the shelf, the work keeps too
pub returns-in-Ok-read_inputs-clause-keeps : goal.returns-in-Ok-read_inputs-clause-keeps
returns-in-Ok-read_inputs-clause-keeps g c =
    keeps_on (g.S.Shelf.state c.args.shelf.now) (g.S.Shelf.state c.read_inputs.new.shelf)
    (g.S.Shelf.state c.finish.new.shelf) c.in-Ok-read_inputs.ensures.keeps c.finish.ensures.keeps

-- without a command nothing is fetched
pub returns-in-Err-clause-keeps : goal.returns-in-Err-clause-keeps
returns-in-Err-clause-keeps g c = keeps_same (g.S.Shelf.state c.args.shelf.now)
