-- Proof of `read_inputs`, which reads the files of a command in the order of the words, and returns what they say.
use Rattle.cpg_inputs.proofs.Keeping.{keeps_same}
use Rattle.cpg_inputs.proofs.reading.read_inputs.Goals as goal

-- a trial reads no file, so the shelf is as it was
pub returns-in-Trial-clause-keeps : goal.returns-in-Trial-clause-keeps
returns-in-Trial-clause-keeps g c = keeps_same (g.S.Shelf.state c.args.shelf.now)
