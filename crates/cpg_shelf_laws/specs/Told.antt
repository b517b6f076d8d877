-- A run keeps the earlier contract too, which was stated over what the shelf reports as the bytes of its files.
use Rattle.cpg_io.specs.Shelf.{KeepsShelf}
use Rattle.cpg_app.specs.Endings.{Ran as Run}
use Rattle.cpg_app.specs.Lawful.{IsLawful as IsLawfulRun}
use Rattle.cpg_shelf_laws.specs.Causes.{seen}
use Rattle.cpg_shelf_laws.specs.Endings.{Ran}
use Rattle.cpg_shelf_laws.specs.Lawful.{IsLawful}
use Rattle.cpg_shelf_laws.specs.Sinks.{telling}

-- a run as the earlier contract sees it
abbrev pub told_of : Run → Ran
told_of r = record {
  words = r.words;
  shelf = seen r.shelf.old r.shelf.new;
  out = telling r.out;
  err = telling r.err;
  status = r.status;
}

-- a lawful run that keeps its shelf is lawful as the earlier contract sees it
abbrev pub RunsKeepWhatWasTold : Type 0
RunsKeepWhatWasTold = (r : Run) → IsLawfulRun r → KeepsShelf r.shelf.old r.shelf.new → IsLawful (told_of r)
