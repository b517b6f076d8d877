-- What a call of a shelf adds to its history.
use Rattle.std.specs.Prelude.{List}
use Rattle.cpg_history.specs.declared.history.ShelfEvent.{ShelfEvent}
use Rattle.cpg_history.specs.declared.history.ShelfEvent.TheVariants.{Fetched, Gave, Failed}
use Rattle.cpg_history.specs.Fetch.{Fetch, fetched, gave, failed}

-- the history after a call, which fetched a name, gave a piece, or failed
abbrev pub after : ShelfEvent → List Fetch → List Fetch
after (Fetched name) past = fetched name.now past
after (Gave piece) past = gave piece.now past
after Failed past = failed past
