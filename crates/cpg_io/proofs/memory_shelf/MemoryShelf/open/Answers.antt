-- Proof of `MemoryShelf::open`: makes the file with the name the one that is read, from its start, and says whether
-- there is one.
use Rattle.std.proofs.Common.{rules}
use Rattle.cpg_io.proofs.Standing.{stands_in-found}
use Rattle.cpg_io.proofs.memory_shelf.MemoryShelf.open.Goals as goal

-- the file was found exactly if some bytes stand under the name
pub returns-clause-found : goal.returns-clause-found
returns-clause-found c = rw (c.is_some.ensures, ← c.self.view_is)
    (stands_in-found c.args.name.now c.self.inside.files.items c.file_index-self-inside.result (search rules))
