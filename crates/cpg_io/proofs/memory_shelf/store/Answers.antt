-- Proof of `store`: replaces the bytes of the file with the name, or adds such a file.
use Rattle.std.proofs.Common.{rules}
use Rattle.cpg_io.proofs.Standing.{PutsUnder-set, PutsUnder-push}
use Rattle.cpg_io.proofs.memory_shelf.store.Goals as goal

-- the file with the name has the new bytes, and all others stay
pub returns-in-Some-clause-put : goal.returns-in-Some-clause-put
returns-in-Some-clause-put c =
    rw (c.set_bytes.ensures, ← c.in_ok-bytes.ensures.items)
    (PutsUnder-set _ _ _ _ _ _ (search rules) c.index_mut.ensures.value)

-- a new file with the name and the bytes is added, and all others stay
pub returns-in_ok-push-in-None-clause-put : goal.returns-in_ok-push-in-None-clause-put
returns-in_ok-push-in-None-clause-put c =
    rw (c.in_ok-push-in-None.ensures.items, ← c.in_ok-bytes.ensures.items)
    (PutsUnder-push _ _ _ _ (search rules) c.in_ok-name-in-None.ensures.ok)
