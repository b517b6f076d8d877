-- Proof of `files_are_refused_by_document`: the faults of a graph file are those that its document has, each kind by
-- what stands at the places of the document; the file is refused by the first of them, and read as a graph exactly if
-- it has none.
use Rattle.cpg_laws.proofs.DocumentFaults.{files_are_refused_by_document as law}
use Rattle.cpg_laws.proofs.files_are_refused_by_document.Goals as goal

-- kind by kind, the listed faults are those that the document has, and the first listed is the first of all; by
-- proofs/DocumentFaults.antt
pub returns : goal.returns
returns c = law
