-- Proof of `graph_files_show_first_faults`: a graph file is refused by the first of its faults, and read as a graph if
-- it has none.
use Rattle.cpg_laws.proofs.GraphFiles.{graph_files_show_first_faults as law}
use Rattle.cpg_laws.proofs.graph_files_show_first_faults.Goals as goal

-- each step of the reading is refused by the first of its own faults, and these are listed in the order of the steps;
-- by proofs/GraphFiles.antt
pub returns : goal.returns
returns c = law
