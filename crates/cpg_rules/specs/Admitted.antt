-- The guards of an admitted graph.
use Rattle.std.specs.Prelude.{ℕ, List}
use Rattle.cpg_base.specs.Graph.{Graph}
use Rattle.cpg_rules.specs.Guards.{Guards}
use Rattle.cpg_rules.specs.Admission.{IsAdmitted}

-- the guards are those with which the graph is admitted, under its urgency order
abbrev pub AreAdmitted : Graph → Guards → Type 0
AreAdmitted g guards = (urgency : List ℕ) × IsAdmitted g urgency guards
