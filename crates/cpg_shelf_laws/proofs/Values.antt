-- What a value of known kind says of the bytes of its file.
use Rattle.std.proofs.Common.{◌≡◌, Option, Some, ap, subst, sym}
use Rattle.cpg_base.specs.Graph.{Graph}
use Rattle.cpg_words.specs.Parts.{Text}
use Rattle.cpg_rules.specs.Admission.{Admission}
use Rattle.cpg_table.specs.Lawful.{Tables}
use Rattle.cpg_log.specs.Log.{Log}
use Rattle.cpg_reader.specs.Document.{problem_of}
use Rattle.cpg_scenario.specs.declared.reading.Played.{Played}
use Rattle.std.specs.Prelude.{Ok}
use Rattle.cpg_inputs.specs.declared.kind.FileKind.TheVariants.{GraphFile, PartFile, PackFile, ScenarioFile, LogFile}
use Rattle.cpg_inputs.specs.Says.{Value, graph_value, part_value, tables_value, played_value, log_value, AreAdmitted}
use Rattle.cpg_inputs.specs.Says.{AreLogged, ArePlayed, AreSpelled, Says}

-- the admission that a value is, or d if it is no admitted graph
abbrev graph_in : Admission → Value → Admission
graph_in d (graph_value a) = a
graph_in d v = d

-- the graph of a part that a value is, or d if it is none
abbrev part_in : Graph → Value → Graph
part_in d (part_value g) = g
part_in d v = d

-- the tables that a value is, or d if it is none
abbrev tables_in : Tables → Value → Tables
tables_in d (tables_value t) = t
tables_in d v = d

-- the scenario that a value is, or d if it is none
abbrev played_in : Played → Value → Played
played_in d (played_value p) = p
played_in d v = d

-- the log that a value is, or d if it is none
abbrev log_in : Log → Value → Log
log_in d (log_value l) = l
log_in d v = d

-- the value of a graph file is the admitted graph `a` that the bytes `given` say
pub says_graph : (g : Option Graph) (given : Text) (a : Admission) → Says g GraphFile given (graph_value a) →
    AreAdmitted given a
says_graph g given a (b, e, x) = subst (AreAdmitted given) (sym (ap (graph_in a) e)) x

-- a part's value is the graph `h` that the bytes `given` say
pub says_part : (g : Option Graph) (given : Text) (h : Graph) → Says g PartFile given (part_value h) →
    problem_of given ≡ Ok h
says_part g given h (b, e, x) = subst (λ b. problem_of given ≡ Ok b) (sym (ap (part_in h) e)) x

-- the value of a pack is the tables `t` that the bytes `given` spell
pub says_tables : (g : Option Graph) (given : Text) (t : Tables) → Says g PackFile given (tables_value t) →
    AreSpelled given t
says_tables g given t (u, e, x) = subst (AreSpelled given) (sym (ap (tables_in t) e)) x

-- the value of a scenario file is the scenario and the lengths, `p`, that the bytes `given` say
pub says_played : (g : Graph) (given : Text) (p : Played) → Says (Some g) ScenarioFile given (played_value p) →
    ArePlayed given g p
says_played g given p (q, e, x) = subst (ArePlayed given g) (sym (ap (played_in p) e)) x

-- the value of a log is the log `l` that the bytes `given` are
pub says_log : (g : Graph) (given : Text) (l : Log) → Says (Some g) LogFile given (log_value l) → AreLogged given g l
says_log g given l (m, e, x) = subst (AreLogged given g) (sym (ap (log_in l) e)) x
