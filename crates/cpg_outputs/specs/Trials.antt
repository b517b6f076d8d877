-- The text of a trial, line by line.
use Rattle.std.specs.Prelude.{ℕ, ◌++◌, codes}
use Rattle.std.specs.Fmt.{decimal}
use Rattle.cpg_words.specs.Parts.{Text}
use Rattle.cpg_outputs.specs.declared.figures.Ending.{Ending}
use Rattle.cpg_outputs.specs.declared.figures.Endings.{Endings}
use Rattle.cpg_outputs.specs.declared.figures.Trial.{Trial}

-- how many processes, edges and conditions the graph has
abbrev pub sizes_text : Trial → Text
sizes_text t = codes "processes " ++ decimal t.processes ++ codes "\nedges " ++ decimal t.edges ++ codes "\nconditions "
    ++ decimal t.conditions ++ codes "\n"

-- how many columns the tables have, the greatest finish, and that the tables are safe
abbrev pub tables_text : Trial → Text
tables_text t = codes "columns " ++ decimal t.columns ++ codes "\nworst " ++ decimal t.worst ++ codes "\nsafe\n"

-- the result of a play: when it finishes, and how often a node had to wait
abbrev pub ending_line : Ending → Text
ending_line e = codes "finish " ++ decimal e.finish ++ codes " waits " ++ decimal e.waits ++ codes "\n"

-- the results of the three plays
abbrev pub endings_text : Endings → Text
endings_text e = ending_line e.fault_free ++ ending_line e.worst_case ++ ending_line e.all_true

-- the whole text of the trial with this number
abbrev pub trial_text : ℕ → Trial → Text
trial_text number t =
    codes "trial " ++ decimal number ++ codes "\n" ++ sizes_text t ++ tables_text t ++ endings_text t.endings
