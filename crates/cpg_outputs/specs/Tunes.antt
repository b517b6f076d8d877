-- The text of the tuning of a graph, line by line.
use Rattle.std.specs.Prelude.{ℕ, ◌+◌, ◌<◌, List, [], ◌∷◌, ◌++◌, Option, Some, None, codes, ⊤}
use Rattle.std.specs.Fmt.{decimal}
use Rattle.cpg_base.specs.Graph.{Graph, item_count}
use Rattle.cpg_base.specs.declared.process.Process.{Process}
use Rattle.cpg_words.specs.Parts.{Text}
use Rattle.cpg_tune.specs.declared.judge.Judged.{Judged}
use Rattle.cpg_tune.specs.declared.judge.Judged.TheVariants.{Worst, Late, Wide}
use Rattle.cpg_tune.specs.Tuned.{Tuning}
use Rattle.cpg_refusal.specs.Lines.{item_text}

-- the line of a process: its best number of parts
abbrev pub parts_line : Process → ℕ → Text
parts_line p parts = p.name ++ codes " parts " ++ decimal parts ++ codes "\n"

-- the lines of the processes; one without a number of parts has no line, but in a tuning each has a number
abbrev pub parts_lines : List Process → List ℕ → Text
parts_lines [] parts = []
parts_lines (p ∷ ps) [] = []
parts_lines (p ∷ ps) (n ∷ parts) = parts_line p n ++ parts_lines ps parts

-- what a compile answers under one fault number: the greatest finish, that of a late graph, or an item that is too wide
abbrev pub judged_text : Graph → Judged → Text
judged_text g (Worst finish) = codes "worst " ++ decimal finish
judged_text g (Late finish) = codes "late " ++ decimal finish
judged_text g (Wide item) = codes "wide " ++ item_text g item

-- the line of what a compile answers under the fault number `faults`
abbrev pub row_line : Graph → ℕ → Judged → Text
row_line g faults judged = codes "k " ++ decimal faults ++ codes " " ++ judged_text g judged ++ codes "\n"

-- the lines of the answers, the first of which is under the fault number `faults`
abbrev pub row_lines : Graph → ℕ → List Judged → Text
row_lines g faults [] = []
row_lines g faults (judged ∷ rows) = row_line g faults judged ++ row_lines g (faults + 1) rows

-- the greatest fault number that is tolerated, or `none` if none is
abbrev pub number_or_none : Option ℕ → Text
number_or_none None = codes "none"
number_or_none (Some faults) = decimal faults

-- the line of the greatest fault number that is tolerated
abbrev pub tolerates_line : Option ℕ → Text
tolerates_line faults = codes "tolerates " ++ number_or_none faults ++ codes "\n"

-- the whole text: the parts of all processes, the answers under all fault numbers from 0 on, and the greatest that is
-- tolerated
abbrev pub tuning_text : Graph → Tuning → Text
tuning_text g t = parts_lines g.processes t.parts ++ row_lines g 0 t.rows ++ tolerates_line t.tolerates

-- an item that an answer names is one of the graph
abbrev pub IsNamedRow : Graph → Judged → Type 0
IsNamedRow g (Wide item) = item < item_count g
IsNamedRow g judged = ⊤
