-- Facts about what the files of a command say, by which files these are.
use Rattle.std.specs.Prelude.{◌≡◌, List, [], ◌∷◌, ⊤}
use Rattle.cpg_words.specs.declared.command.Pair.{Pair}
use Rattle.cpg_rules.specs.Admission.{Admission}
use Rattle.cpg_table.specs.Lawful.{Tables}
use Rattle.cpg_log.specs.Log.{Log}
use Rattle.cpg_scenario.specs.declared.reading.Played.{Played}
use Rattle.cpg_hyper.specs.declared.part.Part.{Part}
use Rattle.cpg_inputs.specs.Says.{Value, graph_value, part_value, tables_value, played_value, log_value}

-- the files say one graph, and the fact holds of it
abbrev pub OnGraph : List Value → (Admission → Type 0) → Type 0
OnGraph values Fact = (a : Admission) × (values ≡ graph_value a ∷ []) × Fact a

-- the files say tables, and the fact holds of them
abbrev pub OnTables : List Value → (Tables → Type 0) → Type 0
OnTables values Fact = (t : Tables) × (values ≡ tables_value t ∷ []) × Fact t

-- the files say a graph and tables to be judged for it, and the fact holds of both
abbrev pub OnJudged : List Value → (Admission → Tables → Type 0) → Type 0
OnJudged values Fact = (a : Admission) × (t : Tables) × (values ≡ graph_value a ∷ tables_value t ∷ []) × Fact a t

-- the files say a graph, tables to be judged for it and what happens in a play, and the fact holds of them
abbrev pub OnPlayed : List Value → (Admission → Tables → Played → Type 0) → Type 0
OnPlayed values Fact = (a : Admission) × (t : Tables) × (p : Played) ×
    (values ≡ graph_value a ∷ tables_value t ∷ played_value p ∷ []) × Fact a t p

-- the files say a graph, tables to be judged for it and a log, and the fact holds of them
abbrev pub OnLogged : List Value → (Admission → Tables → Log → Type 0) → Type 0
OnLogged values Fact = (a : Admission) × (t : Tables) × (l : Log) ×
    (values ≡ graph_value a ∷ tables_value t ∷ log_value l ∷ []) × Fact a t l

-- the values that the files of these parts say
abbrev pub part_values : List Part → List Value
part_values [] = []
part_values (part ∷ parts) = part_value part.problem ∷ part_values parts

-- there are as many parts as pairs of words, and they have the pairs' periods
abbrev pub HavePeriods : List Pair → List Part → Type 0
HavePeriods [] [] = ⊤
HavePeriods [] (part ∷ parts) = ⊥
HavePeriods (pair ∷ pairs) [] = ⊥
HavePeriods (pair ∷ pairs) (part ∷ parts) = (part.period ≡ pair.period) × HavePeriods pairs parts

-- the files say parts with the periods that the words give, and the fact holds of them
abbrev pub OnParts : List Pair → List Value → (List Part → Type 0) → Type 0
OnParts pairs values Fact = (parts : List Part) × (values ≡ part_values parts) × HavePeriods pairs parts × Fact parts
