-- Files that are read one after another.
use Rattle.std.proofs.Common.{List, [], ◌∷◌, ◌++◌, Option, subst, inl, inr}
use Rattle.cpg_base.specs.Graph.{Graph}
use Rattle.cpg_history.specs.Fetch.{Fetch}
use Rattle.cpg_refusal.specs.declared.halt.Halt.{Halt}
use Rattle.cpg_inputs.specs.Files.{File}
use Rattle.cpg_inputs.specs.Says.{Value, graph_after}
use Rattle.cpg_inputs.specs.Reading.{Reads, StopsReading}
use Rattle.cpg_inputs.specs.Steps.{ReadsNext, StopsNext}

-- the graph that files after these values are read for
abbrev pub graph_behind : Option Graph → List Value → Option Graph
graph_behind g [] = g
graph_behind g (v ∷ vs) = graph_behind (graph_after g v) vs

-- a file that is read next is a reading of one file
pub reads_one : (g : Option Graph) (file : File) (past now : List Fetch) (value : Value) →
    ReadsNext g file past now value →
    Reads g (file ∷ []) past now (value ∷ [])
reads_one g file past now value r = (r.fetch, r.read, r.history)

-- a file that is fetched next and stops the run stops the reading of it and of any files after it
pub stops_one : (g : Option Graph) (file : File) (rest : List File) (past now : List Fetch) (halt : Halt) →
    StopsNext g file past now halt →
    StopsReading g (file ∷ rest) past now halt
stops_one g file rest past now halt s = (s.fetch, inl (s.stops, s.history))

-- Files that are read after others are read together with them. By induction on the others.
pub reads_more : (g : Option Graph) (files rest : List File) (past mid now : List Fetch) (values others : List Value) →
    Reads g files past mid values →
    Reads (graph_behind g values) rest mid now others → Reads g (files ++ rest) past now (values ++ others)
reads_more g [] rest past mid now [] others r s = subst (λ p. Reads g rest p now others) r s
reads_more g [] rest past mid now (v ∷ vs) others r s = absurd r
reads_more g (f ∷ fs) rest past mid now [] others r s = absurd r
reads_more g (f ∷ fs) rest past mid now (v ∷ vs) others r s =
    (r.0, r.1, reads_more (graph_after g v) fs rest (r.0 ∷ past) mid now vs others r.2 s)

-- Files of which one stops the run after others were read stop it together with them. By induction on the others.
pub stops_after : (g : Option Graph) (files rest : List File) (past mid now : List Fetch) (values : List Value)
    (halt : Halt) →
    Reads g files past mid values →
    StopsReading (graph_behind g values) rest mid now halt → StopsReading g (files ++ rest) past now halt
stops_after g [] rest past mid now [] halt r s = subst (λ p. StopsReading g rest p now halt) r s
stops_after g [] rest past mid now (v ∷ vs) halt r s = absurd r
stops_after g (f ∷ fs) rest past mid now [] halt r s = absurd r
stops_after g (f ∷ fs) rest past mid now (v ∷ vs) halt r s =
    (r.0, inr (v, r.1, stops_after (graph_after g v) fs rest (r.0 ∷ past) mid now vs halt r.2 s))

-- if one of some files stops a run, it does so with more files behind them
pub stops_more : (g : Option Graph) (files rest : List File) (past now : List Fetch) (halt : Halt) →
    StopsReading g files past now halt →
    StopsReading g (files ++ rest) past now halt
stops_more g [] rest past now halt s = absurd s
stops_more g (f ∷ fs) rest past now halt (fetch, inl here) = (fetch, inl here)
stops_more g (f ∷ fs) rest past now halt (fetch, inr (value, read, there)) =
    (fetch, inr (value, read, stops_more (graph_after g value) fs rest (fetch ∷ past) now halt there))
