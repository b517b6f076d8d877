-- The graphs of parts that files say, file by file.
use Rattle.std.proofs.Common.{◌≡◌, ℕ, ◌+◌, ◌<◌, ◌≤◌, List, [], ◌∷◌, ◌++◌, length, map, take, drop, get_or, None, refl}
use Rattle.std.proofs.Common.{sym, ap, ◌∙◌, subst, arith, inr}
use Rattle.std.specs.Prelude.{All}
use Rattle.std.proofs.lemmas.List.{get_or-map, length-map, take_all, take_more, take-append-drop}
use Rattle.cpg_base.specs.Graph.{Graph}
use Rattle.cpg_history.specs.Fetch.{Fetch}
use Rattle.cpg_words.specs.Parts.{Text}
use Rattle.cpg_words.specs.declared.command.Pair.{Pair}
use Rattle.cpg_hyper.specs.declared.part.Part.{Part}
use Rattle.cpg_refusal.specs.declared.halt.Halt.{Halt}
use Rattle.cpg_refusal.specs.declared.halt.Halt.TheVariants.{Memory}
use Rattle.cpg_inputs.specs.declared.kind.FileKind.TheVariants.{PartFile}
use Rattle.cpg_inputs.specs.Files.{file, part_files}
use Rattle.cpg_inputs.specs.Says.{part_value}
use Rattle.cpg_inputs.specs.Shapes.{HavePeriods, part_values}
use Rattle.cpg_inputs.specs.Reading.{Reads, StopsReading}
use Rattle.cpg_inputs.specs.Steps.{ReadsNext, StopsNext}
use Rattle.cpg_inputs.proofs.Readings.{graph_behind, reads_more, reads_one, stops_after, stops_more, stops_one}

-- ---- lists of parts

-- the files of the pairs `ps` and then `qs` are those of `ps` and then those of `qs`
files_more : (ps qs : List Pair) → part_files (ps ++ qs) ≡ part_files ps ++ part_files qs
files_more [] qs = refl
files_more (p ∷ ps) qs = ap (λ fs. file PartFile p.graph ∷ fs) (files_more ps qs)

-- the values of the parts `ps` and then `qs` are those of `ps` and then those of `qs`
values_more : (ps qs : List Part) → part_values (ps ++ qs) ≡ part_values ps ++ part_values qs
values_more [] qs = refl
values_more (p ∷ ps) qs = ap (λ vs. part_value p.problem ∷ vs) (values_more ps qs)

-- if parts `ds` have the periods of pairs `ps`, they have with part `d` and its pair `p` at the ends
periods_more : (ps : List Pair) (ds : List Part) (p : Pair) (d : Part) → HavePeriods ps ds → d.period ≡ p.period →
    HavePeriods (ps ++ p ∷ []) (ds ++ d ∷ [])
periods_more [] [] p d have same = (same, tt)
periods_more [] (x ∷ ds) p d have same = absurd have
periods_more (q ∷ ps) [] p d have same = absurd have
periods_more (q ∷ ps) (x ∷ ds) p d have same = (have.0, periods_more ps ds p d have.1 same)

-- parts' graphs aren't admitted, so after them later files are still read for no graph
behind_parts : (ds : List Part) → graph_behind None (part_values ds) ≡ None
behind_parts [] = refl
behind_parts (d ∷ ds) = behind_parts ds

-- if the parts `ds` have the periods of the pairs `ps`, there are as many parts as pairs
pub periods_length : (ps : List Pair) (ds : List Part) → HavePeriods ps ds → length ds ≡ length ps
periods_length [] [] have = refl
periods_length [] (d ∷ ds) have = absurd have
periods_length (p ∷ ps) [] have = absurd have
periods_length (p ∷ ps) (d ∷ ds) have = omega (arith, periods_length ps ds have.1)

-- ---- one file more

-- a part with a period
abbrev part_of : ℕ → Graph → Part
part_of period problem = record { period = period; problem = problem }

-- the next pair of a period and a file, after the files before it were read
module _ (pairs : List Pair) (i : ℕ) (pair : Pair) (inside : i < length pairs) (is : pair ≡ get_or pairs i pair)
    (parts : List Part) (past mid now : List Fetch)
    (read : Reads None (part_files (take i pairs)) past mid (part_values parts)) where
  -- the pairs up to the next one
  next : take (i + 1) pairs ≡ take i pairs ++ pair ∷ []
  next = take_more pairs i pair inside ∙ ap (λ p. take i pairs ++ p ∷ []) (sym is)

  -- their files, with the next one's file last
  files_next : part_files (take (i + 1) pairs) ≡ part_files (take i pairs) ++ file PartFile pair.graph ∷ []
  files_next = ap part_files next ∙ files_more (take i pairs) (pair ∷ [])

  -- all files: those up to the next one, and those after it
  files_all : part_files pairs ≡ (part_files (take i pairs) ++ file PartFile pair.graph ∷ [])
      ++ part_files (drop (i + 1) pairs)
  files_all =
      ap part_files (sym (take-append-drop (i + 1) pairs)) ∙ (files_more (take (i + 1) pairs) (drop (i + 1) pairs)
      ∙ ap (λ fs. fs ++ part_files (drop (i + 1) pairs)) files_next)

  -- If the file of the next pair says a graph, the files of one pair more were read: those before, and then this one.
  -- No graph is admitted among those before.
  pub read_next : (g : Graph) (new : List Part) → ReadsNext None (file PartFile pair.graph) mid now (part_value g) →
      new ≡ parts ++ part_of pair.period g ∷ [] →
      Reads None (part_files (take (i + 1) pairs)) past now (part_values new)
  read_next g new was_read added =
      let one = subst (λ o. Reads o (file PartFile pair.graph ∷ []) mid now (part_value g ∷ []))
      (sym (behind_parts parts)) (reads_one None (file PartFile pair.graph) mid now (part_value g) was_read) in
      let both = reads_more None (part_files (take i pairs)) (file PartFile pair.graph ∷ []) past mid now
      (part_values parts) (part_value g ∷ []) read one in
      subst (λ fs. Reads None fs past now (part_values new)) (sym files_next)
      (subst (Reads None (part_files (take i pairs) ++ file PartFile pair.graph ∷ []) past now)
      (sym (ap part_values added ∙ values_more parts (part_of pair.period g ∷ []))) both)

  -- with the part of the next pair added, the parts have the periods of one pair more
  pub periods_next : (g : Graph) (new : List Part) → HavePeriods (take i pairs) parts →
      new ≡ parts ++ part_of pair.period g ∷ [] →
      HavePeriods (take (i + 1) pairs) new
  periods_next g new have added = subst (λ ps. HavePeriods ps new) (sym next)
      (subst (HavePeriods (take i pairs ++ pair ∷ [])) (sym added)
      (periods_more (take i pairs) parts pair (part_of pair.period g) have refl))

  -- If the file of the next pair stops the run, it stops the reading of all files: those before it were read, and those
  -- after it aren't fetched.
  pub stops_next : (h : Halt) → StopsNext None (file PartFile pair.graph) mid now h →
      StopsReading None (part_files pairs) past now h
  stops_next h stops =
      let one = subst (λ o. StopsReading o (file PartFile pair.graph ∷ []) mid now h) (sym (behind_parts parts))
      (stops_one None (file PartFile pair.graph) [] mid now h stops) in
      let here = stops_after None (part_files (take i pairs)) (file PartFile pair.graph ∷ []) past mid now
      (part_values parts) h read one in
      subst (λ fs. StopsReading None fs past now h) (sym files_all) (stops_more None (part_files (take i pairs)
      ++ file PartFile pair.graph ∷ []) (part_files (drop (i + 1) pairs)) past now h here)

  -- if that file was read, and memory runs out then, this stops the reading of all too, as if the file had taken the
  -- memory
  pub wants_next : (g : Graph) (h : Halt) → ReadsNext None (file PartFile pair.graph) mid now (part_value g) →
      h ≡ Memory →
      StopsReading None (part_files pairs) past now h
  wants_next g h was_read is_memory =
      let fetched = was_read.read.whole in
      stops_next h (record {
        fetch = was_read.fetch;
        stops =
            inr (inr (inr (record {
              of = record { named = fetched.named };
              sound = fetched.sound;
              few = (let is_short = fetched.short in omega (arith, is_short));
              halt_is = is_memory;
            })));
        history = was_read.history;
      })

-- past the last pair, the files of all pairs were read
pub read_all : (pairs : List Pair) (i : ℕ) (parts : List Part) (past now : List Fetch) → length pairs ≤ i →
    Reads None (part_files (take i pairs)) past now (part_values parts) →
    Reads None (part_files pairs) past now (part_values parts)
read_all pairs i parts past now past_last read =
    subst (λ ps. Reads None (part_files ps) past now (part_values parts)) (take_all i pairs past_last) read

-- past the last pair, the parts have the periods of all pairs
pub periods_all : (pairs : List Pair) (i : ℕ) (parts : List Part) → length pairs ≤ i →
    HavePeriods (take i pairs) parts →
    HavePeriods pairs parts
periods_all pairs i parts past_last have = subst (λ ps. HavePeriods ps parts) (take_all i pairs past_last) have

-- if the files of all `pairs` may be fetched, so may that of `pair`, which is pair `i`
pub may_at : (may : Text → Type 0) (pairs : List Pair) (i : ℕ) (pair : Pair) → i < length pairs →
    pair ≡ get_or pairs i pair → All may (map (λ (p : Pair). p.graph) pairs) → may pair.graph
may_at may pairs i pair inside is all =
    let named : get_or (map (λ (p : Pair). p.graph) pairs) i pair.graph ≡ pair.graph =
    get_or-map (λ (p : Pair). p.graph) pairs i pair pair.graph inside ∙ ap (λ (p : Pair). p.graph) (sym is) in
    subst may named (all i pair.graph (omega (arith, length-map pairs (λ (p : Pair). p.graph), inside)))
