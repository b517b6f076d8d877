-- If the shelf reports files that tell values, and meets no fault, they are read as values that are alike, and none of
-- them stops a run unless memory runs out.
use Rattle.std.proofs.Common.{◌≡◌, ◌<◌, ◌≤◌, ◌∙◌, List, [], ◌∷◌, ◌++◌, Option, Some, None, IfSome, length, sym, ap}
use Rattle.std.proofs.Common.{subst, arith, inl, inr}
use Rattle.std.specs.Prelude.{Ok, ⊤}
use Rattle.cpg_base.specs.Graph.{Graph}
use Rattle.cpg_history.specs.Fetch.{Fetch}
use Rattle.cpg_io.specs.Agreement.{Agrees}
use Rattle.cpg_io.specs.Causes.{Rose}
use Rattle.cpg_io.specs.Shelf.{KeepsShelf}
use Rattle.cpg_io.specs.State.{ShelfState}
use Rattle.cpg_words.specs.Parts.{Text}
use Rattle.cpg_scenario.specs.File.{file_of}
use Rattle.cpg_scenario.specs.declared.reading.Played.{Played}
use Rattle.cpg_refusal.specs.declared.halt.Halt.{Halt}
use Rattle.cpg_refusal.specs.declared.halt.Halt.TheVariants.{Memory}
use Rattle.cpg_inputs.specs.declared.kind.FileKind.{FileKind}
use Rattle.cpg_inputs.specs.declared.kind.FileKind.TheVariants.{GraphFile, PartFile, PackFile, ScenarioFile, LogFile}
use Rattle.cpg_inputs.specs.Files.{File, limit_of}
use Rattle.cpg_inputs.specs.Says.{Value, played_value, graph_after, Refuses, Says}
use Rattle.cpg_inputs.specs.Reading.{IsWhole, Reads, StopsReading}
use Rattle.cpg_inputs.proofs.OneReading.{AllAlike, IsAlike, not_both, not_refused, reads_grown, same_value, says_after}
use Rattle.cpg_inputs.proofs.OneReading.{says_alike, stops_grown}
use Rattle.cpg_shelf_laws.proofs.Fetched.{agreed, last, more, tells_long, tells_whole}

-- the bytes tell a value: they say it, but for a scenario that it is one of the graph needn't be known
abbrev pub Tells : Option Graph → FileKind → Text → Value → Type 0
Tells g GraphFile bytes v = Says g GraphFile bytes v
Tells g PartFile bytes v = Says g PartFile bytes v
Tells g PackFile bytes v = Says g PackFile bytes v
Tells g LogFile bytes v = Says g LogFile bytes v
Tells (Some g) ScenarioFile bytes v = (p : Played) × (v ≡ played_value p) × (file_of g bytes ≡ Ok p)
Tells None ScenarioFile bytes v = ⊥

-- if the same bytes of kind `k` tell a value `v` and say another, `w`, later files are read for the same graph after
-- both; by the kind of file
tells_after : (g : Option Graph) (k : FileKind) (bytes : Text) (v w : Value) → Tells g k bytes v → Says g k bytes w →
    graph_after g w ≡ graph_after g v
tells_after g GraphFile bytes v w tells says = says_after g GraphFile bytes v w tells says
tells_after g PartFile bytes v w tells says = says_after g PartFile bytes v w tells says
tells_after g PackFile bytes v w tells says = says_after g PackFile bytes v w tells says
tells_after g LogFile bytes v w tells says = says_after g LogFile bytes v w tells says
tells_after (Some g) ScenarioFile bytes v w (p, e, x) (q, f, y) =
    ap (graph_after (Some g)) f ∙ sym (ap (graph_after (Some g)) e)
tells_after None ScenarioFile bytes v w tells says = absurd tells

-- if the same bytes of kind `k` tell a value `v` and say another, `w`, the two are alike; by the kind of file
tells_alike : (g : Option Graph) (k : FileKind) (bytes : Text) (v w : Value) → Tells g k bytes v → Says g k bytes w →
    IsAlike v w
tells_alike g GraphFile bytes v w tells says = says_alike g GraphFile bytes v w tells says
tells_alike g PartFile bytes v w tells says = says_alike g PartFile bytes v w tells says
tells_alike g PackFile bytes v w tells says = says_alike g PackFile bytes v w tells says
tells_alike g LogFile bytes v w tells says = says_alike g LogFile bytes v w tells says
tells_alike (Some g) ScenarioFile bytes v w (p, e, x) (q, f, y) = subst (λ u. IsAlike u w) (sym e)
    (subst (λ u. IsAlike (played_value p) u) (sym f) (same_value (file_of g bytes) q p y.says x))
tells_alike None ScenarioFile bytes v w tells says = absurd tells

-- bytes of kind `k` that tell a value `v` aren't rejected, unless memory runs out; by the kind of file
tells_no_refusal : (g : Option Graph) (k : FileKind) (bytes : Text) (v : Value) (h : Halt) → Tells g k bytes v →
    Refuses g k bytes h → h ≡ Memory
tells_no_refusal g GraphFile bytes v h tells refuses = not_refused g GraphFile bytes v h tells refuses
tells_no_refusal g PartFile bytes v h tells refuses = not_refused g PartFile bytes v h tells refuses
tells_no_refusal g PackFile bytes v h tells refuses = not_refused g PackFile bytes v h tells refuses
tells_no_refusal g LogFile bytes v h tells refuses = not_refused g LogFile bytes v h tells refuses
tells_no_refusal (Some g) ScenarioFile bytes v h (p, e, x) refuses =
    absurd (not_both (file_of g bytes) p refuses.fault x refuses.first)
tells_no_refusal None ScenarioFile bytes v h tells refuses = absurd tells

-- the shelf reports the bytes of each file, within the limit of its kind, and they tell its value
abbrev pub AreTold : (Text → Option Text) → Option Graph → List File → List Value → Type 0
AreTold stands g [] [] = ⊤
AreTold stands g [] (v ∷ vs) = ⊥
AreTold stands g (f ∷ fs) [] = ⊥
AreTold stands g (f ∷ fs) (v ∷ vs) = (bytes : Text) × (stands f.name ≡ Some bytes) × (length bytes ≤ limit_of f.kind) ×
    Tells g f.kind bytes v × AreTold stands (graph_after g v) fs vs

-- if the shelf reports these bytes, in `o`, what holds of what it reports (`P`) holds of them
known : (o : Option Text) (bytes : Text) (P : Text → Type 0) → o ≡ Some bytes → IfSome o P → P bytes
known o bytes P found p = subst (λ o. IfSome o P) found p

-- given a shelf that a run has kept
module _ (old new : ShelfState) (k : KeepsShelf old new) where
  -- a whole file was given as the shelf reports it
  given_is : (f : File) (fetch : Fetch) (bytes : Text) → old.stands f.name ≡ Some bytes → IsWhole f fetch →
      Agrees old.stands fetch →
      bytes ≡ fetch.given
  given_is f fetch bytes found is_whole ag =
      known (old.stands f.name) bytes (λ b. b ≡ fetch.given) found (tells_whole old.stands f fetch is_whole ag)

  -- If the shelf meets no fault, and its bytes tell the values `vs`, none of the files stops the run, unless memory
  -- runs out. By induction on the files: the first is neither too long nor rejected, or it was read, and a later one
  -- stops the run.
  pub none_stops : (Rose old.faults new.faults → ⊥) →
      (g : Option Graph) (files : List File) (past older : List Fetch) (vs : List Value) (h : Halt) →
      past ≡ older ++ old.history →
      AreTold old.stands g files vs → StopsReading g files past new.history h → h ≡ Memory
  none_stops still g [] past older vs h same told stops = absurd stops
  none_stops still g (f ∷ fs) past older [] h same told stops = absurd told
  -- the first file stops the run: by none of the four ways, unless memory runs out
  none_stops still g (f ∷ fs) past older (v ∷ vs) h grown_by told (fetch, inl (stops, is)) =
      let newest = last old new k fetch older (is ∙ ap (λ p. fetch ∷ p) grown_by) in
      elim stops [
        -- the shelf met no fault
        | inl unread ↦ absurd (still (newest.rose unread.failed))
        | inr rest ↦ elim rest [
          -- it isn't too long, as what the shelf reports of it isn't
          | inl long ↦ absurd (let over = known (old.stands f.name) told.0 (λ b. limit_of f.kind < length b) told.1
              (tells_long old.stands f fetch long.of
              (more (length fetch.given) (limit_of f.kind) long.over) newest.agrees) in
              let within = told.2 in
              omega (arith, over, within))
          | inr other ↦ elim other [
            -- its bytes tell a value, so they aren't rejected
            | inl refused ↦ tells_no_refusal g f.kind fetch.given v h
                (subst (λ b. Tells g f.kind b v) (given_is f fetch told.0 told.1 refused.whole newest.agrees) told.3)
                refused.refuses
            | inr wanting ↦ wanting.halt_is
          ]
        ]
      ]
  -- the first file was read, and a later one stops the run
  none_stops still g (f ∷ fs) past older (v ∷ vs) h grown_by told (fetch, inr (w, read, there)) =
      let grown = stops_grown (graph_after g w) fs (fetch ∷ past) new.history h there in
      let agrees = agreed old new k fetch
      (record {
        newer = grown.fetches;
        older = older;
        is = grown.is
            ∙ ap (λ p. grown.fetches ++ fetch ∷ p) grown_by;
      }) in
      let tells = subst (λ b. Tells g f.kind b v) (given_is f fetch told.0 told.1 read.whole agrees) told.3 in
      none_stops still (graph_after g w) fs (fetch ∷ past) (fetch ∷ older) vs h (ap (λ p. fetch ∷ p) grown_by)
      (subst (λ o. AreTold old.stands o fs vs) (sym (tells_after g f.kind fetch.given v w tells read.says)) told.4)
      there

  -- If the files are read, the values `ws` that they say are alike to those that the shelf's bytes tell, `vs`. By
  -- induction on the files.
  pub read_as_told : (g : Option Graph) (files : List File) (past older : List Fetch) (vs ws : List Value) →
      past ≡ older ++ old.history →
      AreTold old.stands g files vs →
      Reads g files past new.history ws → AllAlike vs ws
  read_as_told g [] past older [] [] same told reads_them = tt
  read_as_told g [] past older [] (w ∷ ws) same told reads_them = absurd reads_them
  read_as_told g [] past older (v ∷ vs) ws same told reads_them = absurd told
  read_as_told g (f ∷ fs) past older [] ws same told reads_them = absurd told
  read_as_told g (f ∷ fs) past older (v ∷ vs) [] same told reads_them = absurd reads_them
  read_as_told g (f ∷ fs) past older (v ∷ vs) (w ∷ ws) same told (fetch, read, rest) =
      let grown = reads_grown (graph_after g w) fs (fetch ∷ past) new.history ws rest in
      let ag = agreed old new k fetch
      (record { newer = grown.fetches; older = older; is = grown.is ∙ ap (λ p. grown.fetches ++ fetch ∷ p) same }) in
      let tells = subst (λ b. Tells g f.kind b v) (given_is f fetch told.0 told.1 read.whole ag) told.3 in (
        tells_alike g f.kind fetch.given v w tells read.says,
        read_as_told (graph_after g w) fs (fetch ∷ past) (fetch ∷ older) vs ws (ap (λ p. fetch ∷ p) same)
            (subst (λ o. AreTold old.stands o fs vs) (sym (tells_after g f.kind fetch.given v w tells read.says))
            told.4) rest,
      )
