-- A fault of the shelf is counted.
use Rattle.std.proofs.Common.{◌≡◌, ◌∙◌, List, [], ◌∷◌, ◌++◌, Option, length, ap, sym, arith, inl, inr}
use Rattle.std.specs.Prelude.{◌⊎◌}
use Rattle.std.proofs.lemmas.List.{length-append}
use Rattle.cpg_history.specs.Fetch.{Fetch}
use Rattle.cpg_base.specs.Graph.{Graph}
use Rattle.cpg_io.specs.Causes.{Rose}
use Rattle.cpg_io.specs.Shelf.{KeepsShelf}
use Rattle.cpg_refusal.specs.declared.halt.Halt.{Halt}
use Rattle.cpg_refusal.specs.declared.halt.Halt.TheVariants.{Read}
use Rattle.cpg_refusal.specs.Lines.{status_of}
use Rattle.cpg_inputs.specs.Files.{File, files_of}
use Rattle.cpg_inputs.specs.Says.{graph_after}
use Rattle.cpg_inputs.specs.Reading.{StopsReading}
use Rattle.cpg_inputs.proofs.OneReading.{stops_grown}
use Rattle.cpg_app.specs.Endings.{Ran as Run, IsTold as IsToldRun, Stops as StopsRun}
use Rattle.cpg_app.specs.Lawful.{IsFailed, IsUnreadStream as IsUnreadRun}
use Rattle.cpg_app.proofs.Statuses.{of_work}
use Rattle.cpg_shelf_laws.proofs.Fetched.{last}

-- a history with at least one fetch more isn't the one before
longer : (f : Fetch) (newer past now : List Fetch) → now ≡ newer ++ f ∷ past → now ≡ past → ⊥
longer f newer past now is same = let lengths = ap (λ (h : List Fetch). length h) (sym is ∙ same) in
    let parts = length-append newer (f ∷ past) in
    omega (arith, lengths, parts)

-- a reading that stops with halt `h` has fetched something, so the history has changed
grows : (g : Option Graph) (files : List File) (past now : List Fetch) (h : Halt) →
    StopsReading g files past now h → now ≡ past → ⊥
grows g [] past now h stops_reading same = absurd stops_reading
grows g (file ∷ files) past now h (f, inl here) same = longer f [] past now here.1 same
grows g (file ∷ files) past now h (f, inr (v, read, there)) same =
    let later = stops_grown (graph_after g v) files (f ∷ past) now h there in
    longer f later.fetches past now later.is same

-- given a run that kept its shelf
module _ (r : Run) (k : KeepsShelf r.shelf.old r.shelf.new) where
  -- a run that stops with a read fault has fetched something, as it stops neither in its words nor in its work
  not_same : StopsRun r Read → r.shelf.new.history ≡ r.shelf.old.history → ⊥
  not_same (inl stopped) same = elim stopped.cause [
    | inl words ↦ absurd (let status = ap status_of words.0 in omega (arith, status))
    | inr memory ↦ absurd (let status = ap status_of memory in omega (arith, status))
  ]
  not_same (inr (inl stopped)) same = grows _ (files_of stopped.command) r.shelf.old.history r.shelf.new.history Read
      stopped.stops same
  not_same (inr (inr stopped)) same = elim stopped.stops [
    | inl stops ↦ absurd (let later = of_work stopped.command stopped.values Read stops in omega (arith, later))
    | inr memory ↦ absurd (let status = ap status_of memory in omega (arith, status))
  ]

  -- if a run ends with status 2, the shelf's count of faults rose, as its last fetch is new and failed
  pub read_rose : IsFailed r × ((StopsRun r Read × IsToldRun r Read) ⊎ IsUnreadRun r) →
      Rose r.shelf.old.faults r.shelf.new.faults
  read_rose (x, inr u) =
      (last r.shelf.old r.shelf.new k u.follows.fetch (u.follows.read ∷ []) u.follows.history).rose u.lawful.failed
  read_rose (x, inl told) = elim (k.rose x.fetch x.past x.last x.failed) [
    | inl same ↦ absurd (not_same told.0 same)
    | inr up ↦ up
  ]
