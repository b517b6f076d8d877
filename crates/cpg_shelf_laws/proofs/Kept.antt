-- A lawful run that keeps its shelf was lawful by what the shelf reports.
use Rattle.std.proofs.Common.{◌≡◌, inl, inr}
use Rattle.std.specs.Prelude.{ℕ, ◌≢◌, ◌⊎◌}
use Rattle.cpg_base.specs.Scenario.{Scenario}
use Rattle.cpg_io.specs.Shelf.{KeepsShelf}
use Rattle.cpg_words.specs.Parts.{Text}
use Rattle.cpg_rules.specs.Admission.{Admission}
use Rattle.cpg_table.specs.declared.fault.Fault.{Fault}
use Rattle.cpg_refusal.specs.declared.halt.Refusal.{Refusal}
use Rattle.cpg_refusal.specs.declared.halt.Halt.TheVariants.{Refused, Late, TooWide, Unsafe}
use Rattle.cpg_app.specs.Endings.{Ran as Run}
use Rattle.cpg_app.specs.Lawful.{IsLawful as IsLawfulRun}
use Rattle.cpg_shelf_laws.specs.Causes.{Stops, seen}
use Rattle.cpg_shelf_laws.specs.Endings.{IsPrinted, IsTold}
use Rattle.cpg_shelf_laws.specs.Lawful.{IsLawful, IsRefusedStream, IsUnreadStream}
use Rattle.cpg_shelf_laws.specs.Outputs.{Prints}
use Rattle.cpg_shelf_laws.specs.Sinks.{Untouched, telling}
use Rattle.cpg_shelf_laws.specs.Told.{told_of}
use Rattle.cpg_shelf_laws.proofs.Complete.{apart, broken, late, made, named, nameless, other, safe, tuned, unrolled}
use Rattle.cpg_shelf_laws.proofs.Complete.{wide}
use Rattle.cpg_shelf_laws.proofs.Endings.{closed_prints, ends_told, printed, prints_told, refused_stream_told}
use Rattle.cpg_shelf_laws.proofs.Endings.{stops_told, told, unread_told}
use Rattle.cpg_shelf_laws.proofs.Faults.{read_rose}
use Rattle.cpg_shelf_laws.proofs.Followed.{followed, unfollowed}

-- given a lawful run that kept its shelf
module _ (r : Run) (w : IsLawfulRun r) (k : KeepsShelf r.shelf.old r.shelf.new) where
  -- ---- what some statuses say by the earlier contract; the rest is in `Endings`, `Faults`, `Complete` and `Followed`

  -- with status 0 the run prints its text: that of its command, or all lines of a stream up to its close
  done : r.status ≡ 0 → (text : Text) × Prints (seen r.shelf.old r.shelf.new) r.words text × IsPrinted (told_of r) text
  done same = elim (w.done same) [
    | inl p ↦ (p.0, prints_told r k p.0 p.1, printed r k p.0 p.2)
    | inr c ↦ (
      c.lines,
      closed_prints r k c.follows c.lines c.closed,
      record { status = same; out = c.out.taken; err = c.err.taken },
    )
  ]

  -- with status 4 the run stops with a refusal, or refused its stream
  refused : r.status ≡ 4 →
      ((refusal : Refusal) × Stops (seen r.shelf.old r.shelf.new) r.words (Refused refusal) ×
      IsTold (told_of r) (Refused refusal)) ⊎ IsRefusedStream (told_of r)
  refused same = elim (w.refused same) [
    | inl p ↦ inl (p.0, stops_told r k (Refused p.0) p.1, told r k (Refused p.0) p.2)
    | inr s ↦ inr (refused_stream_told r k s)
  ]

  -- with status 5 the run stops as a process `p` is late in a scenario `s`, and ends at `finish` there
  is_late : r.status ≡ 5 →
      (a : Admission) × (s : Scenario) × (p : ℕ) × (finish : ℕ) ×
      Stops (seen r.shelf.old r.shelf.new) r.words (Late a s p finish) × IsTold (told_of r) (Late a s p finish)
  is_late five = let found = w.is_late five in (
    found.0,
    found.1,
    found.2,
    found.3,
    stops_told r k (Late found.0 found.1 found.2 found.3) found.4,
    told r k (Late found.0 found.1 found.2 found.3) found.5,
  )

  -- with status 6 the run stops as an item `x` is too wide
  is_wide : r.status ≡ 6 →
      (a : Admission) × (x : ℕ) × Stops (seen r.shelf.old r.shelf.new) r.words (TooWide a x) ×
      IsTold (told_of r) (TooWide a x)
  is_wide six = let found = w.is_wide six in
      (found.0, found.1, stops_told r k (TooWide found.0 found.1) found.2, told r k (TooWide found.0 found.1) found.3)

  -- with status 7 the run stops as tables break a rule
  is_unsafe : r.status ≡ 7 →
      (a : Admission) × (fault : Fault) × Stops (seen r.shelf.old r.shelf.new) r.words (Unsafe a fault) ×
      IsTold (told_of r) (Unsafe a fault)
  is_unsafe seven = let found = w.is_unsafe seven in
      (found.0, found.1, stops_told r k (Unsafe found.0 found.1) found.2, told r k (Unsafe found.0 found.1) found.3)

  -- with a status other than 0 and 3 the output is untouched, or the stream is unread (2) or refused (4)
  silent : r.status ≢ 0 → r.status ≢ 3 →
      Untouched (telling r.out) ⊎
      (((r.status ≡ 2) × IsUnreadStream (told_of r)) ⊎ ((r.status ≡ 4) × IsRefusedStream (told_of r)))
  silent not_0 not_3 = elim (w.silent not_0 not_3) [
    | inl untouched ↦ inl untouched.taken
    | inr rest ↦ elim rest [
      | inl u ↦ inr (inl (u.0, unread_told r k u.1))
      | inr s ↦ inr (inr (s.0, refused_stream_told r k s.1))
    ]
  ]

  -- ---- all of it

  -- the run keeps the earlier contract, clause by clause
  pub kept : IsLawful (told_of r)
  kept = record {
    -- how it ends, and what each status says
    ends = ends_told r k w.ends;
    done = done;
    words = w.words;
    formless = w.formless;
    read = λ e. read_rose r k (w.read e);
    write = w.write;
    refused = refused;
    is_late = is_late;
    is_wide = is_wide;
    is_unsafe = is_unsafe;
    silent = silent;
    -- what each command answers
    wide = λ a x q ungiven is. wide r w k q.faultless a x q ungiven is;
    made = λ a q timely. made r w k q.faultless a q timely;
    late = λ a q is. late r w k q.faultless a q is;
    other = λ a t q differs. other r w k q.faultless a t q differs;
    safe = λ a t q head valid. safe r w k q.faultless a t q head valid;
    broken = λ a t q head invalid. broken r w k q.faultless a t q head invalid;
    named = λ t name node q is. named r w k q.faultless t name node q is;
    nameless = λ t name q is. nameless r w k q.faultless t name q is;
    tried = w.tried;
    tuned = λ a q. tuned r w k q.faultless a q;
    unrolled = λ parts g q shows. unrolled r w k q.faultless parts g q shows;
    apart = λ parts fault q shows told. apart r w k q.faultless parts fault q shows told;
    followed = λ t name bytes node q is. followed r w k t name bytes q node is w.ends;
    unfollowed = λ t name bytes q none. unfollowed r w k t name bytes q none w.ends;
  }
