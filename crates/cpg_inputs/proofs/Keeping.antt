-- A shelf is kept as files are read, one after another.
use Rattle.std.proofs.Common.{ℕ, ◌≡◌, ◌∙◌, List, ◌∷◌, true, arith, refl, sym, inl, inr}
use Rattle.std.specs.Prelude.{◌⊎◌}
use Rattle.cpg_history.specs.Fetch.{Fetch}
use Rattle.cpg_io.specs.Causes.{Rose}
use Rattle.cpg_io.specs.Shelf.{KeepsShelf, SameAccess}
use Rattle.cpg_io.specs.State.{ShelfState}
use Rattle.cpg_io.proofs.Agreeing.{fetched_on, fetched_same}

-- given a shelf that is kept from one state to a second, and from there to a third
module _ (old mid new : ShelfState) (a : KeepsShelf old mid) (b : KeepsShelf mid new) where
  -- a failed fetch that is new since `old` has raised the count of faults
  counted_rose : (fetch : Fetch) (past : List Fetch) → new.history ≡ fetch ∷ past → fetch.failed ≡ true →
      (new.history ≡ old.history) ⊎ Rose old.faults new.faults
  counted_rose fetch past is failed = elim (b.rose fetch past is failed) [
    | inl same ↦ elim (a.rose fetch past (sym same ∙ is) failed) [
      | inl before ↦ inl (same ∙ before)
      | inr up ↦ inr (let new_later = b.later in omega (arith, new_later, up))
    ]
    | inr up ↦ inr (let mid_later = a.later in omega (arith, mid_later, up))
  ]

  -- a shelf that is kept in two steps is kept in both together
  pub keeps_on : KeepsShelf old new
  keeps_on = record {
    names = λ name. b.names name ∙ a.names name;
    fetched = fetched_on old mid a.names new a.fetched b.fetched;
    later = (let mid_later = a.later in let new_later = b.later in omega (arith, mid_later, new_later));
    rose = counted_rose;
  }

-- a shelf of which nothing was read is kept
pub keeps_same : (s : ShelfState) → KeepsShelf s s
keeps_same s = record {
  names = λ name. refl;
  fetched = fetched_same s;
  later = omega arith;
  rose = λ fetch past is failed. inl refl;
}

-- if the same names may be fetched by `a` and `b`, and by `b` and `c`, the same may be by `a` and `c`
pub access_on : (a b c : List ℕ → Type 0) → SameAccess a b → SameAccess b c → SameAccess a c
access_on a b c x y = λ name. (λ may. (y name).0 ((x name).0 may), λ may. (x name).1 ((y name).1 may))
