-- A fetch gave what the shelf reports, if it reports it.
use Rattle.std.proofs.Common.{ℕ, ◌≡◌, ◌+◌, ◌<◌, ◌≤◌, ◌∙◌, true, List, [], ◌∷◌, ◌++◌, All, Option, Some, None, IfSome}
use Rattle.std.proofs.Common.{length, sym, ap, subst, arith, append-nil, inl, inr}
use Rattle.std.proofs.lemmas.List.{append_assoc, append_cancel_right, length-append}
use Rattle.std.proofs.lemmas.List.Elements.{All-head, All-tail}
use Rattle.cpg_history.specs.Fetch.{Fetch, newest_given}
use Rattle.cpg_io.specs.Agreement.{Agrees, IsFrontOf}
use Rattle.cpg_io.specs.Causes.{Rose}
use Rattle.cpg_io.specs.Shelf.{KeepsShelf}
use Rattle.cpg_io.specs.State.{ShelfState, given_count}
use Rattle.cpg_words.specs.Parts.{Text}
use Rattle.cpg_inputs.specs.Files.{File, limit_of}
use Rattle.cpg_inputs.specs.Reading.{IsFetchOf, IsWhole}
use Rattle.cpg_shelf_laws.specs.Causes.{IsShort}

-- if `P` implies `Q`, and `P` holds of the bytes that the shelf reports, if it does, so does `Q`
pub on_some : (told : Option Text) (P Q : Text → Type 0) → ((bytes : Text) → P bytes → Q bytes) → IfSome told P →
    IfSome told Q
on_some None P Q each p = tt
on_some (Some bytes) P Q each p = each bytes p

-- the shelf reports these bytes, if it reports any
abbrev pub TellsAs : Option Text → Text → Type 0
TellsAs told given = IfSome told (λ bytes. bytes ≡ given)

-- if the bytes that were given are within the limit, so are those that the shelf reports
pub told_short : (told : Option Text) (given : Text) (limit : ℕ) → TellsAs told given → length given ≤ limit →
    IsShort limit told
told_short told given limit alike short = on_some told (λ bytes. bytes ≡ given) (λ bytes. length bytes ≤ limit)
    (λ bytes e. subst (λ (b : Text). length b ≤ limit) (sym e) short) alike

-- what holds for the bytes that were given holds for those that the shelf reports
pub told_says : (told : Option Text) (given : Text) (P : Text → Type 0) → TellsAs told given → P given → IfSome told P
told_says told given P alike p = on_some told (λ bytes. bytes ≡ given) P (λ bytes e. subst P (sym e) p) alike

-- if `P` holds of all fetches, it holds of `f`, which is among them
all_at : (P : Fetch → Type 0) (newer : List Fetch) (f : Fetch) (older : List Fetch) → All P (newer ++ f ∷ older) → P f
all_at P [] f older each = All-head P f older each
all_at P (x ∷ newer) f older each = all_at P newer f older (All-tail P x (newer ++ f ∷ older) each)

-- a fetch of a history that has grown since a base
pub record IsIn (base now : List Fetch) (f : Fetch) : Type 0 where
  -- the fetches after f, and those before it, since the base
  pub newer : List Fetch
  pub older : List Fetch
  pub is : now ≡ newer ++ f ∷ (older ++ base)

-- a history with at least one fetch more isn't the one before
longer : (f : Fetch) (older base : List Fetch) → f ∷ (older ++ base) ≡ base → ⊥
longer f older base same = let lengths = ap length same in let parts = length-append older base in
    omega (arith, lengths, parts)

-- what is so of the newest fetch of a run: it gave as many bytes as the shelf counts, raised the count of faults if it
-- failed, and gave what the shelf reports
pub record IsLast (old new : ShelfState) (f : Fetch) : Type 0 where
  -- the shelf counts as many bytes as it gave
  pub count : given_count new ≡ length f.given
  -- if it failed, the count of faults rose (`Rose`)
  pub rose : f.failed ≡ true → Rose old.faults new.faults
  -- it gave what the shelf reports under its name
  pub agrees : Agrees old.stands f

-- given a shelf that a run has kept
module _ (old new : ShelfState) (k : KeepsShelf old new) where
  -- each fetch of the run gave what the shelf reports under its name, as far as it went
  pub agreed : (f : Fetch) → IsIn old.history new.history f → Agrees old.stands f
  agreed f place =
      let since = k.fetched in
      let same : since.fetches ++ old.history ≡ (place.newer ++ f ∷ place.older) ++ old.history =
      sym since.history ∙ place.is ∙ sym (append_assoc place.newer (f ∷ place.older) old.history) in
      all_at (Agrees old.stands) place.newer f place.older (subst (All (Agrees old.stands))
      (append_cancel_right since.fetches (place.newer ++ f ∷ place.older) old.history same) since.agree)

  -- the newest fetch of the run is as `IsLast` says
  pub last : (f : Fetch) (older : List Fetch) → new.history ≡ f ∷ (older ++ old.history) → IsLast old new f
  last f older is = record {
    count = ap (λ (h : List Fetch). length (newest_given h)) is;
    rose = λ failed. elim (k.rose f (older ++ old.history) is failed) [
      | inl same ↦ absurd (longer f older old.history (sym is ∙ same))
      | inr up ↦ up
    ];
    agrees = agreed f (record { newer = []; older = older; is = is });
  }

-- a fetch that gave a front of these bytes and came to their end gave all of them
whole_front : (bytes : Text) (f : Fetch) → f.ended ≡ true → IsFrontOf bytes f → bytes ≡ f.given
whole_front bytes f ended is_front_of =
    is_front_of.front ∙ ap (λ rest. f.given ++ rest) (is_front_of.all ended) ∙ append-nil f.given

-- a fetch that gave a whole file gave just what the shelf reports of it
pub tells_whole : (stands : Text → Option Text) (file : File) (f : Fetch) → IsWhole file f → Agrees stands f →
    TellsAs (stands file.name) f.given
tells_whole stands file f whole agrees = subst (λ name. TellsAs (stands name) f.given) whole.named
    (on_some (stands f.name) (λ bytes. IsFrontOf bytes f) (λ bytes. bytes ≡ f.given)
    (λ bytes front. whole_front bytes f whole.ended front) agrees)

-- if more than the limit was given, the bytes are more than the limit too
long_front : (bytes : Text) (f : Fetch) (limit : ℕ) → limit < length f.given → IsFrontOf bytes f → limit < length bytes
long_front bytes f limit over front = let lengths = ap (λ (b : Text). length b) front.front in
    let parts = length-append f.given front.rest in
    omega (arith, over, lengths, parts)

-- a byte more than a limit is more than it
pub more : (count limit : ℕ) → count ≡ limit + 1 → limit < count
more count limit is = omega (arith, is)

-- if a fetch gave more bytes than the limit, the shelf reports more, if it reports any
pub tells_long : (stands : Text → Option Text) (file : File) (f : Fetch) → IsFetchOf file f →
    limit_of file.kind < length f.given →
    Agrees stands f →
    IfSome (stands file.name) (λ bytes. limit_of file.kind < length bytes)
tells_long stands file f of over agrees =
    subst (λ name. IfSome (stands name) (λ bytes. limit_of file.kind < length bytes)) of.named
    (on_some (stands f.name) (λ bytes. IsFrontOf bytes f) (λ bytes. limit_of file.kind < length bytes)
    (λ bytes h. long_front bytes f (limit_of file.kind) over h) agrees)
