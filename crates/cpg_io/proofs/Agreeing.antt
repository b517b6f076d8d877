-- What calls of a shelf gave agrees with what stands under the fetched names, if the shelf reports that.
use Rattle.std.proofs.Common.{get_or, ℕ, zero, suc, ◌≡◌, ◌<◌, ◌∙◌, ◌||◌, Bool, true, false, true≢false, List, [], ◌∷◌}
use Rattle.std.proofs.Common.{◌++◌, All, Option, Some, None, IfSome, append_assoc, arith, ap, length, refl}
use Rattle.std.proofs.Common.{subst, sym, take}
use Rattle.std.specs.Prelude.{Result, Ok, Err}
use Rattle.std.specs.Io.KnownBytes.{Consumes, IsAtEnd, Keeps, ReadConsumes}
use Rattle.std.proofs.KnownBytes.{Consumes-kept, Consumes-trans}
use Rattle.std.proofs.lemmas.List.Elements.{All-append, All-cons, All-nil}
use Rattle.cpg_history.specs.Fetch.{Fetch, failed, gave, is_none}
use Rattle.cpg_io.specs.Agreement.{Agrees, AreFetched, IsFrontOf, IsLeft, IsRestLeft, LeavesRest}
use Rattle.cpg_io.specs.Shelf.{HasGiven, SameNames, StartsAt, opened}
use Rattle.cpg_io.specs.State.{ShelfState}

-- if one fact of the bytes gives another, it does so under "if the shelf reports the bytes"
on_some : (told : Option (List ℕ)) (P Q : List ℕ → Type 0) → ((whole : List ℕ) → P whole → Q whole) → IfSome told P →
    IfSome told Q
on_some None P Q f p = tt
on_some (Some whole) P Q f p = f whole p

-- ---- a read

-- if nothing is left before a piece is given, nothing is left after it
none_left : (piece rest : List ℕ) → [] ≡ piece ++ rest → rest ≡ []
none_left [] rest is = sym is
none_left (x ∷ xs) rest is = absurd (cc is)

-- if the first n bytes of a buffer that isn't empty are none, n is 0
none_read : (n : ℕ) (buf : List ℕ) → 0 < length buf → is_none (take n buf) ≡ true → n ≡ 0
none_read zero buf some is_true = refl
none_read (suc n) [] some is_true = absurd (omega (arith, some))
none_read (suc n) (b ∷ bs) some is_true = absurd (true≢false (sym is_true))

-- what follows from each of two tests follows if one of them passes
either_end : (a b : Bool) (P : Type 0) → (a ≡ true → P) → (b ≡ true → P) → (a || b) ≡ true → P
either_end true b P a_each b_each is_true = a_each refl
either_end false b P a_each b_each is_true = b_each is_true

-- if a file is at its end, it is so after one more piece, which can only be empty
end_on : (whole given piece : List ℕ) (left rest : Option (List ℕ)) → Consumes (Some whole) left given →
    Consumes left rest piece → IsAtEnd left → IsAtEnd rest
end_on whole given piece None rest came more end = absurd came
end_on whole given piece (Some ys) None came more end = absurd more
end_on whole given piece (Some ys) (Some zs) came more end = none_left piece zs (sym end ∙ more)

-- if what is left stays as it was, the file is still at its end
end_kept : (whole given : List ℕ) (left rest : Option (List ℕ)) → Consumes (Some whole) left given → Keeps left rest →
    IsAtEnd left → IsAtEnd rest
end_kept whole given None rest came kept end = absurd came
end_kept whole given (Some ys) None came kept end = absurd kept
end_kept whole given (Some ys) (Some zs) came kept end = kept ∙ end

-- given: a shelf before and after a step, which reports the same bytes for each name
module _ (old new : ShelfState) (names : SameNames old new) where
  -- A piece is given: what is left is the rest of the newest fetch again. The bytes that it has given and the piece are a
  -- longer prefix, and it is at its end if the piece is empty or it was so before.
  gave_rest : (past : List Fetch) (piece : List ℕ) → Consumes old.left new.left piece →
      (is_none piece ≡ true → IsAtEnd new.left) → IsRestLeft old past →
      IsRestLeft new (gave piece past)
  gave_rest [] piece more end r = tt
  gave_rest (f ∷ past) piece more end r =
      let grown : Fetch =
      record { name = f.name; given = f.given ++ piece; ended = is_none piece || f.ended; failed = f.failed } in
      subst (λ told. IfSome told (λ whole. IsLeft whole new.left grown)) (sym (names f.name))
      (on_some (old.stands f.name) (λ whole. IsLeft whole old.left f) (λ whole. IsLeft whole new.left grown)
      (λ whole l. record {
        came = Consumes-trans (Some whole) old.left new.left f.given piece l.came more;
        end = either_end (is_none piece) f.ended (IsAtEnd new.left) end
            (λ e. end_on whole f.given piece old.left new.left l.came more (l.end e));
      }) r)

  -- A read failed: the newest fetch is only marked, nothing was taken of what is left, so that is still its rest.
  failed_rest : (past : List Fetch) → Keeps old.left new.left → IsRestLeft old past → IsRestLeft new (failed past)
  failed_rest [] kept r = tt
  failed_rest (f ∷ past) kept r =
      let same : Fetch = record f { failed = true } in
      subst (λ told. IfSome told (λ whole. IsLeft whole new.left same)) (sym (names f.name))
      (on_some (old.stands f.name) (λ whole. IsLeft whole old.left f) (λ whole. IsLeft whole new.left same)
      (λ whole l. record {
        came = Consumes-kept (Some whole) old.left new.left f.given l.came kept;
        end = λ e. end_kept whole f.given old.left new.left l.came kept (l.end e);
      }) r)

  -- if what is left is the rest of the newest fetch before a read, it is so after it, whether it gave a piece or failed
  pub read_rest : {E : Type 0} (result : Result ℕ E) (buf : List ℕ) → 0 < length buf →
      HasGiven old.history new.history result buf → ReadConsumes old.left new.left result buf →
      LeavesRest old →
      LeavesRest new
  read_rest (Ok n) buf some given more r = subst (IsRestLeft new) (sym given)
      (gave_rest old.history (take n buf) more.0 (λ e. more.1 (none_read n buf some e) some) r)
  read_rest (Err fault) buf some given more r = subst (IsRestLeft new) (sym given) (failed_rest old.history more r)

  -- ---- a fetch

  -- at the start of a fetch all of its bytes are left
  starts : (told : Option (List ℕ)) (f : Fetch) → f.given ≡ [] → f.ended ≡ false → StartsAt told new.left →
      IfSome told (λ whole. IsLeft whole new.left f)
  starts None f none unended s = tt
  starts (Some whole) f none unended s = record {
    came = subst (λ left. Consumes (Some whole) left f.given) (sym s) (sym (ap (λ given. given ++ whole) none));
    end = λ e. absurd (true≢false (sym e ∙ unended));
  }

  -- after a fetch that didn't fail what is left is the rest of it, as it has given nothing yet
  pub fetch_rest : (name : List ℕ) → new.history ≡ opened name false old.history → StartsAt (old.stands name) new.left →
      LeavesRest new
  fetch_rest name is starts_there =
      let fetched : Fetch = record { name = name; given = []; ended = false; failed = false } in
      subst (IsRestLeft new) (sym is) (subst (λ told. IfSome told (λ whole. IsLeft whole new.left fetched))
      (sym (names name))
      (starts (old.stands name) fetched refl refl starts_there))

  -- ---- what was fetched

  -- if what is left is the rest of a fetch, it gave a prefix of the bytes, and all of them if it came to the end
  front_of : (whole : List ℕ) (left : Option (List ℕ)) (f : Fetch) → IsLeft whole left f → IsFrontOf whole f
  front_of whole None f l = absurd l.came
  front_of whole (Some rest) f l = record { rest = rest; front = l.came; all = l.end }

  -- one new fetch whose rest is left agrees with what stands under its name
  pub fetched_one : (f : Fetch) → new.history ≡ f ∷ old.history → LeavesRest new → AreFetched old new
  fetched_one f is r =
      let told : IfSome (new.stands f.name) (λ whole. IsLeft whole new.left f) = subst (IsRestLeft new) is r in
      let agrees : Agrees old.stands f = subst (λ told. IfSome told (λ whole. IsFrontOf whole f)) (names f.name)
      (on_some (new.stands f.name) _ (λ whole. IsFrontOf whole f) (λ whole l. front_of whole new.left f l) told) in
      record {
        fetches = f ∷ [];
        history = is;
        agree = All-cons (Agrees old.stands) f [] agrees (All-nil (Agrees old.stands));
      }

  -- if all new fetches agree in each of two steps, they do in both together
  pub fetched_on : (last : ShelfState) → AreFetched old new → AreFetched new last → AreFetched old last
  fetched_on last x y = record {
    fetches = y.fetches ++ x.fetches;
    history = y.history ∙ ap (λ past. y.fetches ++ past) x.history ∙ sym (append_assoc y.fetches x.fetches old.history);
    agree = All-append (Agrees old.stands) y.fetches x.fetches
        (λ i d lt. subst (λ told. IfSome told (λ whole. IsFrontOf whole (get_or y.fetches i d)))
        (names (get_or y.fetches i d).name) (y.agree i d lt)) x.agree;
  }

-- a fetch that has given nothing and hasn't come to the end gave a prefix of any bytes
unfetched : (told : Option (List ℕ)) (f : Fetch) → f.given ≡ [] → f.ended ≡ false →
    IfSome told (λ whole. IsFrontOf whole f)
unfetched None f none unended = tt
unfetched (Some whole) f none unended = record {
  rest = whole;
  front = sym (ap (λ given. given ++ whole) none);
  all = λ e. absurd (true≢false (sym e ∙ unended));
}

-- one new fetch that failed agrees with whatever stands under its name, as it gave nothing
pub fetched_none : (old new : ShelfState) (name : List ℕ) → new.history ≡ opened name true old.history →
    AreFetched old new
fetched_none old new name is =
    let failed_fetch : Fetch = record { name = name; given = []; ended = false; failed = true } in
    record {
      fetches = failed_fetch ∷ [];
      history = is;
      agree = All-cons (Agrees old.stands) failed_fetch [] (unfetched (old.stands name) failed_fetch refl refl)
          (All-nil (Agrees old.stands));
    }

-- a shelf that is the same has no new fetches
pub fetched_same : (s : ShelfState) → AreFetched s s
fetched_same s = record { fetches = []; history = refl; agree = All-nil (Agrees s.stands) }
