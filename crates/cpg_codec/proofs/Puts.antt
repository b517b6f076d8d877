-- Pieces put into a buffer one after another. a, b, c are what the sink has taken before, between and after; h, l, m what
-- the buffer holds.
use Rattle.std.proofs.Common.{◌≡◌, ℕ, ◌+◌, ◌<◌, ◌≤◌, List, [], ◌∷◌, ◌++◌, length, get_or, take, drop, Result, Ok, Err}
use Rattle.std.proofs.Common.{sym, ap, subst, ◌∙◌, append_assoc, arith, take-append-drop}
use Rattle.std.specs.Prelude.{OnErr, OnOk}
use Rattle.std.specs.List.{flat_map}
use Rattle.std.proofs.lemmas.List.{append-nil, length-append, take_more, take-append-le, take_all}
use Rattle.std.proofs.lemmas.List.Concat.{flat_map-append}
use Rattle.std.proofs.Math.Seq.{take-append-add}
use Rattle.cpg_io.specs.Sink.{Took, TookPrefix}
use Rattle.cpg_io.proofs.Writes.{Took-none, Took-trans}
use Rattle.cpg_codec.specs.Writing.{IsPut, Puts}

-- nothing is put, and the buffer stays as it is
pub IsPut-none : (a h : List ℕ) → IsPut a a h h []
IsPut-none a h = record { written = []; taken = Took-none a; same = append-nil h }

-- if h and x are w and l, and l and y are v and m, then h, x and y are w, v and m
join : (h x y w v l m : List ℕ) → h ++ x ≡ w ++ l → l ++ y ≡ v ++ m → h ++ (x ++ y) ≡ (w ++ v) ++ m
join h x y w v l m first_parts second_parts =
    sym (append_assoc h x y) ∙ ap (λ (t : List ℕ). t ++ y) first_parts ∙ append_assoc w l y
    ∙ ap (λ (t : List ℕ). w ++ t) second_parts ∙ sym (append_assoc w v m)

-- two pieces that are put one after the other are put as one: what was written of both was taken
pub IsPut-then : (a b c h l m x y : List ℕ) → IsPut a b h l x → IsPut b c l m y → IsPut a c h m (x ++ y)
IsPut-then a b c h l m x y first_put second_put = record {
  written = first_put.written ++ second_put.written;
  taken = Took-trans a b c first_put.written second_put.written first_put.taken second_put.taken;
  same = join h x y first_put.written second_put.written l m first_put.same second_put.same;
}

-- if only a proper prefix of the held bytes and the first piece was taken, it is one of these and both pieces
pub fails_first : (a b h x y : List ℕ) → TookPrefix a b (h ++ x) → TookPrefix a b (h ++ (x ++ y))
fails_first a b h x y taken =
    let regrouped : h ++ (x ++ y) ≡ (h ++ x) ++ y = sym (append_assoc h x y) in
    let two_lengths : length ((h ++ x) ++ y) ≡ length (h ++ x) + length y = length-append (h ++ x) y in
    let same_length : length (h ++ (x ++ y)) ≡ length ((h ++ x) ++ y) = ap length regrouped in
    let same_front : take taken.0 (h ++ (x ++ y)) ≡ take taken.0 (h ++ x) =
    ap (take taken.0) regrouped ∙ take-append-le taken.0 (h ++ x) y (omega (arith, taken.1)) in
    (taken.0, omega (arith, two_lengths, same_length, taken.1), subst (Took a b) (sym same_front) taken.2)

-- if the first piece was put, and then a proper prefix of what was held and the second was taken, in all a proper prefix
-- of the first held bytes and both pieces was: what was written of the first, and this
pub fails_second : (a b c h l x y : List ℕ) → IsPut a b h l x → TookPrefix b c (l ++ y) → TookPrefix a c (h ++ (x ++ y))
fails_second a b c h l x y put taken =
    let regrouped : h ++ (x ++ y) ≡ put.written ++ (l ++ y) =
    sym (append_assoc h x y) ∙ ap (λ (t : List ℕ). t ++ y) put.same ∙ append_assoc put.written l y in
    let whole_length : length (h ++ (x ++ y)) ≡ length put.written + length (l ++ y) =
    ap length regrouped ∙ length-append put.written (l ++ y) in
    let front_is : take (length put.written + taken.0) (h ++ (x ++ y)) ≡ put.written ++ take taken.0 (l ++ y) =
    ap (take (length put.written + taken.0)) regrouped ∙ take-append-add put.written (l ++ y) taken.0 in (
      length put.written + taken.0,
      omega (arith, whole_length, taken.1),
      subst (Took a c) (sym front_is) (Took-trans a b c put.written (take taken.0 (l ++ y)) put.taken taken.2),
    )

-- if the first piece was put, what becomes of the second becomes of both
pub Puts-then : {E : Type 0} (a b c h l m x y : List ℕ) (r : Result Unit E) → IsPut a b h l x → Puts b c l m r y →
    Puts a c h m r (x ++ y)
Puts-then a b c h l m x y (Ok u) put then_put = IsPut-then a b c h l m x y put then_put
Puts-then a b c h l m x y (Err e) put then_put = fails_second a b c h l x y put then_put

-- if the first of two pieces failed, so did both, with a proper prefix of it taken
pub Puts-first : {E : Type 0} (a b h m x y : List ℕ) (r : Result Unit E) (e : E) → r ≡ Err e → TookPrefix a b (h ++ x) →
    Puts a b h m r (x ++ y)
Puts-first a b h m x y r e is taken = rw is (fails_first a b h x y taken)

-- ---- a loop over a list, with f for the bytes of an element

-- given: the bytes f of an element
module _ {X : Type 0} (f : X → List ℕ) where
  -- the bytes of i + 1 elements are those of the first i and of the next one
  one_more : (xs : List X) (i : ℕ) (d : X) → i < length xs →
      flat_map f (take (i + 1) xs) ≡ flat_map f (take i xs) ++ f (get_or xs i d)
  one_more xs i d lt = ap (flat_map f) (take_more xs i d lt) ∙ flat_map-append f (take i xs) (get_or xs i d ∷ [])
      ∙ ap (λ (t : List ℕ). flat_map f (take i xs) ++ t) (append-nil (f (get_or xs i d)))

  -- the bytes of the first i elements, of the next one and of the others are the bytes of all
  rest_after : (xs : List X) (i : ℕ) (d : X) → i < length xs →
      (flat_map f (take i xs) ++ f (get_or xs i d)) ++ flat_map f (drop (i + 1) xs) ≡ flat_map f xs
  rest_after xs i d lt =
      ap (λ (t : List ℕ). t ++ flat_map f (drop (i + 1) xs)) (sym (one_more xs i d lt))
      ∙ sym (flat_map-append f (take (i + 1) xs) (drop (i + 1) xs)) ∙ ap (flat_map f) (take-append-drop (i + 1) xs)

  -- if the first i elements are put and then the next one, i + 1 are
  pub puts_more : (a b c h l m : List ℕ) (xs : List X) (i : ℕ) (d : X) → i < length xs →
      IsPut a b h l (flat_map f (take i xs)) →
      IsPut b c l m (f (get_or xs i d)) →
      IsPut a c h m (flat_map f (take (i + 1) xs))
  puts_more a b c h l m xs i d lt put next_put = subst (IsPut a c h m) (sym (one_more xs i d lt))
      (IsPut-then a b c h l m (flat_map f (take i xs)) (f (get_or xs i d)) put next_put)

  -- if the first i elements are put and of the next a proper prefix was taken, a proper prefix of all was
  pub puts_fail : (a b c h l : List ℕ) (xs : List X) (i : ℕ) (d : X) → i < length xs →
      IsPut a b h l (flat_map f (take i xs)) →
      TookPrefix b c (l ++ f (get_or xs i d)) →
      TookPrefix a c (h ++ flat_map f xs)
  puts_fail a b c h l xs i d lt put taken =
      subst (λ (t : List ℕ). TookPrefix a c (h ++ t)) (rest_after xs i d lt)
      (fails_first a c h (flat_map f (take i xs) ++ f (get_or xs i d)) (flat_map f (drop (i + 1) xs))
      (fails_second a b c h l (flat_map f (take i xs)) (f (get_or xs i d)) put taken))

  -- if as many elements are put as there are, all are
  pub puts_all : (a b h l : List ℕ) (xs : List X) (i : ℕ) → length xs ≤ i → IsPut a b h l (flat_map f (take i xs)) →
      IsPut a b h l (flat_map f xs)
  puts_all a b h l xs i le put = subst (IsPut a b h l) (ap (flat_map f) (take_all i xs le)) put

-- a failed call is one that took a proper prefix of what was to be put
pub Puts-failed : {E : Type 0} (a b h m x : List ℕ) (r : Result Unit E) (e : E) → r ≡ Err e → TookPrefix a b (h ++ x) →
    Puts a b h m r x
Puts-failed a b h m x r e is taken = rw is taken

-- as the lemmas above, for an element x that is the one at place i
module _ {X : Type 0} (f : X → List ℕ) where
  -- if the first i elements are put and then x, i + 1 are
  pub item_more : (a b c h l m : List ℕ) (xs : List X) (i : ℕ) (x : X) → x ≡ get_or xs i x → i < length xs →
      IsPut a b h l (flat_map f (take i xs)) →
      IsPut b c l m (f x) →
      IsPut a c h m (flat_map f (take (i + 1) xs))
  item_more a b c h l m xs i x is lt put next_put =
      puts_more f a b c h l m xs i x lt put (subst (λ (y : X). IsPut b c l m (f y)) is next_put)

  -- if the first i elements are put and of x a proper prefix was taken, a proper prefix of all was
  pub item_fails : (a b c h l : List ℕ) (xs : List X) (i : ℕ) (x : X) → x ≡ get_or xs i x → i < length xs →
      IsPut a b h l (flat_map f (take i xs)) →
      TookPrefix b c (l ++ f x) →
      TookPrefix a c (h ++ flat_map f xs)
  item_fails a b c h l xs i x is lt put taken =
      puts_fail f a b c h l xs i x lt put (subst (λ (y : X). TookPrefix b c (l ++ f y)) is taken)

-- a piece is put into an empty buffer, and what the buffer then holds is written: if that fails, a proper prefix of the
-- piece was taken
pub rest_fails : {E : Type 0} (a b c h l x : List ℕ) (r : Result Unit E) → h ≡ [] → IsPut a b h l x →
    OnErr r (TookPrefix b c l) →
    OnErr r (TookPrefix a c x)
rest_fails a b c h l x (Ok u) is_empty put written = tt
rest_fails a b c h l x (Err f) is_empty put written =
    let put_first : IsPut a b [] l x = subst (λ (t : List ℕ). IsPut a b t l x) is_empty put in
    subst (TookPrefix a c) (append-nil x)
    (fails_second a b c [] l x [] put_first (subst (TookPrefix b c) (sym (append-nil l)) written))

-- if what was held is written, and then a piece without the buffer, the piece is put and the buffer is empty; or it
-- failed with a proper prefix of both taken
pub Puts-past : {E : Type 0} (a b c : List ℕ) (h l x : List ℕ) (r : Result Unit E) → Took a b h → l ≡ [] →
    OnOk r (Took b c x) → OnErr r (TookPrefix b c x) →
    Puts a c h l r x
Puts-past a b c h l x (Ok u) held_taken is_empty piece_taken fails = record {
  written = h ++ x;
  taken = Took-trans a b c h x held_taken piece_taken;
  same = sym (append-nil (h ++ x)) ∙ ap (λ (t : List ℕ). (h ++ x) ++ t) (sym is_empty);
}
Puts-past a b c h l x (Err e) held_taken is_empty piece_taken fails =
    fails_second a b c [] [] h x (record { written = h; taken = held_taken; same = sym (append-nil h) }) fails
