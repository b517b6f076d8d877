-- The least of a list of times, None if it is empty, and loops that look for it.
use Rattle.std.proofs.Common.{◌≡◌, ℕ, ◌<◌, ◌≤◌, ◌+◌, Bool, min, List, [], ◌∷◌, ◌++◌, map, filter, fold, length, drop}
use Rattle.std.proofs.Common.{get_or, Contains, Option, Some, None, refl, sym, ap, ◌∙◌, arith, drop-cons}
use Rattle.std.proofs.Common.{add-one}
use Rattle.std.specs.List.{flat_map}
use Rattle.std.proofs.lemmas.List.Elements.{filter-append}
use Rattle.cpg_base.proofs.Lists.{Contains-first, Contains-nil}
use Rattle.cpg_node.specs.Dispatcher.{least_of, zip_with}
use Rattle.cpg_node.specs.State.{earlier}
use Rattle.cpg_node.proofs.Places.{zip_with-drop}
use Rattle.cpg_node.proofs.Next.{least_of_parts}

-- a member of a list that is above no other is the least
pub least_is : (xs : List ℕ) (t : ℕ) → Contains xs t → ((x : ℕ) → Contains xs x → t ≤ x) → least_of xs ≡ Some t
least_is [] t among none_below = absurd (Contains-nil t among)
least_is (y ∷ ys) t among none_below = let least = least_of_parts (y ∷ ys) (fold min y ys) refl in
    ap Some (omega (arith, least.1 t among, none_below (fold min y ys) least.0))

-- lists with the same members have the same least
pub least_same : (xs ys : List ℕ) → ((x : ℕ) → Contains xs x → Contains ys x) →
    ((x : ℕ) → Contains ys x → Contains xs x) →
    least_of xs ≡ least_of ys
least_same [] [] to from = refl
least_same [] (y ∷ ys) to from = absurd (Contains-nil y (from y (Contains-first y ys)))
least_same (x ∷ xs) ys to from = let least = least_of_parts (x ∷ xs) (fold min x xs) refl in
    sym (least_is ys (fold min x xs) (to (fold min x xs) least.0) (λ y c. least.1 y (from y c)))

-- the least of a, b and ys is the lesser of a and of the least of b and ys; by induction on ys
fold_min : (a b : ℕ) (ys : List ℕ) → fold min (min a b) ys ≡ min a (fold min b ys)
fold_min a b [] = refl
fold_min a b (y ∷ ys) = ap (λ m. fold min m ys) (min_assoc a b y) ∙ fold_min a (min b y) ys
  where
    min_assoc : (a b y : ℕ) → min (min a b) y ≡ min a (min b y)
    min_assoc a b y = omega arith

-- the earlier of a time and None is the time; of None and None it is None
pub earlier_none : (o : Option ℕ) → earlier o None ≡ o
earlier_none None = refl
earlier_none (Some t) = refl

-- the earliest of three times, each of which may be None, is the same however they are grouped
pub earlier_assoc : (a b c : Option ℕ) → earlier (earlier a b) c ≡ earlier a (earlier b c)
earlier_assoc None b c = refl
earlier_assoc (Some a) None c = refl
earlier_assoc (Some a) (Some b) None = refl
earlier_assoc (Some a) (Some b) (Some c) = let same : min (min a b) c ≡ min a (min b c) = omega arith in ap Some same

-- the least of a list is the earlier of its first time and of the least of the rest
pub least_cons : (x : ℕ) (xs : List ℕ) → least_of (x ∷ xs) ≡ earlier (Some x) (least_of xs)
least_cons x [] = refl
least_cons x (y ∷ ys) = ap Some (fold_min x y ys)

-- the least of two lists in a row is the earlier of the least of each; by induction on the first
pub least_append : (xs ys : List ℕ) → least_of (xs ++ ys) ≡ earlier (least_of xs) (least_of ys)
least_append [] ys = refl
least_append (x ∷ xs) ys = least_cons x (xs ++ ys) ∙ ap (earlier (Some x)) (least_append xs ys)
    ∙ sym (earlier_assoc (Some x) (least_of xs) (least_of ys))
    ∙ ap (λ o. earlier o (least_of ys)) (sym (least_cons x xs))

-- the least of what passes a test in two lists is the earlier of the least that passes in each
pub least_passing : (p : ℕ → Bool) (xs ys : List ℕ) →
    least_of (filter p (xs ++ ys)) ≡ earlier (least_of (filter p xs)) (least_of (filter p ys))
least_passing p xs ys = ap least_of (filter-append p xs ys) ∙ least_append (filter p xs) (filter p ys)

-- the step of a loop over lists of times: if `first` and the rest (xs and ys) make the whole, so do `first` with xs,
-- and the rest then (ys)
pub least_more : (p : ℕ → Bool) (first : Option ℕ) (xs ys : List ℕ) (whole : Option ℕ) →
    earlier first (least_of (filter p (xs ++ ys))) ≡ whole →
    earlier (earlier first (least_of (filter p xs))) (least_of (filter p ys)) ≡ whole
least_more p first xs ys whole same = earlier_assoc first (least_of (filter p xs)) (least_of (filter p ys))
    ∙ ap (earlier first) (sym (least_passing p xs ys)) ∙ same

-- the step of a loop over two lists whose elements, place by place, give times: if the least so far (`so_far`) and what
-- the places from n on give make the whole, so do the least with the times of place n (`with_next`), and the places after it
pub least_zip : {A B : Type 0} (p : ℕ → Bool) (f : A → B → List ℕ) (n : ℕ) (os : List A) (rs : List B) (a : A) (b : B)
    (so_far with_next : Option ℕ) (whole : Option ℕ) → n < length os →
    length os ≡ length rs → a ≡ get_or os n a →
    with_next ≡ earlier so_far (least_of (filter p (f a (get_or rs n b)))) →
    earlier so_far (least_of (filter p (flat_map (λ l. l) (zip_with f (drop n os) (drop n rs))))) ≡ whole →
    earlier with_next (least_of (filter p (flat_map (λ l. l) (zip_with f (drop (n + 1) os) (drop (n + 1) rs))))) ≡ whole
least_zip p f n os rs a b so_far with_next whole l same at is h =
    let rest = flat_map (λ l. l) (zip_with f (drop (n + 1) os) (drop (n + 1) rs)) in
    ap (λ o. earlier o (least_of (filter p rest))) is
    ∙ least_more p so_far (f a (get_or rs n b)) rest whole
    (ap (λ a. earlier so_far (least_of (filter p (f a (get_or rs n b) ++ rest)))) at
    ∙ ap (λ l. earlier so_far (least_of (filter p (flat_map (λ l. l) l)))) (sym (zip_with-drop f n os rs a b l same))
    ∙ h)

-- the step of a loop over the times that f makes of a list: if the least so far and those from place n on make the
-- whole, so do the least with that of place n (`end` if it passes), and those after it
pub least_map : (p : ℕ → Bool) (f : ℕ → ℕ) (n : ℕ) (ts : List ℕ) (d : ℕ) (so_far with_next end whole : Option ℕ) →
    n < length ts →
    end ≡ least_of (filter p (f (get_or ts n d) ∷ [])) →
    with_next ≡ earlier so_far end →
    earlier so_far (least_of (filter p (map f (drop n ts)))) ≡ whole →
    earlier with_next (least_of (filter p (map f (drop (n + 1) ts)))) ≡ whole
least_map p f n ts d so_far with_next end whole l at is same =
    let rest = map f (drop (n + 1) ts) in
    ap (λ o. earlier o (least_of (filter p rest))) (is ∙ ap (earlier so_far) at)
    ∙ least_more p so_far (f (get_or ts n d) ∷ []) rest whole
    (ap (λ l. earlier so_far (least_of (filter p (map f l))))
    (sym (drop-cons ts n d l ∙ ap (λ m. get_or ts n d ∷ drop m ts) (sym (add-one n)))) ∙ same)
