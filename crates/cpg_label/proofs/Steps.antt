-- What loops make of the elements or numbers so far, with one more.
use Rattle.std.proofs.Common.{◌≡◌, ℕ, ◌+◌, suc, ◌<◌, List, [], ◌∷◌, ◌++◌, length, get_or, flat_map, append-nil, map}
use Rattle.std.proofs.Common.{take, sym, ap, ap₂, arith, ◌∙◌}
use Rattle.std.proofs.lemmas.Grind.{flat_map-append}
use Rattle.std.proofs.Math.Seq.{take-suc}
use Rattle.std.proofs.lemmas.List.{append_assoc, map-append}
use Rattle.cpg_base.specs.Numbers.{numbers_below}
use Rattle.cpg_base.proofs.Lists.{below_push}

-- i + 1 is the successor of i
pub one_more : (i : ℕ) → i + 1 ≡ suc i
one_more i = omega arith

-- if xs, seen by v, is what h makes of the first i of ps, and x is added, seen as what h makes of the next, it is so of
-- i + 1
pub next_mapped : {X Y Z : Type 0} (v : X → Z) (h : Y → Z) (xs ys : List X) (x : X) (ps : List Y) (i : ℕ) (d : Y) →
    i < length ps → map v xs ≡ map h (take i ps) →
    ys ≡ xs ++ x ∷ [] →
    v x ≡ h (get_or ps i d) → map v ys ≡ map h (take (i + 1) ps)
next_mapped v h xs ys x ps i d inside e is same =
    ap (map v) is ∙ map-append v xs (x ∷ []) ∙ ap₂ (λ zs z. zs ++ z ∷ []) e same ∙
    sym (ap (map h) (ap (λ n. take n ps) (one_more i) ∙ take-suc ps i d inside)
    ∙ map-append h (take i ps) (get_or ps i d ∷ []))

-- if a text is an old one and the pieces of the numbers below n, with the piece of n added it is so of the numbers below
-- n + 1
pub next_piece : {X : Type 0} (f : ℕ → List X) (n : ℕ) (old text next : List X) →
    old ++ flat_map f (numbers_below n) ≡ text → next ≡ text ++ f n →
    old ++ flat_map f (numbers_below (n + 1)) ≡ next
next_piece f n old text next same is = ap (λ l. old ++ l) (ap (flat_map f) (below_push n)
    ∙ flat_map-append f (numbers_below n) (n ∷ []) ∙ ap (λ l. flat_map f (numbers_below n) ++ l) (append-nil (f n)))
    ∙ sym (append_assoc old (flat_map f (numbers_below n)) (f n)) ∙ ap (λ l. l ++ f n) same ∙ sym is
