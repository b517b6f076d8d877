-- The pairs of `hyper` that were read so far, and those to come: together they are the pairs of all words.
use Rattle.std.proofs.Common.{◌≡◌, ◌∙◌, ◌<◌, ◌≤◌, ◌-◌, ◌==◌, ℕ, suc, false, Bor, List, [], ◌∷◌, ◌++◌, Option, Some}
use Rattle.std.proofs.Common.{None, refl, sym, ap, ap₂, append_assoc, length, take, drop, get_or, arith}
use Rattle.cpg_words.specs.declared.command.Pair.{Pair}
use Rattle.std.proofs.Math.Seq.{take-length}
use Rattle.cpg_words.specs.Number.{number}
use Rattle.cpg_words.specs.Parts.{Text, texts}
use Rattle.cpg_words.specs.Forms.{pairs_of, with_pair}

-- pairs in front of others, if there are others at all
abbrev pub joined : List Pair → Option (List Pair) → Option (List Pair)
joined ps None = None
joined ps (Some qs) = Some (ps ++ qs)

-- with no pairs read before, the pairs to come are all pairs
pub joined-none : (o : Option (List Pair)) → joined [] o ≡ o
joined-none None = refl
joined-none (Some qs) = refl

-- a pair put behind the pairs ps, and then those still to come, are ps and then the pair in front of those to come
pub joined-more : (ps : List Pair) (n : ℕ) (graph : Text) (o : Option (List Pair))
    → joined (ps ++ record { period = n; graph = graph } ∷ []) o ≡ joined ps (with_pair (Some n) graph o)
joined-more ps n graph None = refl
joined-more ps n graph (Some qs) = ap Some (append_assoc ps (record { period = n; graph = graph } ∷ []) qs)

-- ---- over borrowed texts

-- the rest behind two words has two words less than all, and so many of it are the whole rest
rest_is : (rest : List (Bor Text)) → take (suc (suc (length rest)) - 2) rest ≡ rest
rest_is rest =
    let same_length : suc (suc (length rest)) - 2 ≡ length rest = omega arith in rw same_length (take-length rest)

-- two words or more are a period, a graph and the words after them
pub left_is : (left : List (Bor Text)) (d : Bor Text) → 2 ≤ length left
    → texts left ≡ (get_or left 0 d).now ∷ (get_or left 1 d).now ∷ texts (take (length left - 2) (drop 2 left))
left_is [] d two = absurd (omega arith)
left_is (a ∷ []) d two = absurd (omega arith)
left_is (a ∷ b ∷ rest) d two = ap (λ (xs : List (Bor Text)). a.now ∷ b.now ∷ texts xs) (sym (rest_is rest))

-- if the next pair p is read, the pairs read so far and those of the words left are still the pairs `whole`
pub pairs_step : (left : List (Bor Text)) (d : Bor Text) (items now : List Pair) (p : Pair)
    (whole : Option (List Pair)) → 2 ≤ length left
    → number (get_or left 0 d).now ≡ Some p.period → p.graph ≡ (get_or left 1 d).now → now ≡ items ++ p ∷ []
    → joined items (pairs_of (texts left)) ≡ whole
    → joined now (pairs_of (texts (take (length left - 2) (drop 2 left)))) ≡ whole
-- the words left are a period, a graph and others, so their pairs are the one that was read and those of the others
pairs_step left d items now p whole long period graph more so_far =
    let rest = pairs_of (texts (take (length left - 2) (drop 2 left))) in
    let ps = items in
    ap (λ (xs : List Pair). joined xs rest) more
    ∙ joined-more ps p.period (p.graph) rest
    ∙ ap₂ (λ (n : Option ℕ) (g : Text). joined ps (with_pair n g rest)) (sym period) graph
    ∙ ap (λ (ts : List Text). joined ps (pairs_of ts)) (sym (left_is left d long))
    ∙ so_far

-- one word alone is no pair, so the words aren't pairs
pub pairs_odd : (left : List (Bor Text)) (ps : List Pair) (whole : Option (List Pair)) → length left < 2 →
    (length left == 0) ≡ false
    → joined ps (pairs_of (texts left)) ≡ whole → whole ≡ None
pairs_odd [] ps whole few some so_far = cc
pairs_odd (a ∷ []) ps whole few some so_far = sym so_far
pairs_odd (a ∷ b ∷ rest) ps whole few some so_far = absurd (omega arith)
