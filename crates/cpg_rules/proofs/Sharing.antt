-- Parts stay what they are if others are added, and so do the trees of processes.
use Rattle.std.proofs.Common.{ℕ, zero, suc, ◌<◌, ◌≡◌, List, [], ◌∷◌, length, set, All, arith, refl, ap, ap₂, ◌∙◌}
use Rattle.std.proofs.lemmas.List.Elements.{All-head, All-tail}
use Rattle.cpg_order.specs.Guard.{Guard}
use Rattle.cpg_rules.specs.declared.shared.SharedPart.{SharedPart}
use Rattle.cpg_rules.specs.Sharing.{Sharing, tree_at, Extends, Makes, trees_of, AreRoots}

-- ---- from parts to later parts

-- parts that extend other parts extend also what those extend
pub extends_both : (a b c : Sharing) → Extends a b → Extends b c → Extends a c
extends_both a b c e f = record {
  ranks = f.ranks ∙ e.ranks;
  longer = omega (arith, e.longer, f.longer);
  same = λ n l. f.same n (omega (arith, l, e.longer)) ∙ e.same n l;
}

-- a part that was made stays when parts are added
pub makes_extends : (a b c : Sharing) (t : Guard) (n : ℕ) → Makes a b t n → Extends b c → Makes a c t n
makes_extends a b c t n m e = record {
  more = extends_both a b c m.more e;
  within = omega (arith, m.within, e.longer);
  is = e.same n m.within ∙ m.is;
}

-- the parts stay when only the known answers change
pub extends_known : (a b : Sharing) → b.parts ≡ a.parts → b.ranks ≡ a.ranks → Extends a b
extends_known a b parts ranks =
    record { ranks = ranks; longer = omega (arith, ap length parts); same = λ n l. ap (λ ps. tree_at ps n) parts }

-- ---- the trees of processes

-- roots have the same trees when parts are added
pub same_trees : (a b : Sharing) (roots : List ℕ) → Extends a b → All (λ n. n < length a.parts) roots →
    trees_of b.parts roots ≡ trees_of a.parts roots
same_trees a b [] e h = refl
same_trees a b (n ∷ ns) e h = ap₂ (λ t ts. t ∷ ts) (e.same n (All-head (λ m. m < length a.parts) n ns h))
    (same_trees a b ns e (All-tail (λ m. m < length a.parts) n ns h))

-- roots stay roots when parts are added
pub roots_stay : (a b : Sharing) (count : ℕ) (roots : List ℕ) → Extends a b → AreRoots a.parts count roots →
    AreRoots b.parts count roots
roots_stay a b count roots e are = record { all = are.all; within = λ k d l. omega (arith, are.within k d l, e.longer) }

-- the trees of roots with one root set are the trees with that tree set
pub map_set : (parts : List SharedPart) (roots : List ℕ) (p n : ℕ) →
    trees_of parts (set roots p n) ≡ set (trees_of parts roots) p (tree_at parts n)
map_set parts [] p n = refl
map_set parts (r ∷ rs) zero n = refl
map_set parts (r ∷ rs) (suc p) n = ap (λ ts. tree_at parts r ∷ ts) (map_set parts rs p n)
