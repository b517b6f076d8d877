-- When literals rise together with others behind them.
use Rattle.std.proofs.Common.{ℕ, ◌-◌, ◌<◌, ◌≤◌, ◌≡◌, Bool, true, List, [], ◌∷◌, ◌++◌, length, get_or, All, Some}
use Rattle.std.proofs.Common.{None, Contains, arith, sym, subst, ◌∙◌, ⊎_elim}
use Rattle.std.specs.Prelude.{slice_get}
use Rattle.std.proofs.lemmas.List.Elements.{All-contains, Contains-append_right}
use Rattle.std.proofs.lemmas.Option.{slice_get-get_or}
use Rattle.cpg_base.proofs.Lists.{Contains-first, Contains-cases, Contains-nil, Contains-slice_get}
use Rattle.cpg_base.proofs.Pairs.{AllPairs-append}
use Rattle.cpg_cube.specs.Cube.{Literal, IsRising}
use Rattle.cpg_cube.specs.Rising.{rises_from}
use Rattle.cpg_cube.proofs.Above.{all_under}
use Rattle.cpg_cube.proofs.Ranges.{rising_rest, rising_first}
use Rattle.cpg_cube.proofs.Rising.{rising_from, rises_by}

-- literals rise if they rise together with others before them
pub rising_behind : (xs ys : List Literal) → IsRising (xs ++ ys) → IsRising ys
rising_behind [] ys rises = rises
rising_behind (x ∷ xs) ys rises = rising_behind xs ys (rising_rest x (xs ++ ys) rises)

-- in literals that rise together, each of the first ones is below each of those behind them
rising_across : (xs ys : List Literal) → IsRising (xs ++ ys) → (x y : Literal) → Contains xs x → Contains ys y →
    x.variable < y.variable
-- by induction on the literals
rising_across [] ys rises x y here there = absurd (Contains-nil x here)
rising_across (z ∷ xs) ys rises x y here there = ⊎_elim
    (λ (is_x : z ≡ x). subst (λ (l : Literal). l.variable < y.variable) is_x
    (rising_first z y (xs ++ ys) rises (Contains-append_right xs ys y there)))
    (λ (later : Contains xs x). rising_across xs ys (rising_rest z (xs ++ ys) rises) x y later there)
    (Contains-cases z xs x here)

-- the first of rising literals is on the lowest variable
least_first : (f : Literal) (ls : List Literal) → IsRising (f ∷ ls) → (y : Literal) → Contains (f ∷ ls) y →
    f.variable ≤ y.variable
least_first f ls rises y there = ⊎_elim
    (λ (is_f : f ≡ y). subst (λ (l : Literal). f.variable ≤ l.variable) is_f (omega arith))
    (λ (later : Contains ls y). let lower = rising_first f y ls rises later in omega (arith, lower))
    (Contains-cases f ls y there)

-- rising literals rise together with others before them whose last variable is below the first
rising_joined : (xs : List Literal) (last first : Literal) (rest : List Literal) → IsRising xs →
    slice_get xs (length xs - 1) ≡ Some last → last.variable < first.variable → IsRising (first ∷ rest) →
    IsRising (xs ++ first ∷ rest)
-- a literal of the front is below the first behind it, which is no higher than any other behind it
rising_joined xs last first rest rx is lower ry =
    AllPairs-append (λ (l m : Literal). l.variable < m.variable) xs (first ∷ rest) rx ry
    (λ x y here there.
    let under = All-contains (λ (l : Literal). l.variable < first.variable) xs x
    (all_under xs first.variable last rx is lower) here in
    let least = least_first first rest ry y there in
    omega (arith, under, least))

-- with nothing before them, one pass says whether literals rise
pub rises_alone : (xs ys : List Literal) (b : Bool) → slice_get xs (length xs - 1) ≡ None → b ≡ rises_from 0 ys →
    (b ≡ true → IsRising (xs ++ ys)) × (IsRising (xs ++ ys) → b ≡ true)
rises_alone [] ys b none says =
    (λ passes. rising_from 0 ys (sym says ∙ passes), λ rises. says ∙ rises_by 0 ys rises (λ l member. omega arith))
rises_alone (x ∷ xs) ys b none says =
    let last = slice_get-get_or (x ∷ xs) (length (x ∷ xs) - 1) x (omega arith) in
    absurd (let is : None ≡ Some (get_or (x ∷ xs) (length (x ∷ xs) - 1) x) = sym none ∙ last in cc)

-- literals don't rise together with others whose last variable isn't below their first
pub rises_not : (xs ys : List Literal) (last first : Literal) (rest : List Literal) →
    slice_get xs (length xs - 1) ≡ Some last → ys ≡ first ∷ rest → first.variable ≤ last.variable →
    ¬ IsRising (xs ++ ys)
rises_not xs ys last first rest is ys_is le rise =
    let below = rising_across xs ys rise last first (Contains-slice_get xs (length xs - 1) last is)
    (subst (λ ls. Contains ls first) (sym ys_is) (Contains-first first rest)) in
    omega (arith, below, le)

-- if the variable of the last literal of xs is below that of the first of ys, a pass over ys says whether both lists
-- together rise
pub rises_together : (xs ys : List Literal) (last first : Literal) (rest : List Literal) (b : Bool) → IsRising xs →
    slice_get xs (length xs - 1) ≡ Some last → ys ≡ first ∷ rest → last.variable < first.variable →
    b ≡ rises_from 0 ys →
    (b ≡ true → IsRising (xs ++ ys)) × (IsRising (xs ++ ys) → b ≡ true)
rises_together xs ys last first rest b rx is ys_is lower says = (
  λ passes. subst (λ ls. IsRising (xs ++ ls)) (sym ys_is)
      (rising_joined xs last first rest rx is lower (subst IsRising ys_is (rising_from 0 ys (sym says ∙ passes)))),
  λ rise. says ∙ rises_by 0 ys (rising_behind xs ys rise) (λ l member. omega arith),
)
