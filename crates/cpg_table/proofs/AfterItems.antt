-- The rows after those of some items (`after_items`). Most lemmas go by induction on the items, with a case for whether
-- the first row is of the first item.
use Rattle.std.proofs.Common.{◌≡◌, ◌≢◌, ◌↔◌, IsTrue, true≢false, ℕ, suc, ◌+◌, ◌==◌, Bool, true, false, cond, List, []}
use Rattle.std.proofs.Common.{◌∷◌, ◌++◌, Some, None, length, refl, sym, ap, ap₂, ◌∙◌, arith, eqb-true, eq-eqb}
use Rattle.std.proofs.Common.{append-nil}
use Rattle.std.proofs.lemmas.Bool.{cond-true}
use Rattle.cpg_table.specs.Table.{Row}
use Rattle.cpg_table.specs.Shape.{items_of}
use Rattle.cpg_table.specs.Items.{after_items}

-- if rows begin with those of xs, the rows after xs and ys are those after ys in the rest; by induction on xs: the
-- first row is of the first item, or there is no rest
pub after_both : (xs ys : List ℕ) (rows rest : List Row) → Some rest ≡ after_items xs rows →
    after_items (xs ++ ys) rows ≡ after_items ys rest
after_both [] ys rows rest found = cc
after_both (x ∷ xs) ys [] rest found = cc
after_both (x ∷ xs) ys (row ∷ rows) rest e = case (row.item == x) (after_both xs ys rows rest) e
  where
    -- by whether the first row is of the first item; if it isn't, the rows don't begin with those of the items
    case : (b : Bool) → (Some rest ≡ after_items xs rows → after_items (xs ++ ys) rows ≡ after_items ys rest) →
        Some rest ≡ cond b (after_items xs rows) None →
        cond b (after_items (xs ++ ys) rows) None ≡ after_items ys rest
    case true ih found = ih found
    case false ih found = cc

-- rows that don't begin with those of xs don't begin with those of xs and ys
pub after_neither : (xs ys : List ℕ) (rows : List Row) → None ≡ after_items xs rows → None ≡ after_items (xs ++ ys) rows
after_neither [] ys rows none = cc
after_neither (x ∷ xs) ys [] none = refl
after_neither (x ∷ xs) ys (row ∷ rows) e = case (row.item == x) (after_neither xs ys rows) e
  where
    -- by whether the first row is of the first item; if it isn't, the rows don't begin with those of the items
    case : (b : Bool) → (None ≡ after_items xs rows → None ≡ after_items (xs ++ ys) rows) →
        None ≡ cond b (after_items xs rows) None →
        None ≡ cond b (after_items (xs ++ ys) rows) None
    case true ih none = ih none
    case false ih none = refl

-- Rows that begin with those of xs are of xs and then of the items of the rest, and as many in all. By induction on xs:
-- the first row is of the first item, or the rows wouldn't begin with those of xs.
pub after_parts : (xs : List ℕ) (rows rest : List Row) → Some rest ≡ after_items xs rows →
    (items_of rows ≡ xs ++ items_of rest) × (length rows ≡ length xs + length rest)
after_parts [] rows rest found = let same : rest ≡ rows = cc in (ap items_of (sym same), omega (arith, ap length same))
after_parts (x ∷ xs) [] rest found = absurd (let none : Some rest ≡ None = found in cc)
after_parts (x ∷ xs) (row ∷ rows) rest e = case (row.item == x) (eqb-true row.item x) (after_parts xs rows rest) e
  where
    -- by whether the first row is of the first item; if it isn't, the rows don't begin with those of the items
    case : (b : Bool) → (b ≡ true → row.item ≡ x) →
        (Some rest ≡ after_items xs rows →
        (items_of rows ≡ xs ++ items_of rest) × (length rows ≡ length xs + length rest)) →
        Some rest ≡ cond b (after_items xs rows) None
        → (row.item ∷ items_of rows ≡ x ∷ (xs ++ items_of rest)) × (suc (length rows) ≡ suc (length xs) + length rest)
    case true if_so ih found = let parts = ih found in (ap₂ ◌∷◌ (if_so refl) parts.0, omega (arith, parts.1))
    case false if_so ih found = absurd (let none : Some rest ≡ None = found in cc)

-- after rows of exactly these items no row is left
pub after_all : (xs : List ℕ) (rows : List Row) → items_of rows ≡ xs → Some [] ≡ after_items xs rows
after_all [] [] same = refl
after_all [] (row ∷ rows) same = absurd (let none : row.item ∷ items_of rows ≡ [] = same in cc)
after_all (x ∷ xs) [] same = absurd (let none : [] ≡ x ∷ xs = same in cc)
after_all (x ∷ xs) (row ∷ rows) same =
    let parts : (row.item ≡ x) × (items_of rows ≡ xs) = (cc, cc) in
    after_all xs rows parts.1 ∙ sym (cond-true (row.item == x) (after_items xs rows) None (eq-eqb row.item x parts.0))

-- if no row is left after the items, the rows are those of exactly these items
pub all_after : (xs : List ℕ) (rows : List Row) → Some [] ≡ after_items xs rows → items_of rows ≡ xs
all_after xs rows found = (after_parts xs rows [] found).0 ∙ append-nil xs

-- rows that don't begin with those of these items aren't of exactly these
pub not_these : (xs : List ℕ) (rows : List Row) → None ≡ after_items xs rows → items_of rows ≢ xs
not_these xs rows e same = let all = after_all xs rows same in absurd (let none : Some [] ≡ None = all ∙ sym e in cc)

-- rows of which one is left after those of these items aren't of exactly these
pub not_all : (xs : List ℕ) (row : Row) (rest rows : List Row) → Some (row ∷ rest) ≡ after_items xs rows →
    items_of rows ≢ xs
not_all xs row rest rows found same = let all = after_all xs rows same in
    absurd (let none : Some [] ≡ Some (row ∷ rest) = all ∙ sym found in cc)

-- rows that begin with those of these items are of exactly these if and only if none is left; b says whether none is
pub these_where_nothing : (xs : List ℕ) (rows rest : List Row) → Some rest ≡ after_items xs rows → (b : Bool) →
    b ≡ (length rest == 0) →
    IsTrue b ↔ (items_of rows ≡ xs)
these_where_nothing xs rows [] found b same = (λ _. all_after xs rows found, λ _. same)
these_where_nothing xs rows (row ∷ rest) found b t = (
  λ k.
      absurd (let none : length (row ∷ rest) ≡ 0 = eqb-true (length (row ∷ rest)) 0 (sym t ∙ k) in omega (arith, none)),
  λ same. absurd (not_all xs row rest rows found same),
)

-- `not_these` as a clause of a test that answers false
pub these_never : (xs : List ℕ) (rows : List Row) → None ≡ after_items xs rows → IsTrue false ↔ (items_of rows ≡ xs)
these_never xs rows none = (λ k. absurd (true≢false (sym k)), λ same. absurd (not_these xs rows none same))

-- given: rows that begin with those of xs, after which `a` are left, and then with those of ys, after which `b` are left
module _ (xs ys zs : List ℕ) (rows a b : List Row) (front : Some a ≡ after_items xs rows)
    (middle : Some b ≡ after_items ys a) where
  -- the rows after xs, ys and zs are those after zs in the rest
  pub after_three : after_items (xs ++ (ys ++ zs)) rows ≡ after_items zs b
  after_three = after_both xs (ys ++ zs) rows a front ∙ after_both ys zs a b middle
