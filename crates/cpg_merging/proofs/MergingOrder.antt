-- The order by which columns are sorted before they are merged at a variable. It is total, and columns that tie in it
-- have the same time and the same literals on other variables.
use Rattle.std.proofs.Common.{ℕ, ◌≤◌, ◌≡◌, true, false, List, [], ◌∷◌, Ordering, Less, Equal, Greater, AllPairs, arith}
use Rattle.std.proofs.Common.{refl, sym, ap, ap₂, ◌∙◌}
use Rattle.std.specs.Ordering.{nat_cmp, ordering_then, ordering_reverse, is_lt, is_eq}
use Rattle.std.specs.Cmp.{IsTotalOrder}
use Rattle.std.specs.Cmp.Lexicographic.{slice_cmp}
use Rattle.std.specs.List.Sorted.{IsSortedBy}
use Rattle.std.proofs.lemmas.Cmp.{nat_cmp_total, tied_itself, on_total, then_total, lists_total, ranked}
use Rattle.std.proofs.lemmas.Bool.{both_ways}
use Rattle.std.proofs.lemmas.Grind.{common_steps}
use Rattle.std.proofs.lemmas.List.Sorted.{ranks_by, sorted_far}
use Rattle.cpg_cube.specs.declared.literal.Literal.{Literal}
use Rattle.cpg_cube.specs.Cube.{low_in}
use Rattle.cpg_cube.specs.declared.column.Column.{Column}
use Rattle.cpg_merging.specs.Merging.{without, literal_cmp, beside_cmp, column_cmp}
use Rattle.cpg_cube.proofs.Ranges.{same_literal}

-- ---- one comparison after another

-- if one comparison and then another come out equal, each of them does
pub then_equal : (o r : Ordering) → ordering_then o r ≡ Equal → (o ≡ Equal) × (r ≡ Equal)
then_equal Less r equal = cc
then_equal Equal r equal = (refl, equal)
then_equal Greater r equal = cc

-- if the two in turn don't come out less, the first doesn't
pub then_not_less : (o r : Ordering) → is_lt (ordering_then o r) ≡ false → is_lt o ≡ false
then_not_less Less r not_less = not_less
then_not_less Equal r not_less = refl
then_not_less Greater r not_less = refl

-- an ordering that is tested to be equal is Equal
pub equal_from : (o : Ordering) → is_eq o ≡ true → o ≡ Equal
equal_from Less is_equal = cc
equal_from Equal is_equal = refl
equal_from Greater is_equal = cc

-- numbers that compare equal are the same
pub number_equal : (x y : ℕ) → nat_cmp x y ≡ Equal → x ≡ y
number_equal x y equal = ranked x y Equal (sym equal)

-- if y doesn't compare as less than x, x is at most y
pub not_less-le : (x y : ℕ) → is_lt (nat_cmp y x) ≡ false → x ≤ y
not_less-le x y not_less = grind (arith, common_steps)

-- ---- the orders are total, and what ties is equal

-- literals are totally ordered by variable, low and high
pub literal_total : IsTotalOrder literal_cmp
literal_total = then_total (on_total (λ (l : Literal). l.variable) nat_cmp_total)
    (then_total (on_total (λ (l : Literal). l.low) nat_cmp_total) (on_total (λ (l : Literal). l.high) nat_cmp_total))

-- literals that compare as equal are equal
literal_equal : (l m : Literal) → literal_cmp l m ≡ Equal → l ≡ m
literal_equal l m equal =
    let parts =
    then_equal (nat_cmp l.variable m.variable) (ordering_then (nat_cmp l.low m.low) (nat_cmp l.high m.high)) equal in
    let range_parts = then_equal (nat_cmp l.low m.low) (nat_cmp l.high m.high) parts.1 in
    same_literal l m (number_equal l.variable m.variable parts.0) (number_equal l.low m.low range_parts.0)
    (number_equal l.high m.high range_parts.1)

-- if the lists of literals xs and ys compare as equal, they are equal
literals_equal : (xs ys : List Literal) → slice_cmp literal_cmp xs ys ≡ Equal → xs ≡ ys
literals_equal [] [] equal = refl
literals_equal [] (y ∷ ys) equal = cc
literals_equal (x ∷ xs) [] equal = cc
literals_equal (x ∷ xs) (y ∷ ys) equal = let parts = then_equal (literal_cmp x y) (slice_cmp literal_cmp xs ys) equal in
    ap₂ ◌∷◌ (literal_equal x y parts.0) (literals_equal xs ys parts.1)

-- `v` is the variable at which columns are merged
module _ (v : ℕ) where
  -- the order by time and literals on other variables is total
  pub beside_total : IsTotalOrder (beside_cmp v)
  beside_total = then_total (on_total (λ (c : Column). c.time) nat_cmp_total)
      (on_total (λ (c : Column). without v c.cube) (lists_total literal_total))

  -- the order by time, literals on other variables and then the low of v is total
  pub column_total : IsTotalOrder (column_cmp v)
  column_total = then_total beside_total (on_total (λ (c : Column). low_in c.cube v) nat_cmp_total)

  -- columns that tie beside v have one time and the same literals on other variables
  pub beside_equal : (c d : Column) → beside_cmp v c d ≡ Equal →
      (c.time ≡ d.time) × (without v c.cube ≡ without v d.cube)
  beside_equal c d ties =
      let parts = then_equal (nat_cmp c.time d.time)
      (slice_cmp literal_cmp (without v c.cube) (without v d.cube)) ties in
      (number_equal c.time d.time parts.0, literals_equal (without v c.cube) (without v d.cube) parts.1)

  -- columns of one time with the same literals on other variables tie beside v
  pub beside_from : (c d : Column) → c.time ≡ d.time → without v c.cube ≡ without v d.cube → beside_cmp v c d ≡ Equal
  beside_from c d same_time same_literals =
      ap₂ (λ (t : ℕ) (ls : List Literal).
      ordering_then (nat_cmp c.time t) (slice_cmp literal_cmp (without v c.cube) ls)) (sym same_time)
      (sym same_literals)
      ∙ tied_itself beside_total c

  -- a column that stands between two that tie beside v ties with the first
  pub between : (c d e : Column) → is_lt (beside_cmp v d c) ≡ false → is_lt (beside_cmp v e d) ≡ false →
      beside_cmp v c e ≡ Equal →
      beside_cmp v c d ≡ Equal
  between c d e d_not_before e_not_before ties = go (beside_cmp v c d) refl
    where
      -- c doesn't come before d, since e would too; nor does it come after d
      go : (o : Ordering) → beside_cmp v c d ≡ o → o ≡ Equal
      go Equal compared = refl
      go Less compared =
          -- then e would come before d
          let back : beside_cmp v e d ≡ Less = sym (beside_total.congr c e d ties) ∙ compared in
          absurd (both_ways (is_lt (beside_cmp v e d)) e_not_before (ap is_lt back))
      go Greater compared =
          let back : beside_cmp v d c ≡ Less = beside_total.antisymm d c ∙ ap ordering_reverse compared in
          absurd (both_ways (is_lt (beside_cmp v d c)) d_not_before (ap is_lt back))

  -- in sorted columns none comes before an earlier one
  pub sorted_pairs : (xs : List Column) → IsSortedBy (λ c d. is_lt (column_cmp v c d)) xs →
      AllPairs (λ c d. is_lt (column_cmp v d c) ≡ false) xs
  sorted_pairs xs sorted = λ i j d less inside. sorted_far (λ (x y : Column). is_lt (column_cmp v x y))
      (ranks_by column_total (λ (c : Column). c)) xs sorted i j d (omega arith) inside
