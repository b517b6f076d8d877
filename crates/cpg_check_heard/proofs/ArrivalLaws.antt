-- Arrivals: which columns tell nothing, which tell a bound for sure, and what a list of them tells with one column
-- more.
use Rattle.std.proofs.Common.{ℕ, zero, suc, ◌+◌, ◌<◌, ◌≤◌, ◌≡◌, Bool, true, false, ◌&&◌, ◌||◌, List, [], ◌∷◌, ◌++◌}
use Rattle.std.proofs.Common.{get_or, length, All, Option, arith, refl, sym, ap, ◌∙◌, subst, lt-ltb}
use Rattle.std.specs.Prelude.{nat_le}
use Rattle.std.specs.List.{list_any}
use Rattle.std.proofs.Math.Bool.{or-false}
use Rattle.std.proofs.lemmas.Bool.{and_from, and_right, lt-leb}
use Rattle.std.proofs.lemmas.List.Elements.{All-append}
use Rattle.std.proofs.lemmas.List.Folds.{list_any-append}
use Rattle.cpg_base.specs.Duration.{duration}
use Rattle.cpg_base.specs.Graph.{Graph, condition_of}
use Rattle.cpg_base.specs.Scenario.{Scenario, number_of}
use Rattle.cpg_cube.specs.Cube.{matches}
use Rattle.cpg_cube.specs.Fit.{IsKnown}
use Rattle.cpg_cube.specs.declared.column.Column.{Column}
use Rattle.cpg_cube.specs.Column.{column_at}
use Rattle.cpg_table.specs.Heard.{exactly, value_fact}
use Rattle.cpg_check_heard.specs.declared.arrivals.Arrival.{Arrival}
use Rattle.cpg_check_heard.specs.declared.bound.LiteralBound.{LiteralBound}
use Rattle.cpg_check_heard.specs.declared.telling_rows.Means.{Means}
use Rattle.cpg_check_heard.specs.declared.telling_rows.Means.TheVariants.{End, Frame}
use Rattle.cpg_check_heard.specs.Arrivals.{IsArrival, do_tell}
use Rattle.cpg_check_heard.specs.Bounds.{tells}
use Rattle.cpg_check_heard.specs.TellingRows.{column_tells, is_telling, is_telling_at}

-- a bound, a scenario, and the time by which something has to be told
module _ (g : Graph) (time : ℕ) (b : LiteralBound) (s : Scenario) where
  -- column `c`, whose frame comes later, tells nothing
  pub late_frame : (delay : ℕ) (o : Option ℕ) (c : Column) → time < c.time + delay →
      is_telling g (Frame delay o) time b s c ≡ false
  late_frame delay o c less = and_right (matches c.cube s) (column_tells g (Frame delay o) time b s c)
      (ap (λ t. t && list_any (tells b) (c.cube ++ value_fact s o)) (lt-leb (c.time + delay) time less))

  -- column `c`, whose execution starts later, tells nothing, as it ends later, too
  pub late_end : (p : ℕ) (c : Column) → time < c.time → is_telling g (End p) time b s c ≡ false
  late_end p c less = and_right (matches c.cube s) (column_tells g (End p) time b s c)
      (ap (λ t. t && list_any (tells b) (exactly p (number_of s p) ∷ value_fact s (condition_of g p)))
      (lt-leb (c.time + duration g p (number_of s p)) time (omega (arith, less))))

  -- if the frame of column `c` has come, the column matches, and one of its literals tells the bound, the column does
  pub whole_frame : (delay : ℕ) (o : Option ℕ) (c : Column) → nat_le (c.time + delay) time ≡ true →
      list_any (tells b) c.cube ≡ true →
      matches c.cube s ≡ true →
      is_telling g (Frame delay o) time b s c ≡ true
  whole_frame delay o c come told it_matches = and_from (matches c.cube s)
      (column_tells g (Frame delay o) time b s c) it_matches
      (and_from (nat_le (c.time + delay) time) (list_any (tells b) (c.cube ++ value_fact s o)) come
      (list_any-append (tells b) c.cube (value_fact s o) ∙ ap (λ t. t || list_any (tells b) (value_fact s o)) told))

  -- with column `a` added to `xs`, the columns tell the bound exactly if `xs` do or `a` does (`at`)
  pub tell_push : (xs : List Arrival) (a : Arrival) (at : Bool) → is_telling g a.means time b s a.column.now ≡ at →
      do_tell g time b (xs ++ a ∷ []) s ≡ (do_tell g time b xs s || at)
  tell_push xs a at is = list_any-append (λ (x : Arrival). is_telling g x.means time b s x.column.now) xs (a ∷ [])
      ∙ ap (λ t. do_tell g time b xs s || t) (or-false (is_telling g a.means time b s a.column.now) ∙ is)

-- columns on variables of the graph
module _ (g : Graph) where
  -- if each of `xs` is an arrival of the graph, and so is `a`, each of `xs` with `a` at the end is
  pub each_push : (xs : List Arrival) (a : Arrival) → All (IsArrival g) xs → IsArrival g a →
      All (IsArrival g) (xs ++ a ∷ [])
  each_push xs a all is = All-append (IsArrival g) xs (a ∷ []) all one
    where
      -- the list that is added has the arrival `a` alone, at every place `j` of it
      one : (j : ℕ) (d : Arrival) → j < 1 → IsArrival g (get_or (a ∷ []) j d)
      one zero d less = is
      one (suc j) d less = absurd (omega arith)

  -- if all columns of a row are on variables of the graph, column `c`, which is at place `i`, is
  pub known_column : (columns : List Column) (i : ℕ) (c : Column) → i < length columns →
      ((d : Column) → c ≡ get_or columns i d) → All (λ (d : Column). IsKnown g d.cube) columns →
      IsKnown g c.cube
  known_column columns i c within e all = subst (λ (d : Column). IsKnown g d.cube) (sym (e c)) (all i c within)

-- if `c` is the column at place `i`, the place tells the bound exactly if the column does
pub telling_at : (g : Graph) (time : ℕ) (b : LiteralBound) (s : Scenario) (means : Means) (columns : List Column)
    (i : ℕ) (c : Column) →
    i < length columns →
    ((d : Column) → c ≡ get_or columns i d)
    → is_telling_at g means time b columns s i ≡ is_telling g means time b s c
telling_at g time b s means columns i c within e =
    ap (λ t. t && is_telling g means time b s (column_at columns i)) (lt-ltb i (length columns) within)
    ∙ ap (is_telling g means time b s) (sym (e _))

-- if no column of a row is before `first`, and the test fails at each that isn't, it passes at none of the row; by
-- induction on the row
pub late_row : (test : Column → Bool) (columns : List Column) (first : ℕ) → All (λ c. first ≤ c.time) columns →
    ((c : Column) → first ≤ c.time → test c ≡ false) →
    list_any test columns ≡ false
late_row test [] first all none = refl
late_row test (c ∷ cs) first all none =
    rw (none c (all 0 c (omega arith))) (late_row test cs first (λ k d l. all (suc k) d (omega arith)) none)
