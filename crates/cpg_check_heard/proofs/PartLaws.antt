-- The parts of cubes in which an end or a frame tells a bound.
use Rattle.std.proofs.Common.{ℕ, zero, suc, ◌+◌, ◌-◌, ◌<◌, ◌≤◌, ◌≡◌, Bool, true, false, true≢false, ◌&&◌, ◌||◌, List}
use Rattle.std.proofs.Common.{[], ◌∷◌, ◌++◌, get_or, length, take, Contains, All, Option, Some, None, arith}
use Rattle.std.proofs.Common.{refl, sym, ap, ◌∙◌, subst, le-ltb}
use Rattle.std.specs.Prelude.{nat_le, nat_lt, IfSome, IfNone, option_to_list}
use Rattle.std.specs.List.{list_any}
use Rattle.std.proofs.Math.Bool.{and_comm, or-false, or_assoc}
use Rattle.std.proofs.lemmas.Bool.{and_parts, and_right}
use Rattle.std.proofs.lemmas.List.Elements.{All-append}
use Rattle.std.proofs.lemmas.List.Folds.{list_any-append, list_any_more}
use Rattle.cpg_base.specs.Graph.{Graph, IsVariable, process_count, condition_of}
use Rattle.cpg_base.specs.Duration.{duration}
use Rattle.cpg_base.specs.Scenario.{Scenario, IsScenario, number_of}
use Rattle.cpg_cube.specs.Cube.{holds, matches}
use Rattle.cpg_cube.specs.declared.literal.Literal.{Literal}
use Rattle.cpg_cube.specs.Narrow.{with_literal}
use Rattle.cpg_cube.specs.Fit.{IsKnown}
use Rattle.cpg_cube.proofs.CubeLaws.{with-is}
use Rattle.cpg_cube.proofs.Narrow.{known-narrowed}
use Rattle.cpg_cube.specs.declared.column.Column.{Column}
use Rattle.cpg_cube.specs.Column.{column_at}
use Rattle.cpg_table.specs.Heard.{exactly, value_fact}
use Rattle.cpg_violation.proofs.Tests.{with_true}
use Rattle.cpg_violation.proofs.SieveLaws.{any_at}
use Rattle.cpg_check_heard.specs.declared.bound.LiteralBound.{LiteralBound}
use Rattle.cpg_check_heard.specs.declared.bound.LiteralBound.TheVariants.{Low, High}
use Rattle.cpg_check_heard.specs.declared.telling_rows.Means.{Means}
use Rattle.cpg_check_heard.specs.declared.telling_rows.Means.TheVariants.{End, Frame}
use Rattle.cpg_check_heard.specs.Bounds.{tells, range_of, variable_of}
use Rattle.cpg_check_heard.specs.TellingRows.{CanTell, IsPart, is_telling, is_telling_at, is_value, column_tells}
use Rattle.cpg_check_heard.specs.TellingRows.{row_tells}
use Rattle.cpg_check_heard.proofs.Sides.{side, range_holds, end_side, value_side, count_within, come_holds}

-- ---- parts

-- if tests `p` and `q` agree in the graph's scenarios, the part `o` for `p` is the part for `q`
pub part_same : (g : Graph) (p q : Scenario → Bool) (o : Option (List Literal)) →
    ((s : Scenario) → IsScenario g s → p s ≡ q s) → IsPart g p o → IsPart g q o
part_same g p q None h is_part = λ s i. sym (h s i) ∙ is_part s i
part_same g p q (Some cube) h is_part = λ s i. is_part s i ∙ h s i

-- the cube `base` narrowed by literal `l`, if that is `o`, is the part in which the cube matches and the literal holds;
-- `None` if there is no scenario of that kind
pub part_with : (g : Graph) (l : Literal) (base : List Literal) (o : Option (List Literal))
    → IfSome o (λ cube. (s : Scenario) → matches cube s ≡ (holds s l && matches base s)) →
    IfNone o ((s : Scenario) → (holds s l && matches base s) ≡ false) →
    IsPart g (λ s. holds s l && matches base s) o
part_with g l base None some none = λ s i. none s
part_with g l base (Some cube) some none = λ s i. some s

-- if cube `base` is on variables of the graph, and so is literal `l`, the cube narrowed by it, `o`, is on variables of
-- the graph
pub known_with : (g : Graph) (l : Literal) (base : List Literal) (o : Option (List Literal)) → o ≡ with_literal l base →
    IsVariable g l.variable → IsKnown g base →
    IfSome o (IsKnown g)
known_with g l base None is v k = tt
known_with g l base (Some cube) is v k = subst (IsKnown g) (with-is l base cube (sym is)) (known-narrowed g l base v k)

-- the range of bound `b` is a literal on the bound's variable
pub range_variable : (k : ℕ) (b : LiteralBound) → (range_of k b).variable ≡ variable_of b
range_variable k (Low v least) = refl
range_variable k (High v most) = refl

-- ---- of ends

-- three tests `h`, `r` and `m` that all have to pass may be asked in another order
turned : (h r m : Bool) → (r && (h && m)) ≡ (m && (h && r))
turned true true m = with_true m true refl
turned true false m = sym (and_right m false refl)
turned false true m = sym (and_right m false refl)
turned false false m = sym (and_right m false refl)

-- if of three tests two, `h` and `m`, don't both pass, the three don't all pass
off_both : (m h r : Bool) → (h && m) ≡ false → (m && (h && r)) ≡ false
off_both true true r fails = absurd (true≢false fails)
off_both true false r fails = refl
off_both false h r fails = refl

-- column `c` of process `p`, whose execution has ended by the time exactly with fault counts below `counts` (`come`);
-- and a bound of one of the process's variables
module _ (g : Graph) (few : process_count g ≤ 128) (p : ℕ) (c : Column) (time : ℕ) (b : LiteralBound)
    (can : CanTell g b (End p)) (known : IsVariable g (variable_of b))
    (counts : ℕ) (come : (n : ℕ) → n ≤ g.faults → nat_le (c.time + duration g p n) time ≡ nat_lt n counts) where
  -- the end of the column tells the bound exactly if the count is below `counts` and the variable is within the bound
  end_is : (s : Scenario) → IsScenario g s →
      column_tells g (End p) time b s c ≡ (nat_lt (number_of s p) counts && holds s (range_of g.faults b))
  end_is s lawful = ap (λ t. t && list_any (tells b) (exactly p (number_of s p) ∷ value_fact s (condition_of g p)))
      (come (number_of s p) (count_within g few s lawful p can.0))
      ∙ ap (λ t. nat_lt (number_of s p) counts && t)
      (end_side g few s lawful b p known can.0 can.1 ∙ sym (range_holds g few s lawful b known))

  -- if there are no such counts, it never tells the bound
  pub end_none : counts ≡ 0 → (s : Scenario) → IsScenario g s → is_telling g (End p) time b s c ≡ false
  end_none is s lawful = and_right (matches c.cube s) (column_tells g (End p) time b s c)
      (end_is s lawful ∙ ap (λ n. nat_lt (number_of s p) n && holds s (range_of g.faults b)) is
      ∙ ap (λ t. t && holds s (range_of g.faults b)) (le-ltb (number_of s p) 0 (omega arith)))

  -- there are such counts
  module _ (some : 0 < counts) where
    -- the count is one of them exactly if it is in the range from 0 to `counts` less 1
    come_is : (s : Scenario) →
        holds s (record { variable = p; low = 0; high = counts - 1 }) ≡ nat_lt (number_of s p) counts
    come_is s = come_holds (number_of s p) counts some

    -- if column `c` matches with none of the counts, its end never tells the bound
    pub end_apart : ((s : Scenario) →
        (holds s (record { variable = p; low = 0; high = counts - 1 }) && matches c.cube s) ≡ false) → (s : Scenario) →
        IsScenario g s →
        is_telling g (End p) time b s c ≡ false
    end_apart off s lawful = ap (λ t. matches c.cube s && t) (end_is s lawful)
        ∙ off_both (matches c.cube s) (nat_lt (number_of s p) counts) (holds s (range_of g.faults b))
        (ap (λ t. t && matches c.cube s) (sym (come_is s)) ∙ off s)

    -- otherwise the part with these counts, narrowed by the bound's range to `o`, is that in which the end of column
    -- `c` tells the bound
    pub end_told : (part : List Literal) (o : Option (List Literal)) →
        ((s : Scenario) →
        matches part s ≡ (holds s (record { variable = p; low = 0; high = counts - 1 }) && matches c.cube s))
        → IsPart g (λ s. holds s (range_of g.faults b) && matches part s) o →
        IsPart g (λ s. is_telling g (End p) time b s c) o
    end_told part o is is_part =
        part_same g (λ s. holds s (range_of g.faults b) && matches part s) (λ s. is_telling g (End p) time b s c) o
        (λ s lawful. ap (λ t. holds s (range_of g.faults b) && t) (is s ∙ ap (λ h. h && matches c.cube s) (come_is s))
        ∙ turned (nat_lt (number_of s p) counts) (holds s (range_of g.faults b)) (matches c.cube s)
        ∙ ap (λ t. matches c.cube s && t) (sym (end_is s lawful))) is_part

-- ---- of frames

-- column `c`, whose frame takes `delay` and carries the value of condition `o`, if there is one; and a bound
module _ (g : Graph) (few : process_count g ≤ 128) (delay : ℕ) (o : Option ℕ) (c : Column) (time : ℕ) (b : LiteralBound)
    (known : IsVariable g (variable_of b)) where
  -- a frame that has come by the time tells the bound exactly if a literal of its column does, or the value that it
  -- carries is that of the bound's variable and within the bound
  frame_is : (s : Scenario) → nat_le (c.time + delay) time ≡ true → column_tells g (Frame delay o) time b s c ≡
      (list_any (tells b) c.cube || (is_value o (variable_of b) && side b (number_of s (variable_of b))))
  frame_is s holds = ap (λ t. t && list_any (tells b) (c.cube ++ value_fact s o)) holds
      ∙ list_any-append (tells b) c.cube (value_fact s o) ∙ ap (λ t. list_any (tells b) c.cube || t) (value_side s b o)

  -- a frame that comes after the time tells nothing
  pub frame_late : nat_le (c.time + delay) time ≡ false → (s : Scenario) → IsScenario g s →
      is_telling g (Frame delay o) time b s c ≡ false
  frame_late fails s lawful = and_right (matches c.cube s) (column_tells g (Frame delay o) time b s c)
      (ap (λ t. t && list_any (tells b) (c.cube ++ value_fact s o)) fails)

  -- a frame that has come by the time
  module _ (come : nat_le (c.time + delay) time ≡ true) where
    -- if a literal of the column tells the bound, the whole cube is the part in which the frame does
    pub frame_whole : list_any (tells b) c.cube ≡ true → (cube : List Literal) → cube ≡ c.cube →
        IsPart g (λ s. is_telling g (Frame delay o) time b s c) (Some cube)
    frame_whole told cube is = λ s i. ap (λ (d : List Literal). matches d s) is ∙ with_true (matches c.cube s) true refl
        ∙ ap (λ t. matches c.cube s && t) (sym (frame_is s come
        ∙ ap (λ t. t || (is_value o (variable_of b) && side b (number_of s (variable_of b)))) told))

    -- if no literal tells the bound and the frame doesn't carry the variable's value, it tells nothing
    pub frame_none : list_any (tells b) c.cube ≡ false → is_value o (variable_of b) ≡ false → (s : Scenario) →
        IsScenario g s →
        is_telling g (Frame delay o) time b s c ≡ false
    frame_none off none s lawful = and_right (matches c.cube s) (column_tells g (Frame delay o) time b s c)
        (frame_is s come ∙ ap (λ t. t || (is_value o (variable_of b) && side b (number_of s (variable_of b)))) off
        ∙ ap (λ t. t && side b (number_of s (variable_of b))) none)

    -- if no literal tells it and the frame carries the value, the column's cube narrowed by the bound's range is the
    -- part in which it tells the bound
    pub frame_value : list_any (tells b) c.cube ≡ false → is_value o (variable_of b) ≡ true →
        (r : Option (List Literal)) →
        IsPart g (λ s. holds s (range_of g.faults b) && matches c.cube s) r
        → IsPart g (λ s. is_telling g (Frame delay o) time b s c) r
    frame_value off value r is_part = part_same g (λ s. holds s (range_of g.faults b) && matches c.cube s)
        (λ s. is_telling g (Frame delay o) time b s c) r
        (λ s i. ap (λ t. t && matches c.cube s) (range_holds g few s i b known)
        ∙ and_comm (side b (number_of s (variable_of b))) (matches c.cube s)
        ∙ ap (λ t. matches c.cube s && t) (sym (frame_is s come
        ∙ ap (λ t. t || (is_value o (variable_of b) && side b (number_of s (variable_of b)))) off ∙
        ap (λ t. t && side b (number_of s (variable_of b))) value))) is_part

-- ---- what is told by a list of parts

-- a test, of which a part is added to a list of cubes
module _ (g : Graph) (test : Scenario → Bool) where
  -- with the part `o` added to `told`, one of the cubes matches exactly where one did before, or the test passes
  pub told_add : (told : List (List Literal)) (o : Option (List Literal)) → IsPart g test o → (s : Scenario) →
      IsScenario g s
      → list_any (λ b. matches b s) (told ++ option_to_list o) ≡ (list_any (λ b. matches b s) told || test s)
  told_add told None is_part s lawful =
      list_any-append (λ b. matches b s) told []
      ∙ ap (λ t. list_any (λ b. matches b s) told || t) (sym (is_part s lawful))
  told_add told (Some cube) is_part s lawful = list_any-append (λ b. matches b s) told (cube ∷ [])
      ∙ ap (λ t. list_any (λ b. matches b s) told || t) (or-false (matches cube s) ∙ is_part s lawful)

-- if the cubes `told` and the part `o` that is added are on variables of the graph, so are all
pub known_add : (g : Graph) (told : List (List Literal)) (o : Option (List Literal)) → All (IsKnown g) told →
    IfSome o (IsKnown g) →
    All (IsKnown g) (told ++ option_to_list o)
known_add g told None all if_some = All-append (IsKnown g) told [] all (λ j d l. absurd (omega arith))
known_add g told (Some cube) all if_some = All-append (IsKnown g) told (cube ∷ []) all (λ j d less. one j d less)
  where
    -- the list that is added has this cube alone, at every place `j` of it
    one : (j : ℕ) (d : List Literal) → j < 1 → IsKnown g (get_or (cube ∷ []) j d)
    one zero d less = if_some
    one (suc j) d less = absurd (omega arith)

-- the step of a loop over `places`, each of which may pass a test: `r` says whether `a` holds or one of the first `i`
-- has passed, `n` whether `r` does or the next one has; so `n` says it of one place more
pub row_more : {X : Type 0} (test : X → Bool) (places : List X) (i : ℕ) (d : X) → i < length places → (a r n : Bool) →
    r ≡ (a || list_any test (take i places)) →
    n ≡ (r || test (get_or places i d)) →
    n ≡ (a || list_any test (take (i + 1) places))
row_more test places i d within a r n e f = f ∙ ap (λ t. t || test (get_or places i d)) e
    ∙ or_assoc a (list_any test (take i places)) (test (get_or places i d)) ∙
    ap (λ t. a || t) (sym (list_any_more test places i d within))

-- if the place of each column that matches in the scenario is among `places`, these tell a bound exactly if the row
-- does
pub row_all : (g : Graph) (means : Means) (time : ℕ) (b : LiteralBound) (columns : List Column)
    (places : List ℕ) (s : Scenario)
    → ((i : ℕ) → i < length columns → matches (column_at columns i).cube s ≡ true → Contains places i)
    → list_any (is_telling_at g means time b columns s) places ≡ row_tells g means time b columns s
row_all g means time b columns places s among = sym (any_at (is_telling g means time b s) columns places
    (λ i l t. among i l
    (and_parts (matches (column_at columns i).cube s) (column_tells g means time b s (column_at columns i)) t).0))
