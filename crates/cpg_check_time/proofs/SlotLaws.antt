-- V7 at one column: it is broken where no slot of the node starts at the column's time, or a lower item of the node is
-- sent at that time, too.
use Rattle.std.proofs.Common.{ℕ, ◌<◌, ◌≤◌, ◌≡◌, ◌≢◌, Bool, true, false, not, ◌&&◌, ◌||◌, ◌==◌, List, All, Contains}
use Rattle.std.proofs.Common.{Option, arith, sym, ap, ◌∙◌, eq-eqb, ne_eqb}
use Rattle.std.specs.List.{list_any}
use Rattle.std.proofs.lemmas.Bool.{and_parts, and_right}
use Rattle.std.proofs.lemmas.List.Elements.{All-contains}
use Rattle.cpg_base.specs.Graph.{Graph, home, is_sent}
use Rattle.cpg_base.specs.Bus.{next_slot}
use Rattle.cpg_base.specs.Numbers.{numbers_below}
use Rattle.cpg_base.proofs.Lists.{list_any_false, same_any}
use Rattle.cpg_base.specs.Scenario.{Scenario}
use Rattle.cpg_base.specs.First.{IsFirst}
use Rattle.cpg_base.proofs.First.{first_same}
use Rattle.cpg_cube.specs.Cube.{matches}
use Rattle.cpg_table.specs.Table.{NodeTable, columns_of, at}
use Rattle.cpg_cube.specs.declared.column.Column.{Column}
use Rattle.cpg_table.specs.declared.rule.Rule.{Rule}
use Rattle.cpg_check_time.specs.Columns.{breaks_column}
use Rattle.cpg_check_time.specs.Clashes.{shares, shares_some}
use Rattle.cpg_violation.proofs.Tests.{with_true}
use Rattle.cpg_check_time.proofs.Seeking.{and_swap, any_at, both_any}

-- ---- two columns, and those of another item

-- columns `c` and `d` of one time share a slot wherever both match, so the least scenario `o` that both match is the
-- answer
pub share_where : (g : Graph) (c d : Column) → d.time ≡ c.time → (order : List ℕ) (o : Option Scenario) →
    IsFirst g order (λ s. matches c.cube s && matches d.cube s) o →
    IsFirst g order (shares c d) o
share_where g c d same order o is_first = first_same g order (λ s. matches c.cube s && matches d.cube s) (shares c d) o
    (λ s _.
    ap (λ b. matches c.cube s && b) (with_true (matches d.cube s) (d.time == c.time) (eq-eqb d.time c.time same)))
    is_first

-- where columns `c` and `d` share a slot, both match scenario `s`
pub shares_both : (c : Column) (s : Scenario) (d : Column) → shares c d s ≡ true →
    (matches c.cube s ≡ true) × (matches d.cube s ≡ true)
shares_both c s d shared =
    let parts = and_parts (matches c.cube s) (matches d.cube s && (d.time == c.time)) shared in
    (parts.0, (and_parts (matches d.cube s) (d.time == c.time) parts.1).0)

-- given: column `c` of item `x`, and item `y`
module _ (g : Graph) (tables : List NodeTable) (x : ℕ) (c : Column) (y : ℕ) where
  -- if the node of `x` sends `y`, the least scenario in which a column of `y` shares the slot of `c` is the least in
  -- which the two clash
  pub other_item : is_sent g y ≡ true → home g y ≡ home g x → (order : List ℕ) (o : Option Scenario) →
      IsFirst g order (λ s. list_any (λ d. shares c d s) (columns_of tables y)) o →
      IsFirst g order (shares_some g tables x c y) o
  other_item sent node order o is_first =
      first_same g order (λ s. list_any (λ d. shares c d s) (columns_of tables y)) (shares_some g tables x c y) o
      (λ s _. sym (ap (λ b. (b && (home g y == home g x)) && list_any (λ d. shares c d s) (columns_of tables y)) sent ∙
      ap (λ b. b && list_any (λ d. shares c d s) (columns_of tables y)) (eq-eqb (home g y) (home g x) node))) is_first

  -- if no column of `y` has the time of `c`, the two never clash
  never_shares : ((d : Column) → Contains (columns_of tables y) d → d.time ≢ c.time) → (s : Scenario) →
      shares_some g tables x c y s ≡ false
  never_shares none s = and_right (is_sent g y && (home g y == home g x)) _
      (list_any_false (λ d. shares c d s) (columns_of tables y) (λ d member.
      and_right (matches c.cube s) _ (and_right (matches d.cube s) _ (ne_eqb d.time c.time (none d member)))))

  -- the two never clash if all columns of `y` are at `first` or later, and `c` is earlier
  pub all_later : (first : ℕ) → All (λ d. first ≤ d.time) (columns_of tables y) → c.time < first → (s : Scenario) →
      shares_some g tables x c y s ≡ false
  all_later first all early = never_shares (λ d member same_time. let from : first ≤ d.time =
      All-contains (λ (d : Column). first ≤ d.time) (columns_of tables y) d all member in omega arith)

  -- the two never clash if all columns of `y` are at `last` or earlier, and `c` is later
  pub all_earlier : (last : ℕ) → All (λ d. d.time ≤ last) (columns_of tables y) → last < c.time → (s : Scenario) →
      shares_some g tables x c y s ≡ false
  all_earlier last all late = never_shares (λ d member same_time. let by : d.time ≤ last =
      All-contains (λ (d : Column). d.time ≤ last) (columns_of tables y) d all member in omega arith)

-- ---- the rule

-- given: column `c` of item `x`
module _ (g : Graph) (order : List ℕ) (tables : List NodeTable) (x : ℕ) (c : Column) where
  -- whether item `y` is sent by the same node, and at the time of `c`, in a scenario
  abbrev other_at : Scenario → ℕ → Bool
  other_at s y = (is_sent g y && (home g y == home g x)) && list_any (λ t. t == c.time) (at tables y s)

  -- if `x` isn't sent, `c` never breaks V7
  pub not_sent : is_sent g x ≡ false → (s : Scenario) → breaks_column Rule.Slot g tables x c s ≡ false
  not_sent unsent s = and_right (matches c.cube s) _
      (ap (λ b. b && (not (next_slot g (home g x) c.time == c.time) || list_any (other_at s) (numbers_below x))) unsent)

  -- given: the item is sent
  module _ (sent : is_sent g x ≡ true) where
    -- if no slot of the node starts at its time, `c` breaks V7 wherever it matches
    no_start : next_slot g (home g x) c.time ≢ c.time → (s : Scenario) →
        matches c.cube s ≡ breaks_column Rule.Slot g tables x c s
    no_start no_slot s =
        let starts : (next_slot g (home g x) c.time == c.time) ≡ false =
        ne_eqb (next_slot g (home g x) c.time) c.time no_slot in
        with_true (matches c.cube s) _ (ap (λ b.
        b && (not (next_slot g (home g x) c.time == c.time) || list_any (other_at s) (numbers_below x))) sent ∙
        ap (λ b. not b || list_any (other_at s) (numbers_below x)) starts)

    -- if no slot of the node starts at its time, the least scenario that `c` matches is the least in which `c` breaks
    -- V7
    pub first_no_start : next_slot g (home g x) c.time ≢ c.time → (o : Option Scenario) →
        IsFirst g order (matches c.cube) o →
        IsFirst g order (breaks_column Rule.Slot g tables x c) o
    first_no_start no_slot o is_first =
        first_same g order (matches c.cube) (breaks_column Rule.Slot g tables x c) o
        (λ s _. no_start no_slot s) is_first

    -- given: a slot of the item's node starts at the column's time
    module _ (start : next_slot g (home g x) c.time ≡ c.time) where
      -- `c` breaks V7 exactly where it matches and a lower item is sent by the node at the same time
      others_only : (s : Scenario) →
          breaks_column Rule.Slot g tables x c s ≡ (matches c.cube s && list_any (other_at s) (numbers_below x))
      others_only s = ap (λ b. matches c.cube s
          && (b && (not (next_slot g (home g x) c.time == c.time) || list_any (other_at s) (numbers_below x)))) sent
          ∙ ap (λ b. matches c.cube s && (not b || list_any (other_at s) (numbers_below x)))
          (eq-eqb (next_slot g (home g x) c.time) c.time start)

      -- item `y` clashes with `c` exactly where `c` matches and `y` is sent by the node at the same time
      of_item : (s : Scenario) (y : ℕ) → shares_some g tables x c y s ≡ (matches c.cube s && other_at s y)
      of_item s y =
          ap (λ b. (is_sent g y && (home g y == home g x)) && b)
          (both_any (matches c.cube s) (λ (d : Column). matches d.cube s && (d.time == c.time)) (columns_of tables y) ∙
          ap (λ b. matches c.cube s && b) (sym (any_at tables y s (λ t. t == c.time))))
          ∙ and_swap (is_sent g y && (home g y == home g x)) (matches c.cube s)
          (list_any (λ t. t == c.time) (at tables y s))

      -- the least scenario in which some lower item clashes with `c` is the least in which `c` breaks V7
      pub first_shared : (o : Option Scenario) →
          IsFirst g order (λ s. list_any (λ y. shares_some g tables x c y s) (numbers_below x)) o →
          IsFirst g order (breaks_column Rule.Slot g tables x c) o
      first_shared o is_first = first_same g order (λ s. list_any (λ y. shares_some g tables x c y s) (numbers_below x))
          (breaks_column Rule.Slot g tables x c) o
          (λ s _. same_any (λ y. shares_some g tables x c y s) (λ y. matches c.cube s && other_at s y) (numbers_below x)
          (λ y _. of_item s y) ∙
          both_any (matches c.cube s) (other_at s) (numbers_below x) ∙ sym (others_only s)) is_first
