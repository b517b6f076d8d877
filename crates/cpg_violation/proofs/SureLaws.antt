-- Why a rule is sure at an item: by its columns; and lists of marks that are made one by one.
use Rattle.std.proofs.Common.{ℕ, ◌+◌, ◌<◌, ◌≤◌, ◌≡◌, Bool, true, false, ◌&&◌, List, [], ◌∷◌, ◌++◌, None, Some, Contains}
use Rattle.std.proofs.Common.{All, length, get_or, take, arith, refl, sym, ap, ◌∙◌, subst, inl, inr}
use Rattle.std.specs.Bool.{OnTrue}
use Rattle.std.specs.Prelude.{nat_le}
use Rattle.std.proofs.lemmas.Bool.{cases_lt, cases_eq, both_ways, leb-true, OnTrue_at, OnTrue_from}
use Rattle.std.proofs.lemmas.List.{get_or_append_left, get_or_push, get_or_past, length-append, take_all}
use Rattle.std.proofs.lemmas.List.Elements.{All-more}
use Rattle.cpg_base.specs.Graph.{Graph, item_count}
use Rattle.cpg_base.proofs.Lists.{list_any_at_place}
use Rattle.cpg_base.specs.Scenario.{Scenario, IsScenario}
use Rattle.cpg_cube.specs.Cube.{matches}
use Rattle.cpg_table.specs.Table.{NodeTable, columns_of}
use Rattle.cpg_cube.specs.declared.column.Column.{Column}
use Rattle.cpg_table.specs.Valid.{asks_for_one, breaks_at, breaks_present, breaks_rule}
use Rattle.cpg_table.specs.declared.rule.Rule.{Rule}
use Rattle.cpg_tree.proofs.Passes.{of_true}
use Rattle.cpg_violation.specs.Sure.{AreSure, IsSure}
use Rattle.cpg_violation.proofs.Tests.{off_where}

-- what follows from `a ≤ b` is true wherever the test of it is
pub on_le : {P : Type 0} (a b : ℕ) → (a ≤ b → P) → OnTrue (nat_le a b) P
on_le {P} a b follows = OnTrue_from (nat_le a b) P (λ holds. follows (leb-true a b holds))

-- given: a rule and an item
module _ (g : Graph) (tables : List NodeTable) (rule : Rule) (x : ℕ) where
  -- a rule that isn't about the lack of a column is sure at the item if no column breaks it in a scenario that it
  -- matches
  pub sure_of : asks_for_one rule ≡ false
      → ((s : Scenario) (c : Column) (earlier : List Column) → IsScenario g s → Contains (columns_of tables x) c →
      matches c.cube s ≡ true → breaks_rule rule g tables s x earlier c ≡ false)
      → IsSure g tables rule x
  sure_of alone each None s lawful = ap (λ b. b && breaks_present g tables s x) alone
  sure_of alone each (Some i) s lawful =
      list_any_at_place (breaks_at rule g tables s x (take i (columns_of tables x))) (columns_of tables x) i
      (λ c member. off_where (matches c.cube s) (breaks_rule rule g tables s x (take i (columns_of tables x)) c)
      (λ matched. each s c (take i (columns_of tables x)) lawful member matched))

-- an empty list of marks marks no item, so it is right
pub none_sure : (g : Graph) (tables : List NodeTable) (rule : Rule) → AreSure g tables rule []
none_sure g tables rule x is_item marked = absurd (both_ways false refl marked)

-- if `P` holds for all that are marked, and for `x` if the mark `b` is set, it holds for all that are marked once `b`
-- is added at place `x`
pub marked_push : (P : ℕ → Type 0) (x : ℕ) (marks : List Bool) → length marks ≡ x →
    ((y : ℕ) → get_or marks y false ≡ true → P y) → (b : Bool) → OnTrue b (P x)
    → (y : ℕ) → get_or (marks ++ b ∷ []) y false ≡ true → P y
-- a marked number is below `x`, or `x` itself: past the end nothing is marked
marked_push P x marks long before b here y marked = elim (cases_lt y x) [
  | inl lt ↦ before y (sym (get_or_append_left marks (b ∷ []) false y (omega (arith, long, lt))) ∙ marked)
  | inr ge ↦ elim (cases_eq y x) [
    | inl same ↦ subst P (sym same)
        (OnTrue_at (sym (get_or_push marks b false y (omega (arith, long, same))) ∙ marked) here)
    | inr other ↦ absurd (both_ways (get_or (marks ++ b ∷ []) y false)
        (get_or_past (marks ++ b ∷ []) y false (omega (arith, length-append marks (b ∷ []), long, ge, other))) marked)
  ]
]

-- there are marks for the first `x` items, and the rule is sure at each item that is marked
pub record AreSoFar (g : Graph) (tables : List NodeTable) (rule : Rule) (x : ℕ) (marks : List Bool) : Type 0 where
  -- there is a mark for each of the first `x` items
  pub long : length marks ≡ x
  -- the rule is sure at each item that is marked
  pub sure : AreSure g tables rule marks

-- before the first item there are no marks
pub first_none : (g : Graph) (tables : List NodeTable) (rule : Rule) → AreSoFar g tables rule 0 []
first_none g tables rule = record { long = refl; sure = none_sure g tables rule }

-- with a mark for item `x` that is set only if the rule is sure there, there are right marks for one item more
pub one_more : (g : Graph) (tables : List NodeTable) (rule : Rule) (x : ℕ) (marks : List Bool) (b : Bool) →
    AreSoFar g tables rule x marks →
    OnTrue b (IsSure g tables rule x) →
    AreSoFar g tables rule (x + 1) (marks ++ b ∷ [])
one_more g tables rule x marks b before here = record {
  long = omega (arith, length-append marks (b ∷ []), before.long);
  sure = λ y is_item marked. marked_push (λ y. y < item_count g → IsSure g tables rule y) x marks before.long
      (λ z z_marked z_item. before.sure z z_item z_marked) b (of_true b here (λ h k. h)) y marked is_item;
}

-- if `P` holds for the first `i` elements and for the next one, `x`, it holds for one element more
pub each_more : {X : Type 0} (P : X → Type 0) (xs : List X) (i : ℕ) (x : X) → i < length xs → x ≡ get_or xs i x →
    All P (take i xs) → P x →
    All P (take (i + 1) xs)
each_more P xs i x inside is before here = All-more P xs i x inside before (subst P is here)

-- if `P` holds for the first `i` elements, and there are no others, it holds for all
pub each_all : {X : Type 0} (P : X → Type 0) (xs : List X) (i : ℕ) → length xs ≤ i → All P (take i xs) → All P xs
each_all P xs i past before = subst (All P) (take_all i xs past) before
