-- V1 is sure at an item: column by column, or since the item and all processes are always active.
use Rattle.std.proofs.Common.{ℕ, ◌-◌, ◌<◌, ◌≤◌, ◌≡◌, Bool, true, false, not, ◌||◌, List, All, arith, length, take, drop}
use Rattle.std.proofs.Common.{refl, ap, ap₂, subst, sym, ◌∙◌, inl, inr}
use Rattle.std.specs.List.{list_all}
use Rattle.std.proofs.lemmas.Grind.{common_steps}
use Rattle.std.proofs.lemmas.Bool.{and_parts}
use Rattle.std.proofs.lemmas.List.{take-append-drop}
use Rattle.std.proofs.lemmas.List.Elements.{All-contains}
use Rattle.std.proofs.lemmas.List.Folds.{list_all-append}
use Rattle.cpg_base.specs.Activity.{active}
use Rattle.cpg_base.specs.Graph.{Graph, IsVariable, process_count, process_of_variable}
use Rattle.cpg_base.proofs.Items.{process_of_below}
use Rattle.cpg_base.proofs.Lists.{list_any_false}
use Rattle.cpg_base.proofs.Variables.{of_count, of_value}
use Rattle.cpg_base.specs.Scenario.{Scenario, IsScenario}
use Rattle.cpg_cube.specs.Cube.{holds, matches}
use Rattle.cpg_cube.specs.declared.literal.Literal.{Literal}
use Rattle.cpg_cube.specs.Fit.{IsKnown}
use Rattle.cpg_table.specs.Table.{NodeTable, columns_of}
use Rattle.cpg_cube.specs.declared.column.Column.{Column}
use Rattle.cpg_table.specs.Valid.{breaks_activity}
use Rattle.cpg_table.specs.declared.rule.Rule.{Rule}
use Rattle.cpg_violation.specs.Sure.{IsSure}
use Rattle.cpg_violation.specs.Always.{AllAlways, IsUnconditional}
use Rattle.cpg_violation.proofs.SureLaws.{sure_of}

-- a column doesn't break V1 where its item is active and no process of its literals is inactive (`none`)
pub both_active : (item none : Bool) → item ≡ true → none ≡ false → (not item || none) ≡ false
both_active item none e f = ap₂ (λ a b. not a || b) e f

-- as many elements of `xs` as are left from place `at` on are all that are left
rest_of : {T : Type 0} (at : ℕ) (xs : List T) → take (length xs - at) (drop at xs) ≡ drop at xs
rest_of at xs = grind (arith, common_steps)

-- where literals match scenario `s`, those from place `at` on match, too
pub matches_from : (literals : List Literal) (at : ℕ) (s : Scenario) → matches literals s ≡ true →
    matches (take (length literals - at) (drop at literals)) s ≡ true
matches_from literals at s it_matches = subst (λ ls. matches ls s ≡ true) (sym (rest_of at literals))
    (and_parts (matches (take at literals) s) (matches (drop at literals) s)
    (sym (list_all-append (holds s) (take at literals) (drop at literals))
    ∙ ap (list_all (holds s)) (take-append-drop at literals) ∙ it_matches)).1

-- the process of a variable `v` of the graph is one of the graph's: itself if the variable is how it fails, and the
-- process of the condition if it is a condition's value
process_within : (g : Graph) → process_count g ≤ 128 → (v : ℕ) → IsVariable g v →
    process_of_variable g v < process_count g
process_within g few v (inl within) = subst (λ p. p < process_count g) (of_count g v few within) within
process_within g few v (inr r) =
    subst (λ p. p < process_count g) (of_value g v r.0) (process_of_below g (v - 128) (omega (arith, r.0, r.1)))

-- an item
module _ (g : Graph) (tables : List NodeTable) (x : ℕ) where
  -- V1 is sure at an item none of whose columns breaks it where it matches
  pub lawful_sure :
      All (λ (c : Column). (s : Scenario) → IsScenario g s → matches c.cube s ≡ true → breaks_activity g s x c ≡ false)
      (columns_of tables x) →
      IsSure g tables Rule.Activity x
  lawful_sure all = sure_of g tables Rule.Activity x refl
      (λ s c earlier law k m. All-contains (λ (c : Column). (s : Scenario) → IsScenario g s → matches c.cube s ≡ true →
      breaks_activity g s x c ≡ false) (columns_of tables x) c all k s law m)

  -- V1 is sure at an item that is always active, if all processes are and the literals of its columns are on variables
  -- of the graph
  pub always_sure : process_count g ≤ 128 → AllAlways g → All (λ (c : Column). IsKnown g c.cube) (columns_of tables x)
      → IsUnconditional g x → IsSure g tables Rule.Activity x
  always_sure few always known item =
      sure_of g tables Rule.Activity x refl (λ s c earlier law k m. both_active _ _ (item s law)
      (list_any_false (λ (l : Literal). not (active g s.values (process_of_variable g l.variable))) c.cube
      (λ l j. ap not (always (process_of_variable g l.variable)
      (process_within g few l.variable (All-contains (λ (l : Literal). IsVariable g l.variable) c.cube l
      (All-contains (λ (c : Column). IsKnown g c.cube) (columns_of tables x) c known k) j)) s law))))
