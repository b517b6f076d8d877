-- The least scenario in which an item breaks V3: it is active, and none of its columns matches. From what guards say of
-- a process, from the source of an edge and the cube of its value, and from what makes the item active.
use Rattle.std.proofs.Common.{ℕ, zero, suc, ◌∷◌, All, ◌+◌, ◌<◌, ◌≡◌, Bool, true, false, not, ◌&&◌, List, [], map}
use Rattle.std.proofs.Common.{Option, Some, None, arith, refl, sym, ap, ◌∙◌, subst, inl, inr}
use Rattle.std.specs.Prelude.{IfOk, Result, take, drop}
use Rattle.std.proofs.lemmas.Result.{IfOk-weaker}
use Rattle.std.specs.List.{list_any}
use Rattle.std.proofs.lemmas.Bool.{and_right, cases_lt}
use Rattle.cpg_base.specs.Graph.{Graph, process_count, edge_count, item_at, source, edge_at, condition_of}
use Rattle.cpg_base.specs.Activity.{active, is_active, live, item_active}
use Rattle.cpg_base.proofs.Lists.{list_any_false}
use Rattle.cpg_base.specs.Scenario.{Scenario, IsScenario}
use Rattle.cpg_base.specs.First.{IsFirst}
use Rattle.cpg_base.proofs.First.{first_same}
use Rattle.cpg_rules.specs.Guards.{Guards, is_passed, test_of, tree_of}
use Rattle.cpg_cube.specs.Cube.{matches}
use Rattle.cpg_cube.specs.declared.literal.Literal.{Literal}
use Rattle.cpg_cover.specs.Cover.{is_left}
use Rattle.cpg_cube.proofs.Mapped.{any_map}
use Rattle.cpg_rules.specs.Admission.{IsAdmitted}
use Rattle.cpg_table.specs.Table.{NodeTable, columns_of}
use Rattle.cpg_cube.specs.declared.column.Column.{Column}
use Rattle.cpg_table.specs.Valid.{breaks, breaks_at}
use Rattle.cpg_table.specs.declared.rule.Rule.{Rule}
use Rattle.cpg_check_rows.specs.Present.{has_none, is_absent}
use Rattle.cpg_violation.specs.Sources.{is_active_by}
use Rattle.cpg_violation.specs.declared.sources.ItemSource.{ItemSource}
use Rattle.cpg_violation.specs.Activity.{comes_to}
use Rattle.cpg_violation.proofs.LiveEdges.{live_tested}

-- of three tests that all have to pass, the last, `a`, may be asked first
turned : (a m n : Bool) → ((m && n) && a) ≡ ((a && m) && n)
turned true true true = refl
turned true true false = refl
turned true false n = refl
turned false true true = refl
turned false true false = refl
turned false false n = refl

-- columns, and scenarios by an order of processes
module _ (g : Graph) (order : List ℕ) (columns : List Column) where
  -- if test `b` passes just where process `p` is active and a cube matches, the least scenario that the columns leave
  -- of the cube and in which the process is active is the least in which `b` passes and no column matches
  pub absent_from : (b : Scenario → Bool) (p : ℕ) (cube : List Literal) →
      ((s : Scenario) → IsScenario g s → b s ≡ (active g s.values p && matches cube s)) →
      (o : Option Scenario)
      → IsFirst g order (λ s. is_left (map (λ (c : Column). c.cube) columns) cube s && active g s.values p) o →
      IsFirst g order (λ s. b s && has_none columns s) o
  absent_from b p cube is o is_first =
      first_same g order (λ s. is_left (map (λ (c : Column). c.cube) columns) cube s && active g s.values p)
      (λ s. b s && has_none columns s) o
      (λ s i. ap (λ n. (matches cube s && not n) && active g s.values p)
      (any_map (λ b. matches b s) (λ (c : Column). c.cube) columns)
      ∙ turned (active g s.values p) (matches cube s) (not (list_any (λ (d : Column). matches d.cube s) columns))
      ∙ ap (λ a. a && not (list_any (λ (d : Column). matches d.cube s) columns)) (sym (is s i))) is_first

  -- if item `x` is active just when its source says so, what is answered of the source is an answer for the item
  pub absent_as : {E : Type 0} (x : ℕ) (source : ItemSource) →
      ((values : List Bool) → item_active g values (item_at g x) ≡ is_active_by g values source) →
      (r : Result (Option Scenario) E)
      → IfOk r (IsFirst g order (λ s. is_active_by g s.values source && has_none columns s)) →
      IfOk r (IsFirst g order (is_absent g columns x))
  absent_as x source is r =
      let by_source = λ (s : Scenario). is_active_by g s.values source && has_none columns s in
      IfOk-weaker r (IsFirst g order by_source) (IsFirst g order (is_absent g columns x))
      (λ o. first_same g order by_source (is_absent g columns x) o
      (λ s i. ap (λ a. a && has_none columns s) (sym (is s.values))))

  -- an item that is never active breaks V3 in no scenario
  pub absent_never : (x : ℕ) → ((values : List Bool) → item_active g values (item_at g x) ≡ false) →
      IsFirst g order (is_absent g columns x) None
  absent_never x off = λ s i. ap (λ a. a && has_none columns s) (off s.values)

-- edge `e` is live just where its source is active and a cube matches, if the cube matches just where the source has
-- the value that the edge asks for
pub live_where : {g : Graph} {order : List ℕ} {guards : Guards} → IsAdmitted g order guards → (s : Scenario) →
    IsScenario g s → (e : ℕ) → e < edge_count g →
    (cube : List Literal)
    → matches cube s ≡ is_passed (test_of (condition_of g (source g e)) (edge_at g e).when) s.values
    → live g s.values e ≡ (active g s.values (source g e) && matches cube s)
live_where {g} {order} {guards} a s lawful e within cube is =
    live_tested g order a.topological guards a.guards s.values lawful.values e within
    ∙ ap (λ t. active g s.values (source g e) && t) (sym is)

-- if no item below `x` breaks V3 and `x` doesn't, none below `x + 1` does: at a column of `x` it is never broken, as V3
-- asks only whether some column matches
pub present_more : (g : Graph) (tables : List NodeTable) (x : ℕ) →
    ((y : ℕ) (column : Option ℕ) (s : Scenario) → y < x → IsScenario g s →
    breaks Rule.Present g tables s y column ≡ false)
    → ((s : Scenario) → IsScenario g s → is_absent g (columns_of tables x) x s ≡ false)
    → (y : ℕ) (column : Option ℕ) (s : Scenario) → y < x + 1 → IsScenario g s →
    breaks Rule.Present g tables s y column ≡ false
present_more g tables x before here y column s less lawful = elim (cases_lt y x) [
  | inl lt ↦ before y column s lt lawful
  | inr ge ↦ let same : x ≡ y = omega arith in
      subst (λ z. breaks Rule.Present g tables s z column ≡ false) same (at_item column)
]
  where
    -- `x` breaks V3 neither for lack of a column nor at one
    at_item : (column : Option ℕ) → breaks Rule.Present g tables s x column ≡ false
    at_item None = here s lawful
    at_item (Some k) = list_any_false (breaks_at Rule.Present g tables s x (take k (columns_of tables x)))
        (take 1 (drop k (columns_of tables x))) (λ c _. and_right (matches c.cube s) false refl)

-- if `P` holds of `f x` for each element `x` of `xs`, it holds of all elements of the list that `f` makes of them
pub all_mapped : {X Y : Type 0} (P : Y → Type 0) (f : X → Y) (xs : List X) → All (λ x. P (f x)) xs → All P (map f xs)
all_mapped P f [] all k d l = absurd (omega arith)
all_mapped P f (x ∷ xs) all zero d l = all 0 x (omega arith)
all_mapped P f (x ∷ xs) all (suc k) d l = all_mapped P f xs (λ j e m. all (suc j) e (omega arith)) k d (omega arith)

-- the least scenario that cubes leave of a cube and in which the guard of process `p` says active is the least that
-- they leave of it and in which the process is active
pub active_found : {g : Graph} {order : List ℕ} {guards : Guards} → IsAdmitted g order guards →
    (by : List (List Literal)) (cube : List Literal) (p : ℕ) → p < process_count g →
    (o : Option Scenario)
    → IsFirst g order (λ s. is_left by cube s && comes_to (tree_of guards p) true s) o →
    IsFirst g order (λ s. is_left by cube s && active g s.values p) o
active_found {g} {order} {guards} a by cube p within o is_first = first_same g order
    (λ s. is_left by cube s && comes_to (tree_of guards p) true s) (λ s. is_left by cube s && active g s.values p) o
    (λ s i. ap (λ b. is_left by cube s && is_active b) ((a.guards.trees p within).is s.values i.values)) is_first
