-- If what the row of an item carries in one scenario holds in another, the item is active there too, at the same time, and its row
-- carries the same.
use Rattle.std.proofs.Common.{ℕ, ◌<◌, ◌≡◌, true, false, List, [], ◌∷◌, length, map, filter, flat_map, get_or, Contains}
use Rattle.std.proofs.Common.{Option, Some, None, option_to_list, append-nil, arith, refl, sym, ap, ◌∙◌}
use Rattle.std.proofs.Common.{subst, inl, inr}
use Rattle.std.proofs.lemmas.Bool.{cond-false}
use Rattle.cpg_base.specs.Graph.{Graph, item_count, item_at}
use Rattle.cpg_base.specs.Activity.{item_active}
use Rattle.cpg_base.proofs.Lists.{Contains-first, Contains-cases, Contains-nil, Contains-map, Contains-filter}
use Rattle.cpg_base.proofs.Lists.{Contains-filter_parts, in_option}
use Rattle.cpg_base.specs.Scenario.{Scenario, IsScenario}
use Rattle.cpg_cube.specs.Cube.{matches}
use Rattle.cpg_cube.specs.declared.column.Column.{Column}
use Rattle.cpg_run.specs.Run.{Times, IsRun, time_in}
use Rattle.cpg_run.proofs.Runs.{time_is, has_time, time_parts}
use Rattle.cpg_run.specs.Carried.{row_at, carried_by_row}
use Rattle.cpg_run.specs.RowLaws.{HaveTimesOf}

-- a list that is mapped to one number has one element, which is mapped to that number
pub one_of_map : {X : Type 0} (f : X → ℕ) (xs : List X) (z : ℕ) → map f xs ≡ z ∷ [] →
    (x : X) × (xs ≡ x ∷ []) × (f x ≡ z)
one_of_map f [] z is = absurd (omega (arith, ap length is))
one_of_map f (x ∷ []) z is = (x, refl, ap (λ (ns : List ℕ). get_or ns 0 z) is)
one_of_map f (x ∷ y ∷ xs) z is = absurd (omega (arith, ap length is))

-- a list that is mapped to nothing is empty
none_of_map : {X : Type 0} (f : X → ℕ) (xs : List X) → map f xs ≡ [] → xs ≡ []
none_of_map f [] is = refl
none_of_map f (x ∷ xs) is = absurd (omega (arith, ap length is))

-- what is in a list of one element is that element
pub only_one : {X : Type 0} (x y : X) → Contains (x ∷ []) y → x ≡ y
only_one x y among = elim (Contains-cases x [] y among) [
  | inl is_head ↦ is_head
  | inr none ↦ absurd (Contains-nil y none)
]

-- the columns in the row of item y that match the scenario
matching_in : List (List Column) → Scenario → ℕ → List Column
matching_in rows s y = filter (λ (c : Column). matches c.cube s) (row_at rows y)

-- given: a row with the times of the runs
-- `times`: in each scenario the columns of y's row that match have the time of the run, and none matches if it has
-- none.
module _ (g : Graph) (order : List ℕ) (frozen : List (Option ℕ)) (rows : List (List Column)) (y : ℕ)
    (l : y < item_count g) (times : HaveTimesOf g order frozen y (row_at rows y)) where
  -- the row of an inactive item carries nothing, as no column of it matches
  pub tells_nothing : (s : Scenario) → IsScenario g s → (t : Times) → IsRun g order frozen s t →
      item_active g s.values (item_at g y) ≡ false →
      carried_by_row rows s y ≡ []
  unfolding matching_in
  tells_nothing s law t run off =
      ap (flat_map (λ (c : Column). c.cube)) (none_of_map (λ (c : Column). c.time) (matching_in rows s y)
      (times s t law run ∙ ap option_to_list (time_is g order frozen s t run y l ∙ cond-false _ _ _ off)))

  -- exactly one column in the row of y matches s; it has the time of the run, and its literals are what the row carries
  pub record Match (s : Scenario) (t : Times) : Type 0 where
    pub column : Column
    -- no other column of the row matches s
    pub only : filter (λ (c : Column). matches c.cube s) (row_at rows y) ≡ column ∷ []
    -- it has the time of the run
    pub time : column.time ≡ time_in t y
    -- it is a column of the row
    pub stands : Contains (row_at rows y) column
    -- it matches the scenario
    pub matched : matches column.cube s ≡ true
    -- the row carries its literals
    pub tells : carried_by_row rows s y ≡ column.cube

  -- the row of an active item has such a column
  pub the_match : (s : Scenario) → IsScenario g s → (t : Times) → IsRun g order frozen s t →
      item_active g s.values (item_at g y) ≡ true → Match s t
  unfolding matching_in
  the_match s law t run on =
      let only_column = one_of_map (λ (c : Column). c.time) (matching_in rows s y) (time_in t y)
      (times s t law run ∙ ap option_to_list (has_time g order frozen s t run y l on)) in
      let column_parts = Contains-filter_parts (λ (c : Column). matches c.cube s) (row_at rows y) only_column.0
      (subst (λ cs. Contains cs only_column.0) (sym only_column.1) (Contains-first only_column.0 [])) in
      record {
        column = only_column.0;
        only = only_column.1;
        time = only_column.2;
        stands = column_parts.0;
        matched = column_parts.1;
        tells = ap (flat_map (λ (c : Column). c.cube)) only_column.1 ∙ append-nil only_column.0.cube;
      }

  -- given: the scenarios s and u with their runs t and w
  module _ (s u : Scenario) (lawful_s : IsScenario g s) (lawful_u : IsScenario g u)
      (t w : Times) (run : IsRun g order frozen s t)
      (other : IsRun g order frozen u w) where
    -- item y is active in u too, at the same time as in s, and its row tells the same
    pub record SameTold : Type 0 where
      -- the item is active in u
      pub acts : item_active g u.values (item_at g y) ≡ true
      -- it has the same time in both runs
      pub time : get_or t.times y None ≡ get_or w.times y None
      -- its row carries the same in both scenarios
      pub tells : carried_by_row rows u y ≡ carried_by_row rows s y

    -- This is so if what the row tells in s holds in u. The column that matches in s then matches in u too, and as only one
    -- does, it is the one there, with the same time and literals.
    pub told_alike : item_active g s.values (item_at g y) ≡ true → matches (carried_by_row rows s y) u ≡ true → SameTold
    told_alike on told_holds =
        let match_s = the_match s lawful_s t run on in
        let c : Column = match_s.column in
        let matched : matches c.cube u ≡ true = subst (λ ls. matches ls u ≡ true) match_s.tells told_holds in
        let there : Contains (filter (λ (c : Column). matches c.cube u) (row_at rows y)) c =
        Contains-filter (λ (c : Column). matches c.cube u) (row_at rows y) c matched match_s.stands in
        let found : get_or w.times y None ≡ Some c.time = in_option (get_or w.times y None) c.time
        (subst (λ ns. Contains ns c.time) (times u w lawful_u other)
        (Contains-map (λ (c : Column). c.time) _ c there)) in
        let acts = (time_parts g order frozen u w other y c.time found).1 in
        let match_u = the_match u lawful_u w other acts in
        let same : match_u.column ≡ c = only_one match_u.column c (subst (λ cs. Contains cs c) match_u.only there) in
        record {
          acts = acts;
          time = has_time g order frozen s t run y l on ∙ ap (λ k. Some k) (sym match_s.time) ∙ sym found;
          tells = match_u.tells ∙ ap (λ (c : Column). c.cube) same ∙ sym match_s.tells;
        }
