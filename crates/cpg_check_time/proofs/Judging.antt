-- A rule that judges each column by itself, at one column after another; and what is known of each column.
use Rattle.std.proofs.Common.{ℕ, ◌+◌, ◌<◌, ◌≤◌, ◌≡◌, true, false, ◌&&◌, List, [], ◌++◌, length, get_or, take, Some}
use Rattle.std.proofs.Common.{None, Contains, All, arith, sym, ap, ◌∙◌, subst, inl, inr, refl, true≢false}
use Rattle.std.specs.List.{list_any}
use Rattle.std.proofs.Math.Bool.{or-false}
use Rattle.std.proofs.lemmas.Bool.{cases_lt}
use Rattle.std.proofs.lemmas.List.{drop_more, drop_all}
use Rattle.std.proofs.lemmas.List.Elements.{All-weaker, All-contains, All-contains_itself, Contains-append_cases}
use Rattle.std.proofs.lemmas.List.Elements.{Contains-append_left, Contains-append_right}
use Rattle.cpg_base.specs.Graph.{Graph, home}
use Rattle.cpg_base.specs.Scenario.{Scenario, IsScenario}
use Rattle.cpg_base.specs.First.{IsFirst}
use Rattle.cpg_base.proofs.First.{first_same}
use Rattle.cpg_cube.specs.Cube.{matches}
use Rattle.cpg_cube.specs.Fit.{IsKnown}
use Rattle.cpg_rules.specs.Admission.{IsAdmitted}
use Rattle.cpg_rules.specs.Guards.{Guards}
use Rattle.cpg_table.specs.Table.{Row, NodeTable, columns_of, table_at}
use Rattle.cpg_cube.specs.declared.column.Column.{Column}
use Rattle.cpg_head.specs.GraphHead.{head_of}
use Rattle.cpg_table.specs.Lawful.{AreTablesOf, IsLawfulRow, IsLawfulColumn, rows_of, space_of}
use Rattle.cpg_table.specs.Valid.{breaks, breaks_at, breaks_rule, breaks_present, asks_for_one}
use Rattle.cpg_table.specs.declared.rule.Rule.{Rule}
use Rattle.cpg_table.specs.declared.rule.Rule.TheVariants.{Single, Present}
use Rattle.cpg_table.proofs.GraphTables.{has_shape}
use Rattle.cpg_table.proofs.Rows.{has_row, row_of, row_columns, home_within}
use Rattle.cpg_violation.specs.Violation.{IsFirstColumn}
use Rattle.cpg_violation.proofs.Violations.{columns_known}
use Rattle.cpg_check_time.specs.Columns.{breaks_column, is_alone, IsColumn}

-- ---- rules that don't ask which columns come before

-- a rule that judges each column by itself isn't V3, so it doesn't ask for a column
never_asks : (rule : Rule) → is_alone rule ≡ true → asks_for_one rule ≡ false
never_asks Present alone = absurd (true≢false (sym alone))
never_asks rule alone = refl

-- the rule isn't V2 either, so what it says of column `c` doesn't depend on the columns before it (`earlier`)
same_rule : (rule : Rule) → is_alone rule ≡ true →
    (g : Graph) (tables : List NodeTable) (s : Scenario) (x : ℕ) (earlier : List Column) (c : Column) →
    breaks_rule rule g tables s x earlier c ≡ breaks_rule rule g tables s x [] c
same_rule Single alone g tables s x earlier c = absurd (true≢false (sym alone))
same_rule rule alone g tables s x earlier c = refl

-- given: such a rule, and an item
module _ (rule : Rule) (alone : is_alone rule ≡ true) (g : Graph) (tables : List NodeTable) (x : ℕ) where
  -- whether column `c` breaks the rule doesn't depend on the columns before it
  pub same_earlier : (earlier : List Column) (c : Column) (s : Scenario) →
      breaks_at rule g tables s x earlier c ≡ breaks_column rule g tables x c s
  same_earlier earlier c s = ap (λ b. matches c.cube s && b) (same_rule rule alone g tables s x earlier c)

  -- the rule is never broken for lack of a column
  pub never_missing : (s : Scenario) → breaks rule g tables s x None ≡ false
  never_missing s = ap (λ b. b && breaks_present g tables s x) (never_asks rule alone)

  -- the rule is broken at place `i` of the row of item `x` exactly if the column there breaks it; the default `d` isn't
  -- read
  pub breaks_here : (i : ℕ) (d : Column) (s : Scenario) → i < length (columns_of tables x) →
      breaks_column rule g tables x (get_or (columns_of tables x) i d) s ≡ breaks rule g tables s x (Some i)
  breaks_here i d s inside =
      sym (same_earlier (take i (columns_of tables x)) (get_or (columns_of tables x) i d) s)
      ∙ sym (or-false (breaks_at rule g tables s x (take i (columns_of tables x)) (get_or (columns_of tables x) i d)))
      ∙ sym (ap (λ rest. list_any (breaks_at rule g tables s x (take i (columns_of tables x))) (take 1 rest))
      (drop_more (columns_of tables x) i d inside))

  -- the rule isn't broken at a place `i` past the last column
  pub breaks_past : (i : ℕ) (s : Scenario) → length (columns_of tables x) ≤ i →
      breaks rule g tables s x (Some i) ≡ false
  breaks_past i s past =
      ap (λ rest. list_any (breaks_at rule g tables s x (take i (columns_of tables x))) (take 1 rest))
      (drop_all i (columns_of tables x) past)

  -- given: a step of a loop over the columns of the item's row, in which `d` is the column at place `i`
  module _ (order : List ℕ) (columns : List Column) (all : columns ≡ columns_of tables x) (i : ℕ) (d : Column)
      (inside : i < length columns) (is : d ≡ get_or columns i d) where
    -- the column breaks the rule exactly where the rule is broken at this place
    place_is : (s : Scenario) → breaks_column rule g tables x d s ≡ breaks rule g tables s x (Some i)
    place_is s = ap (λ c. breaks_column rule g tables x c s) (is ∙ ap (λ cs. get_or cs i d) all)
        ∙ breaks_here i d s (omega (arith, ap length all))

    -- the column at the place is one of the item's
    pub place_there : Contains (columns_of tables x) d
    place_there = subst (λ cs. Contains cs d) all (i, inside, sym is)

    -- if no column before place `i` breaks the rule, the least scenario `s` in which column `d` there does is that of
    -- the first column that does
    pub first_here : (s : Scenario) →
        ((j : ℕ) (t : Scenario) → j < i → IsScenario g t → breaks rule g tables t x (Some j) ≡ false) →
        IsFirst g order (breaks_column rule g tables x d) (Some s)
        → IsFirstColumn g order (λ j t. breaks rule g tables t x (Some j)) (i, s)
    first_here s before first = record {
      least = first_same g order (breaks_column rule g tables x d) (λ t. breaks rule g tables t x (Some i)) (Some s)
          (λ t _. place_is t) first;
      columns = λ j t below lawful. before j t below lawful;
    }

    -- if no column before place `i` breaks the rule, and column `d` there doesn't, none before the next place does
    pub none_here : ((j : ℕ) (t : Scenario) → j < i → IsScenario g t → breaks rule g tables t x (Some j) ≡ false) →
        ((t : Scenario) → IsScenario g t → breaks_column rule g tables x d t ≡ false)
        → (j : ℕ) (t : Scenario) → j < i + 1 → IsScenario g t → breaks rule g tables t x (Some j) ≡ false
    none_here before here j t below lawful = elim (cases_lt j i) [
      | inl lt ↦ before j t lt lawful
      | inr ge ↦ let same : i ≡ j = omega arith in
          subst (λ n. breaks rule g tables t x (Some n) ≡ false) same (sym (place_is t) ∙ here t lawful)
    ]

-- ---- what is known of the columns of an item

-- a row of what a node starts or sends is one of its rows
in_rows_of : (t : NodeTable) (row : Row) → Contains (t.starts ++ t.sends) row → Contains (rows_of t) row
in_rows_of t row member = elim (Contains-append_cases t.starts t.sends row member) [
  | inl in_starts ↦ Contains-append_left t.starts (t.sends ++ t.hears) row in_starts
  | inr in_sends ↦ Contains-append_right t.starts (t.sends ++ t.hears) row
      (Contains-append_left t.sends t.hears row in_sends)
]

-- given: tables of an admitted graph
module _ {g : Graph} {order : List ℕ} {guards : Guards} (admitted : IsAdmitted g order guards) (tables : List NodeTable)
    (are : AreTablesOf (head_of g) tables) where
  -- each column `c` of item `x` is lawful: it is in the item's row at the item's node, and all rows of a node's table
  -- are lawful
  lawful_column : (x : ℕ) (c : Column) → Contains (columns_of tables x) c → IsLawfulColumn (space_of (head_of g)) c
  lawful_column x c member =
      -- the row, at the item's node
      let shape = has_shape g admitted.limits tables are in
      let has = has_row admitted.well_formed shape x c member in
      let node : home g x < length g.nodes = home_within admitted.well_formed shape x has.within in
      let found_row = row_of admitted.well_formed shape (home g x) x node has in
      -- it has the column, and is lawful
      let there : Contains found_row.0.columns c = subst (λ cs. Contains cs c)
      (ap (columns_of tables) (sym found_row.2)
      ∙ row_columns admitted.well_formed shape (home g x) node found_row.0 found_row.1) member in
      let row : IsLawfulRow (space_of (head_of g)) found_row.0 = All-contains (IsLawfulRow (space_of (head_of g)))
      (rows_of (table_at tables (home g x))) found_row.0 (are.each (home g x) node).lawful
      (in_rows_of (table_at tables (home g x)) found_row.0 found_row.1) in
      All-contains (IsLawfulColumn (space_of (head_of g))) found_row.0.columns c row.columns there

  -- each column `c` of item `x` is one as tables of the graph have it
  pub column_is : (x : ℕ) (c : Column) → Contains (columns_of tables x) c → IsColumn g c
  column_is x c member =
      let lawful = lawful_column x c member in
      record {
        cube = record {
          rising = lawful.rising;
          known = All-contains (λ (c : Column). IsKnown g c.cube) (columns_of tables x) c
              (columns_known admitted tables are x) member;
        };
        early = lawful.time;
      }

  -- all columns of an item are such as tables of the graph have them
  pub columns_are : (x : ℕ) → All (IsColumn g) (columns_of tables x)
  columns_are x = All-weaker (Contains (columns_of tables x)) (IsColumn g) (column_is x) (columns_of tables x)
      (All-contains_itself (columns_of tables x))
