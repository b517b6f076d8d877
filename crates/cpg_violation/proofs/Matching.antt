-- What V1 to V3 say of columns that match: if one does, its item and the processes of its literals are active, and an
-- active item has one.
use Rattle.std.proofs.Common.{ℕ, ◌<◌, ◌≡◌, true, false, not, ◌||◌, List, length, get_or, take, Contains, None, Some}
use Rattle.std.proofs.Common.{sym, ap, ◌∙◌}
use Rattle.std.specs.List.{list_any}
use Rattle.std.proofs.lemmas.Bool.{or_parts, not-false}
use Rattle.std.proofs.lemmas.List.{drop_more}
use Rattle.cpg_base.specs.Graph.{Graph, item_at, item_count, process_of_variable}
use Rattle.cpg_base.specs.Activity.{active, item_active}
use Rattle.cpg_base.proofs.Lists.{list_any_parts, from_any_false}
use Rattle.cpg_base.specs.Scenario.{Scenario, IsScenario}
use Rattle.cpg_cube.specs.Cube.{matches}
use Rattle.cpg_cube.specs.declared.literal.Literal.{Literal}
use Rattle.cpg_table.specs.Table.{NodeTable, columns_of}
use Rattle.cpg_cube.specs.declared.column.Column.{Column}
use Rattle.cpg_table.specs.Valid.{breaks_at, breaks_rule}
use Rattle.cpg_table.specs.declared.rule.Rule.{Rule}
use Rattle.cpg_table.proofs.Settings.{second_false}
use Rattle.cpg_violation.specs.Sure.{IsSure}
use Rattle.cpg_violation.specs.Violation.{AllHold, Holds, row_rules}

-- given: a scenario, and an item of the graph
module _ (g : Graph) (tables : List NodeTable) (s : Scenario) (lawful : IsScenario g s) (x : ℕ)
    (is_item : x < item_count g) where
  -- if a rule is sure at the item, no column of the item's row that matches, at a place `i`, breaks it; the default `d`
  -- isn't read
  pub sure_rule : (rule : Rule) → IsSure g tables rule x → (i : ℕ) (d : Column) → i < length (columns_of tables x) →
      matches (get_or (columns_of tables x) i d).cube s ≡ true
      → breaks_rule rule g tables s x (take i (columns_of tables x)) (get_or (columns_of tables x) i d) ≡ false
  sure_rule rule sure i d inside matched =
      let here : (breaks_at rule g tables s x (take i (columns_of tables x)) (get_or (columns_of tables x) i d)
      || false) ≡ false =
      sym (ap (λ rest. list_any (breaks_at rule g tables s x (take i (columns_of tables x))) (take 1 rest))
      (drop_more (columns_of tables x) i d inside)) ∙ sure (Some i) s lawful in
      second_false _ _ matched (or_parts _ _ here).0

  -- a `rule` that holds isn't broken at column `i` of the item, if that matches
  pub at_rule : (rule : Rule) → Holds g tables rule → (i : ℕ) (d : Column) → i < length (columns_of tables x) →
      matches (get_or (columns_of tables x) i d).cube s ≡ true
      → breaks_rule rule g tables s x (take i (columns_of tables x)) (get_or (columns_of tables x) i d) ≡ false
  at_rule rule holds i d inside matched =
      sure_rule rule (λ column t t_lawful. holds x column t t_lawful is_item) i d inside matched

  -- given: the tables keep V1 to V3
  module _ (rules : AllHold g tables row_rules) where
    -- by V1, the item of a column that matches is active
    pub active_where : (d : Column) → Contains (columns_of tables x) d → matches d.cube s ≡ true →
        item_active g s.values (item_at g x) ≡ true
    active_where d member matched = not-false _
        (or_parts _ _ (at_rule Rule.Activity rules.0 member.0 d member.1
        (ap (λ (c : Column). matches c.cube s) member.2 ∙ matched))).0

    -- by V1, the process of each literal `l` of a column `d` that matches is active
    pub literal_active : (d : Column) → Contains (columns_of tables x) d → matches d.cube s ≡ true → (l : Literal) →
        Contains d.cube l →
        active g s.values (process_of_variable g l.variable) ≡ true
    literal_active d d_in matched l l_in =
        let at = ap (λ (c : Column). matches c.cube s) d_in.2 ∙ matched in
        let none = (or_parts _ _ (at_rule Rule.Activity rules.0 d_in.0 d d_in.1 at)).1 in
        not-false _
        (from_any_false (λ (l : Literal). not (active g s.values (process_of_variable g l.variable))) d.cube l
        (sym (ap (λ (c : Column). list_any (λ (l : Literal). not (active g s.values (process_of_variable g l.variable)))
        c.cube) d_in.2) ∙ none) l_in)

    -- by V3, an active item has a column that matches
    pub match_where : item_active g s.values (item_at g x) ≡ true →
        (d : Column) × Contains (columns_of tables x) d × (matches d.cube s ≡ true)
    match_where active = list_any_parts (λ (d : Column). matches d.cube s) (columns_of tables x)
        (not-false _ (second_false _ _ active (rules.1.1.0 x None s lawful is_item)))
