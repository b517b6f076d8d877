-- A scenario gives a log exactly if it matches none of the excluded cubes, of columns at times that the log excludes, and
-- none of the idle ones, of scenarios in which a logged item is inactive. The step between is `Fits`: a scenario gives
-- the log just if no column that matches has an excluded time and each logged item is active. The last part turns to
-- the least scenario.
use Rattle.std.proofs.Common.{ℕ, suc, ◌≤◌, ◌≡◌, ◌≢◌, ◌==◌, Bool, true, false, not, List, [], ◌∷◌, ◌++◌, map, filter}
use Rattle.std.proofs.Common.{Option, Some, None, IfSome, IfNone, All, AllPairs, Contains, arith, refl, sym, ap}
use Rattle.std.proofs.Common.{◌∙◌, subst, inl, inr, eq-eqb, eqb-true, ne_eqb, true≢false}
use Rattle.std.specs.Prelude.{nat_le}
use Rattle.std.specs.List.{list_any, flat_map}
use Rattle.std.proofs.lemmas.Bool.{cases_eq, cond-true, cond-false, false_from_ne_true, leb-true, le-leb, not-false}
use Rattle.std.proofs.lemmas.List.Elements.{All-append, All-contains, All-filter, All-map, Contains-append_cases}
use Rattle.std.proofs.lemmas.List.Elements.{Contains-append_left, Contains-append_right}
use Rattle.std.proofs.lemmas.Option.{none-some, same_Some}
use Rattle.cpg_base.specs.Numbers.{numbers_below}
use Rattle.cpg_base.specs.Graph.{Graph, item_at, item_count}
use Rattle.cpg_base.specs.Activity.{item_active}
use Rattle.cpg_base.proofs.Lists.{Contains-first, Contains-rest, Contains-cases, Contains-nil, Contains-map}
use Rattle.cpg_base.proofs.Lists.{Contains-map_parts, Contains-filter, Contains-filter_parts, Contains-flat_map}
use Rattle.cpg_base.proofs.Lists.{Contains-flat_map_parts, Contains-numbers, list_any_false, from_any_false}
use Rattle.cpg_base.proofs.Lists.{slice_get-Contains}
use Rattle.cpg_base.specs.Scenario.{Scenario, IsScenario, IsLeast}
use Rattle.cpg_base.specs.First.{IsFirst}
use Rattle.cpg_cube.specs.Cube.{matches}
use Rattle.cpg_cover.specs.Cover.{is_left}
use Rattle.cpg_cube.specs.Fit.{IsKnown}
use Rattle.cpg_cube.specs.declared.literal.Literal.{Literal}
use Rattle.cpg_cube.proofs.Mapped.{any_map}
use Rattle.cpg_table.specs.Table.{NodeTable, columns_of}
use Rattle.cpg_cube.specs.declared.column.Column.{Column}
use Rattle.cpg_table.proofs.Rows.{has_row}
use Rattle.cpg_table.proofs.Settings.{Setting, Match, item_within, match_once, match_active, match_there}
use Rattle.cpg_node.specs.Dispatcher.{Act}
use Rattle.cpg_cluster.specs.Correct.{all_asked}
use Rattle.cpg_cluster.proofs.Asked.{asked_match, all_asked_in, all_asked_parts}
use Rattle.cpg_audit.specs.Excluded.{is_excluded, excluded_of, is_some_idle}
use Rattle.cpg_audit.specs.Gives.{Gives, logged}
use Rattle.cpg_log.specs.Log.{Log, IsLog, IsActBy, logged_time}
use Rattle.cpg_log.specs.declared.log.Logged.{Logged}
use Rattle.cpg_log.proofs.TextLaws.{act_within}

-- ---- when an item is logged

-- a logged act is its time and its item
same_logged : (l : Logged) (time item : ℕ) → l.time ≡ time → l.item ≡ item → l ≡ record { time = time; item = item }
same_logged l time item p q = λ i. record { time = p i; item = q i }

-- in a log that names each item once, the time found for a logged act's item is the act's; by induction on `ls`
pub logged_at : (ls : List Logged) → AllPairs (λ (a b : Logged). a.item ≢ b.item) ls → (l : Logged) → Contains ls l →
    logged_time ls l.item ≡ Some l.time
logged_at [] pairs l there = absurd (Contains-nil l there)
logged_at (m ∷ ls) pairs l there = elim (Contains-cases m ls l there) [
  | inl e ↦ cond-true (m.item == l.item) (Some m.time) (logged_time ls l.item)
      (eq-eqb m.item l.item (ap (λ (z : Logged). z.item) e)) ∙ ap (λ (z : Logged). Some z.time) e
  | inr r ↦ cond-false (m.item == l.item) (Some m.time) (logged_time ls l.item)
      (ne_eqb m.item l.item (λ same.
      pairs 0 (suc r.0) l (omega arith) (omega (arith, r.1)) (same ∙ sym (ap (λ (z : Logged). z.item) r.2))))
      ∙ logged_at ls (λ i j d a b. pairs (suc i) (suc j) d (omega arith) (omega arith)) l r
]

-- if a time is found for an item, the log names the item with that time; by induction on `ls`
pub logged_in : (ls : List Logged) (x time : ℕ) → logged_time ls x ≡ Some time →
    Contains ls (record { time = time; item = x })
logged_in [] x time is = absurd (none-some time is)
logged_in (m ∷ ls) x time same = elim (cases_eq m.item x) [
  | inl is ↦ subst (Contains (m ∷ ls)) (same_logged m time x (same_Some m.time time
      (sym (cond-true (m.item == x) (Some m.time) (logged_time ls x) (eq-eqb m.item x is)) ∙ same)) is)
      (Contains-first m ls)
  | inr other ↦ Contains-rest m ls (record { time = time; item = x }) (logged_in ls x time
      (sym (cond-false (m.item == x) (Some m.time) (logged_time ls x) (ne_eqb m.item x other)) ∙ same))
]

-- ---- the acts that are due, and the columns that match

-- in scenario `s` no column that matches has a time that the log excludes, and each logged item is active
pub record Fits (g : Graph) (tables : List NodeTable) (log : Log) (s : Scenario) : Type 0 where
  -- no column that matches has a time that the log excludes
  pub times : (x : ℕ) (c : Column) → Match tables s x c → is_excluded log.until (logged_time log.acts x) c.time ≡ false
  -- each logged item is active
  pub active : (l : Logged) → Contains log.acts l → item_active g s.values (item_at g l.item) ≡ true

-- a scenario in which at most one column of each item of the tables matches, and one exactly if the item is active; and
-- a log
module _ {g : Graph} {tables : List NodeTable} {s : Scenario} (setting : Setting g tables s) (log : Log)
    (is : IsLog g log) where
  -- if column `c` of item `x` matches, an act of `x` is due at its time
  act_of : (x : ℕ) (c : Column) → Match tables s x c →
      (a : Act) × Contains (all_asked g tables s) a × (a.time ≡ c.time) × (a.item ≡ x)
  act_of x c matching =
      let place = slice_get-Contains (columns_of tables x) c matching.there in
      let own_act : Act = record { time = c.time; item = x; column = place.0 } in (
        own_act,
        all_asked_in setting own_act
            (record {
              row = has_row setting.formed setting.shape x c matching.there;
              column = c;
              at = place.1;
              holds = matching.holds;
              time = refl;
            }),
        refl,
        refl,
      )

  -- for an act `a` that is due in scenario `s`, a column `c` of its item matches, and has its time
  match_of : (a : Act) → Contains (all_asked g tables s) a → (c : Column) × Match tables s a.item c × (c.time ≡ a.time)
  match_of a is_due = let asked = all_asked_parts setting a is_due in (asked.column, asked_match asked, asked.time)

  -- if scenario `s` gives the log, a column `c` matches for each logged act `l`, with its item and time
  match_due : Gives g tables log s → (l : Logged) → Contains log.acts l →
      (c : Column) × Match tables s l.item c × (c.time ≡ l.time)
  match_due gives l there =
      let due = gives.due l there in
      let matching = match_of due.0 due.1 in (
        matching.0,
        subst (λ x. Match tables s x matching.0) (ap (λ (z : Logged). z.item) due.2) matching.1,
        matching.2 ∙ ap (λ (z : Logged). z.time) due.2,
      )

  -- a scenario that gives the log fits it
  pub gives_fits : Gives g tables log s → Fits g tables log s
  gives_fits gives = record {
    times = λ x c it_matches. times x c it_matches (logged_time log.acts x) refl;
    active = λ l there. let matching = match_due gives l there in match_active setting l.item matching.0 matching.1;
  }
    where
      -- The time of column `c` of item `x`, which matches, isn't excluded. If the item isn't logged, the time is after
      -- the log's end, since the log names each act that is due by then. If it is logged, the logged act is of this
      -- column, as no other of the item matches, so the time is the logged one.
      times : (x : ℕ) (c : Column) → Match tables s x c → (o : Option ℕ) → logged_time log.acts x ≡ o →
          is_excluded log.until o c.time ≡ false
      times x c it_matches None same = false_from_ne_true (nat_le c.time log.until) (λ early.
          let own_act = act_of x c it_matches in
          let named = gives.named own_act.0 own_act.1 (omega (arith, own_act.2, leb-true c.time log.until early)) in
          none-some own_act.0.time
          (sym same ∙ ap (logged_time log.acts) (sym own_act.3) ∙ logged_at log.acts is.apart (logged own_act.0) named))
      times x c it_matches (Some time) is_logged =
          let there = logged_in log.acts x time is_logged in
          let logged_column = match_due gives (record { time = time; item = x }) there in
          ap not (eq-eqb c.time time
          (ap (λ (z : Column). z.time) (match_once setting x c logged_column.0 it_matches logged_column.1)
          ∙ logged_column.2))

  -- a scenario that fits the log gives it. `due`: a logged item is active, so a column of it matches, and the time of
  -- that one isn't excluded, so it is the logged one
  pub fits_gives : Fits g tables log s → Gives g tables log s
  fits_gives fits = record {
    named = λ a is_due early.
        let matching = match_of a is_due in
        subst (Contains log.acts) (sym (same_logged (logged a) (logged a).time (logged a).item refl refl))
        (named a matching.0 (logged_time log.acts a.item) refl
        (fits.times a.item matching.0 matching.1) matching.2 early);
    due = λ l there.
        let act = All-contains (IsActBy g log.until) log.acts l is.acts there in
        let matching = match_there setting l.item (act_within g l.item act.item) (fits.active l there) in
        let own_act = act_of l.item matching.0 matching.1 in
        let same : matching.0.time ≡ l.time = eqb-true matching.0.time l.time
        (not-false (matching.0.time == l.time) (subst (λ o. is_excluded log.until o matching.0.time ≡ false)
        (logged_at log.acts is.apart l there) (fits.times l.item matching.0 matching.1))) in
        (own_act.0, own_act.1, same_logged (logged own_act.0) l.time l.item (own_act.2 ∙ same) own_act.3);
  }
    where
      -- an act `a` that is due by the log's end, at the time of column `c`, which isn't excluded, is logged: were its
      -- item not, the log would exclude the time; so it is logged, at just this time
      named : (a : Act) (c : Column) (o : Option ℕ) → logged_time log.acts a.item ≡ o →
          is_excluded log.until (logged_time log.acts a.item) c.time ≡ false → c.time ≡ a.time →
          a.time ≤ log.until →
          Contains log.acts (logged a)
      named a c None e fails same early = absurd (true≢false (sym (le-leb c.time log.until (omega (arith, same, early)))
          ∙ subst (λ o. is_excluded log.until o c.time ≡ false) e fails))
      named a c (Some time) equal fails same early =
          let at : c.time ≡ time = eqb-true c.time time
          (not-false (c.time == time) (subst (λ o. is_excluded log.until o c.time ≡ false) equal fails)) in
          subst (Contains log.acts) (sym (same_logged (logged a) time a.item (sym same ∙ at) refl))
          (logged_in log.acts a.item time equal)

  -- ---- the cubes

  -- columns one of which matches just if some logged item is inactive
  module _ (idle : List Column)
      (told : list_any (λ (c : Column). matches c.cube s) idle ≡ is_some_idle g log.acts s) where
    -- a scenario that fits the log matches no excluded cube, and none of the idle columns' cubes
    pub fits_left : Fits g tables log s →
        list_any (λ b. matches b s)
        (flat_map (excluded_of tables log) (numbers_below (item_count g)) ++ map (λ (c : Column). c.cube) idle) ≡ false
    fits_left fits = list_any_false (λ b. matches b s)
        (flat_map (excluded_of tables log) (numbers_below (item_count g))
        ++ map (λ (c : Column). c.cube) idle) (λ b there.
        elim (Contains-append_cases (flat_map (excluded_of tables log) (numbers_below (item_count g)))
        (map (λ (c : Column). c.cube) idle) b there) [
          | inl among ↦ of_column b among
          | inr among ↦ of_idle b among
        ])
      where
        -- no excluded cube matches: it is that of a column whose time the log excludes
        of_column : (b : List Literal) → Contains (flat_map (excluded_of tables log) (numbers_below (item_count g))) b →
            matches b s ≡ false
        of_column b there = false_from_ne_true (matches b s) (λ it_matches.
            let item = Contains-flat_map_parts (excluded_of tables log) (numbers_below (item_count g)) b there in
            let column = Contains-map_parts (λ (c : Column). c.cube)
            (filter (λ (c : Column). is_excluded log.until (logged_time log.acts item.0) c.time)
            (columns_of tables item.0)) b item.2 in
            let kept = Contains-filter_parts
            (λ (c : Column). is_excluded log.until (logged_time log.acts item.0) c.time)
            (columns_of tables item.0) column.0 column.1 in
            true≢false (sym kept.1 ∙ fits.times item.0 column.0
            (record {
              there = kept.0;
              holds = subst (λ (ls : List Literal). matches ls s ≡ true)
                  (sym column.2) it_matches;
            })))

        -- no logged item is inactive
        none_idle : is_some_idle g log.acts s ≡ false
        none_idle = list_any_false (λ (l : Logged). not (item_active g s.values (item_at g l.item))) log.acts
            (λ l c. ap not (fits.active l c))

        -- so no idle column's cube matches
        of_idle : (b : List Literal) → Contains (map (λ (c : Column). c.cube) idle) b → matches b s ≡ false
        of_idle b there = from_any_false (λ b. matches b s) (map (λ (c : Column). c.cube) idle) b
            (any_map (λ b. matches b s) (λ (c : Column). c.cube) idle ∙ told ∙ none_idle) there

    -- a scenario that matches none of these cubes fits the log
    pub left_fits : list_any (λ b. matches b s) (flat_map (excluded_of tables log) (numbers_below (item_count g))
        ++ map (λ (c : Column). c.cube) idle) ≡ false →
        Fits g tables log s
    left_fits none = record {
      -- if a column that matches had an excluded time, its cube would be one of these
      times = λ x c m. false_from_ne_true (is_excluded log.until (logged_time log.acts x) c.time) (λ holds.
          true≢false (sym m.holds ∙ from_any_false (λ b. matches b s) (flat_map (excluded_of tables log)
          (numbers_below (item_count g)) ++ map (λ (c : Column). c.cube) idle) c.cube none
          (Contains-append_left (flat_map (excluded_of tables log) (numbers_below (item_count g)))
          (map (λ (c : Column). c.cube) idle) c.cube
          (Contains-flat_map (excluded_of tables log) (numbers_below (item_count g)) x c.cube
          (Contains-numbers (item_count g) x (item_within setting x c m.there))
          (Contains-map (λ (c : Column). c.cube)
          (filter (λ (c : Column). is_excluded log.until (logged_time log.acts x) c.time) (columns_of tables x)) c
          (Contains-filter (λ (c : Column). is_excluded log.until (logged_time log.acts x) c.time)
          (columns_of tables x) c holds m.there))))));
      -- none of the idle columns matches, so each logged item is active
      active = λ l there. not-false (item_active g s.values (item_at g l.item)) (from_any_false
          (λ (l : Logged). not (item_active g s.values (item_at g l.item))) log.acts l (sym told ∙ none_idle) there);
    }
      where
        -- no idle column matches
        none_idle : list_any (λ (c : Column). matches c.cube s) idle ≡ false
        none_idle = sym (any_map (λ b. matches b s) (λ (c : Column). c.cube) idle)
            ∙ list_any_false (λ b. matches b s) (map (λ (c : Column). c.cube) idle) (λ b there.
            from_any_false (λ b. matches b s) (flat_map (excluded_of tables log) (numbers_below (item_count g))
            ++ map (λ (c : Column). c.cube) idle) b none
            (Contains-append_right (flat_map (excluded_of tables log) (numbers_below (item_count g)))
            (map (λ (c : Column). c.cube) idle) b there))

-- ---- the least scenario that is left

-- a truth value whose negation is true is false
left_is : (b : Bool) → not b ≡ true → b ≡ false
left_is false holds = refl
left_is true holds = absurd (true≢false (sym holds))

-- The cubes that an audit goes over:
-- `setting`: in each scenario, the tables are valid ones of a lawful graph; `log`, `is`: the log
-- `idle`, `told`: columns one of which matches just where a logged item is inactive
-- `by`, `are`: the cubes, the excluded ones of all items, then those of `idle`
module _ (g : Graph) (order : List ℕ) (tables : List NodeTable)
    (setting : (s : Scenario) → IsScenario g s → Setting g tables s) (log : Log) (is : IsLog g log)
    (idle : List Column) (told : (s : Scenario) → IsScenario g s →
    list_any (λ (c : Column). matches c.cube s) idle ≡ is_some_idle g log.acts s)
    (by : List (List Literal)) (are : by ≡ flat_map (excluded_of tables log) (numbers_below (item_count g))
    ++ map (λ (c : Column). c.cube) idle) where
  -- a scenario that the cubes leave gives the log
  left_gives : (s : Scenario) → IsScenario g s → is_left by [] s ≡ true → Gives g tables log s
  left_gives s law holds = fits_gives (setting s law) log is (left_fits (setting s law) log is idle (told s law)
      (ap (list_any (λ b. matches b s)) (sym are) ∙ left_is (list_any (λ b. matches b s) by) holds))

  -- the cubes leave a scenario that gives the log
  gives_left : (s : Scenario) → IsScenario g s → Gives g tables log s → is_left by [] s ≡ true
  gives_left s law gives = ap not (ap (list_any (λ b. matches b s)) are
      ∙ fits_left (setting s law) log is idle (told s law) (gives_fits (setting s law) log is gives))

  -- the least scenario that the cubes leave is the least that gives the log
  pub least_gives : (r : Option Scenario) → IsFirst g order (is_left by []) r →
      IfSome r (IsLeast g order (Gives g tables log))
  least_gives None first = tt
  least_gives (Some s) first = record {
    lawful = first.lawful;
    holds = left_gives s first.lawful first.holds;
    least = λ t law gives. first.least t law (gives_left t law gives);
  }

  -- if `r`, the first scenario that the cubes leave, is none, then no scenario `s` gives the log
  pub none_gives : (r : Option Scenario) → IsFirst g order (is_left by []) r →
      IfNone r ((s : Scenario) → IsScenario g s → Gives g tables log s → ⊥)
  none_gives None first = λ s law gives. true≢false (sym (gives_left s law gives) ∙ first s law)
  none_gives (Some s) first = tt

-- if the columns of item `x` are on variables of the graph, so are its excluded cubes
pub excluded_known : (g : Graph) (tables : List NodeTable) (log : Log) (x : ℕ) →
    All (λ (c : Column). IsKnown g c.cube) (columns_of tables x) →
    All (IsKnown g) (excluded_of tables log x)
excluded_known g tables log x known =
    let excluded : Column → Bool = λ c. is_excluded log.until (logged_time log.acts x) c.time in
    All-map (IsKnown g) (λ (c : Column). c.cube) (filter excluded (columns_of tables x))
    (All-filter excluded (λ (c : Column). IsKnown g c.cube) (columns_of tables x) known)

-- if the `kept` cubes and the `idle` columns are on variables of the graph, so are the kept cubes followed by those of
-- the columns
pub idle_known : (g : Graph) (kept : List (List Literal)) (idle : List Column) → All (IsKnown g) kept →
    All (λ (c : Column). IsKnown g c.cube) idle →
    All (IsKnown g) (kept ++ map (λ (c : Column). c.cube) idle)
idle_known g kept idle first then = All-append (IsKnown g) kept (map (λ (c : Column). c.cube) idle) first
    (All-map (IsKnown g) (λ (c : Column). c.cube) idle then)
