-- What a heard row's frames tell a node by the time of a column.
use Rattle.std.proofs.Common.{ℕ, ◌+◌, ◌<◌, ◌≤◌, ◌≡◌, ◌⊎◌, true, List, Option, None, Some, All, Contains, IfSome, get_or}
use Rattle.std.proofs.Common.{length, take, drop, ◌++◌, refl, sym, ap, ◌∙◌, subst, arith, inl, inr, leb-true}
use Rattle.std.proofs.lemmas.Bool.{and_parts}
use Rattle.std.proofs.lemmas.List.{get_or_default, take-append-drop}
use Rattle.std.proofs.lemmas.List.Elements.{All-contains, Contains-append_cases, Contains-append_left}
use Rattle.std.proofs.lemmas.List.Elements.{Contains-append_right, Contains-get_or}
use Rattle.std.proofs.lemmas.List.Folds.{list_all-append}
use Rattle.cpg_base.specs.Bus.{slot_length}
use Rattle.cpg_base.specs.Graph.{Graph, home, item_at}
use Rattle.cpg_base.proofs.Lists.{from_all}
use Rattle.cpg_base.specs.Scenario.{Scenario, IsScenario, number_of}
use Rattle.cpg_cube.specs.Cube.{holds, matches}
use Rattle.cpg_cube.specs.declared.literal.Literal.{Literal}
use Rattle.cpg_table.specs.Heard.{exactly, facts, frame_value, is_heard}
use Rattle.cpg_table.specs.Table.{NodeTable, columns_of}
use Rattle.cpg_cube.specs.declared.column.Column.{Column}
use Rattle.cpg_cube.specs.Column.{column_at}
use Rattle.cpg_row_trees.specs.Places.{IsAmong, place_at}
use Rattle.cpg_row_trees.proofs.TreeLaws.{place_matches, place_there}
use Rattle.cpg_check_quick.specs.Hearing.{AreLeft, IsAllHeard, IsHeardIn}
use Rattle.cpg_check_quick.specs.HeardRows.{AreToldIn, HasCome, IsHeardRow, IsTold, IsToldIn}
use Rattle.cpg_check_quick.specs.declared.heard_rows.HeardRow.{HeardRow}
use Rattle.cpg_check_quick.proofs.HeardLaws.{heard_frame}

-- the row of an item that the node hears, places of its columns, a column `c`, and a literal that `c` implies
module _ {g : Graph} {tables : List NodeTable} {node : ℕ} {row : HeardRow} (is : IsHeardRow g tables node row)
    (places : List ℕ) (c : Column) (l : Literal) (is_told : IsToldIn c.cube l) where
  -- if the scenario's place in the row's tree is among the places, the frame of its column has come by the time of `c`,
  -- and the frames tell the literal, it is heard; by cases of whether the frame carries the value or the column implies
  -- it
  told_by : (s : Scenario) → IsScenario g s → matches c.cube s ≡ true →
      IsTold row.value row.columns.now places l → (o : Option ℕ) →
      place_at row.tree.now s ≡ o
      → HasCome row.columns.now row.delay c.time o → IsAmong places o →
      is_heard g.faults (facts g tables node s c.time) l ≡ true
  -- there is a place, as it is among the places
  told_by s law it_matches told None equal come among = absurd among
  told_by s law it_matches told (Some i) e come among =
      -- the column at the place matches, and its frame has come
      let column : Column = column_at (columns_of tables row.item) i in
      let there : i < length (columns_of tables row.item) = place_there is.tree s law i e in
      let match : matches column.cube s ≡ true = place_matches is.tree s law i e in
      let same : column_at row.columns.now i ≡ column = ap (λ columns. column_at columns i) is.columns in
      let by : column.time + slot_length g (home g row.item) ≤ c.time =
      omega (arith, come, ap (λ (d : Column). d.time) same, is.delay) in
      -- the variable's number is in the range of the literal of `c` that implies `l`
      let inside = and_parts _ _ (from_all (holds s) c.cube is_told.by it_matches is_told.there) in
      let from : is_told.by.low ≤ number_of s l.variable =
      subst (λ v. is_told.by.low ≤ number_of s v) is_told.variable (leb-true _ _ inside.0) in
      let to : number_of s l.variable ≤ is_told.by.high =
      subst (λ v. number_of s v ≤ is_told.by.high) is_told.variable (leb-true _ _ inside.1) in
      elim told as (λ _. is_heard g.faults (facts g tables node s c.time) l ≡ true) [
        -- the frame carries the value of the variable
        | inl value ↦
            let carried : Contains (frame_value s (item_at g row.item))
            (exactly l.variable (number_of s l.variable)) =
            subst (λ o. IfSome o
            (λ v. (s : Scenario) → Contains (frame_value s (item_at g row.item)) (exactly v (number_of s v))))
            value is.value s in
            heard_frame g tables node c.time s l row.item column (exactly l.variable (number_of s l.variable)) is.item
            is.heard (Contains-get_or (columns_of tables row.item) i _ there) match by
            (Contains-append_right column.cube (frame_value s (item_at g row.item)) _ carried) refl
            (omega (arith, is_told.low, from)) (omega (arith, to, is_told.high))
        -- the column at the place implies the literal
        | inr all ↦
            let at : IsToldIn column.cube l = subst (λ (d : Column). IsToldIn d.cube l) same
            (All-contains (λ i. IsToldIn (column_at row.columns.now i).cube l) places i all among) in
            heard_frame g tables node c.time s l row.item column at.by is.item is.heard
            (Contains-get_or (columns_of tables row.item) i _ there) match by
            (Contains-append_left column.cube (frame_value s (item_at g row.item)) at.by at.there)
            at.variable at.low at.high
      ]

  -- so `l` is heard with column `c` if, wherever `c` matches, the frame has come and its column is among `places`
  pub told_literal_heard : ((s : Scenario) → IsScenario g s → matches c.cube s ≡ true →
      HasCome row.columns.now row.delay c.time (place_at row.tree.now s) ×
      IsAmong places (place_at row.tree.now s))
      → IsTold row.value row.columns.now places l → IsHeardIn g tables node c l
  told_literal_heard found told s law m = let found_here = found s law m in
      told_by s law m told (place_at row.tree.now s) refl found_here.0 found_here.1

-- literals that are wanted, which column `c` implies, and those of them that are left
module _ {g : Graph} {tables : List NodeTable} {node : ℕ} {row : HeardRow} (is : IsHeardRow g tables node row)
    (places : List ℕ) (c : Column) (wanted left : List Literal)
    (wider : AreToldIn c.cube wanted) where
  -- if the row's frames have come wherever column `c` matches, and tell each literal `l` of `wanted` that isn't in
  -- `left`, those not left have been heard
  pub left_untold : ((l : Literal) → Contains left l → Contains wanted l) →
      ((l : Literal) → Contains wanted l → Contains left l ⊎ IsTold row.value row.columns.now places l)
      → ((s : Scenario) → IsScenario g s → matches c.cube s ≡ true → HasCome row.columns.now row.delay c.time
      (place_at row.tree.now s) × IsAmong places (place_at row.tree.now s))
      → AreLeft g tables node c wanted left
  left_untold among told found = record {
    among = among;
    heard = λ l h.
        elim (told l h) [ inl kept ↦ inl kept | inr by ↦ inr (told_literal_heard is places c l (wider l h) found by) ];
  }

-- the loop of `listen`
module _ (g : Graph) (tables : List NodeTable) (node : ℕ) (c : Column) where
  -- at first all wanted literals are left
  pub left_first : (wanted : List Literal) → AreLeft g tables node c wanted wanted
  left_first wanted = record { among = λ l h. h; heard = λ l h. inl h }

  -- what is left of the literals that were left is left of all that are wanted
  pub left_more : (wanted left next : List Literal) → AreLeft g tables node c wanted left →
      AreLeft g tables node c left next →
      AreLeft g tables node c wanted next
  left_more wanted left next before here = record {
    among = λ l h. before.among l (here.among l h);
    heard = λ l h. elim (before.heard l h) [ inl kept ↦ here.heard l kept | inr heard ↦ inr heard ];
  }

-- a row that is looked up in a list of heard rows is a heard row
pub heard_row_at : {g : Graph} {tables : List NodeTable} {node : ℕ} {all : List HeardRow} →
    All (IsHeardRow g tables node) all
    → (i : ℕ) (row : HeardRow) (list : List HeardRow) → list ≡ all → i < length list → row ≡ get_or list i row
    → IsHeardRow g tables node row
heard_row_at {g = g} {tables = tables} {node = node} each i row list same within is =
    subst (IsHeardRow g tables node) (sym (is ∙ ap (λ (ys : List HeardRow). get_or ys i row) same))
    (each i row (omega (arith, within, ap length same)))

-- column `c` begins with the literals of column `d` of a heard row, whose frame has come by the time of `c`
module _ {g : Graph} {tables : List NodeTable}
    {node : ℕ} {row : HeardRow} (is : IsHeardRow g tables node row) (c d : Column)
    (there : Contains (columns_of tables row.item) d) (come : d.time + row.delay ≤ c.time)
    (begins : take (length d.cube) c.cube ≡ d.cube) where
  -- the cube of `c` is that of `d` and then its own last literals
  both_parts : d.cube ++ drop (length d.cube) c.cube ≡ c.cube
  both_parts = ap (λ front. front ++ drop (length d.cube) c.cube) (sym begins) ∙ take-append-drop (length d.cube) c.cube

  -- wherever `c` matches, `d` does
  first_matches : (s : Scenario) → matches c.cube s ≡ true → matches d.cube s ≡ true
  first_matches s it_matches = (and_parts _ _ (sym (list_all-append (holds s) d.cube (drop (length d.cube) c.cube))
      ∙ ap (λ cube. matches cube s) both_parts ∙ it_matches)).0

  -- if the last literals of `c` are heard, all are: the first ones are told by the frame of `d`
  pub begun_heard : ((l : Literal) → Contains (drop (length d.cube) c.cube) l → IsHeardIn g tables node c l) →
      IsAllHeard g tables node c
  begun_heard behind l h = elim (Contains-append_cases d.cube (drop (length d.cube) c.cube) l
      (subst (λ cube. Contains cube l) (sym both_parts) h)) as (λ _. IsHeardIn g tables node c l) [
        | inl first ↦
            λ s law it_matches. heard_frame g tables node c.time s l row.item d l is.item is.heard there
            (first_matches s it_matches)
            (omega (arith, come, is.delay))
            (Contains-append_left d.cube (frame_value s (item_at g row.item)) l first) refl
            (omega arith) (omega arith)
        | inr rest ↦ behind l rest
      ]

-- if there is one place, the column there is the column at each place
pub only_place : (columns : List Column) (places : List ℕ) (c : Column) → length places ≡ 1 →
    column_at columns (get_or places 0 0) ≡ c →
    All (λ i. column_at columns i ≡ c) places
only_place columns places c one is k d l = subst (λ i. column_at columns i ≡ c)
    (get_or_default places 0 0 d (omega (arith, one)) ∙ ap (λ j. get_or places j d) (omega (arith, l, one))) is

-- if column `c` is at each place, a literal that its frame tells is told by the frames at all places
pub told_alone : {value : Option ℕ} (columns : List Column) (places : List ℕ) (c : Column) (l : Literal) →
    All (λ i. column_at columns i ≡ c) places
    → (value ≡ Some l.variable) ⊎ IsToldIn c.cube l → IsTold value columns places l
told_alone columns places c l all h = elim h [
  | inl value ↦ inl value
  | inr by ↦ inr (λ k d r. subst (λ (c : Column). IsToldIn c.cube l) (sym (all k d r)) by)
]
