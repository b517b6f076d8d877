-- A node is told a bound exactly if one of its own ends tells it, or the row of an item that it hears does.
use Rattle.std.proofs.Common.{ℕ, ◌+◌, ◌-◌, ◌<◌, ◌≤◌, ◌≡◌, ◌≢◌, ◌==◌, Bool, true, false, cond, ◌&&◌, ◌||◌, List, [], ◌∷◌}
use Rattle.std.proofs.Common.{◌++◌, filter, flat_map, Contains, Option, Some, None, arith, refl, sym, ap}
use Rattle.std.proofs.Common.{◌∙◌, subst, inl, inr, lt-ltb, le-ltb, true≢false}
use Rattle.std.specs.Prelude.{nat_le}
use Rattle.std.specs.List.{list_any}
use Rattle.std.proofs.lemmas.Bool.{and_from, and_parts, and_right, both_ways, cases_order, ne_eqb, cond-true}
use Rattle.std.proofs.lemmas.Bool.{cond-false}
use Rattle.std.proofs.lemmas.List.Folds.{list_any-append}
use Rattle.cpg_base.proofs.Lists.{Contains-first, Contains-rest, list_any_false, list_any_true, list_any_parts}
use Rattle.cpg_base.proofs.Lists.{Contains-filter, Contains-filter_parts, Contains-numbers, numbers-Contains}
use Rattle.cpg_base.proofs.Lists.{same_truth}
use Rattle.cpg_base.proofs.Items.{item_at-start}
use Rattle.cpg_base.specs.Bus.{slot_length}
use Rattle.cpg_base.specs.Duration.{duration}
use Rattle.cpg_base.specs.Graph.{Graph, process_count, item_count, item_at, condition_of, process_of}
use Rattle.cpg_base.specs.Graph.{process_of_variable, value_variable, node_of, home, is_heard_by}
use Rattle.cpg_base.specs.declared.item.Item.{Item}
use Rattle.cpg_base.specs.declared.item.Item.TheVariants.{Start, Message, Broadcast}
use Rattle.cpg_base.specs.Numbers.{numbers_below}
use Rattle.cpg_base.proofs.ConditionProcesses.{process_of_condition_of}
use Rattle.cpg_base.specs.Scenario.{Scenario, number_of}
use Rattle.cpg_cube.specs.Cube.{matches}
use Rattle.cpg_table.specs.Table.{NodeTable, columns_of}
use Rattle.cpg_cube.specs.declared.column.Column.{Column}
use Rattle.cpg_table.specs.Shape.{heard_by}
use Rattle.cpg_table.specs.Heard.{exactly, value_fact, matching, facts_of_end, frame_value, facts_of_frame, facts}
use Rattle.cpg_violation.proofs.Columnwise.{any_filter}
use Rattle.cpg_check_heard.specs.declared.bound.LiteralBound.{LiteralBound}
use Rattle.cpg_check_heard.specs.declared.telling_rows.Means.TheVariants.{End, Frame}
use Rattle.cpg_check_heard.specs.Bounds.{tells, variable_of}
use Rattle.cpg_check_heard.specs.TellingRows.{column_tells, is_telling, row_tells, means_of, means_of_item, carried}
use Rattle.cpg_check_heard.specs.TellingRows.{is_value, CanTell}
use Rattle.cpg_check_heard.specs.Untold.{item_tells, are_told_by, own_tells}
use Rattle.cpg_check_heard.proofs.Sides.{side, tells_exactly, value_side}

-- ---- tests of lists that are made of others

-- some element of the lists that `f` makes of `xs` passes exactly if, for some `x`, some element of its list does; by
-- induction on `xs`
any_flat_map : {X Y : Type 0} (test : Y → Bool) (f : X → List Y) (xs : List X) →
    list_any test (flat_map f xs) ≡ list_any (λ x. list_any test (f x)) xs
any_flat_map test f [] = refl
any_flat_map test f (x ∷ xs) =
    list_any-append test (f x) (flat_map f xs) ∙ ap (λ t. list_any test (f x) || t) (any_flat_map test f xs)

-- some element of a list that is there only if `b` is true passes exactly if `b` is true and some element passes
any_cond : {X : Type 0} (test : X → Bool) (b : Bool) (xs : List X) →
    list_any test (cond b xs []) ≡ (b && list_any test xs)
any_cond test true xs = refl
any_cond test false xs = refl

-- two tests that agree everywhere pass for some element of a list alike; by induction on `xs`
any_ext : {X : Type 0} (p q : X → Bool) (xs : List X) → ((x : X) → p x ≡ q x) → list_any p xs ≡ list_any q xs
any_ext p q [] h = refl
any_ext p q (x ∷ xs) h = ap (λ t. t || list_any p xs) (h x) ∙ ap (λ t. q x || t) (any_ext p q xs h)

-- two tests that agree on the elements of a list pass for some of them alike; by induction on `xs`
any_within : {X : Type 0} (p q : X → Bool) (xs : List X) → ((x : X) → Contains xs x → p x ≡ q x) →
    list_any p xs ≡ list_any q xs
any_within p q [] each = refl
any_within p q (x ∷ xs) each = ap (λ t. t || list_any p xs) (each x (Contains-first x xs))
    ∙ ap (λ t. q x || t) (any_within p q xs (λ y there. each y (Contains-rest x xs y there)))

-- if `f` passes for no number below `n` but perhaps for `one`, it passes for some of those that `t` keeps exactly if
-- `t` keeps `one` and `f` passes for it
any_one : (f t : ℕ → Bool) (n one : ℕ) → one < n → ((q : ℕ) → q < n → q ≢ one → f q ≡ false) →
    list_any f (filter t (numbers_below n)) ≡ (t one && f one)
any_one f t n one less off = same_truth (list_any f (filter t (numbers_below n))) (t one && f one)
    (λ holds. let found = list_any_parts f (filter t (numbers_below n)) holds in
    let parts = Contains-filter_parts t (numbers_below n) found.0 found.1 in
    let within = numbers-Contains n found.0 parts.0 in
    elim (cases_order found.0 one) [
      | inl is ↦ and_from (t one) (f one) (subst (λ q. t q ≡ true) is parts.1) (subst (λ q. f q ≡ true) is found.2)
      | inr (inl below) ↦ absurd (both_ways (f found.0) (off found.0 within (λ e. omega (arith, e, below))) found.2)
      | inr (inr above) ↦ absurd (both_ways (f found.0) (off found.0 within (λ e. omega (arith, e, above))) found.2)
    ])
    (λ e. let parts = and_parts (t one) (f one) e in
    list_any_true f (filter t (numbers_below n)) one
    (Contains-filter t (numbers_below n) one parts.0 (Contains-numbers n one less)) parts.1)

-- the frame of item `i` tells the value of the condition that it carries, and no value if it carries none
frame_carried : (s : Scenario) (i : Item) → frame_value s i ≡ value_fact s (carried i)
frame_carried s (Start p) = refl
frame_carried s (Message e) = refl
frame_carried s (Broadcast c) = refl

-- a bound, a scenario, and the time by which it has to be told
module _ (g : Graph) (tables : List NodeTable) (time : ℕ) (b : LiteralBound) (s : Scenario) where
  -- ---- a process

  -- the facts of a process's ends tell the bound exactly if its row does: the facts are made of the columns that match,
  -- of each only if its end has come
  end_row : (p : ℕ) →
      list_any (tells b) (facts_of_end g tables s time p) ≡ row_tells g (End p) time b (columns_of tables p) s
  end_row p = any_flat_map (tells b) (λ (c : Column). cond (nat_le (c.time + duration g p (number_of s p)) time)
      (exactly p (number_of s p) ∷ value_fact s (condition_of g p)) []) (matching tables s p)
      ∙ any_filter (λ (c : Column). list_any (tells b) (cond (nat_le (c.time + duration g p (number_of s p)) time)
      (exactly p (number_of s p) ∷ value_fact s (condition_of g p)) []))
      (λ (c : Column). matches c.cube s) (columns_of tables p)
      ∙ any_ext (λ (c : Column). matches c.cube s && list_any (tells b) (cond (nat_le (c.time
      + duration g p (number_of s p)) time) (exactly p (number_of s p) ∷ value_fact s (condition_of g p)) []))
      (is_telling g (End p) time b s) (columns_of tables p)
      (λ (c : Column).
      ap (λ t. matches c.cube s && t) (any_cond (tells b) (nat_le (c.time + duration g p (number_of s p)) time)
      (exactly p (number_of s p) ∷ value_fact s (condition_of g p))))

  -- so the facts of a process's ends tell the bound exactly if the row of its start does
  start_row : (p : ℕ) → p < process_count g →
      list_any (tells b) (facts_of_end g tables s time p) ≡ item_tells g tables time b s p
  start_row p within =
      end_row p ∙ ap (λ i. row_tells g (means_of_item g p i) time b (columns_of tables p) s)
      (sym (item_at-start g p within))

  -- if the bound isn't of the value of the condition, `o`, it isn't of a value that the condition has
  other_value : (o : Option ℕ) → ((c : ℕ) → o ≡ Some c → value_variable c ≢ variable_of b) →
      is_value o (variable_of b) ≡ false
  other_value None h = refl
  other_value (Some c) h = ne_eqb (value_variable c) (variable_of b) (h c refl)

  -- if the bound is of another process, the count and the value of process `q` don't tell it
  other_end : process_count g ≤ 128 → (q : ℕ) → q < process_count g → q ≢ process_of_variable g (variable_of b) →
      list_any (tells b) (exactly q (number_of s q) ∷ value_fact s (condition_of g q)) ≡ false
  other_end few q below other =
      let variable : ℕ = variable_of b in
      ap (λ t. t || list_any (tells b) (value_fact s (condition_of g q))) (tells_exactly b q (number_of s q)
      ∙ ap (λ t. t && side b (number_of s q))
      (ne_eqb q variable (λ same_variable. other
      (same_variable ∙ sym (cond-true _ _ _ (lt-ltb variable 128 (omega (arith, same_variable, below, few))))))))
      ∙ value_side s b (condition_of g q)
      ∙ ap (λ t. t && side b (number_of s variable)) (other_value (condition_of g q)
      (λ c has same_variable. let back : variable - 128 ≡ c = omega (arith, same_variable) in
      other (sym (cond-false _ _ _ (le-ltb variable 128 (omega (arith, same_variable))) ∙ ap (process_of g) back
      ∙ process_of_condition_of g q c has))))

  -- so the ends of any other process `q` don't tell the bound
  other_row : process_count g ≤ 128 → (q : ℕ) → q < process_count g → q ≢ process_of_variable g (variable_of b) →
      list_any (tells b) (facts_of_end g tables s time q) ≡ false
  other_row few q within differ = end_row q ∙ list_any_false (is_telling g (End q) time b s) (columns_of tables q)
      (λ c _. and_right (matches c.cube s) (column_tells g (End q) time b s c)
      (and_right (nat_le (c.time + duration g q (number_of s q)) time)
      (list_any (tells b) (exactly q (number_of s q) ∷ value_fact s (condition_of g q)))
      (other_end few q within differ)))

  -- ---- what a node hears

  -- an item that a node hears comes by a frame, a slot later, and carries its condition's value
  framed : (x node : ℕ) → is_heard_by g node (item_at g x) ≡ true →
      means_of g x ≡ Frame (slot_length g (home g x)) (carried (item_at g x))
  framed x node holds = go (item_at g x) holds
    where
      -- by cases of the item: no node hears a start
      go : (i : Item) → is_heard_by g node i ≡ true → means_of_item g x i ≡ Frame (slot_length g (home g x)) (carried i)
      go (Start p) is_true = absurd (true≢false (sym is_true))
      go (Message e) holds = refl
      go (Broadcast c) holds = refl

  -- the facts of an item's frames tell the bound exactly if its row does: they are made of the columns that match, of
  -- each only if its frame has come
  frame_row : (x node : ℕ) → is_heard_by g node (item_at g x) ≡ true →
      list_any (tells b) (facts_of_frame g tables s time x) ≡ item_tells g tables time b s x
  frame_row x node holds = any_flat_map (tells b)
      (λ (c : Column). cond (nat_le (c.time + slot_length g (home g x)) time)
      (c.cube ++ frame_value s (item_at g x)) []) (matching tables s x)
      ∙ any_filter (λ (c : Column). list_any (tells b) (cond (nat_le (c.time + slot_length g (home g x)) time)
      (c.cube ++ frame_value s (item_at g x)) [])) (λ (c : Column). matches c.cube s)
      (columns_of tables x)
      ∙ any_ext (λ (c : Column). matches c.cube s && list_any (tells b)
      (cond (nat_le (c.time + slot_length g (home g x)) time) (c.cube ++ frame_value s (item_at g x)) []))
      (is_telling g (Frame (slot_length g (home g x)) (carried (item_at g x))) time b s) (columns_of tables x)
      (λ (c : Column). ap (λ t. matches c.cube s && t)
      (any_cond (tells b) (nat_le (c.time + slot_length g (home g x)) time) (c.cube ++ frame_value s (item_at g x))
      ∙ ap (λ v. nat_le (c.time + slot_length g (home g x)) time && list_any (tells b) (c.cube ++ v))
      (frame_carried s (item_at g x))))
      ∙ ap (λ t. row_tells g t time b (columns_of tables x) s) (sym (framed x node holds))

  -- ---- altogether

  -- a node is told a bound exactly if its own ends tell it or the rows that it hears do: of its own processes only that
  -- of the bound's variable may
  pub facts_told : process_count g ≤ 128 → process_of_variable g (variable_of b) < process_count g → (node : ℕ)
      → list_any (tells b) (facts g tables node s time)
      ≡ (own_tells g tables node time b s || are_told_by g tables time b (heard_by g node) s)
  facts_told few within node =
      let one : ℕ = process_of_variable g (variable_of b) in
      let own : List ℕ = filter (λ p. node_of g p == node) (numbers_below (process_count g)) in
      list_any-append (tells b) (flat_map (facts_of_end g tables s time) own)
      (flat_map (facts_of_frame g tables s time) (heard_by g node))
      ∙ ap (λ t. t || list_any (tells b) (flat_map (facts_of_frame g tables s time) (heard_by g node)))
      (any_flat_map (tells b) (facts_of_end g tables s time) own
      ∙ any_one (λ p. list_any (tells b) (facts_of_end g tables s time p)) (λ p. node_of g p == node)
      (process_count g) one within (λ q inside differ. other_row few q inside differ)
      ∙ ap (λ t. (node_of g one == node) && t) (start_row one within))
      ∙ ap (λ t. own_tells g tables node time b s || t)
      (any_flat_map (tells b) (facts_of_frame g tables s time) (heard_by g node)
      ∙ any_within (λ x. list_any (tells b) (facts_of_frame g tables s time x)) (item_tells g tables time b s)
      (heard_by g node)
      (λ x there. frame_row x node
      (Contains-filter_parts (λ x. is_heard_by g node (item_at g x)) (numbers_below (item_count g)) x there).1))

  -- the row of an item that a node hears can tell each bound
  pub heard_can : (x node : ℕ) → is_heard_by g node (item_at g x) ≡ true → CanTell g b (means_of g x)
  heard_can x node holds = subst (CanTell g b) (sym (framed x node holds)) tt

  -- the row of a process can tell a bound of the process's own variables
  pub own_can : (p : ℕ) → p < process_count g → process_of_variable g (variable_of b) ≡ p → CanTell g b (means_of g p)
  own_can p within is = subst (λ i. CanTell g b (means_of_item g p i)) (sym (item_at-start g p within)) (within, is)
