-- A literal is heard if a frame that has come implies it, or if it holds and its process has ended on the node; and V4
-- is sure at an item if all its literals are heard.
use Rattle.std.proofs.Common.{ℕ, ◌+◌, ◌-◌, ◌<◌, ◌≤◌, ◌≡◌, ◌==◌, Bool, true, cond, not, List, [], ◌∷◌, ◌++◌, filter, map}
use Rattle.std.proofs.Common.{flat_map, Contains, Some, refl, sym, ap, ◌∙◌, subst, arith, inl, inr, eq-eqb}
use Rattle.std.proofs.Common.{le-leb, leb-true, leb, lt-ltb, le-ltb}
use Rattle.std.proofs.lemmas.Bool.{and_from, and_parts, cond-true, cond-false}
use Rattle.std.proofs.lemmas.List.Elements.{Contains-append_left, Contains-append_right}
use Rattle.cpg_base.specs.Bus.{slot_length}
use Rattle.cpg_base.specs.Duration.{duration}
use Rattle.cpg_base.specs.Graph.{Graph, IsVariable, condition_of, home, is_heard_by, item_at, item_count, node_of}
use Rattle.cpg_base.specs.Graph.{process_count, process_of, process_of_variable, value_variable}
use Rattle.cpg_base.specs.Numbers.{numbers_below}
use Rattle.cpg_base.proofs.Lists.{Contains-filter, Contains-first, Contains-flat_map, Contains-map, Contains-numbers}
use Rattle.cpg_base.proofs.Lists.{Contains-rest, greatest_above, least_below, list_any_false}
use Rattle.cpg_base.specs.Variable.{top}
use Rattle.cpg_base.specs.Scenario.{Scenario, fault_of, number_of}
use Rattle.cpg_base.proofs.ConditionProcesses.{condition_of_process_of}
use Rattle.cpg_base.proofs.NumbersOf.{number_of-fault}
use Rattle.cpg_cube.specs.Cube.{holds, matches}
use Rattle.cpg_cube.specs.declared.literal.Literal.{Literal}
use Rattle.cpg_table.specs.Heard.{exactly, facts, facts_of_end, facts_of_frame, frame_value, is_heard, kept_high}
use Rattle.cpg_table.specs.Heard.{kept_low, matching, value_fact}
use Rattle.cpg_table.specs.Table.{NodeTable, columns_of}
use Rattle.cpg_cube.specs.declared.column.Column.{Column}
use Rattle.cpg_table.specs.Valid.{ends_of, is_by}
use Rattle.cpg_table.specs.declared.rule.Rule.{Rule}
use Rattle.cpg_violation.specs.Sure.{IsSure}
use Rattle.cpg_check_quick.specs.Hearing.{IsHeardIn}
use Rattle.cpg_violation.proofs.SureLaws.{sure_of}
use Rattle.cpg_check_quick.proofs.Ends.{by_parts}

-- a node, a time, a scenario and a literal
module _ (g : Graph) (tables : List NodeTable) (node time : ℕ) (s : Scenario) (l : Literal) where
  -- if the node has learnt a literal `m` that implies `l`, `l` is heard
  heard_fact : (m : Literal) → Contains (facts g tables node s time) m → m.variable ≡ l.variable → l.low ≤ m.low →
      m.high ≤ l.high →
      is_heard g.faults (facts g tables node s time) l ≡ true
  heard_fact m there same low high =
      let known : List Literal = facts g tables node s time in
      -- `m` is among the facts on the variable of `l`
      let here : Contains (filter (λ (n : Literal). n.variable == l.variable) known) m =
      Contains-filter (λ (n : Literal). n.variable == l.variable) known m (eq-eqb m.variable l.variable same) there in
      -- so the greatest low of these is at least that of `m`, and the least high at most that of `m`
      let above =
      greatest_above (map (λ (n : Literal). n.low) (filter (λ (n : Literal). n.variable == l.variable) known)) m.low
      (Contains-map (λ (n : Literal). n.low) _ m here) in
      let below = least_below (top g.faults l.variable)
      (map (λ (n : Literal). n.high) (filter (λ (n : Literal). n.variable == l.variable) known)) m.high
      (Contains-map (λ (n : Literal). n.high) _ m here) in
      and_from _ _ (le-leb l.low (kept_low known l.variable) (omega (arith, low, above)))
      (le-leb (kept_high g.faults known l.variable) l.high (omega (arith, high, below)))

  -- an element `m` of `xs` is in a list that is `xs` if `b` holds, and empty otherwise, if `b` holds
  kept_where : (b : Bool) (xs : List Literal) (m : Literal) → b ≡ true → Contains xs m → Contains (cond b xs []) m
  kept_where b xs m holds there = subst (λ ys. Contains ys m) (sym (cond-true b xs [] holds)) there

  -- if a column of an item that the node hears matches, and its frame has come by the time and tells a literal `m` that
  -- implies it, the literal is heard: `m` is one of the facts of that frame
  pub heard_frame : (y : ℕ) (d : Column) (m : Literal) → y < item_count g → is_heard_by g node (item_at g y) ≡ true →
      Contains (columns_of tables y) d →
      matches d.cube s ≡ true →
      d.time + slot_length g (home g y) ≤ time
      → Contains (d.cube ++ frame_value s (item_at g y)) m → m.variable ≡ l.variable → l.low ≤ m.low → m.high ≤ l.high →
      is_heard g.faults (facts g tables node s time) l ≡ true
  heard_frame y d m within hears there match come told = heard_fact m
      (Contains-append_right (flat_map (facts_of_end g tables s time)
      (filter (λ p. node_of g p == node) (numbers_below (process_count g)))) _ m
      (Contains-flat_map (facts_of_frame g tables s time)
      (filter (λ x. is_heard_by g node (item_at g x)) (numbers_below (item_count g))) y m
      (Contains-filter (λ x. is_heard_by g node (item_at g x)) (numbers_below (item_count g)) y hears
      (Contains-numbers (item_count g) y within))
      (Contains-flat_map (λ (c : Column). cond (leb (c.time + slot_length g (home g y)) time)
      (c.cube ++ frame_value s (item_at g y)) []) (matching tables s y) d m
      (Contains-filter (λ (c : Column). matches c.cube s) (columns_of tables y) d match there)
      (kept_where (leb (d.time + slot_length g (home g y)) time) (d.cube ++ frame_value s (item_at g y)) m
      (le-leb _ _ come) told))))

  -- the end of process `q` tells the number of each of its variables: of its count, or of its value
  end_tells : (v q : ℕ) → process_count g ≤ 128 → IsVariable g v → process_of_variable g v ≡ q →
      Contains (exactly q (number_of s q) ∷ value_fact s (condition_of g q)) (exactly v (number_of s v))
  end_tells v q few (inl count) of_it =
      let same : v ≡ q =
      sym (cond-true _ v (process_of g (v - 128)) (lt-ltb v 128 (omega (arith, count, few)))) ∙ of_it in
      subst (λ w. Contains (exactly q (number_of s q) ∷ value_fact s (condition_of g q)) (exactly w (number_of s w)))
      (sym same)
      (Contains-first (exactly q (number_of s q)) (value_fact s (condition_of g q)))
  end_tells v q few (inr value) of_it =
      let condition : ℕ = v - 128 in
      let is : value_variable condition ≡ v = omega (arith, value.0) in
      let at : process_of g condition ≡ q = sym (cond-false _ v (process_of g (v - 128))
      (le-ltb v 128 value.0)) ∙ of_it in
      let has : condition_of g q ≡ Some condition =
      ap (condition_of g) (sym at) ∙ condition_of_process_of g condition (omega (arith, value.0, value.1)) in
      Contains-rest (exactly q (number_of s q)) (value_fact s (condition_of g q)) (exactly v (number_of s v))
      (subst (λ o. Contains (value_fact s o) (exactly v (number_of s v))) (sym has)
      (subst (λ w. Contains (exactly w (number_of s w) ∷ []) (exactly v (number_of s v))) (sym is)
      (Contains-first (exactly v (number_of s v)) [])))

  -- if a process of the node has ended by the time, a literal on one of its variables that holds is heard: the end
  -- tells the variable's number
  pub heard_end : (q : ℕ) → process_count g ≤ 128 → q < process_count g → node_of g q ≡ node →
      is_by time (ends_of g tables s q) ≡ true → IsVariable g l.variable →
      process_of_variable g l.variable ≡ q
      → holds s l ≡ true → is_heard g.faults (facts g tables node s time) l ≡ true
  heard_end q few within on come known of_it h =
      let ran = by_parts tables q s (λ start. start + duration g q (fault_of s q)) time come in
      let exact : Literal = exactly l.variable (number_of s l.variable) in
      let range = and_parts _ _ h in
      heard_fact exact
      (Contains-append_left _ _ exact (Contains-flat_map (facts_of_end g tables s time)
      (filter (λ p. node_of g p == node) (numbers_below (process_count g))) q exact
      (Contains-filter (λ p. node_of g p == node) (numbers_below (process_count g)) q (eq-eqb (node_of g q) node on)
      (Contains-numbers (process_count g) q within))
      (Contains-flat_map (λ (c : Column). cond (leb (c.time + duration g q (number_of s q)) time)
      (exactly q (number_of s q) ∷ value_fact s (condition_of g q)) []) (matching tables s q) ran.0 exact
      (Contains-filter (λ (c : Column). matches c.cube s) (columns_of tables q) ran.0 ran.2 ran.1)
      (kept_where (leb (ran.0.time + duration g q (number_of s q)) time)
      (exactly q (number_of s q) ∷ value_fact s (condition_of g q)) exact
      (ap (λ n. leb (ran.0.time + duration g q n) time) (number_of-fault s q (omega (arith, within, few)))
      ∙ le-leb _ _ ran.3)
      (end_tells l.variable q few known of_it)))))
      refl (leb-true _ _ range.0) (leb-true _ _ range.1)

-- V4 is sure at item `x` if each literal `l` of each of its columns `c` is heard wherever the column matches
pub heard_sure : (g : Graph) (tables : List NodeTable) (x : ℕ) →
    ((c : Column) (l : Literal) → Contains (columns_of tables x) c → Contains c.cube l →
    IsHeardIn g tables (home g x) c l) →
    IsSure g tables Rule.Heard x
heard_sure g tables x heard = sure_of g tables Rule.Heard x refl (λ s c earlier law k m.
    list_any_false (λ l. not (is_heard g.faults (facts g tables (home g x) s c.time) l)) c.cube
    (λ l h. ap not (heard c l k h s law m)))
