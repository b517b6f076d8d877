-- Lawful tables under the head for a graph have the shape that the laws on tables ask for (`has_shape`), and say of each
-- node what the graph says (`suits_graph`).
use Rattle.std.proofs.Common.{◌≡◌, ◌<◌, ◌+◌, ◌-◌, ◌==◌, ℕ, zero, suc, Bool, true, false, cond, List, [], ◌∷◌, ◌++◌}
use Rattle.std.proofs.Common.{Option, Some, None, is_some, All, length, map, filter, get_or, refl, sym, ap, ap₂}
use Rattle.std.proofs.Common.{◌∙◌, subst, arith, inl, inr, true≢false, length-append, append_assoc}
use Rattle.std.specs.List.{range_with_len}
use Rattle.std.proofs.Math.Seq.{get_or-append_seam}
use Rattle.std.proofs.lemmas.List.FromFn.{length-map-range_with_len}
use Rattle.std.proofs.lemmas.List.Elements.{All-weaker, filter-append}
use Rattle.cpg_base.specs.Numbers.{numbers_below}
use Rattle.cpg_base.specs.Graph.{Graph, process_count, condition_count, node_of, condition_of, process_of}
use Rattle.cpg_base.specs.Graph.{is_disjunction, disjunctions, IsVariable}
use Rattle.cpg_base.specs.Limits.{IsWithinLimits}
use Rattle.cpg_base.proofs.Lists.{filter_below_push}
use Rattle.cpg_cube.specs.declared.literal.Literal.{Literal}
use Rattle.cpg_base.proofs.ConditionProcesses.{condition_of_process_of}
use Rattle.cpg_head.specs.GraphHead.{head_process, head_of}
use Rattle.cpg_table.specs.Items.{own_process, own_from, own_of}
use Rattle.cpg_table.specs.Table.{Row, NodeTable, table_at}
use Rattle.cpg_cube.specs.declared.column.Column.{Column}
use Rattle.cpg_table.specs.Shape.{HasShape, SpeakOf, processes_on}
use Rattle.cpg_table.specs.Lawful.{IsLawfulLiteral, IsLawfulColumn, IsLawfulRow, space_of, AreTablesOf}
use Rattle.cpg_head.proofs.HeadWithin.{has_condition, conditions_counted}
use Rattle.cpg_table.proofs.GraphItems.{starts_are, sends_are, hears_are, range-append}
use Rattle.cpg_table.specs.Laws.{SuitsGraph}
use Rattle.std.proofs.lemmas.List.{length-map}
use Rattle.cpg_table.proofs.TableRows.{All-left}

-- given: a graph within its limits
module _ (g : Graph) (w : IsWithinLimits g) where
  -- the variable of a lawful literal is one of the graph
  variable_there : (l : Literal) → IsLawfulLiteral (space_of (head_of g)) l → IsVariable g l.variable
  variable_there l (inl c) =
      inl (omega (arith, c.known, length-map-range_with_len (head_process g) 0 (process_count g)))
  variable_there l (inr c) = inr (c.value, omega (arith, c.known, conditions_counted g))

  -- the literals of lawful rows are on variables of the graph
  pub speak_of : (rows : List Row) → All (IsLawfulRow (space_of (head_of g))) rows → SpeakOf g rows
  speak_of rows each = All-weaker (IsLawfulRow (space_of (head_of g)))
      (λ (row : Row). All (λ (c : Column). All (λ (l : Literal). IsVariable g l.variable) c.cube) row.columns)
      (λ row r. All-weaker (IsLawfulColumn (space_of (head_of g)))
      (λ (c : Column). All (λ (l : Literal). IsVariable g l.variable) c.cube)
      (λ c k. All-weaker (IsLawfulLiteral (space_of (head_of g)))
      (λ (l : Literal). IsVariable g l.variable) variable_there c.cube k.literals) row.columns r.columns) rows each

  -- lawful tables under the head of a graph have its shape: their items are those of the graph, and rows are lawful
  pub has_shape : (tables : List NodeTable) → AreTablesOf (head_of g) tables → HasShape g tables
  has_shape tables are_tables_of = record {
    count = are_tables_of.count;
    starts = λ node l. (are_tables_of.each node l).starts ∙ starts_are g w node;
    sends = λ node l. (are_tables_of.each node l).sends ∙ sends_are g w node;
    variables = λ node l. let at : NodeTable = table_at tables node in
        speak_of (at.starts ++ at.sends) (All-left (IsLawfulRow (space_of (head_of g))) (at.starts ++ at.sends) at.hears
        (subst (All (IsLawfulRow (space_of (head_of g)))) (sym (append_assoc at.starts at.sends at.hears))
        (are_tables_of.each node l).lawful));
  }

  -- the condition of a process p that has one is numbered by how many processes before p have one: in the list of these
  -- p comes after those before it
  condition_is : (p : ℕ) → p < process_count g → is_disjunction g p ≡ true →
      condition_of g p ≡ Some (length (filter (is_disjunction g) (numbers_below p)))
  condition_is p is_process is_one =
      let before : ℕ = length (filter (is_disjunction g) (numbers_below p)) in
      let rest : List ℕ = filter (is_disjunction g) (range_with_len (p + 1) (process_count g - p - 1)) in
      let all : disjunctions g ≡ filter (is_disjunction g) (numbers_below p) ++ p ∷ rest =
      ap (λ n. filter (is_disjunction g) (numbers_below n))
      (let same : process_count g ≡ p + suc (process_count g - p - 1) = omega arith in same)
      ∙ ap (filter (is_disjunction g)) (range-append 0 p (suc (process_count g - p - 1)))
      ∙ filter-append (is_disjunction g) (numbers_below p) (range_with_len (0 + p) (suc (process_count g - p - 1)))
      ∙ ap (λ a. filter (is_disjunction g) (numbers_below p) ++ filter (is_disjunction g)
      (range_with_len a (suc (process_count g - p - 1)))) (let same : 0 + p ≡ p = omega arith in same)
      ∙ ap (λ b. filter (is_disjunction g) (numbers_below p) ++ cond b (p ∷ rest) rest) is_one in
      let here : process_of g before ≡ p =
      ap (λ ds. get_or ds before 0) all ∙ get_or-append_seam (filter (is_disjunction g) (numbers_below p)) p rest 0 in
      let within : before < condition_count g =
      omega (arith, ap length all, length-append (filter (is_disjunction g) (numbers_below p)) (p ∷ rest)) in
      ap (condition_of g) (sym here) ∙ condition_of_process_of g before within

  -- a process that is no disjunction has no condition
  condition_none : (p : ℕ) → p < process_count g → is_disjunction g p ≡ false → condition_of g p ≡ None
  condition_none p is_process isnt = none_of (condition_of g p) (has_condition g p is_process ∙ isnt)
    where
      none_of : (o : Option ℕ) → is_some o ≡ false → o ≡ None
      none_of None empty = refl
      none_of (Some c) empty = absurd (true≢false empty)

  -- how many processes before p + 1 have a condition: one more than before p if p has one
  count_next : (p : ℕ) →
      cond (is_disjunction g p) (length (filter (is_disjunction g) (numbers_below p)) + 1)
      (length (filter (is_disjunction g) (numbers_below p))) ≡ length
      (filter (is_disjunction g) (numbers_below (p + 1)))
  count_next p = step (is_disjunction g p) ∙ sym (ap length (filter_below_push (is_disjunction g) p))
    where
      -- by whether process p is a disjunction
      step : (b : Bool) →
          cond b (length (filter (is_disjunction g) (numbers_below p)) + 1)
          (length (filter (is_disjunction g) (numbers_below p))) ≡ length
          (filter (is_disjunction g) (numbers_below p) ++ cond b (p ∷ []) [])
      step true = sym (length-append (filter (is_disjunction g) (numbers_below p)) (p ∷ []))
      step false = sym (length-append (filter (is_disjunction g) (numbers_below p)) [] ∙ omega arith)

  -- the condition that the head gives a process, if c processes before it have one, is that of the graph
  flag_if : (p : ℕ) → p < process_count g → (c : ℕ) → c ≡ length (filter (is_disjunction g) (numbers_below p)) →
      (b : Bool) → is_disjunction g p ≡ b →
      cond b (Some c) None ≡ condition_of g p
  flag_if p is_process c before true answer = ap Some before ∙ sym (condition_is p is_process answer)
  flag_if p is_process c before false answer = sym (condition_none p is_process answer)

  -- from process p on, the own processes of a node under the head are those in the graph, if c processes before p have a
  -- condition; by induction on how many are left
  own_are_from : (node p n c : ℕ) → p + n ≡ process_count g → c ≡ length (filter (is_disjunction g) (numbers_below p))
      → own_from node p c (map (head_process g) (range_with_len p n))
      ≡ map (own_process g) (filter (λ q. node_of g q == node) (range_with_len p n))
  own_are_from node p zero c all_left before = refl
  own_are_from node p (suc n) c all_left before =
      let is_process : p < process_count g = omega (arith, all_left) in
      let flag : (head_process g p).condition ≡ is_disjunction g p = has_condition g p is_process in
      let next : cond (head_process g p).condition (c + 1) c
      ≡ length (filter (is_disjunction g) (numbers_below (p + 1))) =
      ap₂ (λ b k. cond b (k + 1) k) flag before ∙ count_next p in
      let is : cond (head_process g p).condition (Some c) None ≡ condition_of g p =
      ap (λ b. cond b (Some c) None) flag ∙ flag_if p is_process c before (is_disjunction g p) refl in
      let rest =
      own_are_from node (p + 1) n (cond (head_process g p).condition (c + 1) c) (omega (arith, all_left)) next in
      ap₂ (λ o os. cond (node_of g p == node)
      (record { process = p; condition = o; times = (head_process g p).times } ∷ []) [] ++ os) is rest
      ∙ step (node_of g p == node)
    where
      -- by whether process p is on the node
      step : (b : Bool) →
          cond b (own_process g p ∷ []) []
          ++ map (own_process g) (filter (λ q. node_of g q == node) (range_with_len (p + 1) n))
          ≡ map (own_process g) (cond b (p ∷ filter (λ q. node_of g q == node) (range_with_len (p + 1) n))
          (filter (λ q. node_of g q == node) (range_with_len (p + 1) n)))
      step true = refl
      step false = refl

  -- the head of a graph gives a node its own processes, with their conditions and durations
  pub own_are : (node : ℕ) → own_of (head_of g) node ≡ map (own_process g) (processes_on g node)
  own_are node = own_are_from node 0 (process_count g) 0 (omega arith) refl

  -- the table of each node under the head of a graph says what the graph says
  pub suits_graph : (tables : List NodeTable) → AreTablesOf (head_of g) tables → (node : ℕ) → node < length g.nodes →
      SuitsGraph g node (table_at tables node)
  suits_graph tables are_tables_of node inside = let at = are_tables_of.each node inside in record {
    faults = at.faults;
    first_broadcast = at.first_broadcast ∙ ap₂ ◌+◌ (length-map-range_with_len (head_process g) 0 (process_count g))
        (length-map {B = ℕ × ℕ} g.edges (λ e. (e.from, e.to)));
    own = at.own ∙ own_are node;
    hears = at.hears ∙ hears_are g w node inside;
  }
