-- Of what is first there is one: one part in which a head first differs, one first violation of node tables, so one
-- verdict.
use Rattle.std.proofs.Common.{ℕ, zero, suc, ◌≡◌, ◌<◌, ◌∙◌, Bool, true, false, ◌&&◌, ◌||◌, List, [], ◌∷◌, Option, Some}
use Rattle.std.proofs.Common.{None, IfSome, IsPermutation, length, take, drop, refl, sym, ap, subst, inl, inr}
use Rattle.std.proofs.Common.{arith}
use Rattle.std.specs.Prelude.{slice_get, IsSomeAnd, IsTrue}
use Rattle.std.specs.List.{list_any}
use Rattle.std.proofs.lemmas.Bool.{both_ways, cases_lt, true≢false}
use Rattle.cpg_base.specs.Numbers.{numbers_below}
use Rattle.cpg_base.specs.Graph.{Graph, process_count}
use Rattle.cpg_base.specs.Scenario.{Scenario, IsScenario, IsLeast}
use Rattle.cpg_order.specs.Urgency.{IsTopological}
use Rattle.cpg_base.proofs.ScenarioOrder.{one_least}
use Rattle.cpg_cube.specs.Cube.{matches}
use Rattle.cpg_head.specs.Head.{Head}
use Rattle.cpg_table.specs.Lawful.{Tables}
use Rattle.cpg_table.specs.Table.{NodeTable, table_at, columns_of}
use Rattle.cpg_cube.specs.declared.column.Column.{Column}
use Rattle.cpg_table.specs.Valid.{breaks, breaks_at}
use Rattle.cpg_table.specs.declared.fault.Fault.{Fault}
use Rattle.cpg_table.specs.declared.rule.Rule.{Rule}
use Rattle.cpg_table.specs.Found.{row_columns}
use Rattle.cpg_violation.specs.Violation.{AllHold, Holds, IsFirstOf, IsFirstViolation, column_rules}
use Rattle.cpg_check_rows.specs.Hears.{DifferFirstAt, IsFirstHear, IsFirstHearFault, IsHeardWell, due_columns}
use Rattle.cpg_violation.specs.Heads.{IsFirstDifference}
use Rattle.cpg_check.specs.OneVerdict.{HaveOneVerdict}
use Rattle.cpg_check.specs.Verdict.{IsFirstFault, ShowsVerdict}
use Rattle.cpg_violation.specs.declared.heads.HeadPart.{HeadPart}
use Rattle.cpg_check.specs.declared.verdict.Verdict.{Verdict}
use Rattle.cpg_check.specs.declared.verdict.Verdict.TheVariants.{Yes, Other, No}
use Rattle.cpg_check.proofs.Verdicts.{other_head, faulty_tables}

-- ---- heads

-- head `h` first differs from the graph's in one part, so `p` and `q` are equal: of two such parts, the later one says
-- that the earlier is equal
one_part : (g : Graph) (h : Head) (p q : HeadPart) → IsFirstDifference g h p → IsFirstDifference g h q → p ≡ q
one_part g h HeadPart.Faults HeadPart.Faults first_p first_q = refl
one_part g h HeadPart.Faults HeadPart.Nodes first_p first_q = absurd (first_p first_q.faults)
one_part g h HeadPart.Faults HeadPart.Processes first_p first_q = absurd (first_p first_q.faults)
one_part g h HeadPart.Faults HeadPart.Edges first_p first_q = absurd (first_p first_q.faults)
one_part g h HeadPart.Nodes HeadPart.Faults first_p first_q = absurd (first_q first_p.faults)
one_part g h HeadPart.Nodes HeadPart.Nodes first_p first_q = refl
one_part g h HeadPart.Nodes HeadPart.Processes first_p first_q = absurd (first_p.nodes first_q.nodes)
one_part g h HeadPart.Nodes HeadPart.Edges first_p first_q = absurd (first_p.nodes first_q.nodes)
one_part g h HeadPart.Processes HeadPart.Faults first_p first_q = absurd (first_q first_p.faults)
one_part g h HeadPart.Processes HeadPart.Nodes first_p first_q = absurd (first_q.nodes first_p.nodes)
one_part g h HeadPart.Processes HeadPart.Processes first_p first_q = refl
one_part g h HeadPart.Processes HeadPart.Edges first_p first_q = absurd (first_p.processes first_q.processes)
one_part g h HeadPart.Edges HeadPart.Faults first_p first_q = absurd (first_q first_p.faults)
one_part g h HeadPart.Edges HeadPart.Nodes first_p first_q = absurd (first_q.nodes first_p.nodes)
one_part g h HeadPart.Edges HeadPart.Processes first_p first_q = absurd (first_q.processes first_p.processes)
one_part g h HeadPart.Edges HeadPart.Edges first_p first_q = refl

-- ---- faults by their parts

-- a violation with these fields
fault_of : ℕ → ℕ → Option ℕ → Scenario → Fault
fault_of rule item column scenario = record { rule = rule; item = item; column = column; scenario = scenario }

-- violations `e` and `f` with the same rule, item, column and scenario are the same
same_fault : (e f : Fault) → e.rule ≡ f.rule → e.item ≡ f.item → e.column ≡ f.column → e.scenario ≡ f.scenario → e ≡ f
unfolding fault_of
same_fault e f rule item column scenario =
    ap (λ r. fault_of r e.item e.column e.scenario) rule ∙ ap (λ i. fault_of f.rule i e.column e.scenario) item
    ∙ ap (λ c. fault_of f.rule f.item c e.scenario) column ∙ ap (λ s. fault_of f.rule f.item f.column s) scenario

-- numbers `n` and `m` of which neither is less than the other are equal
same_number : (n m : ℕ) → (n < m → ⊥) → (m < n → ⊥) → n ≡ m
same_number n m not_below not_above = elim (cases_lt n m) [
  | inl less ↦ absurd (not_below less)
  | inr not_less ↦ elim (cases_lt m n) [
    | inl more ↦ absurd (not_above more)
    | inr not_more ↦ omega (arith, not_less, not_more)
  ]
]

-- ---- V1 to V9

-- given: node tables
module _ (g : Graph) (tables : List NodeTable) where
  -- if `r` is false, so is the test that passes if both `b` and `false` do, or `r` does
  off : (b r : Bool) → r ≡ false → ((b && false) || r) ≡ false
  off true r fails = fails
  off false r fails = fails

  -- V3 is broken at no column: it asks only whether some column matches; by induction on `cs`
  present_never : (s : Scenario) (x : ℕ) (earlier cs : List Column) →
      list_any (breaks_at Rule.Present g tables s x earlier) cs ≡ false
  present_never s x earlier [] = refl
  present_never s x earlier (c ∷ cs) =
      off (matches c.cube s) (list_any (breaks_at Rule.Present g tables s x earlier) cs) (present_never s x earlier cs)

  -- a rule is broken at item `x` only at columns, or only for lack of one (V3), not both
  none_or_some : (rule : Rule) (s t : Scenario) (x i : ℕ) → breaks rule g tables s x None ≡ true →
      breaks rule g tables t x (Some i) ≡ true → ⊥
  none_or_some Rule.Present s t x i none_breaks some_breaks = both_ways (breaks Rule.Present g tables t x (Some i))
      (present_never t x (take i (columns_of tables x)) (take 1 (drop i (columns_of tables x)))) some_breaks
  none_or_some Rule.Activity s t x i none_breaks some_breaks = true≢false (sym none_breaks)
  none_or_some Rule.Single s t x i none_breaks some_breaks = true≢false (sym none_breaks)
  none_or_some Rule.Heard s t x i none_breaks some_breaks = true≢false (sym none_breaks)
  none_or_some Rule.Inputs s t x i none_breaks some_breaks = true≢false (sym none_breaks)
  none_or_some Rule.Processor s t x i none_breaks some_breaks = true≢false (sym none_breaks)
  none_or_some Rule.Slot s t x i none_breaks some_breaks = true≢false (sym none_breaks)
  none_or_some Rule.Frozen s t x i none_breaks some_breaks = true≢false (sym none_breaks)
  none_or_some Rule.Due s t x i none_breaks some_breaks = true≢false (sym none_breaks)
  none_or_some Rule.Hears s t x i none_breaks some_breaks = true≢false (sym none_breaks)

  -- given: a rule, and an item
  module _ (rule : Rule) (x : ℕ) where
    -- the rule is broken at no column before this one in any scenario
    abbrev Before : Option ℕ → Type 0
    Before column =
        IfSome column (λ j. (i : ℕ) (s : Scenario) → i < j → IsScenario g s → breaks rule g tables s x (Some i) ≡ false)

    -- the first column at which the rule is broken is one, so `c` and `d` are equal: of two, the earlier is before the
    -- later, where it isn't broken
    one_column : (c d : Option ℕ) (s t : Scenario) → IsScenario g s → IsScenario g t →
        breaks rule g tables s x c ≡ true → breaks rule g tables t x d ≡ true → Before c → Before d → c ≡ d
    one_column None None s t is it breaks_c breaks_d before earlier = refl
    one_column None (Some j) s t is it breaks_c breaks_d before earlier =
        absurd (none_or_some rule s t x j breaks_c breaks_d)
    one_column (Some i) None s t is it breaks_c breaks_d before earlier =
        absurd (none_or_some rule t s x i breaks_d breaks_c)
    one_column (Some i) (Some j) s t is it breaks_c breaks_d before earlier = ap Some (same_number i j
        (λ less. both_ways (breaks rule g tables s x (Some i)) (earlier i s less is) breaks_c)
        (λ less. both_ways (breaks rule g tables t x (Some j)) (before j t less it) breaks_d))

  -- given: an order of all processes
  module _ (order : List ℕ) (all : IsPermutation (numbers_below (process_count g)) order) where
    -- the scenario is the least in which the rule is broken at this item and column
    abbrev LeastAt : Rule → ℕ → Option ℕ → Scenario → Type 0
    LeastAt rule x column s = IsLeast g order (λ t. IsTrue (breaks rule g tables t x column)) s

    -- first violations `e` and `f` of `rule` are one: the item is the least at which `rule` is broken, so one; then the
    -- column is the first there, and the scenario the least there
    one_violation : (rule : Rule) (e f : Fault) → IsFirstViolation g order tables rule e →
        IsFirstViolation g order tables rule f → e ≡ f
    one_violation rule e f first_e first_f =
        let item : e.item ≡ f.item = same_number e.item f.item
        (λ less. both_ways (breaks rule g tables e.scenario e.item e.column)
        (first_f.items e.item e.column e.scenario less first_e.least.lawful) first_e.least.holds)
        (λ less. both_ways (breaks rule g tables f.scenario f.item f.column)
        (first_e.items f.item f.column f.scenario less first_f.least.lawful) first_f.least.holds) in
        let moved : LeastAt rule f.item e.column e.scenario =
        subst (λ x. LeastAt rule x e.column e.scenario) item first_e.least in
        let column : e.column ≡ f.column =
        one_column rule f.item e.column f.column e.scenario f.scenario first_e.least.lawful
        first_f.least.lawful moved.holds first_f.least.holds
        (subst (λ x. Before rule x e.column) item first_e.columns) first_f.columns in
        let here : LeastAt rule f.item f.column e.scenario =
        subst (λ c. LeastAt rule f.item c e.scenario) column moved in
        same_fault e f (first_e.number ∙ sym first_f.number) item column (one_least g order all
        (λ t. IsTrue (breaks rule g tables t f.item f.column)) e.scenario f.scenario here first_f.least)

    -- a rule that holds has no first violation
    broken : (rule : Rule) (e : Fault) → IsFirstViolation g order tables rule e → Holds g tables rule → ⊥
    broken rule e is_first holds = both_ways (breaks rule g tables e.scenario e.item e.column)
        (holds e.item e.column e.scenario is_first.least.lawful is_first.item) is_first.least.holds

    -- rules that all hold have no first violation
    some_broken : (rules : List Rule) (e : Fault) → IsFirstOf g order tables rules e → AllHold g tables rules → ⊥
    some_broken [] e is_first all = is_first
    some_broken (rule ∷ rules) e (inl is_first) all = broken rule e is_first all.0
    some_broken (rule ∷ rules) e (inr is_first) all = some_broken rules e is_first.1 all.1

    -- first violations `e` and `f` of `rules`, one after another, are one: they are of the first rule that doesn't hold
    one_of : (rules : List Rule) (e f : Fault) → IsFirstOf g order tables rules e → IsFirstOf g order tables rules f →
        e ≡ f
    one_of [] e f first_e first_f = absurd first_e
    one_of (rule ∷ rules) e f (inl first_e) (inl first_f) = one_violation rule e f first_e first_f
    one_of (rule ∷ rules) e f (inl first_e) (inr first_f) = absurd (broken rule e first_e first_f.0)
    one_of (rule ∷ rules) e f (inr first_e) (inl first_f) = absurd (broken rule f first_f first_e.0)
    one_of (rule ∷ rules) e f (inr first_e) (inr first_f) = one_of rules e f first_e.1 first_f.1

-- ---- V10

-- if `r` is no row, or a row with just these columns, it doesn't first differ from them at a place
differ : (columns : List Column) (place : ℕ) (r : Option (List Column)) → IfSome r (λ cs. cs ≡ columns) →
    IsSomeAnd r (λ cs. DifferFirstAt cs columns place) → ⊥
differ columns place None same differs = differs
differ columns place (Some cs) same differs = differs.here (ap (λ xs. slice_get xs place) same)

-- the first `j` columns have the same column as all at a place below `j`
slice_get-take : (xs : List Column) (i j : ℕ) → i < j → slice_get (take j xs) i ≡ slice_get xs i
slice_get-take xs i zero below = absurd (omega arith)
slice_get-take [] i (suc j) below = refl
slice_get-take (x ∷ xs) zero (suc j) below = refl
slice_get-take (x ∷ xs) (suc i) (suc j) below = slice_get-take xs i j (omega arith)

-- lists of which the first `j` columns are equal have the same column at a place below `j`
taken : (xs ys : List Column) (i j : ℕ) → i < j → take j xs ≡ take j ys → slice_get xs i ≡ slice_get ys i
taken xs ys i j below same = sym (slice_get-take xs i j below) ∙ ap (λ zs. slice_get zs i) same
    ∙ slice_get-take ys i j below

-- a row `r` first differs from columns at one place, so `i` and `j` are equal: if one were later, row and columns would
-- agree at the earlier one
one_place : (columns : List Column) (i j : ℕ) (r : Option (List Column)) →
    IsSomeAnd r (λ cs. DifferFirstAt cs columns i) → IsSomeAnd r (λ cs. DifferFirstAt cs columns j) → i ≡ j
one_place columns i j None differ_i differ_j = absurd differ_i
one_place columns i j (Some cs) differ_i differ_j =
    same_number i j (λ less. differ_i.here (taken cs columns i j less differ_j.before))
    (λ less. differ_j.here (taken cs columns j i less differ_i.before))

-- given: node tables
module _ (g : Graph) (tables : List NodeTable) where
  -- some node hears item `x` by other columns than are due, and this is the first place that differs at the least such
  -- node
  abbrev FirstAt : ℕ → Option ℕ → Type 0
  FirstAt x o = IsSomeAnd o (IsFirstHear tables (length g.nodes) x (due_columns g tables x))

  -- an item that is heard well is heard by other columns than are due at no node
  heard_badly : (x : ℕ) (o : Option ℕ) → FirstAt x o → IsHeardWell g tables x → ⊥
  heard_badly x None first_heard well = first_heard
  heard_badly x (Some place) first_heard well = differ (due_columns g tables x) place
      (row_columns (table_at tables first_heard.node).hears x)
      (well first_heard.node first_heard.within) first_heard.differ

  -- item `x` is first heard otherwise at one place, so `o` and `p` are equal: the least such node is one, and so is the
  -- place there
  one_hear_place : (x : ℕ) (o p : Option ℕ) → FirstAt x o → FirstAt x p → o ≡ p
  one_hear_place x None p first_o first_p = absurd first_o
  one_hear_place x (Some i) None first_o first_p = absurd first_p
  one_hear_place x (Some i) (Some j) first_o first_p =
      let columns = due_columns g tables x in
      let node : first_o.node ≡ first_p.node = same_number first_o.node first_p.node
      (λ less. differ columns i (row_columns (table_at tables first_o.node).hears x)
      (first_p.earlier first_o.node less) first_o.differ)
      (λ less. differ columns j (row_columns (table_at tables first_p.node).hears x)
      (first_o.earlier first_p.node less) first_p.differ) in
      ap Some (one_place columns i j (row_columns (table_at tables first_p.node).hears x)
      (subst (λ n. IsSomeAnd (row_columns (table_at tables n).hears x) (λ cs. DifferFirstAt cs columns i)) node
      first_o.differ) first_p.differ)

  -- first violations `e` and `f` of V10 are one: the item is the least that isn't heard well, so one, and the place is
  -- the first there
  one_hear : (e f : Fault) → IsFirstHearFault g tables e → IsFirstHearFault g tables f → e ≡ f
  one_hear e f first_e first_f =
      let item : e.item ≡ f.item = same_number e.item f.item
      (λ less. heard_badly e.item e.column first_e.column (first_f.items e.item less))
      (λ less. heard_badly f.item f.column first_f.column (first_e.items f.item less)) in
      same_fault e f (first_e.number ∙ sym first_f.number) item
      (one_hear_place f.item e.column f.column (subst (λ x. FirstAt x e.column) item first_e.column) first_f.column)
      (first_e.scenario ∙ sym first_f.scenario)

  -- first violations `e` and `f` of node tables are one: they are of V10 only if the other nine rules hold
  one_fault : (order : List ℕ) (e f : Fault) → IsTopological g order → IsFirstFault g order tables e →
      IsFirstFault g order tables f → e ≡ f
  one_fault order e f along (inl first_e) (inl first_f) =
      one_of g tables order along.all column_rules e f first_e first_f
  one_fault order e f along (inl first_e) (inr first_f) =
      absurd (some_broken g tables order along.all column_rules e first_e first_f.0)
  one_fault order e f along (inr first_e) (inl first_f) =
      absurd (some_broken g tables order along.all column_rules f first_f first_e.0)
  one_fault order e f along (inr first_e) (inr first_f) = one_hear e f first_e.1 first_f.1

-- ---- verdicts

-- of two verdicts `v` and `w` that are shown, neither excludes the other, so they are of one kind; and of each kind
-- there is one
one_verdict : (g : Graph) (order : List ℕ) (t : Tables) (v w : Verdict) → IsTopological g order →
    length t.nodes ≡ length g.nodes → ShowsVerdict g order t v → ShowsVerdict g order t w → v ≡ w
one_verdict g order t Yes Yes along count shows_v shows_w = refl
one_verdict g order t Yes (Other q) along count shows_v shows_w = absurd (other_head g t.head q shows_w shows_v.0)
one_verdict g order t Yes (No f) along count shows_v shows_w =
    absurd (faulty_tables g t.nodes order f count shows_w.1 shows_v.1)
one_verdict g order t (Other p) Yes along count shows_v shows_w = absurd (other_head g t.head p shows_v shows_w.0)
one_verdict g order t (Other p) (Other q) along count shows_v shows_w = ap Other (one_part g t.head p q shows_v shows_w)
one_verdict g order t (Other p) (No f) along count shows_v shows_w = absurd (other_head g t.head p shows_v shows_w.0)
one_verdict g order t (No e) Yes along count shows_v shows_w =
    absurd (faulty_tables g t.nodes order e count shows_v.1 shows_w.1)
one_verdict g order t (No e) (Other q) along count shows_v shows_w = absurd (other_head g t.head q shows_w shows_v.0)
one_verdict g order t (No e) (No f) along count shows_v shows_w =
    ap No (one_fault g t.nodes order e f along shows_v.1 shows_w.1)

-- a check has one answer: one part in which the head first differs, or one first violation, or neither
pub have_one_verdict : HaveOneVerdict
have_one_verdict = record {
  parts = one_part;
  faults = λ g order tables. one_fault g tables order;
  verdicts = one_verdict;
}
