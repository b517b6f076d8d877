-- What the node of an item has heard by the ends of its own processes.
use Rattle.std.proofs.Common.{ℕ, zero, suc, replicate, true≢false, ◌+◌, ◌<◌, ◌≤◌, ◌≡◌, Bool, true, false, List, All}
use Rattle.std.proofs.Common.{Contains, get_or, length, sym, ap, ◌∙◌, subst, arith, inl, inr, refl, le-leb}
use Rattle.std.proofs.Common.{leb-true}
use Rattle.std.specs.Bool.{OnTrue}
use Rattle.std.specs.Prelude.{slice_set}
use Rattle.std.proofs.lemmas.Bool.{OnTrue_at, and_from, and_parts, cases_eq, not-false}
use Rattle.std.proofs.lemmas.List.{get_or-set_other, get_or-set_same}
use Rattle.std.proofs.lemmas.List.Elements.{All-contains}
use Rattle.cpg_base.specs.Activity.{active}
use Rattle.cpg_base.specs.Duration.{duration}
use Rattle.cpg_base.specs.Graph.{Graph, home, item_at, item_count, process_count, process_of_variable, producer}
use Rattle.cpg_base.specs.WellFormed.{WellFormed}
use Rattle.cpg_base.proofs.Lists.{from_all}
use Rattle.cpg_base.specs.Scenario.{Scenario, IsScenario, fault_of, number_of}
use Rattle.cpg_cube.specs.Cube.{holds, matches}
use Rattle.cpg_cube.specs.declared.literal.Literal.{Literal}
use Rattle.cpg_table.specs.Heard.{facts, is_heard}
use Rattle.cpg_table.specs.Table.{NodeTable, columns_of}
use Rattle.cpg_cube.specs.declared.column.Column.{Column}
use Rattle.cpg_table.specs.Valid.{breaks_inputs_of, ends_of, is_by}
use Rattle.cpg_table.specs.declared.rule.Rule.{Rule}
use Rattle.cpg_violation.specs.Sure.{IsSure}
use Rattle.cpg_violation.specs.Violation.{AllHold, row_rules}
use Rattle.cpg_violation.proofs.Matching.{active_where, literal_active, sure_rule}
use Rattle.cpg_violation.proofs.Moments.{made, waits}
use Rattle.cpg_check_quick.specs.Hearing.{AreLeft, AreOwnEnded, IsEndedBy, IsHeardIn, IsOwnEnded, IsOwnOver}
use Rattle.cpg_check_quick.specs.HeardRows.{AreToldIn, IsToldIn}
use Rattle.cpg_check_quick.specs.Order.{IsBefore}
use Rattle.cpg_check_quick.proofs.Ends.{by_parts, over_ended}
use Rattle.cpg_check_quick.proofs.HeardLaws.{heard_end, heard_sure}

-- an item of tables that keep V1 to V3
module _ (g : Graph) (tables : List NodeTable) (rules : AllHold g tables row_rules) (x : ℕ) where
  -- a process that is always over before the item has ended by the item's columns
  pub before_ended : (q : ℕ) → q < process_count g → IsBefore g tables q x → IsEndedBy g tables q x
  before_ended q within before s c law k m is_active = over_ended g tables rules s law c.time q within
      is_active (before s c law k m)

  -- the item is one of the graph
  module _ (lx : x < item_count g) where
    -- the item is a send, as its number is no process's
    module _ (send : process_count g ≤ x) where
      -- the producer of a send at which V5 is sure has ended by the send's columns
      pub producer_ended : IsSure g tables Rule.Inputs x → IsEndedBy g tables (producer g x) x
      producer_ended sure s c law k m a =
          let at : get_or (columns_of tables x) k.0 c ≡ c = k.2 in
          let none =
          sure_rule g tables s law x lx Rule.Inputs sure k.0 c k.1 (ap (λ (c : Column). matches c.cube s) at ∙ m) in
          let here : breaks_inputs_of g tables s c.time (item_at g x) ≡ false =
          ap (λ (c : Column). breaks_inputs_of g tables s c.time (item_at g x)) (sym at) ∙ none in
          not-false (is_by c.time (ends_of g tables s (producer g x))) (sym (waits g s x lx send tables c.time) ∙ here)

      -- so has process `q`, if it is always over before the producer of a send at which V5 is sure
      pub earlier_ended : WellFormed g → (q : ℕ) → q < process_count g → IsBefore g tables q (producer g x) →
          IsSure g tables Rule.Inputs x →
          IsEndedBy g tables q x
      -- the producer is active where the send is, so it has ended, and the process was over by its start
      earlier_ended formed q within before sure s c law column_there it_matches is_active =
          let its_producer : ℕ = producer g x in
          let ended =
          producer_ended sure s c law column_there it_matches
          (made g s x lx send (active_where g tables s law x lx rules c column_there it_matches)) in
          let ran = by_parts tables its_producer s
          (λ start. start + duration g its_producer (fault_of s its_producer)) c.time ended in
          over_ended g tables rules s law c.time q within is_active
          (λ e h n. let over = before s ran.0 law ran.1 ran.2 e h n in
          omega (arith, over, ran.3))

    -- a column of the item, and a literal that it implies
    module _ (few : process_count g ≤ 128) (c : Column) (l : Literal) (there : Contains (columns_of tables x) c)
        (told : IsToldIn c.cube l) where
      -- where the column matches, the literal's process is active (V1)
      active_here : (s : Scenario) → IsScenario g s → matches c.cube s ≡ true →
          active g s.values (process_of_variable g l.variable) ≡ true
      active_here s law it_matches = subst (λ v. active g s.values (process_of_variable g v) ≡ true) told.variable
          (literal_active g tables s law x lx rules c there it_matches told.by told.there)

      -- where the column matches, the literal holds
      holds_here : (s : Scenario) → matches c.cube s ≡ true → holds s l ≡ true
      holds_here s it_matches =
          let inside = and_parts _ _ (from_all (holds s) c.cube told.by it_matches told.there) in
          let from : told.by.low ≤ number_of s l.variable =
          subst (λ v. told.by.low ≤ number_of s v) told.variable (leb-true _ _ inside.0) in
          let to : number_of s l.variable ≤ told.by.high =
          subst (λ v. number_of s v ≤ told.by.high) told.variable (leb-true _ _ inside.1) in
          and_from _ _ (le-leb l.low (number_of s l.variable) (omega (arith, told.low, from)))
          (le-leb (number_of s l.variable) l.high (omega (arith, to, told.high)))

      -- the literal is heard if its process is on the node and has always ended by the item's columns
      pub ended_heard : IsOwnEnded g tables x l.variable → IsHeardIn g tables (home g x) c l
      ended_heard own s law it_matches =
          let on : active g s.values own.process ≡ true =
          ap (active g s.values) (sym own.owner.owner) ∙ active_here s law it_matches in
          heard_end g tables (home g x) c.time s l own.process few own.owner.within own.near
          (own.ended s c law there it_matches on) own.owner.known own.owner.owner (holds_here s it_matches)

      -- where the column matches, the literal is heard if its process is on the node and over by the column's time
      pub over_heard : (s : Scenario) → IsScenario g s → matches c.cube s ≡ true →
          IsOwnOver g tables (home g x) l.variable c.time s →
          is_heard g.faults (facts g tables (home g x) s c.time) l ≡ true
      over_heard s law it_matches own =
          let on : active g s.values own.process ≡ true =
          ap (active g s.values) (sym own.owner.owner) ∙ active_here s law it_matches in
          heard_end g tables (home g x) c.time s l own.process few own.owner.within own.near
          (over_ended g tables rules s law c.time own.process own.owner.within on own.over) own.owner.known
          own.owner.owner (holds_here s it_matches)

    -- V4 is sure at the item if all literals of its columns are on variables that `known` marks, whose processes have
    -- always ended by then
    pub known_sure : process_count g ≤ 128 → (known : List Bool) → AreOwnEnded g tables x known →
        All (λ (c : Column). All (λ (l : Literal). get_or known l.variable false ≡ true) c.cube) (columns_of tables x) →
        IsSure g tables Rule.Heard x
    known_sure few known own all = heard_sure g tables x (λ c l there h.
        let marked = All-contains (λ (l : Literal). get_or known l.variable false ≡ true) c.cube l
        (All-contains (λ (c : Column). All (λ (l : Literal). get_or known l.variable false ≡ true) c.cube)
        (columns_of tables x) c all there) h in
        ended_heard few c l there (record { by = l; there = h; variable = refl; low = omega arith; high = omega arith })
        (own l.variable marked))

    -- a column of the item
    module _ (few : process_count g ≤ 128) (c : Column) (k : Contains (columns_of tables x) c) where
      -- each literal `l` of column `c` on a variable that `known` marks is heard
      pub known_heard : (known : List Bool) → AreOwnEnded g tables x known → (l : Literal) → Contains c.cube l →
          get_or known l.variable false ≡ true →
          IsHeardIn g tables (home g x) c l
      known_heard known own l among marked = ended_heard few c l k
          (record { by = l; there = among; variable = refl; low = omega arith; high = omega arith })
          (own l.variable marked)

      -- the `wanted` literals of column `c` are heard, if the processes of those that are `left` are on the node and
      -- over by the column's time
      pub left_heard : (wanted left : List Literal) → AreToldIn c.cube wanted →
          AreLeft g tables (home g x) c wanted left
          → ((s : Scenario) → IsScenario g s → matches c.cube s ≡ true →
          All (λ (l : Literal). IsOwnOver g tables (home g x) l.variable c.time s) left)
          → (l : Literal) → Contains wanted l → IsHeardIn g tables (home g x) c l
      left_heard wanted left wider are over l there = elim (are.heard l there) [
        | inl kept ↦ λ s law it_matches. over_heard few c l k (wider l there) s law it_matches (All-contains
            (λ (l : Literal). IsOwnOver g tables (home g x) l.variable c.time s) left l (over s law it_matches) kept)
        | inr heard ↦ heard
      ]

-- the marks stay right when variable `k` is marked anew, if it is marked only where its process has always ended
pub own_more : (g : Graph) (tables : List NodeTable) (x : ℕ) (known : List Bool) (k : ℕ) (b : Bool) → k < length known →
    AreOwnEnded g tables x known →
    OnTrue b (IsOwnEnded g tables x k) →
    AreOwnEnded g tables x (slice_set known k b)
own_more g tables x known k b within before here v t = elim (cases_eq v k) [
  | inl same ↦ subst (IsOwnEnded g tables x) (sym same) (OnTrue_at (sym (get_or-set_same known k b false within)
      ∙ ap (λ j. get_or (slice_set known k b) j false) (sym same) ∙ t) here)
  | inr other ↦ before v (sym (get_or-set_other known k v b false other) ∙ t)
]

-- at first no variable `v` is marked
pub none_marked : (n v : ℕ) → get_or (replicate n false) v false ≡ true → ⊥
none_marked zero v holds = true≢false (sym holds)
none_marked (suc n) zero holds = true≢false (sym holds)
none_marked (suc n) (suc v) holds = none_marked n v holds
