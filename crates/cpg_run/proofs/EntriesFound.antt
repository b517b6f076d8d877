-- The entries of an item are found scenario by scenario: one that is the least of the cube carried in it gets an entry, and any
-- other is passed over.
use Rattle.std.proofs.Common.{ℕ, ◌<◌, ◌≡◌, ◌≢◌, false, List, [], ◌∷◌, ◌++◌, length, map, take, get_or, Contains}
use Rattle.std.proofs.Common.{AllPairs, Option, arith, sym, ap, ◌∙◌, subst, inl, inr, length-take}
use Rattle.std.proofs.lemmas.Bool.{both_ways}
use Rattle.std.proofs.lemmas.List.{get_or-take, get_or_default}
use Rattle.std.proofs.lemmas.List.Elements.{Contains-append_cases, Contains-append_left, Contains-append_right}
use Rattle.cpg_base.specs.Graph.{Graph, item_at}
use Rattle.cpg_base.specs.Activity.{item_active}
use Rattle.cpg_base.proofs.Lists.{Contains-first, Contains-map, Contains-map_parts, Contains-nil}
use Rattle.cpg_base.proofs.Pairs.{AllPairs-nil, AllPairs-cons_by, AllPairs-append}
use Rattle.cpg_base.specs.Scenario.{Scenario, IsScenario}
use Rattle.cpg_cube.specs.declared.literal.Literal.{Literal}
use Rattle.cpg_cube.specs.Fit.{lows}
use Rattle.cpg_cube.specs.declared.column.Column.{Column}
use Rattle.cpg_run.specs.Carried.{carried}
use Rattle.cpg_run.specs.Rows.{IsCubeOf, IsEntryIn, AreEntriesOf}
use Rattle.cpg_run.proofs.CubesOf.{same_least}
use Rattle.cpg_run.proofs.SameInRows.{only_one}

-- in a list `xs` without repeats, the element at place i is not among those before it
pub not_before_place : {X : Type 0} (xs : List X) (i : ℕ) (d : X) → AllPairs (λ x y. x ≢ y) xs → i < length xs →
    Contains (take i xs) (get_or xs i d) → ⊥
not_before_place {X} xs i d apart inside among_before =
    let x : X = get_or xs i d in
    let long = length-take i xs in
    let below : among_before.0 < i = omega (arith, among_before.1, long) in
    apart among_before.0 i d below inside
    (get_or_default xs among_before.0 d x (omega (arith, below, inside)) ∙ sym (get_or-take i xs among_before.0 x below)
    ∙ among_before.2)

-- given: the rows and an item x, whose entries are found scenario by scenario
module _ (g : Graph) (order : List ℕ) (frozen : List (Option ℕ)) (rows : List (List Column)) (x : ℕ) where
  -- `entries` are the entries whose least scenarios are among those done: each is an entry, no two have the same least scenario,
  -- and every such entry's is there
  pub record AreEntriesAmong (done : List Scenario) (entries : List Column) : Type 0 where
    -- each is the entry for the least scenario of its cube
    pub each : (e : Column) → Contains entries e → IsEntryIn g order frozen rows x (lows g e.cube) e
    -- that scenario is among those done
    pub among : (e : Column) → Contains entries e → Contains done (lows g e.cube)
    -- no two have the same least scenario
    pub apart : AllPairs (λ d e. lows g d.cube ≢ lows g e.cube) entries
    -- each scenario done that is the least of its entry has it in the list
    pub all : (s : Scenario) (e : Column) → Contains done s → IsEntryIn g order frozen rows x s e → lows g e.cube ≡ s →
        Contains (map (λ d. lows g d.cube) entries) s

  -- before the first scenario there are no entries
  pub none_yet : AreEntriesAmong [] []
  none_yet = record {
    each = λ e j. absurd (Contains-nil e j);
    among = λ e j. absurd (Contains-nil e j);
    apart = AllPairs-nil (λ (d e : Column). lows g d.cube ≢ lows g e.cube);
    all = λ s e j. absurd (Contains-nil s j);
  }

  -- given: the entries of the scenarios that are done (`so_far`), and a scenario s
  module _ (done : List Scenario) (entries : List Column) (so_far : AreEntriesAmong done entries) (s : Scenario) where
    -- a scenario that isn't the least of any entry in it adds none
    pass_over : ((e : Column) → IsEntryIn g order frozen rows x s e → lows g e.cube ≡ s → ⊥) →
        AreEntriesAmong (done ++ s ∷ []) entries
    pass_over never = record {
      each = so_far.each;
      among = λ e j. Contains-append_left done (s ∷ []) (lows g e.cube) (so_far.among e j);
      apart = so_far.apart;
      all = λ u e j is least. elim (Contains-append_cases done (s ∷ []) u j) [
        | inl in_left ↦ so_far.all u e in_left is least
        | inr in_right ↦ let same = only_one s u in_right in
            absurd (never e (subst (λ v. IsEntryIn g order frozen rows x v e) (sym same) is) (least ∙ sym same))
      ];
    }

    -- a scenario in which the item is inactive has no entry
    pub passed_inactive : item_active g s.values (item_at g x) ≡ false → AreEntriesAmong (done ++ s ∷ []) entries
    passed_inactive off = pass_over (λ e is least. both_ways _ off is.active)

    -- a scenario that isn't the least of its cube has no entry
    pub passed_other : (cube : List Literal) → IsCubeOf g.faults (carried g order rows s x) cube → lows g cube ≢ s →
        AreEntriesAmong (done ++ s ∷ []) entries
    passed_other cube is other =
        pass_over (λ e entry least. other (same_least g (carried g order rows s x) cube e.cube is entry.cube ∙ least))

    -- If the scenario s isn't done yet and is the least of the cube of its entry e, e is added: the entries so far stay, and no two
    -- have the same least scenario, since those so far are among the scenarios done.
    pub taken : (e : Column) → IsEntryIn g order frozen rows x s e → lows g e.cube ≡ s → (Contains done s → ⊥) →
        AreEntriesAmong (done ++ s ∷ []) (entries ++ e ∷ [])
    taken e is least new = record {
      -- an entry was there before, or is e
      each = λ d j. elim (Contains-append_cases entries (e ∷ []) d j) [
        | inl in_left ↦ so_far.each d in_left
        | inr in_right ↦ subst (λ d. IsEntryIn g order frozen rows x (lows g d.cube) d) (only_one e d in_right)
            (subst (λ u. IsEntryIn g order frozen rows x u e) (sym least) is)
      ];
      among = λ d j. elim (Contains-append_cases entries (e ∷ []) d j) [
        | inl in_left ↦ Contains-append_left done (s ∷ []) (lows g d.cube) (so_far.among d in_left)
        | inr in_right ↦
            subst (λ d. Contains (done ++ s ∷ []) (lows g d.cube)) (only_one e d in_right)
            (subst (Contains (done ++ s ∷ []))
            (sym least) (Contains-append_right done (s ∷ []) s (Contains-first s [])))
      ];
      -- an entry with the least scenario s would be among those done, but s is new
      apart = AllPairs-append (λ (d e : Column). lows g d.cube ≢ lows g e.cube) entries (e ∷ []) so_far.apart
          (AllPairs-cons_by (λ (d e : Column). lows g d.cube ≢ lows g e.cube) e [] (λ y j. absurd (Contains-nil y j))
          (AllPairs-nil (λ (d e : Column). lows g d.cube ≢ lows g e.cube)))
          (λ d f i j same. new (subst (Contains done)
          (same ∙ ap (λ (c : Column). lows g c.cube) (sym (only_one e f j)) ∙ least) (so_far.among d i)));
      -- a scenario done before has its entry among those so far, and s has e
      all = λ u d j entry lowest. elim (Contains-append_cases done (s ∷ []) u j) [
        | inl in_left ↦
            let of_entry = Contains-map_parts (λ (c : Column). lows g c.cube) entries u
            (so_far.all u d in_left entry lowest) in
            subst (Contains (map (λ (c : Column). lows g c.cube) (entries ++ e ∷ []))) of_entry.2
            (Contains-map (λ (c : Column). lows g c.cube) (entries ++ e ∷ []) of_entry.0
            (Contains-append_left entries (e ∷ []) of_entry.0 of_entry.1))
        | inr in_right ↦
            subst (Contains (map (λ (c : Column). lows g c.cube) (entries ++ e ∷ []))) (least ∙ only_one s u in_right)
            (Contains-map (λ (c : Column). lows g c.cube) (entries ++ e ∷ []) e
            (Contains-append_right entries (e ∷ []) e (Contains-first e [])))
      ];
    }

  -- once every scenario of the graph is done, these are the entries of the item
  pub all_found : (done : List Scenario) (entries : List Column) → AreEntriesAmong done entries →
      ((s : Scenario) → IsScenario g s → Contains done s) →
      AreEntriesOf g order frozen rows x entries
  all_found done entries so_far every = record {
    each = so_far.each;
    apart = so_far.apart;
    all = λ s e is least. so_far.all s e (every s is.lawful) is least;
  }
