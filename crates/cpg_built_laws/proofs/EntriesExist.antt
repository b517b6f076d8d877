-- An item has entries: one for each group of scenarios in which the same literals are carried beside its time.
use Rattle.std.proofs.Common.{◌≡◌, ◌≢◌, ◌∙◌, ℕ, ◌<◌, ◌⊎◌, true, false, List, [], ◌∷◌, map, get_or, AllPairs, Contains}
use Rattle.std.proofs.Common.{Option, Some, None, refl, sym, ap, subst, inl, inr}
use Rattle.std.proofs.lemmas.Bool.{cases_Bool, both_ways}
use Rattle.cpg_base.specs.Graph.{Graph, item_count, item_at}
use Rattle.cpg_base.specs.Activity.{item_active}
use Rattle.cpg_base.specs.Scenario.{Scenario, IsScenario, is_before}
use Rattle.cpg_base.proofs.Lists.{Contains-first, Contains-rest, Contains-cases, Contains-nil}
use Rattle.cpg_base.proofs.Pairs.{AllPairs-nil, AllPairs-cons_by}
use Rattle.cpg_base.proofs.ScenarioOrder.{before_irreflexive, before_total}
use Rattle.cpg_order.specs.Scenario.{scenarios}
use Rattle.cpg_order.proofs.Scenarios.{Contains-scenarios, scenario_lawful}
use Rattle.cpg_cube.specs.declared.column.Column.{Column}
use Rattle.cpg_cube.specs.Fit.{lows}
use Rattle.cpg_cube.specs.declared.literal.Literal.{Literal}
use Rattle.cpg_run.specs.Carried.{carried}
use Rattle.cpg_run.specs.RowLaws.{IsTimed, AreRowsFor}
use Rattle.cpg_run.specs.Rows.{IsEntryIn, AreEntriesOf}
use Rattle.cpg_run.specs.Run.{Times, time_in}
use Rattle.cpg_run.proofs.CubesOf.{cube_of, cube_there, same_least}
use Rattle.cpg_run.proofs.EntriesMerge.{entry_of_least}
use Rattle.cpg_run.proofs.RunExists.{a_run}
use Rattle.cpg_run.proofs.RunUnique.{run_unique}
use Rattle.cpg_run.proofs.Runs.{has_time}

-- given: an admitted graph, and the frozen times of an order
module _ (g : Graph) (urgency order : List ℕ) (frozen : List (Option ℕ)) (timed : IsTimed g urgency order frozen) where
  -- two scenarios are the same or differ: neither is before the other along the order just if they are the same
  one_or_two : (s t : Scenario) → IsScenario g s → IsScenario g t → (s ≡ t) ⊎ (s ≢ t)
  one_or_two s t s_lawful t_lawful = elim (cases_Bool (is_before g urgency s t)) [
    | inl before ↦ inr (λ same. both_ways (is_before g urgency s t)
        (subst (λ u. is_before g urgency s u ≡ false) same (before_irreflexive g urgency s)) before)
    | inr no_sooner ↦ elim (cases_Bool (is_before g urgency t s)) [
      | inl after ↦ inr (λ same. both_ways (is_before g urgency t s)
          (subst (λ u. is_before g urgency u s ≡ false) same (before_irreflexive g urgency s)) after)
      | inr no_later ↦ inl (before_total g urgency timed.admitted.urgent.all s t s_lawful t_lawful no_sooner no_later)
    ]
  ]

  -- given: the rows of the items before this one
  module _ (rows : List (List Column)) (x : ℕ) (l : x < item_count g) (earlier : AreRowsFor g order frozen x rows) where
    -- e is the entry of the least scenario of its cube
    abbrev pub IsOwn : Column → Type 0
    IsOwn e = IsEntryIn g order frozen rows x (lows g e.cube) e

    -- two entries have different least scenarios
    abbrev pub IsApart : Column → Column → Type 0
    IsApart d e = lows g d.cube ≢ lows g e.cube

    -- the cube with the ranges that the literals carried in a scenario leave together
    abbrev pub own_cube : Scenario → List Literal
    own_cube s = cube_of g.faults (carried g order rows s x)

    -- for each scenario in which the item is active there is an entry, of the least scenario that carries the same
    own_entry : (s : Scenario) → IsScenario g s → item_active g s.values (item_at g x) ≡ true →
        (e : Column) × IsOwn e × (lows g e.cube ≡ lows g (own_cube s))
    -- the entry has the item's time in the one run, and the cube of what is carried
    own_entry s law on =
        let its_run = a_run g order frozen s timed.admitted.topological in (
          record { time = time_in its_run.0 x; cube = own_cube s },
          entry_of_least g urgency order frozen rows x timed l earlier s law on (own_cube s)
              (cube_there g.faults (carried g order rows s x)) (time_in its_run.0 x)
              (λ t run. subst (λ (u : Times). get_or u.times x None ≡ Some (time_in its_run.0 x))
              (run_unique g order timed.admitted.topological frozen s its_run.0 t its_run.1 run)
              (has_time g order frozen s its_run.0 its_run.1 x l on)),
          refl,
        )

    -- a scenario is the least of one of these entries, or of none
    there_or_not : (es : List Column) → ((e : Column) → Contains es e → IsOwn e) → (s : Scenario) → IsScenario g s →
        Contains (map (λ (d : Column). lows g d.cube) es) s ⊎ ((e : Column) → Contains es e → s ≢ lows g e.cube)
    -- by induction on the entries: s is the least scenario of the first, or it is compared with the others
    there_or_not [] own s law = inr (λ e c. absurd (Contains-nil e c))
    there_or_not (e ∷ es) own s law = elim (one_or_two (lows g e.cube) s (own e (Contains-first e es)).lawful law) [
      | inl same ↦ inl (subst (Contains (map (λ (d : Column). lows g d.cube) (e ∷ es))) same
          (Contains-first (lows g e.cube) (map (λ (d : Column). lows g d.cube) es)))
      | inr other ↦ elim (there_or_not es (λ d listed. own d (Contains-rest e es d listed)) s law) [
        | inl there ↦ inl (Contains-rest (lows g e.cube) (map (λ (d : Column). lows g d.cube) es) s there)
        | inr none ↦ inr (λ d listed is. elim (Contains-cases e es d listed) [
          | inl is_first ↦ other (ap (λ (z : Column). lows g z.cube) is_first ∙ sym is)
          | inr in_rest ↦ none d in_rest is
        ])
      ]
    ]

    -- entries for a list of scenarios
    pub record AreOver (ss : List Scenario) (es : List Column) : Type 0 where
      -- each is the entry of its own least scenario
      pub own : (e : Column) → Contains es e → IsOwn e
      -- no two have the same least scenario
      pub apart : AllPairs IsApart es
      -- for each scenario in which the item is active, some entry has the least scenario that carries the same
      pub all : (s : Scenario) → Contains ss s → item_active g s.values (item_at g x) ≡ true →
          Contains (map (λ (d : Column). lows g d.cube) es) (lows g (own_cube s))

    -- by induction on the scenarios: an inactive one adds nothing, an active one adds its own entry, unless an entry
    -- with the same least scenario is there already
    entries_over : (ss : List Scenario) → ((s : Scenario) → Contains ss s → IsScenario g s) →
        (es : List Column) × AreOver ss es
    entries_over [] law = (
      [],
      record {
        own = λ e c. absurd (Contains-nil e c);
        apart = AllPairs-nil IsApart;
        all = λ s c. absurd (Contains-nil s c);
      },
    )
    entries_over (s ∷ ss) law =
        let rest = entries_over ss (λ t c. law t (Contains-rest s ss t c)) in
        elim (cases_Bool (item_active g s.values (item_at g x))) [
          -- the item isn't active in this scenario, so the entries of the others do
          | inr off ↦ (
            rest.0,
            record {
              own = rest.1.own;
              apart = rest.1.apart;
              all = λ t listed on. elim (Contains-cases s ss t listed) [
                | inl is_s ↦ absurd (both_ways (item_active g s.values (item_at g x)) off
                    (subst (λ (u : Scenario). item_active g u.values (item_at g x) ≡ true) (sym is_s) on))
                | inr in_rest ↦ rest.1.all t in_rest on
              ];
            },
          )
          -- the item is active: its own entry there is compared with those of the other scenarios
          | inl on ↦ let entry = own_entry s (law s (Contains-first s ss)) on in
              elim (there_or_not rest.0 rest.1.own (lows g entry.0.cube) entry.1.lawful) [
                -- the entry is there already
                | inl there ↦ (
                  rest.0,
                  record {
                    own = rest.1.own;
                    apart = rest.1.apart;
                    all = λ t listed act. elim (Contains-cases s ss t listed) [
                      | inl is_s ↦ subst
                          (λ (u : Scenario).
                          Contains (map (λ (d : Column). lows g d.cube) rest.0) (lows g (own_cube u))) is_s
                          (subst (Contains (map (λ (d : Column). lows g d.cube) rest.0)) entry.2 there)
                      | inr in_rest ↦ rest.1.all t in_rest act
                    ];
                  },
                )
                -- the entry is new, so it is put in front
                | inr none ↦ (
                  entry.0 ∷ rest.0,
                  record {
                    own =
                        λ d listed.
                        elim (Contains-cases entry.0 rest.0 d listed) [
                          | inl is_entry ↦ subst IsOwn is_entry entry.1
                          | inr in_rest ↦ rest.1.own d in_rest
                        ];
                    apart = AllPairs-cons_by IsApart entry.0 rest.0 none rest.1.apart;
                    all = λ t listed act. elim (Contains-cases s ss t listed) [
                      | inl is_s ↦ subst (λ (u : Scenario).
                          Contains (map (λ (d : Column). lows g d.cube) (entry.0 ∷ rest.0)) (lows g (own_cube u))) is_s
                          (subst (Contains (map (λ (d : Column). lows g d.cube) (entry.0 ∷ rest.0))) entry.2
                          (Contains-first (lows g entry.0.cube) (map (λ (d : Column). lows g d.cube) rest.0)))
                      | inr in_rest ↦ Contains-rest (lows g entry.0.cube) (map (λ (d : Column). lows g d.cube) rest.0)
                          (lows g (own_cube t)) (rest.1.all t in_rest act)
                    ];
                  },
                )
              ]
        ]

    -- the item has entries: those over all scenarios of the graph
    pub entries_exist : (entries : List Column) × AreEntriesOf g order frozen rows x entries
    -- a scenario in which the item is active carries the same as its least one, which is among those gone over
    entries_exist =
        let over_all = entries_over (scenarios g) (scenario_lawful g) in (
          over_all.0,
          record {
            each = over_all.1.own;
            apart = over_all.1.apart;
            all = λ s e is least. subst (Contains (map (λ (d : Column). lows g d.cube) over_all.0))
                (same_least g (carried g order rows s x) (own_cube s) e.cube
                (cube_there g.faults (carried g order rows s x)) is.cube ∙ least)
                (over_all.1.all s (Contains-scenarios g s is.lawful) is.active);
          },
        )
