-- The greatest number that a tree has in a scenario of a space in which another tree is true: how it follows from the
-- two sides of a fork, and what it says of the paths that callers see. In the lemmas s is a scenario, g a graph, v the
-- variable of a fork, and o a number or none.
use Rattle.std.proofs.Common.{ℕ, ◌+◌, ◌-◌, ◌<◌, ◌≤◌, ◌≡◌, Bool, true, false, nat_lt, Option, Some, None, List}
use Rattle.std.proofs.Common.{unwrap_or, get_or, length, sum_by, arith, refl, sym, ap, ◌∙◌, subst, inl, inr, ◌⊎◌}
use Rattle.std.proofs.Common.{le-ltb, lt-ltb}
use Rattle.std.specs.Prelude.{nat_le}
use Rattle.std.specs.Option.{IfNone, IfSome}
use Rattle.std.specs.Bool.{OnFalse, OnTrue}
use Rattle.std.proofs.lemmas.Bool.{cases_lt, cases_eq, cond-true, cond-false, leb-true, ltb-true, or_cases, and_parts}
use Rattle.std.proofs.lemmas.Option.{none-some}
use Rattle.std.proofs.lemmas.List.{get_or_past}
use Rattle.cpg_base.specs.Graph.{Graph, process_count, condition_count, IsVariable}
use Rattle.cpg_base.specs.Numbers.{numbers_below}
use Rattle.cpg_base.proofs.Lists.{numbers-Contains}
use Rattle.cpg_base.proofs.NumbersOf.{number_of-fault, variable_or_not}
use Rattle.cpg_base.proofs.Sums.{sum_changed, same_sum_by, sum_by_zeros}
use Rattle.cpg_base.specs.Scenario.{Scenario, IsScenario, number_of, fault_of, number_of_value}
use Rattle.cpg_cube.specs.Fit.{scenario_of}
use Rattle.cpg_cube.proofs.Boxes.{made_number, made_lawful}
use Rattle.cpg_tree.specs.TreeNode.{TreeNode, Leaf, Fork}
use Rattle.cpg_tree.specs.declared.item.TreeItem.{TreeItem}
use Rattle.cpg_tree.specs.Flat.{flat}
use Rattle.cpg_tree.specs.Decision.{value_at, IsGood}
use Rattle.cpg_tree_columns.specs.Meeting.{AreForksOf, AreOf, ComesTo, HasWhere, IsFoundIn, IsMetIn, IsMostInSpace}
use Rattle.cpg_tree_columns.specs.Meeting.{IsMostWhere, IsNowhere, IsReachedWhere, IsOpenSpaceOf, IsUpTo}
use Rattle.cpg_tree.specs.Paths.{paths_of}
use Rattle.cpg_tree.specs.declared.space.Space.{Space}
use Rattle.cpg_tree.specs.Space.{IsInSpace, HasAtMostFaults, IsWhole, beyond, is_open_below, is_open_above, below_cut}
use Rattle.cpg_tree.specs.Space.{above_cut}
use Rattle.cpg_tree.specs.Tree.{TreeState}
use Rattle.cpg_tree.specs.Variables.{is_variable}
use Rattle.cpg_tree.proofs.Flats.{flat-same}
use Rattle.cpg_tree.proofs.Forks.{value_below, value_above, passes_parts}
use Rattle.cpg_tree.proofs.OnePath.{scenario_few, the_path}
use Rattle.cpg_tree.proofs.Passing.{variable_from, forks_of_paths}
use Rattle.cpg_tree.proofs.PathLaws.{one_path}
use Rattle.cpg_tree.proofs.Publics.{state, state_seen, value_path}
use Rattle.cpg_tree.proofs.OpenSpaces.{IsOpenSpace, opens_below, opens_above, whole_opens}
use Rattle.cpg_tree.proofs.Spaces.{set_other, set_same}
use Rattle.cpg_tree_columns.proofs.TidyColumns.{sum_by_fewer}

-- ---- the scenario of the lows

-- if some scenario of the graph lies in the space, the space is open for the graph's faults
as_open : (g : Graph) (space : Space) → IsOpenSpaceOf g space → IsOpenSpace g.faults space
as_open g space is = record { lows = is.lows; highs = is.highs; opens = is.opens; tops = is.tops; budget = is.budget }

-- given: a space in which some scenario of the graph lies
module _ (g : Graph) (few : process_count g ≤ 128) (space : Space) (is : IsOpenSpaceOf g space) where
  -- the low of a variable
  abbrev low : ℕ → ℕ
  low v = get_or space.low v 0

  -- the scenario with the lows of the space
  abbrev lowest : Scenario
  lowest = scenario_of g low

  -- it is a scenario of the graph: the lows are no more faults than the graph allows
  lawful : IsScenario g lowest
  lawful = made_lawful g few low (omega (arith, is.budget, sum_by_fewer low (process_count g) 128 few))

  -- its number at a variable of the graph is the low
  known_number : (v : ℕ) → v < 256 → IsVariable g v → number_of lowest v ≡ low v
  known_number v small of_graph = made_number g few low v of_graph (omega (arith, is.opens v small, is.tops v small))

  -- a number that is no variable is 0
  other_number : (v : ℕ) → (IsVariable g v → ⊥) → number_of lowest v ≡ 0
  -- a process behind the last one has no fault count, and a condition behind the last one has no value
  other_number v none = elim (cases_lt v 128) [
    | inl is_count ↦ number_of-fault lowest v is_count
        ∙ get_or_past lowest.faults v 0 (elim (cases_lt v (process_count g)) [
          | inl inside ↦ absurd (none (inl inside))
          | inr outside ↦ omega (arith, outside, lawful.faults)
        ])
    | inr is_value ↦ cond-false (nat_lt v 128) (fault_of lowest v)
        (number_of_value (get_or lowest.values (v - 128) false))
        (le-ltb v 128 is_value)
        ∙ ap number_of_value (get_or_past lowest.values (v - 128) false
        (elim (cases_lt v (128 + condition_count g)) [
          | inl inside ↦ absurd (none (inr (is_value, inside)))
          | inr outside ↦ omega (arith, outside, is_value, lawful.values)
        ]))
  ]

  -- the lowest scenario's number at any variable is the low
  number_is : (v : ℕ) → v < 256 → number_of lowest v ≡ low v
  number_is v small = elim (variable_or_not g v) [
    | inl of_graph ↦ known_number v small of_graph
    | inr none ↦ other_number v none ∙ sym (is.known v none)
  ]

  -- a count at its low has no fault beyond it
  nothing_beyond : (f low number : ℕ) → number ≡ f → number ≡ low → f - low ≡ 0
  nothing_beyond f low number is_f is_low = omega (arith, is_f, is_low)

  -- the scenario of the lows lies in the space, as it has no fault beyond the lows
  lies_lowest : IsInSpace space lowest
  lies_lowest = record {
    low = λ v small. omega (arith, number_is v small);
    high = λ v small. omega (arith, number_is v small, is.opens v small);
    left = omega (
      arith,
      sum_by_zeros (beyond space lowest) (numbers_below 128)
          (λ p listed. let small = numbers-Contains 128 p listed in
          nothing_beyond (fault_of lowest p) (low p) (number_of lowest p) (number_of-fault lowest p small)
          (number_is p (omega (arith, small)))),
    );
  }

  -- some scenario of the graph lies in the space, that of the lows
  pub some_scenario : (s : Scenario) × IsScenario g s × IsInSpace space s
  some_scenario = (lowest, lawful, lies_lowest)

-- ---- the parts of a space

-- If a count's low falls from cut + 1 to `low`, the faults beyond the lows rise by as much, which is within those
-- left.
more_left : (new old low cut faults left : ℕ) → new + (faults - (cut + 1)) ≡ old + (faults - low) →
    old ≤ left - (cut + 1 - low) → low ≤ cut → cut < faults → cut + 1 - low ≤ left → new ≤ left
more_left new old low cut faults left changed most below above allows = omega arith

-- given: a space, and a cut of variable v
module _ (space : Space) (lows : length space.low ≡ 256) (highs : length space.high ≡ 256) (v cut : ℕ)
    (there : v < 256) where
  -- a scenario of the part below the cut lies in the whole space, and its number of v is at most the cut
  pub lies_in_below : cut ≤ get_or space.high v 0 → (s : Scenario) → IsInSpace (below_cut space v cut) s →
      IsInSpace space s × (number_of s v ≤ cut)
  -- only v's high differs between the two spaces
  lies_in_below under s lies = (
    record {
      low = lies.low;
      high = λ u small. elim (cases_eq u v) [
        | inl is_v ↦ subst (λ w. number_of s w ≤ get_or space.high w 0) (sym is_v) (omega (arith, at, under))
        | inr other ↦ omega (arith, lies.high u small, set_other space.high v cut u other)
      ];
      left = lies.left;
    },
    at,
  )
    where
      -- the part's high of v is the cut
      at : number_of s v ≤ cut
      at = omega (arith, lies.high v there, set_same space.high v cut v (omega (arith, highs, there)) refl)

  -- A scenario of the part above the cut lies in the whole space, and its number of v is above the cut, provided that
  -- the faults left cover the step from the low to above the cut.
  pub lies_in_above : get_or space.low v 0 ≤ cut → (v < 128 → cut + 1 - get_or space.low v 0 ≤ space.left) →
      (s : Scenario) →
      IsInSpace (above_cut space v cut) s
      → IsInSpace space s × (cut < number_of s v)
  -- only v's low differs between the two spaces; if v is a process, what the scenario goes beyond the lows differs by
  -- that step, and otherwise it is the same
  lies_in_above under allows s lies = (
    record {
      low = λ u small. elim (cases_eq u v) [
        | inl is_v ↦ subst (λ w. get_or space.low w 0 ≤ number_of s w) (sym is_v) (omega (arith, at, under))
        | inr other ↦ omega (arith, lies.low u small, set_other space.low v (cut + 1) u other)
      ];
      high = lies.high;
      left = elim (cases_lt v 128) [
        | inl is_count ↦
            let changed = sum_changed (beyond space s) (beyond (above_cut space v cut) s) 128 v is_count
            (λ u other. ap (λ m. fault_of s u - m) (sym (set_other space.low v (cut + 1) u other))) in
            let here =
            ap (λ m. fault_of s v - m) (set_same space.low v (cut + 1) v (omega (arith, lows, there)) refl) in
            more_left (sum_by (beyond space s) (numbers_below 128)) (sum_by (beyond (above_cut space v cut) s)
            (numbers_below 128)) (get_or space.low v 0) cut (fault_of s v) space.left
            (turned _ _ _ _ _ changed here)
            (subst (λ n. sum_by (beyond (above_cut space v cut) s) (numbers_below 128) ≤ space.left - n)
            (cond-true (nat_lt v 128) (cut + 1 - get_or space.low v 0) 0 (lt-ltb v 128 is_count)) lies.left)
            under (subst (λ n. cut < n) (number_of-fault s v is_count) at) (allows is_count)
        | inr is_value ↦
            let same = same_sum_by (beyond space s) (beyond (above_cut space v cut) s) (numbers_below 128)
            (λ u listed. ap (λ m. fault_of s u - m) (sym
            (set_other space.low v (cut + 1) u
            (λ is_v. absurd (omega (arith, numbers-Contains 128 u listed, is_v, is_value)))))) in
            as_much _ _ _ _ same lies.left
            (cond-false (nat_lt v 128) (cut + 1 - get_or space.low v 0) 0 (le-ltb v 128 is_value))
      ];
    },
    at,
  )
    where
      -- the part's low of v is the number after the cut
      at : cut < number_of s v
      at = omega (arith, lies.low v there, set_same space.low v (cut + 1) v (omega (arith, lows, there)) refl)

      -- two changes of a sum, of which one is known
      turned : (new old a b c : ℕ) → new + b ≡ old + a → b ≡ c → new + c ≡ old + a
      turned new old a b c same_sum b_is_c = omega (arith, same_sum, b_is_c)

      -- a sum that stays is still covered by what is left
      as_much : (new old left less : ℕ) → new ≡ old → old ≤ left - less → less ≡ 0 → new ≤ left
      as_much new old left less same covered none = omega (arith, same, covered, none)

-- ---- the sides of a fork

-- given: a space in which some scenario of the graph lies, and a cut of variable v with numbers of the space on both
-- sides
module _ (g : Graph) (space : Space) (v cut : ℕ) (there : v < 256) (known : IsVariable g v) (is : IsOpenSpaceOf g space)
    (under : is_open_below space v cut ≡ true)
    (over : is_open_above space v cut ≡ true) where
  -- the low isn't above the cut
  at_low : get_or space.low v 0 ≤ cut
  at_low = leb-true (get_or space.low v 0) cut under

  -- the faults that are left cover the step above the cut
  allowed : v < 128 → cut + 1 - get_or space.low v 0 ≤ space.left
  allowed is_count = elim (or_cases (nat_le 128 v) (nat_lt cut (get_or space.low v 0 + space.left))
      (and_parts (nat_lt cut (get_or space.high v 0)) _ over).1) [
        | inl is_value ↦ absurd (omega (arith, leb-true 128 v is_value, is_count))
        | inr room ↦ omega (arith, ltb-true cut (get_or space.low v 0 + space.left) room)
      ]

  -- some scenario of the graph lies in the part below the cut
  open_of_below : IsOpenSpaceOf g (below_cut space v cut)
  open_of_below =
      let opened = opens_below g.faults space (as_open g space is) v cut there under over in
      record {
        lows = opened.lows;
        highs = opened.highs;
        opens = opened.opens;
        tops = opened.tops;
        budget = opened.budget;
        known = is.known;
      }

  -- some scenario of the graph lies in the part above the cut
  open_of_above : IsOpenSpaceOf g (above_cut space v cut)
  -- `opens_above` gives all but `known`, and only v, a variable of the graph, has a new low
  open_of_above =
      let opened = opens_above g.faults space (as_open g space is) v cut there under over in
      record {
        lows = opened.lows;
        highs = opened.highs;
        opens = opened.opens;
        tops = opened.tops;
        budget = opened.budget;
        known = λ u none. set_other space.low v (cut + 1) u (λ is_v. none (subst (IsVariable g) (sym is_v) known))
            ∙ is.known u none;
      }

  -- a scenario below the cut lies in the space, and its number is at most the cut
  in_below : (s : Scenario) → IsInSpace (below_cut space v cut) s → IsInSpace space s × (number_of s v ≤ cut)
  in_below = lies_in_below space is.lows is.highs v cut there
      (omega (arith, ltb-true cut (get_or space.high v 0) (and_parts (nat_lt cut (get_or space.high v 0)) _ over).0))

  -- one above the cut lies in the space, and its number is greater
  in_above : (s : Scenario) → IsInSpace (above_cut space v cut) s → IsInSpace space s × (cut < number_of s v)
  in_above = lies_in_above space is.lows is.highs v cut there at_low allowed

-- given: two trees, `node` and `other`, and two that stand for parts of them, `part` and `rest`, over the same graphs
module _ {T U V W : Type 0} (node : TreeNode T) (other : TreeNode U) (part : TreeNode V) (rest : TreeNode W)
    (space : Space) (v cut : ℕ) (there : v < 256)
    (parts : (g : Graph) → AreForksOf g node other → IsVariable g v × AreForksOf g part rest)
    (fact inner : Scenario → Type 0) where
  -- If some scenario below the cut has the fact `inner`, and that gives `fact`, then some scenario of the space has
  -- `fact`.
  met_below : is_open_below space v cut ≡ true → is_open_above space v cut ≡ true →
      ((s : Scenario) → number_of s v ≤ cut → inner s → fact s) →
      IsMetIn (below_cut space v cut) part rest inner →
      IsMetIn space node other fact
  met_below under over follows met g forks is =
      let for_parts = parts g forks in
      let found = met g for_parts.1 (open_of_below g space v cut there for_parts.0 is under over) in
      let in_whole = in_below g space v cut there for_parts.0 is under over found.0 found.2 in
      (found.0, found.1, in_whole.0, follows found.0 in_whole.1 found.3)

  -- If some scenario above the cut has `inner`, and that gives `fact`, then some scenario of the space has `fact`.
  met_above : is_open_below space v cut ≡ true → is_open_above space v cut ≡ true →
      ((s : Scenario) → cut < number_of s v → inner s → fact s) →
      IsMetIn (above_cut space v cut) part rest inner →
      IsMetIn space node other fact
  met_above under over follows met g forks is =
      let for_parts = parts g forks in
      let found = met g for_parts.1 (open_of_above g space v cut there for_parts.0 is under over) in
      let in_whole = in_above g space v cut there for_parts.0 is under over found.0 found.2 in
      (found.0, found.1, in_whole.0, follows found.0 in_whole.1 found.3)

  -- if some scenario of the space has `inner`, and that gives `fact` there, then some scenario of it has `fact`
  met_same : ((s : Scenario) → IsInSpace space s → inner s → fact s) → IsMetIn space part rest inner →
      IsMetIn space node other fact
  met_same follows met g forks is =
      let found = met g (parts g forks).1 is in
      (found.0, found.1, found.2, follows found.0 found.2 found.3)

-- ---- whether a tree is true in some scenario

-- a tree of truth values is true in some scenario of a space
abbrev pub IsTrueIn : Space → TreeNode Bool → Type 0
IsTrueIn space node = IsMetIn space node node (λ s. value_at node s ≡ true)

-- a tree of truth values is true in no scenario of a space
abbrev pub IsNeverIn : Space → TreeNode Bool → Type 0
IsNeverIn space node = (s : Scenario) → IsInSpace space s → value_at node s ≡ false

-- a leaf that is true is true in some scenario of the space
pub true_leaf : (space : Space) (node : TreeNode Bool) (b : Bool) → node ≡ Leaf b → b ≡ true → IsTrueIn space node
true_leaf space node b is on g forks of_g =
    let lowest_one = some_scenario g forks.few space of_g in
    (lowest_one.0, lowest_one.1, lowest_one.2, ap (λ (n : TreeNode Bool). value_at n lowest_one.0) is ∙ on)

-- given: a space
module _ (space : Space) where
  -- a leaf that is true is true in some scenario
  pub leaf_met : (b : Bool) (items : List (TreeItem Bool)) → items ≡ flat (Leaf b) →
      OnTrue b ((n : TreeNode Bool) → items ≡ flat n → IsTrueIn space n)
  leaf_met true items is = λ n are. true_leaf space n true (flat-same n (Leaf true) (sym are ∙ is)) refl
  leaf_met false items is = tt

  -- a leaf that is false is true in none
  pub leaf_never : (b : Bool) (items : List (TreeItem Bool)) → items ≡ flat (Leaf b) →
      OnFalse b ((n : TreeNode Bool) → items ≡ flat n → IsNeverIn space n)
  leaf_never true items is = tt
  leaf_never false items is =
      λ n are s lies. ap (λ (m : TreeNode Bool). value_at m s) (flat-same n (Leaf false) (sym are ∙ is))

-- given: a tree of truth values that is a fork, with the sides `low` and `high`
module _ (v cut : ℕ) (there : v < 256) (low high node : TreeNode Bool) (is : node ≡ Fork v cut low high)
    (space : Space) where
  -- up to the cut the tree has the values of its side below
  low_is : (s : Scenario) → number_of s v ≤ cut → value_at node s ≡ value_at low s
  low_is s at_most = ap (λ (n : TreeNode Bool). value_at n s) is ∙ value_below v cut low high s at_most

  -- above the cut the tree has the values of its side above
  high_is : (s : Scenario) → cut < number_of s v → value_at node s ≡ value_at high s
  high_is s past_cut = ap (λ (n : TreeNode Bool). value_at n s) is ∙ value_above v cut low high s past_cut

  -- if the whole is over a graph's scenarios, the fork is on a variable of it, and the side below is over them too
  low_parts : (g : Graph) → AreForksOf g node node → IsVariable g v × AreForksOf g low low
  low_parts g forks =
      let parts = passes_parts (is_variable g) v cut low high node is forks.first in
      (variable_from g v parts.0, record { few = forks.few; first = parts.1; second = parts.1 })

  -- if the whole is over a graph's scenarios, the fork is on a variable of it, and the side above is over them too
  high_parts : (g : Graph) → AreForksOf g node node → IsVariable g v × AreForksOf g high high
  high_parts g forks =
      let parts = passes_parts (is_variable g) v cut low high node is forks.first in
      (variable_from g v parts.0, record { few = forks.few; first = parts.2; second = parts.2 })

  -- if all scenarios go below and the side there is true in some scenario, so is the fork
  pub true_low : ((s : Scenario) → IsInSpace space s → number_of s v ≤ cut) → IsTrueIn space low → IsTrueIn space node
  true_low only = met_same node node low low space v cut there low_parts (λ s. value_at node s ≡ true)
      (λ s. value_at low s ≡ true) (λ s lies e. low_is s (only s lies) ∙ e)

  -- if all scenarios go above and the side there is true in some scenario, so is the fork
  pub true_high : ((s : Scenario) → IsInSpace space s → cut < number_of s v) → IsTrueIn space high → IsTrueIn space node
  true_high only = met_same node node high high space v cut there high_parts (λ s. value_at node s ≡ true)
      (λ s. value_at high s ≡ true) (λ s lies e. high_is s (only s lies) ∙ e)

  -- if all scenarios go below and the side there is true in none, neither is the fork
  pub never_low : ((s : Scenario) → IsInSpace space s → number_of s v ≤ cut) → IsNeverIn space low →
      IsNeverIn space node
  never_low only none s lies = low_is s (only s lies) ∙ none s lies

  -- if all scenarios go above and the side there is true in none, neither is the fork
  pub never_high : ((s : Scenario) → IsInSpace space s → cut < number_of s v) → IsNeverIn space high →
      IsNeverIn space node
  never_high only none s lies = high_is s (only s lies) ∙ none s lies

  -- given: a cut with numbers of the space on both sides
  module _ (under : is_open_below space v cut ≡ true) (over : is_open_above space v cut ≡ true) where
    -- if the side below is true in some scenario below the cut, so is the fork
    pub true_below : IsTrueIn (below_cut space v cut) low → IsTrueIn space node
    true_below = met_below node node low low space v cut there low_parts (λ s. value_at node s ≡ true)
        (λ s. value_at low s ≡ true) under over (λ s at_most e. low_is s at_most ∙ e)

    -- if the side above is true in some scenario above the cut, so is the fork
    pub true_above : IsTrueIn (above_cut space v cut) high → IsTrueIn space node
    true_above = met_above node node high high space v cut there high_parts (λ s. value_at node s ≡ true)
        (λ s. value_at high s ≡ true) under over (λ s past_cut e. high_is s past_cut ∙ e)

  -- if neither side is true in any scenario, nor is the fork: each scenario goes to one of them
  pub never_both : ((s : Scenario) → IsInSpace space s → number_of s v ≤ cut → value_at low s ≡ false) →
      ((s : Scenario) → IsInSpace space s → cut < number_of s v → value_at high s ≡ false)
      → IsNeverIn space node
  never_both none_low none_high s lies = elim (cases_lt cut (number_of s v)) [
    | inl past_cut ↦ high_is s past_cut ∙ none_high s lies past_cut
    | inr at_most ↦ low_is s at_most ∙ none_low s lies at_most
  ]

-- ---- the greatest number of a tree where another one is true

-- true isn't false
not_both : true ≡ false → ⊥
not_both equal = cc

-- if the other tree is true in no scenario, the best number so far stays
pub most_never : (space : Space) (node : TreeNode (Option ℕ)) (wanted : TreeNode Bool) (best : Option ℕ) →
    IsNeverIn space wanted →
    IsMostInSpace space node wanted best best
most_never space node wanted best none = record {
  above = λ s n lies comes. absurd (not_both (sym comes.1 ∙ none s lies));
  from = λ n up_to. up_to;
  found = inl refl;
}

-- a leaf leaves the best number as it is, if its number isn't greater
pub most_least : (space : Space) (node : TreeNode (Option ℕ)) (wanted : TreeNode Bool) (x best : Option ℕ) →
    node ≡ Leaf x →
    ((n : ℕ) → x ≡ Some n → IsUpTo best n)
    → IsMostInSpace space node wanted best best
most_least space node wanted x best is none = record {
  above = λ s n lies comes. none n (sym (ap (λ (m : TreeNode (Option ℕ)). value_at m s) is) ∙ comes.0);
  from = λ n up_to. up_to;
  found = inl refl;
}

-- a leaf's number is the greatest if it is at least the best, and the other tree is true in some scenario
pub most_leaf : (space : Space) (node : TreeNode (Option ℕ)) (wanted : TreeNode Bool) (x best : Option ℕ) →
    node ≡ Leaf x → ((n : ℕ) → IsUpTo best n → IsUpTo x n) →
    IsTrueIn space wanted →
    IsMostInSpace space node wanted best x
most_leaf space node wanted None None is some met = record {
  above = λ s n lies comes. absurd (none-some n (sym (ap (λ (m : TreeNode (Option ℕ)). value_at m s) is) ∙ comes.0));
  from = λ n up_to. up_to;
  found = inl refl;
}
most_leaf space node wanted None (Some b) is some met = absurd (some b (omega arith))
most_leaf space node wanted (Some number) best is some met = record {
  above = λ s n lies comes. same_up number n (sym (ap (λ (m : TreeNode (Option ℕ)). value_at m s) is) ∙ comes.0);
  from = some;
  found = inr (λ g forks of_g.
      let found_one = met g (record { few = forks.few; first = forks.second; second = forks.second }) of_g in (
        found_one.0,
        found_one.1,
        found_one.2,
        (ap (λ (m : TreeNode (Option ℕ)). value_at m found_one.0) is, found_one.3),
      ));
}
  where
    -- a number is no greater than an equal one
    same_up : (m n : ℕ) → Some m ≡ Some n → n ≤ m
    same_up m n equal = omega (arith, ap (λ o. unwrap_or o 0) equal)

-- given: a tree of numbers that is a fork, and the tree of truth values
module _ (v cut : ℕ) (there : v < 256) (low high node : TreeNode (Option ℕ)) (is : node ≡ Fork v cut low high)
    (wanted : TreeNode Bool) (space : Space) where
  -- up to the cut the tree has the values of its side below
  low_value : (s : Scenario) → number_of s v ≤ cut → value_at node s ≡ value_at low s
  low_value s at_most = ap (λ (n : TreeNode (Option ℕ)). value_at n s) is ∙ value_below v cut low high s at_most

  -- above the cut the tree has the values of its side above
  high_value : (s : Scenario) → cut < number_of s v → value_at node s ≡ value_at high s
  high_value s past_cut = ap (λ (n : TreeNode (Option ℕ)). value_at n s) is ∙ value_above v cut low high s past_cut

  -- if both trees are over a graph's scenarios, the fork is on a variable of it, and the side below is over them too
  low_forks : (g : Graph) → AreForksOf g node wanted → IsVariable g v × AreForksOf g low wanted
  low_forks g forks =
      let parts = passes_parts (is_variable g) v cut low high node is forks.first in
      (variable_from g v parts.0, record { few = forks.few; first = parts.1; second = forks.second })

  -- if both trees are over a graph's scenarios, the fork is on a variable of it, and its side above is over them too
  high_forks : (g : Graph) → AreForksOf g node wanted → IsVariable g v × AreForksOf g high wanted
  high_forks g forks =
      let parts = passes_parts (is_variable g) v cut low high node is forks.first in
      (variable_from g v parts.0, record { few = forks.few; first = parts.2; second = forks.second })

  -- if all scenarios go below, the greatest number of the side there is that of the fork
  pub most_low : (best most : Option ℕ) → ((s : Scenario) → IsInSpace space s → number_of s v ≤ cut) →
      IsMostInSpace space low wanted best most →
      IsMostInSpace space node wanted best most
  most_low best most only of_low = record {
    above = λ s n lies comes. of_low.above s n lies (sym (low_value s (only s lies)) ∙ comes.0, comes.1);
    from = of_low.from;
    found = elim of_low.found [ inl is_best ↦ inl is_best | inr found_low ↦ inr (go most found_low) ];
  }
    where
      -- a scenario of the space that comes to the number in the side below does so in the fork
      go : (o : Option ℕ) → IsFoundIn space low wanted o → IsFoundIn space node wanted o
      go None found_low = absurd found_low
      go (Some n) found_low = met_same node wanted low wanted space v cut there low_forks (ComesTo node wanted n)
          (ComesTo low wanted n) (λ s lies comes. (low_value s (only s lies) ∙ comes.0, comes.1)) found_low

  -- if all scenarios go above, the greatest number of the side there is that of the fork
  pub most_high : (best most : Option ℕ) → ((s : Scenario) → IsInSpace space s → cut < number_of s v) →
      IsMostInSpace space high wanted best most →
      IsMostInSpace space node wanted best most
  most_high best most only of_high = record {
    above = λ s n lies comes. of_high.above s n lies (sym (high_value s (only s lies)) ∙ comes.0, comes.1);
    from = of_high.from;
    found = elim of_high.found [ inl is_best ↦ inl is_best | inr found_high ↦ inr (go most found_high) ];
  }
    where
      -- a scenario of the space that comes to the number in the side above does so in the fork
      go : (o : Option ℕ) → IsFoundIn space high wanted o → IsFoundIn space node wanted o
      go None found_high = absurd found_high
      go (Some n) found_high = met_same node wanted high wanted space v cut there high_forks (ComesTo node wanted n)
          (ComesTo high wanted n) (λ s lies comes. (high_value s (only s lies) ∙ comes.0, comes.1)) found_high

  -- if the space has numbers on both sides, the greatest of the fork is found by looking below with `best`, and above
  -- with what was found, `mid`
  pub most_both : (best mid most : Option ℕ) → is_open_below space v cut ≡ true → is_open_above space v cut ≡ true →
      ((s : Scenario) → IsInSpace space s → number_of s v ≤ cut → IsInSpace (below_cut space v cut) s)
      → ((s : Scenario) → IsInSpace space s → cut < number_of s v → IsInSpace (above_cut space v cut) s) →
      IsMostInSpace (below_cut space v cut) low wanted best mid →
      IsMostInSpace (above_cut space v cut) high wanted mid most → IsMostInSpace space node wanted best most
  -- a scenario goes below the cut or above it; what is found is the number found above, or else the one found below,
  -- or else `best`
  most_both best mid most under over in_low in_high of_low of_high = record {
    above = λ s n lies comes. elim (cases_lt cut (number_of s v)) [
      | inl past_cut ↦ of_high.above s n (in_high s lies past_cut) (sym (high_value s past_cut) ∙ comes.0, comes.1)
      | inr at_most ↦ of_high.from n
          (of_low.above s n (in_low s lies at_most) (sym (low_value s at_most) ∙ comes.0, comes.1))
    ];
    from = λ n up_to. of_high.from n (of_low.from n up_to);
    found = elim of_high.found [
      | inr found_high ↦ inr (go_high most found_high)
      | inl same ↦ elim of_low.found [
        | inl is_best ↦ inl (same ∙ is_best)
        | inr found_low ↦ inr (subst (IsFoundIn space node wanted) (sym same) (go_low mid found_low))
      ]
    ];
  }
    where
      -- what is found below the cut is found in the whole
      go_low : (o : Option ℕ) → IsFoundIn (below_cut space v cut) low wanted o → IsFoundIn space node wanted o
      go_low None found_low = absurd found_low
      go_low (Some n) found_low = met_below node wanted low wanted space v cut there low_forks (ComesTo node wanted n)
          (ComesTo low wanted n) under over (λ s at_most comes. (low_value s at_most ∙ comes.0, comes.1)) found_low

      -- what is found above the cut is found in the whole
      go_high : (o : Option ℕ) → IsFoundIn (above_cut space v cut) high wanted o → IsFoundIn space node wanted o
      go_high None found_high = absurd found_high
      go_high (Some n) found_high =
          met_above node wanted high wanted space v cut there high_forks (ComesTo node wanted n)
          (ComesTo high wanted n) under over (λ s past_cut comes. (high_value s past_cut ∙ comes.0, comes.1)) found_high

-- ---- as what a call answers

-- some scenario of the graph lies in the space of all scenarios of at most as many faults
whole_of : (g : Graph) (space : Space) → IsWhole g.faults space → IsOpenSpaceOf g space
whole_of g space whole =
    let opened = whole_opens g.faults space whole in
    record {
      lows = opened.lows;
      highs = opened.highs;
      opens = opened.opens;
      tops = opened.tops;
      budget = opened.budget;
      known = λ v none. low_zero v (cases_lt v 256);
    }
  where
    -- the low of a variable of the space is 0, and so is the default behind the last one
    low_zero : (v : ℕ) → (v < 256) ⊎ (256 ≤ v) → get_or space.low v 0 ≡ 0
    low_zero v (inl small) = whole.lows v small
    low_zero v (inr past_last) = get_or_past space.low v 0 (omega (arith, past_last, whole.long))

-- given: two good trees, and o, the greatest number of the one where the other is true, found in the space of all
-- scenarios
module _ (k : ℕ) (node : TreeNode (Option ℕ)) (wanted : TreeNode Bool) (good : IsGood k node)
    (good_too : IsGood k wanted) (space : Space) (whole : IsWhole k space)
    (all : (s : Scenario) → HasAtMostFaults k s → IsInSpace space s) (o : Option ℕ)
    (most : IsMostInSpace space node wanted None o) where
  -- the tree with the numbers, as callers see it
  abbrev tree : TreeState (Option ℕ)
  tree = state k node

  -- the tree that chooses, as callers see it
  abbrev chooser : TreeState Bool
  chooser = state k wanted

  -- if callers see that a scenario has the number where the chooser is true, it comes to both in the trees
  comes : (s : Scenario) (n : ℕ) → HasWhere tree chooser n s → ComesTo node wanted n s
  comes s n has_where = (
    (value_path k node good s).of_path has_where.has.0 has_where.has.1 ∙ has_where.has.2,
    (value_path k wanted good_too s).of_path has_where.there.0 has_where.there.1 ∙ has_where.there.2,
  )

  -- if a scenario of at most k faults comes to both in the trees, callers see that
  seen : (s : Scenario) (n : ℕ) → HasAtMostFaults k s → ComesTo node wanted n s → HasWhere tree chooser n s
  seen s n few comes_to =
      let its_path = the_path k (paths_of k node) (one_path k node good) s few in
      let chooser_path = the_path k (paths_of k wanted) (one_path k wanted good_too) s few in
      record {
        has = (its_path.0, its_path.1, sym ((value_path k node good s).of_path its_path.0 its_path.1) ∙ comes_to.0);
        there = (
          chooser_path.0,
          chooser_path.1,
          sym ((value_path k wanted good_too s).of_path chooser_path.0 chooser_path.1) ∙ comes_to.1,
        );
      }

  -- if none is found, no scenario has a number there
  pub no_number : o ≡ None → IsNowhere tree chooser
  no_number is_none s n few has_where =
      subst (λ x. IsUpTo x n) is_none (most.above s n (all s few) (comes s n has_where))

  -- a number that is found is the greatest that a scenario has there
  pub a_number : (number : ℕ) → o ≡ Some number → IsMostWhere tree chooser number
  a_number number is_number = record {
    above = λ s n few has_where. subst (λ x. IsUpTo x n) is_number (most.above s n (all s few) (comes s n has_where));
    reached = λ g of. elim most.found [
      | inl none ↦ absurd (none-some number (sym none ∙ is_number))
      | inr found_in ↦ reach g of (subst (IsFoundIn space node wanted) is_number found_in)
    ];
  }
    where
      -- the number that is found is that of a scenario of the graph, one in which the chooser is true
      reach : (g : Graph) → AreOf g tree chooser → IsFoundIn space node wanted (Some number) →
          IsReachedWhere g tree chooser number
      -- the space of all scenarios is open for each graph that both trees are of, so some scenario of it has what was
      -- found
      reach g of found_in =
          let reached_in =
          found_in g (record {
            few = of.few;
            first = forks_of_paths (is_variable g) k node of.known;
            second = forks_of_paths (is_variable g) k wanted of.known_too;
          })
          (whole_of g space (subst (λ n. IsWhole n space) of.faults whole)) in
          record {
            scenario = reached_in.0;
            lawful = reached_in.1;
            has = seen reached_in.0 number
                (subst (λ n. HasAtMostFaults n reached_in.0) (sym of.faults) (scenario_few g reached_in.0 reached_in.1))
                reached_in.3;
          }

-- given: two trees as callers see them, `first` and `second`, what they are inside, and o, the greatest number found
-- inside
module _ (first : TreeState (Option ℕ)) (second : TreeState Bool) (node : TreeNode (Option ℕ)) (wanted : TreeNode Bool)
    (good : IsGood first.faults node)
    (paths : first.paths ≡ paths_of first.faults node)
    (good_too : IsGood second.faults wanted) (paths_too : second.paths ≡ paths_of second.faults wanted)
    (same : first.faults ≡ second.faults)
    (space : Space) (whole : IsWhole first.faults space) (all : (s : Scenario) → HasAtMostFaults first.faults s →
    IsInSpace space s) (o : Option ℕ) (most : IsMostInSpace space node wanted None o)
  where
    -- the tree of numbers is the first one that callers see
    is_first : state first.faults node ≡ first
    is_first = state_seen first node paths

    -- the chooser is good for the first tree's faults
    good_there : IsGood first.faults wanted
    good_there = subst (λ m. IsGood m wanted) (sym same) good_too

    -- the chooser is the second tree that callers see
    is_there : state first.faults wanted ≡ second
    is_there = ap (λ m. state m wanted) same ∙ state_seen second wanted paths_too

    -- callers see in the trees that no scenario has a number there, if none is found
    pub none_where : IfNone o (IsNowhere first second)
    none_where = by o refl
      where
        -- if a number is found, nothing is asked
        by : (x : Option ℕ) → o ≡ x → IfNone x (IsNowhere first second)
        by None is_o = subst (λ (t : TreeState (Option ℕ)). IsNowhere t second) is_first
            (subst (λ (u : TreeState Bool). IsNowhere (state first.faults node) u) is_there
            (no_number first.faults node wanted good good_there space whole all o most is_o))
        by (Some n) is_o = tt

    -- callers see in the trees the greatest number there, if one is found
    pub some_where : IfSome o (IsMostWhere first second)
    some_where = by o refl
      where
        -- if no number is found, nothing is asked
        by : (x : Option ℕ) → o ≡ x → IfSome x (IsMostWhere first second)
        by None is_o = tt
        by (Some n) is_o = subst (λ (t : TreeState (Option ℕ)). IsMostWhere t second n) is_first
            (subst (λ (u : TreeState Bool). IsMostWhere (state first.faults node) u n) is_there
            (a_number first.faults node wanted good good_there space whole all o most n is_o))
