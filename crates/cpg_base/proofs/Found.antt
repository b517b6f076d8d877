-- The conditions that one pass over the edges finds are those of the graph.
use Rattle.std.proofs.Common.{ℕ, ◌<◌, ◌≡◌, Bool, true, ◌==◌, length, get_or, filter, Some, is_some, refl, ap, ◌∙◌}
use Rattle.std.proofs.Common.{arith, eq-eqb, eqb-true, lt-ltb}
use Rattle.std.specs.List.{position_or_len}
use Rattle.std.proofs.lemmas.Bool.{and_parts, and_from, cond-true, false_from_ne_true}
use Rattle.std.proofs.lemmas.List.{get_or_default}
use Rattle.std.proofs.lemmas.List.Elements.{Contains-get_or}
use Rattle.std.proofs.lemmas.List.Kept.{AllPairs-from_increasing}
use Rattle.std.proofs.lemmas.List.Sums.{position_or_len_is}
use Rattle.cpg_base.specs.Numbers.{numbers_below}
use Rattle.cpg_base.specs.Graph.{Graph, Edge, process_count, edge_count, edge_at, source, outputs, is_disjunction}
use Rattle.cpg_base.specs.Graph.{disjunctions, condition_count, condition_of, process_of}
use Rattle.cpg_base.specs.Conditions.{is_conditional_output, has_conditional_output}
use Rattle.cpg_base.proofs.Lists.{Contains-filter, Contains-numbers, list_any_parts, list_any_true, same_truth}
use Rattle.cpg_base.proofs.Lists.{same_filter}
use Rattle.cpg_base.proofs.Inputs.{outputs_parts}
use Rattle.cpg_base.proofs.Items.{disjunctions_rise}

module _ (g : Graph) where
  -- a process with a condition has a conditional output among the edges
  from_output : (p : ℕ) → is_disjunction g p ≡ true → has_conditional_output g.edges p ≡ true
  from_output p is_one =
      let found = list_any_parts (λ e. is_some (edge_at g e).when) (outputs g p) is_one in
      let edge_is = outputs_parts g p found.0 found.1 in
      list_any_true (is_conditional_output p) g.edges (edge_at g found.0) (Contains-get_or g.edges found.0 _ edge_is.0)
      (and_from (source g found.0 == p) (is_some (edge_at g found.0).when)
      (eq-eqb (source g found.0) p edge_is.1) found.2)

  -- a process with a conditional output among the edges has a condition, since that edge is among its outputs
  to_output : (p : ℕ) → has_conditional_output g.edges p ≡ true → is_disjunction g p ≡ true
  to_output p has_output =
      let found = list_any_parts (is_conditional_output p) g.edges has_output in
      let is : edge_at g found.1.0 ≡ found.0 = get_or_default g.edges found.1.0 _ found.0 found.1.1 ∙ found.1.2 in
      let both = and_parts (found.0.from == p) (is_some found.0.when) found.2 in
      list_any_true (λ e. is_some (edge_at g e).when) (outputs g p) found.1.0
      (Contains-filter (λ e. source g e == p) (numbers_below (edge_count g)) found.1.0
      (ap (λ (d : Edge). d.from == p) is ∙ both.0) (Contains-numbers (edge_count g) found.1.0 found.1.1))
      (ap (λ (d : Edge). is_some d.when) is ∙ both.1)

  -- the processes with a conditional output among the edges are those that have conditions
  pub conditions_found : filter (has_conditional_output g.edges) (numbers_below (process_count g)) ≡ disjunctions g
  conditions_found = same_filter (has_conditional_output g.edges) (is_disjunction g) (numbers_below (process_count g))
      (λ p within. same_truth (has_conditional_output g.edges p) (is_disjunction g p) (to_output p) (from_output p))

  -- Each condition is that of its process.
  -- The list of disjunctions rises, so the first place at which the process stands is this one.
  pub condition_back : (c : ℕ) → c < condition_count g → condition_of g (process_of g c) ≡ Some c
  condition_back c inside =
      let passes : ℕ → Bool = λ q. q == process_of g c in
      let at : position_or_len passes (disjunctions g) ≡ c =
      position_or_len_is passes (disjunctions g) c 0 (omega arith)
      (λ k earlier. false_from_ne_true _ (λ equal. absurd (omega (
        arith,
        AllPairs-from_increasing (disjunctions g) (disjunctions_rise g) k c 0 earlier inside,
        eqb-true (get_or (disjunctions g) k 0) (process_of g c) equal,
      ))))
      (λ l. eq-eqb (process_of g c) (process_of g c) refl) in
      cond-true _ _ _ (lt-ltb (position_or_len passes (disjunctions g)) (length (disjunctions g)) (omega (arith, at)))
      ∙ ap Some at
