-- The inputs of a process, collected in a pass over the edges.
use Rattle.std.proofs.Common.{ℕ, ◌+◌, ◌≡◌, ◌≢◌, ◌==◌, false, List, [], ◌∷◌, ◌++◌, map, filter, get_or, None, ap, sym}
use Rattle.std.proofs.Common.{◌∙◌, eq-eqb}
use Rattle.std.proofs.lemmas.Bool.{ne_eqb}
use Rattle.cpg_base.specs.Numbers.{numbers_below}
use Rattle.cpg_base.specs.declared.process.Edge.{Edge}
use Rattle.cpg_base.specs.Graph.{Graph, target, edge_at}
use Rattle.cpg_rules.specs.declared.steps.Input.{Input}
use Rattle.cpg_rules.specs.Steps.{input_of}
use Rattle.cpg_rules.proofs.Collect.{collects, passes_over}

-- given: the inputs of a process among the first n edges
module _ (g : Graph) (edges : List Edge) (are : edges ≡ g.edges) (p n : ℕ) (xs : List Input)
    (so_far : xs ≡ map (input_of g) (filter (λ e. target g e == p) (numbers_below n))) where
  -- the edge at the place
  abbrev here : Edge
  here = get_or edges n (record { from = 0; to = 0; size = 0; when = None; frozen = false })

  -- the edge at hand is the one of this number
  at : here ≡ edge_at g n
  at = ap (λ es. get_or es n (record { from = 0; to = 0; size = 0; when = None; frozen = false })) are

  -- an edge that leads to the process is one more input
  pub one_more : (ys : List Input) → here.to ≡ p →
      ys ≡ xs ++ (record { edge = n; source = here.from; when = here.when }) ∷ [] →
      ys ≡ map (input_of g) (filter (λ e. target g e == p) (numbers_below (n + 1)))
  one_more ys p_is is = collects (input_of g) (λ e. target g e == p) xs ys
      (record { edge = n; source = here.from; when = here.when }) n so_far
      (eq-eqb (target g n) p (ap (λ (d : Edge). d.to) (sym at) ∙ p_is))
      (ap (λ (d : Edge). let i : Input = record { edge = n; source = d.from; when = d.when } in i) at) is

  -- an edge that doesn't lead to the process is no input of it
  pub none_more : here.to ≢ p → xs ≡ map (input_of g) (filter (λ e. target g e == p) (numbers_below (n + 1)))
  none_more differ = passes_over (input_of g) (λ e. target g e == p) xs n so_far
      (ne_eqb (target g n) p (λ e. differ (ap (λ (d : Edge). d.to) at ∙ e)))
