-- The loop of `common`: a cube that is narrowed by the literals of another one after another.
use Rattle.std.proofs.Common.{ℕ, ◌+◌, ◌<◌, ◌≡◌, false, ◌&&◌, List, length, get_or, take, drop, Some, sym, ap, ◌∙◌}
use Rattle.std.proofs.Common.{subst}
use Rattle.std.specs.List.{list_all}
use Rattle.std.proofs.Math.Bool.{and_assoc, and_comm}
use Rattle.std.proofs.lemmas.Bool.{and_parts, and_from, both_ways, false_from_ne_true}
use Rattle.std.proofs.lemmas.List.{take-append-drop}
use Rattle.std.proofs.lemmas.List.Elements.{Contains-get_or}
use Rattle.std.proofs.lemmas.List.Folds.{list_all-append, list_all_more}
use Rattle.cpg_base.specs.Graph.{Graph}
use Rattle.cpg_base.proofs.Lists.{from_all}
use Rattle.cpg_base.specs.Scenario.{Scenario}
use Rattle.cpg_cube.specs.Cube.{holds, matches}
use Rattle.cpg_cube.specs.declared.literal.Literal.{Literal}
use Rattle.cpg_cube.specs.Fit.{IsKnown}
use Rattle.cpg_cube.specs.Narrow.{with_literal}
use Rattle.cpg_cube.proofs.CubeLaws.{with-is}
use Rattle.cpg_cube.proofs.Narrow.{known-narrowed}

-- given: `part`, which matches exactly where `cube` and the first `i` literals of `other` do (`d` is only the default
-- of `get_or`)
module _ (cube other part : List Literal) (i : ℕ) (d : Literal) (inside : i < length other)
    (so_far : (s : Scenario) → matches part s ≡ (matches cube s && matches (take i other) s)) where
  -- narrowed by the literal at place `i`, the part, `next`, matches exactly where the cube and one literal more do
  pub common_more : (next : List Literal) →
      ((s : Scenario) → matches next s ≡ (holds s (get_or other i d) && matches part s)) →
      (s : Scenario) →
      matches next s ≡ (matches cube s && matches (take (i + 1) other) s)
  common_more next both s =
      both s ∙ ap (λ b. holds s (get_or other i d) && b) (so_far s)
      ∙ and_comm (holds s (get_or other i d)) (matches cube s && matches (take i other) s)
      ∙ and_assoc (matches cube s) (matches (take i other) s) (holds s (get_or other i d))
      ∙ ap (λ b. matches cube s && b) (sym (list_all_more (holds s) other i d inside))

  -- if the literal at place `i` holds nowhere that the part matches, no scenario `s` matches both cubes: it would match
  -- the part, and the literal would hold
  pub common_none : ((s : Scenario) → (holds s (get_or other i d) && matches part s) ≡ false) → (s : Scenario) →
      (matches cube s && matches other s) ≡ false
  common_none none s = false_from_ne_true (matches cube s && matches other s) (λ both.
      let parts = and_parts (matches cube s) (matches other s) both in
      let here = from_all (holds s) other (get_or other i d) parts.1 (Contains-get_or other i d inside) in
      let before = (and_parts (matches (take i other) s) (list_all (holds s) (drop i other))
      (sym (list_all-append (holds s) (take i other) (drop i other))
      ∙ ap (list_all (holds s)) (take-append-drop i other) ∙ parts.1)).0 in
      both_ways _ (none s) (and_from _ _ here (so_far s ∙ and_from _ _ parts.0 before)))

-- if cube `part` is on variables of the graph, and so is the cube `other`, the part narrowed by the literal of `other`
-- at place `i`, `next`, is too
pub known_more : (g : Graph) (part other next : List Literal) (i : ℕ) (d : Literal) → i < length other →
    IsKnown g part → IsKnown g other →
    with_literal (get_or other i d) part ≡ Some next →
    IsKnown g next
known_more g part other next i d inside known all is = subst (IsKnown g) (with-is (get_or other i d) part next is)
    (known-narrowed g (get_or other i d) part (all i d inside) known)
