-- Where literals hold.
use Rattle.std.proofs.Common.{take, ◌+◌, List, get_or, length, ℕ, ◌≡◌, ◌<◌, true, false, ◌∙◌}
use Rattle.std.proofs.lemmas.Bool.{and_from, both_ways, false_from_ne_true}
use Rattle.std.proofs.lemmas.List.Folds.{list_all_more}
use Rattle.cpg_base.specs.Scenario.{Scenario}
use Rattle.cpg_cube.specs.declared.literal.Literal.{Literal}
use Rattle.cpg_cube.specs.Cube.{holds, matches}

-- if the first literals match and the next one holds, one literal more matches
pub matches_more : (s : Scenario) (ls : List Literal) (i : ℕ) (d : Literal) → i < length ls →
    matches (take i ls) s ≡ true → holds s (get_or ls i d) ≡ true →
    matches (take (i + 1) ls) s ≡ true
matches_more s ls i d there before h =
    list_all_more (holds s) ls i d there ∙ and_from (matches (take i ls) s) (holds s (get_or ls i d)) before h

-- if a literal that must hold where others match doesn't, these don't match
pub not_implied : (s : Scenario) (ls : List Literal) (l : Literal) → (matches ls s ≡ true → holds s l ≡ true) →
    holds s l ≡ false →
    matches ls s ≡ false
not_implied s ls l implied off = false_from_ne_true (matches ls s) (λ all. both_ways (holds s l) off (implied all))
