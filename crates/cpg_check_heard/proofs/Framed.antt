-- The loops of `unframed` and `left_open`: bounds that the frames of one row tell are told, and may be left out.
use Rattle.std.proofs.Common.{ℕ, ◌+◌, ◌<◌, ◌≤◌, ◌≡◌, Bool, true, false, not, ◌||◌, List, [], ◌∷◌, ◌++◌, get_or, length}
use Rattle.std.proofs.Common.{take, Contains, sym, ap, ◌∙◌}
use Rattle.std.specs.List.{list_any}
use Rattle.std.proofs.Math.Bool.{or-false}
use Rattle.std.proofs.lemmas.Bool.{or_right}
use Rattle.std.proofs.lemmas.List.Folds.{list_any-append, list_any_more}
use Rattle.cpg_base.proofs.Lists.{Contains-filter_parts, list_any_true, numbers-Contains}
use Rattle.cpg_base.specs.Graph.{Graph, is_heard_by, item_at, item_count, process_count, process_of_variable}
use Rattle.cpg_base.specs.Numbers.{numbers_below}
use Rattle.cpg_base.specs.Scenario.{Scenario}
use Rattle.cpg_table.specs.Heard.{facts}
use Rattle.cpg_table.specs.Shape.{heard_by}
use Rattle.cpg_table.specs.Table.{NodeTable}
use Rattle.cpg_check_heard.specs.declared.bound.LiteralBound.{LiteralBound}
use Rattle.cpg_check_heard.specs.Bounds.{is_free, is_told, tells, variable_of}
use Rattle.cpg_check_heard.specs.Untold.{are_told_by, item_tells, own_tells}
use Rattle.cpg_check_heard.proofs.Facts.{facts_told}
use Rattle.cpg_check_heard.proofs.Untolds.{told_heard}

-- an item `x` that a node hears is one of the graph
pub heard_below : (g : Graph) (node x : ℕ) → Contains (heard_by g node) x → x < item_count g
heard_below g node x among = numbers-Contains (item_count g) x
    (Contains-filter_parts (λ y. is_heard_by g node (item_at g y)) (numbers_below (item_count g)) x among).0

-- if the row of item `x`, which a node hears, tells bound `b` by a time, the node is told the bound
pub frame_told : (g : Graph) (tables : List NodeTable) (time : ℕ) (b : LiteralBound) (s : Scenario) →
    process_count g ≤ 128 →
    process_of_variable g (variable_of b) < process_count g
    → (node x : ℕ) → Contains (heard_by g node) x → are_told_by g tables time b (x ∷ []) s ≡ true →
    not (is_told g tables node time b s) ≡ false
frame_told g tables time b s few within node x among told =
    let one : item_tells g tables time b s x ≡ true = sym (or-false (item_tells g tables time b s x)) ∙ told in
    let all : are_told_by g tables time b (heard_by g node) s ≡ true =
    list_any_true (item_tells g tables time b s) (heard_by g node) x among one in
    ap not (or_right (is_free g.faults b) (list_any (tells b) (facts g tables node s time))
    (told_heard (own_tells g tables node time b s) (are_told_by g tables time b (heard_by g node) s)
    (list_any (tells b) (facts g tables node s time))
    (facts_told g tables time b s few within node) all))

-- a test passes at one of `ys` exactly if it does at one of the first `i` elements of `xs` (`d` is only the default of
-- `get_or`)
module _ {X : Type 0} (test : X → Bool) (xs : List X) (i : ℕ) (d : X) (within : i < length xs) (ys : List X)
    (is : list_any test ys ≡ list_any test (take i xs)) where
  -- with the next element added to `ys`, this is so for one element more
  pub kept_more : (more : List X) → more ≡ ys ++ get_or xs i d ∷ [] →
      list_any test more ≡ list_any test (take (i + 1) xs)
  kept_more more same = ap (list_any test) same ∙ list_any-append test ys (get_or xs i d ∷ [])
      ∙ ap (λ t. list_any test ys || t) (or-false (test (get_or xs i d))) ∙ ap (λ t. t || test (get_or xs i d)) is ∙
      sym (list_any_more test xs i d within)

  -- if the next element fails the test, this is so for one element more without it in `ys`
  pub left_more : test (get_or xs i d) ≡ false → list_any test ys ≡ list_any test (take (i + 1) xs)
  left_more off = is ∙ sym (or-false (list_any test (take i xs))) ∙ ap (λ t. list_any test (take i xs) || t) (sym off)
      ∙ sym (list_any_more test xs i d within)
