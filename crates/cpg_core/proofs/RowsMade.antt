-- The rows of the items, made one after another.
use Rattle.std.proofs.Common.{ℕ, ◌+◌, ◌≡◌, List, [], ◌∷◌, ◌++◌, length, get_or, drop, zero, suc, Option, arith, sym, ap}
use Rattle.std.proofs.Common.{ap₂, ◌∙◌, subst, inl, inr, length-append}
use Rattle.std.proofs.lemmas.Bool.{cases_lt}
use Rattle.std.proofs.lemmas.List.{get_or_append_left}
use Rattle.std.proofs.Math.Seq.{get_or-append_seam}
use Rattle.cpg_base.specs.Graph.{Graph}
use Rattle.cpg_table.specs.Table.{Row}
use Rattle.cpg_tree.specs.Tree.{TreeState}
use Rattle.cpg_tree.specs.GraphTrees.{no_tree}
use Rattle.cpg_tree_columns.specs.MadeRows.{IsRowOf, AreFirstRows}

-- with the row of item n behind the rows of the first n items, `more` has those of the first n + 1
pub rows_more : (g : Graph) (urgency : List ℕ) (times : List (TreeState (Option ℕ))) (n : ℕ) (rows more : List Row)
    (row : Row) →
    AreFirstRows g urgency times n rows →
    IsRowOf g urgency (get_or times n (no_tree g.faults)) n row →
    more ≡ rows ++ row ∷ [] → AreFirstRows g urgency times (n + 1) more
-- an item before n keeps its row, and item n has the new one
rows_more g urgency times n rows more row made new is = record {
  count = ap length is ∙ length-append rows (row ∷ []) ∙ ap (λ m. m + 1) made.count;
  each = λ x d below. elim (cases_lt x n) [
    | inl before ↦ subst (IsRowOf g urgency (get_or times x (no_tree g.faults)) x) (sym (ap (λ rs. get_or rs x d) is
        ∙ get_or_append_left rows (row ∷ []) d x (omega (arith, before, made.count)))) (made.each x d before)
    | inr not_before ↦
        let at : x ≡ length rows = omega (arith, made.count) in
        let same : n ≡ x = omega arith in
        subst (IsRowOf g urgency (get_or times x (no_tree g.faults)) x)
        (sym (ap₂ (λ rs j. get_or rs j d) is at ∙ get_or-append_seam rows row [] d))
        (subst (λ j. IsRowOf g urgency (get_or times j (no_tree g.faults)) j row) same new)
  ];
}

-- a list with an element isn't empty
cons_nil : {T : Type 0} (x : T) (rest : List T) → x ∷ rest ≡ [] → ⊥
cons_nil x rest e = cc

-- if an element and a rest are left of a list, the element is the next one and the rest is what is left after it
pub next_left : {T : Type 0} (xs rest : List T) (x d : T) (n : ℕ) → x ∷ rest ≡ drop n xs →
    (get_or xs n d ≡ x) × (rest ≡ drop (n + 1) xs)
next_left [] rest x d zero is_rest = absurd (cons_nil x rest is_rest)
next_left [] rest x d (suc n) is_rest = absurd (cons_nil x rest is_rest)
next_left (y ∷ ys) rest x d zero is_rest = (ap (λ zs. get_or zs 0 d) (sym is_rest), ap (λ zs. drop 1 zs) is_rest)
next_left (y ∷ ys) rest x d (suc n) is_rest =
    let next = next_left ys rest x d n is_rest in
    let same : suc (n + 1) ≡ suc n + 1 = omega arith in
    (next.0, subst (λ k. rest ≡ drop k (y ∷ ys)) same next.1)
