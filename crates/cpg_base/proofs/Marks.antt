-- Marks of the processes that have a conditional output, and the list of their numbers.
use Rattle.std.proofs.Common.{ℕ, ◌+◌, ◌<◌, ◌≤◌, ◌≡◌, Bool, true, false, ◌&&◌, ◌||◌, ◌==◌, cond, List, [], ◌∷◌, ◌++◌}
use Rattle.std.proofs.Common.{length, get_or, take, filter, is_some, replicate, set, refl, sym, ap, ap₂, ◌∙◌}
use Rattle.std.proofs.Common.{inl, inr, arith, zero, suc, ◌-◌, subst, length-append}
use Rattle.std.proofs.lemmas.Bool.{and_right, or_right}
use Rattle.std.proofs.lemmas.Bool.Decides.{eqb_tells}
use Rattle.std.proofs.lemmas.List.{get_or-set_same, get_or-set_other, get_or-replicate}
use Rattle.std.proofs.lemmas.List.Folds.{list_any_more}
use Rattle.cpg_base.specs.Numbers.{numbers_below}
use Rattle.cpg_base.specs.Graph.{Edge}
use Rattle.cpg_base.specs.Conditions.{is_conditional_output, has_conditional_output}
use Rattle.cpg_base.proofs.Lists.{same_filter, numbers-Contains, filter_below_push}

-- the marks are those of these edges: a process below 128 is marked exactly if it has a conditional output among them
abbrev pub AreMarks : List Bool → List Edge → Type 0
AreMarks marks edges = (p : ℕ) → p < 128 → get_or marks p false ≡ has_conditional_output edges p

-- `or` with a false test adds nothing
or_false : (a b : Bool) → b ≡ false → (a || b) ≡ a
or_false true b is_false = refl
or_false false b is_false = is_false

-- given a place in the list of edges
module _ (edges : List Edge) (i : ℕ) (d : Edge) (within : i < length edges) where
  -- a process has a conditional output among the first i + 1 edges if it has one among the first i or the next edge is one
  more : (p : ℕ) →
      has_conditional_output (take (i + 1) edges) p
      ≡ (has_conditional_output (take i edges) p || is_conditional_output p (get_or edges i d))
  more p = list_any_more (is_conditional_output p) edges i d within

  -- after an edge without a `when` the marks are still right
  pub marks_keep : (marks : List Bool) → AreMarks marks (take i edges) → is_some (get_or edges i d).when ≡ false →
      AreMarks marks (take (i + 1) edges)
  marks_keep marks are simple p below = are p below ∙ sym
      (more p ∙ or_false (has_conditional_output (take i edges) p) (is_conditional_output p (get_or edges i d))
      (and_right ((get_or edges i d).from == p) (is_some (get_or edges i d).when) simple))

  -- After an edge with a `when` they are right once its source is marked.
  -- p is the source of the edge, which is marked now, or another process, of which the edge says nothing.
  pub marks_set : (marks : List Bool) → AreMarks marks (take i edges) → is_some (get_or edges i d).when ≡ true →
      (get_or edges i d).from < length marks →
      AreMarks (set marks (get_or edges i d).from true) (take (i + 1) edges)
  marks_set marks are taken inside p below = let edge = get_or edges i d in elim (eqb_tells edge.from p) [
    | inl same ↦ ap (λ q. get_or (set marks edge.from true) q false) (sym same.1)
        ∙ get_or-set_same marks edge.from true false inside
        ∙ sym (more p ∙ or_right (has_conditional_output (take i edges) p) (is_conditional_output p edge)
        (ap₂ (λ a b. a && b) same.0 taken))
    | inr apart ↦ get_or-set_other marks edge.from p true false (λ q. apart.1 (sym q)) ∙ are p below
        ∙ sym (more p ∙ or_false (has_conditional_output (take i edges) p) (is_conditional_output p edge)
        (ap (λ a. a && is_some edge.when) apart.0))
  ]

-- before the first edge nothing is marked
pub no_marks : (p : ℕ) → p < 128 → get_or (replicate 128 false) p false ≡ false
no_marks p below = get_or-replicate 128 p false false below

-- Of the numbers below m + n no fewer pass a test than of those below n.
-- By induction on m: the last number passes, or it doesn't.
filter_grows_by : (p : ℕ → Bool) (n m : ℕ) →
    length (filter p (numbers_below n)) ≤ length (filter p (numbers_below (m + n)))
filter_grows_by p n zero = subst (λ k. length (filter p (numbers_below n)) ≤ length (filter p (numbers_below k)))
    (let same : n ≡ 0 + n = omega arith in same) (omega arith)
filter_grows_by p n (suc m) =
    let grown : length (filter p (numbers_below (m + n + 1))) ≡ length (filter p (numbers_below (m + n)))
    + length (cond (p (m + n)) ((m + n) ∷ []) []) = ap length (filter_below_push p (m + n)) ∙
    length-append (filter p (numbers_below (m + n))) (cond (p (m + n)) ((m + n) ∷ []) []) in
    subst (λ k. length (filter p (numbers_below n)) ≤ length (filter p (numbers_below k)))
    (let same : m + n + 1 ≡ suc m + n = omega arith in same) (omega (arith, grown, filter_grows_by p n m))

-- below a greater bound no fewer numbers pass a test
pub filter_grows : (p : ℕ → Bool) (n k : ℕ) → n ≤ k →
    length (filter p (numbers_below n)) ≤ length (filter p (numbers_below k))
filter_grows p n k not_less = subst (λ j. length (filter p (numbers_below n)) ≤ length (filter p (numbers_below j)))
    (let same : (k - n) + n ≡ k = omega arith in same) (filter_grows_by p n (k - n))

-- if `most` numbers pass before one that passes, more than `most` pass
pub many_pass : (p : ℕ → Bool) (n i most : ℕ) → i < n → p i ≡ true → length (filter p (numbers_below i)) ≡ most →
    most < length (filter p (numbers_below n))
many_pass p n i most inside passes count_is =
    let one_more : length (filter p (numbers_below (i + 1))) ≡ length (filter p (numbers_below i)) + 1 =
    ap length (filter_below_push p i ∙ ap (λ b. filter p (numbers_below i) ++ cond b (i ∷ []) []) passes) ∙
    length-append (filter p (numbers_below i)) (i ∷ []) in
    omega (arith, one_more, count_is, filter_grows p (i + 1) n (omega arith))

-- if the marks agree with a test, the same numbers are marked and pass it
pub same_marked : (marks : List Bool) (p : ℕ → Bool) (n : ℕ) → n ≤ 128 →
    ((q : ℕ) → q < 128 → get_or marks q false ≡ p q) →
    filter (λ q. get_or marks q false) (numbers_below n) ≡ filter p (numbers_below n)
same_marked marks p n few agree =
    same_filter (λ q. get_or marks q false) p (numbers_below n)
    (λ q within. agree q (omega (arith, numbers-Contains n q within)))
