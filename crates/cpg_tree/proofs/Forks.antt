-- What a scenario finds at a fork, and what is made of its two sides. In the lemmas s is a scenario, v the variable of
-- a fork, u any variable, and k the most faults.
use Rattle.std.proofs.Common.{ℕ, ◌+◌, ◌<◌, ◌≤◌, ◌≡◌, ◌≢◌, max, min, ◌==◌, Bool, true, false, arith, refl, sym, ap, ◌∙◌}
use Rattle.std.proofs.Common.{subst, inl, inr, ◌⊎◌, eq-eqb, ne_eqb, Result, Ok, Err}
use Rattle.std.specs.Prelude.{nat_le, IfOk}
use Rattle.std.specs.Bool.{OnFalse, OnTrue}
use Rattle.std.proofs.lemmas.Bool.{cases_lt, cases_eq, cond-true, cond-false, le-leb, lt-leb}
use Rattle.cpg_base.specs.Scenario.{Scenario, number_of}
use Rattle.cpg_tree.specs.TreeNode.{TreeNode, Leaf, Fork}
use Rattle.cpg_tree.specs.Decision.{value_at, low_at, high_at, DoForksPass, IsFit}
use Rattle.cpg_tree.specs.Space.{Space, IsInSpace}
use Rattle.cpg_tree.specs.Results.{IsForkOf, IsJoinIn, IsJoinOf, IsPickOf, IsResultTree, IsTreeWithin, picked}

-- ---- what a scenario finds

-- given: a fork and a scenario
module _ {T : Type 0} (v cut : ℕ) (below : TreeNode T) (above : TreeNode T) (s : Scenario) where
  -- a scenario whose number is at most the cut finds the value and the ranges of the side below; the variable's own
  -- range ends at the cut
  module _ (at_most : number_of s v ≤ cut) where
    -- the scenario goes to the side below
    goes_below : nat_le (number_of s v) cut ≡ true
    goes_below = le-leb (number_of s v) cut at_most

    -- below the cut a scenario has the value of the side below
    pub value_below : value_at (Fork v cut below above) s ≡ value_at below s
    value_below = cond-true (nat_le (number_of s v) cut) _ _ goes_below

    -- below the cut a scenario has the lows of the side below
    pub low_below : (u : ℕ) → low_at (Fork v cut below above) s u ≡ low_at below s u
    low_below u = cond-true (nat_le (number_of s v) cut) _ _ goes_below

    -- below the cut it has the highs of the side below, at other variables than the fork's
    pub high_below : (k u : ℕ) → u ≢ v → high_at k (Fork v cut below above) s u ≡ high_at k below s u
    high_below k u other =
        cond-true (nat_le (number_of s v) cut) _ _ goes_below
        ∙ cond-false (v == u) _ _ (ne_eqb v u (λ equal. other (sym equal)))

    -- at the fork's variable the high is at most the cut
    pub high_here : (k : ℕ) → high_at k (Fork v cut below above) s v ≡ min cut (high_at k below s v)
    high_here k = cond-true (nat_le (number_of s v) cut) _ _ goes_below ∙ cond-true (v == v) _ _ (eq-eqb v v refl)

  -- a scenario whose number is above the cut finds those of the side above; the variable's own range begins above the
  -- cut
  module _ (past_cut : cut < number_of s v) where
    -- the scenario goes to the side above
    goes_above : nat_le (number_of s v) cut ≡ false
    goes_above = lt-leb (number_of s v) cut past_cut

    -- above the cut it has the value of the side above
    pub value_above : value_at (Fork v cut below above) s ≡ value_at above s
    value_above = cond-false (nat_le (number_of s v) cut) _ _ goes_above

    -- above the cut it has the lows of the side above, at other variables than the fork's
    pub low_above : (u : ℕ) → u ≢ v → low_at (Fork v cut below above) s u ≡ low_at above s u
    low_above u other =
        cond-false (nat_le (number_of s v) cut) _ _ goes_above
        ∙ cond-false (v == u) _ _ (ne_eqb v u (λ equal. other (sym equal)))

    -- at the fork's variable the low is at least the number after the cut
    pub low_here : low_at (Fork v cut below above) s v ≡ max (cut + 1) (low_at above s v)
    low_here = cond-false (nat_le (number_of s v) cut) _ _ goes_above ∙ cond-true (v == v) _ _ (eq-eqb v v refl)

    -- above the cut it has the highs of the side above
    pub high_above : (k u : ℕ) → high_at k (Fork v cut below above) s u ≡ high_at k above s u
    high_above k u = cond-false (nat_le (number_of s v) cut) _ _ goes_above

-- ---- made of two sides

-- given: the fact and the ranges that a result tree is to have in a domain, and a cut
module _ {T : Type 0} (domain : Scenario → Type 0) (fact : Scenario → T → Type 0) (low : Scenario → ℕ → ℕ)
    (high : ℕ → Scenario → ℕ → ℕ) (v cut : ℕ) where
  -- what holds for a scenario that goes to a side: it lies in the side's domain, and the side's fact and ranges imply
  -- those of the whole
  pub record Side (inner : Scenario → Type 0) (inner_fact : Scenario → T → Type 0) (inner_low : Scenario → ℕ → ℕ)
      (inner_high : ℕ → Scenario → ℕ → ℕ) (s : Scenario) : Type 0 where
    pub lies : inner s
    pub gives : (z : T) → inner_fact s z → fact s z
    pub lows : (u : ℕ) → u ≢ v → inner_low s u ≤ low s u
    pub highs : (k u : ℕ) → u ≢ v → high k s u ≤ inner_high k s u

  -- given: a result tree for each side and a fork of the two, and each scenario of the domain lies in the domain of
  -- the side that it goes to
  -- `first`, `first_low`, `first_high`: for scenarios that go below the cut, on all variables and then on v itself;
  -- `second`, `second_low`, `second_high`: the same for scenarios that go above
  module _ (one : Scenario → Type 0) (one_fact : Scenario → T → Type 0) (one_low : Scenario → ℕ → ℕ)
      (one_high : ℕ → Scenario → ℕ → ℕ)
      (two : Scenario → Type 0) (two_fact : Scenario → T → Type 0) (two_low : Scenario → ℕ → ℕ)
      (two_high : ℕ → Scenario → ℕ → ℕ) (lo hi r : TreeNode T)
      (fork : IsForkOf v cut lo hi r) (of_lo : IsResultTree one one_fact one_low one_high lo)
      (of_hi : IsResultTree two two_fact two_low two_high hi)
      (first : (s : Scenario) → domain s → number_of s v ≤ cut → Side one one_fact one_low one_high s)
      (first_low : (s : Scenario) → domain s → number_of s v ≤ cut → one_low s v ≤ low s v)
      (first_high : (k : ℕ) (s : Scenario) → domain s → number_of s v ≤ cut → high k s v ≤ min cut (one_high k s v))
      (second : (s : Scenario) → domain s → cut < number_of s v → Side two two_fact two_low two_high s)
      (second_low : (s : Scenario) → domain s → cut < number_of s v → max (cut + 1) (two_low s v) ≤ low s v)
      (second_high : (k : ℕ) (s : Scenario) → domain s → cut < number_of s v → high k s v ≤ two_high k s v) where
    -- the value of the fork has the fact: by the side that the scenario goes to
    value_is : (s : Scenario) → domain s → (cut < number_of s v) ⊎ (number_of s v ≤ cut) → fact s (value_at r s)
    value_is s inside (inr at_most) = let side = first s inside at_most in
        subst (fact s) (sym (fork.value_below s at_most)) (side.gives (value_at lo s) (of_lo.value s side.lies))
    value_is s inside (inl past_cut) = let side = second s inside past_cut in
        subst (fact s) (sym (fork.value_above s past_cut)) (side.gives (value_at hi s) (of_hi.value s side.lies))

    -- the low that the fork gives u is not above the wanted low: by the side that s goes to, and by whether u is v
    low_is : (s : Scenario) (u : ℕ) → domain s → (cut < number_of s v) ⊎ (number_of s v ≤ cut) → (u ≡ v) ⊎ (u ≢ v) →
        low_at r s u ≤ low s u
    -- s goes below (inr) or above (inl); u is v (inl) or another variable (inr)
    low_is s u inside (inr at_most) (inl is_v) = let side = first s inside at_most in
        subst (λ w. low_at r s w ≤ low s w) (sym is_v)
        (omega (arith, fork.low_below s v at_most, of_lo.lows s v side.lies, first_low s inside at_most))
    low_is s u inside (inr at_most) (inr other) = let side = first s inside at_most in
        omega (arith, fork.low_below s u at_most, of_lo.lows s u side.lies, side.lows u other)
    low_is s u inside (inl past_cut) (inl is_v) = let side = second s inside past_cut in
        subst (λ w. low_at r s w ≤ low s w) (sym is_v)
        (omega (arith, fork.low_here s past_cut, of_hi.lows s v side.lies, second_low s inside past_cut))
    low_is s u inside (inl past_cut) (inr other) = let side = second s inside past_cut in
        omega (arith, fork.low_above s u past_cut other, of_hi.lows s u side.lies, side.lows u other)

    -- the high that the fork gives u is not below the wanted high, by the same four cases
    high_is : (k : ℕ) (s : Scenario) (u : ℕ) → domain s → (cut < number_of s v) ⊎ (number_of s v ≤ cut) →
        (u ≡ v) ⊎ (u ≢ v) →
        high k s u ≤ high_at k r s u
    -- s goes below (inr) or above (inl); u is v (inl) or another variable (inr)
    high_is k s u inside (inr at_most) (inl is_v) = let side = first s inside at_most in
        subst (λ w. high k s w ≤ high_at k r s w) (sym is_v)
        (omega (arith, fork.high_here k s at_most, of_lo.highs k s v side.lies, first_high k s inside at_most))
    high_is k s u inside (inr at_most) (inr other) = let side = first s inside at_most in
        omega (arith, fork.high_below k s u at_most other, of_lo.highs k s u side.lies, side.highs k u other)
    high_is k s u inside (inl past_cut) (inl is_v) = let side = second s inside past_cut in
        subst (λ w. high k s w ≤ high_at k r s w) (sym is_v)
        (omega (arith, fork.high_above k s v past_cut, of_hi.highs k s v side.lies, second_high k s inside past_cut))
    high_is k s u inside (inl past_cut) (inr other) = let side = second s inside past_cut in
        omega (arith, fork.high_above k s u past_cut, of_hi.highs k s u side.lies, side.highs k u other)

    -- then the fork is a result tree for the whole domain
    pub made_of_sides : IsResultTree domain fact low high r
    made_of_sides = record {
      value = λ s inside. value_is s inside (cases_lt cut (number_of s v));
      lows = λ s u inside. low_is s u inside (cases_lt cut (number_of s v)) (cases_eq u v);
      highs = λ k s u inside. high_is k s u inside (cases_lt cut (number_of s v)) (cases_eq u v);
    }

-- a result tree for a fact and given ranges is one for any weaker fact and narrower ranges
pub made_weaker : {T : Type 0} (domain : Scenario → Type 0) (fact other_fact : Scenario → T → Type 0)
    (low other_low : Scenario → ℕ → ℕ) (high other_high : ℕ → Scenario → ℕ → ℕ) (r : TreeNode T) →
    IsResultTree domain fact low high r →
    ((s : Scenario) (z : T) → domain s → fact s z → other_fact s z) →
    ((s : Scenario) (u : ℕ) → domain s → low s u ≤ other_low s u) →
    ((k : ℕ) (s : Scenario) (u : ℕ) → domain s → other_high k s u ≤ high k s u) →
    IsResultTree domain other_fact other_low other_high r
made_weaker domain fact other_fact low other_low high other_high r made gives lows highs = record {
  value = λ s inside. gives s (value_at r s) inside (made.value s inside);
  lows = λ s u inside. omega (arith, made.lows s u inside, lows s u inside);
  highs = λ k s u inside. omega (arith, made.highs k s u inside, highs k s u inside);
}

-- a result tree in a domain is one in any smaller domain
pub made_narrower : {T : Type 0} (domain fewer : Scenario → Type 0) (fact : Scenario → T → Type 0)
    (low : Scenario → ℕ → ℕ) (high : ℕ → Scenario → ℕ → ℕ) (r : TreeNode T) →
    IsResultTree domain fact low high r →
    ((s : Scenario) → fewer s → domain s) → IsResultTree fewer fact low high r
made_narrower domain fewer fact low high r made only = record {
  value = λ s inside. made.value s (only s inside);
  lows = λ s u inside. made.lows s u (only s inside);
  highs = λ k s u inside. made.highs k s u (only s inside);
}

-- answers made with the part of a tree that a space comes to are made with the tree
pub join_whole : {T U V : Type 0} (answers : T → U → V → Type 0) (space : Space) (a : TreeNode T) (b part : TreeNode U)
    (r : TreeNode V) →
    IsTreeWithin space b part →
    IsJoinOf answers space a part r → IsJoinOf answers space a b r
join_whole answers space a b part r same made = made_weaker (IsInSpace space) _ _ _ _ _ _ r made
    (λ s z inside has_fact. subst (λ y. answers (value_at a s) y z) (same.value s inside) has_fact)
    (λ s u inside. omega (arith, same.lows s u inside)) (λ k s u inside. omega (arith, same.highs k s u inside))

-- what a chooser picks from the parts of trees that a space comes to is picked from the trees
pub pick_whole : {T : Type 0} (space : Space) (chooser : TreeNode Bool) (on off on_part off_part r : TreeNode T) →
    IsTreeWithin space on on_part →
    IsTreeWithin space off off_part →
    IsPickOf space chooser on_part off_part r → IsPickOf space chooser on off r
-- in the scenarios of the space the part that is picked has the value of its tree, and no narrower ranges
pick_whole {T} space chooser on off on_part off_part r same_on same_off made =
    made_weaker (IsInSpace space) _ _ _ _ _ _ r made
    (λ s z inside has_fact. has_fact ∙ same_value (value_at chooser s) s inside)
    (λ s u inside. omega (arith, same_low (value_at chooser s) s u inside))
    (λ k s u inside. omega (arith, same_high (value_at chooser s) k s u inside))
  where
    -- what is picked of the parts has the value of what is picked of the trees
    same_value : (b : Bool) (s : Scenario) → IsInSpace space s →
        value_at (picked b on_part off_part) s ≡ value_at (picked b on off) s
    same_value true s inside = same_on.value s inside
    same_value false s inside = same_off.value s inside

    -- what is picked of the parts has no greater lows than what is picked of the trees
    same_low : (b : Bool) (s : Scenario) (u : ℕ) → IsInSpace space s →
        low_at (picked b on_part off_part) s u ≤ low_at (picked b on off) s u
    same_low true s u inside = same_on.lows s u inside
    same_low false s u inside = same_off.lows s u inside

    -- what is picked of the parts has no lesser highs than what is picked of the trees
    same_high : (b : Bool) (k : ℕ) (s : Scenario) (u : ℕ) → IsInSpace space s →
        high_at k (picked b on off) s u ≤ high_at k (picked b on_part off_part) s u
    same_high true k s u inside = same_on.highs k s u inside
    same_high false k s u inside = same_off.highs k s u inside

-- ---- of one tree

-- given: a fact of a scenario, the value of the one tree there, and that of the tree made
module _ {T U : Type 0} (fact : Scenario → T → U → Type 0) where
  -- a tree is made of one tree, in the scenarios of a domain
  abbrev pub IsOne : (Scenario → Type 0) → TreeNode T → TreeNode U → Type 0
  IsOne domain a r = IsResultTree domain (λ s z. fact s (value_at a s) z) (low_at a) (λ k. high_at k a) r

  -- given: the scenarios that count, a fork, and the tree that is made of it
  module _ (domain : Scenario → Type 0) (v cut : ℕ) (below : TreeNode T) (above : TreeNode T) (r : TreeNode U) where
    -- the fork
    abbrev whole : TreeNode T
    whole = Fork v cut below above

    -- if all scenarios go below, a result tree of the side below is one of the fork
    pub one_below : IsOne domain below r → ((s : Scenario) → domain s → number_of s v ≤ cut) →
        IsOne domain (Fork v cut below above) r
    -- by `made_weaker`: the fork's high of v is at most that of the side, by the cut; all else is what the side has
    one_below made only = made_weaker domain _ _ _ _ _ _ r made
        (λ s z inside has_fact. subst (λ x. fact s x z) (sym (value_below v cut below above s (only s inside)))
        has_fact)
        (λ s u inside. omega (arith, low_below v cut below above s (only s inside) u))
        (λ k s u inside. elim (cases_eq u v) [
          | inl is_v ↦ subst (λ w. high_at k whole s w ≤ high_at k below s w) (sym is_v)
              (omega (arith, high_here v cut below above s (only s inside) k))
          | inr other ↦ omega (arith, high_below v cut below above s (only s inside) k u other)
        ])

    -- if all scenarios go above, a result tree of the side above is one of the fork
    pub one_above : IsOne domain above r → ((s : Scenario) → domain s → cut < number_of s v) →
        IsOne domain (Fork v cut below above) r
    -- by `made_weaker`: the fork's low of v is at least that of the side, by the cut; all else is what the side has
    one_above made only = made_weaker domain _ _ _ _ _ _ r made
        (λ s z inside has_fact. subst (λ x. fact s x z) (sym (value_above v cut below above s (only s inside)))
        has_fact)
        (λ s u inside. elim (cases_eq u v) [
          | inl is_v ↦ subst (λ w. low_at above s w ≤ low_at whole s w) (sym is_v)
              (omega (arith, low_here v cut below above s (only s inside)))
          | inr other ↦ omega (arith, low_above v cut below above s (only s inside) u other)
        ])
        (λ k s u inside. omega (arith, high_above v cut below above s (only s inside) k u))

    -- a fork of result trees of the two sides is a result tree of the fork
    pub one_fork : (one two : Scenario → Type 0) (lo hi : TreeNode U) → IsOne one below lo → IsOne two above hi →
        IsForkOf v cut lo hi r →
        ((s : Scenario) → domain s → number_of s v ≤ cut → one s) →
        ((s : Scenario) → domain s → cut < number_of s v → two s) → IsOne domain (Fork v cut below above) r
    -- by `made_of_sides`: what a scenario finds at the fork is what it finds on its side, below and then above
    one_fork one two lo hi of_lo of_hi fork goes_one goes_two =
        made_of_sides domain (λ s z. fact s (value_at whole s) z) (low_at whole) (λ k. high_at k whole) v cut
        one _ _ _ two _ _ _ lo hi r fork of_lo of_hi
        (λ s inside at_most. record {
          lies = goes_one s inside at_most;
          gives = λ z has_fact. subst (λ x. fact s x z) (sym (value_below v cut below above s at_most)) has_fact;
          lows = λ u other. omega (arith, low_below v cut below above s at_most u);
          highs = λ k u other. omega (arith, high_below v cut below above s at_most k u other);
        })
        (λ s inside at_most. omega (arith, low_below v cut below above s at_most v))
        (λ k s inside at_most. omega (arith, high_here v cut below above s at_most k))
        (λ s inside past_cut. record {
          lies = goes_two s inside past_cut;
          gives = λ z has_fact. subst (λ x. fact s x z) (sym (value_above v cut below above s past_cut)) has_fact;
          lows = λ u other. omega (arith, low_above v cut below above s past_cut u other);
          highs = λ k u other. omega (arith, high_above v cut below above s past_cut k u);
        })
        (λ s inside past_cut. omega (arith, low_here v cut below above s past_cut))
        (λ k s inside past_cut. omega (arith, high_above v cut below above s past_cut k v))

-- ---- of a tree and more

-- given: such a fact, and how far the value of the one tree narrows the ranges further: from below (`more_low`) and
-- from above (`more_high`)
module _ {T U : Type 0} (fact : Scenario → T → U → Type 0) (more_low : Scenario → T → ℕ → ℕ)
    (more_high : ℕ → Scenario → T → ℕ → ℕ) where
  -- a tree is made of one tree, with more ranges narrowed, in the scenarios of a domain
  abbrev pub IsTwo : (Scenario → Type 0) → TreeNode T → TreeNode U → Type 0
  IsTwo domain a r =
      IsResultTree domain (λ s z. fact s (value_at a s) z) (λ s u. max (low_at a s u) (more_low s (value_at a s) u))
      (λ k s u. min (high_at k a s u) (more_high k s (value_at a s) u)) r

  -- given: the scenarios that count, a fork, and the tree that is made of it
  module _ (domain : Scenario → Type 0) (v cut : ℕ) (below : TreeNode T) (above : TreeNode T) (r : TreeNode U) where
    -- the fork
    abbrev both : TreeNode T
    both = Fork v cut below above

    -- if all scenarios go below, a result tree of the side below is one of the fork
    pub two_below : IsTwo domain below r → ((s : Scenario) → domain s → number_of s v ≤ cut) →
        IsTwo domain (Fork v cut below above) r
    -- By `made_weaker`: the fork finds the value of the side below, no lower lows and no higher highs. Its high of v,
    -- by the cut, may be less than that of the side.
    two_below made only = made_weaker domain _ _ _ _ _ _ r made
        (λ s z inside has_fact. subst (λ x. fact s x z) (sym (value_below v cut below above s (only s inside)))
        has_fact)
        (λ s u inside. omega (
          arith,
          low_below v cut below above s (only s inside) u,
          ap (λ x. more_low s x u) (value_below v cut below above s (only s inside)),
        ))
        (λ k s u inside. elim (cases_eq u v) [
          | inl is_v ↦ subst (λ w. min (high_at k both s w) (more_high k s (value_at both s) w)
              ≤ min (high_at k below s w) (more_high k s (value_at below s) w)) (sym is_v)
              (omega (
                arith,
                high_here v cut below above s (only s inside) k,
                ap (λ x. more_high k s x v) (value_below v cut below above s (only s inside)),
              ))
          | inr other ↦ omega (
            arith,
            high_below v cut below above s (only s inside) k u other,
            ap (λ x. more_high k s x u) (value_below v cut below above s (only s inside)),
          )
        ])

    -- if all scenarios go above, a result tree of the side above is one of the fork
    pub two_above : IsTwo domain above r → ((s : Scenario) → domain s → cut < number_of s v) →
        IsTwo domain (Fork v cut below above) r
    -- By `made_weaker`: the fork finds the value of the side above, no lower lows and no higher highs. Its low of v, by
    -- the cut, may be greater than that of the side.
    two_above made only = made_weaker domain _ _ _ _ _ _ r made
        (λ s z inside has_fact. subst (λ x. fact s x z) (sym (value_above v cut below above s (only s inside)))
        has_fact)
        (λ s u inside. elim (cases_eq u v) [
          | inl is_v ↦ subst (λ w. max (low_at above s w) (more_low s (value_at above s) w)
              ≤ max (low_at both s w) (more_low s (value_at both s) w)) (sym is_v)
              (omega (
                arith,
                low_here v cut below above s (only s inside),
                ap (λ x. more_low s x v) (value_above v cut below above s (only s inside)),
              ))
          | inr other ↦ omega (
            arith,
            low_above v cut below above s (only s inside) u other,
            ap (λ x. more_low s x u) (value_above v cut below above s (only s inside)),
          )
        ])
        (λ k s u inside. omega (
          arith,
          high_above v cut below above s (only s inside) k u,
          ap (λ x. more_high k s x u) (value_above v cut below above s (only s inside)),
        ))

    -- a fork of result trees of the two sides is a result tree of the fork
    pub two_fork : (one two : Scenario → Type 0) (lo hi : TreeNode U) → IsTwo one below lo → IsTwo two above hi →
        IsForkOf v cut lo hi r →
        ((s : Scenario) → domain s → number_of s v ≤ cut → one s) →
        ((s : Scenario) → domain s → cut < number_of s v → two s) → IsTwo domain (Fork v cut below above) r
    -- by `made_of_sides`: what a scenario finds at the fork is what it finds on its side, below and then above; the
    -- other ranges go by the value, which is the same there
    two_fork one two lo hi of_lo of_hi fork goes_one goes_two = made_of_sides domain _ _ _ v cut
        one _ _ _ two _ _ _ lo hi r fork of_lo of_hi
        (λ s inside at_most. record {
          lies = goes_one s inside at_most;
          gives = λ z has_fact. subst (λ x. fact s x z) (sym (value_below v cut below above s at_most)) has_fact;
          lows = λ u other. omega (
            arith,
            low_below v cut below above s at_most u,
            ap (λ x. more_low s x u) (value_below v cut below above s at_most),
          );
          highs = λ k u other. omega (
            arith,
            high_below v cut below above s at_most k u other,
            ap (λ x. more_high k s x u) (value_below v cut below above s at_most),
          );
        })
        (λ s inside at_most. omega (
          arith,
          low_below v cut below above s at_most v,
          ap (λ x. more_low s x v) (value_below v cut below above s at_most),
        ))
        (λ k s inside at_most. omega (
          arith,
          high_here v cut below above s at_most k,
          ap (λ x. more_high k s x v) (value_below v cut below above s at_most),
        ))
        (λ s inside past_cut. record {
          lies = goes_two s inside past_cut;
          gives = λ z has_fact. subst (λ x. fact s x z) (sym (value_above v cut below above s past_cut)) has_fact;
          lows = λ u other. omega (
            arith,
            low_above v cut below above s past_cut u other,
            ap (λ x. more_low s x u) (value_above v cut below above s past_cut),
          );
          highs = λ k u other. omega (
            arith,
            high_above v cut below above s past_cut k u,
            ap (λ x. more_high k s x u) (value_above v cut below above s past_cut),
          );
        })
        (λ s inside past_cut.
        omega (
          arith,
          low_here v cut below above s past_cut,
          ap (λ x. more_low s x v) (value_above v cut below above s past_cut),
        ))
        (λ k s inside past_cut. omega (
          arith,
          high_above v cut below above s past_cut k v,
          ap (λ x. more_high k s x v) (value_above v cut below above s past_cut),
        ))

-- if an answer has a fact, it has what follows from that
pub of_answer : {T E : Type 0} (r : Result T E) (P Q : T → Type 0) → IfOk r P → ((x : T) → P x → Q x) → IfOk r Q
of_answer (Ok x) P Q holds follows = follows x holds
of_answer (Err e) P Q holds follows = holds

-- an answer that has two facts has both at once
pub of_both : {T E : Type 0} (r : Result T E) (P Q : T → Type 0) → IfOk r P → IfOk r Q → IfOk r (λ x. P x × Q x)
of_both (Ok x) P Q p q = (p, q)
of_both (Err e) P Q p q = p

-- if a test is false, what it implies when it is false holds; the same for true
pub from_false : {P : Type 0} (b : Bool) → b ≡ false → OnFalse b P → P
from_false true given holds = cc
from_false false given holds = holds

-- what a true test guarantees
pub from_true : {P : Type 0} (b : Bool) → b ≡ true → OnTrue b P → P
from_true true given holds = holds
from_true false given holds = cc

-- given: a tree that is equal to a fork; the three lemmas above hold for it
module _ {T U : Type 0} (fact : Scenario → T → U → Type 0) (domain : Scenario → Type 0) (v cut : ℕ)
    (below above n : TreeNode T) (is : n ≡ Fork v cut below above)
    (r : TreeNode U) where
  -- what is made of the side below alone is made of the fork if only scenarios below count
  pub one_below_of : IsOne fact domain below r → ((s : Scenario) → domain s → number_of s v ≤ cut) →
      IsOne fact domain n r
  one_below_of made only =
      subst (λ (m : TreeNode T). IsOne fact domain m r) (sym is) (one_below fact domain v cut below above r made only)

  -- what is made of the side above alone is made of the fork if only scenarios above count
  pub one_above_of : IsOne fact domain above r → ((s : Scenario) → domain s → cut < number_of s v) →
      IsOne fact domain n r
  one_above_of made only =
      subst (λ (m : TreeNode T). IsOne fact domain m r) (sym is) (one_above fact domain v cut below above r made only)

  -- a fork of result trees of the two sides is a result tree of the whole tree
  pub one_fork_of : (one two : Scenario → Type 0) (lo hi : TreeNode U) → IsOne fact one below lo →
      IsOne fact two above hi →
      IsForkOf v cut lo hi r →
      ((s : Scenario) → domain s → number_of s v ≤ cut → one s) →
      ((s : Scenario) → domain s → cut < number_of s v → two s) → IsOne fact domain n r
  one_fork_of one two lo hi of_lo of_hi fork goes_one goes_two =
      subst (λ (m : TreeNode T). IsOne fact domain m r) (sym is)
      (one_fork fact domain v cut below above r one two lo hi of_lo of_hi fork goes_one goes_two)

-- given: a tree that is equal to a fork; the three lemmas above hold for it
module _ {T U : Type 0} (fact : Scenario → T → U → Type 0) (more_low : Scenario → T → ℕ → ℕ)
    (more_high : ℕ → Scenario → T → ℕ → ℕ) (domain : Scenario → Type 0) (v cut : ℕ)
    (below above n : TreeNode T) (is : n ≡ Fork v cut below above) (r : TreeNode U) where
  -- with ranges narrowed further, what is made of the side below is made of the fork if only scenarios below count
  pub two_below_of : IsTwo fact more_low more_high domain below r → ((s : Scenario) → domain s → number_of s v ≤ cut) →
      IsTwo fact more_low more_high domain n r
  two_below_of made only = subst (λ (m : TreeNode T). IsTwo fact more_low more_high domain m r) (sym is)
      (two_below fact more_low more_high domain v cut below above r made only)

  -- with ranges narrowed further, what is made of the side above is made of the fork if only scenarios above count
  pub two_above_of : IsTwo fact more_low more_high domain above r → ((s : Scenario) → domain s → cut < number_of s v) →
      IsTwo fact more_low more_high domain n r
  two_above_of made only = subst (λ (m : TreeNode T). IsTwo fact more_low more_high domain m r) (sym is)
      (two_above fact more_low more_high domain v cut below above r made only)

  -- a fork of result trees of the two sides is a result tree of the whole tree
  pub two_fork_of : (one two : Scenario → Type 0) (lo hi : TreeNode U) → IsTwo fact more_low more_high one below lo →
      IsTwo fact more_low more_high two above hi →
      IsForkOf v cut lo hi r →
      ((s : Scenario) → domain s → number_of s v ≤ cut → one s) →
      ((s : Scenario) → domain s → cut < number_of s v → two s) → IsTwo fact more_low more_high domain n r
  two_fork_of one two lo hi of_lo of_hi fork goes_one goes_two =
      subst (λ (m : TreeNode T). IsTwo fact more_low more_high domain m r) (sym is)
      (two_fork fact more_low more_high domain v cut below above r one two lo hi of_lo of_hi fork goes_one goes_two)

-- given: a tree that is equal to a leaf
module _ {T U : Type 0} (fact : Scenario → T → U → Type 0) (more_low : Scenario → T → ℕ → ℕ)
    (more_high : ℕ → Scenario → T → ℕ → ℕ) (domain : Scenario → Type 0) (x : T) (n : TreeNode T)
    (is : n ≡ Leaf x) (r : TreeNode U) where
  -- a result tree for the one value is one of the tree
  pub two_leaf_of : IsResultTree domain (λ s z. fact s x z) (λ s u. more_low s x u) (λ k s u. more_high k s x u) r →
      IsTwo fact more_low more_high domain n r
  two_leaf_of made = subst (λ (m : TreeNode T). IsTwo fact more_low more_high domain m r) (sym is)
      (made_weaker domain _ _ _ _ _ _ r made (λ s z inside has_fact. has_fact) (λ s u inside. omega arith)
      (λ k s u inside. omega arith))

-- if the forks of a tree that is a fork pass a test, so do those of its sides
pub passes_parts : {T : Type 0} (test : ℕ → Bool) (v cut : ℕ) (below above n : TreeNode T) →
    n ≡ Fork v cut below above → DoForksPass test n →
    (test v ≡ true) ×
    DoForksPass test below × DoForksPass test above
passes_parts test v cut below above n is pass = subst (DoForksPass test) is pass

-- if a tree that is equal to a fork fits, so does the fork
pub fit_parts : {T : Type 0} (space : Space) (v cut : ℕ) (below above n : TreeNode T) → n ≡ Fork v cut below above →
    IsFit space n →
    IsFit space (Fork v cut below above)
fit_parts space v cut below above n is fit = subst (IsFit space) is fit
