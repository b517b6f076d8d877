-- If trees agree with given literals in a scenario (`Agrees`), so do the trees that the operations make of them.
use Rattle.std.proofs.Common.{ℕ, ◌≤◌, ◌≡◌, max, min, Bool, true, false, if◌then◌else◌, List, [], ◌∷◌, ◌++◌, Contains}
use Rattle.std.proofs.Common.{arith, refl, sym, subst, inl, inr}
use Rattle.std.proofs.lemmas.List.Elements.{Contains-append_left, Contains-append_right}
use Rattle.std.proofs.lemmas.Bool.{cases_eq}
use Rattle.cpg_base.proofs.Lists.{Contains-first}
use Rattle.cpg_run.proofs.SameInRows.{only_one}
use Rattle.cpg_base.specs.Scenario.{Scenario, number_of}
use Rattle.cpg_cube.specs.declared.literal.Literal.{Literal}
use Rattle.cpg_cube.specs.Cube.{low_in, high_in}
use Rattle.cpg_base.specs.Variable.{top}
use Rattle.cpg_cube.proofs.CubeLows.{low_in-le}
use Rattle.cpg_cube.proofs.Within.{high_in-ge}
use Rattle.cpg_table.specs.Heard.{exactly, kept_low, kept_high}
use Rattle.cpg_run.proofs.Hearing.{low_kept, high_kept, high_kept_top, kept_low_below, kept_high_above, kept_grows}
use Rattle.cpg_tree.specs.Space.{HasAtMostFaults}
use Rattle.cpg_tree.proofs.OnePath.{the_path}
use Rattle.cpg_tree.specs.Tree.{Path, TreeState, IsOnPath, HasOnePathEach, IsConstant, IsMap, IsJoin, IsJoinWhere}
use Rattle.cpg_tree.specs.Tree.{IsPick, IsNumber}
use Rattle.cpg_run.specs.Carrying.{ContainsKept}
use Rattle.cpg_expand.specs.Agreeing.{Agrees}

-- ---- what is kept of two lists

-- given: two lists of literals, and a variable
module _ (xs ys : List Literal) (v : ℕ) where
  -- the low that both lists leave together is no less than that of either
  kept_low_both : max (kept_low xs v) (kept_low ys v) ≤ kept_low (xs ++ ys) v
  kept_low_both = omega (
    arith,
    kept_low_below xs v (kept_low (xs ++ ys) v)
        (λ literal listed same. low_kept (xs ++ ys) v literal (Contains-append_left xs ys literal listed) same),
    kept_low_below ys v (kept_low (xs ++ ys) v)
        (λ literal listed same. low_kept (xs ++ ys) v literal (Contains-append_right xs ys literal listed) same),
  )

  -- the high that both lists leave together is no greater than that of either
  kept_high_both : (k : ℕ) → kept_high k (xs ++ ys) v ≤ min (kept_high k xs v) (kept_high k ys v)
  kept_high_both k = omega (
    arith,
    kept_high_above xs v k (kept_high k (xs ++ ys) v) (omega (arith, high_kept_top (xs ++ ys) v k))
        (λ literal listed same. high_kept (xs ++ ys) v k literal (Contains-append_left xs ys literal listed) same),
    kept_high_above ys v k (kept_high k (xs ++ ys) v) (omega (arith, high_kept_top (xs ++ ys) v k))
        (λ literal listed same. high_kept (xs ++ ys) v k literal (Contains-append_right xs ys literal listed) same),
  )

-- ---- the operations

-- given: the scenario in which trees agree
module _ (s : Scenario) where
  -- a tree that agrees with some literals agrees with more of them, and has any fact that follows
  pub agrees_weaker : {T : Type 0} (t : TreeState T) (some more : List Literal) (fact other : T → Type 0) →
      ((l : Literal) → Contains some l → Contains more l) →
      ((x : T) → fact x → other x) →
      Agrees s some fact t → Agrees s more other t
  -- more literals keep no less of each range
  agrees_weaker t some more fact other within follows agreed = record {
    value = λ path on. follows path.1 (agreed.value path on);
    says = λ path on.
        let kept = agreed.says path on in
        record {
          low = λ v. omega (arith, kept.low v, (kept_grows t.faults some more within v).0);
          high = λ v. omega (arith, kept.high v, (kept_grows t.faults some more within v).1);
        };
  }

  -- a tree of one value agrees with any fact of it, and its path has no literals
  pub agrees_constant : {T : Type 0} (x : T) (k : ℕ) (t : TreeState T) (fact : T → Type 0) → fact x → IsConstant x k t →
      Agrees s [] fact t
  agrees_constant x k t fact holds is = subst (Agrees s [] fact) (sym is) (record {
    value = λ path on. subst (λ (z : Path _). fact z.1) (only path on.stands) holds;
    says = λ path on. subst (λ (z : Path _). ContainsKept k z.0 []) (only path on.stands)
        (record { low = λ v. omega arith; high = λ v. omega arith });
  })
    where
      -- a tree of one value has one path, which has no literals
      only : (y : Path _) → Contains (([], x) ∷ []) y → ([], x) ≡ y
      only y c = only_one ([], x) y c

  -- the tree of the answers to another one's values agrees with the same literals
  pub agrees_map : {T U : Type 0} (answers : T → U → Type 0) (a : TreeState T) (r : TreeState U)
      (literals : List Literal) (fact : T → Type 0) (other : U → Type 0) →
      HasAtMostFaults a.faults s → HasOnePathEach a.faults a.paths → IsMap answers a r →
      ((x : T) (z : U) → fact x → answers x z → other z) → Agrees s literals fact a → Agrees s literals other r
  -- the scenario's path in the new tree has the answer to its value in the old one, and no wider ranges
  agrees_map answers a r literals fact other few each is follows of_a =
      let old_path = the_path a.faults a.paths each s few in
      record {
        value = λ new_path on. follows old_path.0.1 new_path.1 (of_a.value old_path.0 old_path.1)
            (is.value s old_path.0 new_path few old_path.1 on);
        says = λ new_path on.
            let wide = is.ranges s old_path.0 new_path few old_path.1 on in
            let kept = of_a.says old_path.0 old_path.1 in
            subst (λ k. ContainsKept k new_path.0 literals) (sym is.faults) (record {
              low = λ v. omega (arith, wide.low v, kept.low v);
              high = λ v. omega (arith, wide.high v, kept.high v);
            });
      }

  -- the tree r of the answers to the values of a and b agrees with the literals of both: where `by_a` says `fact_a` of
  -- a's value and `by_b` says `fact_b` of b's, both lists say `fact` of the answer
  pub agrees_join : {T U V : Type 0} (answers : T → U → V → Type 0) (a : TreeState T) (b : TreeState U)
      (r : TreeState V) (by_a by_b : List Literal) (fact_a : T → Type 0) (fact_b : U → Type 0)
      (fact : V → Type 0) →
      HasAtMostFaults a.faults s → b.faults ≡ a.faults → HasOnePathEach a.faults a.paths →
      HasOnePathEach a.faults b.paths → IsJoin answers a b r →
      ((x : T) (y : U) (z : V) → fact_a x → fact_b y → answers x y z → fact z) → Agrees s by_a fact_a a →
      Agrees s by_b fact_b b → Agrees s (by_a ++ by_b) fact r
  agrees_join answers a b r by_a by_b fact_a fact_b fact few same each_a each_b is follows of_a of_b =
      -- the paths of the two trees that the scenario takes
      let a_path = the_path a.faults a.paths each_a s few in
      let b_path = the_path a.faults b.paths each_b s few in
      record {
        value = λ r_path on.
            follows a_path.0.1 b_path.0.1 r_path.1 (of_a.value a_path.0 a_path.1) (of_b.value b_path.0 b_path.1)
            (is.value s a_path.0 b_path.0 r_path few a_path.1 b_path.1 on);
        -- the path's literals say no more than those of the two
        says = λ r_path on.
            let wide = is.ranges s a_path.0 b_path.0 r_path few a_path.1 b_path.1 on in
            let kept_a = of_a.says a_path.0 a_path.1 in
            let kept_b = subst (λ k. ContainsKept k b_path.0.0 by_b) same (of_b.says b_path.0 b_path.1) in
            subst (λ k. ContainsKept k r_path.0 (by_a ++ by_b)) (sym is.faults) (record {
              low = λ v. omega (arith, wide.low v, kept_a.low v, kept_b.low v, kept_low_both by_a by_b v);
              high = λ v. omega (
                arith,
                wide.high v,
                kept_a.high v,
                kept_b.high v,
                kept_high_both by_a by_b v a.faults,
              );
            });
      }

  -- the tree r is made of a and b where a chooser is true: if `chosen_by` says that it is, `by_a` says `fact_a` of a's
  -- value and `by_b` says `fact_b` of b's, the three lists say `fact` of the answer
  pub agrees_where : {T U V : Type 0} (answers : T → U → V → Type 0) (none : V) (chooser : TreeState Bool)
      (a : TreeState T) (b : TreeState U) (r : TreeState V) (chosen_by by_a by_b : List Literal)
      (fact_a : T → Type 0) (fact_b : U → Type 0) (fact : V → Type 0) →
      HasAtMostFaults chooser.faults s → a.faults ≡ chooser.faults → b.faults ≡ chooser.faults →
      HasOnePathEach chooser.faults chooser.paths → HasOnePathEach chooser.faults a.paths →
      HasOnePathEach chooser.faults b.paths → IsJoinWhere answers none chooser a b r →
      ((x : T) (y : U) (z : V) → fact_a x → fact_b y → answers x y z → fact z) →
      Agrees s chosen_by (λ c. c ≡ true) chooser → Agrees s by_a fact_a a → Agrees s by_b fact_b b →
      Agrees s (chosen_by ++ (by_a ++ by_b)) fact r
  agrees_where answers none chooser a b r chosen_by by_a by_b fact_a fact_b fact few same_a same_b each_c each_a each_b
      is follows of_c of_a of_b =
      -- the scenario's paths in the chooser and in the two trees decide the value, and the literals on the path in the
      -- join are those that the three paths say
      let chooser_path = the_path chooser.faults chooser.paths each_c s few in
      let a_path = the_path chooser.faults a.paths each_a s few in
      let b_path = the_path chooser.faults b.paths each_b s few in
      let chosen = of_c.value chooser_path.0 chooser_path.1 in
      record {
        -- the value is the one that follows
        value = λ r_path on. follows a_path.0.1 b_path.0.1 r_path.1 (of_a.value a_path.0 a_path.1)
            (of_b.value b_path.0 b_path.1)
            (is.on s chooser_path.0 a_path.0 b_path.0 r_path few chooser_path.1 chosen a_path.1 b_path.1 on);
        -- the path says no more than the three paths, whose literals these are
        says = λ r_path on.
            let wide = is.on_ranges s chooser_path.0 a_path.0 b_path.0 r_path few chooser_path.1 chosen a_path.1
            b_path.1 on in
            let kept_c = of_c.says chooser_path.0 chooser_path.1 in
            let kept_a = subst (λ k. ContainsKept k a_path.0.0 by_a) same_a (of_a.says a_path.0 a_path.1) in
            let kept_b = subst (λ k. ContainsKept k b_path.0.0 by_b) same_b (of_b.says b_path.0 b_path.1) in
            subst (λ k. ContainsKept k r_path.0 (chosen_by ++ (by_a ++ by_b))) (sym is.faults) (record {
              low = λ v. omega (
                arith,
                wide.low v,
                kept_c.low v,
                kept_a.low v,
                kept_b.low v,
                kept_low_both by_a by_b v,
                kept_low_both chosen_by (by_a ++ by_b) v,
              );
              high = λ v. omega (
                arith,
                wide.high v,
                kept_c.high v,
                kept_a.high v,
                kept_b.high v,
                kept_high_both by_a by_b v chooser.faults,
                kept_high_both chosen_by (by_a ++ by_b) v chooser.faults,
              );
            });
      }

  -- the tree r is made as in `agrees_where`: if `chosen_by` says that the chooser is false, it says that r's value is
  -- `none`
  pub agrees_elsewhere : {T U V : Type 0} (answers : T → U → V → Type 0) (none : V) (chooser : TreeState Bool)
      (a : TreeState T) (b : TreeState U) (r : TreeState V) (chosen_by : List Literal) →
      HasAtMostFaults chooser.faults s → HasOnePathEach chooser.faults chooser.paths →
      IsJoinWhere answers none chooser a b r → Agrees s chosen_by (λ c. c ≡ false) chooser
      → Agrees s chosen_by (λ z. z ≡ none) r
  agrees_elsewhere answers none chooser a b r chosen_by few each is of_c =
      -- the path of the chooser that the scenario takes, whose value is false
      let chooser_path = the_path chooser.faults chooser.paths each s few in
      let chosen = of_c.value chooser_path.0 chooser_path.1 in
      record {
        value = λ r_path on. is.off s chooser_path.0 r_path few chooser_path.1 chosen on;
        says = λ r_path on.
            let wide = is.off_ranges s chooser_path.0 r_path few chooser_path.1 chosen on in
            let kept = of_c.says chooser_path.0 chooser_path.1 in
            subst (λ k. ContainsKept k r_path.0 chosen_by) (sym is.faults) (record {
              low = λ v. omega (arith, wide.low v, kept.low v);
              high = λ v. omega (arith, wide.high v, kept.high v);
            });
      }

  -- the tree r picks `on` where the chooser is true and `off` where it is false: if `by_chooser` says that the chooser
  -- is b, and `by_picked` says `fact` of the value of the tree that b picks, both lists say it of r's value
  pub agrees_pick : {T : Type 0} (chooser : TreeState Bool) (on off r : TreeState T) (b : Bool)
      (by_chooser by_picked : List Literal) (fact : T → Type 0) →
      HasAtMostFaults chooser.faults s → on.faults ≡ chooser.faults → off.faults ≡ chooser.faults →
      HasOnePathEach chooser.faults chooser.paths → HasOnePathEach chooser.faults on.paths →
      HasOnePathEach chooser.faults off.paths →
      IsPick chooser on off r → Agrees s by_chooser (λ c. c ≡ b) chooser →
      Agrees s by_picked fact (if b then on else off) →
      Agrees s (by_chooser ++ by_picked) fact r
  agrees_pick {T} chooser on off r b by_chooser by_picked fact few same_on same_off each_c each_on each_off is of_c of_picked =
      -- the path of the scenario in the chooser, and that in the tree that it picks
      let chooser_path = the_path chooser.faults chooser.paths each_c s few in
      let chosen : chooser_path.0.1 ≡ b = of_c.value chooser_path.0 chooser_path.1 in
      let its_path = picked_path b in
      let here : IsOnPath (if chooser_path.0.1 then on.paths else off.paths) s its_path.0 =
      subst (λ (d : Bool). IsOnPath (if d then on.paths else off.paths) s its_path.0) (sym chosen) its_path.1 in
      record {
        -- the value is that of the tree that is picked
        value =
            λ r_path there. subst fact (sym (is.value s chooser_path.0 its_path.0 r_path few chooser_path.1 here there))
            (picked_value b of_picked its_path.0 its_path.1);
        -- the path says no more than these two paths
        says = λ r_path there.
            let wide = is.ranges s chooser_path.0 its_path.0 r_path few chooser_path.1 here there in
            let kept_c = of_c.says chooser_path.0 chooser_path.1 in
            let kept_x = picked_says b of_picked its_path.0 its_path.1 in
            subst (λ k. ContainsKept k r_path.0 (by_chooser ++ by_picked)) (sym is.faults) (record {
              low = λ v. omega (arith, wide.low v, kept_c.low v, kept_x.low v, kept_low_both by_chooser by_picked v);
              high = λ v. omega (
                arith,
                wide.high v,
                kept_c.high v,
                kept_x.high v,
                kept_high_both by_chooser by_picked v chooser.faults,
              );
            });
      }
    where
      -- the tree that is picked has a path for the scenario
      picked_path : (d : Bool) → (x : Path T) × IsOnPath (if d then on.paths else off.paths) s x
      picked_path true = the_path chooser.faults on.paths each_on s few
      picked_path false = the_path chooser.faults off.paths each_off s few

      -- its value has the fact
      picked_value : (d : Bool) → Agrees s by_picked fact (if d then on else off) → (x : Path T) →
          IsOnPath (if d then on.paths else off.paths) s x → fact x.1
      picked_value true agreed x on_path = agreed.value x on_path
      picked_value false agreed x on_path = agreed.value x on_path

      -- its path says no more than the second literals
      picked_says : (d : Bool) → Agrees s by_picked fact (if d then on else off) → (x : Path T) →
          IsOnPath (if d then on.paths else off.paths) s x →
          ContainsKept chooser.faults x.0 by_picked
      picked_says true agreed x on_path = subst (λ k. ContainsKept k x.0 by_picked) same_on (agreed.says x on_path)
      picked_says false agreed x on_path = subst (λ k. ContainsKept k x.0 by_picked) same_off (agreed.says x on_path)

  -- a tree of a variable's number has that number, by the literal that says it
  pub agrees_number : {T : Type 0} (v k : ℕ) (number : T → ℕ) (t : TreeState T) → HasAtMostFaults k s →
      number_of s v ≤ top k v →
      IsNumber v k number t →
      Agrees s (exactly v (number_of s v) ∷ []) (λ x. number x ≡ number_of s v) t
  agrees_number v k number t few most is = record {
    -- the path of the scenario has the variable's number as its value
    value = λ path on. is.value s path few on;
    says = λ path on. subst (λ m. ContainsKept m path.0 (exactly v (number_of s v) ∷ [])) (sym is.faults) (record {
      -- a low that isn't 0 is that of the variable, at most its number
      low = λ u. elim (cases_eq u v) [
        | inl is_v ↦ subst (λ w. low_in path.0 w ≤ kept_low (exactly v (number_of s v) ∷ []) w) (sym is_v)
            (omega (
              arith,
              low_in-le path.0 s v on.matched,
              low_kept (exactly v (number_of s v) ∷ []) v (exactly v (number_of s v)) (Contains-first _ []) refl,
            ))
        | inr other ↦ omega (arith, is.low s path u few on other)
      ];
      -- a high that isn't the top is that of the variable, at least its number
      high = λ u. elim (cases_eq u v) [
        | inl is_v ↦ subst (λ w. kept_high k (exactly v (number_of s v) ∷ []) w ≤ high_in k path.0 w) (sym is_v)
            (omega (
              arith,
              high_in-ge k path.0 s v most on.matched,
              high_kept (exactly v (number_of s v) ∷ []) v k (exactly v (number_of s v)) (Contains-first _ []) refl,
            ))
        | inr other ↦ omega (arith, is.high s path u few on other, high_kept_top (exactly v (number_of s v) ∷ []) u k)
      ];
    });
  }
