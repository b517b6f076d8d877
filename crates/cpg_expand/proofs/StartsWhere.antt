-- Starts that are made only where a process is active.
use Rattle.std.proofs.Common.{ℕ, ◌≡◌, max, Bool, true, false, if◌then◌else◌, List, [], ◌∷◌, ◌++◌, get_or, Option, Some}
use Rattle.std.proofs.Common.{None, All, Contains, refl, sym, ap₂, ap, ◌∙◌, subst, arith, inl, inr}
use Rattle.std.proofs.lemmas.List.Elements.{Contains-append_cases, Contains-append_left, Contains-append_right}
use Rattle.cpg_base.specs.Bus.{slot_length}
use Rattle.cpg_base.specs.Graph.{Graph, source, is_message, message_item, home}
use Rattle.cpg_base.specs.Activity.{is_active}
use Rattle.cpg_base.specs.declared.activation.Activation.{Activation}
use Rattle.cpg_base.specs.declared.activation.Activation.TheVariants.{Inactive, Plain, By}
use Rattle.cpg_base.specs.Scenario.{Scenario}
use Rattle.cpg_base.proofs.Lists.{Contains-nil}
use Rattle.cpg_order.specs.Guard.{Guard, Leaf, Test, outcome_at, way}
use Rattle.cpg_cube.specs.declared.literal.Literal.{Literal}
use Rattle.cpg_tree.specs.Space.{HasAtMostFaults}
use Rattle.cpg_tree.specs.Read.{later_by}
use Rattle.cpg_tree.specs.Tree.{TreeState, IsConstant, IsJoinWhere, IsPick}
use Rattle.cpg_expand.specs.Agreeing.{Agrees, HasValueFrom}
use Rattle.cpg_tree.specs.GraphTrees.{IsTree}
use Rattle.cpg_expand.specs.Descent.{AreLeaves}
use Rattle.cpg_expand.specs.Forest.{ForestState, ends_of, input_delay, input_tree, later_tree, times_of}
use Rattle.cpg_expand.specs.Guarded.{AreOwnInputsThere, IsActiveTree, IsStartAfter, IsStartTree, IsStartWhere}
use Rattle.cpg_expand.specs.Guarded.{WaitsForAll}
use Rattle.cpg_expand.specs.Guarded.{awaited, start_at, start_literals, values_known}
use Rattle.cpg_expand.specs.Later.{IsLaterTree, IsLatest, IsReleasedWhere}
use Rattle.cpg_tree.specs.Later.{time_later}
use Rattle.cpg_expand.proofs.AgreeingTrees.{agrees_constant, agrees_elsewhere, agrees_pick, agrees_weaker, agrees_where}
use Rattle.cpg_expand.proofs.GuardTrees.{as_read, each_of, from_ends, last_input, one_input, own_input}
use Rattle.cpg_tree.proofs.GraphTrees.{few_of}
use Rattle.cpg_expand.proofs.GuardTrees.{support_as_first}

-- ---- the later of two where a chooser is true

-- given: a tree that is made, where a chooser is true, of the greater number of two trees, and one scenario
-- `number`, `other_number`: the numbers that the two trees' values are read as
-- `makes`, `none`: what is made of the greater number where the chooser is true, and what stands elsewhere
-- `of_chooser`, `of_a`, `of_b`: the trees have the graph's faults, and one path for each scenario
-- `made`: the tree t is made so of the trees `a` and `b`; `s`, `few`, `chosen_by`: the scenario, and the literals by
-- which the chooser's value is known
module _ {T U V : Type 0} (g : Graph) (number : T → ℕ) (other_number : U → ℕ) (makes : ℕ → V) (none : V)
    (chooser : TreeState Bool) (a : TreeState T) (b : TreeState U) (t : TreeState V)
    (of_chooser : IsTree g chooser) (of_a : IsTree g a) (of_b : IsTree g b)
    (made : IsJoinWhere (λ x y z. z ≡ makes (max (number x) (other_number y))) none chooser a b t)
    (s : Scenario) (few : HasAtMostFaults g.faults s) (chosen_by : List Literal) where
  -- where the chooser is true, t has what is made of the greater of the two numbers; its path follows from the
  -- chooser's literals, from `by_a`, which say that a's number is x, and from `by_b`, which say that b's is y
  made_where : (by_a by_b : List Literal) (x y : ℕ) → HasValueFrom s chosen_by true chooser →
      Agrees s by_a (λ v. number v ≡ x) a →
      Agrees s by_b (λ w. other_number w ≡ y) b →
      HasValueFrom s (chosen_by ++ (by_a ++ by_b)) (makes (max x y)) t
  -- by `agrees_where`: equal numbers have the same greater one
  made_where by_a by_b x y on has_value other =
      agrees_where s (λ v w z. z ≡ makes (max (number v) (other_number w))) none chooser a b t chosen_by by_a by_b
      (λ v. number v ≡ x) (λ w. other_number w ≡ y) (λ z. z ≡ makes (max x y))
      (few_of g.faults chooser.faults s of_chooser.faults few) (of_a.faults ∙ sym of_chooser.faults)
      (of_b.faults ∙ sym of_chooser.faults)
      (each_of g chooser.faults chooser of_chooser.faults of_chooser)
      (each_of g chooser.faults a of_chooser.faults of_a) (each_of g chooser.faults b of_chooser.faults of_b)
      made (λ v w z is_x is_y is_made. is_made ∙ ap₂ (λ m n. makes (max m n)) is_x is_y) on has_value other

  -- the same with the two trees turned: the literals and the number of b stand first
  made_where_turned : (by_a by_b : List Literal) (x y : ℕ) → HasValueFrom s chosen_by true chooser →
      Agrees s by_a (λ v. number v ≡ x) a →
      Agrees s by_b (λ w. other_number w ≡ y) b →
      HasValueFrom s (chosen_by ++ (by_b ++ by_a)) (makes (max y x)) t
  -- the greater of two numbers, and what two lists of literals say, don't depend on which comes first
  made_where_turned by_a by_b x y on has_value other =
      agrees_weaker s t (chosen_by ++ (by_a ++ by_b)) (chosen_by ++ (by_b ++ by_a)) (λ z. z ≡ makes (max x y))
      (λ z. z ≡ makes (max y x))
      (support_as_first chosen_by (by_a ++ by_b) (by_b ++ by_a)
      (λ literal listed. elim (Contains-append_cases by_a by_b literal listed) [
        | inl in_first ↦ Contains-append_right by_b by_a literal in_first
        | inr in_second ↦ Contains-append_left by_b by_a literal in_second
      ]))
      (λ z equal. equal ∙ ap makes (let same : max x y ≡ max y x = omega arith in same))
      (made_where by_a by_b x y on has_value other)

  -- where the chooser is false, t has `none`, by the chooser's literals alone
  made_elsewhere : HasValueFrom s chosen_by false chooser → HasValueFrom s chosen_by none t
  made_elsewhere off =
      agrees_elsewhere s (λ v w z. z ≡ makes (max (number v) (other_number w))) none chooser a b t chosen_by
      (few_of g.faults chooser.faults s of_chooser.faults few)
      (each_of g chooser.faults chooser of_chooser.faults of_chooser) made off

-- given: a tree of times that was read from a forest, the delay that is added to its times, a release and a chooser
-- `delay`, `d`, `same_delay`: the delay, and the same one by another name
-- `times`, `read`, `is`, `of_times`: the tree of times, and the same one by another name
-- `chooser`, `of_chooser`: where there are starts
module _ (g : Graph) (release delay d : ℕ) (same_delay : delay ≡ d) (times read : TreeState (Option ℕ))
    (is : times ≡ read) (of_times : IsTree g times) (chooser : TreeState Bool)
    (of_chooser : IsTree g chooser) where
  -- a start at a time, but not before the release
  abbrev start_of : ℕ → Option ℕ
  start_of n = Some (max n release)

  -- the starts made of a wait and of these times are the latest of the wait, the delayed times and the release, where
  -- the chooser is true
  pub read_where : (wait : TreeState ℕ) (t : TreeState (Option ℕ)) → IsTree g wait →
      IsJoinWhere (λ x y z. z ≡ Some (max (max x (time_later delay y)) release)) None chooser wait times t →
      IsReleasedWhere g.faults chooser wait (later_by d read) release t
  -- with the chooser by `made_where`, without it by `made_elsewhere`; the times count as their delayed numbers
  read_where wait t of_wait made = record {
    on = λ s few chosen_by by_a by_b x y on has_value there.
        made_where g (λ n. n) (time_later delay) start_of None chooser wait times t of_chooser of_wait of_times made s
        few chosen_by by_a by_b x y on has_value
        (as_read g start_of delay d same_delay times read is of_times s by_b y there);
    off = λ s few chosen_by off. made_elsewhere g (λ n. n)
        (time_later delay) start_of None chooser wait times t of_chooser of_wait of_times made s few chosen_by off;
  }

  -- so are those made of some ends and of these times: the ends count as a wait without a delay
  pub ends_where : (end read_end t : TreeState (Option ℕ)) → end ≡ read_end → IsTree g end →
      IsJoinWhere (λ x y z. z ≡ Some (max (max (time_later delay x) (time_later 0 y)) release)) None
      chooser times end t →
      IsReleasedWhere g.faults chooser (later_tree read_end) (later_by d read) release t
  ends_where end read_end t is_end of_end made = record {
    on = λ s few chosen_by by_a by_b x y on has_value there.
        made_where_turned g (time_later delay) (time_later 0) start_of None chooser times end t of_chooser of_times
        of_end made s few chosen_by by_b by_a y x on
        (as_read g start_of delay d same_delay times read is of_times s by_b y there)
        (from_ends s end by_a x
        (subst (λ (u : TreeState (Option ℕ)). HasValueFrom s by_a x (later_tree u)) (sym is_end) has_value));
    off = λ s few chosen_by off. made_elsewhere g (time_later delay)
        (time_later 0) start_of None chooser times end t of_chooser of_times of_end made s few chosen_by off;
  }

-- if t is released by the time of a message and its slot's length, it is released by the input that the message brings
pub input_where : (g : Graph) (f : ForestState) (e release : ℕ) (chooser : TreeState Bool) (wait : TreeState ℕ)
    (t : TreeState (Option ℕ)) →
    is_message g e ≡ true →
    IsReleasedWhere g.faults chooser wait
    (later_by (slot_length g (home g (message_item g e))) (times_of g f (message_item g e))) release t →
    IsReleasedWhere g.faults chooser wait (later_by (input_delay g e) (input_tree g f e)) release t
input_where g f e release chooser wait t message starts =
    subst (λ (d : Bool). IsReleasedWhere g.faults chooser wait
    (later_by (if d then slot_length g (home g (message_item g e)) else 0)
    (if d then times_of g f (message_item g e) else ends_of g f (source g e))) release t) (sym message) starts

-- ---- starts after inputs

-- given: a forest, a chooser, a wait, and a tree of starts
-- `f`: the forest; `chooser`: where the process is active; `wait`: what it waits for; `t`, `release`: its starts and
-- its release
module _ (g : Graph) (f : ForestState) (chooser : TreeState Bool) (wait : TreeState ℕ) (t : TreeState (Option ℕ))
    (release : ℕ) where
  -- if no inputs are left, the starts are picked where the chooser is true
  pub picked_where : (start never : TreeState (Option ℕ)) → IsTree g chooser → IsTree g start → IsTree g never →
      IsStartAfter g f wait release [] start →
      IsConstant None g.faults never →
      IsPick chooser start never t →
      IsStartWhere g f chooser wait release [] t
  -- `picked` with the side for true, and with that for false, which adds no literals
  picked_where start never of_chooser of_start of_never starts none made = record {
    on = λ s few chosen_by of_c base x has_value support time there heard.
        picked s few true chosen_by (base ++ []) (Some (max (max x release) 0)) of_c
        (starts s few base x has_value support time there heard);
    off = λ s few chosen_by of_c. agrees_weaker s t (chosen_by ++ []) chosen_by (λ y. y ≡ None) (λ y. y ≡ None)
        (λ literal listed. elim (Contains-append_cases chosen_by [] literal listed) [
          | inl in_first ↦ in_first
          | inr in_second ↦ absurd (Contains-nil literal in_second)
        ]) (λ y equal. equal)
        (picked s few false chosen_by [] None of_c (agrees_constant s None g.faults never (λ y. y ≡ None) refl none));
  }
    where
      -- the tree t has the starts where the process is active, and no start elsewhere; its path follows from the
      -- chooser's literals and those of the side that is picked
      picked : (s : Scenario) → HasAtMostFaults g.faults s →
          (b : Bool) (chosen_by by_picked : List Literal) (y : Option ℕ) →
          HasValueFrom s chosen_by b chooser
          → HasValueFrom s by_picked y (if b then start else never) →
          HasValueFrom s (chosen_by ++ by_picked) y t
      picked s few b chosen_by by_picked y of_c of_picked =
          agrees_pick s chooser start never t b chosen_by by_picked (λ z. z ≡ y)
          (few_of g.faults chooser.faults s of_chooser.faults few) (of_start.faults ∙ sym of_chooser.faults)
          (of_never.faults ∙ sym of_chooser.faults)
          (each_of g chooser.faults chooser of_chooser.faults of_chooser)
          (each_of g chooser.faults start of_chooser.faults of_start)
          (each_of g chooser.faults never of_chooser.faults of_never) made of_c of_picked

  -- an input from the node itself is there once the node is ready, so the starts without it are those with it
  pub own_where : (e : ℕ) (es : List ℕ) → is_message g e ≡ false → IsStartWhere g f chooser wait release es t →
      IsStartWhere g f chooser wait release (e ∷ es) t
  own_where e es own starts = record {
    on = λ s few chosen_by of_c. own_input g f s chosen_by wait t release e es own (starts.on s few chosen_by of_c);
    off = starts.off;
  }

  -- for an input from another node, the starts after the later of it and the wait are those with it
  pub one_where : (there both : TreeState ℕ) (e : ℕ) (es : List ℕ) →
      IsLaterTree g.faults (input_delay g e) (input_tree g f e) there →
      IsLatest g.faults wait there both →
      IsStartWhere g f chooser both release es t → IsStartWhere g f chooser wait release (e ∷ es) t
  one_where there both e es later latest starts =
      record {
        on = λ s few chosen_by of_c.
            one_input g f s chosen_by few wait there both t release e es later latest (starts.on s few chosen_by of_c);
        off = starts.off;
      }

  -- if only inputs from the node itself are left, the starts after the wait and the last other input are those with
  -- all
  pub last_where : (e : ℕ) (es : List ℕ) → All (λ d. is_message g d ≡ false) es →
      IsReleasedWhere g.faults chooser wait (later_by (input_delay g e) (input_tree g f e)) release t →
      IsStartWhere g f chooser wait release (e ∷ es) t
  last_where e es own starts = record {
    on = λ s few chosen_by of_c. last_input g f s chosen_by wait t release e es own
        (λ base by_picked x y has_value there. starts.on s few chosen_by base by_picked x y of_c has_value there);
    off = starts.off;
  }

-- ---- down a guard

-- the activation of an outcome waits for all inputs, if each leaf's does
outcome_waits : (guard : Guard) (o : List Bool) → AreLeaves WaitsForAll guard → WaitsForAll (outcome_at guard o)
-- by induction on the guard
outcome_waits (Leaf a) o all = all
outcome_waits (Test c off on) o all = by (get_or o c false) (outcome_waits off o all.0) (outcome_waits on o all.1)
  where
    -- whichever side the outcome takes, its activation waits for all inputs
    by : (b : Bool) → WaitsForAll (outcome_at off o) → WaitsForAll (outcome_at on o) →
        WaitsForAll (if b then outcome_at on o else outcome_at off o)
    by true low high = high
    by false low high = low

-- if each leaf waits for all inputs, the starts made where the guard is active are those of the guard
pub active_starts : (g : Graph) (f : ForestState) (chooser : TreeState Bool) (wait : TreeState ℕ) (release : ℕ)
    (inputs : List ℕ) (guard : Guard) (t : TreeState (Option ℕ)) →
    AreLeaves WaitsForAll guard → IsActiveTree g.faults guard chooser →
    IsStartWhere g f chooser wait release inputs t → IsStartTree g f wait release inputs guard t
active_starts g f chooser wait release inputs guard t all actives starts s few base x has_value support
    time there given =
    by (outcome_at guard s.values) (outcome_waits guard s.values all) (actives s few) there given
  where
    -- the values of the conditions on the guard's way
    values : List Literal
    values = values_known s (way guard s.values)

    -- by what the guard leads to: an active process has these starts, and an inactive one has none
    by : (a : Activation) → WaitsForAll a → HasValueFrom s values (is_active a) chooser →
        AreOwnInputsThere g time x (awaited inputs a) →
        ((e : ℕ) → Contains (awaited inputs a) e → HasValueFrom s (support e) (time e) (input_tree g f e)) →
        HasValueFrom s (values ++ start_literals base support inputs a)
        (start_at x release (input_delay g) time inputs a) t
    by Plain waits active ready heard = starts.on s few values active base x has_value support time ready heard
    by Inactive waits active ready heard = agrees_weaker s t values (values ++ []) (λ y. y ≡ None) (λ y. y ≡ None)
        (λ literal listed. Contains-append_left values [] literal listed) (λ y equal. equal)
        (starts.off s few values active)
    by (By e) waits active ready heard = absurd waits
