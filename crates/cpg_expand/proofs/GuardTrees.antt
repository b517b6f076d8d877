-- The values of the trees down guards, and of the starts that follow.
use Rattle.std.proofs.Common.{ℕ, ◌+◌, ◌-◌, ◌<◌, ◌≡◌, ◌==◌, ◌&&◌, ◌||◌, nat_lt, max, length, Bool, true, false, if◌then◌else◌, List, [], ◌∷◌, ◌++◌}
use Rattle.std.proofs.Common.{map, flat_map, get_or, Option, Some, None, All}
use Rattle.std.proofs.Common.{Contains, ◌⊎◌, arith, le-ltb, lt-ltb, eq-eqb, refl, sym, ap, ap₂, ◌∙◌, subst, inl, inr}
use Rattle.std.proofs.lemmas.Bool.{cond-false, ne_eqb, and_from, or_right, le-leb}
use Rattle.std.specs.Prelude.{nat_le, IsTrue, ◌≤◌}
use Rattle.std.proofs.lemmas.List.{get_or_read_under}
use Rattle.std.proofs.lemmas.List.Elements.{All-contains, All-contains_itself, All-get_or, All-weaker, Contains-append_cases, Contains-append_left}
use Rattle.std.proofs.lemmas.List.Elements.{Contains-append_right}
use Rattle.cpg_base.specs.Bus.{slot_length}
use Rattle.cpg_base.specs.Graph.{Graph, process_count, condition_count, value_variable, item_count, node_of, source, process_of, is_message}
use Rattle.cpg_base.specs.Graph.{message_item, broadcast_item, home}
use Rattle.cpg_base.specs.Activity.{is_active}
use Rattle.cpg_base.specs.declared.activation.Activation.{Activation}
use Rattle.cpg_base.specs.declared.activation.Activation.TheVariants.{Inactive}
use Rattle.cpg_base.specs.Scenario.{number_of_value, Scenario, number_of, fault_of}
use Rattle.cpg_base.proofs.NumbersOf.{one_value}
use Rattle.cpg_base.proofs.Lists.{Contains-first, Contains-rest, Contains-cases, Contains-map, Contains-map_parts, greatest-cons}
use Rattle.cpg_order.specs.Guard.{Guard, Leaf, Test, outcome_at, way}
use Rattle.cpg_cube.specs.declared.literal.Literal.{Literal}
use Rattle.cpg_table.specs.Heard.{exactly}
use Rattle.cpg_tree.specs.Space.{HasAtMostFaults}
use Rattle.cpg_tree.specs.Read.{later_path, later_by}
use Rattle.cpg_tree.specs.Tree.{Path, TreeState, is_on, IsOnPath, HasOnePathEach, DoPathsPass, IsConstant, IsMap, IsJoin, IsPick, IsNumber}
use Rattle.cpg_tree.specs.Variables.{is_variable}
use Rattle.cpg_tree.proofs.Spaces.{number_le_top}
use Rattle.cpg_expand.specs.Agreeing.{Agrees, HasValueFrom}
use Rattle.cpg_tree.specs.GraphTrees.{IsTree}
use Rattle.cpg_tree.proofs.GraphTrees.{few_of, same_tree}
use Rattle.cpg_run.specs.Carrying.{ContainsKept}
use Rattle.cpg_tree.specs.Later.{time_later}
use Rattle.cpg_expand.specs.Later.{IsLaterTree, IsNoMore, IsLatest, IsReleased}
use Rattle.cpg_expand.specs.Forest.{ForestState, HasTrees, times_of, ends_of, later_tree, heard_tree, heard_delay}
use Rattle.cpg_tree.specs.GraphTrees.{no_tree}
use Rattle.cpg_expand.specs.Forest.{input_tree, input_delay}
use Rattle.cpg_expand.specs.Guarded.{value_known, values_known, PicksByValue, IsActiveTree, support_of, latest_of}
use Rattle.cpg_expand.specs.Guarded.{AreOwnInputsThere, IsHeardTree, StartsAfter}
use Rattle.cpg_expand.specs.Guarded.{IsStartAfter, awaited, start_literals, start_at}
use Rattle.cpg_expand.specs.Guarded.{IsStartBy, IsStartTree}
use Rattle.cpg_expand.proofs.AgreeingTrees.{agrees_weaker, agrees_constant, agrees_number, agrees_map, agrees_join, agrees_pick}

-- ---- trees of at most k faults

-- a tree t that has x in all scenarios of at most k faults, the most of the graph, is one of the graph
pub constant_tree : {T : Type 0} (g : Graph) (x : T) (k : ℕ) (t : TreeState T) → k ≡ g.faults →
    HasOnePathEach t.faults t.paths → IsConstant x k t →
    DoPathsPass (is_variable g) t.paths → IsTree g t
constant_tree g x k t same_faults each is known =
    let same = ap (λ (u : TreeState _). u.faults) is ∙ same_faults in
    record { faults = same; each = subst (λ n. HasOnePathEach n t.paths) same each; known = known }

-- a tree of the graph has one path for each scenario of at most the graph's faults
pub each_of : {T : Type 0} (g : Graph) (m : ℕ) (t : TreeState T) → m ≡ g.faults → IsTree g t → HasOnePathEach m t.paths
each_of g m t same_faults is = subst (λ n. HasOnePathEach n t.paths) (sym same_faults) is.each

-- ---- variables of a graph

-- the fault count of process p is a variable of the graph
pub count_passes : (g : Graph) (p : ℕ) → p < process_count g → is_variable g p ≡ true
count_passes g p below = ap (λ b. b || (nat_le 128 p && nat_lt p (value_variable (condition_count g))))
    (lt-ltb p (process_count g) below)

-- the value of condition c is a variable of the graph
pub value_passes : (g : Graph) (c : ℕ) → c < condition_count g → is_variable g (128 + c) ≡ true
value_passes g c below = or_right (nat_lt (128 + c) (process_count g))
    (nat_le 128 (128 + c) && nat_lt (128 + c) (value_variable (condition_count g)))
    (and_from (nat_le 128 (128 + c)) (nat_lt (128 + c) (value_variable (condition_count g))) (le-leb 128 (128 + c) (omega arith))
    (lt-ltb (128 + c) (value_variable (condition_count g)) (omega (arith, below))))

-- ---- times that are later by a delay

-- t, which is made of `tree` by moving each time `delay` later, has the later times
pub later_has_value : (g : Graph) (delay : ℕ) (tree : TreeState (Option ℕ)) (t : TreeState ℕ) → IsTree g tree →
    IsMap (λ x z. z ≡ time_later delay x) tree t →
    IsLaterTree g.faults delay tree t
later_has_value g delay tree t is made s few ls x has_value =
    agrees_map s (λ y z. z ≡ time_later delay y) tree t ls (λ y. y ≡ x) (λ y. y ≡ time_later delay x)
    (few_of g.faults tree.faults s is.faults few)
    (each_of g tree.faults tree is.faults is) made
    (λ y z is_x is_made. is_made ∙ ap (time_later delay) is_x) has_value

-- ---- times that are later tell when a node is ready

-- given: a tree t of times, a delay, a scenario s, and literals `ls` that may say t's value there
module _ (delay : ℕ) (s : Scenario) (t : TreeState (Option ℕ)) (ls : List Literal) where
  -- a path of the tree is one of the later tree, with its time moved
  on_times : (z : Path (Option ℕ)) → IsOnPath t.paths s z → IsOnPath (later_by delay t).paths s (later_path delay z)
  on_times path on = record { stands = Contains-map (later_path delay) t.paths path on.stands; matched = on.matched }

  -- each path of the later tree comes from one of the tree
  of_times : (z : Path ℕ) → IsOnPath (later_by delay t).paths s z →
      (x : Path (Option ℕ)) × IsOnPath t.paths s x × (later_path delay x ≡ z)
  of_times path on =
      let source = Contains-map_parts (later_path delay) t.paths path on.stands in (
        source.0,
        record { stands = source.1; matched = subst (λ (w : Path ℕ). IsTrue (is_on s w)) (sym source.2) on.matched },
        source.2,
      )

  -- if the later tree has a value, the tree itself has one that the delay brings there
  pub from_times : (x : ℕ) → HasValueFrom s ls x (later_by delay t) → Agrees s ls (λ y. time_later delay y ≡ x) t
  from_times x has_value = record {
    value = λ path on. has_value.value (later_path delay path) (on_times path on);
    says = λ path on. has_value.says (later_path delay path) (on_times path on);
  }

  -- if the tree has a value, the later tree has it, later by the delay
  pub to_times : (y : Option ℕ) → HasValueFrom s ls y t → HasValueFrom s ls (time_later delay y) (later_by delay t)
  to_times y has_value = record {
    value = λ path on. let source = of_times path on in
        subst (λ (w : Path ℕ). w.1 ≡ time_later delay y) source.2
        (ap (time_later delay) (has_value.value source.0 source.1));
    says = λ path on. let source = of_times path on in
        subst (λ (w : Path ℕ). ContainsKept t.faults w.0 ls) source.2 (has_value.says source.0 source.1);
  }

-- the tree `tree`, read with each time `delay` later, has the later times
pub later_is : (g : Graph) (delay : ℕ) (tree : TreeState (Option ℕ)) →
    IsLaterTree g.faults delay tree (later_by delay tree)
later_is g delay tree s few ls x has_value = to_times delay s tree ls x has_value

-- ---- ends that tell when a node is ready

-- given: a tree t of ends, a scenario s, and literals `ls` that may say t's value there
module _ (s : Scenario) (t : TreeState (Option ℕ)) (ls : List Literal) where
  -- the value of the tree read from ends is an end, or 0 if there is none
  pub from_ends : (x : ℕ) → HasValueFrom s ls x (later_tree t) → Agrees s ls (λ y. time_later 0 y ≡ x) t
  from_ends x has_value = from_times 0 s t ls x has_value

  -- an end, or 0 if there is none, is the value of the tree read from ends
  pub to_ends : (y : Option ℕ) → HasValueFrom s ls y t → HasValueFrom s ls (time_later 0 y) (later_tree t)
  to_ends y has_value = to_times 0 s t ls y has_value

-- t, which is made of `tree` by reading its ends as times, has the values of `later_tree tree` and says no more
pub no_more : (g : Graph) (tree : TreeState (Option ℕ)) (t : TreeState ℕ) → IsTree g tree →
    IsMap (λ x z. z ≡ time_later 0 x) tree t →
    IsNoMore g.faults (later_tree tree) t
no_more g tree t is made s few ls x has_value =
    agrees_map s (λ y z. z ≡ time_later 0 y) tree t ls (λ y. time_later 0 y ≡ x) (λ z. z ≡ x)
    (few_of g.faults tree.faults s is.faults few)
    (each_of g tree.faults tree is.faults is) made
    (λ y z is_x is_made. is_made ∙ is_x) (from_ends s tree ls x has_value)

-- ---- the later of two

-- given: a tree t that is made (`makes`) of the greater of two numbers, those that the values of a and b are read as
-- `by_a`, `by_b`, `x`, `y`: the literals by which a's number in scenario s is x, and b's is y
module _ {T U V : Type 0} (g : Graph) (number : T → ℕ) (other_number : U → ℕ) (makes : ℕ → V) (a : TreeState T)
    (b : TreeState U) (t : TreeState V)
    (of_a : IsTree g a) (of_b : IsTree g b)
    (made : IsJoin (λ x y z. z ≡ makes (max (number x) (other_number y))) a b t) (s : Scenario)
    (few : HasAtMostFaults g.faults s)
    (by_a by_b : List Literal) (x y : ℕ) where
  -- in s, t has what is made of the greater of x and y, by the literals of both
  pub made_valued : Agrees s by_a (λ v. number v ≡ x) a → Agrees s by_b (λ w. other_number w ≡ y) b →
      HasValueFrom s (by_a ++ by_b) (makes (max x y)) t
  made_valued has_value other =
      agrees_join s (λ v w z. z ≡ makes (max (number v) (other_number w))) a b t by_a by_b (λ v. number v ≡ x)
      (λ w. other_number w ≡ y)
      (λ z. z ≡ makes (max x y))
      (few_of g.faults a.faults s of_a.faults few) (of_b.faults ∙ sym of_a.faults)
      (each_of g a.faults a of_a.faults of_a) (each_of g a.faults b of_a.faults of_b) made
      (λ v w z is_x is_y is_made. is_made ∙ ap₂ (λ m n. makes (max m n)) is_x is_y) has_value other

  -- the same, with the literals of b first
  pub made_turned : Agrees s by_a (λ v. number v ≡ x) a → Agrees s by_b (λ w. other_number w ≡ y) b →
      HasValueFrom s (by_b ++ by_a) (makes (max y x)) t
  made_turned has_value other =
      agrees_weaker s t (by_a ++ by_b) (by_b ++ by_a) (λ z. z ≡ makes (max x y)) (λ z. z ≡ makes (max y x))
      (λ literal listed. elim (Contains-append_cases by_a by_b literal listed) [
        | inl in_first ↦ Contains-append_right by_b by_a literal in_first
        | inr in_second ↦ Contains-append_left by_b by_a literal in_second
      ])
      (λ z is_max. is_max ∙ ap makes (let same : max x y ≡ max y x = omega arith in same)) (made_valued has_value other)

-- t, a tree of the greater time of the trees `one` and `two`, is the later of the two
pub latest_valued : (g : Graph) (one two t : TreeState ℕ) → IsTree g one → IsTree g two →
    IsJoin (λ x y z. z ≡ max x y) one two t →
    IsLatest g.faults one two t
latest_valued g one two t of_one of_two made s few by_a by_b x y has_value other =
    made_valued g (λ n. n) (λ n. n) (λ n. n) one two t of_one of_two made s few by_a by_b x y has_value other

-- t, a tree of the greater of the time of `there` and the end of `end`, is the later of the two; no end counts as 0
pub latest_ends : (g : Graph) (end : TreeState (Option ℕ)) (there t : TreeState ℕ) → IsTree g end → IsTree g there →
    IsJoin (λ x y z. z ≡ max x (time_later 0 y)) there end t →
    IsLatest g.faults (later_tree end) there t
latest_ends g end there t of_end of_there made s few by_a by_b x y has_value other =
    made_turned g (λ n. n) (time_later 0)
    (λ n. n) there end t of_there of_end made s few by_b by_a y x other (from_ends s end by_a x has_value)

-- given: a tree and a delay, each also by the name by which the code has it (`times`, `delay`)
module _ {V : Type 0} (g : Graph) (makes : ℕ → V) (delay d : ℕ) (same_delay : delay ≡ d)
    (times read : TreeState (Option ℕ)) (is : times ≡ read)
    (of_times : IsTree g times) where
  -- if the later tree has a value, the tree that is read agrees with it
  pub as_read : (s : Scenario) (ls : List Literal) (n : ℕ) → HasValueFrom s ls n (later_by d read) →
      Agrees s ls (λ v. time_later delay v ≡ n) times
  as_read s ls n valued = from_times delay s times ls n
      (subst (λ (m : ℕ). HasValueFrom s ls n (later_by m times)) (sym same_delay)
      (subst (λ (u : TreeState (Option ℕ)). HasValueFrom s ls n (later_by d u)) (sym is) valued))

  -- what is made of the later of the read tree and another has what is made of the later of their values
  pub valued_and_read : (other : TreeState ℕ) (t : TreeState V) → IsTree g other →
      IsJoin (λ x y z. z ≡ makes (max x (time_later delay y))) other times t →
      (s : Scenario) → HasAtMostFaults g.faults s → (by_a by_b : List Literal) (x y : ℕ) → HasValueFrom s by_a x other →
      HasValueFrom s by_b y (later_by d read)
      → HasValueFrom s (by_a ++ by_b) (makes (max x y)) t
  valued_and_read other t of_other made s few by_a by_b x y has_value there =
      made_valued g (λ n. n)
      (time_later delay) makes other times t of_other of_times made s few by_a by_b x y has_value (as_read s by_b y there)

  -- the same with the read tree first
  pub read_and_valued : (other : TreeState ℕ) (t : TreeState V) → IsTree g other →
      IsJoin (λ x y z. z ≡ makes (max (time_later delay x) y)) times other t →
      (s : Scenario) → HasAtMostFaults g.faults s → (by_a by_b : List Literal) (x y : ℕ) →
      HasValueFrom s by_a x (later_by d read) →
      HasValueFrom s by_b y other
      → HasValueFrom s (by_a ++ by_b) (makes (max x y)) t
  read_and_valued other t of_other made s few by_a by_b x y there has_value =
      made_valued g (time_later delay)
      (λ n. n) makes times other t of_times of_other made s few by_a by_b x y (as_read s by_a x there) has_value

  -- the same with ends in place of the other tree
  pub ends_and_read : (end read_end : TreeState (Option ℕ)) (t : TreeState V) → end ≡ read_end → IsTree g end →
      IsJoin (λ x y z. z ≡ makes (max (time_later delay x) (time_later 0 y))) times end t →
      (s : Scenario) → HasAtMostFaults g.faults s → (by_a by_b : List Literal) (x y : ℕ) →
      HasValueFrom s by_a x (later_tree read_end) →
      HasValueFrom s by_b y (later_by d read) →
      HasValueFrom s (by_a ++ by_b) (makes (max x y)) t
  ends_and_read end read_end t is_end of_end made s few by_a by_b x y has_value there =
      made_turned g (time_later delay)
      (time_later 0) makes times end t of_times of_end made s few by_b by_a y x (as_read s by_b y there)
      (from_ends s end by_a x (subst (λ (u : TreeState (Option ℕ)). HasValueFrom s by_a x (later_tree u)) (sym is_end) has_value))

-- ---- the tree that a condition's value picks

-- the number of a condition's variable is that of its value
pub number_at : (s : Scenario) (c : ℕ) → number_of s (128 + c) ≡ number_of_value (get_or s.values c false)
number_at s c = cond-false _ (fault_of s (128 + c)) (number_of_value (get_or s.values (128 + c - 128) false))
    (le-ltb (128 + c) 128 (omega arith))
    ∙ ap (λ d. number_of_value (get_or s.values d false)) (let equal : 128 + c - 128 ≡ c = omega arith in equal)

-- t, which picks by the value of condition c (`value`), has the value of `yes_tree` if c is true and of `off_tree` if
-- it is false
pub value_picks : {T : Type 0} (g : Graph) (c : ℕ) (value : TreeState Bool) (yes_tree off_tree t : TreeState T) →
    IsNumber (128 + c) g.faults number_of_value value →
    HasOnePathEach value.faults value.paths →
    IsTree g yes_tree → IsTree g off_tree → IsPick value yes_tree off_tree t →
    PicksByValue g.faults c yes_tree off_tree t
value_picks g c value yes_tree off_tree t numbered each of_yes of_off made s few ls x has_value =
    let c_value : Bool = get_or s.values c false in
    let valued : Agrees s (exactly (128 + c) (number_of s (128 + c)) ∷ []) (λ (d : Bool). number_of_value d ≡ number_of s (128 + c)) value =
    agrees_number s (128 + c) g.faults number_of_value value few (number_le_top g.faults s few (128 + c)) numbered in
    let chosen : Agrees s (exactly (128 + c) (number_of s (128 + c)) ∷ []) (λ (d : Bool). d ≡ c_value) value =
    agrees_weaker s value (exactly (128 + c) (number_of s (128 + c)) ∷ [])
    (exactly (128 + c) (number_of s (128 + c)) ∷ [])
    (λ (d : Bool). number_of_value d ≡ number_of s (128 + c))
    (λ (d : Bool). d ≡ c_value)
    (λ literal listed. listed) (λ d same_number. one_value d c_value (same_number ∙ number_at s c)) valued in
    agrees_pick s value yes_tree off_tree t c_value (exactly (128 + c) (number_of s (128 + c)) ∷ []) ls (λ z. z ≡ x)
    (few_of g.faults value.faults s numbered.faults few)
    (of_yes.faults ∙ sym numbered.faults) (of_off.faults ∙ sym numbered.faults) each
    (each_of g value.faults yes_tree numbered.faults of_yes)
    (each_of g value.faults off_tree numbered.faults of_off) made chosen has_value

-- ---- where a guard comes to an activation

-- a leaf is active everywhere or nowhere
pub active_leaf : (k : ℕ) (a : Activation) (t : TreeState Bool) → IsConstant (is_active a) k t →
    IsActiveTree k (Leaf a) t
active_leaf k a t is s few = agrees_constant s (is_active a) k t (λ y. y ≡ is_active a) refl is

-- a guard that tests c is active where the side that c's value picks is: t picks y, the tree of `on`, or f, that of
-- `off`
pub active_test : (k c : ℕ) (off on : Guard) (f y t : TreeState Bool) → IsActiveTree k off f → IsActiveTree k on y →
    PicksByValue k c y f t →
    IsActiveTree k (Test c off on) t
active_test k c off on f y t of_off of_on picks s few = go (get_or s.values c false) refl
  where
    -- by the value of the first condition: the side that it picks says whether the guard is active
    go : (d : Bool) → get_or s.values c false ≡ d →
        HasValueFrom s (values_known s (c ∷ (if d then way on s.values else way off s.values)))
        (is_active (if d then outcome_at on s.values else outcome_at off s.values)) t
    go true c_true = picks s few (values_known s (way on s.values)) (is_active (outcome_at on s.values))
        (subst (λ (d : Bool). HasValueFrom s (values_known s (way on s.values)) (is_active (outcome_at on s.values)) (if d then y else f))
        (sym c_true) (of_on s few))
    go false c_false = picks s few (values_known s (way off s.values)) (is_active (outcome_at off s.values))
        (subst (λ (d : Bool). HasValueFrom s (values_known s (way off s.values)) (is_active (outcome_at off s.values)) (if d then y else f))
        (sym c_false) (of_off s few))

-- ---- when a node has heard what a guard tests

-- a leaf tests nothing, so nothing has to be heard, and the time is 0
pub heard_leaf : (g : Graph) (f : ForestState) (node : ℕ) (a : Activation) (t : TreeState ℕ) → IsConstant 0 g.faults t →
    IsHeardTree g f node (Leaf a) t
heard_leaf g f node a t is s few support time valued = agrees_constant s 0 g.faults t (λ y. y ≡ 0) refl is

-- each literal of c or of the conditions `ws` is one of c and `ws` together
support_first : (s : Scenario) (support : ℕ → List Literal) (c : ℕ) (ws : List ℕ) (literal : Literal) →
    Contains (support c ++ value_known s c ∷ support_of s support ws) literal
    → Contains (support_of s support (c ∷ ws)) literal
support_first s support c ws literal listed =
    elim (Contains-append_cases (support c) (value_known s c ∷ support_of s support ws) literal listed) [
      | inl of_c ↦ Contains-append_left (support c ++ value_known s c ∷ []) (support_of s support ws) literal
          (Contains-append_left (support c) (value_known s c ∷ []) literal of_c)
      | inr of_rest ↦ elim (Contains-cases (value_known s c) (support_of s support ws) literal of_rest) [
        | inl is_value ↦ Contains-append_left (support c ++ value_known s c ∷ []) (support_of s support ws) literal
            (Contains-append_right (support c) (value_known s c ∷ []) literal
            (subst (Contains (value_known s c ∷ [])) is_value (Contains-first (value_known s c) [])))
        | inr more ↦ Contains-append_right (support c ++ value_known s c ∷ []) (support_of s support ws) literal more
      ]
    ]

-- the latest of the times of x and `xs` is the later of that of x and the latest of those of `xs`
pub latest-cons : (delay : ℕ → ℕ) (time : ℕ → Option ℕ) (x : ℕ) (xs : List ℕ) →
    latest_of delay time (x ∷ xs) ≡ max (time_later (delay x) (time x)) (latest_of delay time xs)
latest-cons delay time x xs = greatest-cons (time_later (delay x) (time x))
    (map (λ y. time_later (delay y) (time y)) xs)

-- a guard that tests c is heard once c is, and what the side that c's value picks tests: `further` picks b, the tree of
-- `on`, or a, that of `off`, and t is the later of it and of when c is heard
pub heard_test : (g : Graph) (f : ForestState) (node c : ℕ) (off on : Guard) (a b further t : TreeState ℕ) →
    IsHeardTree g f node off a →
    IsHeardTree g f node on b →
    PicksByValue g.faults c b a further →
    IsLatest g.faults (later_by (heard_delay g node c) (heard_tree g f node c)) further t →
    IsHeardTree g f node (Test c off on) t
heard_test g f node c off on a b further t of_off of_on picks latest s few support time valued = go (get_or s.values c false) refl
  where
    -- how long after its frame is sent, or its process ends, the node has heard a condition
    delay : ℕ → ℕ
    delay = heard_delay g node

    -- the tree of when c is heard, a delay later than that of its times
    first : HasValueFrom s (support c) (time_later (delay c) (time c)) (later_by (delay c) (heard_tree g f node c))
    first = to_times (delay c) s (heard_tree g f node c) (support c) (time c) (valued c (Contains-first c _))

    -- the later of that and of when the conditions behind c are heard: when all of them are, by the literals of all
    joined : (ws : List ℕ) →
        HasValueFrom s (value_known s c ∷ support_of s support ws) (latest_of delay time ws) further
        → HasValueFrom s (support_of s support (c ∷ ws)) (latest_of delay time (c ∷ ws)) t
    joined ws second = agrees_weaker s t (support c ++ value_known s c ∷ support_of s support ws)
        (support_of s support (c ∷ ws))
        (λ z. z ≡ max (time_later (delay c) (time c)) (latest_of delay time ws))
        (λ z. z ≡ latest_of delay time (c ∷ ws))
        (λ literal listed. support_first s support c ws literal listed)
        (λ z equal. equal ∙ sym (latest-cons delay time c ws))
        (latest s few (support c) (value_known s c ∷ support_of s support ws) (time_later (delay c) (time c)) (latest_of delay time ws) first second)

    -- by the value of c: the conditions that are tested behind it are those of the side that it picks
    go : (d : Bool) → get_or s.values c false ≡ d →
        HasValueFrom s (support_of s support (c ∷ (if d then way on s.values else way off s.values)))
        (latest_of delay time (c ∷ (if d then way on s.values else way off s.values))) t
    go true c_true = joined (way on s.values)
        (picks s few (support_of s support (way on s.values)) (latest_of delay time (way on s.values))
        (subst (λ (d : Bool). HasValueFrom s (support_of s support (way on s.values)) (latest_of delay time (way on s.values)) (if d then b else a))
        (sym c_true)
        (of_on s few support time
        (λ x on_way. valued x (Contains-rest c _ x
        (subst (λ (d : Bool). Contains (if d then way on s.values else way off s.values) x)
        (sym c_true) on_way))))))
    go false c_false = joined (way off s.values)
        (picks s few (support_of s support (way off s.values)) (latest_of delay time (way off s.values))
        (subst (λ (d : Bool). HasValueFrom s (support_of s support (way off s.values)) (latest_of delay time (way off s.values)) (if d then b else a))
        (sym c_false)
        (of_off s few support time
        (λ x on_way. valued x (Contains-rest c _ x
        (subst (λ (d : Bool). Contains (if d then way on s.values else way off s.values) x)
        (sym c_false) on_way))))))

-- ---- what holds of all of a list holds of its parts

-- if the list `whole` is x and then xs, a fact of all its elements is one of x and of all of xs
pub all_parts : {X : Type 0} (P : X → Type 0) (whole : List X) (x : X) (xs : List X) → whole ≡ x ∷ xs → All P whole →
    P x × All P xs
all_parts P whole x xs is holds =
    let all = subst (All P) is holds in (
      All-contains P (x ∷ xs) x all (Contains-first x xs),
      All-weaker (Contains xs) P (λ y in_rest. All-contains P (x ∷ xs) y all (Contains-rest x xs y in_rest)) xs
          (All-contains_itself xs),
    )

-- ---- inputs

-- input e, which is from the node itself, is there once the node is ready, at x
own_early : (g : Graph) (time : ℕ → Option ℕ) (x e : ℕ) (es : List ℕ) → is_message g e ≡ false →
    AreOwnInputsThere g time x (e ∷ es) →
    time_later (input_delay g e) (time e) ≤ x
own_early g time x e es own there = subst (λ (b : Bool). time_later (if b then slot_length g (home g (message_item g e)) else 0) (time e) ≤ x)
    (sym own) (there e (Contains-first e es) own)

-- if all inputs `es` are from the node itself, the latest of them is there once the node is ready, at x
own_latest : (g : Graph) (time : ℕ → Option ℕ) (x : ℕ) (es : List ℕ) → All (λ e. is_message g e ≡ false) es →
    AreOwnInputsThere g time x es →
    latest_of (input_delay g) time es ≤ x
-- by induction on the list
own_latest g time x [] own there = omega arith
own_latest g time x (e ∷ es) own there =
    let own_each = all_parts (λ d. is_message g d ≡ false) (e ∷ es) e es refl own in
    omega (
      arith,
      own_early g time x e es own_each.0 there,
      own_latest g time x es own_each.1 (λ d in_rest. there d (Contains-rest e es d in_rest)),
      latest-cons (input_delay g) time e es,
    )

-- if the literals `some` are among `more`, those of `first` and `some` are among those of `first` and `more`
pub support_as_first : (first some more : List Literal) → ((l : Literal) → Contains some l → Contains more l) →
    (l : Literal) →
    Contains (first ++ some) l →
    Contains (first ++ more) l
support_as_first first some more within l listed = elim (Contains-append_cases first some l listed) [
  | inl in_first ↦ Contains-append_left first more l in_first
  | inr in_some ↦ Contains-append_right first more l (within l in_some)
]

-- given: a forest f, a scenario s, and literals `chosen_by` that stand first
module _ (g : Graph) (f : ForestState) (s : Scenario) (chosen_by : List Literal) where
  -- an input of the node itself is there once the node is ready, so the starts without it are those with it
  pub own_input : (wait : TreeState ℕ) (t : TreeState (Option ℕ)) (release e : ℕ) (es : List ℕ) →
      is_message g e ≡ false →
      StartsAfter g f s chosen_by wait release es t →
      StartsAfter g f s chosen_by wait release (e ∷ es) t
  own_input wait t release e es own starts base x has_value support time there valued =
      let latest = latest_of (input_delay g) time es in
      agrees_weaker s t (chosen_by ++ (base ++ flat_map support es)) (chosen_by ++ (base ++ flat_map support (e ∷ es)))
      (λ y. y ≡ Some (max (max x release) latest))
      (λ y. y ≡ Some (max (max x release) (latest_of (input_delay g) time (e ∷ es))))
      (support_as_first chosen_by (base ++ flat_map support es) (base ++ flat_map support (e ∷ es))
      (support_as_first base (flat_map support es) (flat_map support (e ∷ es))
      (λ literal listed. Contains-append_right (support e) (flat_map support es) literal listed)))
      (λ y is_start. is_start ∙ ap Some
      (let same : max (max x release) latest ≡ max (max x release) (latest_of (input_delay g) time (e ∷ es)) =
      omega (arith, own_early g time x e es own there, latest-cons (input_delay g) time e es) in same))
      (starts base x has_value support time (λ d in_rest. there d (Contains-rest e es d in_rest))
      (λ d in_rest. valued d (Contains-rest e es d in_rest)))

  -- for an input from another node, the starts after the later of it and the wait are those with it
  pub one_input : HasAtMostFaults g.faults s →
      (wait there both : TreeState ℕ) (t : TreeState (Option ℕ)) (release e : ℕ) (es : List ℕ)
      → IsLaterTree g.faults (input_delay g e) (input_tree g f e) there →
      IsLatest g.faults wait there both → StartsAfter g f s chosen_by both release es t →
      StartsAfter g f s chosen_by wait release (e ∷ es) t
  one_input few wait there both t release e es later latest starts base x has_value support time ready valued =
      let at = time_later (input_delay g e) (time e) in
      let others = latest_of (input_delay g) time es in
      -- the later of the wait and the input, by the literals of both
      let joined : HasValueFrom s (base ++ support e) (max x at) both =
      latest s few base (support e) x at has_value (later s few (support e) (time e) (valued e (Contains-first e es))) in
      agrees_weaker s t (chosen_by ++ ((base ++ support e) ++ flat_map support es))
      (chosen_by ++ (base ++ flat_map support (e ∷ es)))
      (λ y. y ≡ Some (max (max (max x at) release) others))
      (λ y. y ≡ Some (max (max x release) (latest_of (input_delay g) time (e ∷ es))))
      (support_as_first chosen_by ((base ++ support e) ++ flat_map support es) (base ++ flat_map support (e ∷ es))
      (λ literal listed. within literal
      (Contains-append_cases (base ++ support e) (flat_map support es) literal listed)))
      (λ y is_start. is_start ∙ ap Some
      (let same : max (max (max x at) release) others ≡ max (max x release)
      (latest_of (input_delay g) time (e ∷ es)) =
      omega (arith, latest-cons (input_delay g) time e es) in
      same))
      -- with it as the wait, the other inputs are waited for
      (starts (base ++ support e) (max x at) joined support time
      (λ d in_rest own. let by_then = ready d (Contains-rest e es d in_rest) own in omega (arith, by_then))
      (λ d in_rest. valued d (Contains-rest e es d in_rest)))
    where
      -- the literals of the wait, of e and of the other inputs are those of the wait and of all inputs
      within : (l : Literal) → Contains (base ++ support e) l ⊎ Contains (flat_map support es) l →
          Contains (base ++ flat_map support (e ∷ es)) l
      within l (inr of_others) =
          Contains-append_right base (support e ++ flat_map support es) l
          (Contains-append_right (support e) (flat_map support es) l of_others)
      within l (inl of_base) =
          support_as_first base (support e) (support e ++ flat_map support es)
          (λ literal listed. Contains-append_left (support e) (flat_map support es) literal listed) l of_base

  -- if the inputs `es` behind the message e are all of the node itself, the starts by the wait and e are those with all
  pub last_input : (wait : TreeState ℕ) (t : TreeState (Option ℕ)) (release e : ℕ) (es : List ℕ) →
      All (λ d. is_message g d ≡ false) es →
      ((base by_input : List Literal) (x y : ℕ) → HasValueFrom s base x wait → HasValueFrom s by_input y (later_by (input_delay g e) (input_tree g f e)) →
      HasValueFrom s (chosen_by ++ (base ++ by_input)) (Some (max (max x y) release)) t) →
      StartsAfter g f s chosen_by wait release (e ∷ es) t
  last_input wait t release e es own starts base x has_value support time there valued =
      let at = time_later (input_delay g e) (time e) in
      let late : latest_of (input_delay g) time es ≤ x =
      own_latest g time x es own (λ d in_rest. there d (Contains-rest e es d in_rest)) in
      agrees_weaker s t (chosen_by ++ (base ++ support e)) (chosen_by ++ (base ++ flat_map support (e ∷ es)))
      (λ y. y ≡ Some (max (max x at) release))
      (λ y. y ≡ Some (max (max x release) (latest_of (input_delay g) time (e ∷ es))))
      (support_as_first chosen_by (base ++ support e) (base ++ flat_map support (e ∷ es))
      (support_as_first base (support e) (flat_map support (e ∷ es))
      (λ literal listed. Contains-append_left (support e) (flat_map support es) literal listed)))
      (λ y is_start. is_start ∙ ap Some
      (let same : max (max x at) release ≡ max (max x release) (latest_of (input_delay g) time (e ∷ es)) =
      omega (arith, late, latest-cons (input_delay g) time e es) in same))
      (starts base (support e) x at has_value (to_times (input_delay g e) s (input_tree g f e) (support e) (time e) (valued e (Contains-first e es))))

-- ---- starts

-- a tree without a time in any scenario has the starts of an inactive process
pub no_start : (g : Graph) (f : ForestState) (wait : TreeState ℕ) (release : ℕ) (inputs : List ℕ) (t : TreeState (Option ℕ)) →
    IsConstant None g.faults t →
    IsStartBy g f wait release inputs Inactive t
no_start g f wait release inputs t is s few base x has_value support time there valued = agrees_constant s None g.faults t (λ y. y ≡ None) refl is

-- if t has the later of the wait's end x and the release, it has the start that awaits no inputs
started_none : (g : Graph) (s : Scenario) (t : TreeState (Option ℕ)) (base : List Literal) (x release : ℕ) →
    HasValueFrom s base (Some (max x release)) t →
    HasValueFrom s (base ++ []) (Some (max (max x release) 0)) t
started_none g s t base x release has_value = agrees_weaker s t base (base ++ []) (λ y. y ≡ Some (max x release))
    (λ y. y ≡ Some (max (max x release) 0)) (λ literal listed. Contains-append_left base [] literal listed)
    (λ y is_start. is_start ∙ ap Some (let same : max x release ≡ max (max x release) 0 = omega arith in same))
    has_value

-- if no inputs are awaited, a tree t of the later of the wait and the release has the starts
pub start_valued : (g : Graph) (f : ForestState) (wait : TreeState ℕ) (t : TreeState (Option ℕ)) (release : ℕ) →
    IsTree g wait →
    IsMap (λ x z. z ≡ Some (max x release)) wait t →
    IsStartAfter g f wait release [] t
start_valued g f wait t release of_wait made s few base x has_value support time there valued = started_none g s t base x release
    (agrees_map s (λ y z. z ≡ Some (max y release)) wait t base (λ y. y ≡ x) (λ y. y ≡ Some (max x release))
    (few_of g.faults wait.faults s of_wait.faults few)
    (each_of g wait.faults wait of_wait.faults of_wait) made
    (λ y z is_x is_made. is_made ∙ ap (λ n. Some (max n release)) is_x) has_value)

-- if the wait is for the ends `end` and no inputs are awaited, a tree t of the later of the end and the release has the
-- starts
pub start_after_ends : (g : Graph) (f : ForestState) (end t : TreeState (Option ℕ)) (release : ℕ) → IsTree g end →
    IsMap (λ x z. z ≡ Some (max (time_later 0 x) release)) end t →
    IsStartAfter g f (later_tree end) release [] t
start_after_ends g f end t release of_end made s few base x has_value support time there valued = started_none g s t base x release
    (agrees_map s (λ y z. z ≡ Some (max (time_later 0 y) release)) end t base (λ y. time_later 0 y ≡ x) (λ y. y ≡ Some (max x release))
    (few_of g.faults end.faults s of_end.faults few)
    (each_of g end.faults end of_end.faults of_end) made
    (λ y z is_x is_made. is_made ∙ ap (λ n. Some (max n release)) is_x) (from_ends s end base x has_value))

-- if activation a is active, the starts after the inputs that a awaits are the starts by a
pub start_active : (g : Graph) (f : ForestState) (wait : TreeState ℕ) (t : TreeState (Option ℕ)) (release : ℕ) (inputs : List ℕ) (a : Activation) →
    is_active a ≡ true →
    IsStartAfter g f wait release (awaited inputs a) t → IsStartBy g f wait release inputs a t
start_active g f wait t release inputs a active is s few base x has_value support time there valued =
    subst (λ (d : Bool). HasValueFrom s (if d then base ++ flat_map support (awaited inputs a) else [])
    (if d then Some (max (max x release) (latest_of (input_delay g) time (awaited inputs a))) else None) t)
    (sym active)
    (is s few base x has_value support time there valued)

-- if t has the starts by activation a, it has those of the guard that is the leaf a
pub start_leaf : (g : Graph) (f : ForestState) (wait : TreeState ℕ) (release : ℕ) (inputs : List ℕ) (a : Activation) (t : TreeState (Option ℕ)) →
    IsStartBy g f wait release inputs a t →
    IsStartTree g f wait release inputs (Leaf a) t
start_leaf g f wait release inputs a t is s few base x has_value support time there valued = is s few base x has_value support time there valued

-- the starts of a guard that tests c are those of the side that c's value picks: t picks b, the tree of `on`, or a,
-- that of `off`
pub start_test : (g : Graph) (f : ForestState) (wait : TreeState ℕ) (release : ℕ) (inputs : List ℕ) (c : ℕ) (off on : Guard)
    (a b t : TreeState (Option ℕ)) →
    IsStartTree g f wait release inputs off a → IsStartTree g f wait release inputs on b →
    PicksByValue g.faults c b a t →
    IsStartTree g f wait release inputs (Test c off on) t
start_test g f wait release inputs c off on a b t of_off of_on picks s few base x has_value support time there valued =
    go (get_or s.values c false) refl
  where
    -- the literals by which a guard leads to a start in this scenario
    says : Guard → List Literal
    says guard = values_known s (way guard s.values) ++ start_literals base support inputs (outcome_at guard s.values)

    -- the start to which it leads
    at : Guard → Option ℕ
    at guard = start_at x release (input_delay g) time inputs (outcome_at guard s.values)

    -- by the value of c: the start is that of the side that it picks
    go : (d : Bool) → get_or s.values c false ≡ d →
        HasValueFrom s (values_known s (c ∷ (if d then way on s.values else way off s.values))
        ++ start_literals base support inputs (if d then outcome_at on s.values else outcome_at off s.values))
        (start_at x release (input_delay g) time inputs (if d then outcome_at on s.values else outcome_at off s.values)) t
    go true c_true = picks s few (says on) (at on)
        (subst (λ (d : Bool). HasValueFrom s (says on) (at on) (if d then b else a)) (sym c_true)
        (of_on s few base x has_value support time (λ y is_awaited.
        there y (subst (λ (d : Bool). Contains
        (awaited inputs (if d then outcome_at on s.values else outcome_at off s.values)) y)
        (sym c_true) is_awaited))
        (λ y is_awaited.
        valued y (subst (λ (d : Bool). Contains
        (awaited inputs (if d then outcome_at on s.values else outcome_at off s.values)) y)
        (sym c_true) is_awaited))))
    go false c_false = picks s few (says off) (at off)
        (subst (λ (d : Bool). HasValueFrom s (says off) (at off) (if d then b else a)) (sym c_false)
        (of_off s few base x has_value support time (λ y is_awaited.
        there y (subst (λ (d : Bool). Contains
        (awaited inputs (if d then outcome_at on s.values else outcome_at off s.values)) y)
        (sym c_false) is_awaited))
        (λ y is_awaited.
        valued y (subst (λ (d : Bool). Contains
        (awaited inputs (if d then outcome_at on s.values else outcome_at off s.values)) y)
        (sym c_false) is_awaited))))

-- ---- trees of a forest

-- v, which the code finds at the place `at` in the forest's times, is the tree of the times of item x
pub times_read : (g : Graph) (f : ForestState) → HasTrees g f → (i : ForestState) → i ≡ f →
    (v : TreeState (Option ℕ)) (at x : ℕ) →
    v ≡ get_or i.times at v → at ≡ x →
    x < item_count g →
    v ≡ times_of g f x
times_read g f has i same v at x is is_x below =
    let long = ap (λ (h : ForestState). length h.times) same in
    get_or_read_under i.times at (length i.times) v (no_tree g.faults) is (omega (arith, is_x, below, has.times, long))
    refl
    ∙ ap (λ (h : ForestState). times_of g h at) same ∙ ap (times_of g f) is_x

-- v, which the code finds at the place `at` in the forest's ends, is the tree of the ends of process p
pub ends_read : (g : Graph) (f : ForestState) → HasTrees g f → (i : ForestState) → i ≡ f →
    (v : TreeState (Option ℕ)) (at p : ℕ) →
    v ≡ get_or i.ends at v → at ≡ p →
    p < process_count g →
    v ≡ ends_of g f p
ends_read g f has i same v at p is is_p below =
    let long = ap (λ (h : ForestState). length h.ends) same in
    get_or_read_under i.ends at (length i.ends) v (no_tree g.faults) is (omega (arith, is_p, below, has.ends, long))
    refl
    ∙ ap (λ (h : ForestState). ends_of g h at) same ∙ ap (ends_of g f) is_p

-- each item has a tree of its times
pub times_tree : (g : Graph) (f : ForestState) → HasTrees g f → (x : ℕ) → x < item_count g → IsTree g (times_of g f x)
times_tree g f has x below =
    All-get_or (IsTree g) f.times x (no_tree g.faults) (omega (arith, below, has.times)) has.all_times

-- each process has a tree of its ends
pub ends_tree : (g : Graph) (f : ForestState) → HasTrees g f → (p : ℕ) → p < process_count g → IsTree g (ends_of g f p)
ends_tree g f has p below =
    All-get_or (IsTree g) f.ends p (no_tree g.faults) (omega (arith, below, has.ends)) has.all_ends

-- t, which is made of the tree of ends by reading them as times, is one of the graph, and has its values; v is that
-- tree by the name under which the code reads it
pub read_end : (g : Graph) (v tree : TreeState (Option ℕ)) (t : TreeState ℕ) → v ≡ tree → IsTree g tree →
    IsMap (λ x z. z ≡ time_later 0 x) v t →
    HasOnePathEach t.faults t.paths →
    ((test : ℕ → Bool) → DoPathsPass test v.paths → DoPathsPass test t.paths) →
    IsTree g t × IsNoMore g.faults (later_tree tree) t
read_end g v tree t is of made each known =
    let made_of = subst (λ (u : TreeState (Option ℕ)). IsMap (λ x z. z ≡ time_later 0 x) u t) is made in (
      same_tree g tree t of.faults made_of.faults each
          (known (is_variable g) (subst (λ (u : TreeState (Option ℕ)). DoPathsPass (is_variable g) u.paths) (sym is) of.known)),
      no_more g tree t of made_of,
    )

-- given: a forest f, a node, a condition c, and trees `further` and t
module _ (g : Graph) (f : ForestState) (node c : ℕ) (further t : TreeState ℕ) where
  -- by whether the condition's process is on the node (d): then c is heard at its end, and otherwise at the end of a
  -- frame
  heard_if : (d : Bool) → (node_of g (process_of g c) == node) ≡ d →
      IsLatest g.faults (later_by (if d then 0 else slot_length g (home g (broadcast_item g c)))
      (if d then ends_of g f (process_of g c) else times_of g f (broadcast_item g c))) further t →
      IsLatest g.faults (later_by (heard_delay g node c) (heard_tree g f node c)) further t
  heard_if d on_node is = subst (λ (b : Bool). IsLatest g.faults
      (later_by (if b then 0 else slot_length g (home g (broadcast_item g c)))
      (if b then ends_of g f (process_of g c) else times_of g f (broadcast_item g c))) further t) (sym on_node) is

  -- if the condition's process is on the node, the node hears it by that process's end
  pub heard_own : node_of g (process_of g c) ≡ node →
      IsLatest g.faults (later_tree (ends_of g f (process_of g c))) further t →
      IsLatest g.faults (later_by (heard_delay g node c) (heard_tree g f node c)) further t
  heard_own on_node is = heard_if true (eq-eqb (node_of g (process_of g c)) node on_node) is

  -- if not, the node hears it by the end of the frame that broadcasts it
  pub heard_other : (node_of g (process_of g c) ≡ node → ⊥) →
      IsLatest g.faults (later_by (slot_length g (home g (broadcast_item g c))) (times_of g f (broadcast_item g c))) further t →
      IsLatest g.faults (later_by (heard_delay g node c) (heard_tree g f node c)) further t
  heard_other elsewhere is = heard_if false (ne_eqb (node_of g (process_of g c)) node elsewhere) is

-- if e is an input from another node, and t has the later of the wait and the end of e's frame, then t has the later of
-- the wait and when e is there
pub latest_input : (g : Graph) (f : ForestState) (e : ℕ) (wait t : TreeState ℕ) → is_message g e ≡ true →
    IsLatest g.faults wait (later_by (slot_length g (home g (message_item g e))) (times_of g f (message_item g e))) t →
    IsLatest g.faults wait (later_by (input_delay g e) (input_tree g f e)) t
latest_input g f e wait t message latest =
    subst (λ (d : Bool). IsLatest g.faults wait (later_by (if d then slot_length g (home g (message_item g e)) else 0)
    (if d then times_of g f (message_item g e) else ends_of g f (source g e))) t)
    (sym message) latest

-- the same for starts: if t has the latest of the wait, the end of e's frame and the release, then it has the latest of
-- the wait, when e is there and the release
pub released_input : (g : Graph) (f : ForestState) (e release : ℕ) (wait : TreeState ℕ) (t : TreeState (Option ℕ)) →
    is_message g e ≡ true →
    IsReleased g.faults wait (later_by (slot_length g (home g (message_item g e))) (times_of g f (message_item g e))) release t →
    IsReleased g.faults wait (later_by (input_delay g e) (input_tree g f e)) release t
released_input g f e release wait t message starts =
    subst (λ (d : Bool). IsReleased g.faults wait (later_by (if d then slot_length g (home g (message_item g e)) else 0)
    (if d then times_of g f (message_item g e) else ends_of g f (source g e)))
    release t) (sym message) starts
