-- The values of the trees that are made of starts: ends, ready times, tests, and what is sent.
use Rattle.std.proofs.Common.{ℕ, ◌+◌, ◌-◌, ◌<◌, ◌≡◌, ◌&&◌, max, length, Bool, true, false, if◌then◌else◌, List, [], ◌∷◌, ◌++◌}
use Rattle.std.proofs.Common.{get_or, Option, None}
use Rattle.std.proofs.Common.{Contains, arith, refl, sym, ap, ap₂, ◌∙◌, subst}
use Rattle.std.proofs.lemmas.List.{get_or_read_under}
use Rattle.std.proofs.lemmas.List.Elements.{All-get_or, Contains-append_left}
use Rattle.std.proofs.lemmas.List.Elements.{Contains-append_right}
use Rattle.cpg_base.specs.Graph.{Graph}
use Rattle.cpg_base.specs.declared.activation.Activation.{Activation}
use Rattle.cpg_base.specs.Scenario.{number_of_value, Scenario, number_of}
use Rattle.cpg_base.proofs.NumbersOf.{one_value}
use Rattle.cpg_base.proofs.Lists.{Contains-first}
use Rattle.cpg_order.specs.Guard.{Guard, Leaf, way}
use Rattle.cpg_cube.specs.declared.literal.Literal.{Literal}
use Rattle.cpg_table.specs.Heard.{exactly}
use Rattle.cpg_tree.specs.Space.{HasAtMostFaults}
use Rattle.cpg_tree.specs.Tree.{TreeState, HasOnePathEach, DoPathsPass, IsConstant, IsMap, IsJoin, IsPick, IsNumber}
use Rattle.cpg_tree.specs.Variables.{is_variable}
use Rattle.cpg_tree.proofs.Spaces.{number_le_top}
use Rattle.cpg_expand.specs.Agreeing.{Agrees, HasValueFrom}
use Rattle.cpg_tree.specs.GraphTrees.{IsTree}
use Rattle.cpg_tree.proofs.GraphTrees.{few_of, same_tree}
use Rattle.cpg_run.specs.Carried.{number_known}
use Rattle.cpg_tree_times.specs.Values.{ended, slot_from}
use Rattle.cpg_tree.specs.Later.{time_later}
use Rattle.cpg_bus.specs.Share.{ShareState}
use Rattle.cpg_base.specs.Numbers.{same_bool}
use Rattle.cpg_expand.specs.Sending.{IsTestedTree, IsSentTree, IsFreeTree}
use Rattle.cpg_expand.specs.Ending.{durations_of, IsEndTree, IsReadyTree}
use Rattle.cpg_expand.specs.Waiting.{ready_of, IsWaitTree}
use Rattle.cpg_expand.specs.Later.{IsNoMore, IsLatest}
use Rattle.cpg_expand.specs.Forest.{ForestState, HasTrees, IsWait, later_tree, ready_at, heard_delay}
use Rattle.cpg_tree.specs.GraphTrees.{no_tree}
use Rattle.cpg_expand.specs.declared.forest.Ready.{Ready}
use Rattle.cpg_expand.specs.declared.forest.Ready.TheVariants.{At}
use Rattle.cpg_expand.specs.Guarded.{value_known, support_of, latest_of}
use Rattle.cpg_expand.specs.Guarded.{IsHeardTree}
use Rattle.cpg_expand.proofs.AgreeingTrees.{agrees_weaker, agrees_constant, agrees_number, agrees_map, agrees_join, agrees_pick}
use Rattle.cpg_expand.proofs.GuardTrees.{constant_tree, each_of, later_has_value, number_at, to_ends}

-- ---- ends, and what a node waits for

-- If t is made of the starts (`start`) and of p's fault count (`faults`), a start with the duration that p has with its
-- count, then t has p's ends.
-- `number`, `each`: `faults` has p's count, on one path for each scenario; `made`: how t is made
-- `s`, `few`: a scenario with at most the graph's faults; `x`, `ls`, `has_value`: its start, by these literals
pub end_valued : (g : Graph) (p : ℕ) (start t : TreeState (Option ℕ)) (faults : TreeState ℕ) → IsTree g start →
    IsNumber p g.faults (λ n. n) faults →
    HasOnePathEach faults.faults faults.paths →
    IsJoin (λ x n z. z ≡ ended (durations_of g p) n x) start faults t → IsEndTree g p start t
end_valued g p start t faults of_start number each made s few ls x has_value =
    agrees_join s (λ x n z. z ≡ ended (durations_of g p) n x) start faults t ls (number_known s p ∷ []) (λ y. y ≡ x)
    (λ n. n ≡ number_of s p)
    (λ z. z ≡ ended (durations_of g p) (number_of s p) x)
    (few_of g.faults start.faults s of_start.faults few) (number.faults ∙ sym of_start.faults)
    (each_of g start.faults start of_start.faults of_start)
    (subst (λ n. HasOnePathEach n faults.paths) (number.faults ∙ sym of_start.faults) each) made
    (λ y n z is_start is_number is_made. is_made ∙ ap₂ (λ m o. ended (durations_of g p) m o) is_number is_start)
    has_value
    (agrees_number s p g.faults (λ n. n) faults few (number_le_top g.faults s few p) number)

-- If t picks `after`, the ends read as times, where the process is active, and `wait` elsewhere, then t says when the
-- node is ready.
-- `later`, `each`, `known`: `after` is made of `end`, with one path for each scenario and no variables but the graph's;
-- `made`: how t picks
-- `s`, `few`: a scenario with at most the graph's faults; `b`, `by_active`, `of_b`: whether the process is active
-- there, by these literals
-- `x`, `w`, `v`: the end, the time of the wait, and that of t; `by_time`, `ends`, `waits`: the literals by which the
-- end or the wait is known, whichever counts
pub ready_valued : (g : Graph) (active : TreeState Bool) (end : TreeState (Option ℕ)) (wait after t : TreeState ℕ) →
    IsTree g active → IsTree g end →
    IsTree g wait →
    IsMap (λ x z. z ≡ time_later 0 x) end after → HasOnePathEach after.faults after.paths →
    DoPathsPass (is_variable g) after.paths →
    IsPick active after wait t → IsReadyTree g.faults active end wait t
ready_valued g active end wait after t of_active of_end of_wait later each known made s few b by_active by_time x w v of_b ends waits =
    let of_after = same_tree g end after of_end.faults later.faults each known in
    agrees_pick s active after wait t b by_active by_time (λ z. z ≡ v)
    (few_of g.faults active.faults s of_active.faults few)
    (of_after.faults ∙ sym of_active.faults)
    (of_wait.faults ∙ sym of_active.faults)
    (each_of g active.faults active of_active.faults of_active)
    (each_of g active.faults after of_active.faults of_after)
    (each_of g active.faults wait of_active.faults of_wait) made of_b
    (picked b refl)
  where
    -- the process is active: its end; or it isn't: when the wait is over
    picked : (d : Bool) → b ≡ d → Agrees s by_time (λ z. z ≡ v) (if d then after else wait)
    picked true acts = let both = ends acts in
        subst (λ n. Agrees s by_time (λ z. z ≡ n) after) (sym both.1)
        (later_has_value g 0 end after of_end later s few by_time x both.0)
    picked false idle = let both = waits idle in subst (λ n. Agrees s by_time (λ z. z ≡ n) wait) (sym both.1) both.0

-- a chooser that is true everywhere is true in this scenario
always_true : (active : TreeState Bool) → IsConstant true active.faults active →
    (s : Scenario) (b : Bool) (by_active : List Literal) →
    HasValueFrom s by_active b active → b ≡ true
always_true active always s b by_active of_b =
    let there : Contains active.paths ([], true) =
    subst (λ (t : TreeState Bool). Contains t.paths ([], true)) (sym always) (Contains-first ([], true) []) in
    sym (of_b.value ([], true) (record { stands = there; matched = refl }))

-- if a process is always active, its ends say when its node is ready after it
pub ready_always : (g : Graph) (active : TreeState Bool) (end : TreeState (Option ℕ)) (wait : TreeState ℕ) →
    IsConstant true active.faults active →
    IsReadyTree g.faults active end wait (later_tree end)
ready_always g active end wait always s few b by_active by_time x w v of_b ends waits =
    let both = ends (always_true active always s b by_active of_b) in
    agrees_weaker s (later_tree end) by_time (by_active ++ by_time) (λ z. z ≡ time_later 0 x) (λ z. z ≡ v)
    (λ literal listed. Contains-append_right by_active by_time literal listed)
    (λ z equal. equal ∙ sym both.1)
    (to_ends s end by_time x both.0)

-- if `read` has the values of `tree` and says no more, t, which says when a node goes on by the wait `read`, says so by
-- the wait `tree`
pub ready_after : (k : ℕ) (active : TreeState Bool) (end : TreeState (Option ℕ)) (tree read t : TreeState ℕ) →
    IsNoMore k tree read →
    IsReadyTree k active end read t →
    IsReadyTree k active end tree t
ready_after k active end tree read t none readies s few b by_active by_time x w v of_b ends waits =
    readies s few b by_active by_time x w v of_b ends (λ idle. let waited = waits idle in
    (none s few by_time w waited.0, waited.1))

-- if `heard` says when the node has heard what the guard tests, and t has the later of that and of when the node is
-- ready, t says when the wait is over
pub wait_valued : (g : Graph) (f : ForestState) (node : ℕ) (guard : Guard) (heard t : TreeState ℕ) →
    IsHeardTree g f node guard heard →
    IsLatest g.faults (ready_of g f node) heard t →
    IsWaitTree g f node guard t
wait_valued g f node guard heard t hears latest s few base x has_value support time valued =
    latest s few base (support_of s support (way guard s.values)) x (latest_of (heard_delay g node) time (way guard s.values)) has_value
    (hears s few support time valued)

-- if the guard is a leaf, it tests nothing, so the wait is over when the node is ready
pub wait_leaf : (g : Graph) (f : ForestState) (node : ℕ) (a : Activation) →
    IsWaitTree g f node (Leaf a) (ready_of g f node)
wait_leaf g f node a s few base x has_value support time valued =
    agrees_weaker s (ready_of g f node) base (base ++ []) (λ y. y ≡ x) (λ y. y ≡ max x 0)
    (λ literal listed. Contains-append_left base [] literal listed)
    (λ y equal. omega (arith, equal)) has_value

-- v, which the code finds at the place `at`, says when the node is ready
pub ready_read : (g : Graph) (f : ForestState) → HasTrees g f → (i : ForestState) → i ≡ f → (v : Ready) (at node : ℕ) →
    v ≡ get_or i.ready at v →
    at ≡ node →
    node < length g.nodes →
    v ≡ ready_at g f node
ready_read g f has i same v at node is is_node below =
    let long = ap (λ (h : ForestState). length h.ready) same in
    get_or_read_under i.ready at (length i.ready) v (At (no_tree g.faults)) is
    (omega (arith, is_node, below, has.ready, long)) refl
    ∙ ap (λ (h : ForestState). ready_at g h at) same ∙ ap (ready_at g f) is_node

-- for each node, what says when it is ready is a tree of the graph, or a process of it, after whose ends it is ready
pub ready_waits : (g : Graph) (f : ForestState) → HasTrees g f → (node : ℕ) → node < length g.nodes →
    IsWait g (ready_at g f node)
ready_waits g f has node below = All-get_or (IsWait g) f.ready node (At (no_tree g.faults))
    (omega (arith, below, has.ready)) has.all_ready

-- ---- what is sent

-- given: a tree `active` of where something is active or goes, and its value b in scenario s, by the literals
-- `by_active`
module _ (g : Graph) (active : TreeState Bool) (of_active : IsTree g active) (s : Scenario)
    (few : HasAtMostFaults g.faults s) (b : Bool)
    (by_active : List Literal)
    (of_b : HasValueFrom s by_active b active) where
  -- If t picks `yes_tree` where `active` is true and `off_tree` elsewhere, its value in s follows from the literals of
  -- `active` and, where that is true, from those of `yes_tree` (`by_time`); the value y of `off_tree` needs none.
  picked_has_value : {T : Type 0} (yes_tree off_tree t : TreeState T) (by_time : List Literal) (x y : T) →
      IsTree g yes_tree → IsTree g off_tree →
      IsPick active yes_tree off_tree t →
      (b ≡ true → HasValueFrom s by_time x yes_tree) → HasValueFrom s [] y off_tree →
      HasValueFrom s (by_active ++ (if b then by_time else [])) (if b then x else y) t
  picked_has_value {T} yes_tree off_tree t by_time x y of_yes of_off made valued other =
      agrees_pick s active yes_tree off_tree t b by_active (if b then by_time else []) (λ z. z ≡ (if b then x else y))
      (few_of g.faults active.faults s of_active.faults few) (of_yes.faults ∙ sym of_active.faults)
      (of_off.faults ∙ sym of_active.faults)
      (each_of g active.faults active of_active.faults of_active)
      (each_of g active.faults yes_tree of_active.faults of_yes)
      (each_of g active.faults off_tree of_active.faults of_off) made of_b (by b refl)
    where
      -- by whether the chooser is true: the first tree's value, or the other's without further literals
      by : (d : Bool) → b ≡ d →
          Agrees s (if d then by_time else []) (λ z. z ≡ (if d then x else y)) (if d then yes_tree else off_tree)
      by true is_d = valued is_d
      by false is_d = other

-- a value if a test passes, and otherwise false, is the conjunction
and_if : (b v : Bool) → (if b then v else false) ≡ (b && v)
and_if true v = refl
and_if false v = refl

-- If t picks `is` where `active` is true, and `never` elsewhere, it is true where `active` is and condition c has the
-- value
-- `wanted`: `is` is made of `value`, the tree of c's value, and says whether that is `wanted`.
-- `number`, `each`: `value` has c's value, on one path for each scenario; `same`, `each_is`, `known_is`: how `is` is
-- made;
-- `none`, `each_never`, `known_never`: `never` is false everywhere; `made`: how t picks
-- `s`, `few`: a scenario with at most the graph's faults; `b`, `by_active`, `of_b`: the value of `active` there, by
-- these literals
pub tested_valued : (g : Graph) (c : ℕ) (wanted : Bool) (active value is never t : TreeState Bool) → IsTree g active →
    IsNumber (128 + c) g.faults number_of_value value →
    HasOnePathEach value.faults value.paths →
    IsMap (λ x z. z ≡ same_bool wanted x) value is → HasOnePathEach is.faults is.paths →
    DoPathsPass (is_variable g) is.paths →
    IsConstant false g.faults never →
    HasOnePathEach never.faults never.paths → DoPathsPass (is_variable g) never.paths → IsPick active is never t →
    IsTestedTree g.faults c wanted active t
tested_valued g c wanted active value is never t of_active number each same each_is known_is none each_never known_never made s few b by_active of_b =
    -- the condition's value in the scenario, which the tree of its number gives by the value's literal
    let c_value : Bool = get_or s.values c false in
    let valued : Agrees s (exactly (128 + c) (number_of s (128 + c)) ∷ []) (λ (d : Bool). number_of_value d ≡ number_of s (128 + c)) value =
    agrees_number s (128 + c) g.faults number_of_value value few (number_le_top g.faults s few (128 + c)) number in
    let here : HasValueFrom s (value_known s c ∷ []) (same_bool wanted c_value) is =
    agrees_map s (λ x z. z ≡ same_bool wanted x) value is (value_known s c ∷ [])
    (λ (d : Bool). number_of_value d ≡ number_of s (128 + c))
    (λ (d : Bool). d ≡ same_bool wanted c_value)
    (few_of g.faults value.faults s number.faults few) each same
    (λ x z same_number is_made. is_made ∙ ap (same_bool wanted) (one_value x c_value (same_number ∙ number_at s c)))
    valued in
    -- where the other tree is true the value is compared with the wanted one; elsewhere the tree is false
    subst (λ (d : Bool). HasValueFrom s (by_active ++ (if b then value_known s c ∷ [] else [])) d t)
    (and_if b (same_bool wanted c_value))
    (picked_has_value g active of_active s few b by_active of_b is never t (value_known s c ∷ [])
    (same_bool wanted c_value) false
    (same_tree g value is number.faults same.faults each_is known_is)
    (constant_tree g false g.faults never refl each_never none known_never) made
    (λ idle. here) (agrees_constant s false g.faults never (λ y. y ≡ false) refl none))

-- If t picks `slots`, the first free slots from the end on, where an item goes, and `never`, no time, elsewhere, then t
-- says when the item is sent.
-- `joined`, `each_slots`, `known_slots`: how `slots` is made of `end` and `free`; `none`, `of_never`: `never`, a tree
-- of the graph, has no time; `made`: how t picks
-- `s`, `few`: a scenario with at most the graph's faults; `b`, `by_goes`, `of_b`: whether the item goes there, by these
-- literals
-- `x`, `y`, `by_end`, `by_free`, `valued`: the end, and from when on slots are free, by these literals
pub sent_valued : (g : Graph) (share : ShareState) (goes : TreeState Bool) (end : TreeState (Option ℕ)) (free : TreeState ℕ)
    (slots never t : TreeState (Option ℕ)) → IsTree g goes → IsTree g end →
    IsTree g free →
    IsJoin (λ x y z. z ≡ slot_from share y x) end free slots → HasOnePathEach slots.faults slots.paths →
    DoPathsPass (is_variable g) slots.paths →
    IsConstant None g.faults never →
    IsTree g never → IsPick goes slots never t →
    IsSentTree g.faults share goes end free t
sent_valued g share goes end free slots never t of_goes of_end of_free joined each_slots known_slots none of_never made s few b by_goes
    by_end by_free x y of_b valued =
    picked_has_value g goes of_goes s few b by_goes of_b slots never t (by_end ++ by_free) (slot_from share y x) None
    (same_tree g end slots of_end.faults joined.faults each_slots known_slots)
    of_never made
    -- where the item goes: the first slot behind the end and what is free, by the literals of both
    (λ on. let both = valued on in
    agrees_join s (λ x y z. z ≡ slot_from share y x) end free slots by_end by_free (λ z. z ≡ x) (λ z. z ≡ y)
    (λ z. z ≡ slot_from share y x)
    (few_of g.faults end.faults s of_end.faults few)
    (of_free.faults ∙ sym of_end.faults) (each_of g end.faults end of_end.faults of_end)
    (each_of g end.faults free of_end.faults of_free) joined
    (λ m n z is_end is_free is_made. is_made ∙ ap₂ (λ p q. slot_from share q p) is_end is_free) both.0 both.1)
    -- elsewhere: no time
    (agrees_constant s None g.faults never (λ z. z ≡ None) refl none)

-- if the item always goes, the tree t of the first free slots from its producer's end on says when it is sent
pub sent_always : (g : Graph) (share : ShareState) (goes : TreeState Bool) (end : TreeState (Option ℕ)) (free : TreeState ℕ)
    (t : TreeState (Option ℕ)) →
    IsConstant true goes.faults goes →
    IsTree g end → IsTree g free →
    IsJoin (λ x y z. z ≡ slot_from share y x) end free t → IsSentTree g.faults share goes end free t
sent_always g share goes end free t always of_end of_free joined s few b by_goes by_end by_free x y of_b valued =
    let on = always_true goes always s b by_goes of_b in
    let both = valued on in
    subst (λ (d : Bool). HasValueFrom s (by_goes ++ (if d then by_end ++ by_free else [])) (if d then slot_from share y x else None) t) (sym on)
    (agrees_weaker s t (by_end ++ by_free) (by_goes ++ (by_end ++ by_free)) (λ z. z ≡ slot_from share y x) (λ z. z ≡ slot_from share y x)
    (λ literal listed. Contains-append_right by_goes (by_end ++ by_free) literal listed)
    (λ z equal. equal)
    (agrees_join s (λ x y z. z ≡ slot_from share y x) end free t by_end by_free (λ z. z ≡ x) (λ z. z ≡ y) (λ z. z ≡ slot_from share y x)
    (few_of g.faults end.faults s of_end.faults few)
    (of_free.faults ∙ sym of_end.faults) (each_of g end.faults end of_end.faults of_end)
    (each_of g end.faults free of_end.faults of_free) joined
    (λ m n z is_end is_free is_made. is_made ∙ ap₂ (λ p q. slot_from share q p) is_end is_free) both.0 both.1))

-- if the item always goes, the tree t of its times, each `turn` later, says when the slots are free after it
pub free_always : (g : Graph) (turn : ℕ) (goes : TreeState Bool) (sent : TreeState (Option ℕ)) (free t : TreeState ℕ) →
    IsConstant true goes.faults goes → IsTree g sent →
    IsMap (λ x z. z ≡ time_later turn x) sent t → IsFreeTree g.faults turn goes sent free t
free_always g turn goes sent free t always of_sent later s few b by_goes by_time x w v of_b sends stays =
    let both = sends (always_true goes always s b by_goes of_b) in
    agrees_weaker s t by_time (by_goes ++ by_time) (λ z. z ≡ time_later turn x) (λ z. z ≡ v)
    (λ literal listed. Contains-append_right by_goes by_time literal listed)
    (λ z equal. equal ∙ sym both.1)
    (later_has_value g turn sent t of_sent later s few by_time x both.0)

-- If t picks `after`, the item's times with `turn` added, where the item goes, and `free` elsewhere, then t says when
-- the slots are free after it.
-- `later`, `each`, `known`: how `after` is made of `sent`; `made`: how t picks
-- `s`, `few`: a scenario with at most the graph's faults; `b`, `by_goes`, `of_b`: whether the item goes there, by these
-- literals
-- `x`, `w`, `v`: the item's time, the time of `free`, and that of t; `by_time`, `sends`, `stays`: the literals by which
-- the first or the second is known, whichever counts
pub free_valued : (g : Graph) (turn : ℕ) (goes : TreeState Bool) (sent : TreeState (Option ℕ)) (free after t : TreeState ℕ) → IsTree g goes →
    IsTree g sent → IsTree g free →
    IsMap (λ x z. z ≡ time_later turn x) sent after → HasOnePathEach after.faults after.paths →
    DoPathsPass (is_variable g) after.paths →
    IsPick goes after free t → IsFreeTree g.faults turn goes sent free t
free_valued g turn goes sent free after t of_goes of_sent of_free later each known made s few b by_goes by_time x w v of_b sends stays =
    let of_after = same_tree g sent after of_sent.faults later.faults each known in
    agrees_pick s goes after free t b by_goes by_time (λ z. z ≡ v) (few_of g.faults goes.faults s of_goes.faults few)
    (of_after.faults ∙ sym of_goes.faults) (of_free.faults ∙ sym of_goes.faults)
    (each_of g goes.faults goes of_goes.faults of_goes) (each_of g goes.faults after of_goes.faults of_after)
    (each_of g goes.faults free of_goes.faults of_free) made of_b (picked b refl)
  where
    -- by whether the item goes: the slots are free a round after it, or as before
    picked : (d : Bool) → b ≡ d → Agrees s by_time (λ z. z ≡ v) (if d then after else free)
    picked true goes_there = let both = sends goes_there in
        subst (λ n. Agrees s by_time (λ z. z ≡ n) after) (sym both.1)
        (later_has_value g turn sent after of_sent later s few by_time x both.0)
    picked false idle = let both = stays idle in subst (λ n. Agrees s by_time (λ z. z ≡ n) free) (sym both.1) both.0
