-- A play that is driven: while not all nodes are done, a node takes its turn in each choice; and choices follow each
-- other.
use Rattle.std.proofs.Common.{◌≡◌, ℕ, zero, suc, ◌+◌, ◌-◌, ◌<◌, ◌≤◌, ◌%◌, true, false, ◌||◌, List, [], ◌∷◌, length, map}
use Rattle.std.proofs.Common.{get_or, Contains, Option, Some, None, refl, sym, ap, ◌∙◌, subst, arith, inl}
use Rattle.std.proofs.Common.{inr, ◌⊎◌, true≢false}
use Rattle.std.specs.Prelude.{is_some, sum_by}
use Rattle.std.specs.List.{list_any}
use Rattle.std.proofs.lemmas.Bool.{cases_lt, cases_eq, cases_Bool}
use Rattle.std.proofs.lemmas.Option.{none-some, same_Some}
use Rattle.std.proofs.lemmas.List.{length-map}
use Rattle.std.proofs.Math.Nat.{add-mod_right, mod-eq_of_lt}
use Rattle.cpg_base.specs.Graph.{Graph}
use Rattle.cpg_base.specs.Numbers.{numbers_below}
use Rattle.cpg_base.proofs.Lists.{Contains-cases, Contains-nil, Contains-map, Contains-numbers, from_any_false}
use Rattle.std.proofs.lemmas.List.Elements.{Contains-get_or}
use Rattle.cpg_table.specs.Lawful.{column_count, rows_of}
use Rattle.cpg_table.specs.Table.{NodeTable}
use Rattle.cpg_node.specs.Dispatcher.{Dispatcher, next}
use Rattle.cpg_cluster.specs.Cluster.{World, Cluster, Answer, Took, Waits, Done, answer, answer_at, dispatcher_at}
use Rattle.cpg_cluster.specs.Playing.{Playing, IsPlaying}
use Rattle.cpg_base.specs.Draws.{next_number}
use Rattle.cpg_cluster.specs.Driving.{circle, Choice, chosen, choose, choice, driven, AllDone, IsDriven, first_asked}
use Rattle.cpg_cluster.specs.Driving.{remaining}
use Rattle.cpg_cluster.specs.Kept.{cluster_of}
use Rattle.cpg_cluster.specs.declared.member.Member.{Member}
use Rattle.cpg_cluster.proofs.Between.{dispatcher_is}
use Rattle.cpg_cluster.proofs.Bounded.{most_remaining}
use Rattle.cpg_cluster.proofs.Lively.{least_took}
use Rattle.cpg_cluster.proofs.Passed.{played_reached}
use Rattle.cpg_cluster.proofs.Plays.{played_of, never_done}
use Rattle.cpg_cluster.proofs.Stepping.{tables_of, play_of}

-- Of the nodes below `n`, whose next instants are given by `f`, one has the least, or none has any. By induction on
-- `n`: node `n` is compared with the least of those before it.
least_node : (f : ℕ → Option ℕ) (n : ℕ) →
    ((a : ℕ) × (a < n) × (time : ℕ) × (f a ≡ Some time) ×
    ((other moment : ℕ) → other < n → f other ≡ Some moment → time ≤ moment)) ⊎
    ((a : ℕ) → a < n → f a ≡ None)
least_node f zero = inr (λ a l. absurd (omega arith))
least_node f (suc n) = go (f n) refl (least_node f n)
  where
    -- no node up to `n` has a next instant, if node `n` has none and none before it has one
    all : f n ≡ None → ((a : ℕ) → a < n → f a ≡ None) → (a : ℕ) → a < suc n → f a ≡ None
    all is none a less = elim (cases_eq a n) [ inl s ↦ ap f s ∙ is | inr ne ↦ none a (omega arith) ]

    -- by whether node n has a next instant, and whether a node before it has
    go : (o : Option ℕ) → f n ≡ o →
        ((a : ℕ) × (a < n) × (time : ℕ) × (f a ≡ Some time) ×
        ((other moment : ℕ) → other < n → f other ≡ Some moment → time ≤ moment)) ⊎ ((a : ℕ) → a < n → f a ≡ None) →
        ((a : ℕ) × (a < suc n) × (time : ℕ) × (f a ≡ Some time) ×
        ((other moment : ℕ) → other < suc n → f other ≡ Some moment → time ≤ moment)) ⊎
        ((a : ℕ) → a < suc n → f a ≡ None)
    go None is (inr none) = inr (all is none)
    -- node n has no next instant, so the least one of the others is still the least
    go None is (inl q) = inl (
      q.0,
      omega arith,
      q.2,
      q.3,
      λ other moment l h. elim (cases_eq other n)
          [ inl s ↦ absurd (none-some moment (sym (ap f s ∙ is) ∙ h)) | inr ne ↦ q.4 other moment (omega arith) h ],
    )
    -- node n alone has a next instant
    go (Some t) is (inr none) = inl (
      n,
      omega arith,
      t,
      is,
      λ other moment l h. elim (cases_eq other n) [
        | inl same_node ↦ let times : t ≡ moment = same_Some t moment (sym (ap f same_node ∙ is)
            ∙ h) in omega (arith, times)
        | inr ne ↦ absurd (none-some moment (sym (none other (omega arith)) ∙ h))
      ],
    )
    -- both have one, and the earlier of the two is the least
    go (Some t) is (inl q) = elim (cases_lt t q.2) [
      | inl less ↦ inl (
        n,
        omega arith,
        t,
        is,
        λ other moment l h. elim
            (cases_eq other n) [
              | inl same_node ↦ let times : t ≡ moment = same_Some t moment (sym (ap f same_node ∙ is)
                  ∙ h) in omega (arith, times)
              | inr ne ↦ let at_most = q.4 other moment (omega arith) h in
                  omega (arith, at_most, less)
            ],
      )
      | inr more ↦ inl (
        q.0,
        omega (arith, q.1),
        q.2,
        q.3,
        λ other moment l h. elim (cases_eq other n) [
          | inl same_node ↦ let times : t ≡ moment = same_Some t moment (sym (ap f same_node ∙ is) ∙ h) in
              omega (arith, times, more)
          | inr ne ↦ q.4 other moment (omega arith) h
        ],
      )
    ]

-- if a choice among nodes `xs` takes no turn, none of them would take one in state `c`; by induction on the nodes
not_took : (g : Graph) (w : World) (c : Cluster) (xs : List ℕ) → (choose g w c xs).took ≡ false → (a : ℕ) →
    Contains xs a → answer g c a ≡ Took → ⊥
not_took g w c [] fails a there takes = Contains-nil a there
not_took g w c (x ∷ xs) fails a there takes = go (answer g c x) refl fails
    (λ is_false among. not_took g w c xs is_false a among takes)
  where
    -- the node isn't x, which doesn't take a turn, and it is none of the others
    rest : (answer g c x ≡ Took → ⊥) → (Contains xs a → ⊥) → ⊥
    rest no' ih = elim (Contains-cases x xs a there) [ inl s ↦ no' (ap (answer g c) s ∙ takes) | inr m ↦ ih m ]

    -- by the answer of x: a turn would contradict, and else the choice goes on with the others
    go : (ans : Answer) → answer g c x ≡ ans → (chosen g w c x ans (choose g w c xs)).took ≡ false →
        ((choose g w c xs).took ≡ false → Contains xs a → ⊥) → ⊥
    go Took is is_false ih = true≢false is_false
    go (Waits b) is is_false ih = rest (λ took. let conflict : Waits b ≡ Took = sym is ∙ took in cc) (ih is_false)
    go Done is is_false ih = rest (λ took. let conflict : Done ≡ Took = sym is ∙ took in cc) (ih is_false)

-- each node `a` is on the circle of `n` nodes, whatever node `first` it begins with
circle_all : (n first a : ℕ) → first < n → a < n → Contains (circle n first) a
circle_all n first a f l = elim (cases_lt a first) [
  | inr past ↦ at (a - first) (omega arith) (ap (λ m. m % n) (let sum : first + (a - first) ≡ a = omega arith in sum)
      ∙ mod-eq_of_lt l)
  | inl before ↦
      at (a + n - first) (omega arith) (ap (λ m. m % n) (let sum : first + (a + n - first) ≡ a + n = omega arith in sum)
      ∙ add-mod_right a n ∙ mod-eq_of_lt l)
]
  where
    -- the node at place i of the circle is on it
    at : (i : ℕ) → i < n → (first + i) % n ≡ a → Contains (circle n first) a
    at i less is = subst (Contains (circle n first)) is
        (Contains-map (λ i. (first + i) % n) (numbers_below n) i (Contains-numbers n i less))

-- if some member has a next instant, there is a node `b` with one; by induction on the members
left_node : (ms : List Member) → list_any (λ (m : Member). is_some (next m.node.dispatcher)) ms ≡ true →
    (b : ℕ) × (b < length ms) × (time : ℕ) × (next (dispatcher_at (cluster_of ms) b) ≡ Some time)
left_node [] holds = absurd (true≢false (sym holds))
left_node (m ∷ ms) holds = go (next m.node.dispatcher) refl holds (left_node ms)
  where
    -- by the next instant of the first member: it is the one, or there is one among the others
    go : (o : Option ℕ) → next m.node.dispatcher ≡ o →
        (is_some o || list_any (λ (m : Member). is_some (next m.node.dispatcher)) ms) ≡ true →
        (list_any (λ (m : Member). is_some (next m.node.dispatcher)) ms ≡ true →
        (b : ℕ) × (b < length ms) × (time : ℕ) × (next (dispatcher_at (cluster_of ms) b) ≡ Some time)) →
        (b : ℕ) × (b < length (m ∷ ms)) × (time : ℕ) × (next (dispatcher_at (cluster_of (m ∷ ms)) b) ≡ Some time)
    go (Some t) is is_true ih = (0, omega arith, t, is)
    go None is is_true ih = let among_others = ih is_true in
        (suc among_others.0, omega (arith, among_others.1), among_others.2, among_others.3)

-- an option without a value is `None`
none_is : (o : Option ℕ) → is_some o ≡ false → o ≡ None
none_is None fails = refl
none_is (Some t) fails = absurd (true≢false fails)

-- given the members of a play
module _ (g : Graph) (w : World) (ms : List Member) (playing : IsPlaying (play_of g w ms)) where
  -- there is a member for each node
  count : length ms ≡ length g.nodes
  count = sym (length-map ms (λ (m : Member). m.node.dispatcher.table)) ∙ playing.shape.count

  -- if no member has a next instant, all nodes are done
  pub all_done : list_any (λ (m : Member). is_some (next m.node.dispatcher)) ms ≡ false → AllDone g (cluster_of ms)
  all_done fails b l =
      let within : b < length ms = omega (arith, l, count) in
      let blank = member ms b within in
      ap (answer_at g (cluster_of ms) b)
      (ap next (dispatcher_is ms b blank within) ∙ none_is (next (get_or ms b blank).node.dispatcher)
      (from_any_false (λ (m : Member). is_some (next m.node.dispatcher)) ms (get_or ms b blank) fails
      (Contains-get_or ms b blank within)))
    where
      -- the member at a place, which serves as the default of `get_or`
      member : (ms : List Member) (i : ℕ) → i < length ms → Member
      member [] i within = absurd (omega arith)
      member (m ∷ ms) i within = m

  -- if some member has a next instant, not all nodes are done
  pub not_done : list_any (λ (m : Member). is_some (next m.node.dispatcher)) ms ≡ true → AllDone g (cluster_of ms) → ⊥
  not_done holds d = let unfinished = left_node ms holds in
      never_done _ (sym (ap (answer_at g (cluster_of ms) unfinished.0) unfinished.3)
      ∙ d unfinished.0 (omega (arith, unfinished.1, count)))

  -- If some member has a next instant, a node takes its turn in each choice: a node with the least next instant would
  -- take it, and each node is on the circle.
  pub someone_takes : list_any (λ (m : Member). is_some (next m.node.dispatcher)) ms ≡ true → (first : ℕ) →
      first < length g.nodes →
      (choose g w (cluster_of ms) (circle (length g.nodes) first)).took ≡ true
  someone_takes holds first within = elim (cases_Bool
      (choose g w (cluster_of ms) (circle (length g.nodes) first)).took) [
        | inl t ↦ t
        | inr none ↦ elim (least_node (λ b. next (dispatcher_at (cluster_of ms) b)) (length g.nodes)) [
          | inr no' ↦ let unfinished = left_node ms holds in
              absurd (none-some unfinished.2 (sym (no' unfinished.0 (omega (arith, unfinished.1, count))) ∙ unfinished.3))
          | inl least ↦
              let played = played_of g (play_of g w ms).tables playing.formed playing.shape playing.valid w playing.world in
              absurd (not_took g w (cluster_of ms) (circle (length g.nodes) first) none least.0
              (circle_all (length g.nodes) first least.0 within least.1)
              (least_took played (cluster_of ms) (played_reached played (cluster_of ms) playing.played) least.0 least.2
              least.1 least.3 least.4))
        ]
      ]

-- the number that is drawn for the n-th choice after a number
abbrev pub number_after : ℕ → ℕ → ℕ
number_after zero x = x
number_after (suc n) x = number_after n (next_number x)

-- the number after `n + 1` choices is drawn from the one after `n`
number_more : (n x : ℕ) → number_after (suc n) x ≡ next_number (number_after n x)
number_more zero x = refl
number_more (suc n) x = number_more n (next_number x)

-- if `n` choices by the numbers after `x` lead from `c` to `now` with `total` waits, the next choice goes on from `now`
-- and adds its waits; by induction on the choices
driven_more : (g : Graph) (w : World) (n x : ℕ) (c now : Cluster) (total : ℕ) → driven g w n x c ≡ (now, total) →
    driven g w (suc n) x c ≡ (
      (choice g w now (next_number (number_after n x))).cluster,
      total + (choice g w now (next_number (number_after n x))).waits,
    )
driven_more g w zero x c now total is =
    -- no choice was made yet: the state is the first, and there are no waits
    let same_state : c ≡ now = ap (λ (q : Cluster × ℕ). q.0) is in
    let no_waits : 0 ≡ total = ap (λ (q : Cluster × ℕ). q.1) is in
    let same_total : (choice g w now (next_number x)).waits + 0 ≡ total + (choice g w now (next_number x)).waits =
    omega (arith, no_waits) in
    ap (λ (c : Cluster). ((choice g w c (next_number x)).cluster, (choice g w c (next_number x)).waits + 0)) same_state
    ∙ ap (λ n. ((choice g w now (next_number x)).cluster, n)) same_total
driven_more g w (suc n) x c now total is =
    -- the first of the choices, and the others after it
    let one = choice g w c (next_number x) in
    let rest = driven g w n (next_number x) one.cluster in
    -- by induction, the others with one choice more go on from where they led
    let others_more = driven_more g w n (next_number x) one.cluster rest.0 rest.1 refl in
    -- they led to `now`, and the waits of all add up to `total`
    let same_state : rest.0 ≡ now = ap (λ (q : Cluster × ℕ). q.0) is in
    let total_is : one.waits + rest.1 ≡ total = ap (λ (q : Cluster × ℕ). q.1) is in
    ap (λ (q : Cluster × ℕ). (q.0, one.waits + q.1)) others_more
    ∙ ap (λ (c : Cluster). (
      (choice g w c (next_number (number_after n (next_number x)))).cluster,
      one.waits + (rest.1 + (choice g w c (next_number (number_after n (next_number x)))).waits),
    )) same_state
    ∙ ap (λ n'. ((choice g w now (next_number (number_after n (next_number x)))).cluster, n'))
    (let same_waits : one.waits + (rest.1 + (choice g w now (next_number (number_after n (next_number x)))).waits)
    ≡ total + (choice g w now (next_number (number_after n (next_number x)))).waits =
    omega (arith, total_is) in same_waits)

-- A drive on the way, after some choices: `number` is the one that was drawn for the last choice, and not all nodes
-- were done before it.
pub record IsDriving (g : Graph) (w : World) (x : ℕ) (before now : Cluster) (number waits : ℕ) : Type 0 where
  -- how many choices were made; they led from `before` to `now`, with `waits`
  pub turns : ℕ
  pub is : driven g w turns x before ≡ (now, waits)
  -- the number that was drawn for the last of these choices
  pub number' : number ≡ number_after turns x
  -- after fewer choices not all nodes were done
  pub needed : (fewer : ℕ) → fewer < turns → AllDone g (driven g w fewer x before).0 → ⊥

-- before its first choice, a drive by the numbers after `x` is still in state `c`, without waits
pub driving_none : (g : Graph) (w : World) (x : ℕ) (c : Cluster) → IsDriving g w x c c x 0
driving_none g w x c = record { turns = 0; is = refl; number' = refl; needed = λ fewer l. absurd (omega arith) }

-- if not all nodes are done in state `now`, a drive goes on with one more choice, by the next number: to state `new`,
-- with `more` waits
pub driving_more : (g : Graph) (w : World) (x : ℕ) (c now new : Cluster) (number waits more next' : ℕ) →
    IsDriving g w x c now number waits → (AllDone g now → ⊥) →
    next' ≡ next_number number →
    new ≡ (choice g w now next').cluster → more ≡ (choice g w now next').waits →
    IsDriving g w x c new next' (waits + more)
driving_more g w x c now new number waits more next' driving left n e m =
    let at : next' ≡ next_number (number_after driving.turns x) = n ∙ ap next_number driving.number' in
    record {
      turns = suc driving.turns;
      is = driven_more g w driving.turns x c now waits driving.is
          ∙ (λ i. ((choice g w now (sym at i)).cluster, waits + (choice g w now (sym at i)).waits))
          ∙ (λ i. (sym e i, waits + sym m i));
      number' = at ∙ sym (number_more driving.turns x);
      needed = λ fewer l d. elim (cases_eq fewer driving.turns) [
        | inl same ↦
            left (subst (AllDone g) (ap (λ n. (driven g w n x c).0) same ∙ ap (λ (q : Cluster × ℕ). q.0) driving.is) d)
        | inr ne ↦ driving.needed fewer (omega arith) d
      ];
    }

-- if all nodes are done in state `now`, the drive that has come there is over
pub driving_done : (g : Graph) (w : World) (x : ℕ) (c now : Cluster) (number waits : ℕ) →
    IsDriving g w x c now number waits → AllDone g now →
    IsDriven g w x c now waits
driving_done g w x c now number waits driving d = record {
  turns = driving.turns;
  is = driving.is;
  done = d;
  needed = driving.needed;
}

-- The same for `now`, the play as code sees it, which is that of the members.

-- if some member has a next instant, a node takes its turn in each choice, whatever node `first` it begins with
pub takes_at : (g : Graph) (w : World) (ms : List Member) (now : Playing) → play_of g w ms ≡ now →
    IsPlaying (play_of g w ms) →
    list_any (λ (m : Member). is_some (next m.node.dispatcher)) ms ≡ true →
    (first : ℕ) →
    first < length now.graph.nodes →
    (choose now.graph now.world now.cluster (circle (length now.graph.nodes) first)).took ≡ true
takes_at g w ms now view playing holds = subst (λ (now : Playing). (first : ℕ) → first < length now.graph.nodes →
    (choose now.graph now.world now.cluster (circle (length now.graph.nodes) first)).took ≡ true)
    view (someone_takes g w ms playing holds)

-- if some member has a next instant, not all nodes of the play `now` are done
pub left_at : (g : Graph) (w : World) (ms : List Member) (now : Playing) → play_of g w ms ≡ now →
    IsPlaying (play_of g w ms) →
    list_any (λ (m : Member). is_some (next m.node.dispatcher)) ms ≡ true →
    AllDone now.graph now.cluster → ⊥
left_at g w ms now view playing holds = subst (λ (now : Playing). AllDone now.graph now.cluster → ⊥) view
    (not_done g w ms playing holds)

-- if no member has a next instant, all nodes of the play `now` are done
pub done_at : (g : Graph) (w : World) (ms : List Member) (now : Playing) → play_of g w ms ≡ now →
    IsPlaying (play_of g w ms) →
    list_any (λ (m : Member). is_some (next m.node.dispatcher)) ms ≡ false →
    AllDone now.graph now.cluster
done_at g w ms now view playing fails = subst (λ (now : Playing). AllDone now.graph now.cluster) view
    (all_done g w ms playing fails)

-- the tables of the dispatchers are those of the members; by induction on `ms`
tables_twice : (ms : List Member) →
    map (λ (d : Dispatcher). d.table) (map (λ (m : Member). m.node.dispatcher) ms) ≡ tables_of ms
tables_twice [] = refl
tables_twice (m ∷ ms) = ap (λ (ts : List NodeTable). m.node.dispatcher.table ∷ ts) (tables_twice ms)

-- the nodes of the play `now`, at most 16, have at most 5,261,328 instants left together
pub most_at : (g : Graph) (w : World) (ms : List Member) (now : Playing) → play_of g w ms ≡ now →
    IsPlaying (play_of g w ms) → length ms ≤ 16 →
    remaining now.cluster ≤ 5261328
most_at g w ms now view playing few =
    let played = played_of g (tables_of ms) playing.formed playing.shape playing.valid w playing.world in
    let reached = played_reached played (cluster_of ms) playing.played in
    let nodes = length-map ms (λ (m : Member). m.node.dispatcher) in
    subst (λ (now : Playing). remaining now.cluster ≤ 5261328) view
    (most_remaining g (cluster_of ms) playing.limits (omega (arith, few, nodes))
    (λ i l. ap (λ (d : Dispatcher). d.table.own) (reached.holds i (omega (arith, l, reached.nodes))).is)
    (omega (
      arith,
      playing.lawful.few,
      ap (λ (ts : List NodeTable). sum_by (λ (t : NodeTable). column_count (rows_of t)) ts) (tables_twice ms),
    )))

-- A choice that the next number makes takes the drive one choice further, and changes the state of the nodes alone.
pub drive_step : (old now new : Playing) (x drawn waits drawn' first more : ℕ) →
    now ≡ record old { cluster = now.cluster } →
    IsDriving old.graph old.world x old.cluster now.cluster drawn waits →
    (AllDone now.graph now.cluster → ⊥) →
    drawn' ≡ next_number drawn → first ≡ first_asked (length now.graph.nodes) drawn' → new ≡ record now
    { cluster = (choose now.graph now.world now.cluster (circle (length now.graph.nodes) first)).cluster } →
    more ≡ (choose now.graph now.world now.cluster (circle (length now.graph.nodes) first)).waits →
    (new ≡ record old { cluster = new.cluster }) ×
    IsDriving old.graph old.world x old.cluster new.cluster drawn' (waits + more)
drive_step old now new x drawn waits drawn' first more same driving left is f e m =
    -- the graph, the world and the tables are still those of the beginning
    let ge : now.graph ≡ old.graph = ap (λ (p : Playing). p.graph) same in
    let we : now.world ≡ old.world = ap (λ (p : Playing). p.world) same in
    let te : now.tables ≡ old.tables = ap (λ (p : Playing). p.tables) same in
    -- the nodes are asked from the one that the number says
    let one : choose now.graph now.world now.cluster (circle (length now.graph.nodes) first)
    ≡ choice old.graph old.world now.cluster drawn' =
    ap (λ n. choose now.graph now.world now.cluster (circle (length now.graph.nodes) n)) f
    ∙ (λ i. choice (ge i) (we i) now.cluster drawn') in
    -- only the cluster has changed
    let kept : new ≡ record old { cluster = new.cluster } =
    (λ i. record {
      graph = (ap (λ (p : Playing). p.graph) e ∙ ge) i;
      tables = (ap (λ (p : Playing). p.tables) e ∙ te) i;
      world = (ap (λ (p : Playing). p.world) e ∙ we) i;
      cluster =
          new.cluster;
    }) in (
      kept,
      driving_more old.graph old.world x old.cluster now.cluster new.cluster drawn waits more drawn' driving
          (subst (λ (g : Graph). AllDone g now.cluster → ⊥) ge left) is
          (ap (λ (p : Playing). p.cluster) e ∙ ap (λ (r : Choice). r.cluster) one)
          (m ∙ ap (λ (r : Choice). r.waits) one),
    )
