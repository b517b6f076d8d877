-- The latest times that the code finds, one thing after another: each raises what was found so far.
use Rattle.std.proofs.Common.{ℕ, ◌+◌, suc, ◌<◌, ◌≤◌, ◌≡◌, ◌==◌, max, Bool, true, false, if◌then◌else◌, List, [], ◌∷◌}
use Rattle.std.proofs.Common.{◌++◌, length, take, get_or, Option, Some, None, Contains, arith, eq-eqb, refl}
use Rattle.std.proofs.Common.{sym, ap, ◌∙◌, subst, inl, inr, ◌⊎◌}
use Rattle.std.specs.Option.{IfNone, IfSome}
use Rattle.std.proofs.Math.Seq.{take-suc}
use Rattle.std.proofs.lemmas.Bool.{and_from, and_parts, cases_lt, ne_eqb}
use Rattle.std.proofs.lemmas.List.Elements.{Contains-append_cases}
use Rattle.cpg_base.specs.Bus.{round, slot_length}
use Rattle.cpg_base.specs.Graph.{Graph, process_count, process_of, node_of, source, home, is_message, message_item}
use Rattle.cpg_base.specs.Graph.{broadcast_item}
use Rattle.cpg_base.specs.Scenario.{Scenario, IsScenario}
use Rattle.cpg_base.proofs.Lists.{Contains-cases, Contains-nil}
use Rattle.cpg_rules.specs.Guards.{Guards}
use Rattle.cpg_run.proofs.Sends.{in_next}
use Rattle.cpg_tree_columns.specs.Meeting.{HasWhere, IsMostWhere, IsNowhere}
use Rattle.cpg_tree.specs.Space.{HasAtMostFaults}
use Rattle.cpg_tree.specs.Tree.{TreeState}
use Rattle.cpg_tree.proofs.OnePath.{scenario_few, the_path}
use Rattle.cpg_tree.specs.GraphTrees.{IsTree}
use Rattle.cpg_expand.specs.Forest.{ForestState, times_of, ends_of, heard_tree, heard_delay, input_tree, input_delay}
use Rattle.cpg_expand.specs.Earlier.{IsBetween, IsAskedTree, IsBothTree}
use Rattle.cpg_expand.specs.Latest.{HasEnded, HasEndedOf, HasHeard, HasHeardOf, HasInput, HasInputOf, HasLater}
use Rattle.cpg_expand.specs.Latest.{HasQueued, HasQueuedOf, IsRaised, or_later}
use Rattle.cpg_tree_columns.specs.Tops.{IsTop}
use Rattle.cpg_tree.specs.Later.{time_later}
use Rattle.cpg_expand.specs.Waited.{stands_before}

-- ---- the greatest time of a tree where another one is true

-- the greatest number that the tree t has where u is true is the greatest time of t in a scenario of the graph in which
-- u is true
pub top_where : (g : Graph) → process_count g ≤ 128 → (t : TreeState (Option ℕ)) (u : TreeState Bool) → IsTree g t →
    IsTree g u → (o : Option ℕ) →
    IfNone o (IsNowhere t u) →
    IfSome o (IsMostWhere t u) → IsTop g (HasWhere t u) o
-- scenarios of the graph have at most its faults; a number that is found is reached in one of them
top_where g few t u of of_u None none some =
    λ time s law held. none s time (subst (λ n. HasAtMostFaults n s) (sym of.faults) (scenario_few g s law)) held
top_where g few t u of of_u (Some most) none some =
    let reached = some.reached g (record { few = few; faults = of.faults; known = of.known; known_too = of_u.known }) in
    record {
      above =
          λ time s law held. some.above s time (subst (λ n. HasAtMostFaults n s) (sym of.faults) (scenario_few g s law))
          held;
      scenario = reached.scenario;
      lawful = reached.lawful;
      there = reached.has;
    }

-- ---- one thing after another

-- `A n s` and `B n s` say that scenario s has the number n, by one cause and by another
module _ (g : Graph) (A B : ℕ → Scenario → Type 0) where
  -- if scenarios ask for a time by A just where they do by B, A and B raise a time alike
  pub raised_as : ((n : ℕ) (s : Scenario) → IsScenario g s → B n s → A n s) →
      ((n : ℕ) (s : Scenario) → IsScenario g s → A n s → B n s) → (old new : ℕ) → IsRaised g A old new →
      IsRaised g B old new
  raised_as back forth old new raised = record {
    from = raised.from;
    above = λ n s law asks. raised.above n s law (back n s law asks);
    found = elim raised.found [
      | inl is_old ↦ inl is_old
      | inr found_in ↦ inr (found_in.0, found_in.1, forth new found_in.0 found_in.1 found_in.2)
    ];
  }

  -- if no scenario asks for a time by A, A raises nothing
  pub raised_by_none : ((n : ℕ) (s : Scenario) → A n s → ⊥) → (old : ℕ) → IsRaised g A old old
  raised_by_none none old = record {
    from = omega arith;
    above = λ n s law asks. absurd (none n s asks);
    found = inl refl;
  }

  -- if scenarios ask by C just where they ask by A or by B, C raises a time as A does and then B: from `floor` over
  -- `mid` to `last`
  pub raised_on : (C : ℕ → Scenario → Type 0) → ((n : ℕ) (s : Scenario) → C n s → A n s ⊎ B n s) →
      ((n : ℕ) (s : Scenario) → A n s → C n s) →
      ((n : ℕ) (s : Scenario) → B n s → C n s) →
      (floor mid last : ℕ) → IsRaised g A floor mid → IsRaised g B mid last → IsRaised g C floor last
  raised_on C split left right floor mid last before one = record {
    from = omega (arith, before.from, one.from);
    above = λ n s law asks. by n s law (split n s asks);
    found = elim one.found [
      | inr found_in ↦ inr (found_in.0, found_in.1, right last found_in.0 found_in.2)
      | inl same ↦ elim before.found [
        | inl is_old ↦ inl (same ∙ is_old)
        | inr found_in ↦ inr (
          found_in.0,
          found_in.1,
          subst (λ n. C n found_in.0) (sym same) (left mid found_in.0 found_in.2),
        )
      ]
    ];
  }
    where
      -- a number by either cause is no later than `last`
      by : (n : ℕ) (s : Scenario) → IsScenario g s → A n s ⊎ B n s → n ≤ last
      by n s law (inl asks) = omega (arith, before.above n s law asks, one.from)
      by n s law (inr asks) = one.above n s law asks

-- ---- what is there a delay after the time of a tree

-- `latest` is raised to the greatest time that `tree` has where `wanted` is true, with the delay
pub later_raised : (g : Graph) (tree : TreeState (Option ℕ)) (wanted : TreeState Bool) (latest delay : ℕ)
    (o : Option ℕ) →
    IsTop g (HasWhere tree wanted) o →
    IsRaised g (HasLater tree wanted delay) latest (or_later latest delay o)
-- a delay keeps the order between times, so the greatest time with it is the greatest of the delayed ones
later_raised g tree wanted latest delay None none =
    record { from = omega arith; above = λ n s law later. absurd (none later.time s law later.has); found = inl refl }
later_raised g tree wanted latest delay (Some time) top = record {
  from = omega arith;
  above = λ n s law later. no_later n (time_later delay (Some later.time)) (time_later delay (Some time)) latest
      later.is
      (delayed later.time time delay (top.above later.time s law later.has));
  found = by (later_or latest (time_later delay (Some time)));
}
  where
    -- a number no later than another is no later than any maximum with that
    no_later : (n a b latest : ℕ) → n ≡ a → a ≤ b → n ≤ max latest b
    no_later n a b latest same no_more = omega (arith, same, no_more)

    -- a delay keeps the order of times
    delayed : (a b d : ℕ) → a ≤ b → time_later d (Some a) ≤ time_later d (Some b)
    delayed a b d no_more = omega (arith, no_more)

    -- a maximum is one of the two
    later_or : (a b : ℕ) → (max a b ≡ a) ⊎ (max a b ≡ b)
    later_or a b = elim (cases_lt a b) [
      | inl less ↦ inr (let is_b : max a b ≡ b = omega (arith, less) in is_b)
      | inr not_less ↦ inl (let is_a : max a b ≡ a = omega (arith, not_less) in is_a)
    ]

    -- the new latest time is the old one, or that of the scenario in which the tree has its greatest time
    by : (max latest (time_later delay (Some time)) ≡ latest) ⊎
        (max latest (time_later delay (Some time)) ≡ time_later delay (Some time)) →
        (max latest (time_later delay (Some time)) ≡ latest) ⊎
        ((s : Scenario) × IsScenario g s × HasLater tree wanted delay (max latest (time_later delay (Some time))) s)
    by (inl e) = inl e
    by (inr same) = inr (top.scenario, top.lawful, record { time = time; has = top.there; is = same })

-- ---- conditions

-- given: a node, a condition c, the tree of where it counts (`wanted`), and the latest times `old` and `new`
module _ (g : Graph) (f : ForestState) (node c : ℕ) (wanted : TreeState Bool) (old new : ℕ) where
  -- by whether the condition's process is on the node: its ends without delay, or the frame's times and its length
  heard_if : (d : Bool) → (node_of g (process_of g c) == node) ≡ d →
      IsRaised g (HasLater (if d then ends_of g f (process_of g c) else times_of g f (broadcast_item g c)) wanted
      (if d then 0 else slot_length g (home g (broadcast_item g c)))) old new →
      IsRaised g (HasLater (heard_tree g f node c) wanted (heard_delay g node c)) old new
  heard_if d is_d is = subst (λ (b : Bool). IsRaised g
      (HasLater (if b then ends_of g f (process_of g c) else times_of g f (broadcast_item g c)) wanted
      (if b then 0 else slot_length g (home g (broadcast_item g c)))) old new) (sym is_d) is

  -- if c's process is on the node, and its end raises `old` to `new`, hearing c does
  pub heard_by_end : node_of g (process_of g c) ≡ node →
      IsRaised g (HasLater (ends_of g f (process_of g c)) wanted 0) old new →
      IsRaised g (HasLater (heard_tree g f node c) wanted (heard_delay g node c)) old new
  heard_by_end same_node is = heard_if true (eq-eqb (node_of g (process_of g c)) node same_node) is

  -- if c's process is on another node, and the end of c's frame raises `old` to `new`, hearing c does
  pub heard_by_frame : (node_of g (process_of g c) ≡ node → ⊥) →
      IsRaised g
      (HasLater (times_of g f (broadcast_item g c)) wanted (slot_length g (home g (broadcast_item g c)))) old new →
      IsRaised g (HasLater (heard_tree g f node c) wanted (heard_delay g node c)) old new
  heard_by_frame other_node is = heard_if false (ne_eqb (node_of g (process_of g c)) node other_node) is

-- ---- what the processes of a node test

-- given: a tree of where a process is active, and the processes of a node between two places
-- `active`, `of_active`: the tree of where the process is active; `node`, `from`, `to`: the span of processes before
-- it
module _ (g : Graph) (order : List ℕ) (guards : Guards) (f : ForestState) (active : TreeState Bool)
    (of_active : IsTree g active) (node from to : ℕ) where
  -- If hearing condition c raises `old` to `new` where `wanted` is true, it does so where the process is active and a
  -- process of the span tests c: `asked` says where that one tests c, and `wanted` where the process is active, too.
  pub heard_raised : (c : ℕ) (asked wanted : TreeState Bool) → IsTree g asked → IsTree g wanted →
      IsAskedTree g order guards node from to c (process_count g) asked →
      IsBothTree g.faults asked active wanted →
      (old new : ℕ) → IsRaised g (HasLater (heard_tree g f node c) wanted (heard_delay g node c)) old new →
      IsRaised g (HasHeard g order guards f active node from to c) old new
  heard_raised c asked wanted of_asked of_wanted asks both old new raised =
      raised_as g (HasLater (heard_tree g f node c) wanted (heard_delay g node c))
      (HasHeard g order guards f active node from to c) back forth old new raised
    where
      -- where the process is active and a process of the span tests c, `wanted` is true, and c is heard a delay after
      -- the time of its tree
      back : (n : ℕ) (s : Scenario) → IsScenario g s → HasHeard g order guards f active node from to c n s →
          HasLater (heard_tree g f node c) wanted (heard_delay g node c) n s
      back n s law heard =
          let few = scenario_few g s law in
          let asked_path = the_path g.faults asked.paths of_asked.each s few in
          let wanted_path = the_path g.faults wanted.paths of_wanted.each s few in
          -- where the process is active and the test is asked, the wanted tree is true
          record {
            time = heard.time;
            has = record {
              has = heard.has;
              there = (
                wanted_path.0,
                wanted_path.1,
                both s few asked_path.0 heard.acts.0 wanted_path.0 asked_path.1 heard.acts.1 wanted_path.1
                    ∙ and_from asked_path.0.1 heard.acts.0.1 ((asks s few asked_path.0 asked_path.1).1 heard.asked)
                    heard.acts.2,
              );
            };
            is = heard.is;
          }

      -- the other way: where `wanted` is true, the process is active and a process of the span tests c
      forth : (n : ℕ) (s : Scenario) → IsScenario g s →
          HasLater (heard_tree g f node c) wanted (heard_delay g node c) n s →
          HasHeard g order guards f active node from to c n s
      -- `wanted` is true only where `asked` and `active` both are
      forth n s law later =
          let few = scenario_few g s law in
          let asked_path = the_path g.faults asked.paths of_asked.each s few in
          let active_path = the_path g.faults active.paths of_active.each s few in
          let parts =
          and_parts asked_path.0.1 active_path.0.1
          (sym (both s few asked_path.0 active_path.0 later.has.there.0 asked_path.1 active_path.1
          later.has.there.1) ∙ later.has.there.2) in
          record {
            asked = (asks s few asked_path.0 asked_path.1).0 parts.0;
            acts = (active_path.0, active_path.1, parts.1);
            time = later.time;
            has = later.has.has;
            is = later.is;
          }

  -- if condition c is heard no later than `latest` wherever the process is active, hearing it raises nothing
  pub heard_no_later : (c latest : ℕ) →
      IsRaised g (HasLater (heard_tree g f node c) active (heard_delay g node c)) latest latest →
      IsRaised g (HasHeard g order guards f active node from to c) latest latest
  heard_no_later c latest raised = record {
    from = omega arith;
    above = λ n s law heard.
        raised.above n s law (record {
          time = heard.time;
          has = record { has = heard.has; there = heard.acts };
          is = heard.is;
        });
    found = inl refl;
  }

  -- before any condition is gone over, nothing is raised
  pub none_heard : (floor : ℕ) → IsRaised g (HasHeardOf g order guards f active node from to 0) floor floor
  none_heard floor = raised_by_none g (HasHeardOf g order guards f active node from to 0)
      (HasHeardOf g order guards f active node from to 0) (λ n s heard. below n s heard) floor
    where
      -- no condition is below 0
      below : (n : ℕ) (s : Scenario) → HasHeardOf g order guards f active node from to 0 n s → ⊥
      below n s heard = omega (arith, heard.below)

  -- if the conditions below c raise `floor` to `mid`, and c raises that to `last`, those below c + 1 raise `floor` to
  -- `last`
  pub next_heard : (c floor mid last : ℕ) → IsRaised g (HasHeardOf g order guards f active node from to c) floor mid →
      IsRaised g (HasHeard g order guards f active node from to c) mid last →
      IsRaised g (HasHeardOf g order guards f active node from to (c + 1)) floor last
  next_heard c floor mid last =
      raised_on g (HasHeardOf g order guards f active node from to c) (HasHeard g order guards f active node from to c)
      (HasHeardOf g order guards f active node from to (c + 1)) split
      (λ n s heard. record { condition = heard.condition; below = omega (arith, heard.below); there = heard.there })
      (λ n s heard. record { condition = c; below = omega arith; there = heard }) floor mid last
    where
      -- a condition below c + 1 is below c, or is c
      split : (n : ℕ) (s : Scenario) → HasHeardOf g order guards f active node from to (c + 1) n s →
          HasHeardOf g order guards f active node from to c n s ⊎
          HasHeard g order guards f active node from to c n s
      split n s heard = elim (cases_lt heard.condition c) [
        | inl less ↦ inl (record { condition = heard.condition; below = less; there = heard.there })
        | inr more ↦ inr (subst (λ d. HasHeard g order guards f active node from to d n s)
            (let is_c : heard.condition ≡ c =
            omega (arith, heard.below, more) in is_c) heard.there)
      ]

-- ---- the ends of the processes of a node

-- given: a tree of where a process is active, and the span of processes before it
module _ (g : Graph) (order : List ℕ) (f : ForestState) (active : TreeState Bool) (node from to : ℕ) where
  -- a process q that is not between the two places raises nothing
  pub not_ended : (q latest : ℕ) → (IsBetween g order node from to q → ⊥) →
      IsRaised g (HasEnded g order f active node from to q) latest latest
  not_ended q latest off = raised_by_none g (HasEnded g order f active node from to q)
      (HasEnded g order f active node from to q) (λ n s ended. off ended.between) latest

  -- a process q between the places raises `old` to `new` by its end
  pub one_ended : (q old new : ℕ) → IsBetween g order node from to q →
      IsRaised g (HasLater (ends_of g f q) active 0) old new →
      IsRaised g (HasEnded g order f active node from to q) old new
  one_ended q old new on = raised_as g (HasLater (ends_of g f q) active 0) (HasEnded g order f active node from to q)
      (λ n s law ended. ended.there) (λ n s law ended. record { between = on; there = ended }) old new

  -- before any process is gone over, nothing is raised
  pub none_ended : (floor : ℕ) → IsRaised g (HasEndedOf g order f active node from to 0) floor floor
  none_ended floor = raised_by_none g (HasEndedOf g order f active node from to 0)
      (HasEndedOf g order f active node from to 0) (λ n s ended. below n s ended) floor
    where
      -- no process is below 0
      below : (n : ℕ) (s : Scenario) → HasEndedOf g order f active node from to 0 n s → ⊥
      below n s ended = omega (arith, ended.below)

  -- if the processes below q raise `floor` to `mid`, and q raises that to `last`, those below q + 1 raise `floor` to
  -- `last`
  pub next_ended : (q floor mid last : ℕ) → IsRaised g (HasEndedOf g order f active node from to q) floor mid →
      IsRaised g (HasEnded g order f active node from to q) mid last →
      IsRaised g (HasEndedOf g order f active node from to (q + 1)) floor last
  next_ended q floor mid last = raised_on g (HasEndedOf g order f active node from to q)
      (HasEnded g order f active node from to q) (HasEndedOf g order f active node from to (q + 1)) split
      (λ n s ended. record { process = ended.process; below = omega (arith, ended.below); there = ended.there })
      (λ n s ended. record { process = q; below = omega arith; there = ended }) floor mid last
    where
      -- a process below q + 1 is below q, or is q
      split : (n : ℕ) (s : Scenario) → HasEndedOf g order f active node from to (q + 1) n s →
          HasEndedOf g order f active node from to q n s ⊎ HasEnded g order f active node from to q n s
      split n s ended = elim (cases_lt ended.process q) [
        | inl less ↦ inl (record { process = ended.process; below = less; there = ended.there })
        | inr more ↦ inr (subst (λ d. HasEnded g order f active node from to d n s) (let is_q : ended.process ≡ q =
            omega (arith, ended.below, more) in is_q) ended.there)
      ]

-- ---- what stands before an item in the queue of its node

-- given: an item that is sent, and the tree of where it goes
module _ (g : Graph) (order : List ℕ) (f : ForestState) (goes : TreeState Bool) (x : ℕ) where
  -- an item y that doesn't stand before x raises nothing
  pub not_queued : (y latest : ℕ) → stands_before g order y x ≡ false →
      IsRaised g (HasQueued g order f goes x y) latest latest
  not_queued y latest off = raised_by_none g (HasQueued g order f goes x y) (HasQueued g order f goes x y)
      (λ n s queued. apart (sym queued.before ∙ off)) latest
    where
      -- true isn't false
      apart : true ≡ false → ⊥
      apart equal = cc

  -- an item y that stands before x raises `old` to `new` by a round after its own time
  pub one_queued : (y old new : ℕ) → stands_before g order y x ≡ true →
      IsRaised g (HasLater (times_of g f y) goes (round g)) old new →
      IsRaised g (HasQueued g order f goes x y) old new
  one_queued y old new on = raised_as g (HasLater (times_of g f y) goes (round g)) (HasQueued g order f goes x y)
      (λ n s law queued. queued.there) (λ n s law queued. record { before = on; there = queued }) old new

  -- before any item is gone over, nothing is raised
  pub none_queued : (floor : ℕ) → IsRaised g (HasQueuedOf g order f goes x 0) floor floor
  none_queued floor =
      raised_by_none g (HasQueuedOf g order f goes x 0) (HasQueuedOf g order f goes x 0)
      (λ n s queued. below n s queued) floor
    where
      -- no item is below 0
      below : (n : ℕ) (s : Scenario) → HasQueuedOf g order f goes x 0 n s → ⊥
      below n s queued = omega (arith, queued.below)

  -- if the items below y raise `floor` to `mid`, and y raises that to `last`, those below y + 1 raise `floor` to `last`
  pub next_queued : (y floor mid last : ℕ) → IsRaised g (HasQueuedOf g order f goes x y) floor mid →
      IsRaised g (HasQueued g order f goes x y) mid last →
      IsRaised g (HasQueuedOf g order f goes x (y + 1)) floor last
  next_queued y floor mid last = raised_on g (HasQueuedOf g order f goes x y) (HasQueued g order f goes x y)
      (HasQueuedOf g order f goes x (y + 1)) split
      (λ n s queued. record { item = queued.item; below = omega (arith, queued.below); there = queued.there })
      (λ n s queued. record { item = y; below = omega arith; there = queued }) floor mid last
    where
      -- an item below y + 1 is below y, or is y
      split : (n : ℕ) (s : Scenario) → HasQueuedOf g order f goes x (y + 1) n s →
          HasQueuedOf g order f goes x y n s ⊎ HasQueued g order f goes x y n s
      split n s queued = elim (cases_lt queued.item y) [
        | inl less ↦ inl (record { item = queued.item; below = less; there = queued.there })
        | inr more ↦ inr (subst (λ d. HasQueued g order f goes x d n s) (let is_y : queued.item ≡ y =
            omega (arith, queued.below, more) in is_y) queued.there)
      ]

-- ---- inputs

-- given: a tree of where a process is active
module _ (g : Graph) (f : ForestState) (active : TreeState Bool) where
  -- an input e of the node itself raises nothing
  pub not_raised : (e latest : ℕ) → is_message g e ≡ false → IsRaised g (HasInput g f active e) latest latest
  not_raised e latest off =
      raised_by_none g (HasInput g f active e) (HasInput g f active e)
      (λ n s by_input. apart (sym by_input.message ∙ off)) latest
    where
      -- true isn't false
      apart : true ≡ false → ⊥
      apart equal = cc

  -- an input e from another node raises `latest` to `last` by the end of its frame
  pub input_raised : (e latest last : ℕ) → is_message g e ≡ true →
      IsRaised g
      (HasLater (times_of g f (message_item g e)) active (slot_length g (home g (message_item g e)))) latest last →
      IsRaised g (HasInput g f active e) latest last
  input_raised e latest last on is = by_tree on
      (subst (λ (b : Bool). IsRaised g (HasLater (if b then times_of g f (message_item g e)
      else ends_of g f (source g e)) active (if b then slot_length g (home g (message_item g e)) else 0)) latest
      last) (sym on) is)
    where
      -- the input raises the time by its tree, since it is a message
      by_tree : is_message g e ≡ true → IsRaised g (HasLater (input_tree g f e) active (input_delay g e)) latest last →
          IsRaised g (HasInput g f active e) latest last
      by_tree sent = raised_as g (HasLater (input_tree g f e) active (input_delay g e)) (HasInput g f active e)
          (λ n s law by_input. record { time = by_input.time; has = by_input.has; is = by_input.is })
          (λ n s law by_input. record { message = sent; time = by_input.time; has = by_input.has; is = by_input.is })
          latest last

  -- ---- one input after another

  -- before any input is gone over, nothing is raised
  pub none_raised : (floor : ℕ) (edges : List ℕ) → IsRaised g (HasInputOf g f active (take 0 edges)) floor floor
  none_raised floor edges = record {
    from = omega arith;
    above = λ n s law by_input. absurd (Contains-nil by_input.edge by_input.of);
    found = inl refl;
  }

  -- if the first k inputs raise `floor` to `mid`, and e, the next one, raises that to `last`, the first k + 1 raise
  -- `floor` to `last`
  pub next_raised : (edges : List ℕ) (k e : ℕ) → k < length edges → e ≡ get_or edges k 0 → (floor mid last : ℕ) →
      IsRaised g (HasInputOf g f active (take k edges)) floor mid →
      IsRaised g (HasInput g f active e) mid last →
      IsRaised g (HasInputOf g f active (take (k + 1) edges)) floor last
  -- a time of one of the first k + 1 inputs is one of the first k, or that of e; the latest time is found where the
  -- last raise that changed it found it
  next_raised edges k e inside at floor mid last before one = record {
    from = omega (arith, before.from, one.from);
    above = λ n s law by_input. by n s law by_input.edge by_input.there (last_of by_input.edge by_input.of);
    found = elim one.found [
      | inr found_in ↦ inr (
        found_in.0,
        found_in.1,
        record { edge = e; of = in_next edges k e inside (inr at); there = found_in.2 },
      )
      | inl same ↦ elim before.found [
        | inl as_before ↦ inl (same ∙ as_before)
        | inr found_in ↦ inr (
          found_in.0,
          found_in.1,
          subst (λ n. HasInputOf g f active (take (k + 1) edges) n found_in.0) (sym same)
              (record {
                edge = found_in.2.edge;
                of = in_next edges k found_in.2.edge inside (inl found_in.2.of);
                there = found_in.2.there;
              }),
        )
      ]
    ];
  }
    where
      -- an input among the first k + 1 is among the first k, or is e
      last_of : (d : ℕ) → Contains (take (k + 1) edges) d → Contains (take k edges) d ⊎ (d ≡ e)
      -- the first k + 1 are the first k and the one at place k
      last_of d among =
          let one_longer : take (k + 1) edges ≡ take k edges ++ get_or edges k 0 ∷ [] =
          ap (λ n. take n edges) (let equal : k + 1 ≡ suc k = omega arith in equal) ∙ take-suc edges k 0 inside in
          elim (Contains-append_cases (take k edges) (get_or edges k 0 ∷ []) d
          (subst (λ ds. Contains ds d) one_longer among)) [
            | inl in_first ↦ inl in_first
            | inr in_last ↦ elim (Contains-cases (get_or edges k 0) [] d in_last) [
              | inl same ↦ inr (sym same ∙ sym at)
              | inr in_none ↦ absurd (Contains-nil d in_none)
            ]
          ]

      -- no input so far is there later than `last`: the earlier ones by `mid`, e by itself
      by : (n : ℕ) (s : Scenario) → IsScenario g s → (d : ℕ) → HasInput g f active d n s →
          Contains (take k edges) d ⊎ (d ≡ e) → n ≤ last
      by n s law d by_input (inl in_before) =
          omega (arith, before.above n s law (record { edge = d; of = in_before; there = by_input }), one.from)
      by n s law d by_input (inr same) = one.above n s law (subst (λ x. HasInput g f active x n s) same by_input)
