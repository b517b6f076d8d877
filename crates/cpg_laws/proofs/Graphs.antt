-- What a refusal of a graph says: a graph that is refused for anything but a cycle has none, and the cause that is told
-- is the first.
use Rattle.std.proofs.Common.{◌≡◌, ◌≢◌, ℕ, ◌<◌, ◌≤◌, Bool, true, false, List, Ok, Err, length, filter, refl, sym, ap}
use Rattle.std.proofs.Common.{◌∙◌, subst, arith, inl, inr, ltb-true, true≢false}
use Rattle.std.proofs.lemmas.Bool.{cases_lt, both_ways}
use Rattle.std.specs.Prelude.{Result}
use Rattle.cpg_base.specs.Graph.{Graph, inputs}
use Rattle.cpg_base.specs.Activity.{live}
use Rattle.cpg_base.specs.WellFormed.{HasSingleJoins, HasSenderSlots}
use Rattle.cpg_order.specs.Cycle.{IsCycle, HasCycle}
use Rattle.cpg_base.specs.Scenario.{Scenario, IsLeast}
use Rattle.cpg_order.specs.Track.{track_count, most_tracks}
use Rattle.cpg_order.proofs.Cycles.{no_cycle}
use Rattle.cpg_base.proofs.ScenarioOrder.{one_least}
use Rattle.cpg_order.proofs.Urgent.{one_urgency_order}
use Rattle.cpg_rules.specs.Alternatives.{AreAlternatives, IsSingleJoin, has_two_live}
use Rattle.cpg_rules.specs.Admission.{Admission}
use Rattle.cpg_rules.specs.Faults.{IsOrdered, ShowsFault}
use Rattle.cpg_rules.specs.Rules.{is_too_big, lacks_slot, AllFit}
use Rattle.cpg_rules.proofs.Exact.{no_lack}
use Rattle.cpg_rules.proofs.GivenOrders.{one_bad}
use Rattle.cpg_rules.specs.declared.admission.RuleFault.{RuleFault}
use Rattle.cpg_rules.specs.declared.admission.RuleFault.TheVariants.{Cycle, TooManyTracks, TwoAlternatives, NoSlot}
use Rattle.cpg_rules.specs.declared.admission.RuleFault.TheVariants.{TooBig, BadOrder, OutOfMemory}
use Rattle.cpg_laws.specs.Graphs.{RefusesCycles, CyclesAreRefusedFirst, HasTwoInputs, rank_of_fault, IsFirstCause}
use Rattle.cpg_laws.specs.Graphs.{GraphsShowFirstCauses}

-- an answer that names no cycle is right about cycles if the graph has none
none : (g : Graph) (answer : Result Admission RuleFault) → ((walk : List ℕ) → answer ≢ Err (Cycle walk)) →
    (HasCycle g → ⊥) →
    RefusesCycles g answer
none g answer other acyclic = record {
  exact = (λ named. absurd (other named.0 named.1), λ has_cycle. absurd (acyclic has_cycle));
  shown = λ walk e. absurd (other walk e);
}

-- a graph with a topological order has no cycle
acyclic : (g : Graph) (order : List ℕ) → IsOrdered g order → HasCycle g → ⊥
acyclic g order is = no_cycle g order is.topological

-- A graph is rejected for a cycle exactly if it has one.
-- By the answer: any but a cycle comes with a topological order, which leaves no cycle.
pub cycles_are_refused_first : CyclesAreRefusedFirst
cycles_are_refused_first g (Ok a) may kept =
    none g (Ok a) (λ walk e. cc) (subst (λ g. HasCycle g → ⊥) may.0 (no_cycle a.graph a.order may.1.topological))
cycles_are_refused_first g (Err (Cycle walk)) may kept = record {
  exact = (λ named. (walk, may), λ has_cycle. (walk, refl));
  shown = λ other e. subst (IsCycle g) (let same : walk ≡ other = cc in same) may;
}
cycles_are_refused_first g (Err TooManyTracks) may kept =
    none g (Err TooManyTracks) (λ walk e. cc) (acyclic g may.0 may.1)
cycles_are_refused_first g (Err (TwoAlternatives p least)) may kept =
    none g (Err (TwoAlternatives p least)) (λ walk e. cc) (acyclic g may.0 may.1.ordered)
cycles_are_refused_first g (Err (NoSlot node)) may kept =
    none g (Err (NoSlot node)) (λ walk e. cc) (acyclic g may.0 may.1.tracks.ordered)
cycles_are_refused_first g (Err (TooBig e)) may kept =
    none g (Err (TooBig e)) (λ walk e. cc) (acyclic g may.0 may.1.inputs.tracks.ordered)
cycles_are_refused_first g (Err (BadOrder p)) may kept =
    none g (Err (BadOrder p)) (λ walk e. cc) (acyclic g may.0 may.1.slots.inputs.tracks.ordered)
cycles_are_refused_first g (Err OutOfMemory) may kept = absurd (kept refl)

-- A refusal tells the first cause.

-- A fault that the checks show is the first cause: the checks before it have passed.
-- Fault by fault, from the records that the checks before it gave.
first : (g : Graph) (fault : RuleFault) → ShowsFault g fault → IsFirstCause g fault
first g (Cycle walk) shown = shown
first g TooManyTracks shown = (acyclic g shown.0 shown.1, shown.2)
first g (TwoAlternatives p least) shown = (
  acyclic g shown.0 shown.1.ordered,
  shown.1.few,
  record {
    order = shown.0;
    urgency = shown.1.ordered.urgency;
    two = shown.2;
  },
)
first g (NoSlot node) shown = (acyclic g shown.0 shown.1.tracks.ordered, shown.1.tracks.few, shown.1.joins, shown.2)
first g (TooBig e) shown = (
  acyclic g shown.0 shown.1.inputs.tracks.ordered,
  shown.1.inputs.tracks.few,
  shown.1.inputs.joins,
  shown.1.slots,
  shown.2,
)
first g (BadOrder p) shown = (
  acyclic g shown.0 shown.1.slots.inputs.tracks.ordered,
  shown.1.slots.inputs.tracks.few,
  shown.1.slots.inputs.joins,
  shown.1.slots.slots,
  shown.1.sizes,
  shown.2,
)
first g OutOfMemory shown = tt

-- What a later cause says of the earlier ones.

-- given a graph
module _ (g : Graph) where
  -- a graph that is refused for a later cause than a cycle has none
  no_cycle_then : (fault : RuleFault) → 0 < rank_of_fault fault → rank_of_fault fault < 6 →
      IsFirstCause g fault → HasCycle g → ⊥
  no_cycle_then (Cycle walk) later not_memory cause = absurd (omega (arith, later))
  no_cycle_then TooManyTracks later not_memory cause = cause.0
  no_cycle_then (TwoAlternatives p least) later not_memory cause = cause.0
  no_cycle_then (NoSlot node) later not_memory cause = cause.0
  no_cycle_then (TooBig e) later not_memory cause = cause.0
  no_cycle_then (BadOrder p) later not_memory cause = cause.0
  no_cycle_then OutOfMemory later not_memory cause = absurd (omega (arith, not_memory))

  -- A graph that is refused for a later cause than its tracks has few enough of them.
  -- The causes of lower ranks are left out by their ranks, and a later one says so itself.
  few_then : (fault : RuleFault) → 1 < rank_of_fault fault → rank_of_fault fault < 6 → IsFirstCause g fault →
      track_count g ≤ most_tracks
  few_then (Cycle walk) later not_memory cause = absurd (omega (arith, later))
  few_then TooManyTracks later not_memory cause = absurd (omega (arith, later))
  few_then (TwoAlternatives p least) later not_memory cause = cause.1
  few_then (NoSlot node) later not_memory cause = cause.1
  few_then (TooBig e) later not_memory cause = cause.1
  few_then (BadOrder p) later not_memory cause = cause.1
  few_then OutOfMemory later not_memory cause = absurd (omega (arith, not_memory))

  -- one that is refused for a later cause than its joins has only single ones
  joins_then : (fault : RuleFault) → 2 < rank_of_fault fault → rank_of_fault fault < 6 → IsFirstCause g fault →
      HasSingleJoins g
  joins_then (Cycle walk) later not_memory cause = absurd (omega (arith, later))
  joins_then TooManyTracks later not_memory cause = absurd (omega (arith, later))
  joins_then (TwoAlternatives p least) later not_memory cause = absurd (omega (arith, later))
  joins_then (NoSlot node) later not_memory cause = cause.2
  joins_then (TooBig e) later not_memory cause = cause.2
  joins_then (BadOrder p) later not_memory cause = cause.2
  joins_then OutOfMemory later not_memory cause = absurd (omega (arith, not_memory))

  -- one that is refused for a later cause than its slots has those of all senders
  slots_then : (fault : RuleFault) → 3 < rank_of_fault fault → rank_of_fault fault < 6 → IsFirstCause g fault →
      HasSenderSlots g
  slots_then (Cycle walk) later not_memory cause = absurd (omega (arith, later))
  slots_then TooManyTracks later not_memory cause = absurd (omega (arith, later))
  slots_then (TwoAlternatives p least) later not_memory cause = absurd (omega (arith, later))
  slots_then (NoSlot node) later not_memory cause = absurd (omega (arith, later))
  slots_then (TooBig e) later not_memory cause = cause.3
  slots_then (BadOrder p) later not_memory cause = cause.3
  slots_then OutOfMemory later not_memory cause = absurd (omega (arith, not_memory))

  -- one that is refused for a later cause than its sizes has all frames fit
  sizes_then : (fault : RuleFault) → 4 < rank_of_fault fault → rank_of_fault fault < 6 → IsFirstCause g fault → AllFit g
  sizes_then (Cycle walk) later not_memory cause = absurd (omega (arith, later))
  sizes_then TooManyTracks later not_memory cause = absurd (omega (arith, later))
  sizes_then (TwoAlternatives p least) later not_memory cause = absurd (omega (arith, later))
  sizes_then (NoSlot node) later not_memory cause = absurd (omega (arith, later))
  sizes_then (TooBig e) later not_memory cause = absurd (omega (arith, later))
  sizes_then (BadOrder p) later not_memory cause = cause.4
  sizes_then OutOfMemory later not_memory cause = absurd (omega (arith, not_memory))

  -- Of two causes the later one isn't the first.
  -- What the earlier cause says is broken is what the later one says is kept.
  apart : (fault other : RuleFault) → rank_of_fault fault < rank_of_fault other → rank_of_fault other < 6 →
      IsFirstCause g fault → IsFirstCause g other → ⊥
  apart (Cycle walk) other earlier not_memory cause other_cause =
      no_cycle_then other earlier not_memory other_cause (walk, cause)
  apart TooManyTracks other earlier not_memory cause other_cause =
      let few = few_then other earlier not_memory other_cause in let many = cause.1 in omega (arith, few, many)
  apart (TwoAlternatives p least) other earlier not_memory cause other_cause =
      let two = cause.2.two in
      let one = joins_then other earlier not_memory other_cause p least.values two.within two.join
      two.least.lawful.values in
      let more = ltb-true 1 (length (filter (live g least.values) (inputs g p))) two.least.holds in
      omega (arith, one, more)
  apart (NoSlot node) other earlier not_memory cause other_cause =
      no_lack g (slots_then other earlier not_memory other_cause) node cause.3.lacks
  apart (TooBig e) other earlier not_memory cause other_cause =
      both_ways (is_too_big g e) (sizes_then other earlier not_memory other_cause e cause.4.within) cause.4.above
  apart (BadOrder p) other earlier not_memory cause other_cause = omega (arith, earlier, not_memory)
  apart OutOfMemory other earlier not_memory cause other_cause = omega (arith, earlier, not_memory)

  -- each cause but lack of memory has a rank below 6
  below : (fault : RuleFault) → fault ≢ OutOfMemory → rank_of_fault fault < 6
  below (Cycle walk) kept = omega arith
  below TooManyTracks kept = omega arith
  below (TwoAlternatives p least) kept = omega arith
  below (NoSlot node) kept = omega arith
  below (TooBig e) kept = omega arith
  below (BadOrder p) kept = omega arith
  below OutOfMemory kept = absurd (kept refl)

  -- Two first causes have one rank.
  -- Were one rank lower, the other cause wouldn't be the first (`apart`).
  one : (fault other : RuleFault) → fault ≢ OutOfMemory → other ≢ OutOfMemory → IsFirstCause g fault →
      IsFirstCause g other →
      rank_of_fault fault ≡ rank_of_fault other
  one fault other kept kept' cause other_cause = elim (cases_lt (rank_of_fault fault) (rank_of_fault other)) [
    | inl earlier ↦ absurd (apart fault other earlier (below other kept') cause other_cause)
    | inr not_earlier ↦ elim (cases_lt (rank_of_fault other) (rank_of_fault fault)) [
      | inl later ↦ absurd (apart other fault later (below fault kept) other_cause cause)
      | inr not_later ↦ omega (arith, not_earlier, not_later)
    ]
  ]

-- Two first causes of one kind are the same.

-- There is one first number that passes test `holds`, so `m` and `n` are equal. Of two different ones the lesser would
-- be one before the other.
one_first : (holds : ℕ → Bool) (m n : ℕ) → holds m ≡ true → ((k : ℕ) → k < m → holds k ≡ false) → holds n ≡ true →
    ((k : ℕ) → k < n → holds k ≡ false) → m ≡ n
one_first holds m n m_passes before n_passes earlier = elim (cases_lt m n) [
  | inl less ↦ absurd (true≢false (sym m_passes ∙ earlier m less))
  | inr not_less ↦ elim (cases_lt n m) [
    | inl greater ↦ absurd (true≢false (sym n_passes ∙ before n greater))
    | inr not_greater ↦ omega (arith, not_less, not_greater)
  ]
]

-- given a graph
module _ (g : Graph) where
  -- a join `p` with two live inputs, in scenario `s`, isn't single
  not_single : (order : List ℕ) (p : ℕ) (s : Scenario) → AreAlternatives g order p s → IsSingleJoin g p → ⊥
  not_single order p s two single = true≢false (sym two.least.holds ∙ single s.values two.join two.least.lawful.values)

  -- There is one first join with two live inputs, along whatever orders `o` and `r`, so `p` and `q` are equal. Of two
  -- different ones the lesser would be one before the other.
  one_join : (o r : List ℕ) (p q : ℕ) (s t : Scenario) → AreAlternatives g o p s → AreAlternatives g r q t → p ≡ q
  one_join o r p q s t p_is q_is = elim (cases_lt p q) [
    | inl less ↦ absurd (not_single o p s p_is (q_is.before p less))
    | inr not_less ↦ elim (cases_lt q p) [
      | inl greater ↦ absurd (not_single r q t q_is (p_is.before q greater))
      | inr not_greater ↦ omega (arith, not_less, not_greater)
    ]
  ]

  -- two causes of two live inputs name one join (`p` and `q`) and one scenario (`s` and `t`): each is the first one
  same_two : (p q : ℕ) (s t : Scenario) → HasTwoInputs g p s → HasTwoInputs g q t →
      TwoAlternatives p s ≡ TwoAlternatives q t
  same_two p q s t p_two q_two =
      let join = one_join p_two.order q_two.order p q s t p_two.two q_two.two in
      let order = one_urgency_order g q_two.order p_two.order q_two.urgency p_two.urgency in
      let least = subst (λ (o : List ℕ). IsLeast g o (λ u. has_two_live g u.values q ≡ true) t) order q_two.two.least in
      λ i. TwoAlternatives (join i)
      (one_least g p_two.order p_two.urgency.all (λ u. has_two_live g u.values q ≡ true) s t
      (subst (λ r. IsLeast g p_two.order (λ u. has_two_live g u.values r ≡ true) s) join p_two.two.least) least i)

  -- two first causes of one kind are equal; by cases on the two kinds, of which those with different ranks can't be,
  -- and in each other case both are the first of their kind
  alike : (fault other : RuleFault) → rank_of_fault fault ≡ rank_of_fault other → 0 < rank_of_fault fault →
      rank_of_fault fault < 6 → IsFirstCause g fault → IsFirstCause g other → fault ≡ other
  -- cycles have rank 0, and memory that runs out has rank 6: neither is asked for
  alike (Cycle walk) other same_rank not_cycle not_memory cause other_cause = absurd (omega (arith, not_cycle))
  alike OutOfMemory other same_rank not_cycle not_memory cause other_cause = absurd (omega (arith, not_memory))
  -- too many tracks: there is nothing to tell apart
  alike TooManyTracks TooManyTracks same_rank not_cycle not_memory cause other_cause = refl
  alike TooManyTracks (Cycle walk) same_rank not_cycle not_memory cause other_cause = absurd (omega (arith, same_rank))
  alike TooManyTracks (TwoAlternatives q t) same_rank not_cycle not_memory cause other_cause =
      absurd (omega (arith, same_rank))
  alike TooManyTracks (NoSlot node) same_rank not_cycle not_memory cause other_cause = absurd (omega (arith, same_rank))
  alike TooManyTracks (TooBig b) same_rank not_cycle not_memory cause other_cause = absurd (omega (arith, same_rank))
  alike TooManyTracks (BadOrder r) same_rank not_cycle not_memory cause other_cause = absurd (omega (arith, same_rank))
  alike TooManyTracks OutOfMemory same_rank not_cycle not_memory cause other_cause = absurd (omega (arith, same_rank))
  -- two joins: both are the least, each with its least scenario
  alike (TwoAlternatives p s) (TwoAlternatives q t) same_rank not_cycle not_memory cause other_cause =
      same_two p q s t cause.2 other_cause.2
  alike (TwoAlternatives p s) (Cycle walk) same_rank not_cycle not_memory cause other_cause =
      absurd (omega (arith, same_rank))
  alike (TwoAlternatives p s) TooManyTracks same_rank not_cycle not_memory cause other_cause =
      absurd (omega (arith, same_rank))
  alike (TwoAlternatives p s) (NoSlot node) same_rank not_cycle not_memory cause other_cause =
      absurd (omega (arith, same_rank))
  alike (TwoAlternatives p s) (TooBig b) same_rank not_cycle not_memory cause other_cause =
      absurd (omega (arith, same_rank))
  alike (TwoAlternatives p s) (BadOrder r) same_rank not_cycle not_memory cause other_cause =
      absurd (omega (arith, same_rank))
  alike (TwoAlternatives p s) OutOfMemory same_rank not_cycle not_memory cause other_cause =
      absurd (omega (arith, same_rank))
  -- two nodes: both are the least without a slot
  alike (NoSlot node) (NoSlot other) same_rank not_cycle not_memory cause other_cause =
      ap NoSlot (one_first (lacks_slot g) node other cause.3.lacks cause.3.before other_cause.3.lacks
      other_cause.3.before)
  alike (NoSlot node) (Cycle walk) same_rank not_cycle not_memory cause other_cause = absurd (omega (arith, same_rank))
  alike (NoSlot node) TooManyTracks same_rank not_cycle not_memory cause other_cause = absurd (omega (arith, same_rank))
  alike (NoSlot node) (TwoAlternatives q t) same_rank not_cycle not_memory cause other_cause =
      absurd (omega (arith, same_rank))
  alike (NoSlot node) (TooBig b) same_rank not_cycle not_memory cause other_cause = absurd (omega (arith, same_rank))
  alike (NoSlot node) (BadOrder r) same_rank not_cycle not_memory cause other_cause = absurd (omega (arith, same_rank))
  alike (NoSlot node) OutOfMemory same_rank not_cycle not_memory cause other_cause = absurd (omega (arith, same_rank))
  -- two edges: both are the least whose message is too big
  alike (TooBig a) (TooBig b) same_rank not_cycle not_memory cause other_cause =
      ap TooBig (one_first (is_too_big g) a b cause.4.above cause.4.before other_cause.4.above other_cause.4.before)
  alike (TooBig a) (Cycle walk) same_rank not_cycle not_memory cause other_cause = absurd (omega (arith, same_rank))
  alike (TooBig a) TooManyTracks same_rank not_cycle not_memory cause other_cause = absurd (omega (arith, same_rank))
  alike (TooBig a) (TwoAlternatives q t) same_rank not_cycle not_memory cause other_cause =
      absurd (omega (arith, same_rank))
  alike (TooBig a) (NoSlot node) same_rank not_cycle not_memory cause other_cause = absurd (omega (arith, same_rank))
  alike (TooBig a) (BadOrder r) same_rank not_cycle not_memory cause other_cause = absurd (omega (arith, same_rank))
  alike (TooBig a) OutOfMemory same_rank not_cycle not_memory cause other_cause = absurd (omega (arith, same_rank))
  -- two processes: the order that is given has one that shows that it is bad
  alike (BadOrder p) (BadOrder q) same_rank not_cycle not_memory cause other_cause =
      ap BadOrder (one_bad g p q cause.5 other_cause.5)
  alike (BadOrder p) (Cycle walk) same_rank not_cycle not_memory cause other_cause = absurd (omega (arith, same_rank))
  alike (BadOrder p) TooManyTracks same_rank not_cycle not_memory cause other_cause = absurd (omega (arith, same_rank))
  alike (BadOrder p) (TwoAlternatives q t) same_rank not_cycle not_memory cause other_cause =
      absurd (omega (arith, same_rank))
  alike (BadOrder p) (NoSlot node) same_rank not_cycle not_memory cause other_cause = absurd (omega (arith, same_rank))
  alike (BadOrder p) (TooBig b) same_rank not_cycle not_memory cause other_cause = absurd (omega (arith, same_rank))
  alike (BadOrder p) OutOfMemory same_rank not_cycle not_memory cause other_cause = absurd (omega (arith, same_rank))

-- a graph is rejected for its first cause
pub graphs_show_first_causes : GraphsShowFirstCauses
graphs_show_first_causes g = record {
  first = first g;
  one = one g;
  same = λ fault other kept kept' later cause other_cause.
      alike g fault other (one g fault other kept kept' cause other_cause) later (below g fault kept) cause other_cause;
}
