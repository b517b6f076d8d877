-- The head for a graph within its limits keeps those of a head.
use Rattle.std.proofs.Common.{◌≡◌, ◌≤◌, ◌<◌, ◌+◌, ◌*◌, ◌^◌, IfSome, ℕ, List, [], ◌∷◌, Bool, true, false, Option, Some}
use Rattle.std.proofs.Common.{None, is_some, All, Contains, cond, length, map, count_by, refl, sym, subst, ap}
use Rattle.std.proofs.Common.{◌∙◌, arith, true≢false}
use Rattle.std.specs.Int.{div_ceil}
use Rattle.std.specs.List.{list_all}
use Rattle.std.proofs.Math.Nat.{mul-le-mul, div-le_self}
use Rattle.std.proofs.lemmas.List.{length-map}
use Rattle.std.proofs.lemmas.List.FromFn.{length-map-range_with_len}
use Rattle.std.proofs.lemmas.List.Elements.{All-map, All-weaker, All-contains_itself, All-get_or}
use Rattle.std.proofs.lemmas.List.Sums.{length-filter, sum_by-cons}
use Rattle.cpg_base.specs.Numbers.{numbers_below}
use Rattle.cpg_base.specs.Graph.{Graph, process_count, process_at, condition_of, process_of, is_disjunction}
use Rattle.cpg_base.specs.Graph.{condition_count}
use Rattle.cpg_base.specs.declared.process.Process.{Process}
use Rattle.cpg_base.specs.Duration.{duration, duration_of}
use Rattle.cpg_base.specs.Limits.{IsWithinLimits, IsProcessWithin, IsEdgeWithin}
use Rattle.cpg_base.proofs.Lists.{same_truth, same_filter, numbers-Contains, Contains-filter_parts}
use Rattle.cpg_base.proofs.ConditionProcesses.{condition_of_below, Contains-disjunctions, condition_there}
use Rattle.cpg_base.proofs.ConditionProcesses.{condition_of_process_of, process_of_condition_of}
use Rattle.cpg_head.specs.Head.{HeadProcess, IsHead, IsHeadProcess, IsHeadEdge, IsExtra, AreExtras}
use Rattle.cpg_head.specs.GraphHead.{head_process, extra_of, is_plain, head_of}

-- an execution of a process within the limits, with at most 8 faults, lasts less than 2 ^ 60
short : (n : ℕ) (p : Process) (f : ℕ) → IsProcessWithin n p → f ≤ 8 → duration_of p f < 2 ^ 60
short n p f within few_faults =
    let parts : p.parts * (p.alpha + p.chi) ≤ 255 * 2000000000 =
    mul-le-mul within.parts
    (let sums : p.alpha + p.chi ≤ 2000000000 = omega (arith, within.alpha, within.chi) in sums) in
    let again : div_ceil p.wcet p.parts ≤ 1000000001 = omega (arith, div-le_self p.wcet p.parts, within.wcet) in
    let faults : f * (p.mu + div_ceil p.wcet p.parts + p.alpha) ≤ 8 * 3000000001 = mul-le-mul few_faults
    (let sums : p.mu + div_ceil p.wcet p.parts + p.alpha ≤ 3000000001 =
    omega (arith, within.mu, within.alpha, again) in sums) in
    omega (arith, parts, faults, within.wcet)

-- what holds of each number below a bound holds of all of them
pub All-below : (P : ℕ → Type 0) (n : ℕ) → ((x : ℕ) → x < n → P x) → All P (numbers_below n)
All-below P n h = All-weaker (Contains (numbers_below n)) P (λ x c. h x (numbers-Contains n x c)) (numbers_below n)
    (All-contains_itself (numbers_below n))

-- as many results of a map pass as elements whose results do
count_by-map : {X Y : Type 0} (p : Y → Bool) (f : X → Y) (xs : List X) →
    count_by p (map f xs) ≡ count_by (λ x. p (f x)) xs
-- by induction on the list
count_by-map p f [] = refl
count_by-map p f (x ∷ xs) =
    sum_by-cons (λ y. cond (p y) 1 0) (f x) (map f xs) ∙ ap (λ n. cond (p (f x)) 1 0 + n) (count_by-map p f xs)
    ∙ sym (sum_by-cons (λ y. cond (p (f y)) 1 0) x xs)

-- an option that is there has a value
some_of : (o : Option ℕ) → is_some o ≡ true → (c : ℕ) × (o ≡ Some c)
some_of None is_true = absurd (true≢false (sym is_true))
some_of (Some c) is_true = (c, refl)

module _ (g : Graph) where
  -- a process has a condition if and only if it has a conditional output
  pub has_condition : (p : ℕ) → p < process_count g → is_some (condition_of g p) ≡ is_disjunction g p
  has_condition p below = same_truth (is_some (condition_of g p)) (is_disjunction g p)
      (λ e. let its_condition = some_of (condition_of g p) e in
      subst (λ q. is_disjunction g q ≡ true) (process_of_condition_of g p its_condition.0 its_condition.1)
      (Contains-filter_parts (is_disjunction g) (numbers_below (process_count g)) (process_of g its_condition.0)
      (Contains-disjunctions g its_condition.0 (condition_of_below g p its_condition.0 its_condition.1))).1)
      (λ e. let its_condition = condition_there g p below e in
      ap is_some (ap (condition_of g) (sym its_condition.2) ∙
      condition_of_process_of g its_condition.0 its_condition.1))

  -- as many processes of the head have a condition as the graph has conditions
  pub conditions_counted : count_by (λ p. p.condition) (head_of g).processes ≡ condition_count g
  conditions_counted =
      count_by-map (λ (p : HeadProcess). p.condition) (head_process g) (numbers_below (process_count g))
      ∙ sym (length-filter (λ p. is_some (condition_of g p)) (numbers_below (process_count g)))
      ∙ ap length (same_filter (λ p. is_some (condition_of g p)) (is_disjunction g) (numbers_below (process_count g))
      (λ p c. has_condition p (numbers-Contains (process_count g) p c)))

  -- given: the graph is within its limits
  module _ (w : IsWithinLimits g) where
    -- what the head says of a process is within the limits: its node is known, and its times are below 2 ^ 60
    process_within : (p : ℕ) → p < process_count g → IsHeadProcess g.faults (length g.nodes) (head_process g p)
    process_within p below =
        let at : IsProcessWithin (length g.nodes) (process_at g p) =
        All-get_or (IsProcessWithin (length g.nodes)) g.processes p _ below w.processes in
        record {
          node = at.node;
          count = length-map-range_with_len (duration g p) 0 (g.faults + 1);
          times = All-map (λ t. t < 2 ^ 60) (duration g p) (numbers_below (g.faults + 1))
              (All-below (λ f. duration g p f < 2 ^ 60) (g.faults + 1)
              (λ f h. short (length g.nodes) (process_at g p) f at (omega (arith, w.faults))));
        }

    -- what version 2 adds is within the limits, if it adds anything
    extras_within : (b : Bool) →
        IfSome (cond b None (Some (map extra_of g.processes))) (AreExtras (length (head_of g).processes))
    extras_within true = tt
    extras_within false = record {
      count = length-map g.processes extra_of ∙ sym (length-map-range_with_len (head_process g) 0 (process_count g));
      each = All-map IsExtra extra_of g.processes
          (All-weaker (IsProcessWithin (length g.nodes)) (λ p. IsExtra (extra_of p))
          (λ p a. record { release = a.release; deadline = a.deadline }) g.processes w.processes);
    }

    -- the head for a graph within its limits is a lawful head
    pub head_within : IsHead (head_of g)
    head_within =
        let count : length (head_of g).processes ≡ process_count g =
        length-map-range_with_len (head_process g) 0 (process_count g) in
        record {
          faults = w.faults;
          few_nodes = w.few_nodes;
          -- the head has as many processes, conditions and edges as the graph
          few_processes = omega (arith, count, w.few_processes);
          few_conditions = omega (arith, conditions_counted, w.few_conditions);
          few_edges = omega (arith, length-map {B = ℕ × ℕ} g.edges (λ e. (e.from, e.to)), w.few_edges);
          -- each process, edge and extra of the head is one of a graph within its limits
          processes =
              All-map (IsHeadProcess g.faults (length g.nodes)) (head_process g) (numbers_below (process_count g))
              (All-below (λ p. IsHeadProcess g.faults (length g.nodes) (head_process g p))
              (process_count g) process_within);
          edges = All-map (IsHeadEdge (length (head_of g).processes)) (λ e. (e.from, e.to)) g.edges
              (All-weaker (IsEdgeWithin (process_count g))
              (λ e. IsHeadEdge (length (head_of g).processes) (e.from, e.to))
              (λ e a. record { from = omega (arith, count, a.from); to = omega (arith, count, a.to) }) g.edges w.edges);
          extras = extras_within (list_all is_plain g.processes);
        }
