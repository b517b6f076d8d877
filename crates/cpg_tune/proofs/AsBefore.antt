-- What other parts and another fault number leave as it was.
use Rattle.std.proofs.Common.{ℕ, zero, suc, ◌+◌, ◌<◌, ◌≤◌, ◌≡◌, ◌⊎◌, IfSome, List, [], ◌∷◌, ◌++◌, length, get_or}
use Rattle.std.proofs.Common.{take, filter, All, refl, sym, ap, ap₂, ◌∙◌, subst, inl, inr, arith, append-nil}
use Rattle.std.proofs.lemmas.List.{length-map, get_or-map, get_or_default, take_more}
use Rattle.std.proofs.lemmas.List.Elements.{All-map}
use Rattle.cpg_base.specs.declared.process.Process.{Process}
use Rattle.cpg_base.specs.Numbers.{numbers_below}
use Rattle.cpg_base.specs.Graph.{Graph, process_count, condition_count, process_at, disjunctions, is_disjunction}
use Rattle.cpg_base.specs.Limits.{IsWithinLimits, IsProcessWithin, IsEdgeWithin, IsOrderWithin}
use Rattle.cpg_base.specs.declared.limits.TheConstants.{MOST_FAULTS, MOST_PARTS}
use Rattle.cpg_base.specs.Duration.{duration_of, duration}
use Rattle.cpg_tune.specs.Best.{in_parts, duration_in, best_of, best_parts}
use Rattle.cpg_tune.specs.Asked.{row_graph}
use Rattle.cpg_tune.specs.Retuned.{in_parts_each, retuned, ArePartsOf}
use Rattle.cpg_tune.proofs.Fewest.{best_is_best}

-- there are as many retuned processes as processes
pub each_long : (ps : List Process) (parts : List ℕ) → length parts ≡ length ps →
    length (in_parts_each ps parts) ≡ length ps
each_long [] parts one_each = refl
each_long (p ∷ ps) [] one_each = absurd (omega (arith, one_each))
each_long (p ∷ ps) (n ∷ parts) one_each = ap suc (each_long ps parts (omega (arith, one_each)))

-- the retuned process at a place has the number of parts at this place
pub each_at : (ps : List Process) (parts : List ℕ) (i : ℕ) (d : Process) → length parts ≡ length ps → i < length ps →
    get_or (in_parts_each ps parts) i d ≡ in_parts (get_or ps i d) (get_or parts i 0)
each_at [] parts i d one_each inside = absurd (omega (arith, inside))
each_at (p ∷ ps) [] i d one_each inside = absurd (omega (arith, one_each))
each_at (p ∷ ps) (n ∷ parts) zero d one_each inside = refl
each_at (p ∷ ps) (n ∷ parts) (suc i) d one_each inside =
    each_at ps parts i d (omega (arith, one_each)) (omega (arith, inside))

-- when the processes or the parts are used up, no retuned process is left
pub each_done : (ps : List Process) (parts : List ℕ) → (ps ≡ []) ⊎ (parts ≡ []) → in_parts_each ps parts ≡ []
each_done [] parts done = refl
each_done (p ∷ ps) [] done = refl
each_done (p ∷ ps) (n ∷ parts) (inl is_empty) = absurd (let no_length = ap length is_empty in omega (arith, no_length))
each_done (p ∷ ps) (n ∷ parts) (inr is_empty) = absurd (let no_length = ap length is_empty in omega (arith, no_length))

-- when the processes or the parts are used up, all copies are made
pub each_whole : (ps : List Process) (parts : List ℕ) (whole copies : List Process) →
    whole ≡ copies ++ in_parts_each ps parts → (ps ≡ []) ⊎ (parts ≡ []) → copies ≡ whole
each_whole ps parts whole copies is_whole done =
    sym (is_whole ∙ ap (λ zs. copies ++ zs) (each_done ps parts done) ∙ append-nil copies)

-- given: a number of parts for each process of a graph, and a fault number
module _ (g : Graph) (parts : List ℕ) (faults : ℕ) (one_each : length parts ≡ process_count g) where
  -- a retuned graph has as many processes
  pub count_same : process_count (retuned g parts faults) ≡ process_count g
  count_same = each_long g.processes parts one_each

  -- the same processes of a retuned graph have conditions
  pub disjunctions_same : disjunctions (retuned g parts faults) ≡ disjunctions g
  disjunctions_same = ap (λ n. filter (is_disjunction g) (numbers_below n)) count_same

  -- a retuned graph has as many conditions
  pub conditions_same : condition_count (retuned g parts faults) ≡ condition_count g
  conditions_same = ap length disjunctions_same

-- a retuned graph stays within the limits
pub retuned_within : (g : Graph) (parts : List ℕ) (faults : ℕ) → IsWithinLimits g → ArePartsOf g parts →
    faults ≤ MOST_FAULTS →
    IsWithinLimits (retuned g parts faults)
retuned_within g parts faults was_within are_parts few = record {
  faults = few;
  deadline = was_within.deadline;
  few_nodes = was_within.few_nodes;
  few_slots = was_within.few_slots;
  few_processes = subst (λ n. n ≤ 128) (sym (count_same g parts faults are_parts.one_each)) was_within.few_processes;
  few_edges = was_within.few_edges;
  few_conditions =
      subst (λ n. n ≤ 32) (sym (conditions_same g parts faults are_parts.one_each)) was_within.few_conditions;
  slots = was_within.slots;
  processes =
      λ i d now_inside. (let within : i < length g.processes =
      subst (λ n. i < n) (count_same g parts faults are_parts.one_each) now_inside in
      subst (IsProcessWithin (length g.nodes)) (sym (each_at g.processes parts i d are_parts.one_each within))
      (process_within i d within));
  edges =
      subst (λ n. All (IsEdgeWithin n) g.edges) (sym (count_same g parts faults are_parts.one_each)) was_within.edges;
  node_names = was_within.node_names;
  process_names = λ i j d before now_inside.
      (let within : j < length g.processes =
      subst (λ n. j < n) (count_same g parts faults are_parts.one_each) now_inside in
      λ same. was_within.process_names i j d before within
      (sym (name_at i d (omega (arith, before, within))) ∙ (same ∙ name_at j d within)));
  own_slots = was_within.own_slots;
  order =
      subst (λ n. IfSome g.order (IsOrderWithin n))
      (sym (count_same g parts faults are_parts.one_each)) was_within.order;
}
  where
    -- a process in its new parts is within the limits: the parts are few and long enough, and all else is as before
    process_within : (i : ℕ) (d : Process) → i < length g.processes →
        IsProcessWithin (length g.nodes) (in_parts (get_or g.processes i d) (get_or parts i 0))
    process_within i d inside = let limits = was_within.processes i d inside in
        record {
          node = limits.node;
          works = limits.works;
          wcet = limits.wcet;
          divided = are_parts.divided i 0 (omega (arith, inside, are_parts.one_each));
          parts = are_parts.few i 0 (omega (arith, inside, are_parts.one_each));
          alpha = limits.alpha;
          chi = limits.chi;
          mu = limits.mu;
          release = limits.release;
          deadline = limits.deadline;
        }

    -- a retuned process has the same name
    name_at : (i : ℕ) (d : Process) → i < length g.processes →
        (get_or (in_parts_each g.processes parts) i d).name ≡ (get_or g.processes i d).name
    name_at i d inside = ap (λ (p : Process). p.name) (each_at g.processes parts i d are_parts.one_each inside)

-- The best parts are from 1 to 255.
-- Each is a best number of parts, which lies in this range.
pub best_parts_of : (g : Graph) → ArePartsOf g (best_parts g)
best_parts_of g = record {
  one_each = length-map g.processes (λ (p : Process). best_of p g.faults);
  divided = All-map (λ n. 1 ≤ n) (λ (p : Process). best_of p g.faults) g.processes
      (λ i d inside. (best_is_best (get_or g.processes i d) g.faults).some);
  few = All-map (λ n. n ≤ MOST_PARTS) (λ (p : Process). best_of p g.faults) g.processes
      (λ i d inside. (best_is_best (get_or g.processes i d) g.faults).few);
}

-- the best parts of a process
best_at : (g : Graph) (p d : ℕ) → p < process_count g → get_or (best_parts g) p d ≡ best_of (process_at g p) g.faults
best_at g p d inside =
    let best_count : Process → ℕ = λ q. best_of q g.faults in
    get_or-map best_count g.processes p (process_at g p) d inside
    ∙ ap best_count (get_or_default g.processes p _ _ inside)

-- the best parts of the first processes, with those of one more
pub best_parts_push : (g : Graph) (p best : ℕ) (parts : List ℕ) → p < process_count g → parts ≡ take p (best_parts g) →
    best ≡ best_of (process_at g p) g.faults →
    parts ++ best ∷ [] ≡ take (p + 1) (best_parts g)
best_parts_push g p best parts inside is best_is =
    let long = length-map g.processes (λ (q : Process). best_of q g.faults) in
    ap₂ (λ xs x. xs ++ x ∷ []) is (best_is ∙ sym (best_at g p 0 inside))
    ∙ sym (take_more (best_parts g) p 0 (omega (arith, inside, long)))

-- how long a process lasts in the parts at its place
duration_at : (g : Graph) (parts : List ℕ) → ArePartsOf g parts → (faults p f : ℕ) → p < process_count g →
    duration (retuned g parts faults) p f ≡ duration_in (process_at g p) f (get_or parts p 0)
duration_at g parts parts_are faults p f inside =
    ap (λ (q : Process). duration_of q f) (each_at g.processes parts p _ parts_are.one_each inside)

-- With the best parts no execution with all the faults lasts longer than with any other parts.
-- The parts of a process are the best ones in the one graph, and others from 1 to 255 in the other.
pub tuned_least : (g : Graph) (parts : List ℕ) → ArePartsOf g parts → (p : ℕ) → p < process_count g →
    duration (row_graph g g.faults) p g.faults ≤ duration (retuned g parts g.faults) p g.faults
tuned_least g parts parts_are p inside =
    let process = process_at g p in
    let best = best_is_best process g.faults in
    let within : p < length parts = omega (arith, inside, parts_are.one_each) in
    let least = best.least (get_or parts p 0) (parts_are.divided p 0 within) (parts_are.few p 0 within) in
    let there : get_or (best_parts g) p 0 ≡ best_of process g.faults = best_at g p 0 inside in
    let tuned =
    duration_at g (best_parts g) (best_parts_of g) g.faults p g.faults inside
    ∙ ap (duration_in process g.faults) there in
    let other = duration_at g parts parts_are g.faults p g.faults inside in
    omega (arith, least, tuned, other)
