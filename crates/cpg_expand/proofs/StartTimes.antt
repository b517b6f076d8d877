-- The times that a start waits for are those of the run, as the trees say them: their delays are never cut off, and
-- the inputs that a process awaits are the live ones.
use Rattle.std.proofs.Common.{ℕ, ◌+◌, ◌^◌, ◌<◌, ◌≤◌, ◌≡◌, ◌==◌, max, Bool, true, false, if◌then◌else◌, List, [], ◌∷◌}
use Rattle.std.proofs.Common.{length, map, filter, get_or, Option, Some, None, unwrap_or, arith, refl, sym, ap}
use Rattle.std.proofs.Common.{ap₂, ◌∙◌, subst}
use Rattle.std.proofs.lemmas.Bool.{and_parts, cond-true}
use Rattle.std.specs.List.{list_all}
use Rattle.cpg_base.specs.Numbers.{greatest}
use Rattle.cpg_base.specs.Bus.{slot_length}
use Rattle.cpg_base.specs.Limits.{IsWithinLimits}
use Rattle.cpg_base.specs.Graph.{Graph, process_at, process_count, condition_count, node_of, source, inputs, is_message}
use Rattle.cpg_base.specs.Graph.{message_item, broadcast_item, process_of, home}
use Rattle.cpg_base.specs.Activity.{activation, activation_by, by_first, active, is_active, live}
use Rattle.cpg_base.specs.WellFormed.{HasSingleJoins}
use Rattle.cpg_base.specs.declared.activation.Activation.{Activation}
use Rattle.cpg_base.specs.declared.activation.Activation.TheVariants.{Inactive, Plain}
use Rattle.cpg_base.proofs.Bounds.{round-le, slot_length-le}
use Rattle.cpg_base.specs.Scenario.{Scenario}
use Rattle.cpg_order.specs.Urgency.{IsTopological}
use Rattle.cpg_order.proofs.Acyclic.{activation_is}
use Rattle.cpg_run.specs.Run.{Times, end_in, frame_there, input_there, heard_there, input_bounds}
use Rattle.cpg_run.specs.Known.{AreSmall}
use Rattle.cpg_tree.specs.Later.{time_later}
use Rattle.cpg_expand.specs.Forest.{input_delay, heard_delay}
use Rattle.cpg_expand.specs.Guarded.{awaited, latest_of, start_at}

-- ---- a delay after a time

-- a time below 2^59 has room for a delay of at most 16,000,000,000, so the sum isn't cut off
pub later_exact : (x : Option ℕ) (delay : ℕ) → unwrap_or x 0 < 2 ^ 59 → delay ≤ 16000000000 →
    time_later delay x ≡ unwrap_or x 0 + delay
later_exact x delay early short = omega (arith, early, short)

-- given: a graph within the limits, and small times
module _ (g : Graph) (limits : IsWithinLimits g) (t : Times) (small : AreSmall t) where
  -- no slot is longer than 16,000,000,000
  slot_short : (node : ℕ) → slot_length g node ≤ 16000000000
  slot_short node = omega (arith, slot_length-le g node, round-le g limits)

  -- the time to which an input's delay is added: its message's, or the end of its source
  abbrev pub input_time : ℕ → Option ℕ
  input_time e = if is_message g e then get_or t.times (message_item g e) None else get_or t.ends (source g e) None

  -- that time with its delay is when the input is there in the run
  pub input_exact : (e : ℕ) → time_later (input_delay g e) (input_time e) ≡ input_there g t e
  input_exact e = go (is_message g e)
    where
      -- by whether the input is a message: its frame is there, or its source has ended
      go : (b : Bool) →
          time_later (if b then slot_length g (home g (message_item g e)) else 0)
          (if b then get_or t.times (message_item g e) None else get_or t.ends (source g e) None) ≡
          (if b then frame_there g t (message_item g e) else end_in t (source g e))
      go true = later_exact (get_or t.times (message_item g e) None) (slot_length g (home g (message_item g e)))
          (small.times (message_item g e)) (slot_short (home g (message_item g e)))
      go false = later_exact (get_or t.ends (source g e) None) 0 (small.ends (source g e)) (omega arith) ∙ omega arith

  -- the time to which the delay of a node's hearing a condition is added: the end of the condition's process, or its
  -- broadcast's time
  abbrev pub heard_time : ℕ → ℕ → Option ℕ
  heard_time node c = if node_of g (process_of g c) == node then get_or t.ends (process_of g c) None
      else get_or t.times (broadcast_item g c) None

  -- that time with its delay is when the node hears the condition in the run
  pub heard_exact : (node c : ℕ) → time_later (heard_delay g node c) (heard_time node c) ≡ heard_there g t node c
  heard_exact node c = go (node_of g (process_of g c) == node)
    where
      -- by whether the node has the condition's process: that has ended, or the frame is there
      go : (b : Bool) →
          time_later (if b then 0 else slot_length g (home g (broadcast_item g c)))
          (if b then get_or t.ends (process_of g c) None else get_or t.times (broadcast_item g c) None) ≡
          (if b then end_in t (process_of g c) else frame_there g t (broadcast_item g c))
      go true =
          later_exact (get_or t.ends (process_of g c) None) 0 (small.ends (process_of g c)) (omega arith) ∙ omega arith
      go false = later_exact (get_or t.times (broadcast_item g c) None) (slot_length g (home g (broadcast_item g c)))
          (small.times (broadcast_item g c)) (slot_short (home g (broadcast_item g c)))

  -- the latest of these times of some inputs is when the last of them is there in the run
  pub latest_inputs : (es : List ℕ) → latest_of (input_delay g) input_time es ≡ greatest (map (input_there g t) es)
  latest_inputs es =
      ap greatest (same_map (λ e. time_later (input_delay g e) (input_time e)) (input_there g t) es input_exact)
    where
      -- two functions that agree everywhere map a list alike
      same_map : (f h : ℕ → ℕ) (xs : List ℕ) → ((x : ℕ) → f x ≡ h x) → map f xs ≡ map h xs
      -- by induction on the list
      same_map f h [] same = refl
      same_map f h (x ∷ xs) same = ap₂ (λ y ys. y ∷ ys) (same x) (same_map f h xs same)

  -- the latest of these times of some conditions is when the node has heard all of them in the run
  pub latest_heard : (node : ℕ) (cs : List ℕ) →
      latest_of (heard_delay g node) (heard_time node) cs ≡ greatest (map (heard_there g t node) cs)
  latest_heard node cs = ap greatest (same_map (λ c. time_later (heard_delay g node c) (heard_time node c))
      (heard_there g t node) cs (heard_exact node))
    where
      -- two functions that agree everywhere map a list alike
      same_map : (f h : ℕ → ℕ) (xs : List ℕ) → ((x : ℕ) → f x ≡ h x) → map f xs ≡ map h xs
      -- by induction on the list
      same_map f h [] same = refl
      same_map f h (x ∷ xs) same = ap₂ (λ y ys. y ∷ ys) (same x) (same_map f h xs same)

-- ---- the inputs that a process waits for are the live ones

-- if all elements pass a test, the filter keeps the list
all_kept : (p : ℕ → Bool) (xs : List ℕ) → list_all p xs ≡ true → filter p xs ≡ xs
-- by induction on the list
all_kept p [] all_pass = refl
all_kept p (x ∷ xs) all_pass = let parts = and_parts (p x) (list_all p xs) all_pass in
    cond-true (p x) (x ∷ filter p xs) (filter p xs) parts.0 ∙ ap (λ ys. x ∷ ys) (all_kept p xs parts.1)

-- false isn't true
untrue : false ≡ true → ⊥
untrue equal = cc

-- if ys, the live inputs of a join, are at most one, an active join awaits just these: its first live input
awaited_first : (xs ys : List ℕ) → length ys ≤ 1 → is_active (by_first ys) ≡ true → awaited xs (by_first ys) ≡ ys
awaited_first xs [] few on = absurd (untrue on)
awaited_first xs (y ∷ []) few on = refl
awaited_first xs (y ∷ z ∷ zs) few on = absurd (omega (arith, few))

-- a process that needs all inputs awaits them all, and all are live if it is active
awaited_all : (is_live : ℕ → Bool) (xs : List ℕ) (b : Bool) → list_all is_live xs ≡ b →
    is_active (if b then Plain else Inactive) ≡ true →
    awaited xs (if b then Plain else Inactive) ≡ filter is_live xs
awaited_all is_live xs true is_b on = sym (all_kept is_live xs is_b)
awaited_all is_live xs false is_b on = absurd (untrue on)

-- an active activation awaits those of the inputs that are live
pub awaited_is : (join : Bool) (xs : List ℕ) (is_live : ℕ → Bool) → (join ≡ true → length (filter is_live xs) ≤ 1) →
    is_active (activation_by join xs is_live) ≡ true →
    awaited xs (activation_by join xs is_live) ≡ filter is_live xs
awaited_is true [] is_live single on = refl
awaited_is false [] is_live single on = refl
awaited_is true (e ∷ es) is_live single on = awaited_first (e ∷ es) (filter is_live (e ∷ es)) (single refl) on
awaited_is false (e ∷ es) is_live single on = awaited_all is_live (e ∷ es) (list_all is_live (e ∷ es)) refl on

-- given: a process of a graph, and small times of one scenario
-- `joins`: at most one input of a join is live; `s`, `long`, `t`, `small`: a scenario and its times
module _ (g : Graph) (limits : IsWithinLimits g) (order : List ℕ) (topological : IsTopological g order)
    (joins : HasSingleJoins g) (s : Scenario) (long : length s.values ≡ condition_count g)
    (t : Times) (small : AreSmall t) (p : ℕ) (below : p < process_count g) where
  -- an active process of the graph awaits those of its inputs that are live
  pub awaits_live : active g s.values p ≡ true →
      awaited (inputs g p) (activation g s.values p) ≡ filter (live g s.values) (inputs g p)
  awaits_live on =
      let is = activation_is g order topological s.values p (omega (arith, below)) in
      ap (awaited (inputs g p)) is ∙ awaited_is (process_at g p).join (inputs g p) (live g s.values)
      (λ is_join. joins p s.values below is_join long) (subst (λ (a : Activation). is_active a ≡ true) is on)

  -- if p waits on its node until w, its start by the inputs that it awaits is that by its live inputs in the run
  pub start_exact : (w : ℕ) →
      start_at w (process_at g p).release (input_delay g) (input_time g limits t small) (inputs g p)
      (activation g s.values p)
      ≡ (if active g s.values p
      then Some (max (max w (process_at g p).release) (greatest (input_bounds g s t p))) else None)
  start_exact w = go (active g s.values p) refl
    where
      -- an active process awaits its live inputs, and an inactive one has no start either way
      go : (b : Bool) → active g s.values p ≡ b →
          (if b then Some (max (max w (process_at g p).release) (latest_of (input_delay g) (input_time g limits t small)
          (awaited (inputs g p) (activation g s.values p)))) else None)
          ≡ (if b then Some (max (max w (process_at g p).release) (greatest (input_bounds g s t p))) else None)
      go true acts = ap (λ n. Some (max (max w (process_at g p).release) n))
          (latest_inputs g limits t small (awaited (inputs g p) (activation g s.values p))
          ∙ ap (λ es. greatest (map (input_there g t) es)) (awaits_live acts))
      go false is_b = refl
