-- The graph of all instances is within the limits. In the lemmas `whole` is the hyperperiod, p a part or the number of
-- the list's first part, i an instance, x a process, and e an edge.
use Rattle.std.proofs.Common.{◌≡◌, ◌≢◌, ℕ, suc, ◌+◌, ◌*◌, ◌/◌, ◌^◌, ◌<◌, ◌≤◌, List, [], ◌∷◌, ◌++◌, length}
use Rattle.std.proofs.Common.{length-append, get_or, Option, Some, None, AllPairs, Contains, refl, sym, ap, ◌∙◌, subst}
use Rattle.std.proofs.Common.{arith, ⊎_elim}
use Rattle.std.specs.Prelude.{All}
use Rattle.std.proofs.Math.Nat.{div-le_self, div-mul-le_self}
use Rattle.std.proofs.lemmas.List.Elements.{Contains-get_or, Contains-append_cases}
use Rattle.cpg_base.specs.Duration.{lesser_due}
use Rattle.cpg_base.specs.Limits.{IsProcessWithin, IsEdgeWithin, IsWithinLimits}
use Rattle.cpg_base.specs.declared.process.Process.{Process}
use Rattle.cpg_base.specs.declared.process.Edge.{Edge}
use Rattle.cpg_base.proofs.Lists.{Contains-first, Contains-rest, Contains-nil, Contains-map_parts}
use Rattle.cpg_base.proofs.Lists.{Contains-flat_map_parts, numbers-Contains}
use Rattle.cpg_base.proofs.Pairs.{AllPairs-nil, AllPairs-append, AllPairs-map, AllPairs-flat_map_in, numbers_apart}
use Rattle.cpg_hyper.specs.declared.part.Part.{Part}
use Rattle.cpg_hyper.specs.Unrolled.{copied_process, copied_edge, size_of, instances, first_in, after_part}
use Rattle.cpg_hyper.specs.Unrolled.{processes_in, processes_of, processes_from, edges_in, edges_of, edges_from}
use Rattle.cpg_hyper.specs.Unrolled.{first_graph}
use Rattle.cpg_hyper.specs.Unrolled.{unrolled}
use Rattle.cpg_hyper.specs.Refusals.{IsAlike, FitsPeriod, HoldsOfEach, HasFewEnough, AreOver}
use Rattle.cpg_hyper.proofs.Counted.{processes_size}
use Rattle.cpg_hyper.proofs.Copies.{product_le}
use Rattle.cpg_hyper.proofs.Texts.{same_copy}

-- a number is the sum of itself and 0
same_sum : (p : ℕ) → p ≡ p + 0
same_sum p = omega arith

-- one more is counted on either side
next_sum : (p n : ℕ) → p + 1 + n ≡ p + suc n
next_sum p n = omega arith

-- the processes of a part and those of the rest are moved together
moved : (first own rest all : ℕ) → all ≡ own + rest → first + own + rest ≡ first + all
moved first own rest all is_sum = omega (arith, is_sum)

-- 0 may be left out of a sum
pub nothing_before : (n : ℕ) → 0 + n ≡ n
nothing_before n = omega arith

-- ---- where a process of the whole comes from

-- the process is the copy of one of the part's processes, in one of its instances
pub record IsCopy (whole p : ℕ) (part : Part) (x : Process) : Type 0 where
  -- the number of the instance, and the process that is copied
  pub instance : ℕ
  pub process : Process
  -- the part has an instance of this number, and it has the process
  pub early : instance < whole / part.period
  pub has : Contains part.problem.processes process
  -- x is the copy
  pub is : copied_process p instance part process ≡ x

-- the process is such a copy of one of some parts, of which the first has the number p
pub record IsCopyAmong (whole p : ℕ) (parts : List Part) (x : Process) : Type 0 where
  -- the place of the part among these parts, and the part that stands there
  pub place : ℕ
  pub part : Part
  pub within : place < length parts
  pub there : get_or parts place part ≡ part
  -- x is a copy in one of its instances
  pub copy : IsCopy whole (p + place) part x

-- a process of a part's instances is a copy of one of its processes
pub of_part : (whole p : ℕ) (part : Part) (x : Process) → Contains (processes_of whole p part) x → IsCopy whole p part x
of_part whole p part x listed =
    let (i, among, here) = Contains-flat_map_parts (processes_in p part) (instances whole part) x listed in
    let (q, has, is) = Contains-map_parts (copied_process p i part) part.problem.processes x here in
    record { instance = i; process = q; early = numbers-Contains (whole / part.period) i among; has = has; is = is }

-- a process of all instances is a copy of a process of one of the parts
pub of_parts : (whole p : ℕ) (parts : List Part) (x : Process) → Contains (processes_from whole p parts) x →
    IsCopyAmong whole p parts x
of_parts whole p [] x listed = absurd (Contains-nil x listed)
of_parts whole p (part ∷ parts) x listed = ⊎_elim
    -- a copy of the first part's, or of one of the others'
    (λ (in_own : Contains (processes_of whole p part) x). first_of (of_part whole p part x in_own))
    (λ (in_later : Contains (processes_from whole (p + 1) parts) x). later_of (of_parts whole (p + 1) parts x in_later))
    (Contains-append_cases (processes_of whole p part) (processes_from whole (p + 1) parts) x listed)
  where
    -- a copy of the first part's process is at place 0
    first_of : IsCopy whole p part x → IsCopyAmong whole p (part ∷ parts) x
    first_of own_copy = record {
      place = 0;
      part = part;
      within = omega arith;
      there = refl;
      copy = subst (λ n. IsCopy whole n part x) (same_sum p) own_copy;
    }

    -- a copy of a later part's process is one place further
    later_of : IsCopyAmong whole (p + 1) parts x → IsCopyAmong whole p (part ∷ parts) x
    later_of later_copy = record {
      place = suc later_copy.place;
      part = later_copy.part;
      within = omega (arith, later_copy.within);
      there = later_copy.there;
      copy = subst (λ n. IsCopy whole n later_copy.part x) (next_sum p later_copy.place) later_copy.copy;
    }

-- ---- times

-- a time within a period is within the hyperperiod in each instance
in_time : (i q period whole t : ℕ) → i < q → q * period ≤ whole → t ≤ period → i * period + t ≤ whole
in_time i q period whole t early fits in_period =
    let least : (i + 1) * period ≤ q * period = product_le (i + 1) q period (omega (arith, early)) in
    omega (arith, least, fits, in_period)

-- a due is no later than the deadline
lesser_due_le : (d : ℕ) (own : Option ℕ) → lesser_due d own ≤ d
lesser_due_le d None = omega arith
lesser_due_le d (Some own) = omega arith

-- ---- edges

-- a copied edge is within the limits, if its part's edge is
edge_of_instance : (first i q size : ℕ) (e d : Edge) → i < q → IsEdgeWithin size d →
    copied_edge (first + i * size) d ≡ e → (count : ℕ) → first + q * size ≤ count →
    IsEdgeWithin count e
-- the ends of the copy are those of the edge moved by the instance's first process; the instance ends within the count
edge_of_instance first i q size e d early old_within is count few =
    let most : (i + 1) * size ≤ q * size = product_le (i + 1) q size (omega (arith, early)) in
    let from : e.from ≡ first + i * size + d.from = ap (λ (x : Edge). x.from) (sym is) in
    let to : e.to ≡ first + i * size + d.to = ap (λ (x : Edge). x.to) (sym is) in
    let same : e.size ≡ d.size = ap (λ (x : Edge). x.size) (sym is) in
    record {
      from = omega (arith, most, from, old_within.from, few);
      to = omega (arith, most, to, old_within.to, few);
      sized = omega (arith, same, old_within.sized);
      size = omega (arith, same, old_within.size);
    }

-- what holds of all elements holds of an element that the list contains
pub contained : {X : Type 0} (P : X → Type 0) (xs : List X) (x : X) → All P xs → Contains xs x → P x
contained P xs x all_hold (k, inside, is) = subst P is (all_hold k x inside)

-- the edges of the parts are between their processes, and their sizes are in range
edges_within : (whole first p : ℕ) (parts : List Part) →
    ((part : Part) → Contains parts part → IsWithinLimits part.problem) → (e : Edge) →
    Contains (edges_from whole first parts) e
    → IsEdgeWithin (first + length (processes_from whole p parts)) e
-- by induction on the parts
edges_within whole first p [] limits e listed = absurd (Contains-nil e listed)
edges_within whole first p (part ∷ parts) limits e listed =
    let rest = processes_from whole (p + 1) parts in
    let long : length (processes_of whole p part ++ rest) ≡ whole / part.period * size_of part + length rest =
    length-append (processes_of whole p part) rest ∙
    ap (λ n. n + length rest) (processes_size whole p part) in
    ⊎_elim
    -- an edge of this part: a copy in one of its instances
    (λ (in_own : Contains (edges_of whole first part) e).
    let (i, among, here) = Contains-flat_map_parts (edges_in first part) (instances whole part) e in_own in
    let (old, has, is) = Contains-map_parts (copied_edge (first_in first part i)) part.problem.edges e here in
    edge_of_instance first i (whole / part.period) (size_of part) e old (numbers-Contains (whole / part.period) i among)
    (contained (IsEdgeWithin (size_of part)) part.problem.edges old
    (limits part (Contains-first part parts)).edges has) is _
    (omega (arith, long)))
    -- an edge of a later part
    (λ (in_later : Contains (edges_from whole (after_part whole first part) parts) e).
    subst (λ n. IsEdgeWithin n e) (moved first (whole / part.period * size_of part) (length rest) _ long)
    (edges_within whole (after_part whole first part) (p + 1) parts
    (λ other other_listed. limits other (Contains-rest part parts other other_listed)) e in_later))
    (Contains-append_cases (edges_of whole first part) (edges_from whole (after_part whole first part) parts) e listed)

-- ---- names

-- two processes have different names
abbrev pub Differ : Process → Process → Type 0
Differ a b = a.name ≢ b.name

-- an instance's number fits in 64 bits
small : (whole period i : ℕ) → whole ≤ 1000000000 → i < whole / period → i < 2 ^ 64
small whole period i short early = omega (arith, short, early, div-le_self whole period)

-- the names of the processes of one part's instances differ
own_names : (whole p : ℕ) (part : Part) → whole ≤ 1000000000 → p < 10 → IsWithinLimits part.problem →
    AllPairs Differ (processes_of whole p part)
-- two names of one instance differ as they do in the part (`limits.process_names`); two of different instances differ
-- by the instances' numbers
own_names whole p part short few limits =
    AllPairs-flat_map_in (λ (i : ℕ) (j : ℕ). i ≢ j) Differ (processes_in p part) (instances whole part)
    (λ i i_listed. AllPairs-map Differ Differ (copied_process p i part) part.problem.processes
    (λ a b apart same. apart (same_copy p i p i a.name b.name (omega (arith, few))
    (small whole part.period i short (numbers-Contains (whole / part.period) i i_listed)) (omega (arith, few))
    (small whole part.period i short (numbers-Contains (whole / part.period) i i_listed)) same).2)
    limits.process_names)
    (λ i j a b i_listed j_listed apart a_listed b_listed same.
    let (x, _, is) = Contains-map_parts (copied_process p i part) part.problem.processes a a_listed in
    let (y, _, be) = Contains-map_parts (copied_process p j part) part.problem.processes b b_listed in
    apart (same_copy p i p j x.name y.name (omega (arith, few))
    (small whole part.period i short (numbers-Contains (whole / part.period) i i_listed)) (omega (arith, few))
    (small whole part.period j short (numbers-Contains (whole / part.period) j j_listed))
    (ap (λ (q : Process). q.name) is ∙ same ∙ ap (λ (q : Process). q.name) (sym be))).1)
    (numbers_apart (whole / part.period))

-- the names of all processes of the parts differ
names_differ : (whole p : ℕ) (parts : List Part) → whole ≤ 1000000000 → p + length parts ≤ 10 →
    ((part : Part) → Contains parts part → IsWithinLimits part.problem) →
    AllPairs Differ (processes_from whole p parts)
-- By induction on the parts: the names of the first part differ among themselves, and so do those of the others. Those of the
-- first differ from those of the others by the number of the part.
names_differ whole p [] short few within = AllPairs-nil Differ
names_differ whole p (part ∷ parts) short few within =
    AllPairs-append Differ (processes_of whole p part) (processes_from whole (p + 1) parts)
    (own_names whole p part short (omega (arith, few)) (within part (Contains-first part parts)))
    (names_differ whole (p + 1) parts short (omega (arith, few))
    (λ other other_listed. within other (Contains-rest part parts other other_listed)))
    (λ a b a_listed b_listed same.
    let first_copy = of_part whole p part a a_listed in
    let later_copy = of_parts whole (p + 1) parts b b_listed in
    let numbers = same_copy p first_copy.instance
    (p + 1 + later_copy.place) later_copy.copy.instance first_copy.process.name later_copy.copy.process.name
    (omega (arith, few)) (small whole part.period first_copy.instance short first_copy.early)
    (omega (arith, few, later_copy.within))
    (small whole later_copy.part.period later_copy.copy.instance short later_copy.copy.early)
    (ap (λ (q : Process). q.name) first_copy.is ∙ same ∙ ap (λ (q : Process). q.name) (sym later_copy.copy.is)) in
    absurd (omega (arith, numbers.0)))

-- ---- the whole

-- what holds of each element of a list holds of all
all_from : {X : Type 0} (P : X → Type 0) (xs : List X) → ((x : X) → Contains xs x → P x) → All P xs
all_from P xs holds k d inside = holds (get_or xs k d) (Contains-get_or xs k d inside)

-- what holds of each part holds of a part that is among them
pub each_contained : (P : ℕ → Part → Type 0) (parts : List Part) → HoldsOfEach P parts → (part : Part) →
    Contains parts part →
    (p : ℕ) × P p part
each_contained P parts all_hold part (k, inside, is) = (k, subst (P k) is (all_hold k part inside))

-- the first part has the first graph
pub first_there : (parts : List Part) (d : Part) → 1 ≤ length parts → (get_or parts 0 d).problem ≡ first_graph parts
first_there [] d some = absurd (omega (arith, some))
first_there (part ∷ parts) d some = refl

-- given: one to four parts within the limits that fit together over a hyperperiod
-- `some`, `few`: there are one to four parts; `over`: they fit together over `whole`; `within`: each is within the
-- limits
module _ (whole : ℕ) (parts : List Part) (some : 1 ≤ length parts) (few : length parts ≤ 4) (over : AreOver parts whole)
    (within : HoldsOfEach (λ p part. IsWithinLimits part.problem) parts) where
  -- the first part's graph is within the limits
  first_within : IsWithinLimits (first_graph parts)
  first_within = subst IsWithinLimits (first_there parts none some) (within 0 none some)
    where
      -- what an index past the end would show
      none : Part
      none = record { period = 0; problem = first_graph [] }

  -- each process of the whole is within the limits
  process_within : (x : Process) → Contains (processes_from whole 0 parts) x →
      IsProcessWithin (length (first_graph parts).nodes) x
  process_within x listed =
      -- x is the copy of a process q of some part; its works are those of q, and its release and its due are those of
      -- q shifted by the periods before its instance, so they lie within the hyperperiod
      let among = of_parts whole 0 parts x listed in
      let part = among.part in
      let q = among.copy.process in
      -- the part is within the limits, has the first part's nodes, and fits its period
      let here : IsWithinLimits part.problem =
      subst (λ (d : Part). IsWithinLimits d.problem) among.there (within among.place part among.within) in
      let alike =
      subst (λ d. IsAlike (first_graph parts) d) among.there (over.fitting.alike among.place part among.within) in
      let fits = subst FitsPeriod among.there (over.fitting.fitting among.place part among.within) in
      -- so is q
      let old : IsProcessWithin (length part.problem.nodes) q = contained (IsProcessWithin (length part.problem.nodes))
      part.problem.processes q here.processes among.copy.has in
      let soon : q.release ≤ part.period =
      contained (λ r. r.release ≤ part.period) part.problem.processes q fits.releases among.copy.has in
      -- its release and its due are within the whole
      let release = in_time among.copy.instance (whole / part.period) part.period whole q.release among.copy.early
      (div-mul-le_self whole part.period) soon in
      let due = in_time among.copy.instance (whole / part.period) part.period whole
      (lesser_due part.problem.deadline q.deadline) among.copy.early (div-mul-le_self whole part.period)
      (omega (arith, lesser_due_le part.problem.deadline q.deadline, fits.deadline)) in
      -- the copy is within the limits
      let made : IsProcessWithin (length (first_graph parts).nodes)
      (copied_process (0 + among.place) among.copy.instance part q) = record {
        node = omega (arith, old.node, ap length alike.nodes);
        works = old.works;
        wcet = old.wcet;
        divided = old.divided;
        parts = old.parts;
        alpha = old.alpha;
        chi = old.chi;
        mu = old.mu;
        release = omega (arith, release, over.short);
        deadline = omega (arith, due, over.short);
      } in
      subst (IsProcessWithin (length (first_graph parts).nodes)) among.copy.is made

  -- the graph of all instances is within the limits, if it has few enough of each
  pub unrolled_within : HasFewEnough (unrolled whole parts) → IsWithinLimits (unrolled whole parts)
  unrolled_within counts =
      let limits = λ (part : Part) (listed : Contains parts part).
      (each_contained (λ p d. IsWithinLimits d.problem) parts within part listed).1 in
      record {
        -- the whole is short enough, and faults, nodes and slots are those of the first part
        faults = first_within.faults;
        deadline = over.short;
        few_nodes = first_within.few_nodes;
        few_slots = first_within.few_slots;
        few_processes = counts.processes;
        few_edges = counts.edges;
        few_conditions = counts.conditions;
        slots = first_within.slots;
        -- each process and each edge has numbers in range
        processes =
            all_from (IsProcessWithin (length (first_graph parts).nodes)) (processes_from whole 0 parts) process_within;
        edges = all_from (IsEdgeWithin (length (processes_from whole 0 parts))) (edges_from whole 0 parts)
            (λ e listed. subst (λ n. IsEdgeWithin n e) (nothing_before (length (processes_from whole 0 parts)))
            (edges_within whole 0 0 parts limits e listed));
        node_names = first_within.node_names;
        -- the copies have names of their own
        process_names = names_differ whole 0 parts over.short (omega (arith, few)) limits;
        own_slots = first_within.own_slots;
        order = tt;
      }
