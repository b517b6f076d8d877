-- The edges of the whole around those of an instance: no other edge begins or ends at one of its processes. In the
-- lemmas `first` is the number of a part's first process, p is a part, i an instance of it, and e an edge.
use Rattle.std.proofs.Common.{◌≡◌, ℕ, zero, suc, ◌+◌, ◌-◌, ◌*◌, ◌/◌, ◌<◌, ◌≤◌, List, [], ◌∷◌, ◌++◌, length}
use Rattle.std.proofs.Common.{length-append, append_assoc, map, flat_map, Contains, sym, ap, ◌∙◌, subst, arith, ⊎_elim}
use Rattle.std.specs.List.{range_with_len}
use Rattle.std.proofs.lemmas.List.{length-map}
use Rattle.std.proofs.lemmas.List.Elements.{Contains-append_cases}
use Rattle.std.proofs.lemmas.List.FromFn.{length-range_with_len}
use Rattle.std.proofs.lemmas.Grind.{flat_map-append}
use Rattle.cpg_base.specs.Numbers.{numbers_below}
use Rattle.cpg_base.specs.Limits.{IsEdgeWithin, IsWithinLimits}
use Rattle.cpg_base.specs.declared.process.Edge.{Edge}
use Rattle.cpg_base.proofs.Lists.{Contains-first, Contains-rest, Contains-nil, Contains-map_parts}
use Rattle.cpg_base.proofs.Lists.{Contains-flat_map_parts, from_range}
use Rattle.cpg_table.proofs.GraphItems.{range-append}
use Rattle.cpg_hyper.specs.declared.part.Part.{Part}
use Rattle.cpg_hyper.specs.Unrolled.{copied_edge, size_of, first_in, after_part, edges_in, edges_of, edges_from}
use Rattle.cpg_hyper.specs.Instances.{part_at, IsInstance, processes_before, first_process_of, edges_before, first_edge_of}
use Rattle.cpg_hyper.proofs.Counted.{constant_pieces, edges_size}
use Rattle.cpg_hyper.proofs.Copies.{product_le}
use Rattle.cpg_hyper.proofs.CopiedEdges.{next_first, same_first}
use Rattle.cpg_hyper.proofs.Whole.{contained}

-- both ends of an edge lie between two numbers
pub record LiesBetween (low high : ℕ) (e : Edge) : Type 0 where
  -- its source is at least the one and less than the other
  pub from : low ≤ e.from
  pub from_ends : e.from < high
  -- and so is its target
  pub to : low ≤ e.to
  pub to_ends : e.to < high

-- a copied edge lies between the first processes of its instance and the next
of_instance : (first a b i size : ℕ) (e d : Edge) → a ≤ i → i < b → IsEdgeWithin size d →
    copied_edge (first + i * size) d ≡ e →
    LiesBetween (first + a * size) (first + b * size) e
-- the ends of the copy are those of the edge moved by the instance's first process, which is a * size or more behind `first`
of_instance first a b i size e d low high old_within is =
    let least : a * size ≤ i * size = product_le a i size low in
    let most : (i + 1) * size ≤ b * size = product_le (i + 1) b size (omega (arith, high)) in
    let from : e.from ≡ first + i * size + d.from = ap (λ (x : Edge). x.from) (sym is) in
    let to : e.to ≡ first + i * size + d.to = ap (λ (x : Edge). x.to) (sym is) in
    record {
      from = omega (arith, least, from);
      from_ends = omega (arith, most, from, old_within.from);
      to = omega (arith, least, to);
      to_ends = omega (arith, most, to, old_within.to);
    }

-- both ends of each edge of k instances of a part, from one on, lie between two numbers
pub lies_in : (first a k : ℕ) (part : Part) → IsWithinLimits part.problem → (e : Edge) →
    Contains (flat_map (edges_in first part) (range_with_len a k)) e →
    LiesBetween (first + a * size_of part) (first + (a + k) * size_of part) e
lies_in first a k part within e listed =
    let (i, among, here) = Contains-flat_map_parts (edges_in first part) (range_with_len a k) e listed in
    let (d, has, is) = Contains-map_parts (copied_edge (first_in first part i)) part.problem.edges e here in
    let range = from_range a k i among in
    of_instance first a (a + k) i (size_of part) e d range.0 range.1
    (contained (IsEdgeWithin (size_of part)) part.problem.edges d within.edges has) is

-- the edges of the parts from a first process on lie at this process or above
lies_above : (whole first : ℕ) (parts : List Part) →
    ((part : Part) → Contains parts part → IsWithinLimits part.problem) → (e : Edge) →
    Contains (edges_from whole first parts) e →
    (first ≤ e.from) ×
    (first ≤ e.to)
-- by induction on the parts
lies_above whole first [] within e listed = absurd (Contains-nil e listed)
lies_above whole first (part ∷ parts) within e listed = ⊎_elim
    (λ (in_own : Contains (edges_of whole first part) e).
    let bounds = lies_in first 0 (whole / part.period) part (within part (Contains-first part parts)) e in_own in
    (omega (arith, bounds.from), omega (arith, bounds.to)))
    (λ (in_later : Contains (edges_from whole (after_part whole first part) parts) e).
    let bounds = lies_above whole (after_part whole first part) parts
    (λ other k. within other (Contains-rest part parts other k)) e in_later in
    (omega (arith, bounds.0), omega (arith, bounds.1)))
    (Contains-append_cases (edges_of whole first part) (edges_from whole (after_part whole first part) parts) e listed)

-- the edges `mine` stand in one piece from edge n on; those before them are on processes below `first`, and those after
-- them on processes from `first + size` on
pub record AreAround (n first size : ℕ) (all mine : List Edge) : Type 0 where
  -- the edges before `mine`, and those after them
  pub front : List Edge
  pub back : List Edge
  -- all edges are these three pieces, and the first of them has n edges
  pub are : all ≡ front ++ (mine ++ back)
  pub long : length front ≡ n
  -- both ends of an edge before `mine` are below `first`, and those of an edge after them are `first + size` or above
  pub earlier : (e : Edge) → Contains front e → (e.from < first) × (e.to < first)
  pub later : (e : Edge) → Contains back e → (first + size ≤ e.from) × (first + size ≤ e.to)

-- the numbers below n are those before i, i, and those after it
cut : (n i k : ℕ) → n ≡ i + suc k → numbers_below n ≡ numbers_below i ++ i ∷ range_with_len (i + 1) k
cut n i k is = ap (λ m. numbers_below m) is ∙ range-append 0 i (suc k)
    ∙ ap (λ (m : ℕ). numbers_below i ++ range_with_len m (suc k)) (nothing_before i)
  where
    -- 0 is left out of a sum
    nothing_before : (m : ℕ) → 0 + m ≡ m
    nothing_before m = omega arith

-- a list of pieces is those before one piece, this piece, and those after it
pieces : (f : ℕ → List Edge) (xs : List ℕ) (y : ℕ) (ys : List ℕ) (rest : List Edge) →
    flat_map f (xs ++ y ∷ ys) ++ rest ≡ flat_map f xs ++ (f y ++ (flat_map f ys ++ rest))
pieces f xs y ys rest =
    ap (λ es. es ++ rest) (flat_map-append f xs (y ∷ ys)) ∙ append_assoc (flat_map f xs) (f y ++ flat_map f ys) rest ∙
    ap (λ es. flat_map f xs ++ es) (append_assoc (f y) (flat_map f ys) rest)

-- the edges of an instance stand together among those of its part and those after it
around_in : (whole first i : ℕ) (part : Part) (rest : List Edge) → IsWithinLimits part.problem →
    i < whole / part.period →
    ((e : Edge) → Contains rest e → (after_part whole first part ≤ e.from) × (after_part whole first part ≤ e.to))
    → AreAround (i * length part.problem.edges) (first_in first part i) (size_of part)
    (edges_of whole first part ++ rest) (edges_in first part i)
-- in front stand the edges of the earlier instances, behind those of the later ones and of the later parts; the
-- processes of each are numbered below or above those of this instance
around_in whole first i part rest within inside above =
    let copied = edges_in first part in
    let count = whole / part.period in
    let later_count = count - (i + 1) in
    let most : (i + 1) * size_of part ≤ count * size_of part = product_le (i + 1) count (size_of part)
    (omega (arith, inside)) in
    record {
      -- the edges of the earlier instances are in front, and all others behind
      front = flat_map copied (numbers_below i);
      back = flat_map copied (range_with_len (i + 1) later_count) ++ rest;
      -- together with the instance's own they are all edges
      are = ap (λ xs. flat_map copied xs ++ rest) (cut count i later_count (omega (arith, inside)))
          ∙ pieces copied (numbers_below i) i (range_with_len (i + 1) later_count) rest;
      long = constant_pieces copied (length part.problem.edges) (λ j. length-map part.problem.edges _) (numbers_below i)
          ∙ ap (λ m. m * length part.problem.edges) (length-range_with_len 0 i);
      -- edges in front are between lower processes
      earlier = λ e listed.
          let bounds = lies_in first 0 i part within e listed in
          (omega (arith, bounds.from_ends), omega (arith, bounds.to_ends));
      -- edges behind are between greater processes, of later instances or of later parts
      later = λ e listed. ⊎_elim
          (λ (in_instances : Contains (flat_map copied (range_with_len (i + 1) later_count)) e).
          let bounds = lies_in first (i + 1) later_count part within e in_instances in
          (omega (arith, bounds.from), omega (arith, bounds.to)))
          (λ (in_rest : Contains rest e).
          let bounds = above e in_rest in
          (omega (arith, bounds.0, most), omega (arith, bounds.1, most)))
          (Contains-append_cases (flat_map copied (range_with_len (i + 1) later_count)) rest e listed);
    }

-- edges that stand together in a list stand together in a list with more edges before them
around_later : (n own first size : ℕ) (mine new rest : List Edge) → length mine ≡ own →
    ((e : Edge) → Contains mine e → (e.from < first) × (e.to < first)) →
    AreAround n first size rest new →
    AreAround (own + n) first size (mine ++ rest) new
-- the new edges are added to those in front, since they are on processes below the first too
around_later n own first size mine new rest long below around = record {
  front = mine ++ around.front;
  back = around.back;
  are = ap (λ es. mine ++ es) around.are ∙ sym (append_assoc mine around.front (new ++ around.back));
  long = omega (arith, length-append mine around.front, long, around.long);
  earlier = λ e listed. ⊎_elim (below e) (around.earlier e) (Contains-append_cases mine around.front e listed);
  later = around.later;
}

-- a number is the sum of 0 and itself
same_edges : (a : ℕ) → a ≡ 0 + a
same_edges a = omega arith

-- the edges of a part in front are counted first
next_edges : (own b a : ℕ) → own + (b + a) ≡ own + b + a
next_edges own b a = omega arith

-- the edges of part p's instance that begins with process `begin` stand from edge n on among those of all parts
abbrev pub AreAroundAt : ℕ → ℕ → List Part → ℕ → ℕ → ℕ → Type 0
AreAroundAt whole first parts p n begin = AreAround n begin (size_of (part_at parts p)) (edges_from whole first parts)
    (map (copied_edge begin) (part_at parts p).problem.edges)

-- the edges of an instance stand together, with all other edges before or after them and their processes
pub are_around : (whole first : ℕ) (parts : List Part) →
    ((part : Part) → Contains parts part → IsWithinLimits part.problem) → (p i : ℕ) →
    IsInstance whole parts p i
    → AreAroundAt whole first parts p (first_edge_of whole parts p i) (first + first_process_of whole parts p i)
-- by induction on the parts: the instance is one of the first part, or one of a later part, with the first part's
-- edges in front
are_around whole first [] within p i is = absurd (omega (arith, is.part))
are_around whole first (part ∷ parts) within zero i is =
    -- an instance of the first part
    let here = around_in whole first i part (edges_from whole (after_part whole first part) parts)
    (within part (Contains-first part parts)) is.instance
    (lies_above whole (after_part whole first part) parts
    (λ other k. within other (Contains-rest part parts other k))) in
    subst (AreAroundAt whole first (part ∷ parts) 0 (0 + i * length part.problem.edges))
    (same_first first (i * size_of part))
    (subst (λ n. AreAroundAt whole first (part ∷ parts) 0 n (first_in first part i))
    (same_edges (i * length part.problem.edges)) here)
are_around whole first (part ∷ parts) within (suc p) i is =
    -- an instance of a later part: the first part's edges are in front too
    let next = after_part whole first part in
    let begin = next + first_process_of whole parts p i in
    let own = whole / part.period * length part.problem.edges in
    let rest = are_around whole next parts (λ other k. within other (Contains-rest part parts other k)) p i
    (record { part = omega (arith, is.part); instance = is.instance }) in
    let here = around_later (first_edge_of whole parts p i) own begin (size_of (part_at parts p))
    (edges_of whole first part) (map (copied_edge begin) (part_at parts p).problem.edges)
    (edges_from whole next parts) (edges_size whole first part)
    (λ e listed.
    let bounds = lies_in first 0 (whole / part.period) part (within part (Contains-first part parts)) e listed in
    (omega (arith, bounds.from_ends), omega (arith, bounds.to_ends)))
    rest in
    subst (AreAroundAt whole first (part ∷ parts) (suc p) (first_edge_of whole (part ∷ parts) (suc p) i))
    (next_first first (whole / part.period * size_of part) (processes_before whole parts p) (i * size_of (part_at parts p)))
    (subst (λ n. AreAroundAt whole first (part ∷ parts) (suc p) n begin)
    (next_edges own (edges_before whole parts p) (i * length (part_at parts p).problem.edges)) here)
