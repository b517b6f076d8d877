-- How many processes and edges there are in all instances. In the lemmas `whole` is the hyperperiod, p a part, and
-- `first` the number of a part's first process.
use Rattle.std.proofs.Common.{◌≡◌, ℕ, ◌+◌, ◌*◌, ◌/◌, ◌<◌, ◌≤◌, Bool, true, false, List, [], ◌∷◌, ◌++◌, length}
use Rattle.std.proofs.Common.{length-append, append-nil, append_assoc, get_or, drop, filter, refl, sym, ap, ◌∙◌, arith}
use Rattle.std.specs.Prelude.{All}
use Rattle.std.specs.List.{flat_map}
use Rattle.std.proofs.Math.Nat.{div-le_self}
use Rattle.std.proofs.lemmas.List.{length-map}
use Rattle.std.proofs.lemmas.List.FromFn.{length-range_with_len}
use Rattle.std.proofs.lemmas.Grind.{flat_map-append, common_steps}
use Rattle.cpg_base.specs.Numbers.{numbers_below}
use Rattle.cpg_base.specs.Limits.{IsEdgeWithin, IsWithinLimits}
use Rattle.cpg_base.specs.declared.process.Edge.{Edge}
use Rattle.cpg_base.proofs.Lists.{below_push, filter_below_push}
use Rattle.cpg_reader.proofs.Each.{drop-here}
use Rattle.cpg_hyper.specs.declared.part.Part.{Part}
use Rattle.cpg_hyper.specs.Unrolled.{size_of, instances, processes_in, processes_of, processes_from, edges_in, edges_of}
use Rattle.cpg_hyper.specs.Unrolled.{edges_from, after_part}

-- pieces of one length have together that length times their number
pub constant_pieces : {X Y : Type 0} (f : X → List Y) (n : ℕ) → ((x : X) → length (f x) ≡ n) → (xs : List X) →
    length (flat_map f xs) ≡ length xs * n
constant_pieces f n lengths [] = omega arith
constant_pieces f n lengths (x ∷ xs) =
    omega (arith, lengths x, constant_pieces f n lengths xs, length-append (f x) (flat_map f xs))

-- a part has as many instances as its period goes into the whole
instance_count : (whole : ℕ) (part : Part) → length (instances whole part) ≡ whole / part.period
instance_count whole part = length-range_with_len 0 (whole / part.period)

-- all instances of a part have together its number of processes times the number of instances
pub processes_size : (whole p : ℕ) (part : Part) →
    length (processes_of whole p part) ≡ whole / part.period * size_of part
processes_size whole p part = constant_pieces (processes_in p part) (size_of part)
    (λ i. length-map part.problem.processes _) (instances whole part) ∙
    ap (λ n. n * size_of part) (instance_count whole part)

-- all instances of a part have together its number of edges times the number of instances
pub edges_size : (whole first : ℕ) (part : Part) →
    length (edges_of whole first part) ≡ whole / part.period * length part.problem.edges
edges_size whole first part = constant_pieces (edges_in first part) (length part.problem.edges)
    (λ i. length-map part.problem.edges _) (instances whole part) ∙
    ap (λ n. n * length part.problem.edges) (instance_count whole part)

-- the number of edges does not depend on the number of their first process
pub same_length : (whole a b : ℕ) (parts : List Part) →
    length (edges_from whole a parts) ≡ length (edges_from whole b parts)
-- by induction on the parts
same_length whole a b [] = refl
same_length whole a b (part ∷ parts) = omega (
  arith,
  length-append (edges_of whole a part) (edges_from whole (after_part whole a part) parts),
  length-append (edges_of whole b part) (edges_from whole (after_part whole b part) parts),
  edges_size whole a part,
  edges_size whole b part,
  same_length whole (after_part whole a part) (after_part whole b part) parts,
)

-- a product of factors that are no less is no less
product_le : (a b c d : ℕ) → a ≤ b → c ≤ d → a * c ≤ b * d
product_le a b c d a_le c_le = grind (arith, common_steps)

-- if a part has at most `most` processes or edges, all its instances have at most 10^9 times as many, since there are at most
-- 10^9 instances
pub part_le : (whole period count most : ℕ) → whole ≤ 1000000000 → count ≤ most →
    whole / period * count ≤ 1000000000 * most
part_le whole period count most whole_small count_small =
    product_le (whole / period) 1000000000 count most (omega (arith, div-le_self whole period, whole_small)) count_small

-- given: the part at a place of the list
-- `i`, `part`, `inside`, `is`: the part at place `i`; `whole`: the hyperperiod
module _ (parts : List Part) (i : ℕ) (part : Part) (inside : i < length parts) (is : part ≡ get_or parts i part)
    (whole : ℕ) where
  -- with one more part its processes are counted, and no longer left
  pub more_processes : (all total : ℕ) → all ≡ total + length (processes_from whole i (drop i parts)) →
      all ≡ total + whole / part.period * size_of part + length (processes_from whole (i + 1) (drop (i + 1) parts))
  more_processes all total so_far = so_far ∙ rw (drop-here parts i part inside is)
      (omega (
        arith,
        length-append (processes_of whole i part) (processes_from whole (i + 1) (drop (i + 1) parts)),
        processes_size whole i part,
      ))

  -- with one more part its edges are counted, and no longer left
  pub more_edges : (all total : ℕ) → all ≡ total + length (edges_from whole 0 (drop i parts)) →
      all ≡ total + whole / part.period * length part.problem.edges + length (edges_from whole 0 (drop (i + 1) parts))
  more_edges all total so_far = so_far
      ∙ rw (drop-here parts i part inside is) (omega (
        arith,
        length-append (edges_of whole 0 part) (edges_from whole (after_part whole 0 part) (drop (i + 1) parts)),
        edges_size whole 0 part,
        same_length whole (after_part whole 0 part) 0 (drop (i + 1) parts),
      ))

  -- with one more part its edges are added, and no longer left
  pub next_edges : (all out new : List Edge) (first : ℕ) → all ≡ out ++ edges_from whole first (drop i parts) →
      new ≡ out ++ edges_of whole first part →
      all ≡ new ++ edges_from whole (after_part whole first part) (drop (i + 1) parts)
  next_edges all out new first so_far is_new = so_far ∙ rw (drop-here parts i part inside is) (sym (append_assoc out
      (edges_of whole first part) (edges_from whole (after_part whole first part) (drop (i + 1) parts)))) ∙
      ap (λ xs. xs ++ edges_from whole (after_part whole first part) (drop (i + 1) parts)) (sym is_new)

-- the pieces of one more instance are added
pub next_instance : {X : Type 0} (f : ℕ → List X) (n : ℕ) (old out new : List X) →
    out ≡ old ++ flat_map f (numbers_below n) → new ≡ out ++ f n →
    new ≡ old ++ flat_map f (numbers_below (n + 1))
next_instance f n old out new so_far is_new =
    is_new ∙ ap (λ xs. xs ++ f n) so_far ∙ append_assoc old (flat_map f (numbers_below n)) (f n)
    ∙ ap (λ xs. old ++ xs) (ap (λ xs. flat_map f (numbers_below n) ++ xs) (sym (append-nil (f n)))
    ∙ sym (flat_map-append f (numbers_below n) (n ∷ [])) ∙ ap (flat_map f) (sym (below_push n)))

-- a graph without processes has no edges
no_edges : (n : ℕ) (es : List Edge) → n ≡ 0 → All (IsEdgeWithin n) es → es ≡ []
no_edges n [] is_zero ends = refl
no_edges n (d ∷ es) is_zero ends = absurd (omega (arith, (ends 0 d (omega arith)).from, is_zero))

-- empty pieces are together empty
pub empty_pieces : {X Y : Type 0} (f : X → List Y) → ((x : X) → f x ≡ []) → (xs : List X) → flat_map f xs ≡ []
empty_pieces f empty [] = refl
empty_pieces f empty (x ∷ xs) = rw (empty x) (empty_pieces f empty xs)

-- a part without processes has no edges
pub nothing_added : (out : List Edge) (whole first : ℕ) (part : Part) → IsWithinLimits part.problem → size_of part ≡ 0 →
    out ≡ out ++ edges_of whole first part
nothing_added out whole first part limits is_zero =
    let none = no_edges (size_of part) part.problem.edges is_zero limits.edges in
    sym (ap (λ xs. out ++ xs) (empty_pieces (edges_in first part) (λ i. rw none refl) (instances whole part))
    ∙ append-nil out)

-- given: the count of the numbers below n that pass a test
module _ (p : ℕ → Bool) (n total new : ℕ) (so_far : total ≡ length (filter p (numbers_below n))) where
  -- a number that passes is counted
  pub counted : p n ≡ true → new ≡ total + 1 → new ≡ length (filter p (numbers_below (n + 1)))
  counted passes is_new =
      is_new ∙ rw (filter_below_push p n, passes)
      (omega (arith, so_far, length-append (filter p (numbers_below n)) (n ∷ [])))

  -- a number that fails is passed over
  pub passed : p n ≡ false → new ≡ total → new ≡ length (filter p (numbers_below (n + 1)))
  passed fails is_new =
      is_new ∙ rw (filter_below_push p n, fails)
      (omega (arith, so_far, ap length (append-nil (filter p (numbers_below n)))))
