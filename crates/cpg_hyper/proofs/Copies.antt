-- Where the copies of a process stand. In the lemmas `whole` is the hyperperiod, p a part, i an instance of it, q a
-- process of it, and `first` the number of the list's first part.
use Rattle.std.proofs.Common.{◌≡◌, ℕ, zero, suc, ◌+◌, ◌*◌, ◌/◌, ◌<◌, ◌≤◌, false, List, [], ◌∷◌, ◌++◌, length}
use Rattle.std.proofs.Common.{length-append, get_or, take, flat_map, None, sym, ap, ◌∙◌, arith}
use Rattle.std.proofs.lemmas.List.{length-take, length-map, get_or-map, get_or_append_left, get_or-append-add}
use Rattle.std.proofs.lemmas.List.Concat.{get_or-flat_map}
use Rattle.std.proofs.lemmas.List.FromFn.{length-range_with_len, get_or-range_with_len}
use Rattle.std.proofs.lemmas.Grind.{common_steps}
use Rattle.cpg_base.specs.Graph.{process_at}
use Rattle.cpg_base.specs.declared.process.Process.{Process}
use Rattle.cpg_hyper.specs.declared.part.Part.{Part}
use Rattle.cpg_hyper.specs.Unrolled.{copied_process, size_of, instances, processes_in, processes_of, processes_from}
use Rattle.cpg_hyper.specs.Instances.{part_at, IsInstance, processes_before, first_process_of}
use Rattle.cpg_hyper.specs.Laws.{InstancesAreCopies}
use Rattle.cpg_hyper.proofs.Counted.{constant_pieces, processes_size}

-- a product grows with its first factor
pub product_le : (a b c : ℕ) → a ≤ b → a * c ≤ b * c
product_le a b c no_more = grind (arith, common_steps)

-- a place in one of n pieces of one size lies within all of them
pub within_pieces : (i n size q : ℕ) → i < n → q < size → i * size + q < n * size
within_pieces i n size q early inside =
    let most : (i + 1) * size ≤ n * size = product_le (i + 1) n size (omega (arith, early)) in
    omega (arith, most, inside)

-- what an index past the end would show
abbrev pub none : Process
none = record {
  name = [];
  node = 0;
  wcet = 0;
  parts = 1;
  alpha = 0;
  chi = 0;
  mu = 0;
  join = false;
  frozen = false;
  release = 0;
  deadline = None;
}

-- i instances come before instance i
pub take_count : (whole i : ℕ) (part : Part) → i < whole / part.period → length (take i (instances whole part)) ≡ i
take_count whole i part inside =
    omega (arith, length-take i (instances whole part), length-range_with_len 0 (whole / part.period), inside)

-- the copy of a process stands at its place among the processes of its part's instances
in_part : (whole p i q : ℕ) (part : Part) → i < whole / part.period → q < size_of part →
    get_or (processes_of whole p part) (i * size_of part + q) none ≡ copied_process p i part
    (get_or part.problem.processes q none)
in_part whole p i q part instance_inside process_inside =
    let copied = processes_in p part in
    let numbers = instances whole part in
    let count : i < length numbers = omega (arith, length-range_with_len 0 (whole / part.period), instance_inside) in
    let here : get_or numbers i 0 ≡ i = get_or-range_with_len 0 (whole / part.period) i 0 instance_inside
    ∙ nothing_before i in
    let front : length (flat_map copied (take i numbers)) ≡ i * size_of part =
    constant_pieces copied (size_of part) (λ j. length-map part.problem.processes _) (take i numbers) ∙
    ap (λ n. n * size_of part) (take_count whole i part instance_inside) in
    ap (λ n. get_or (processes_of whole p part) (n + q) none) (sym front)
    ∙ get_or-flat_map copied numbers i q 0 none count
    (omega (arith, length-map part.problem.processes (copied_process p (get_or numbers i 0) part), process_inside))
    ∙ ap (λ j. get_or (copied j) q none) here
    ∙ get_or-map (copied_process p i part) part.problem.processes q none none process_inside
  where
    -- 0 is left out of a sum
    nothing_before : (n : ℕ) → 0 + n ≡ n
    nothing_before n = omega arith

-- the copy of a part's process stands at its place after the instance's first process
pub copy_at : (whole first : ℕ) (parts : List Part) (p i q : ℕ) → IsInstance whole parts p i →
    q < size_of (part_at parts p)
    → get_or (processes_from whole first parts) (processes_before whole parts p + i * size_of (part_at parts p) + q) none
    ≡ copied_process (first + p) i (part_at parts p)
    (get_or (part_at parts p).problem.processes q none)
copy_at whole first [] p i q is_instance q_inside = absurd (omega (arith, is_instance.part))
copy_at whole first (part ∷ parts) zero i q is_instance q_inside =
    let size = processes_size whole first part in
    let inside = within_pieces i (whole / part.period) (size_of part) q is_instance.instance q_inside in
    get_or_append_left (processes_of whole first part) (processes_from whole (first + 1) parts) none
    (0 + i * size_of part + q) (omega (arith, size, inside))
    ∙ ap (λ n. get_or (processes_of whole first part) n none) (drop_zero (i * size_of part) q)
    ∙ in_part whole first i q part is_instance.instance q_inside
    ∙ ap (λ n. copied_process n i part (get_or part.problem.processes q none)) (same_sum first)
  where
    -- a 0 in front of two numbers adds nothing
    drop_zero : (a b : ℕ) → 0 + a + b ≡ a + b
    drop_zero a b = omega arith

    -- nothing is added at the end
    same_sum : (n : ℕ) → n ≡ n + 0
    same_sum n = omega arith
copy_at whole first (part ∷ parts) (suc p) i q is_instance q_inside =
    let size = processes_size whole first part in
    let number = processes_before whole parts p + i * size_of (part_at parts p) + q in
    ap (λ m. get_or (processes_of whole first part ++ processes_from whole (first + 1) parts) m none)
    (moved (whole / part.period * size_of part) (processes_before whole parts p) (i * size_of (part_at parts p)) q
    (length (processes_of whole first part)) size)
    ∙ get_or-append-add (processes_of whole first part) (processes_from whole (first + 1) parts) number none
    ∙ copy_at whole (first + 1) parts p i q
    (record { part = omega (arith, is_instance.part); instance = is_instance.instance }) q_inside
    ∙ ap (λ m. copied_process m i (part_at parts p) (get_or (part_at parts p).problem.processes q none))
    (next_sum first p)
  where
    -- a part's own processes, and then those before the copy
    moved : (own b c q all : ℕ) → all ≡ own → own + b + c + q ≡ all + (b + c + q)
    moved own b c q all same = omega (arith, same)

    -- one more is counted on either side
    next_sum : (a b : ℕ) → a + 1 + b ≡ a + suc b
    next_sum a b = omega arith

-- an instance lies within the whole
pub within_whole : (whole first : ℕ) (parts : List Part) (p i : ℕ) → IsInstance whole parts p i →
    first_process_of whole parts p i + size_of (part_at parts p) ≤ length (processes_from whole first parts)
-- by induction on the parts
within_whole whole first [] p i is_instance = absurd (omega (arith, is_instance.part))
-- an instance of the first part: its number is below the number of instances
within_whole whole first (part ∷ parts) zero i is_instance =
    let most : (i + 1) * size_of part ≤ whole / part.period * size_of part =
    product_le (i + 1) (whole / part.period) (size_of part) (omega (arith, is_instance.instance)) in
    omega (
      arith,
      most,
      processes_size whole first part,
      length-append (processes_of whole first part) (processes_from whole (first + 1) parts),
    )
-- an instance of a later part
within_whole whole first (part ∷ parts) (suc p) i is_instance =
    omega (
      arith,
      within_whole whole (first + 1) parts p i
          (record { part = omega (arith, is_instance.part); instance = is_instance.instance }),
      processes_size whole first part,
      length-append (processes_of whole first part) (processes_from whole (first + 1) parts),
    )

-- each process of an instance is the copy of its part's process
pub are_copies : InstancesAreCopies
are_copies whole parts p i q is_instance inside = copy_at whole 0 parts p i q is_instance inside
    ∙ ap (λ n. copied_process n i (part_at parts p) (process_at (part_at parts p).problem q)) (nothing_before p)
  where
    -- 0 is left out of a sum
    nothing_before : (n : ℕ) → 0 + n ≡ n
    nothing_before n = omega arith
