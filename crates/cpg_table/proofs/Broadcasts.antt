-- The numbers of the broadcasts that a test of their processes wants, process by process, as a loop lists them.
use Rattle.std.proofs.Common.{◌≡◌, ℕ, ◌+◌, ◌<◌, ◌≤◌, Bool, true, false, cond, ◌&&◌, List, [], ◌∷◌, ◌++◌, length, get_or}
use Rattle.std.proofs.Common.{drop, filter, refl, sym, ap, ap₂, ◌∙◌, append_assoc, append-nil, arith}
use Rattle.std.proofs.Common.{add-one, drop-cons}
use Rattle.cpg_head.specs.declared.head_parts.HeadProcess.{HeadProcess}
use Rattle.cpg_table.specs.Items.{numbers_where}

-- whether a process has a condition
abbrev has_condition : HeadProcess → Bool
has_condition p = p.condition

-- the number `i` of the next condition is at most that of the first one, `n`, and how many processes were passed, `k`; with
-- one process more, which has a condition if `c`, this still holds
pub few_on : (c : Bool) (i n k : ℕ) → i ≤ n + k → cond c (i + 1) i ≤ n + (k + 1)
few_on true i n k few = omega arith
few_on false i n k few = omega arith

-- a process with a condition (c) that is wanted (b) puts its number i at the end of those listed, instead of at the front
-- of the rest; the rest counts on if it has a condition
either : (c b : Bool) (i : ℕ) (front : List ℕ) (more : ℕ → List ℕ) →
    (front ++ cond (c && b) (i ∷ []) []) ++ more (cond c (i + 1) i) ≡ front
    ++ cond c (cond b (i ∷ more (i + 1)) (more (i + 1)))
    (more i)
either true true i front more = append_assoc front (i ∷ []) (more (i + 1))
either true false i front more = ap (λ (t : List ℕ). t ++ more (i + 1)) (append-nil front)
either false b i front more = ap (λ (t : List ℕ). t ++ more i) (append-nil front)

-- given: a test of processes
module _ (test : HeadProcess → Bool) where
  -- the numbers of the conditions whose processes pass the test, if the first condition has the number i
  abbrev numbers : ℕ → List HeadProcess → List ℕ
  numbers i ps = numbers_where test i (filter has_condition ps)

  -- the numbers of process x and the processes in `rest`: that of x comes first if x has a condition (`c`) and passes
  numbers_first : (i : ℕ) (x : HeadProcess) (rest : List HeadProcess) (c : Bool) →
      numbers_where test i (cond c (x ∷ filter has_condition rest) (filter has_condition rest)) ≡ cond c
      (cond (test x) (i ∷ numbers (i + 1) rest) (numbers (i + 1) rest)) (numbers i rest)
  numbers_first i x rest true = refl
  numbers_first i x rest false = refl

  -- the processes from a place on are the one there and those after it
  drop_is : (ps : List HeadProcess) (k : ℕ) (x : HeadProcess) → k < length ps →
      drop k ps ≡ get_or ps k x ∷ drop (k + 1) ps
  drop_is ps k x inside = rw (add-one, drop-cons ps k x) refl

  -- x is the process at place k, which is wanted if `w`; `i` and `j` are the numbers of the next condition before it and
  -- after it. If the list `front` and the numbers from place k on make `total`, so do the list `after` and the numbers from
  -- the next place on: if x is wanted, its number goes from the numbers to the list.
  pub broadcasts_on : (ps : List HeadProcess) (k i j : ℕ) (x : HeadProcess) (w : Bool) (front after total : List ℕ) →
      x ≡ get_or ps k x → k < length ps →
      w ≡ (x.condition && test x) →
      after ≡ front ++ cond w (i ∷ []) [] → j ≡ cond x.condition (i + 1) i
      → front ++ numbers i (drop k ps) ≡ total → after ++ numbers j (drop (k + 1) ps) ≡ total
  broadcasts_on ps k i j x w front after total is lt ew ea ej so_far =
      let left : drop k ps ≡ x ∷ drop (k + 1) ps =
      drop_is ps k x lt ∙ ap (λ (y : HeadProcess). y ∷ drop (k + 1) ps) (sym is) in
      ap₂ (λ (t : List ℕ) (m : ℕ). t ++ numbers m (drop (k + 1) ps))
      (ea ∙ ap (λ (v : Bool). front ++ cond v (i ∷ []) []) ew) ej
      ∙ either x.condition (test x) i front (λ m. numbers m (drop (k + 1) ps))
      ∙ sym (ap (λ (t : List ℕ). front ++ t) (numbers_first i x (drop (k + 1) ps) x.condition))
      ∙ sym (ap (λ (qs : List HeadProcess). front ++ numbers i qs) left)
      ∙ so_far
