-- Processes that are added, instance by instance.
use Rattle.std.proofs.Common.{◌≡◌, ℕ, ◌+◌, ◌<◌, ◌≤◌, Bool, true, false, List, [], ◌∷◌, ◌++◌, length, append-nil}
use Rattle.std.proofs.Common.{append_assoc, get_or, take, map, refl, sym, ap, ◌∙◌, subst, arith, inl, inr, ⊎_elim}
use Rattle.std.proofs.Common.{◌⊎◌}
use Rattle.std.proofs.lemmas.List.{map_push, get_or_default}
use Rattle.std.proofs.lemmas.Bool.{cases_lt}
use Rattle.cpg_base.specs.declared.process.Process.{Process}
use Rattle.cpg_hyper.specs.declared.part.Part.{Part}
use Rattle.cpg_hyper.specs.Unrolled.{size_of, instances, processes_in, processes_of}
use Rattle.cpg_hyper.specs.Refusals.{AddsShort, HasShortNames, FailsFirst, HoldsBefore}
use Rattle.cpg_hyper.proofs.Counted.{empty_pieces}
use Rattle.cpg_hyper.proofs.Taken.{more}

-- if the list has what was made of the first i elements, it has with one more what is made of the first i + 1
pub made_more : {X Y : Type 0} (xs : List X) (i : ℕ) (x : X) → i < length xs → x ≡ get_or xs i x →
    (f : X → Y) (old made new : List Y) → made ≡ old ++ map f (take i xs) →
    new ≡ made ++ f x ∷ [] →
    new ≡ old ++ map f (take (i + 1) xs)
made_more xs i x inside is f old made new so_far is_new =
    is_new ∙ ap (λ ys. ys ++ f x ∷ []) so_far ∙ append_assoc old (map f (take i xs)) (f x ∷ [])
    ∙ ap (λ ys. old ++ ys) (sym (map_push f (take i xs) x) ∙ ap (map f) (sym (more xs i x inside is)))

-- if all names were short enough, the processes were added
pub added_true : (b : Bool) (old new pieces : List Process) (S : Type 0) → b ≡ true → AddsShort b old new pieces S →
    (new ≡ old ++ pieces) × S
added_true true old new pieces S answered adds = adds
added_true false old new pieces S answered adds = cc

-- if the answer is false, not all names are short enough
pub added_false : (b : Bool) (old new pieces : List Process) (S : Type 0) → b ≡ false →
    AddsShort b old new pieces S → S → ⊥
added_false false old new pieces S answered adds = adds
added_false true old new pieces S answered adds = cc

-- a number up to n is below n, or is n
last_or_before : (i n : ℕ) → i < n + 1 → (i < n) ⊎ (i ≡ n)
last_or_before i n below =
    ⊎_elim (λ (lt : i < n). inl lt) (λ (le : n ≤ i). inr (omega (arith, below, le))) (cases_lt i n)

-- what holds of the numbers below n, and of n, holds of those below n + 1
pub below_more : (P : ℕ → Type 0) (n : ℕ) → ((i : ℕ) → i < n → P i) → P n → (i : ℕ) → i < n + 1 → P i
below_more P n all_hold holds i below =
    ⊎_elim (λ (lt : i < n). all_hold i lt) (λ (same : i ≡ n). subst P (sym same) holds) (last_or_before i n below)

-- a list of no length is empty
nil_of : {X : Type 0} (xs : List X) → length xs ≡ 0 → xs ≡ []
nil_of [] is_zero = refl
nil_of (x ∷ xs) is_zero = absurd (omega (arith, is_zero))

-- a part without processes adds nothing, and none of its names is too long
pub nothing_added : (out : List Process) (whole p : ℕ) (part : Part) → size_of part ≡ 0 →
    AddsShort true out out (processes_of whole p part) (HasShortNames whole p part)
nothing_added out whole p part is_zero =
    let none = nil_of part.problem.processes is_zero in (
      sym (ap (λ xs. out ++ xs) (empty_pieces (processes_in p part) (λ i. rw none refl) (instances whole part))
          ∙ append-nil out),
      λ i i_inside k d k_inside. absurd (omega (arith, k_inside, is_zero)),
    )

-- a part of which a fact doesn't hold is the first, if the fact holds of all parts before it
pub fails_at : (P : ℕ → Part → Type 0) (parts : List Part) (p : ℕ) (part : Part) → p < length parts →
    part ≡ get_or parts p part → (P p part → ⊥) → HoldsBefore P parts p →
    FailsFirst P parts p
fails_at P parts p part inside is fails before = record {
  within = inside;
  fails = λ d holds. fails (subst (P p) (get_or_default parts p d part inside ∙ sym is) holds);
  before = before;
}
