-- Lists without repeats, by a test of two elements.
use Rattle.std.proofs.Common.{◌≡◌, ◌≢◌, ◌==◌, eqb-true, ◌↔◌, ℕ, Bool, true, false, not, List, [], ◌∷◌, AllPairs, IsTrue}
use Rattle.std.proofs.Common.{refl, ◌∙◌, sym, ap, subst, true≢false, arith, get_or, suc}
use Rattle.std.specs.List.{list_any}
use Rattle.std.specs.Str.{bytes_eq}
use Rattle.std.proofs.lemmas.Slice.Eq.{bytes_eq-Decides}
use Rattle.std.proofs.lemmas.Bool.{and_parts, and_from, not-true, eqb-false, false_from_ne_true}
use Rattle.std.proofs.lemmas.List.Elements.{Contains-get_or}
use Rattle.std.proofs.lemmas.List.Kept.{AllPairs-cons}
use Rattle.cpg_base.specs.Numbers.{are_apart}
use Rattle.cpg_base.specs.Graph.{Process, Slot}
use Rattle.cpg_base.proofs.Lists.{list_any_false, from_any_false}

-- given: x and y are related by R exactly if the test `same` fails for them
module _ {X : Type 0} (same : X → X → Bool) (R : X → X → Type 0) (to : (x y : X) → same x y ≡ false → R x y)
    (back : (x y : X) → R x y → same x y ≡ false) where
  -- if no element of xs passes the test with a later one, all pairs of xs are related
  pub pairs_from_apart : (xs : List X) → are_apart same xs ≡ true → AllPairs R xs
  pairs_from_apart [] apart = λ i j d i_before_j j_inside. absurd (omega arith)
  pairs_from_apart (x ∷ xs) apart =
      let parts = and_parts (not (list_any (same x) xs)) (are_apart same xs) apart in
      AllPairs-cons R x xs (λ k d inside. to x (get_or xs k d) (from_any_false (same x) xs (get_or xs k d)
      (not-true (list_any (same x) xs) parts.0) (Contains-get_or xs k d inside))) (pairs_from_apart xs parts.1)

  -- if all pairs of xs are related, no element of xs passes the test with a later one
  pub apart_from_pairs : (xs : List X) → AllPairs R xs → are_apart same xs ≡ true
  apart_from_pairs [] related = refl
  apart_from_pairs (x ∷ xs) related = and_from (not (list_any (same x) xs)) (are_apart same xs)
      (ap not (list_any_false (same x) xs
      (λ y within. back x y (subst (R x) within.2
      (related 0 (suc within.0) y (omega arith) (omega (arith, within.1)))))))
      (apart_from_pairs xs (λ i j d i_before_j j_inside. related (suc i) (suc j) d (omega arith) (omega arith)))

  -- the answer b of the test of xs says whether all pairs of xs are related
  pub apart_iff : (b : Bool) (xs : List X) → are_apart same xs ≡ b → IsTrue b ↔ AllPairs R xs
  apart_iff true xs is = (λ _. pairs_from_apart xs is, λ _. refl)
  apart_iff false xs is =
      (λ given. absurd (true≢false (sym given)), λ given. absurd (true≢false (sym (apart_from_pairs xs given) ∙ is)))

-- names that the comparison of bytes tells apart differ
names_differ : (x y : List ℕ) → bytes_eq x y ≡ false → x ≢ y
names_differ x y fails is = true≢false (sym ((bytes_eq-Decides x y).1 is) ∙ fails)

-- names that aren't the same have different bytes
differ_names : (x y : List ℕ) → x ≢ y → bytes_eq x y ≡ false
differ_names x y apart = false_from_ne_true (bytes_eq x y) (λ t. apart ((bytes_eq-Decides x y).0 t))

-- the test of a list of names says whether no two are equal
pub names_apart : (b : Bool) (xs : List (List ℕ)) → are_apart bytes_eq xs ≡ b → IsTrue b ↔ AllPairs (λ x y. x ≢ y) xs
names_apart b xs e = apart_iff bytes_eq (λ x y. x ≢ y) names_differ differ_names b xs e

-- the test of a list of processes says whether no two have the same name
pub processes_apart : (b : Bool) (ps : List Process) → are_apart (λ p q. bytes_eq p.name q.name) ps ≡ b →
    IsTrue b ↔ AllPairs (λ p q. p.name ≢ q.name) ps
processes_apart b ps e = apart_iff (λ p q. bytes_eq p.name q.name) (λ p q. p.name ≢ q.name)
    (λ p q. names_differ p.name q.name) (λ p q. differ_names p.name q.name) b ps e

-- the test of a list of slots says whether no two belong to the same node
pub slots_apart : (b : Bool) (ss : List Slot) → are_apart (λ s t. s.node == t.node) ss ≡ b →
    IsTrue b ↔ AllPairs (λ s t. s.node ≢ t.node) ss
slots_apart b ss e = apart_iff (λ s t. s.node == t.node) (λ s t. s.node ≢ t.node) (λ s t e. eqb-false s.node t.node e)
    (λ s t apart. false_from_ne_true (s.node == t.node) (λ e. apart (eqb-true s.node t.node e))) b ss e
