-- The first bytes of a pack: they are refused where they end, since no pack is a proper front of another.
use Rattle.std.proofs.Common.{ℕ, zero, suc, ◌≡◌, List, [], ◌∷◌, ◌++◌, length, take, drop, refl, sym, ap, ◌∙◌, subst}
use Rattle.std.proofs.Common.{arith}
use Rattle.std.proofs.lemmas.List.{length-append, length-take}
use Rattle.cpg_codec.specs.Packs.{BeginsPack}
use Rattle.cpg_codec.specs.Spelling.{spelling}
use Rattle.cpg_codec.proofs.Theorems.{no_proper_prefix}
use Rattle.cpg_laws.specs.Packs.{FrontsOfPacksAreRefused}

-- a list `xs` is its first `n` elements and then the others
parted : {X : Type 0} (n : ℕ) (xs : List X) → xs ≡ take n xs ++ drop n xs
parted zero xs = refl
parted (suc n) [] = refl
parted (suc n) (x ∷ xs) = ap (λ l. x ∷ l) (parted n xs)

-- the first `n` of the first `n` elements of `xs` are these
again : {X : Type 0} (n : ℕ) (xs : List X) → take n (take n xs) ≡ take n xs
again zero xs = refl
again (suc n) [] = refl
again (suc n) (x ∷ xs) = ap (λ l. x ∷ l) (again n xs)

-- A proper front of a pack is rejected where it ends.
-- The whole front begins the pack, so nothing shorter is where it goes wrong. It is no pack itself, since no pack is a
-- proper front of another.
pub fronts_of_packs : FrontsOfPacksAreRefused
fronts_of_packs t n lawful n_short =
    let front : length (take n (spelling t)) ≡ n = omega (arith, length-take n (spelling t), n_short) in
    record {
      place = omega (arith, front);
      goes_on = subst BeginsPack (sym (again n (spelling t))) (t, drop n (spelling t), lawful, parted n (spelling t));
      no_further = λ less _. absurd (omega (arith, front, less));
      longest = λ m le _. omega (arith, front, le);
      no_pack = λ other other_lawful same.
          let no_rest = no_proper_prefix t other (drop n (spelling t)) lawful other_lawful
          (parted n (spelling t) ∙ ap (λ b. b ++ drop n (spelling t)) same) in
          let none : length (drop n (spelling t)) ≡ 0 = ap length no_rest in
          absurd (omega (
            arith,
            none,
            front,
            n_short,
            ap length (parted n (spelling t)),
            length-append (take n (spelling t)) (drop n (spelling t)),
          ));
    }
