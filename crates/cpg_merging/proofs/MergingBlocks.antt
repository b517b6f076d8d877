-- Marking literals block by block. Where a literal begins at 0, no column ends before it, so its variable needs no
-- mark.
use Rattle.std.proofs.Common.{ℕ, ◌≡◌, ◌⊎◌, ◌==◌, true, List, [], ◌∷◌, ◌++◌, Contains, arith, subst, inl, inr}
use Rattle.std.specs.List.{list_all}
use Rattle.std.proofs.lemmas.Bool.{and_parts, eqb-true}
use Rattle.std.proofs.lemmas.List.Elements.{Contains-append_cases}
use Rattle.cpg_base.proofs.Lists.{Contains-cases, Contains-nil}
use Rattle.cpg_cube.specs.declared.literal.Literal.{Literal}
use Rattle.cpg_merging.specs.Totals.{HasNoPartner}

-- each literal begins at 0
abbrev pub AllAtZero : List Literal → Type 0
AllAtZero ls = list_all (λ (l : Literal). l.low == 0) ls ≡ true

-- if each literal of a list begins at 0, so does any one of them
pub zero_in : (ls : List Literal) → AllAtZero ls → (l : Literal) → Contains ls l → l.low ≡ 0
-- by induction on the list
zero_in [] all_zero l member = absurd (Contains-nil l member)
zero_in (m ∷ ls) all_zero l member =
    let parts = and_parts (m.low == 0) (list_all (λ (x : Literal). x.low == 0) ls) all_zero in
    elim (Contains-cases m ls l member) [
      | inl is_m ↦ subst (λ (x : Literal). x.low ≡ 0) is_m (eqb-true m.low 0 parts.0)
      | inr in_rest ↦ zero_in ls parts.1 l in_rest
    ]

-- a literal that begins at 0 has no partner: no range ends before it
pub none_before : (sums : List ℕ) (total : ℕ) (ls : List Literal) → AllAtZero ls → (l : Literal) → Contains ls l →
    HasNoPartner sums total l
none_before sums total ls all_zero l member low rest less e there =
    absurd (omega (arith, zero_in ls all_zero l member, less))

-- If a block of the literals that are left is marked, each literal is among those left behind the block, or marked.
-- `P` says that a literal is marked so far, `Q` that it is marked then.
pub marked_on : (P : Literal → Type 0) (Q : Literal → Type 0) (all left block rest : List Literal) →
    left ≡ block ++ rest → ((l : Literal) → P l → Q l) →
    ((l : Literal) → Contains block l → Q l) →
    ((l : Literal) → Contains all l → Contains left l ⊎ P l)
    → (l : Literal) → Contains all l → Contains rest l ⊎ Q l
-- a literal is in the block, behind it, or marked before
marked_on P Q all left block rest is kept here before l member = elim (before l member) [
  | inl there ↦ elim (Contains-append_cases block rest l (subst (λ ls. Contains ls l) is there)) [
    | inl now ↦ inr (here l now)
    | inr later ↦ inl later
  ]
  | inr done ↦ inr (kept l done)
]

-- if each literal is left or marked, and those that are left are marked too, all are marked
pub all_marked : (P : Literal → Type 0) (all left : List Literal) →
    ((l : Literal) → Contains all l → Contains left l ⊎ P l) → ((l : Literal) → Contains left l → P l) → (l : Literal) →
    Contains all l → P l
all_marked P all left before here l member = elim (before l member) [ inl there ↦ here l there | inr done ↦ done ]
