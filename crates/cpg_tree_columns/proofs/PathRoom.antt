-- A path of a tree has at most one literal for each of 256 variables, so there is room for it.
use Rattle.std.proofs.Common.{ℕ, suc, ◌+◌, ◌-◌, ◌<◌, ◌≤◌, ◌≡◌, List, [], ◌∷◌, ◌++◌, None, length, get_or, All, Contains}
use Rattle.std.proofs.Common.{arith, refl, sym, ap, ◌∙◌, subst, inl, inr}
use Rattle.std.proofs.lemmas.List.{length-append}
use Rattle.std.proofs.lemmas.List.Edits.{length-insert}
use Rattle.std.specs.Prelude.{position, slice_index_or}
use Rattle.std.proofs.lemmas.List.Elements.{All-contains, Contains-get_or}
use Rattle.cpg_base.proofs.Lists.{Contains-first, Contains-rest, Contains-cases}
use Rattle.cpg_cube.specs.Cube.{IsRising}
use Rattle.cpg_cube.specs.declared.literal.Literal.{Literal}
use Rattle.cpg_cube.specs.Narrow.{narrowed_by, meet_literal}
use Rattle.cpg_cube.proofs.Narrow.{rising-narrowed, narrowed-before, narrowed-here, narrowed-after}
use Rattle.cpg_cube.proofs.NarrowSteps.{from_variable, narrowed-in, narrowed-last, IsPlace}
use Rattle.cpg_cube.proofs.Ranges.{rising_rest, rising_first}
use Rattle.cpg_tree_columns.specs.Path.{IsPath}
use Rattle.std.proofs.lemmas.Bool.{cases_order}

-- a rising cube has no more literals than there are numbers from a on and below n, if its variables are among these
few_from : (cube : List Literal) (a n : ℕ) → IsRising cube →
    ((l : Literal) → Contains cube l → (a ≤ l.variable) × (l.variable < n)) →
    length cube ≤ n - a
-- by induction on the cube: the variables after the first one begin behind it
few_from [] a n rising between = omega arith
few_from (m ∷ ms) a n rising between =
    let first = between m (Contains-first m ms) in
    omega (
      arith,
      first.0,
      first.1,
      few_from ms (m.variable + 1) n (rising_rest m ms rising)
          (λ l listed. (omega (arith, rising_first m l ms rising listed), (between l (Contains-rest m ms l listed)).1)),
    )

-- a rising cube on variables below n has at most n literals
pub few_below : (cube : List Literal) (n : ℕ) → IsRising cube → All (λ l. l.variable < n) cube → length cube ≤ n
few_below cube n rising all = omega (
  arith,
  few_from cube 0 n rising
      (λ l listed. (omega arith, All-contains (λ (x : Literal). x.variable < n) cube l all listed)),
)

-- given: a literal whose variable is a byte
module _ (l : Literal) (small : l.variable < 256) where
  -- a literal that is put into a cube leaves each variable below 256
  small_narrowed : (cube : List Literal) → ((x : Literal) → Contains cube x → x.variable < 256) → (x : Literal) →
      Contains (narrowed_by l cube) x →
      x.variable < 256
  -- by induction on the list
  small_narrowed [] small_old x listed = elim (Contains-cases l [] x listed) [
    | inl is_l ↦ subst (λ (y : Literal). y.variable < 256) is_l small
    | inr in_cube ↦ small_old x in_cube
  ]
  small_narrowed (m ∷ ms) small_old x listed = elim (cases_order l.variable m.variable) [
    | inl same ↦ elim (Contains-cases (meet_literal l m) ms x
        (subst (λ ls. Contains ls x) (narrowed-here l m ms same) listed)) [
          | inl is_first ↦ subst (λ (y : Literal). y.variable < 256) is_first (small_old m (Contains-first m ms))
          | inr in_rest ↦ small_old x (Contains-rest m ms x in_rest)
        ]
    | inr (inl before) ↦ elim (Contains-cases l (m ∷ ms) x
        (subst (λ ls. Contains ls x) (narrowed-before l m ms before) listed)) [
          | inl is_first ↦ subst (λ (y : Literal). y.variable < 256) is_first small
          | inr in_rest ↦ small_old x in_rest
        ]
    | inr (inr after) ↦
        elim (Contains-cases m (narrowed_by l ms) x
        (subst (λ ls. Contains ls x) (narrowed-after l m ms after) listed)) [
          | inl is_first ↦ subst (λ (y : Literal). y.variable < 256) is_first (small_old m (Contains-first m ms))
          | inr in_rest ↦ small_narrowed ms (λ y in_ms. small_old y (Contains-rest m ms y in_ms)) x in_rest
        ]
  ]

  -- a path that is narrowed is a path
  pub path_narrowed : (cube : List Literal) → IsPath cube → IsPath (narrowed_by l cube)
  path_narrowed cube is = record {
    rising = rising-narrowed l cube is.rising;
    small = λ i d inside. small_narrowed cube
        (λ x listed. All-contains (λ (y : Literal). y.variable < 256) cube x is.small listed)
        (get_or (narrowed_by l cube) i d) (Contains-get_or (narrowed_by l cube) i d inside);
  }

  -- a path that is narrowed has at most 256 literals
  pub few_narrowed : (cube : List Literal) → IsPath cube → length (narrowed_by l cube) ≤ 256
  few_narrowed cube is = let narrowed = path_narrowed cube is in
      few_below (narrowed_by l cube) 256 narrowed.rising narrowed.small

  -- if no literal is on its variable or a later one, there is room for it at the end: the narrowed path has one
  -- literal more
  pub room_last : (cube : List Literal) → IsPath cube → position (from_variable l.variable) cube ≡ None →
      length cube < 256
  room_last cube is at_end =
      omega (arith, few_narrowed cube is, ap length (narrowed-last l cube at_end), length-append cube (l ∷ []))

  -- if the literal at its place is on another variable, there is room for it before that one
  pub room_in : (cube : List Literal) (i : ℕ) (d : Literal) → IsPath cube → i < length cube →
      IsPlace l.variable cube i → ((slice_index_or cube i d).variable ≡ l.variable → ⊥) →
      length cube < 256
  room_in cube i d is inside is_place other = omega (
    arith,
    few_narrowed cube is,
    ap length (narrowed-in l cube i d is_place other),
    length-insert cube i l (omega (arith, inside)),
    inside,
  )
