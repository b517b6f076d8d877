-- Each path of a tree that fits says no more than the space of its leaf, and has no literal of a whole range.
use Rattle.std.proofs.Common.{ℕ, ◌<◌, ◌≤◌, ◌≡◌, ◌≢◌, ◌==◌, false, List, [], Contains, arith, ◌∙◌, subst, inl, inr, ◌⊎◌}
use Rattle.std.proofs.lemmas.Bool.{cases_eq, and_parts, false_from_ne_true, eqb-true}
use Rattle.std.proofs.lemmas.List.Elements.{Contains-append_cases}
use Rattle.cpg_base.proofs.Lists.{Contains-cases, Contains-nil}
use Rattle.cpg_cube.specs.declared.literal.Literal.{Literal}
use Rattle.cpg_cube.specs.Cube.{low_in, high_in, is_whole}
use Rattle.cpg_base.specs.Variable.{top}
use Rattle.cpg_cube.specs.Narrow.{narrowed_by}
use Rattle.cpg_cube.proofs.Narrow.{variables_of_narrowed}
use Rattle.cpg_cube.proofs.Ranges.{range_of_literal}
use Rattle.cpg_tree.specs.TreeNode.{TreeNode, Leaf, Fork}
use Rattle.cpg_tree.specs.Space.{Space, below_cut, above_cut}
use Rattle.cpg_tree.specs.Decision.{IsFit, IsGood}
use Rattle.cpg_tree.specs.Paths.{up_to, above, paths_from, paths_of}
use Rattle.cpg_tree.specs.Tree.{Path}
use Rattle.cpg_cube.proofs.Narrowed.{low-other, low-same, high-other, high-same}
use Rattle.cpg_tree.proofs.OpenSpaces.{IsOpenSpace, CoversSpace, opens_below, opens_above, covers_below, covers_above}
use Rattle.cpg_tree.proofs.OpenSpaces.{whole_opens, whole_covers, cut_under}

-- each literal's range is a part of the whole one
abbrev IsNarrowed : ℕ → List Literal → Type 0
IsNarrowed k cube = (l : Literal) → Contains cube l →
    (l.variable < 256) × ((0 < low_in cube l.variable) ⊎ (high_in k cube l.variable < top k l.variable))

-- a cube's range of a variable is less than the whole one
abbrev Says : ℕ → List Literal → ℕ → Type 0
Says k cube v = (0 < low_in cube v) ⊎ (high_in k cube v < top k v)

-- a cube of narrowed ranges stays one if it is narrowed by a literal that says something
part_narrowed : (k : ℕ) (l : Literal) (cube : List Literal) → l.variable < 256 →
    Says k (narrowed_by l cube) l.variable → IsNarrowed k cube →
    IsNarrowed k (narrowed_by l cube)
-- the literal's own variable is narrowed, as is given; the ranges of the others stay, so what holds of them stays too
part_narrowed k l cube there says part x listed = elim (cases_eq l.variable x.variable) [
  | inl same ↦ (omega (arith, same, there), subst (Says k (narrowed_by l cube)) same says)
  | inr other ↦ elim (variables_of_narrowed l cube x listed) [
    | inl on_new ↦ absurd (other on_new)
    | inr old_literal ↦
        let old = part old_literal.0 old_literal.1 in (
          omega (arith, old_literal.2, old.0),
          subst (Says k (narrowed_by l cube)) old_literal.2
              (still old_literal.0.variable (λ equal. other (equal ∙ old_literal.2)) old.1),
        )
  ]
]
  where
    -- what the cube says of another variable than the literal's, the narrowed cube says too
    still : (v : ℕ) → l.variable ≢ v → Says k cube v → Says k (narrowed_by l cube) v
    still v other (inl low) = inl (omega (arith, low-other k l cube v other, low))
    still v other (inr high) = inr (omega (arith, high-other k l cube v other, high))

-- a cube that covers an open space and has no literal of a whole range
pub record IsPathAround (k : ℕ) (cube : List Literal) : Type 0 where
  pub space : Space
  pub is : IsOpenSpace k space
  pub covers : CoversSpace k space cube
  -- each literal leaves out a number of its variable, at one of both ends
  pub part : (l : Literal) → Contains cube l →
      (l.variable < 256) × ((0 < low_in cube l.variable) ⊎ (high_in k cube l.variable < top k l.variable))

-- in a tree that fits an open space, the cube of each path covers an open space and has no literal of a whole range
pub tidy_paths : {T : Type 0} (k : ℕ) (node : TreeNode T) (space : Space) (cube : List Literal) → IsOpenSpace k space →
    CoversSpace k space cube → IsNarrowed k cube → IsFit space node → (x : Path T) →
    Contains (paths_from k cube node) x → IsPathAround k x.0
-- by induction on the tree: the one path of a leaf has the cube itself; at a fork the part of the space on each side is
-- open, the narrowed cube covers it, and says something of the fork's variable
tidy_paths {T} k (Leaf y) space cube is covers part fit x listed = elim (Contains-cases (cube, y) [] x listed) [
  | inl is_it ↦
      subst (λ (z : Path T). IsPathAround k z.0) is_it (record { space = space; is = is; covers = covers; part = part })
  | inr none ↦ absurd (Contains-nil x none)
]
tidy_paths k (Fork v cut below upper) space cube is covers part fit x listed =
    elim (Contains-append_cases (paths_from k (narrowed_by (up_to v cut) cube) below)
    (paths_from k (narrowed_by (above k v cut) cube) upper) x listed) [
      | inl in_first ↦ tidy_paths k below (below_cut space v cut) (narrowed_by (up_to v cut) cube)
          (opens_below k space is v cut fit.0 fit.1 fit.2)
          (covers_below k space is v cut fit.0 fit.1 fit.2 cube covers)
          (part_narrowed k (up_to v cut) cube fit.0
          (inr (omega (
            arith,
            high-same k (up_to v cut) cube covers.rising (omega (arith, cut_under k space is v cut fit.0 fit.1 fit.2)),
            cut_under k space is v cut fit.0 fit.1 fit.2,
          ))) part)
          fit.3 x in_first
      | inr in_second ↦ tidy_paths k upper (above_cut space v cut) (narrowed_by (above k v cut) cube)
          (opens_above k space is v cut fit.0 fit.1 fit.2)
          (covers_above k space is v cut fit.0 fit.1 fit.2 cube covers)
          (part_narrowed k (above k v cut) cube fit.0
          (inl (omega (arith, low-same k (above k v cut) cube covers.rising))) part) fit.4 x in_second
    ]

-- each path of a good tree has a space around it
pub tidy_of : {T : Type 0} (k : ℕ) (node : TreeNode T) → IsGood k node → (x : Path T) → Contains (paths_of k node) x →
    IsPathAround k x.0
tidy_of k node good = tidy_paths k node good.0 [] (whole_opens k good.0 good.1) (whole_covers k good.0 good.1)
    (λ l in_none. absurd (Contains-nil l in_none)) good.2

-- ---- the cube of a path has no whole literal, and none that goes past the whole range

-- given: the cube of a path, with the space around it
module _ (k : ℕ) (cube : List Literal) (tidy : IsPathAround k cube) where
  -- given: a literal l of the cube
  module _ (l : Literal) (listed : Contains cube l) where
    -- a cube's range of a literal's variable is that of the literal
    pub range : (low_in cube l.variable ≡ l.low) × (high_in k cube l.variable ≡ l.high)
    range = range_of_literal k cube l tidy.covers.rising listed

    -- the literal hasn't the whole range of its variable
    pub not_whole : is_whole k l ≡ false
    not_whole = false_from_ne_true (is_whole k l) (λ whole.
        let parts = and_parts (l.low == 0) (l.high == top k l.variable) whole in
        elim (tidy.part l listed).1 [
          | inl low ↦ omega (arith, low, range.0, eqb-true l.low 0 parts.0)
          | inr high ↦ omega (arith, high, range.1, eqb-true l.high (top k l.variable) parts.1)
        ])

    -- the high of the literal is within the top
    pub within : l.high ≤ top k l.variable
    within = omega (arith, range.1, tidy.covers.within l.variable)
