-- Places that scenarios of a space match are kept.
use Rattle.std.proofs.Common.{arith, ℕ, ◌+◌, ◌<◌, ◌≤◌, ◌≡◌, List, [], ◌∷◌, ◌++◌, length, get_or, take, Contains, Option}
use Rattle.std.proofs.Common.{None, Some, refl, sym, ap, ◌∙◌, ◌==◌, subst, ⊎_elim, inl, inr, true, Bool, Bor}
use Rattle.std.proofs.Common.{map}
use Rattle.std.proofs.lemmas.List.{take_more, get_or-map, length-map, map_push}
use Rattle.std.proofs.lemmas.List.Elements.{Contains-push_cases, Contains-append_left, Contains-push}
use Rattle.std.proofs.lemmas.Bool.{cases_lt, eqb-true}
use Rattle.cpg_base.proofs.Lists.{Contains-nil}
use Rattle.cpg_base.specs.Scenario.{Scenario, number_of}
use Rattle.cpg_cube.specs.declared.literal.Literal.{Literal}
use Rattle.cpg_cube.proofs.CubeLows.{holds-low, holds-high}
use Rattle.cpg_tree.specs.TreeNode.{TreeNode, Leaf}
use Rattle.cpg_tree.specs.Added.{ForksEnd}
use Rattle.cpg_tree.specs.Flat.{flat}
use Rattle.cpg_tree.proofs.JoinLaws.{split_of}
use Rattle.cpg_row_trees.specs.declared.places.PlaceHint.{PlaceHint}
use Rattle.cpg_row_trees.specs.declared.places.TreeGrowth.{TreeGrowth}
use Rattle.cpg_tree.specs.declared.space.Space.{Space}
use Rattle.cpg_tree.specs.Space.{IsInSpace}
use Rattle.cpg_tree.specs.Decision.{value_at}
use Rattle.cpg_tree.specs.Results.{IsForkOf}
use Rattle.cpg_row_trees.specs.Places.{IsMatched, HoldsInSpace, cube_at, IsPlaceOfMatch}
use Rattle.cpg_row_trees.specs.PlaceHints.{IsVariableRange, IsImpliedBy, AddsPlaceTree, KeepsWhere, IsMatchAmong}
use Rattle.cpg_row_trees.specs.PlaceHints.{KeepsPlace, places_of}

-- given: which scenarios fit a place
module _ (fits : Scenario → Type 0) (place : ℕ) where
  -- if no scenario fits, a place is kept without being added
  pub kept_out : (hints : List PlaceHint) → ((s : Scenario) → fits s → ⊥) → KeepsPlace fits place hints hints
  kept_out hints off = record { earlier = λ i c. c; this = λ s h. absurd (off s h) }

  -- a place is kept if it is added
  pub kept_in : (hints : List PlaceHint) (e : PlaceHint) → e.place ≡ place →
      KeepsPlace fits place hints (hints ++ e ∷ [])
  -- the places of the longer list are those before and then the place itself
  kept_in hints e is =
      let pushed = sym (map_push (λ (e : PlaceHint). e.place) hints e) in
      record {
        earlier = λ i there.
            subst (λ (xs : List ℕ). Contains xs i) pushed
            (Contains-append_left (places_of hints) (e.place ∷ []) i there);
        this = λ s h. subst (λ (x : ℕ). Contains (places_of (hints ++ e ∷ [])) x) is
            (subst (λ (xs : List ℕ). Contains xs e.place) pushed (Contains-push (places_of hints) e.place));
      }

  -- what is kept for some scenarios is kept for fewer
  pub kept_for : (fewer : Scenario → Type 0) (old new : List PlaceHint) → ((s : Scenario) → fewer s → fits s) →
      KeepsPlace fits place old new →
      KeepsPlace fewer place old new
  kept_for fewer old new come kept = record { earlier = kept.earlier; this = λ s h. kept.this s (come s h) }

-- the places of one hint more are those before and its own
places_more : (hints : List PlaceHint) (k : ℕ) (d : PlaceHint) → k < length hints →
    places_of (take (k + 1) hints) ≡ places_of (take k hints) ++ (get_or hints k d).place ∷ []
places_more hints k d within =
    ap places_of (take_more hints k d within) ∙ map_push (λ (e : PlaceHint). e.place) (take k hints) (get_or hints k d)

-- given: cubes, and which scenarios fit
module _ (cubes : List (List Literal)) (fits : Scenario → Type 0) where
  -- of no places, all are kept
  pub keeps_none : (kept : List ℕ) → KeepsWhere cubes fits [] kept
  keeps_none kept s i lies there m = absurd (Contains-nil i there)

  -- with one place more that is kept, all of one place more are kept
  pub keeps_one : (place : ℕ) (places : List ℕ) (old new : List PlaceHint) →
      KeepsPlace (λ s. fits s × IsMatched cubes s place) place old new →
      KeepsWhere cubes fits places (places_of old) → KeepsWhere cubes fits (places ++ place ∷ []) (places_of new)
  keeps_one place places old new kept h s i lies c m = ⊎_elim
      -- an earlier place, or the new one
      (λ (b : Contains places i). kept.earlier i (h s i lies b m))
      (λ (q : place ≡ i).
      subst (λ j. Contains (places_of new) j) q (kept.this s (lies, subst (λ j. IsMatched cubes s j) (sym q) m)))
      (Contains-push_cases places place i c)

  -- with the next hint's place kept, the places of one hint more are kept
  pub keeps_more : (hints old new : List PlaceHint) (k : ℕ) (d : PlaceHint) → k < length hints
      → KeepsPlace (λ s. fits s × IsMatched cubes s (get_or hints k d).place) (get_or hints k d).place old new →
      KeepsWhere cubes fits (places_of (take k hints)) (places_of old) →
      KeepsWhere cubes fits (places_of (take (k + 1) hints)) (places_of new)
  keeps_more hints old new k d within kept h =
      subst (λ (xs : List ℕ). KeepsWhere cubes fits xs (places_of new)) (sym (places_more hints k d within))
      (keeps_one (get_or hints k d).place (places_of (take k hints)) old new kept h)

-- the range of a literal that holds wherever some literals match is a range of its variable by these
pub range_implied : (literals : List Literal) (l : Literal) (v : ℕ) (first : Bool) → l.variable ≡ v →
    IsImpliedBy literals l
    → IsVariableRange literals v (record { low = l.low; high = l.high; is_first = first })
range_implied literals l v first on implied = record {
  low = λ s m. subst (λ w. l.low ≤ number_of s w) on (holds-low s l (implied s m));
  high = λ s m below. subst (λ w. number_of s w ≤ l.high) on (holds-high s l (implied s m));
}

-- a match among the places that are kept is one among all
-- `keeps`: a cube that a fitting scenario matches is kept if it is among the places. `lies`: s fits.
module _ (cubes : List (List Literal)) (fits : Scenario → Type 0) (places kept : List ℕ)
    (keeps : KeepsWhere cubes fits places kept) (s : Scenario) (lies : fits s) where
  -- the place of a match among those kept is that of a match among all
  widen_place : (x : Option ℕ) → IsMatchAmong cubes kept x s → IsMatchAmong cubes places x s
  widen_place None is_match = λ j c m. is_match j (keeps s j lies c m) m
  widen_place (Some i) is_match = record { is = is_match.is; only = λ j c m. is_match.only j (keeps s j lies c m) m }

-- given: a fork whose sides have the matches among the places that are kept there
-- `fork`: r is the fork of the two trees. `keeps_below`, `keeps_above`: each side keeps the places that matter there.
-- `of_one`, `of_two`: the trees have the matches of each side. `goes_one`, `goes_two`: each scenario is on one side.
module _ (cubes : List (List Literal)) (space one two : Space) (places low high : List ℕ) (v cut : ℕ)
    (below above r : TreeNode (Option ℕ)) (fork : IsForkOf v cut below above r)
    (keeps_below : KeepsWhere cubes (λ s. number_of s v ≤ cut) places low)
    (keeps_above : KeepsWhere cubes (λ s. IsInSpace space s × (cut < number_of s v)) places high)
    (of_one : HoldsInSpace (IsMatchAmong cubes low) one below)
    (of_two : HoldsInSpace (IsMatchAmong cubes high) two above)
    (goes_one : (s : Scenario) → IsInSpace space s → number_of s v ≤ cut → IsInSpace one s)
    (goes_two : (s : Scenario) → IsInSpace space s → cut < number_of s v → IsInSpace two s) where
  -- each scenario of the space finds its match on its side
  found_parted : HoldsInSpace (IsMatchAmong cubes places) space r
  -- a scenario finds the match among the places kept on its side, and no place that was left out there matches it
  found_parted s lies = elim (cases_lt cut (number_of s v)) [
    | inl is_above ↦ let lies_above = goes_two s lies is_above in
        subst (λ (x : Option ℕ). IsMatchAmong cubes places x s) (sym (fork.value_above s is_above))
        (widen_place cubes (λ s. IsInSpace space s × (cut < number_of s v)) places high keeps_above s (lies, is_above)
        (value_at above s) (of_two s lies_above))
    | inr is_below ↦ let lies_below = goes_one s lies is_below in
        subst (λ (x : Option ℕ). IsMatchAmong cubes places x s) (sym (fork.value_below s is_below))
        (widen_place cubes (λ s. number_of s v ≤ cut) places low keeps_below s is_below
        (value_at below s) (of_one s lies_below))
  ]

-- a leaf that has the match among the places is their tree
pub place_tree_leaf : (cubes : List (List Literal)) (space : Space) (places : List ℕ) (x : Option ℕ)
    (old new : TreeGrowth) →
    ((s : Scenario) → IsInSpace space s → IsMatchAmong cubes places x s) →
    new.items.items ≡ old.items.items ++ flat (Leaf x) → new.left ≤ old.left → AddsPlaceTree cubes space places old new
place_tree_leaf cubes space places x old new found added fewer =
    record { found = (Leaf x, added, found); fewer = fewer }

-- given: a fork whose sides have trees of the places kept there, added one after the other
-- `forks`, `as_full`: the last step makes a fork of the two trees. `kept`, `no_more`: `rest` has the items of `old`,
-- and no more left to spend.
-- `first`, `second`: where the trees begin. `keeps_below`, `keeps_above`: each side keeps the places that matter.
-- `of_one`, `of_two`: the trees are added. `goes_one`, `goes_two`: each scenario is on one side.
module _ (cubes : List (List Literal)) (space one two : Space) (places low high : List ℕ) (v cut start middle : ℕ)
    (old rest half full new : TreeGrowth)
    (forks : ForksEnd start middle v cut full.items.items new.items.items) (kept : rest.items.items ≡ old.items.items)
    (no_more : rest.left ≤ old.left) (as_full : new.left ≡ full.left)
    (first : start ≡ length old.items.items) (second : middle ≡ length half.items.items)
    (keeps_below : KeepsWhere cubes (λ s. number_of s v ≤ cut) places low)
    (keeps_above : KeepsWhere cubes (λ s. IsInSpace space s × (cut < number_of s v)) places high)
    (of_one : AddsPlaceTree cubes one low rest half) (of_two : AddsPlaceTree cubes two high half full)
    (goes_one : (s : Scenario) → IsInSpace space s → number_of s v ≤ cut → IsInSpace one s)
    (goes_two : (s : Scenario) → IsInSpace space s → cut < number_of s v → IsInSpace two s) where
  -- the fork is a tree of all places for the whole space
  pub place_tree_parted : AddsPlaceTree cubes space places old new
  -- lo and hi: what is known of the trees of the two sides; fork: the tree that takes their place, which has the match among
  -- all places by `found_parted`
  place_tree_parted =
      let lo = of_one.found in
      let hi = of_two.found in
      let of_low = subst (λ xs. half.items.items ≡ xs ++ flat lo.0) kept lo.1 in
      let fork = forks old.items.items lo.0 hi.0 (split_of start middle old.items.items half.items.items
      full.items.items lo.0 hi.0 of_low hi.1 first second) in
      record {
        found = (
          fork.0,
          fork.1,
          found_parted cubes space one two places low high v cut lo.0 hi.0 fork.0 fork.2.made keeps_below keeps_above
              lo.2 hi.2 goes_one goes_two,
        );
        fewer = omega (arith, of_one.fewer, of_two.fewer, no_more, as_full);
      }

-- the cube at a place is the one that is lent there
module _ (lent : List (Bor (List Literal))) (i : ℕ) (b : Bor (List Literal)) (there : i < length lent)
    (is : b ≡ get_or lent i b) where
  -- the cube at the place is the one that is lent
  pub cube_here : cube_at (map (λ (x : Bor (List Literal)). x.now) lent) i ≡ b.now
  cube_here =
      get_or-map (λ (x : Bor (List Literal)). x.now) lent i b [] there ∙ ap (λ (x : Bor (List Literal)). x.now) (sym is)

  -- the place is one of the list of cubes
  pub within_lent : i < length (map (λ (x : Bor (List Literal)). x.now) lent)
  within_lent = subst (λ n. i < n) (sym (length-map lent (λ (x : Bor (List Literal)). x.now))) there

-- what is in a list of one is its first
only_one : (first j : ℕ) (rest : List ℕ) → rest ≡ [] → Contains (first ∷ rest) j → j ≡ first
only_one first j rest none there = ⊎_elim (λ (b : Contains [] j). absurd (omega (arith, b.1)))
    (λ (q : first ≡ j). sym q)
    (Contains-push_cases [] first j (subst (λ xs. Contains (first ∷ xs) j) none there))

-- hints of which the rest is empty have the place of the first alone
pub only_first : (hints rest : List PlaceHint) (first : PlaceHint) (j : ℕ) → hints ≡ first ∷ rest →
    (length rest == 0) ≡ true → Contains (places_of hints) j → j ≡ first.place
only_first hints [] first j is none there =
    only_one first.place j [] refl (subst (λ (xs : List PlaceHint). Contains (places_of xs) j) is there)
only_first hints (x ∷ xs) first j is none there = absurd (omega (arith, eqb-true (length (x ∷ xs)) 0 none))

-- if the places have all cubes that a scenario matches, a match among them is one among all cubes
module _ (cubes : List (List Literal)) (places : List ℕ) (s : Scenario)
    (all : (i : ℕ) → IsMatched cubes s i → Contains places i) where
  -- a match among the places that are kept is the place of the one cube that the scenario matches
  pub found_of_all : (x : Option ℕ) → IsMatchAmong cubes places x s → IsPlaceOfMatch cubes x s
  found_of_all None is_match = λ j m. is_match j (all j m) m
  found_of_all (Some i) is_match = (is_match.is, λ j m. is_match.only j (all j m) m)
