-- The literals of the column of a row that matches, and cubes that are narrowed by the literals of one element after another.
use Rattle.std.proofs.Common.{◌≡◌, ◌≢◌, ◌∙◌, ℕ, ◌+◌, ◌<◌, ◌≤◌, true, false, List, [], ◌∷◌, ◌++◌, length, get_or, take}
use Rattle.std.proofs.Common.{map, filter, flat_map, Contains, arith, refl, sym, ap, subst, eq-eqb, ne_eqb}
use Rattle.std.proofs.lemmas.Bool.{both_ways, cond-true, cond-false}
use Rattle.std.proofs.lemmas.Grind.{flat_map-append}
use Rattle.std.proofs.lemmas.List.{append-nil, length-map, map_more, take_more}
use Rattle.std.proofs.lemmas.List.Elements.{All-contains}
use Rattle.cpg_base.specs.Graph.{Graph, node_of, process_of, is_message, message_item, broadcast_item}
use Rattle.cpg_base.proofs.Lists.{Contains-first, Contains-map, Contains-map_parts, Contains-filter}
use Rattle.cpg_base.proofs.Lists.{Contains-filter_parts, Contains-flat_map, Contains-flat_map_parts}
use Rattle.cpg_base.specs.Scenario.{Scenario}
use Rattle.cpg_cube.specs.Cube.{matches}
use Rattle.cpg_base.specs.Variable.{top}
use Rattle.cpg_cube.specs.declared.literal.Literal.{Literal}
use Rattle.cpg_merging.specs.Merged.{AreWithin}
use Rattle.cpg_cube.specs.declared.column.Column.{Column}
use Rattle.cpg_cube.specs.Column.{times_in}
use Rattle.cpg_run.specs.Carried.{carried_by_row}
use Rattle.cpg_list.specs.Learning.{Within, heard_of, received_by}
use Rattle.cpg_list.specs.Narrowing.{carried_in_columns, IsNarrowed}
use Rattle.cpg_list.proofs.CodeCubes.{narrowed_none, narrowed_then}
use Rattle.cpg_run.proofs.EntriesMerge.{the_one}

-- a list that is mapped to the empty list is empty
no_element : {X : Type 0} (f : X → ℕ) (xs : List X) → map f xs ≡ [] → xs ≡ []
no_element f [] is = refl
no_element f (x ∷ xs) is = absurd (omega (arith, ap length is))

-- ---- the column that matches

-- given: the columns of a row, and a scenario s
module _ (columns : List Column) (s : Scenario) where
  -- without a time, no column matches and nothing is carried
  pub told_none : times_in columns s ≡ [] → carried_in_columns columns s ≡ []
  told_none is = ap (flat_map (λ (c : Column). c.cube))
      (no_element (λ (c : Column). c.time) (filter (λ (c : Column). matches c.cube s) columns) is)

  -- none of the literals that are carried has a high past the greatest number of its variable, as none of the row has
  pub told_highs : (k : ℕ) → AreWithin k columns → (l : Literal) → Contains (carried_in_columns columns s) l →
      l.high ≤ top k l.variable
  told_highs k within l there =
      let column =
      Contains-flat_map_parts (λ (c : Column). c.cube) (filter (λ (c : Column). matches c.cube s) columns) l there in
      let kept = Contains-filter_parts (λ (c : Column). matches c.cube s) columns column.0 column.1 in
      All-contains (λ (m : Literal). m.high ≤ top k m.variable) column.0.cube l
      (All-contains (λ (c : Column). (i : ℕ) (d : Literal) → i < length c.cube →
      (get_or c.cube i d).high ≤ top k (get_or c.cube i d).variable) columns column.0 within kept.0) column.2

  -- given: of the columns that match in s there is one, which has this time
  module _ (time : ℕ) (one : times_in columns s ≡ time ∷ []) where
    -- if only one column matches, what is carried are its literals
    pub told_found : (i : ℕ) (c : Column) → i < length columns → c ≡ get_or columns i c → matches c.cube s ≡ true →
        carried_in_columns columns s ≡ c.cube
    told_found i c within is hit =
        let matching = filter (λ (c : Column). matches c.cube s) columns in
        let is_there = Contains-filter (λ (c : Column). matches c.cube s) columns c hit (i, within, sym is) in
        ap (flat_map (λ (c : Column). c.cube))
        (the_one matching c (omega (arith, length-map matching (λ (c : Column). c.time), ap length one)) is_there)
        ∙ append-nil c.cube

    -- if the columns that match have just one time, it can't be that no column of that time matches
    pub told_missing : ((k : ℕ) (c : Column) → k < length columns → (get_or columns k c).time ≡ time →
        matches (get_or columns k c).cube s ≡ false) → ⊥
    told_missing none =
        let column = Contains-map_parts (λ (c : Column). c.time)
        (filter (λ (c : Column). matches c.cube s) columns) time
        (subst (λ ts. Contains ts time) (sym one) (Contains-first time [])) in
        let kept = Contains-filter_parts (λ (c : Column). matches c.cube s) columns column.0 column.1 in
        let at : get_or columns kept.0.0 column.0 ≡ column.0 = kept.0.2 in
        both_ways (matches column.0.cube s) (subst (λ (c : Column). matches c.cube s ≡ false) at
        (none kept.0.0 column.0 kept.0.1 (ap (λ (c : Column). c.time) at ∙ column.2))) kept.1

-- ---- narrowing by one list after another

-- given: three cubes: a, what it is narrowed to (b), and what that is narrowed to (c); fault counts go up to k
module _ (k : ℕ) (a b c : List Literal) where
  -- a cube narrowed by the literals of the first i elements, and then by that of the next, is narrowed by those of i + 1
  pub narrowed_map : (f : ℕ → Literal) (xs : List ℕ) (i d : ℕ) → i < length xs → IsNarrowed k (map f (take i xs)) a b →
      IsNarrowed k (f (get_or xs i d) ∷ []) b c →
      IsNarrowed k (map f (take (i + 1) xs)) a c
  narrowed_map f xs i d within by_earlier by_this = subst (λ ls. IsNarrowed k ls a c) (sym (map_more f xs i d within))
      (narrowed_then k (map f (take i xs)) (f (get_or xs i d) ∷ []) a b c by_earlier by_this)

  -- a cube narrowed by the lists of literals of the first i elements, and then by that of the next, is narrowed by those of
  -- i + 1
  pub narrowed_flat_map : (f : ℕ → List Literal) (xs : List ℕ) (i d : ℕ) → i < length xs →
      IsNarrowed k (flat_map f (take i xs)) a b →
      IsNarrowed k (f (get_or xs i d)) b c →
      IsNarrowed k (flat_map f (take (i + 1) xs)) a c
  narrowed_flat_map f xs i d within by_earlier by_this =
      let same : flat_map f (take (i + 1) xs) ≡ flat_map f (take i xs) ++ f (get_or xs i d) =
      ap (flat_map f) (take_more xs i d within) ∙ flat_map-append f (take i xs) (get_or xs i d ∷ [])
      ∙ ap (λ z. flat_map f (take i xs) ++ z) (append-nil (f (get_or xs i d))) in
      subst (λ ls. IsNarrowed k ls a c) (sym same)
      (narrowed_then k (flat_map f (take i xs)) (f (get_or xs i d)) a b c by_earlier by_this)

-- given: two lists, each element of the first of which is in the second
module _ (xs ys : List ℕ) (to : (x : ℕ) → Contains xs x → Contains ys x) where
  -- the literals of the first list's elements are among those of the second's
  pub within_map : (f : ℕ → Literal) → Within (map f xs) (map f ys)
  within_map f l there = let from = Contains-map_parts f xs l there in
      subst (Contains (map f ys)) from.2 (Contains-map f ys from.0 (to from.0 from.1))

  -- the lists of literals of the first list's elements are within those of the second's
  pub within_flat_map : (f : ℕ → List Literal) → Within (flat_map f xs) (flat_map f ys)
  within_flat_map f l there = let from = Contains-flat_map_parts f xs l there in
      Contains-flat_map f ys from.0 l (to from.0 from.1) from.2
