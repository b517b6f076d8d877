-- The columns that a walk down a good tree finds are those of its paths. The walk looks whether a side has a range
-- left; in a good tree each side has. In the lemmas k is the most faults, v a variable, and l a literal.
use Rattle.std.proofs.Common.{ℕ, ◌+◌, ◌<◌, ◌≤◌, ◌≡◌, max, min, ◌==◌, nat_lt, true, List, [], ◌∷◌, ◌++◌, Some, Option}
use Rattle.std.proofs.Common.{arith, sym, ap, ap₂, ◌∙◌, subst, inl, inr, eq-eqb, ne_eqb}
use Rattle.std.proofs.Common.{lt-ltb, le-ltb, append_assoc}
use Rattle.std.specs.Option.{option_map_or}
use Rattle.std.proofs.lemmas.Bool.{cases_eq, cases_lt, cond-true, cond-false, le-leb}
use Rattle.std.proofs.lemmas.List.{append-nil}
use Rattle.std.proofs.lemmas.Grind.{flat_map-append}
use Rattle.cpg_base.specs.Variable.{top}
use Rattle.cpg_cube.specs.declared.literal.Literal.{Literal}
use Rattle.cpg_cube.specs.Cube.{low_in, high_in}
use Rattle.cpg_cube.specs.Narrow.{narrowed_by, meet_literal, range_left, with_literal}
use Rattle.cpg_tree.specs.TreeNode.{TreeNode, Leaf, Fork}
use Rattle.cpg_tree.specs.declared.space.Space.{Space}
use Rattle.cpg_tree.specs.Space.{is_open_below, is_open_above, below_cut, above_cut}
use Rattle.cpg_tree.specs.declared.item.TreeItem.{TreeItem}
use Rattle.cpg_tree.specs.Flat.{flat}
use Rattle.cpg_tree.proofs.Flats.{flat-same}
use Rattle.cpg_cube.specs.declared.column.Column.{Column}
use Rattle.cpg_cube.specs.declared.cube.Narrowing.{Narrowing}
use Rattle.cpg_cube.specs.Undo.{IsUndo, restored}
use Rattle.cpg_tree.specs.Decision.{HasCuts, IsFit, IsGood}
use Rattle.cpg_tree.specs.Paths.{up_to, above, paths_from}
use Rattle.cpg_tree.specs.Tree.{Path}
use Rattle.cpg_tree.proofs.OpenSpaces.{IsOpenSpace, CoversSpace, low_at_most, cut_less, cut_under, opens_below}
use Rattle.cpg_tree.proofs.OpenSpaces.{opens_above, covers_below, covers_above, whole_opens, whole_covers}
use Rattle.cpg_tree_columns.specs.Columns.{column_of, columns_of_paths, columns_from}

-- the low of the range that narrowing leaves to the literal's variable: the greater of its own low and the cube's
range_low : (l : Literal) (cube : List Literal) → (range_left l cube).low ≡ max l.low (low_in cube l.variable)
-- by induction on the cube: the first literal is on the variable, or the range is that of the others
range_low l [] = omega arith
range_low l (m ∷ ms) = elim (cases_eq l.variable m.variable) [
  | inl same ↦ ap (λ (x : Literal). x.low)
      (cond-true (l.variable == m.variable) (meet_literal l m) (range_left l ms) (eq-eqb _ _ same)) ∙
      ap (max l.low) (sym (cond-true (m.variable == l.variable) m.low (low_in ms l.variable) (eq-eqb _ _ (sym same))))
  | inr other ↦ ap (λ (x : Literal). x.low)
      (cond-false (l.variable == m.variable) (meet_literal l m) (range_left l ms) (ne_eqb _ _ other)) ∙ range_low l ms
      ∙ ap (max l.low)
      (sym (cond-false (m.variable == l.variable) m.low (low_in ms l.variable) (ne_eqb _ _ (λ is. other (sym is)))))
]

-- the high of that range: the lesser of its own high and the cube's
range_high : (k : ℕ) (l : Literal) (cube : List Literal) → l.high ≤ top k l.variable →
    (range_left l cube).high ≡ min l.high (high_in k cube l.variable)
-- by induction on the cube: its first literal is on the variable of `l`, and met with it, or it changes nothing
range_high k l [] within_top = omega (arith, within_top)
range_high k l (m ∷ ms) within_top = elim (cases_eq l.variable m.variable) [
  | inl same ↦ ap (λ (x : Literal). x.high)
      (cond-true (l.variable == m.variable) (meet_literal l m) (range_left l ms) (eq-eqb _ _ same)) ∙
      ap (min l.high) (sym (cond-true (m.variable == l.variable) m.high (high_in k ms l.variable)
      (eq-eqb _ _ (sym same))))
  | inr other ↦ ap (λ (x : Literal). x.high)
      (cond-false (l.variable == m.variable) (meet_literal l m) (range_left l ms) (ne_eqb _ _ other))
      ∙ range_high k l ms within_top
      ∙ ap (min l.high)
      (sym (cond-false (m.variable == l.variable) m.high (high_in k ms l.variable) (ne_eqb _ _ (λ is. other (sym is)))))
]

-- ---- neither side's range is empty

-- given: a cube whose ranges contain those of a space with a scenario, and a cut with numbers of the space on both
-- sides
module _ (k : ℕ) (space : Space) (is : IsOpenSpace k space) (v cut : ℕ) (there : v < 256)
    (below : is_open_below space v cut ≡ true) (upper : is_open_above space v cut ≡ true) (cube : List Literal)
    (covers : CoversSpace k space cube) where
  -- narrowing the cube to the numbers up to the cut leaves its variable some number: the space's low is one of them
  pub some_below : with_literal (up_to v cut) cube ≡ Some (narrowed_by (up_to v cut) cube)
  -- the range left is not empty: the space's low of v is at most the cut, and within the cube's range and the
  -- literal's
  some_below = cond-true _ _ _ (le-leb (range_left (up_to v cut) cube).low (range_left (up_to v cut) cube).high
      (omega (
        arith,
        range_low (up_to v cut) cube,
        range_high k (up_to v cut) cube (omega (arith, cut_under k space is v cut there below upper)),
        covers.low v there,
        covers.high v there,
        low_at_most k space is v cut there below upper,
        is.opens v there,
      )))

  -- narrowing it to the numbers above the cut leaves some number: the space's high is one of them
  pub some_above : with_literal (above k v cut) cube ≡ Some (narrowed_by (above k v cut) cube)
  -- the range left is not empty: the space's high of v is above the cut, and within the cube's range and the literal's
  some_above = cond-true _ _ _ (le-leb (range_left (above k v cut) cube).low (range_left (above k v cut) cube).high
      (omega (
        arith,
        range_low (above k v cut) cube,
        range_high k (above k v cut) cube (omega arith),
        covers.low v there,
        covers.high v there,
        cut_under k space is v cut there below upper,
        cut_less k space is v cut there below upper,
        is.opens v there,
        is.tops v there,
      )))

-- ---- the columns that are found are those of the paths

-- the columns of two lists of paths are those of both
flat_both : (xs ys : List (Path (Option ℕ))) → columns_of_paths (xs ++ ys) ≡ columns_of_paths xs ++ columns_of_paths ys
flat_both xs ys = flat_map-append (λ (p : Path (Option ℕ)). column_of p.0 p.1) xs ys

-- The columns that the walk finds on from a cube are those of the paths on from it, if the cube covers a space that
-- fits the tree.
pub columns_are : (k : ℕ) (node : TreeNode (Option ℕ)) (space : Space) (cube : List Literal) → IsOpenSpace k space →
    CoversSpace k space cube →
    IsFit space node →
    columns_from k cube node ≡ columns_of_paths (paths_from k cube node)
-- By induction on the tree. At a fork the space has numbers on both sides of the cut, so neither side is left out, and
-- the narrowed cubes cover the two parts of the space.
columns_are k (Leaf x) space cube is covers fit = sym (append-nil (column_of cube x))
columns_are k (Fork v cut below upper) space cube is covers fit =
    ap₂ ◌++◌
    (ap (λ (o : Option (List Literal)). option_map_or (λ c. columns_from k c below) o [])
    (some_below k space is v cut fit.0 fit.1 fit.2 cube covers)
    ∙ columns_are k below (below_cut space v cut) (narrowed_by (up_to v cut) cube)
    (opens_below k space is v cut fit.0 fit.1 fit.2)
    (covers_below k space is v cut fit.0 fit.1 fit.2 cube covers) fit.3)
    (ap (λ (o : Option (List Literal)). option_map_or (λ c. columns_from k c upper) o [])
    (some_above k space is v cut fit.0 fit.1 fit.2 cube covers)
    ∙ columns_are k upper (above_cut space v cut) (narrowed_by (above k v cut) cube)
    (opens_above k space is v cut fit.0 fit.1 fit.2) (covers_above k space is v cut fit.0 fit.1 fit.2 cube covers)
    fit.4)
    ∙ sym (flat_both (paths_from k (narrowed_by (up_to v cut) cube) below)
    (paths_from k (narrowed_by (above k v cut) cube) upper))

-- the columns of a good tree are those of its paths
pub all_columns : (k : ℕ) (node : TreeNode (Option ℕ)) → IsGood k node →
    columns_from k [] node ≡ columns_of_paths (paths_from k [] node)
all_columns k node good =
    columns_are k node good.0 [] (whole_opens k good.0 good.1) (whole_covers k good.0 good.1) good.2

-- the columns that are found from the root of a tree on are those of its paths
pub columns_seen : (k : ℕ) (node : TreeNode (Option ℕ)) → IsGood k node → (paths : List (Path (Option ℕ))) →
    paths ≡ paths_from k [] node → (faults : ℕ) → faults ≡ k →
    (whole : List Literal) →
    whole ≡ [] → columns_from faults whole node ≡ columns_of_paths paths
columns_seen k node good paths seen faults same whole none =
    ap₂ (λ (m : ℕ) (cube : List Literal). columns_from m cube node) same none ∙ all_columns k node good
    ∙ ap columns_of_paths (sym seen)

-- ---- on the way down a list

-- a list of a side has cuts that leave numbers above them, if the side has
pub side_cuts : (k : ℕ) (items : List (TreeItem (Option ℕ))) (x n : TreeNode (Option ℕ)) → items ≡ flat x →
    HasCuts k x → items ≡ flat n → HasCuts k n
side_cuts k items x n is cuts are = subst (HasCuts k) (flat-same x n (sym is ∙ are)) cuts

-- a cut of a variable leaves room for the number above it, if there are fewer than 256 faults
pub cut_fits : (k v cut : ℕ) → k < 256 → cut < top k v → cut + 1 < 256
cut_fits k v cut small less = elim (cases_lt v 128) [
  | inl count ↦ omega (arith, less, small, cond-true (nat_lt v 128) k 1 (lt-ltb v 128 count))
  | inr value ↦ omega (arith, less, cond-false (nat_lt v 128) k 1 (le-ltb v 128 value))
]

-- if a leaf's column is added, the columns on from the cube are added
pub leaf_columns : (k : ℕ) (cube : List Literal) (items : List (TreeItem (Option ℕ))) (n : TreeNode (Option ℕ))
    (x : Option ℕ) (old new : List Column) → items ≡ flat (Leaf x) →
    items ≡ flat n →
    new ≡ old ++ column_of cube x → new ≡ old ++ columns_from k cube n
leaf_columns k cube items n x old new is are added =
    added ∙ ap (λ (m : TreeNode (Option ℕ)). old ++ columns_from k cube m) (flat-same (Leaf x) n (sym is ∙ are))

-- given: a fork, the list of its items, and the cube that the way to it has left
module _ (k : ℕ) (cube : List Literal) (v cut : ℕ) (x y n : TreeNode (Option ℕ)) (items : List (TreeItem (Option ℕ)))
    (is : items ≡ flat (Fork v cut x y)) (are : items ≡ flat n) where
  -- if the columns of the side below are added, and then those of the side above, those of the fork are
  pub fork_columns : (low high : Option (List Literal)) → with_literal (up_to v cut) cube ≡ low →
      with_literal (above k v cut) cube ≡ high →
      (old mid new : List Column) →
      mid ≡ old ++ option_map_or (λ c. columns_from k c x) low [] →
      new ≡ mid ++ option_map_or (λ c. columns_from k c y) high [] → new ≡ old ++ columns_from k cube n
  fork_columns low high below_is above_is old mid new of_below of_above =
      let lows = option_map_or (λ c. columns_from k c x) low [] in
      let highs = option_map_or (λ c. columns_from k c y) high [] in
      of_above ∙ ap (λ (cs : List Column). cs ++ highs) of_below ∙ append_assoc old lows highs
      ∙ ap₂ (λ (a b : Option (List Literal)). old ++ (option_map_or (λ c. columns_from k c x) a []
      ++ option_map_or (λ c. columns_from k c y) b [])) (sym below_is) (sym above_is)
      ∙ ap (λ (m : TreeNode (Option ℕ)). old ++ columns_from k cube m) (flat-same (Fork v cut x y) n (sym is ∙ are))

-- narrowing `old` by the literal that the code makes is narrowing the cube to the numbers above the cut
pub above_of : (k v cut most : ℕ) (cube old : List Literal) (high : Option (List Literal)) → most ≡ top k v →
    old ≡ cube →
    with_literal (record { variable = v; low = cut + 1; high = most }) old ≡ high →
    with_literal (above k v cut) cube ≡ high
above_of k v cut most cube old high whole same narrowed =
    ap₂ (λ (h : ℕ) (ls : List Literal). let l : Literal = record { variable = v; low = cut + 1; high = h } in
    with_literal l ls) (sym whole) (sym same) ∙ narrowed

-- The same for a cube that was narrowed up to the cut: its last narrowing is undone, and it is then narrowed to the
-- numbers above the cut.
pub above_again : (k v cut most : ℕ) (n : Narrowing) (cube low after : List Literal) (high : Option (List Literal)) →
    most ≡ top k v → IsUndo n low cube → after ≡ low →
    with_literal (record { variable = v; low = cut + 1; high = most }) (restored n after) ≡ high →
    with_literal (above k v cut) cube ≡ high
above_again k v cut most n cube low after high whole undo same exchanged =
    above_of k v cut most cube (restored n after) high whole (ap (restored n) same ∙ undo.back) exchanged
