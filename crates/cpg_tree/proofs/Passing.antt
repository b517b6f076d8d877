-- The variables of forks are those of the literals of paths.
use Rattle.std.proofs.Common.{ℕ, ◌≡◌, Bool, true, ◌&&◌, nat_lt, List, [], ◌∷◌, get_or, All, Contains, refl, sym, ap}
use Rattle.std.proofs.Common.{◌∙◌, subst, inl, inr, lt-ltb}
use Rattle.std.specs.Prelude.{nat_le}
use Rattle.std.proofs.lemmas.Bool.{cases_order, or_cases, or_left, or_right, and_parts, and_from, leb-true, ltb-true}
use Rattle.std.proofs.lemmas.Bool.{le-leb}
use Rattle.std.proofs.lemmas.List.Elements.{All-contains, Contains-get_or, Contains-append_left, Contains-append_right}
use Rattle.std.proofs.lemmas.List.Elements.{Contains-append_cases}
use Rattle.cpg_base.specs.Graph.{Graph, process_count, condition_count, value_variable, IsVariable}
use Rattle.cpg_base.proofs.Lists.{Contains-first, Contains-rest, Contains-cases, Contains-nil}
use Rattle.cpg_cube.specs.declared.literal.Literal.{Literal}
use Rattle.cpg_cube.specs.Narrow.{narrowed_by, meet_literal}
use Rattle.cpg_cube.specs.Fit.{IsKnown}
use Rattle.cpg_cube.proofs.Narrow.{narrowed-before, narrowed-here, narrowed-after, variables_of_narrowed}
use Rattle.cpg_tree.specs.TreeNode.{TreeNode, Leaf, Fork}
use Rattle.cpg_tree.specs.Decision.{DoForksPass}
use Rattle.cpg_tree.specs.Paths.{up_to, above, paths_from, paths_of}
use Rattle.cpg_tree.specs.Tree.{Path, DoPathsPass}
use Rattle.cpg_tree.specs.Variables.{is_variable}

-- ---- a narrowed cube speaks of the variables of the cube, and of the literal's

-- a cube has a literal on a variable
abbrev SpeaksOf : List Literal → ℕ → Type 0
SpeaksOf cube v = (l : Literal) × Contains cube l × (l.variable ≡ v)

-- a cube narrowed by a literal has a literal on the variable of that one
speaks_of_new : (l : Literal) (cube : List Literal) → SpeaksOf (narrowed_by l cube) l.variable
-- by induction on the literals
speaks_of_new l [] = (l, Contains-first l [], refl)
-- the literal meets m, or is put before it, or is left to the later ones
speaks_of_new l (m ∷ ms) = elim (cases_order l.variable m.variable) [
  | inl same ↦ (
    meet_literal l m,
    subst (λ (c : List Literal). Contains c (meet_literal l m)) (sym (narrowed-here l m ms same))
        (Contains-first (meet_literal l m) ms),
    sym same,
  )
  | inr (inl before) ↦ (
    l,
    subst (λ (c : List Literal). Contains c l) (sym (narrowed-before l m ms before)) (Contains-first l (m ∷ ms)),
    refl,
  )
  | inr (inr after) ↦
      let later = speaks_of_new l ms in (
        later.0,
        subst (λ (c : List Literal). Contains c later.0) (sym (narrowed-after l m ms after))
            (Contains-rest m (narrowed_by l ms) later.0 later.1),
        later.2,
      )
]

-- a cube narrowed by a literal still has a literal on each variable that it had one on
speaks_of_old : (l : Literal) (cube : List Literal) (x : Literal) → Contains cube x →
    SpeaksOf (narrowed_by l cube) x.variable
-- by induction on the literals
speaks_of_old l [] x listed = absurd (Contains-nil x listed)
-- the literal meets m, which stays on its variable, or is put before it, or is left to the later ones
speaks_of_old l (m ∷ ms) x listed = elim (cases_order l.variable m.variable) [
  | inl same ↦ subst (λ (n : List Literal). SpeaksOf n x.variable) (sym (narrowed-here l m ms same))
      (elim (Contains-cases m ms x listed) [
        | inl is_m ↦ (meet_literal l m, Contains-first (meet_literal l m) ms, ap (λ (y : Literal). y.variable) is_m)
        | inr in_rest ↦ (x, Contains-rest (meet_literal l m) ms x in_rest, refl)
      ])
  | inr (inl before) ↦ subst (λ (n : List Literal). SpeaksOf n x.variable) (sym (narrowed-before l m ms before))
      (x, Contains-rest l (m ∷ ms) x listed, refl)
  | inr (inr after) ↦ subst (λ (n : List Literal). SpeaksOf n x.variable) (sym (narrowed-after l m ms after))
      (elim (Contains-cases m ms x listed) [
        | inl is_m ↦ (m, Contains-first m (narrowed_by l ms), ap (λ (y : Literal). y.variable) is_m)
        | inr in_rest ↦ let later = speaks_of_old l ms x in_rest in
            (later.0, Contains-rest m (narrowed_by l ms) later.0 later.1, later.2)
      ])
]

-- ---- each fork's variable is one of a path

-- some path's cube has one
abbrev IsSpoken : {T : Type 0} → List (Path T) → ℕ → Type 0
IsSpoken {T} paths v = (p : Path T) × Contains paths p × SpeaksOf p.0 v

-- if a cube has a literal on v, some path from this cube on has one: the path that always goes below
some_path : {T : Type 0} (k : ℕ) (node : TreeNode T) (cube : List Literal) (v : ℕ) → SpeaksOf cube v →
    IsSpoken (paths_from k cube node) v
-- by induction on the tree: a leaf, then a fork by its two sides
some_path k (Leaf x) cube v speaks = ((cube, x), Contains-first (cube, x) [], speaks)
some_path k (Fork u cut below upper) cube v speaks =
    let old = speaks_of_old (up_to u cut) cube speaks.0 speaks.1 in
    let spoken = some_path k below (narrowed_by (up_to u cut) cube) v (old.0, old.1, old.2 ∙ speaks.2) in (
      spoken.0,
      Contains-append_left (paths_from k (narrowed_by (up_to u cut) cube) below)
          (paths_from k (narrowed_by (above k u cut) cube) upper) spoken.0 spoken.1,
      spoken.2,
    )

-- given: a test of variables
module _ (test : ℕ → Bool) where
  -- the variables of all literals of a cube pass the test
  abbrev Passes : List Literal → Type 0
  Passes cube = (l : Literal) → Contains cube l → test l.variable ≡ true

  -- if the variables of all paths pass a test, those of all forks do: each fork's variable is in the paths through it
  forks_from : {T : Type 0} (k : ℕ) (node : TreeNode T) (cube : List Literal) →
      ((p : Path T) → Contains (paths_from k cube node) p → Passes p.0) →
      DoForksPass test node
  -- by induction on the tree: a leaf, then a fork by its two sides
  forks_from k (Leaf x) cube passes = tt
  forks_from k (Fork v cut below upper) cube passes =
      let lower = paths_from k (narrowed_by (up_to v cut) cube) below in
      let higher = paths_from k (narrowed_by (above k v cut) cube) upper in
      let some = some_path k below (narrowed_by (up_to v cut) cube) v (speaks_of_new (up_to v cut) cube) in (
        subst (λ (u : ℕ). test u ≡ true) some.2.2
            (passes some.0 (Contains-append_left lower higher some.0 some.1) some.2.0 some.2.1),
        forks_from k below (narrowed_by (up_to v cut) cube)
            (λ path listed. passes path (Contains-append_left lower higher path listed)),
        forks_from k upper (narrowed_by (above k v cut) cube)
            (λ path listed. passes path (Contains-append_right lower higher path listed)),
      )

  -- ---- each variable of a path is a fork's

  -- if a literal's variable passes, and all variables of a cube do, those of the cube narrowed by the literal pass too
  passes_narrowed : (l : Literal) (cube : List Literal) → test l.variable ≡ true → Passes cube →
      Passes (narrowed_by l cube)
  passes_narrowed l cube on old literal listed = elim (variables_of_narrowed l cube literal listed) [
    | inl is_new ↦ subst (λ (v : ℕ). test v ≡ true) is_new on
    | inr kept ↦ subst (λ (v : ℕ). test v ≡ true) kept.2 (old kept.0 kept.1)
  ]

  -- the variables of the paths on from a cube pass a test if those of the cube and of the forks do
  paths_pass : {T : Type 0} (k : ℕ) (node : TreeNode T) (cube : List Literal) → Passes cube → DoForksPass test node →
      (x : Path T) → Contains (paths_from k cube node) x → Passes x.0
  -- by induction on the tree: the one path of a leaf has the cube itself; a fork narrows it by a literal on its
  -- variable
  paths_pass {T} k (Leaf value) cube on pass path listed = elim (Contains-cases (cube, value) [] path listed) [
    | inl is_first ↦ subst (λ (z : Path T). Passes z.0) is_first on
    | inr none ↦ absurd (Contains-nil path none)
  ]
  paths_pass k (Fork v cut below upper) cube on pass path listed =
      elim (Contains-append_cases (paths_from k (narrowed_by (up_to v cut) cube) below)
      (paths_from k (narrowed_by (above k v cut) cube) upper) path listed) [
        | inl in_first ↦ paths_pass k below (narrowed_by (up_to v cut) cube)
            (passes_narrowed (up_to v cut) cube pass.0 on) pass.1 path in_first
        | inr in_second ↦ paths_pass k upper (narrowed_by (above k v cut) cube)
            (passes_narrowed (above k v cut) cube pass.0 on) pass.2 path in_second
      ]

  -- ---- of a whole tree

  -- if the variables of all paths pass, so do those of all forks
  pub forks_of_paths : {T : Type 0} (k : ℕ) (node : TreeNode T) → DoPathsPass test (paths_of k node) →
      DoForksPass test node
  forks_of_paths {T} k node pass = forks_from k node []
      (λ path listed. λ literal. All-contains (λ (m : Literal). test m.variable ≡ true) path.0 literal
      (All-contains (λ (q : Path T). All (λ (m : Literal). test m.variable ≡ true) q.0) (paths_of k node) path pass
      listed))

  -- if the variables of all forks pass, so do those of all paths
  pub paths_of_forks : {T : Type 0} (k : ℕ) (node : TreeNode T) → DoForksPass test node →
      DoPathsPass test (paths_of k node)
  paths_of_forks k node pass i no_path i_below j no_literal j_below =
      let path = get_or (paths_of k node) i no_path in
      paths_pass k node [] (λ literal listed. absurd (Contains-nil literal listed)) pass path
      (Contains-get_or (paths_of k node) i no_path i_below)
      (get_or path.0 j no_literal) (Contains-get_or path.0 j no_literal j_below)

-- ---- the variables of a graph

-- a number that is tested to be a variable of the graph is one
pub variable_from : (g : Graph) (v : ℕ) → is_variable g v ≡ true → IsVariable g v
variable_from g v passes =
    elim (or_cases (nat_lt v (process_count g)) (nat_le 128 v && nat_lt v (value_variable (condition_count g)))
    passes) [
      | inl is_count ↦ inl (ltb-true v (process_count g) is_count)
      | inr is_value ↦ let parts = and_parts (nat_le 128 v) (nat_lt v (value_variable (condition_count g))) is_value in
          inr (leb-true 128 v parts.0, ltb-true v (value_variable (condition_count g)) parts.1)
    ]

-- a variable of the graph passes the test for one
variable_passes : (g : Graph) (v : ℕ) → IsVariable g v → is_variable g v ≡ true
variable_passes g v (inl below) = or_left (nat_lt v (process_count g)) _ (lt-ltb v (process_count g) below)
variable_passes g v (inr bounds) = or_right (nat_lt v (process_count g)) _
    (and_from (nat_le 128 v) _ (le-leb 128 v bounds.0) (lt-ltb v (value_variable (condition_count g)) bounds.1))

-- if the variables of a tree are the graph's, they are known, as is asked of a tree whose columns are listed
pub known_from : {T : Type 0} (g : Graph) (paths : List (Path T)) → DoPathsPass (is_variable g) paths →
    All (λ (p : Path T). IsKnown g p.0) paths
known_from g paths pass i no_path i_below j no_literal j_below =
    variable_from g _ (pass i no_path i_below j no_literal j_below)

-- if the variables of a tree's paths are known, they are the graph's
pub known_passes : {T : Type 0} (g : Graph) (paths : List (Path T)) → All (λ (p : Path T). IsKnown g p.0) paths →
    DoPathsPass (is_variable g) paths
known_passes g paths known i no_path i_below j no_literal j_below =
    variable_passes g _ (known i no_path i_below j no_literal j_below)
