-- What callers see of a tree: its paths, each a cube and a value. Also what the operations on trees answer.
use Rattle.std.specs.Prelude.{ℕ, ◌≡◌, ◌≢◌, ◌≤◌, max, min, Bool, true, false, List, [], ◌∷◌, All, length, filter, IsTrue}
use Rattle.std.specs.Prelude.{Contains, if◌then◌else◌}
use Rattle.cpg_base.specs.Scenario.{Scenario, number_of}
use Rattle.cpg_cube.specs.declared.literal.Literal.{Literal}
use Rattle.cpg_cube.specs.Cube.{IsRising, matches, low_in, high_in, is_whole}
use Rattle.cpg_base.specs.Variable.{top}
use Rattle.cpg_tree.specs.Space.{HasAtMostFaults}

-- a cube (part 0) and the value (part 1) in the scenarios that it matches
abbrev pub Path : Type 0 → Type 0
Path T = List Literal × T

-- the most faults of the scenarios that a tree is for, and its paths, one for each leaf
pub record TreeState (T : Type 0) : Type 0 where
  pub faults : ℕ
  pub paths : List (Path T)

-- whether a scenario is on a path: the path's cube matches it
abbrev pub is_on : {T : Type 0} → Scenario → Path T → Bool
is_on s path = matches path.0 s

-- the path is one of these, and the scenario is on it
pub record IsOnPath {T : Type 0} (paths : List (Path T)) (s : Scenario) (path : Path T) : Type 0 where
  pub stands : Contains paths path
  pub matched : IsTrue (is_on s path)

-- each scenario of at most k faults is on exactly one of the paths
abbrev pub HasOnePathEach : {T : Type 0} → ℕ → List (Path T) → Type 0
HasOnePathEach k paths = (s : Scenario) → HasAtMostFaults k s → length (filter (is_on s) paths) ≡ 1

-- the path's cube has no literal that says nothing, and some scenario of at most k faults is on it
pub record IsTidyPath {T : Type 0} (k : ℕ) (path : Path T) : Type 0 where
  -- the variables of its literals rise
  pub rising : IsRising path.0
  -- no literal has the whole range of its variable, and none ends above that range
  pub not_whole : All (λ (l : Literal). is_whole k l ≡ false) path.0
  pub within : All (λ (l : Literal). l.high ≤ top k l.variable) path.0
  -- some scenario of at most k faults is on the path
  pub met : (s : Scenario) × HasAtMostFaults k s × IsTrue (is_on s path)

-- the variable of each literal of each path passes the test
abbrev pub DoPathsPass : {T : Type 0} → (ℕ → Bool) → List (Path T) → Type 0
DoPathsPass {T} test paths = All (λ (p : Path T). All (λ (l : Literal). test l.variable ≡ true) p.0) paths

-- for each variable the range of `wide` contains that of a, with at most k faults
pub record IsAsWide (k : ℕ) (wide : List Literal) (a : List Literal) : Type 0 where
  pub low : (v : ℕ) → low_in wide v ≤ low_in a v
  pub high : (v : ℕ) → high_in k a v ≤ high_in k wide v

-- for each variable the range of `wide` contains what the ranges of a and b have in common
pub record IsAsWideAsBoth (k : ℕ) (wide : List Literal) (a b : List Literal) : Type 0 where
  pub low : (v : ℕ) → low_in wide v ≤ max (low_in a v) (low_in b v)
  pub high : (v : ℕ) → min (high_in k a v) (high_in k b v) ≤ high_in k wide v

-- for each variable the range of `wide` contains what the ranges of a, b and c have in common
pub record IsAsWideAsAll (k : ℕ) (wide : List Literal) (a b c : List Literal) : Type 0 where
  pub low : (v : ℕ) → low_in wide v ≤ max (low_in a v) (max (low_in b v) (low_in c v))
  pub high : (v : ℕ) → min (high_in k a v) (min (high_in k b v) (high_in k c v)) ≤ high_in k wide v

-- x is the value of each path that the scenario is on
pub record IsValueAt {T : Type 0} (t : TreeState T) (s : Scenario) (x : T) : Type 0 where
  pub of_path : (path : Path T) → IsOnPath t.paths s path → x ≡ path.1

-- the tree is for k faults and has one path, of the empty cube, with the value x
abbrev pub IsConstant : {T : Type 0} → T → ℕ → TreeState T → Type 0
IsConstant x k r = r ≡ record { faults = k; paths = ([], x) ∷ [] }

-- in each scenario of at most `a.faults` faults r has an answer to the value of a; `answers x z` says that z answers x
pub record IsMap {T U : Type 0} (answers : T → U → Type 0) (a : TreeState T) (r : TreeState U) : Type 0 where
  pub faults : r.faults ≡ a.faults
  -- the value of the scenario's path in r answers that of its path in a
  pub value : (s : Scenario) (x : Path T) (z : Path U) → HasAtMostFaults a.faults s → IsOnPath a.paths s x →
      IsOnPath r.paths s z → answers x.1 z.1
  -- the path in r is at least as wide as that in a
  pub ranges : (s : Scenario) (x : Path T) (z : Path U) → HasAtMostFaults a.faults s → IsOnPath a.paths s x →
      IsOnPath r.paths s z →
      IsAsWide a.faults z.0 x.0

-- in each scenario of at most `a.faults` faults r has an answer to the values of a and b
pub record IsJoin {T U V : Type 0} (answers : T → U → V → Type 0) (a : TreeState T) (b : TreeState U)
    (r : TreeState V) : Type 0 where
  pub faults : r.faults ≡ a.faults
  -- the value of the scenario's path in r answers those of its paths in a and b
  pub value : (s : Scenario) (x : Path T) (y : Path U) (z : Path V) → HasAtMostFaults a.faults s →
      IsOnPath a.paths s x →
      IsOnPath b.paths s y →
      IsOnPath r.paths s z → answers x.1 y.1 z.1
  -- the path in r has all numbers that are on both of those in a and b
  pub ranges : (s : Scenario) (x : Path T) (y : Path U) (z : Path V) → HasAtMostFaults a.faults s →
      IsOnPath a.paths s x →
      IsOnPath b.paths s y →
      IsOnPath r.paths s z → IsAsWideAsBoth a.faults z.0 x.0 y.0

-- in each scenario r has the value of `on` if the chooser is true there, and otherwise that of `off`
pub record IsPick {T : Type 0} (chooser : TreeState Bool) (on off r : TreeState T) : Type 0 where
  pub faults : r.faults ≡ chooser.faults
  -- c is the chooser's path, x that of the tree that it picks, and z that of r
  pub value : (s : Scenario) (c : Path Bool) (x z : Path T) → HasAtMostFaults chooser.faults s →
      IsOnPath chooser.paths s c →
      IsOnPath (if c.1 then on.paths else off.paths) s x → IsOnPath r.paths s z → z.1 ≡ x.1
  -- the path in r has all numbers that are both on the chooser's path and on that of the tree picked
  pub ranges : (s : Scenario) (c : Path Bool) (x z : Path T) → HasAtMostFaults chooser.faults s →
      IsOnPath chooser.paths s c →
      IsOnPath (if c.1 then on.paths else off.paths) s x → IsOnPath r.paths s z →
      IsAsWideAsBoth chooser.faults z.0 c.0 x.0

-- in each scenario r has an answer to the values of a and b if the chooser is true there, and otherwise the value
-- `none`
pub record IsJoinWhere {T U V : Type 0} (answers : T → U → V → Type 0) (none : V) (chooser : TreeState Bool)
    (a : TreeState T) (b : TreeState U) (r : TreeState V) : Type 0 where
  pub faults : r.faults ≡ chooser.faults
  -- if the chooser is true, the value answers those of a and b, and its path has all numbers that are on all three
  pub on : (s : Scenario) (c : Path Bool) (x : Path T) (y : Path U) (z : Path V) → HasAtMostFaults chooser.faults s →
      IsOnPath chooser.paths s c → c.1 ≡ true →
      IsOnPath a.paths s x → IsOnPath b.paths s y → IsOnPath r.paths s z → answers x.1 y.1 z.1
  pub on_ranges : (s : Scenario) (c : Path Bool) (x : Path T) (y : Path U) (z : Path V) →
      HasAtMostFaults chooser.faults s → IsOnPath chooser.paths s c → c.1 ≡ true →
      IsOnPath a.paths s x → IsOnPath b.paths s y → IsOnPath r.paths s z → IsAsWideAsAll chooser.faults z.0 c.0 x.0 y.0
  -- if the chooser is false, the value is `none`, and its path is at least as wide as the chooser's
  pub off : (s : Scenario) (c : Path Bool) (z : Path V) → HasAtMostFaults chooser.faults s →
      IsOnPath chooser.paths s c → c.1 ≡ false → IsOnPath r.paths s z → z.1 ≡ none
  pub off_ranges : (s : Scenario) (c : Path Bool) (z : Path V) → HasAtMostFaults chooser.faults s →
      IsOnPath chooser.paths s c → c.1 ≡ false → IsOnPath r.paths s z →
      IsAsWide chooser.faults z.0 c.0

-- in each scenario of at most k faults the value, read as a number, is that of v; no path has a literal on another
-- variable
pub record IsNumber {T : Type 0} (v k : ℕ) (number : T → ℕ) (t : TreeState T) : Type 0 where
  pub faults : t.faults ≡ k
  pub value : (s : Scenario) (x : Path T) → HasAtMostFaults k s → IsOnPath t.paths s x → number x.1 ≡ number_of s v
  -- every other variable has its whole range on the path
  pub low : (s : Scenario) (x : Path T) (u : ℕ) → HasAtMostFaults k s → IsOnPath t.paths s x → u ≢ v → low_in x.0 u ≡ 0
  pub high : (s : Scenario) (x : Path T) (u : ℕ) → HasAtMostFaults k s → IsOnPath t.paths s x → u ≢ v →
      high_in k x.0 u ≡ top k u
