-- Shared parts: trees that are kept once and called by number, and the answers that are known for them.
use Rattle.std.specs.Prelude.{ℕ, ◌≡◌, ◌<◌, ◌≤◌, Bool, false, List, Option, Some, None, All, length, get_or, map}
use Rattle.cpg_base.specs.declared.activation.Activation.TheVariants.{Inactive}
use Rattle.cpg_base.specs.Graph.{Graph}
use Rattle.cpg_order.specs.Urgency.{IsTopological}
use Rattle.cpg_order.specs.Guard.{Guard, Leaf, Test}
use Rattle.cpg_rules.specs.declared.shared.PartTop.{PartTop}
use Rattle.cpg_rules.specs.declared.shared.PartTop.TheVariants.{Leaf as LeafTop, Test as TestTop}
use Rattle.cpg_rules.specs.declared.shared.SharedPart.{SharedPart}
use Rattle.cpg_rules.specs.declared.shared.Ask.{Ask}
use Rattle.cpg_rules.specs.declared.shared.Ask.TheVariants.{Live, Met, Apart}
use Rattle.cpg_rules.specs.declared.shared.KnownPart.{KnownPart}
use Rattle.cpg_rules.specs.Composing.{live_tree, met}
use Rattle.cpg_rules.specs.Apart.{are_both_live}
use Rattle.cpg_rules.specs.Guards.{Guards, AreGuardsOf}

-- how `SharedParts` of the code is seen
pub record Sharing : Type 0 where
  -- by condition, its rank: the place of its process in the urgency order
  pub ranks : List ℕ
  -- the parts, by number
  pub parts : List SharedPart
  -- the places for answers, each with one or none
  pub known : List (Option KnownPart)

-- a stand-in for a part that isn't there: a leaf that is inactive
abbrev pub no_part : SharedPart
no_part = record { top = LeafTop Inactive; tree = Leaf Inactive }

-- the tree of a part, by its number; that of the stand-in if there is no such part
abbrev pub tree_at : List SharedPart → ℕ → Guard
tree_at parts n = (get_or parts n no_part).tree

-- the top of a part fits its tree: it has the leaf's activation, or the test's condition and the parts of its two sides
abbrev pub IsTop : List SharedPart → PartTop → Guard → Type 0
IsTop parts (LeafTop a) tree = tree ≡ Leaf a
IsTop parts (TestTop c off on) tree =
    (off < length parts) × (on < length parts) × (tree ≡ Test c (tree_at parts off) (tree_at parts on))

-- Part n is the answer to a question, and all parts that the question names are there. An answer to `Apart` is kept only
-- if the two are never active at once, and then n means nothing.
abbrev pub IsAnswer : List ℕ → List SharedPart → Ask → ℕ → Type 0
IsAnswer ranks parts (Live a x source) n =
    (source < length parts) × (n < length parts) × (tree_at parts n ≡ live_tree a x (tree_at parts source))
IsAnswer ranks parts (Met join first second) n =
    (first < length parts) × (second < length parts) × (n < length parts) ×
    (tree_at parts n ≡ met join ranks (tree_at parts first) (tree_at parts second))
IsAnswer ranks parts (Apart first second) n = (first < length parts) × (second < length parts) ×
    (are_both_live ranks (tree_at parts first) (tree_at parts second) ≡ false)

-- the answer at a place is right, if there is one
abbrev pub IsKnown : List ℕ → List SharedPart → Option KnownPart → Type 0
IsKnown ranks parts None = Unit {0}
IsKnown ranks parts (Some k) = IsAnswer ranks parts k.ask k.answer

-- the numbers are those of two parts that are there
abbrev pub ArePairWithin : List SharedPart → ℕ → ℕ → Type 0
ArePairWithin parts first second = (first < length parts) × (second < length parts)

-- the tree in which two parts meet
abbrev pub met_of : Bool → Sharing → ℕ → ℕ → Guard
met_of join s first second = met join s.ranks (tree_at s.parts first) (tree_at s.parts second)

-- whether two parts are active at once in some outcome
abbrev pub are_live_of : Sharing → ℕ → ℕ → Bool
are_live_of s first second = are_both_live s.ranks (tree_at s.parts first) (tree_at s.parts second)

-- shared parts are in order: the top of each fits its tree, and each known answer is right
pub record IsSharing (s : Sharing) : Type 0 where
  -- the top of each part fits its tree
  pub tops : All (λ p. IsTop s.parts p.top p.tree) s.parts
  -- each known answer is right
  pub known : All (IsKnown s.ranks s.parts) s.known

-- the new parts are the old ones, with others added or none
pub record Extends (old new : Sharing) : Type 0 where
  -- the ranks are the same
  pub ranks : new.ranks ≡ old.ranks
  -- each old part is still there
  pub longer : length old.parts ≤ length new.parts
  -- each old part has the same tree
  pub same : (n : ℕ) → n < length old.parts → tree_at new.parts n ≡ tree_at old.parts n

-- the new parts are the old ones, with others added or none, and part n has the tree
pub record Makes (old new : Sharing) (tree : Guard) (n : ℕ) : Type 0 where
  -- the old parts are still there
  pub more : Extends old new
  -- n is a part, and has the tree
  pub within : n < length new.parts
  pub is : tree_at new.parts n ≡ tree

-- the trees of processes, if these are the numbers of their parts
abbrev pub trees_of : List SharedPart → List ℕ → List Guard
trees_of parts roots = map (tree_at parts) roots

-- the roots, one for each of this many processes, are numbers of parts
pub record AreRoots (parts : List SharedPart) (count : ℕ) (roots : List ℕ) : Type 0 where
  -- each process has a root
  pub all : length roots ≡ count
  -- each root is the number of a part
  pub within : All (λ n. n < length parts) roots

-- the part that is found has the tree, and none is found if there is no tree; either way the old parts stay
abbrev pub MakesUnion : Sharing → Sharing → Option Guard → Option ℕ → Type 0
MakesUnion old new None None = Extends old new
MakesUnion old new None (Some n) = ⊥
MakesUnion old new (Some tree) None = ⊥
MakesUnion old new (Some tree) (Some n) = Makes old new tree n

-- these are the trees in the guards of a graph, under some topological order
pub record AreTreesOf (g : Graph) (trees : List Guard) : Type 0 where
  -- the order, and the guards of the graph under it
  pub order : List ℕ
  pub guards : Guards
  pub topological : IsTopological g order
  pub are : AreGuardsOf g order guards
  -- whose trees these are
  pub same : guards.trees ≡ trees
