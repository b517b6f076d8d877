-- Trees that are made down guards. A list of known guards has the tree of each part that is done, so equal parts share
-- one tree.
use Rattle.std.specs.Prelude.{ℕ, ◌≡◌, ◌<◌, List, [], ◌∷◌, ◌++◌, length, All}
use Rattle.std.specs.List.{HoldsAt}
use Rattle.cpg_base.specs.declared.activation.Activation.{Activation}
use Rattle.cpg_order.specs.Guard.{Guard, Leaf, Test}
use Rattle.cpg_tree.specs.Tree.{TreeState}
use Rattle.cpg_expand.specs.declared.descent.Source.{Source}
use Rattle.cpg_expand.specs.declared.descent.Source.TheVariants.{At, Alone}
use Rattle.cpg_expand.specs.declared.descent.KnownGuard.{KnownGuard}

-- the activation of each leaf of the guard has the fact
abbrev pub AreLeaves : (Activation → Type 0) → Guard → Type 0
AreLeaves fact (Leaf a) = fact a
AreLeaves fact (Test c off on) = AreLeaves fact off × AreLeaves fact on

-- in the list of known guards, each tree has the fact `made`, and `fits` relates its guard to it
abbrev pub AreKnown : {T : Type 0} → (TreeState T → Type 0) → (Guard → TreeState T → Type 0) → List (KnownGuard T) →
    Type 0
AreKnown {T} made fits known = All (λ (k : KnownGuard T). made k.tree × fits k.guard.now k.tree) known

-- the list has guard g at place i
abbrev pub IsAt : {T : Type 0} → List (KnownGuard T) → ℕ → Guard → Type 0
IsAt {T} known i g = (i < length known) × HoldsAt (λ (k : KnownGuard T). k.guard.now ≡ g) known i

-- each guard that `old` has at a place is at the same place in `new`
abbrev pub ArePlacesKept : {T : Type 0} → List (KnownGuard T) → List (KnownGuard T) → Type 0
ArePlacesKept old new = (i : ℕ) (g : Guard) → IsAt old i g → IsAt new i g

-- if the source is a place, that is within the list of known guards
abbrev pub IsThere : {T : Type 0} → List (KnownGuard T) → Source T → Type 0
IsThere known (At i) = i < length known
IsThere known (Alone t) = Unit {0}

-- r is the tree that the source names: the one at its place in the list of known guards, or its own
abbrev pub IsTreeOf : {T : Type 0} → List (KnownGuard T) → Source T → TreeState T → Type 0
IsTreeOf {T} known (At i) r = HoldsAt (λ (k : KnownGuard T). r ≡ k.tree) known i
IsTreeOf known (Alone t) r = r ≡ t

-- The source is right for guard g: it is a place at which the list has g, or a tree of its own that has the fact `made`
-- and to which `fits` relates g.
abbrev pub IsFound : {T : Type 0} → (TreeState T → Type 0) → (Guard → TreeState T → Type 0) → List (KnownGuard T) →
    Guard → Source T → Type 0
IsFound made fits known g (At i) = IsAt known i g
IsFound made fits known g (Alone t) = made t × fits g t

-- What adding guard g with its tree did to the list `old`, which is now `new`. If the source is a place, the list has
-- grown by the two, and the place is the last. If the source is alone, the list stays, and the tree is handed back.
abbrev pub IsGuardAdded : {T : Type 0} → List (KnownGuard T) → List (KnownGuard T) → Guard → TreeState T → Source T →
    Type 0
IsGuardAdded {T} old new g tree (At i) =
    (i ≡ length old) × (k : KnownGuard T) × (new ≡ old ++ (k ∷ [])) × (k.guard.now ≡ g) × (k.tree ≡ tree)
IsGuardAdded old new g tree (Alone t) = (new ≡ old) × (t ≡ tree)
