-- How a narrowing is undone: what the cube's literals were before it.
use Rattle.std.specs.Prelude.{ℕ, ◌<◌, ◌≡◌, List, Option, None, Some, IfSome, get_or, length, remove, slice_set}
use Rattle.cpg_cube.specs.declared.literal.Literal.{Literal}
use Rattle.cpg_cube.specs.declared.cube.Narrowing.{Narrowing}
use Rattle.cpg_cube.specs.Narrow.{meet_literal}

-- the literals with the former one at its place again, or without the one at the place if none was there
abbrev pub restored_at : ℕ → Option Literal → List Literal → List Literal
restored_at place (Some was) literals = slice_set literals place was
restored_at place None literals = remove literals place

-- the literals as they were before the narrowing n
abbrev pub restored : Narrowing → List Literal → List Literal
restored n literals = restored_at n.place n.was literals

-- undoing the narrowing n leads from the literals `narrowed` back to `literals`
pub record IsUndo (n : Narrowing) (narrowed literals : List Literal) : Type 0 where
  -- there is a literal at the narrowing's place
  pub place : n.place < length narrowed
  -- undoing the narrowing gives `literals`
  pub back : restored n narrowed ≡ literals

-- the narrowing n is one of variable v in the cube of these literals
pub record IsOn (v : ℕ) (n : Narrowing) (literals : List Literal) : Type 0 where
  -- the literal at the narrowing's place is on v; d is what `get_or` answers behind the last literal, so it plays no
  -- part
  pub there : (d : Literal) → (get_or literals n.place d).variable ≡ v
  -- the literal that stood there before, if one did, was on v too
  pub was : IfSome n.was (λ w. w.variable ≡ v)

-- what is left of the range of l: l met with the literal that was there, or l itself if none was
abbrev pub left_of : Literal → Option Literal → Literal
left_of l (Some was) = meet_literal l was
left_of l None = l
