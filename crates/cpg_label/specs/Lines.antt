-- The text of a column's literals, and how long that of its first ones is.
use Rattle.std.specs.Prelude.{◌≡◌, ◌==◌, if◌then◌else◌, ℕ, ◌+◌, ◌*◌, ◌≤◌, List, [], ◌∷◌, ◌++◌, codes, get_or, length}
use Rattle.std.specs.Prelude.{take}
use Rattle.std.specs.List.{flat_map}
use Rattle.cpg_cube.specs.declared.literal.Literal.{Literal}
use Rattle.cpg_label.specs.CubeText.{literal_text}
use Rattle.cpg_label.specs.Labels.{Labels}
use Rattle.cpg_label.specs.declared.line.Line.{Line}

-- the text of a literal that comes after another one
abbrev pub piece_text : Labels → Literal → List ℕ
piece_text labels l = codes ", " ++ literal_text labels l

-- the text of literals, which is empty if there are none
abbrev pub front_text : Labels → List Literal → List ℕ
front_text labels [] = []
front_text labels (l ∷ ls) = literal_text labels l ++ flat_map (piece_text labels) ls

-- what literals add to the text of others, which are the first list
abbrev pub rest_text : Labels → List Literal → List Literal → List ℕ
rest_text labels [] ls = front_text labels ls
rest_text labels (x ∷ xs) ls = flat_map (piece_text labels) ls

-- what one more literal adds to the text of others
abbrev pub added_text : Labels → List Literal → Literal → List ℕ
added_text labels [] l = literal_text labels l
added_text labels (x ∷ xs) l = piece_text labels l

-- the first n literals are the same in two lists, which both have as many
pub record AreAlike (first second : List Literal) (n : ℕ) : Type 0 where
  pub same : take n first ≡ take n second
  pub within : n ≤ length first
  pub inside : n ≤ length second

-- what a literal adds to the text of n others
abbrev pub text_after : Labels → ℕ → Literal → List ℕ
text_after labels n l = if n == 0 then literal_text labels l else piece_text labels l

-- t is the text of the literals ls, and es says for each n, from 0 to their number, how long the text of the first n is
pub record AreLine (labels : Labels) (ls : List Literal) (t es : List ℕ) : Type 0 where
  pub text : t ≡ front_text labels ls
  pub count : length es ≡ length ls + 1
  pub ends : (n : ℕ) → n ≤ length ls → get_or es n 0 ≡ length (front_text labels (take n ls))
  -- a literal's text has at most 84 bytes
  pub short : (n : ℕ) → n ≤ length ls → get_or es n 0 ≤ 84 * n

-- a line has the text of its literals and the lengths of the first ones' texts, and has room for 256 literals
pub record IsLine (labels : Labels) (line : Line) : Type 0 where
  -- the first `count` literals, their text, and one end more than there are literals
  pub are : AreLine labels (take line.count line.literals.items)
      (take (get_or line.ends.items line.count 0) line.text.items) (take (line.count + 1) line.ends.items)
  pub few : line.count ≤ 256
  -- the lists have room for 256 literals of 84 bytes each
  pub literals : length line.literals.items ≡ 256
  pub text : length line.text.items ≡ 256 * 84
  pub ends : length line.ends.items ≡ 256 + 1

-- a line has the text of just these literals, in their order
pub record IsLineOf (labels : Labels) (ls : List Literal) (made : Line) : Type 0 where
  pub line : IsLine labels made
  pub literals : take made.count made.literals.items ≡ ls
