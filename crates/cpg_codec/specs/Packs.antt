-- Packs: the spellings of lawful tables, and the laws on them.
use Rattle.std.specs.Prelude.{◌≡◌, ℕ, ◌+◌, ◌<◌, ◌≤◌, List, [], ◌++◌, length, take, All}
use Rattle.cpg_base.specs.Name.{IsName}
use Rattle.cpg_head.specs.Head.{Head, IsHead}
use Rattle.cpg_table.specs.Lawful.{Tables, AreTablesOf}
use Rattle.cpg_codec.specs.Spelling.{spelling}

-- a head is within its limits, and the names of its nodes and processes are well-formed
pub record IsPackHead (h : Head) : Type 0 where
  pub within : IsHead h
  pub nodes : All IsName h.nodes
  pub processes : All (λ p. IsName p.name) h.processes

-- tables with such a head, and a lawful table for each of its nodes
pub record AreLawful (t : Tables) : Type 0 where
  pub head : IsPackHead t.head
  pub nodes : AreTablesOf t.head t.nodes

-- some pack begins with these bytes: lawful tables t spell them and a rest
abbrev pub BeginsPack : List ℕ → Type 0
BeginsPack front = (t : Tables) × (rest : List ℕ) × AreLawful t × (spelling t ≡ front ++ rest)

-- the bytes are no pack, and the first n of them are the longest prefix with which some pack begins
pub record IsBadPack (bytes : List ℕ) (n : ℕ) : Type 0 where
  -- n is a place in the bytes, or their end
  pub place : n ≤ length bytes
  -- some pack begins with these n bytes, but none with one byte more of the input
  pub goes_on : BeginsPack (take n bytes)
  pub no_further : n < length bytes → BeginsPack (take (n + 1) bytes) → ⊥
  -- no longer prefix begins a pack, and the whole is no pack
  pub longest : (m : ℕ) → m ≤ length bytes → BeginsPack (take m bytes) → m ≤ n
  pub no_pack : (t : Tables) → AreLawful t → bytes ≡ spelling t → ⊥

-- tables with equal spellings are equal
abbrev pub OneValue : Type 0
OneValue = (t u : Tables) → AreLawful t → AreLawful u → spelling t ≡ spelling u → t ≡ u

-- a spelling that begins with another has nothing after it
abbrev pub NoProperPrefix : Type 0
NoProperPrefix =
    (t u : Tables) (rest : List ℕ) → AreLawful t → AreLawful u → spelling t ≡ spelling u ++ rest → rest ≡ []
