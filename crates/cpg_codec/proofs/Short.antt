-- The parts of a list of which a property holds, the bytes of a table in three parts, and edges that fit their bytes.
use Rattle.std.proofs.Common.{◌≡◌, ℕ, List, [], ◌∷◌, ◌++◌, length, ap, ◌∙◌, arith}
use Rattle.std.specs.Prelude.{All}
use Rattle.std.specs.List.{flat_map, AllByRecursion}
use Rattle.std.proofs.lemmas.List.Concat.{flat_map-append}
use Rattle.std.proofs.lemmas.List.Elements.{All-from_recursion, recursion_from_All, All-weaker}
use Rattle.cpg_head.specs.Head.{Head, IsHead, IsHeadEdge}
use Rattle.cpg_table.specs.Table.{NodeTable}
use Rattle.cpg_codec.specs.Spelling.{row_bytes, table_bytes}
use Rattle.cpg_codec.specs.Writing.{IsShortEdge}

-- if a property holds of each element of xs ++ ys, it holds of each of xs and of each of ys; by recursion on xs
split : {X : Type 0} (P : X → Type 0) (xs ys : List X) → AllByRecursion P (xs ++ ys) →
    AllByRecursion P xs × AllByRecursion P ys
split P [] ys holds = (tt, holds)
split P (x ∷ xs) ys holds = let parts = split P xs ys holds.1 in ((holds.0, parts.0), parts.1)

-- `split` for `All`, which speaks of the elements by index
pub All-parts : {X : Type 0} (P : X → Type 0) (xs ys : List X) → All P (xs ++ ys) → All P xs × All P ys
All-parts P xs ys holds = let parts = split P xs ys (recursion_from_All P (xs ++ ys) holds) in
    (All-from_recursion P xs parts.0, All-from_recursion P ys parts.1)

-- the bytes of a table are those of its start rows, of its send rows and of its hear rows
pub table_parts : (t : NodeTable) →
    table_bytes t ≡ flat_map row_bytes t.starts ++ (flat_map row_bytes t.sends ++ flat_map row_bytes t.hears)
table_parts t = flat_map-append row_bytes t.starts (t.sends ++ t.hears)
    ∙ ap (λ (x : List ℕ). flat_map row_bytes t.starts ++ x) (flat_map-append row_bytes t.sends t.hears)

-- each end of a head's edge fits into a byte: it is less than the number of processes, which is at most 128
pub short_edges : (h : Head) → IsHead h → All IsShortEdge h.edges
short_edges h lawful = All-weaker (IsHeadEdge (length h.processes)) IsShortEdge (λ e is_edge. record {
  from = omega (arith, is_edge.from, lawful.few_processes);
  to = omega (arith, is_edge.to, lawful.few_processes);
}) h.edges lawful.edges
