-- Lists of known length by their elements, and the bytes of lists that are taken block by block.
use Rattle.std.proofs.Common.{ℕ, ◌≡◌, Bool, true, cond, List, ◌++◌, length, get_or, take, drop, map, refl, sym, ap, ◌∙◌}
use Rattle.std.proofs.Common.{append_assoc}
use Rattle.std.specs.List.{flat_map}
use Rattle.std.proofs.lemmas.List.FromFn.{fill_by_all}
use Rattle.std.proofs.lemmas.Grind.{flat_map-append}
use Rattle.std.proofs.lemmas.List.{take-append-drop}
use Rattle.cpg_base.specs.Numbers.{numbers_below}
use Rattle.cpg_cube.specs.declared.literal.Literal.{Literal}
use Rattle.cpg_codec.specs.Spelling.{literal_bytes}

-- a list of n elements is the list of its elements 0 up to n - 1
pub elements : {X : Type 0} (xs : List X) (n : ℕ) (d : X) → length xs ≡ n →
    xs ≡ map (λ k. get_or xs k d) (numbers_below n)
elements xs n d same = fill_by_all (λ k. get_or xs k d) xs n d same (λ k l. refl)

-- `all` is what was there (`old`) and the bytes of the elements left; if the bytes of the first n of these are added to
-- what was there, `all` is the new bytes and those of the rest. It is the seam of `take` and `drop`, regrouped
pub block_moved : {X A : Type 0} (f : X → List A) (all old new : List A) (left rest : List X) (n : ℕ) →
    all ≡ old ++ flat_map f left → new ≡ old ++ flat_map f (take n left) →
    rest ≡ drop n left →
    all ≡ new ++ flat_map f rest
block_moved f all old new left rest n same is r =
    same ∙ ap (λ ls. old ++ flat_map f ls) (sym (take-append-drop n left))
    ∙ ap (λ bs. old ++ bs) (flat_map-append f (take n left) (drop n left))
    ∙ sym (append_assoc old (flat_map f (take n left)) (flat_map f (drop n left)))
    ∙ sym (ap (λ bs. bs ++ flat_map f rest) is ∙ ap (λ ls. (old ++ flat_map f (take n left)) ++ flat_map f ls) r)

-- a call adds a piece if it succeeds (b) and changes nothing if not; it succeeded, so the piece was added
pub appended : (old new piece : List ℕ) (b : Bool) → new ≡ cond b (old ++ piece) old → b ≡ true → new ≡ old ++ piece
appended old new piece b same on = same ∙ ap (λ c. cond c (old ++ piece) old) on

-- a list of sixteen literals has the bytes of its elements 0 to 15
pub sixteen_bytes : (ls : List Literal) (d : Literal) → length ls ≡ 16 →
    flat_map literal_bytes (map (λ k. get_or ls k d) (numbers_below 16)) ≡ flat_map literal_bytes ls
sixteen_bytes ls d same = ap (flat_map literal_bytes) (sym (elements ls 16 d same))

-- a list of eight literals has the bytes of its elements 0 to 7
pub eight_bytes : (ls : List Literal) (d : Literal) → length ls ≡ 8 →
    flat_map literal_bytes (map (λ k. get_or ls k d) (numbers_below 8)) ≡ flat_map literal_bytes ls
eight_bytes ls d same = ap (flat_map literal_bytes) (sym (elements ls 8 d same))

-- a list of four literals has the bytes of its elements 0 to 3
pub four_bytes : (ls : List Literal) (d : Literal) → length ls ≡ 4 →
    flat_map literal_bytes (map (λ k. get_or ls k d) (numbers_below 4)) ≡ flat_map literal_bytes ls
four_bytes ls d same = ap (flat_map literal_bytes) (sym (elements ls 4 d same))
