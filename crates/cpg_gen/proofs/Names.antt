-- The names of generated nodes and processes.
use Rattle.std.proofs.Common.{ℕ, ◌<◌, ◌≡◌, Bool, true, List, length, refl}
use Rattle.std.specs.Prelude.{nat_le, ◌&&◌}
use Rattle.std.specs.List.{list_all}
use Rattle.std.specs.Fmt.{digits}
use Rattle.std.proofs.lemmas.Bool.{and_parts, leb-true}
use Rattle.std.proofs.lemmas.List.Sums.{AllPass-from_list_all}
use Rattle.cpg_base.specs.Name.{IsName, is_name_byte}
use Rattle.cpg_base.specs.Numbers.{numbers_below}
use Rattle.cpg_base.proofs.Lists.{from_all, Contains-numbers}
use Rattle.cpg_gen.specs.Generated.{node_name, process_name}

-- whether a text is a name
abbrev is_name : List ℕ → Bool
is_name text = nat_le 1 (length text) && nat_le (length text) 32 && list_all is_name_byte text

-- a text that passes the test is a name
IsName-from_test : (text : List ℕ) → is_name text ≡ true → IsName text
IsName-from_test text is_true =
    let (sized, plain) = and_parts (nat_le 1 (length text) && nat_le (length text) 32)
    (list_all is_name_byte text) is_true in
    let (some, short) = and_parts (nat_le 1 (length text)) (nat_le (length text) 32) sized in
    record {
      some = leb-true 1 (length text) some;
      short = leb-true (length text) 32 short;
      plain = AllPass-from_list_all is_name_byte text plain;
    }

-- the text that names each of the four nodes is a name
pub node_name_is : (i : ℕ) → i < 4 → IsName (node_name i)
unfolding digits
node_name_is i less = IsName-from_test (node_name i)
    (from_all (λ n. is_name (node_name n)) (numbers_below 4) i refl (Contains-numbers 4 i less))

-- the text that names each of the 60 processes is a name
pub process_name_is : (i : ℕ) → i < 60 → IsName (process_name i)
unfolding digits
process_name_is i less = IsName-from_test (process_name i)
    (from_all (λ n. is_name (process_name n)) (numbers_below 60) i refl (Contains-numbers 60 i less))
