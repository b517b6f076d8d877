-- When a text is a name.
use Rattle.std.proofs.Common.{◌≡◌, ℕ, Bool, true, false, List, length, Option, Some, None, Result, Ok, Err, refl, ◌∙◌}
use Rattle.std.proofs.Common.{sym, ap, cond, le-leb}
use Rattle.std.specs.Prelude.{IfOk, IfSome, IfNone, nat_le, ◌&&◌}
use Rattle.std.specs.List.{list_all}
use Rattle.std.proofs.lemmas.Bool.{and_parts, leb-true}
use Rattle.std.proofs.lemmas.List.Sums.{AllPass-from_list_all, list_all-from_AllPass}
use Rattle.cpg_base.specs.Name.{IsName, is_name_byte}
use Rattle.cpg_reader.specs.Rows.{is_name, name_if}

-- a name passes the test
pub is_name-from_IsName : (text : List ℕ) → IsName text → is_name text ≡ true
is_name-from_IsName text h = rw (le-leb 1 (length text) h.some, le-leb (length text) 32 h.short)
    (list_all-from_AllPass is_name_byte text h.plain)

-- a text that passes the test is a name
pub IsName-from_is_name : (text : List ℕ) → is_name text ≡ true → IsName text
IsName-from_is_name text is_true =
    let (sized, plain) = and_parts (nat_le 1 (length text) && nat_le (length text) 32)
    (list_all is_name_byte text) is_true in
    let (some, short) = and_parts (nat_le 1 (length text)) (nat_le (length text) 32) sized in
    record {
      some = leb-true 1 (length text) some;
      short = leb-true (length text) 32 short;
      plain = AllPass-from_list_all is_name_byte text plain;
    }

-- a text is taken as a name if it passes the test for names
if_name : (text : List ℕ) (b : Bool) → is_name text ≡ b → name_if text ≡ cond b (Some text) None
if_name text b is = rw is

-- a text that isn't a name isn't taken as one
not_name : (text : List ℕ) (b : Bool) → is_name text ≡ b → ¬ IsName text → name_if text ≡ None
not_name text true is h = absurd (h (IsName-from_is_name text is))
not_name text false is h = if_name text false is

-- what `Name::new` finds, by its contract, is the text if it is a name, and otherwise nothing
pub named : (found : Option (List ℕ)) (text : List ℕ) → IfSome found (λ name. name ≡ text) →
    IfSome found (λ _. IsName text) → IfNone found (¬ IsName text) →
    found ≡ name_if text
named (Some name) text same taken refused = ap Some same ∙ sym (if_name text true (is_name-from_IsName text taken))
named None text same taken refused = sym (not_name text (is_name text) refl refused)

-- the result of `Name::new` holds the text if it is a name, and otherwise nothing, unless memory has run out
pub named_ok : {E : Type 0} (r : Result (Option (List ℕ)) E) (text : List ℕ) →
    IfOk r (λ found. IfSome found (λ name. name ≡ text)) →
    IfOk r (λ found. IfSome found (λ _. IsName text)) →
    IfOk r (λ found. IfNone found (¬ IsName text)) → IfOk r (λ found. found ≡ name_if text)
named_ok (Ok found) text same taken refused = named found text same taken refused
named_ok (Err e) text same taken refused = tt
