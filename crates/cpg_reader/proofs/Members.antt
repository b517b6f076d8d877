-- A table with one more entry, seen as members; and lists with one more element.
use Rattle.std.proofs.Common.{◌≡◌, ℕ, ◌+◌, ◌<◌, List, [], ◌∷◌, ◌++◌, length, get_or, take, map, sym, ap, subst, String}
use Rattle.std.proofs.Common.{Global, Ordering, Less, Equal, Greater, string_bytes, refl, ◌∙◌}
use Rattle.std.specs.Prelude.{All}
use Rattle.std.proofs.lemmas.List.{map_push, take_more}
use Rattle.std.proofs.lemmas.List.Elements.{All-push}
use Rattle.std.specs.String.{string_cmp}
use Rattle.std.specs.Ordering.{match_ordering}
use Rattle.std.specs.BTreeMap.{insert_entry}
use Rattle.toml.specs.View.{view, members_view}
use Rattle.toml.specs.declared.value.Value.{Value}
use Rattle.toml.proofs.Views.{Entry}
use Rattle.cpg_reader.specs.WrittenTree.{with_member}

-- of three lists of entries, the members of the one that an ordering chooses are the members that it chooses
match_members : (o : Ordering) (a b c : List Entry) →
    members_view (match_ordering o a b c) ≡ match_ordering o (members_view a) (members_view b) (members_view c)
match_members Less a b c = refl
match_members Equal a b c = refl
match_members Greater a b c = refl

-- the members of a table with one more entry are its members with one more; by induction on the entries
pub members_view-insert : (es : List Entry) (k : String Global) (v : Value) →
    members_view (insert_entry string_cmp es k v) ≡ with_member (string_bytes k) (view v) (members_view es)
members_view-insert [] k v = refl
members_view-insert (e ∷ es) k v = match_members (string_cmp k e.0) _ _ _ ∙ rw (members_view-insert es k v)

-- given the element x at place i of a list
module _ {X : Type 0} (xs : List X) (i : ℕ) (x : X) (h : i < length xs) (is : x ≡ get_or xs i x) where
  -- the elements up to this one are those before it and then this one
  more : take (i + 1) xs ≡ take i xs ++ x ∷ []
  more = take_more xs i x h ∙ ap (λ y. take i xs ++ y ∷ []) (sym is)

  -- what holds of the first i elements and of x holds of the first i + 1
  pub all_more : (P : X → Type 0) → All P (take i xs) → P x → All P (take (i + 1) xs)
  all_more P a p = subst (All P) (sym more) (All-push P (take i xs) x a p)

  -- if f was made of all before it, and then of it, f was made of all up to it
  pub made_more : {Y : Type 0} (f : X → Y) (made new : List Y) → made ≡ map f (take i xs) → new ≡ made ++ f x ∷ [] →
      new ≡ map f (take (i + 1) xs)
  made_more f made new so_far is_new = is_new ∙ rw (so_far, more) (sym (map_push f (take i xs) x))
