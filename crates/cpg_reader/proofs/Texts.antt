-- A set keeps borrowed texts; what it finds and adds, said of the texts themselves.
use Rattle.std.proofs.Common.{◌≡◌, ℕ, ◌+◌, ◌<◌, Bool, true, false, not, List, [], ◌∷◌, ◌++◌, length, drop, take, get_or}
use Rattle.std.proofs.Common.{map, Err, Bor, refl, ap, ◌∙◌, sym, cond}
use Rattle.std.specs.Prelude.{bytes_eq, position, is_some}
use Rattle.std.specs.List.{list_any, position_or_len}
use Rattle.std.proofs.lemmas.List.{length-map, map_push, take_more}
use Rattle.indexmap.specs.IndexSet.{insert_key}
use Rattle.cpg_reader.specs.declared.shape.RawEdge.{RawEdge}
use Rattle.cpg_reader.specs.declared.place.Table.{Table}
use Rattle.cpg_reader.specs.declared.place.Key.{Key}
use Rattle.cpg_reader.specs.declared.place.ReadFault.TheVariants.{DoubleName}
use Rattle.cpg_reader.specs.Reading.{Reading}
use Rattle.cpg_reader.specs.Ranges.{different, sources}
use Rattle.cpg_reader.specs.Names.{apart_from, name_place}
use Rattle.cpg_reader.proofs.Each.{drop-here}

-- texts that are borrowed
abbrev pub Texts : Type 0
Texts = List (Bor (List ℕ))

-- the texts themselves
abbrev pub texts : Texts → List (List ℕ)
texts ks = map (λ k. k.now) ks

-- a name is among borrowed texts exactly if it is among the texts
any-texts : (name : List ℕ) (ks : Texts) → list_any (λ k. bytes_eq name k.now) ks ≡ list_any (bytes_eq name) (texts ks)
any-texts name [] = refl
any-texts name (k ∷ ks) = rw (any-texts name ks) refl

-- a text stands among borrowed ones at the place at which it stands among the texts
first-texts : (name : List ℕ) (ks : Texts) →
    position_or_len (λ k. bytes_eq name k.now) ks ≡ position_or_len (bytes_eq name) (texts ks)
first-texts name [] = refl
first-texts name (k ∷ ks) = rw (first-texts name ks) refl

-- a name has the same place among borrowed texts as among the texts
pub position-texts : (name : List ℕ) (ks : Texts) →
    position (λ k. bytes_eq name k.now) ks ≡ position (bytes_eq name) (texts ks)
position-texts name ks = rw (first-texts name ks, length-map ks (λ k. k.now)) refl

-- whether two borrowed texts are equal
abbrev pub same_text : Bor (List ℕ) → Bor (List ℕ) → Bool
same_text a b = bytes_eq a.now b.now

-- the texts of a set to which a text k is added if b is false
inserted_if : (ks : Texts) (k : Bor (List ℕ)) (b : Bool) →
    texts (cond b ks (ks ++ k ∷ [])) ≡ cond b (texts ks) (texts ks ++ k.now ∷ [])
inserted_if ks k true = refl
inserted_if ks k false = map_push (λ n. n.now) ks k

-- the texts of a set after an insertion are those before, with the new one after them if it wasn't among them
pub inserted : (ks : Texts) (k : Bor (List ℕ)) →
    texts (insert_key same_text ks k) ≡ cond (list_any (bytes_eq k.now) (texts ks)) (texts ks) (texts ks ++ k.now ∷ [])
inserted ks k = rw (← any-texts k.now ks) (inserted_if ks k (list_any (same_text k) ks))

-- if the source of a conditional edge is added to those that were seen, the different sources of it and of the other
-- edges are those of the other edges
source_noted : (e : RawEdge) (es : List RawEdge) (ks new : Texts) (k : Bor (List ℕ)) → is_some e.when ≡ true →
    k.now ≡ e.from →
    new ≡ insert_key same_text ks k
    → different (texts ks) (sources (e ∷ es)) ≡ different (texts new) (sources es)
source_noted e es ks new k conditional named keys =
    rw (conditional, ← named) (ap (λ seen. different seen (sources es)) (sym (ap texts keys ∙ inserted ks k)))

-- an edge without a `when` adds no source
simple_edge : (e : RawEdge) (es : List RawEdge) (seen : List (List ℕ)) → is_some e.when ≡ false →
    different seen (sources (e ∷ es)) ≡ different seen (sources es)
simple_edge e es seen simple = rw simple refl

-- given the edge e at place i, the sources ks that were seen before it, and all different ones, `whole`
module _ (es : List RawEdge) (i : ℕ) (e : RawEdge) (whole : List (List ℕ)) (ks : Texts) where
  -- if e is conditional and its source is added, `whole` are those and the different sources of the edges after it
  pub more_sources : i < length es → e ≡ get_or es i e → (new : Texts) (k : Bor (List ℕ)) → is_some e.when ≡ true →
      k.now ≡ e.from →
      new ≡ insert_key same_text ks k
      → whole ≡ different (texts ks) (sources (drop i es)) → whole ≡ different (texts new) (sources (drop (i + 1) es))
  more_sources below is new k conditional named keys so_far =
      so_far ∙ rw (drop-here es i e below is) (source_noted e (drop (i + 1) es) ks new k conditional named keys)

  -- if e has no `when`, nothing is added
  pub same_sources : i < length es → e ≡ get_or es i e → is_some e.when ≡ false
      → whole ≡ different (texts ks) (sources (drop i es)) → whole ≡ different (texts ks) (sources (drop (i + 1) es))
  same_sources below is simple so_far =
      so_far ∙ rw (drop-here es i e below is) (simple_edge e (drop (i + 1) es) (texts ks) simple)

-- if an insertion answers that it added nothing, the name was there: b says whether it was
pub was_there : (b : Bool) → false ≡ not b → b ≡ true
was_there true is = refl
was_there false is = cc

-- if an insertion answers that it added the name, it wasn't there: b says whether it was
pub was_new : (b : Bool) → true ≡ not b → b ≡ false
was_new false is = refl
was_new true is = cc

module _ (ks : Texts) (k : Bor (List ℕ)) (new : Texts) (keys : new ≡ insert_key same_text ks k)
    (e : list_any (same_text k) ks ≡ false) where
  -- given a set `new` to which a new text k was added, its texts are those before and then k
  noted : texts new ≡ texts ks ++ k.now ∷ []
  noted = ap texts (rw e at keys) ∙ map_push (λ n. n.now) ks k

  -- if the texts before were the names of the elements before x, and k is that of x, the texts are those up to x
  pub seen_more : {T : Type 0} (named : T → List ℕ) (xs : List T) (i : ℕ) (x : T) → i < length xs → x ≡ get_or xs i x →
      k.now ≡ named x
      → texts ks ≡ map named (take i xs) → texts new ≡ map named (take (i + 1) xs)
  seen_more named xs i x below is name seen =
      let front : take (i + 1) xs ≡ take i xs ++ x ∷ [] = take_more xs i x below ∙ ap (λ y. take i xs ++ y ∷ [])
      (sym is) in
      noted ∙ rw (front, map_push named (take i xs) x, ← seen, ← name) refl

-- given the place at which a double name is shown
module _ (table : Table) (key : Key) where
  -- the test for double names refuses a name that was seen, and adds any other to those that were
  apart-test : (i : ℕ) (seen : List (List ℕ)) (name : List ℕ) (names : List (List ℕ)) (b : Bool) →
      list_any (bytes_eq name) seen ≡ b
      → apart_from table key i seen (name ∷ names)
      ≡ cond b (Err (DoubleName (name_place table i key))) (apart_from table key (i + 1) (seen ++ name ∷ []) names)
  apart-test i seen name names b is = rw is refl

  -- given elements with names, the element x at place i, its name k, and the names ks that were seen before it; `whole`
  -- is what the test of all names comes to
  module _ {T : Type 0} (named : T → List ℕ) (xs : List T) (i : ℕ) (x : T) (ks : Texts) (k : Bor (List ℕ))
      (whole : Reading (Unit {0})) where
    -- if k was seen already, the names are refused for it
    pub is_double : i < length xs → x ≡ get_or xs i x → k.now ≡ named x → list_any (same_text k) ks ≡ true
        → whole ≡ apart_from table key i (texts ks) (map named (drop i xs)) →
        whole ≡ Err (DoubleName (name_place table i key))
    is_double below is name is_true so_far = so_far ∙ rw (drop-here xs i x below is, ← name)
        (apart-test i (texts ks) k.now (map named (drop (i + 1) xs)) true (sym (any-texts k.now ks) ∙ is_true))

    -- if k is new, the test goes on with the names after it
    pub is_new : i < length xs → x ≡ get_or xs i x → k.now ≡ named x → list_any (same_text k) ks ≡ false →
        (new : Texts) →
        new ≡ insert_key same_text ks k
        → whole ≡ apart_from table key i (texts ks) (map named (drop i xs)) →
        whole ≡ apart_from table key (i + 1) (texts new) (map named (drop (i + 1) xs))
    is_new below is name is_false new keys so_far = so_far
        ∙ rw (drop-here xs i x below is, ← name)
        (apart-test i (texts ks) k.now (map named (drop (i + 1) xs)) false (sym (any-texts k.now ks) ∙ is_false))
        ∙ ap (λ seen. apart_from table key (i + 1) seen (map named (drop (i + 1) xs)))
        (sym (noted ks k new keys is_false))
