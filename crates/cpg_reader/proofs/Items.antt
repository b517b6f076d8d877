-- The elements of an array, as a loop takes them one after another.
use Rattle.std.proofs.Common.{◌≡◌, ◌∙◌, ℕ, ◌+◌, ◌<◌, List, [], ◌∷◌, ◌++◌, Option, Some, None, length, drop, get_or}
use Rattle.std.proofs.Common.{option_map, refl, sym, ap}
use Rattle.std.proofs.lemmas.List.{append_assoc}
use Rattle.toml.specs.Data.{Data, Items, item}
use Rattle.toml.specs.declared.value.Value.{Value}
use Rattle.toml.specs.View.{view, items_view}
use Rattle.toml.proofs.Views.{items_view-drop}
use Rattle.cpg_reader.specs.Rows.{items_as}

-- the elements from place i on are the one there and those after it
here : (xs : List Value) (i : ℕ) (x : Value) → i < length xs → x ≡ get_or xs i x →
    items_view (drop i xs) ≡ item (view x) (items_view (drop (i + 1) xs))
here xs i x below is = items_view-drop xs i x below ∙ ap (λ v. item (view v) (items_view (drop (i + 1) xs))) (sym is)

-- the elements taken so far, followed by what is taken of the rest, if all of it is
abbrev pub after : {T : Type 0} → List T → Option (List T) → Option (List T)
after ts rest = option_map (λ more. ts ++ more) rest

-- the first element of the rest can be counted as the last of those taken so far
then_one : {T : Type 0} (ts : List T) (t : T) (o : Option (List T)) →
    after ts (option_map (λ more. t ∷ more) o) ≡ after (ts ++ t ∷ []) o
then_one ts t (Some more) = ap (λ l. Some l) (sym (append_assoc ts (t ∷ []) more))
then_one ts t None = refl

-- given what takes an element of the required type
module _ {T : Type 0} (as_type : Data → Option T) where
  -- the next element is taken behind those so far, if it has the required type
  one_more : (ts : List T) (d : Data) (ds : Items) (t : T) → Some t ≡ as_type d →
      after ts (items_as as_type (item d ds)) ≡ after (ts ++ t ∷ []) (items_as as_type ds)
  one_more ts d ds t is = rw (← is) (then_one ts t (items_as as_type ds))

  -- if the next element has another type, the array isn't taken
  none_more : (ts : List T) (d : Data) (ds : Items) → None ≡ as_type d → None ≡ after ts (items_as as_type (item d ds))
  none_more ts d ds is = rw (← is) refl

  -- Given the elements `xs` of an array, the one x at place i, and what was taken of those before it, `ts`. Taking all
  -- of them gives `whole`, which is what taking those from i on gives after `ts` (`so_far`).
  module _ (xs : List Value) (i : ℕ) (x : Value) (ts : List T) (whole : Option (List T)) (h : i < length xs)
      (is : x ≡ get_or xs i x)
      (so_far : whole ≡ after ts (items_as as_type (items_view (drop i xs)))) where
    -- if x has the required type, it is taken, and the rest goes on from the next place
    pub goes_on : (t : T) → Some t ≡ as_type (view x) →
        whole ≡ after (ts ++ t ∷ []) (items_as as_type (items_view (drop (i + 1) xs)))
    goes_on t one = so_far ∙ ap (λ ds. after ts (items_as as_type ds)) (here xs i x h is)
        ∙ one_more ts (view x) (items_view (drop (i + 1) xs)) t one

    -- if x has another type, the array isn't taken
    pub stops : None ≡ as_type (view x) → None ≡ whole
    stops none = none_more ts (view x) (items_view (drop (i + 1) xs)) none
        ∙ sym (so_far ∙ ap (λ ds. after ts (items_as as_type ds)) (here xs i x h is))
