-- The texts of items, by number; and that no two items have the same text (`same_text`), nor two acts the same line.
use Rattle.std.proofs.Common.{ℕ, ◌+◌, ◌<◌, ◌≡◌, ◌^◌, ◌==◌, Bool, true, false, ◌&&◌, ◌||◌, List, [], ◌∷◌, ◌++◌, codes}
use Rattle.std.proofs.Common.{length, map, get_or, drop, arith, refl, sym, ap, ◌∙◌, subst, ◌⊎◌, inl, inr}
use Rattle.std.proofs.Common.{ne_eqb, true≢false, String, Global, string_bytes}
use Rattle.std.specs.Prelude.{nat_lt}
use Rattle.std.specs.Fmt.{decimal}
use Rattle.std.specs.List.{list_any}
use Rattle.std.proofs.lemmas.Bool.{cases_lt, cases_order, and_parts, ltb-true}
use Rattle.std.proofs.lemmas.Fmt.{decimal_injective}
use Rattle.std.proofs.lemmas.List.{length-map, get_or-map, append_assoc}
use Rattle.std.proofs.lemmas.List.Elements.{All-contains}
use Rattle.std.proofs.lemmas.List.FromFn.{length-map-range_with_len}
use Rattle.cpg_base.specs.Numbers.{numbers_below}
use Rattle.cpg_base.specs.Name.{IsName, is_name_byte}
use Rattle.cpg_base.specs.Limits.{IsWithinLimits}
use Rattle.cpg_base.specs.Graph.{Graph, process_count, condition_count, item_count, item_at, is_sent, home, process_at}
use Rattle.cpg_base.specs.Graph.{process_of}
use Rattle.cpg_base.specs.declared.item.Item.{Item}
use Rattle.cpg_base.proofs.Items.{ItemCases, item_cases, same_condition, process_of_below}
use Rattle.cpg_base.proofs.Lists.{get_or-map-below, list_any_false}
use Rattle.cpg_label.specs.Labels.{condition_name, labels_of, process_name}
use Rattle.cpg_label.specs.ItemText.{done_text}
use Rattle.cpg_label.proofs.Called.{condition_called, process_called}
use Rattle.cpg_log.specs.Log.{Logged, IsActBy, is_act, act_text, act_line}
use Rattle.cpg_log.specs.Reading.{HaveNames}
use Rattle.cpg_log.proofs.LineLaws.{same_parts, decimal_spaceless}

-- if `a || b` is true, so is `a` or `b`
or_cases : (a b : Bool) → (a || b) ≡ true → (a ≡ true) ⊎ (b ≡ true)
or_cases true b either = inl refl
or_cases false b either = inr either

-- if `x` is what a node starts or sends, it is an item of `g`
pub act_within : (g : Graph) (x : ℕ) → is_act g x ≡ true → x < item_count g
act_within g x act = elim (or_cases (nat_lt x (process_count g)) (nat_lt x (item_count g) && is_sent g x) act) [
  | inl is_start ↦ omega (arith, ltb-true x (process_count g) is_start)
  | inr is_sent_item ↦ ltb-true x (item_count g) (and_parts (nat_lt x (item_count g)) (is_sent g x) is_sent_item).0
]

-- given the texts of all items, by number
module _ (g : Graph) (texts : List (String Global))
    (are : map string_bytes texts ≡ map (act_text g) (numbers_below (item_count g))) where
  -- there is a text for each item
  pub texts_long : length texts ≡ item_count g
  texts_long =
      sym (length-map texts string_bytes) ∙ ap length are ∙ length-map-range_with_len (act_text g) 0 (item_count g)

  -- the text at place `x` of `texts` is that of item `x`
  pub text_at : (x : ℕ) (d : String Global) → x < item_count g → string_bytes (get_or texts x d) ≡ act_text g x
  text_at x d is_item = sym (get_or-map string_bytes texts x d [] (omega (arith, texts_long, is_item)))
      ∙ ap (λ ts. get_or ts x []) are ∙ get_or-map-below (act_text g) (item_count g) x [] is_item

-- if the nodes of the items below `n` have well-formed names, and so has that of item `n`, so have those below `n + 1`
pub names_more : (g : Graph) (n : ℕ) → HaveNames g n → IsName (get_or g.nodes (home g n) []) → HaveNames g (n + 1)
names_more g n names name x inside = elim (cases_lt x n) [
  | inl before ↦ names x before
  | inr last ↦ subst (λ y. IsName (get_or g.nodes (home g y) [])) (let same : n ≡ x = omega arith in same) name
]

-- ---- no two items have one text

-- a well-formed name has no blank
name_spaceless : (bytes : List ℕ) → IsName bytes → list_any (λ b. b == 32) bytes ≡ false
name_spaceless bytes name = list_any_false (λ b. b == 32) bytes (λ b c. ne_eqb b 32 (λ e.
    let plain : is_name_byte b ≡ true = All-contains (λ b. is_name_byte b ≡ true) bytes b name.plain c in
    true≢false (sym (subst (λ d. is_name_byte d ≡ true) e plain))))

-- between `a` and `t`, the text of a blank is the byte 32
pub spaced : (a t : List ℕ) → a ++ codes " " ++ t ≡ a ++ 32 ∷ t
spaced a t = append_assoc a (32 ∷ []) t

-- given a graph within its limits
module _ (g : Graph) (limits : IsWithinLimits g) where
  -- processes `p` and `q` of `g` that have one name are one
  same_process : (p q : ℕ) → p < process_count g → q < process_count g → (process_at g p).name ≡ (process_at g q).name →
      p ≡ q
  same_process p q p_is_process q_is_process same_name = elim (cases_order p q) [
    | inl is ↦ is
    | inr (inl below) ↦ absurd (limits.process_names p q _ below q_is_process same_name)
    | inr (inr above) ↦ absurd (limits.process_names q p _ above p_is_process (sym same_name))
  ]

  -- processes `p` and `q` of `g` that have one label are one
  same_label : (p q : ℕ) → p < process_count g → q < process_count g →
      process_name (labels_of g) p ≡ process_name (labels_of g) q → p ≡ q
  same_label p q p_is_process q_is_process same_name =
      same_process p q p_is_process q_is_process (sym (process_called g p) ∙ same_name ∙ process_called g q)

  -- conditions `c` and `d` of `g` that have one name are one
  same_teller : (c d : ℕ) → c < condition_count g → d < condition_count g →
      condition_name (labels_of g) c ≡ condition_name (labels_of g) d → c ≡ d
  same_teller c d c_is_condition d_is_condition same_name = same_condition g c d c_is_condition d_is_condition
      (same_process (process_of g c) (process_of g d) (process_of_below g c c_is_condition)
      (process_of_below g d d_is_condition)
      (sym (condition_called g c c_is_condition) ∙ same_name ∙ condition_called g d d_is_condition))

  -- the text of what a node does with an item, without the node
  abbrev text : Item → List ℕ
  text = done_text (labels_of g)

  -- items with the same text are the same, by their kinds: texts of different kinds differ in their first or second byte;
  -- after the word, two starts name one process, two messages have one number, and two broadcasts name one process
  same_item : (x y : ℕ) → ItemCases g x → ItemCases g y → text (item_at g x) ≡ text (item_at g y) → x ≡ y
  same_item x y (inl x_kind) (inl y_kind) same_texts = same_label x y x_kind.0 y_kind.0
      (ap (drop 6) (sym (ap text x_kind.1) ∙ same_texts ∙ ap text y_kind.1))
  same_item x y (inl x_kind) (inr (inl y_kind)) same_texts =
      absurd (let same_part = ap (λ t. get_or t 1 0) (sym (ap text x_kind.1) ∙ same_texts ∙ ap text y_kind.3) in
      omega (arith, same_part))
  same_item x y (inl x_kind) (inr (inr y_kind)) same_texts =
      absurd (let same_part = ap (λ t. get_or t 0 0) (sym (ap text x_kind.1) ∙ same_texts ∙ ap text y_kind.3) in
      omega (arith, same_part))
  same_item x y (inr (inl x_kind)) (inl y_kind) same_texts =
      absurd (let same_part = ap (λ t. get_or t 1 0) (sym (ap text x_kind.3) ∙ same_texts ∙ ap text y_kind.1) in
      omega (arith, same_part))
  same_item x y (inr (inl x_kind)) (inr (inl y_kind)) same_texts =
      let same_part = decimal_injective x_kind.0 y_kind.0 (omega (arith, x_kind.1, limits.few_edges))
      (omega (arith, y_kind.1, limits.few_edges))
      (ap (drop 6) (sym (ap text x_kind.3) ∙ same_texts ∙ ap text y_kind.3)) in
      omega (arith, same_part, x_kind.2, y_kind.2)
  same_item x y (inr (inl x_kind)) (inr (inr y_kind)) same_texts =
      absurd (let same_part = ap (λ t. get_or t 0 0) (sym (ap text x_kind.3) ∙ same_texts ∙ ap text y_kind.3) in
      omega (arith, same_part))
  same_item x y (inr (inr x_kind)) (inl y_kind) same_texts =
      absurd (let same_part = ap (λ t. get_or t 0 0) (sym (ap text x_kind.3) ∙ same_texts ∙ ap text y_kind.1) in
      omega (arith, same_part))
  same_item x y (inr (inr x_kind)) (inr (inl y_kind)) same_texts =
      absurd (let same_part = ap (λ t. get_or t 0 0) (sym (ap text x_kind.3) ∙ same_texts ∙ ap text y_kind.3) in
      omega (arith, same_part))
  same_item x y (inr (inr x_kind)) (inr (inr y_kind)) same_texts =
      let one_condition = same_teller x_kind.0 y_kind.0 x_kind.1 y_kind.1
      (ap (drop 5) (sym (ap text x_kind.3) ∙ same_texts ∙ ap text y_kind.3)) in
      omega (arith, one_condition, x_kind.2, y_kind.2)

  -- two items that nodes start or send are the same if their texts are, since the name of the node ends at the first blank
  pub same_text : HaveNames g (item_count g) → (x y : ℕ) → is_act g x ≡ true → is_act g y ≡ true →
      act_text g x ≡ act_text g y → x ≡ y
  same_text named x y x_is_act y_is_act same_texts =
      let x_is_item = act_within g x x_is_act in
      let y_is_item = act_within g y y_is_act in
      same_item x y (item_cases g x x_is_item) (item_cases g y y_is_item)
      (same_parts 32 (get_or g.nodes (home g x) []) (get_or g.nodes (home g y) []) (text (item_at g x))
      (text (item_at g y)) (name_spaceless _ (named x x_is_item)) (name_spaceless _ (named y y_is_item))
      (sym (spaced (get_or g.nodes (home g x) []) (text (item_at g x))) ∙ same_texts
      ∙ spaced (get_or g.nodes (home g y) []) (text (item_at g y)))).1

  -- two acts are the same if their lines are: the time ends at the first blank, and the text names one item
  pub same_line : HaveNames g (item_count g) → (until later : ℕ) → until < 2 ^ 60 → later < 2 ^ 60 → (a b : Logged) →
      IsActBy g until a → IsActBy g later b → act_line g a ≡ act_line g b → a ≡ b
  same_line named until later early soon a b is by same_lines =
      let parts = same_parts 32 (decimal a.time) (decimal b.time) (act_text g a.item) (act_text g b.item)
      (decimal_spaceless a.time (omega (arith, is.time, early)))
      (decimal_spaceless b.time (omega (arith, by.time, soon)))
      (sym (spaced (decimal a.time) (act_text g a.item)) ∙ same_lines ∙ spaced (decimal b.time) (act_text g b.item)) in
      let time =
      decimal_injective a.time b.time (omega (arith, is.time, early)) (omega (arith, by.time, soon)) parts.0 in
      let item = same_text named a.item b.item is.item by.item parts.1 in
      λ i. record { time = time i; item = item i }
