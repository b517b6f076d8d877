-- Lines of a column's literals with a literal more (`line_added`) and with fewer (`line_kept`), and lists that are alike.
-- In the lemmas ls and xs are literals, l is one, and n says how many of the first ones count.
use Rattle.std.proofs.Common.{◌≡◌, ◌==◌, false, ℕ, ◌+◌, ◌-◌, ◌*◌, suc, ◌<◌, ◌≤◌, List, [], ◌∷◌, ◌++◌, inl, inr, refl}
use Rattle.std.proofs.Common.{zero}
use Rattle.std.proofs.Common.{append-nil, arith, drop, get_or, length, replicate, set, sym, take, ap, ap₂, ◌∙◌}
use Rattle.std.specs.List.{flat_map}
use Rattle.std.proofs.Math.ListN.{get_or-append}
use Rattle.std.proofs.Math.Seq.{get_or-append_seam, take-add, take-append_seam, take-length}
use Rattle.std.proofs.lemmas.Bool.{cases_lt, ne_eqb}
use Rattle.std.proofs.lemmas.Grind.{flat_map-append}
use Rattle.std.proofs.lemmas.List.{append_assoc, get_or-set_same, get_or-take, length-append, length-drop}
use Rattle.std.proofs.lemmas.List.{length-take-le, take-append-drop, take-append-le, take-take, take_all, take_more_set}
use Rattle.cpg_cube.specs.Cube.{IsRising}
use Rattle.cpg_cube.specs.declared.literal.Literal.{Literal}
use Rattle.cpg_label.specs.CubeText.{literal_text}
use Rattle.cpg_label.specs.Labels.{Labels}
use Rattle.cpg_label.specs.Lines.{AreAlike, AreLine, added_text, front_text, piece_text, rest_text, text_after}

-- the text of two lists is that of the first and what the second adds
pub front-append : (labels : Labels) (xs ys : List Literal) →
    front_text labels (xs ++ ys) ≡ front_text labels xs ++ rest_text labels xs ys
front-append labels [] ys = refl
front-append labels (x ∷ xs) ys = ap (λ t. literal_text labels x ++ t) (flat_map-append (piece_text labels) xs ys)
    ∙ sym (append_assoc (literal_text labels x) (flat_map (piece_text labels) xs) (flat_map (piece_text labels) ys))

-- what a list of one literal adds to the text of others is what this literal adds
rest_of_one : (labels : Labels) (xs : List Literal) (l : Literal) →
    rest_text labels xs (l ∷ []) ≡ added_text labels xs l
rest_of_one labels [] l = append-nil (literal_text labels l)
rest_of_one labels (x ∷ xs) l = append-nil (piece_text labels l)

-- what a literal adds to the text of n others, as code knows it by n, is what it adds to their text
after_is : (labels : Labels) (xs : List Literal) (n : ℕ) (l : Literal) → length xs ≡ n →
    text_after labels n l ≡ added_text labels xs l
after_is labels [] n l same = rw (← same) refl
after_is labels (x ∷ xs) n l same =
    let some : suc (length xs) ≡ n = same in
    let other : (n == 0) ≡ false = ne_eqb n 0 (λ none. omega (arith, none, some)) in
    rw other refl

-- the text of one literal more is the text of those before and what that literal adds
pub front_more : (labels : Labels) (xs : List Literal) (l : Literal) →
    front_text labels (xs ++ l ∷ []) ≡ front_text labels xs ++ added_text labels xs l
front_more labels xs l = front-append labels xs (l ∷ []) ∙ ap (λ t. front_text labels xs ++ t) (rest_of_one labels xs l)

-- the text of a list is that of its first literals and what the others add
front_parted : (labels : Labels) (ls : List Literal) (n : ℕ) →
    front_text labels ls ≡ front_text labels (take n ls) ++ rest_text labels (take n ls) (drop n ls)
front_parted labels ls n =
    ap (front_text labels) (sym (take-append-drop n ls)) ∙ front-append labels (take n ls) (drop n ls)

-- lists that are alike up to n, and whose next k literals are the same, are alike up to n + k
pub alike_more : (first second : List Literal) (n k : ℕ) → AreAlike first second n → k ≤ length first - n →
    k ≤ length second - n →
    take k (drop n first) ≡ take k (drop n second) →
    AreAlike first second (n + k)
alike_more first second n k are_alike a b e = record {
  same = take-add n k first ∙ ap₂ (λ xs ys. xs ++ ys) are_alike.same e ∙ sym (take-add n k second);
  within = omega (arith, a, are_alike.within);
  inside = omega (arith, b, are_alike.inside);
}

-- the same if the next k literals are equal blocks; `left` and `right` are the lists from n on, `rest` and `behind` what is
-- left after the blocks
pub block_more : (first second left right block rest other behind : List Literal) (n k : ℕ) → AreAlike first second n →
    left ≡ drop n first → right ≡ drop n second →
    block ≡ take k left →
    length rest + k ≡ length left → other ≡ take k right → length behind + k ≡ length right → block ≡ other →
    AreAlike first second (n + k)
block_more first second left right block rest other behind n k alike left_is right_is is some also more same =
    let left_count : length left ≡ length first - n = ap length left_is ∙ length-drop n first in
    let right_count : length right ≡ length second - n = ap length right_is ∙ length-drop n second in
    alike_more first second n k alike (omega (arith, left_count, some)) (omega (arith, right_count, more))
    (sym (is ∙ ap (take k) left_is) ∙ same ∙ also ∙ ap (take k) right_is)

-- taking as many as are left takes all that is left
pub rest_of : (n : ℕ) (ls : List Literal) → take (length ls - n) (drop n ls) ≡ drop n ls
rest_of n ls = take_all (length ls - n) (drop n ls) (omega (arith, length-drop n ls))

-- without literals the line has no text, and its one end is 0
pub line_none : (labels : Labels) → AreLine labels [] [] (0 ∷ [])
line_none labels = record { text = refl; count = refl; ends = λ n le. none n le; short = λ n le. few n le }
  where
    -- the one end is no further than 84 bytes for each of no literals
    few : (n : ℕ) → n ≤ 0 → get_or (0 ∷ []) n 0 ≤ 84 * n
    few zero le = omega arith
    few (suc n) le = absurd (omega (arith, le))

    -- without literals the one end is 0
    none : (n : ℕ) → n ≤ 0 → get_or (0 ∷ []) n 0 ≡ length (front_text labels (take n []))
    none zero le = refl
    none (suc n) le = absurd (omega (arith, le))

-- the text of a line is at most 84 bytes long for each literal
pub line_short : (labels : Labels) (ls : List Literal) (text ends : List ℕ) → AreLine labels ls text ends →
    length text ≤ 84 * length ls
line_short labels ls text ends are_line =
    let all : get_or ends (length ls) 0 ≡ length text = are_line.ends (length ls) (omega arith)
    ∙ ap (λ xs. length (front_text labels xs)) (take-length ls) ∙ ap length (sym are_line.text) in
    let few = are_line.short (length ls) (omega arith) in
    omega (arith, all, few)

-- A line with the text that one literal adds, at most 84 bytes, and its end is the line of one literal more. The ends
-- up to the last are those of the line before; the last is the length of the whole text.
pub line_more : (labels : Labels) (ls : List Literal) (text ends : List ℕ) (l : Literal) (longer : List ℕ) →
    AreLine labels ls text ends →
    longer ≡ text ++ added_text labels ls l →
    length longer ≤ length text + 84 → AreLine labels (ls ++ l ∷ []) longer (ends ++ length longer ∷ [])
line_more labels ls text ends l longer are_line is few =
    record {
      text = text_is;
      count = omega (arith, length-append ends (length longer ∷ []), long, are_line.count);
      ends = λ n le. elim (cases_lt (length ls) n) [ inl lt ↦ last n le lt | inr ge ↦ before n ge ];
      short = λ n le. elim (cases_lt (length ls) n) [
        | inl lt ↦ last_short n le lt
        | inr ge ↦ rw (get_or-append ends (length longer ∷ []) 0 n (omega (arith, are_line.count)))
            (are_line.short n ge)
      ];
    }
  where
    -- there is one literal more
    long : length (ls ++ l ∷ []) ≡ length ls + 1
    long = length-append ls (l ∷ [])

    -- the text with one literal more
    text_is : longer ≡ front_text labels (ls ++ l ∷ [])
    text_is = is ∙ ap (λ t. t ++ added_text labels ls l) are_line.text ∙ sym (front_more labels ls l)

    -- the ends before the new one are as they were
    before : (n : ℕ) → n ≤ length ls →
        get_or (ends ++ length longer ∷ []) n 0 ≡ length (front_text labels (take n (ls ++ l ∷ [])))
    before n le = get_or-append ends (length longer ∷ []) 0 n (omega (arith, are_line.count)) ∙ are_line.ends n le
        ∙ ap (λ xs. length (front_text labels xs)) (sym (take-append-le n ls (l ∷ []) le))

    -- the new end is within the room for n literals
    last_short : (n : ℕ) → n ≤ length (ls ++ l ∷ []) → length ls < n → get_or (ends ++ length longer ∷ []) n 0 ≤ 84 * n
    last_short n le lt =
        let at : get_or (ends ++ length longer ∷ []) n 0 ≡ length longer =
        ap (λ i. get_or (ends ++ length longer ∷ []) i 0) (omega (arith, long, are_line.count))
        ∙ get_or-append_seam ends (length longer) [] 0 in
        let whole : length text ≤ 84 * length ls = line_short labels ls text ends are_line in
        omega (arith, at, whole, few, le, lt, long)

    -- the new end is where the text with the literal ends
    last : (n : ℕ) → n ≤ length (ls ++ l ∷ []) → length ls < n →
        get_or (ends ++ length longer ∷ []) n 0 ≡ length (front_text labels (take n (ls ++ l ∷ [])))
    last n le lt = ap (λ i. get_or (ends ++ length longer ∷ []) i 0) (omega (arith, long, are_line.count))
        ∙ get_or-append_seam ends (length longer) [] 0 ∙ ap length text_is
        ∙ ap (λ xs. length (front_text labels xs))
        (sym (ap (λ i. take i (ls ++ l ∷ [])) (omega (arith, long)) ∙ take-length (ls ++ l ∷ [])))

-- the first `count` literals of a line, with their text up to where it ends and their ends, are a line; each part is
-- that of the line, cut at `count`
pub line_less : (labels : Labels) (ls : List Literal) (text ends : List ℕ) (count : ℕ) → AreLine labels ls text ends →
    count ≤ length ls →
    AreLine labels (take count ls) (take (get_or ends count 0) text) (take (count + 1) ends)
line_less labels ls text ends count are_line le =
    record {
      text = text_is;
      count =
          omega (arith, length-take-le (count + 1) ends (omega (arith, are_line.count)), length-take-le count ls le);
      ends = ends_are;
      short = λ n few. rw (get_or-take (count + 1) ends n 0 (omega (arith, length-take-le count ls le)))
          (are_line.short n (omega (arith, length-take-le count ls le)));
    }
  where
    -- the text up to the end of literal `count` is that of the first `count` literals
    text_is : take (get_or ends count 0) text ≡ front_text labels (take count ls)
    text_is = ap (λ n. take n text) (are_line.ends count le)
        ∙ ap (take (length (front_text labels (take count ls)))) (are_line.text ∙ front_parted labels ls count)
        ∙ take-append_seam (front_text labels (take count ls)) (rest_text labels (take count ls) (drop count ls))

    -- the ends that are kept are those of the literals that are kept
    ends_are : (n : ℕ) → n ≤ length (take count ls) →
        get_or (take (count + 1) ends) n 0 ≡ length (front_text labels (take n (take count ls)))
    ends_are n few = get_or-take (count + 1) ends n 0 (omega (arith, length-take-le count ls le))
        ∙ are_line.ends n (omega (arith, length-take-le count ls le))
        ∙ ap (λ xs. length (front_text labels xs))
        (ap (take n) (sym (take-append-drop count ls)) ∙ take-append-le n (take count ls) (drop count ls) few)

-- the text of the first n literals is no longer than that of all
front_no_longer : (labels : Labels) (ls : List Literal) (n : ℕ) →
    length (front_text labels (take n ls)) ≤ length (front_text labels ls)
front_no_longer labels ls n =
    let lengths : length (front_text labels ls)
    ≡ length (front_text labels (take n ls)) + length (rest_text labels (take n ls) (drop n ls)) =
    ap length (front_parted labels ls n)
    ∙ length-append (front_text labels (take n ls)) (rest_text labels (take n ls) (drop n ls)) in
    omega (arith, lengths)

-- ---- lists that have more after a line

-- a room whose ends are all 0 begins with the line of no literals
pub line_new : (labels : Labels) (ls : List Literal) (text ends : List ℕ) → ends ≡ replicate 257 0 →
    AreLine labels (take 0 ls) (take (get_or ends 0 0) text) (take (0 + 1) ends)
line_new labels ls text ends same = rw same (line_none labels)

-- given: lists that begin with the line of `count` literals, and have more after it
module _ (labels : Labels) (ls : List Literal) (text ends : List ℕ) (count : ℕ)
    (h : AreLine labels (take count ls) (take (get_or ends count 0) text) (take (count + 1) ends))
    (room : count ≤ length ls) where
  -- the first `count` literals are as many
  long : length (take count ls) ≡ count
  long = length-take-le count ls room

  -- the end at `count` is where the text of the line ends
  end_is : get_or ends count 0 ≡ length (front_text labels (take count ls))
  end_is = sym (get_or-take (count + 1) ends count 0 (omega arith)) ∙ h.ends count (omega (arith, long))
      ∙ ap (λ xs. length (front_text labels xs)) (take-take count count ls (omega arith))

  -- the text up to that end is as long as it says
  text_long : length (take (get_or ends count 0) text) ≡ get_or ends count 0
  text_long = ap length h.text ∙ sym end_is

  -- the text of the line has at most 84 bytes for each literal
  pub end_short : get_or ends count 0 ≤ 84 * count
  end_short = rw (← get_or-take (count + 1) ends count 0 (omega arith)) (h.short count (omega (arith, long)))

  -- the lists also begin with the line of any fewer literals: take those of the line (`line_less`), and taking fewer of
  -- more is taking fewer
  pub line_kept : (new : ℕ) → new ≤ count →
      AreLine labels (take new ls) (take (get_or ends new 0) text) (take (new + 1) ends)
  line_kept new le =
      let at : get_or (take (count + 1) ends) new 0 ≡ get_or ends new 0 =
      get_or-take (count + 1) ends new 0 (omega (arith, le)) in
      let it : get_or ends new 0 ≡ length (front_text labels (take new (take count ls))) =
      sym at ∙ h.ends new (omega (arith, le, long)) in
      let before : get_or ends new 0 ≤ get_or ends count 0 =
      omega (arith, it, end_is, front_no_longer labels (take count ls) new) in
      rw (← take-take new count ls le) (rw (← take-take (new + 1) (count + 1) ends (omega (arith, le)))
      (rw (← take-take (get_or ends new 0) (get_or ends count 0) text before)
      (rw (← at) (line_less labels (take count ls) (take (get_or ends count 0) text) (take (count + 1) ends) new h
      (omega (arith, le, long))))))

  -- with the next literal, its text and its end in their places, the lists begin with the line of one literal more: each is
  -- what the line had and the new part after it (`front`, `longer`, `all`), as in `line_more`
  pub line_added : (new_literals : List Literal) (new_text new_ends : List ℕ) (l : Literal) (end : ℕ) →
      new_literals ≡ set ls count l →
      new_ends ≡ set ends (count + 1) end →
      count < length ls → count + 1 < length ends →
      take end new_text ≡ take (get_or ends count 0) text ++ text_after labels count l →
      end ≤ get_or ends count 0 + 84 →
      end ≤ length new_text →
      AreLine labels (take (count + 1) new_literals) (take (get_or new_ends (count + 1) 0) new_text)
      (take (count + 1 + 1) new_ends)
  line_added new_literals new_text new_ends l end literals_are ends_are some fits is few within =
      let longer : List ℕ = take end new_text in
      let longer_length : length longer ≡ end = length-take-le end new_text within in
      let told : longer ≡ take (get_or ends count 0) text ++ added_text labels (take count ls) l =
      is ∙ ap (λ t. take (get_or ends count 0) text ++ t) (after_is labels (take count ls) count l long) in
      let made = line_more labels (take count ls) (take (get_or ends count 0) text) (take (count + 1) ends) l longer h told
      (omega (arith, longer_length, text_long, few)) in
      let front : take (count + 1) new_literals ≡ take count ls ++ l ∷ [] =
      ap (take (count + 1)) literals_are ∙ take_more_set ls count l some in
      let last : get_or new_ends (count + 1) 0 ≡ end =
      ap (λ es. get_or es (count + 1) 0) ends_are ∙ get_or-set_same ends (count + 1) end 0 fits in
      let all : take (count + 1 + 1) new_ends ≡ take (count + 1) ends ++ length longer ∷ [] =
      ap (take (count + 1 + 1)) ends_are ∙ take_more_set ends (count + 1) end fits
      ∙ ap (λ e. take (count + 1) ends ++ e ∷ []) (sym longer_length) in
      rw front (rw all (rw last made))

-- if `put` is as long as the room, the room with `put` written over it is `put`
pub refilled : (len : ℕ) (put old : List ℕ) → length put ≡ len → take len (put ++ drop (length put) old) ≡ put
refilled len put old put_length =
    ap (λ n. take n (put ++ drop (length put) old)) (sym put_length) ∙ take-append_seam put (drop (length put) old)

-- in a list of rising variables, the one at place i is at least i; by induction on i
rising_place : (ls : List Literal) (i : ℕ) (d : Literal) → IsRising ls → i < length ls → i ≤ (get_or ls i d).variable
rising_place ls zero d rising inside = omega arith
rising_place ls (suc i) d rising inside =
    let place = rising_place ls i d rising (omega arith) in
    let next_above = rising i (suc i) d (omega arith) inside in
    omega arith

-- a list of rising variables is at most one longer than its last variable
pub rising_short : (ls : List Literal) (last : Literal) → IsRising ls → 0 < length ls →
    last ≡ get_or ls (length ls - 1) last →
    length ls ≤ last.variable + 1
rising_short ls last rising some is =
    let place = rising_place ls (length ls - 1) last rising (omega (arith, some)) in
    let same : last.variable ≡ (get_or ls (length ls - 1) last).variable = ap (λ (l : Literal). l.variable) is in
    omega (arith, place, same, some)
