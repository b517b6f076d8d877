-- Logs line by line: a log with one more line (`line_read`), and the first line that makes a file none (`line_strange`).
use Rattle.std.proofs.Common.{ℕ, zero, suc, ◌+◌, ◌<◌, ◌≡◌, ◌≢◌, ◌==◌, ◌^◌, List, [], ◌∷◌, ◌++◌, length, map, get_or}
use Rattle.std.proofs.Common.{take, drop, codes, All, AllPairs, Contains, Some, None, arith, refl, sym, ap, ◌∙◌}
use Rattle.std.proofs.Common.{subst, inl, inr, eq-eqb, ne_eqb}
use Rattle.std.specs.Fmt.{decimal}
use Rattle.std.proofs.lemmas.Bool.{cases_eq, cond-true, cond-false}
use Rattle.std.proofs.lemmas.Fmt.{decimal_injective}
use Rattle.std.proofs.lemmas.List.{length-map, length-take, get_or-take, map_push, take-map}
use Rattle.std.proofs.lemmas.List.Elements.{All-contains, All-take, Contains-push}
use Rattle.std.proofs.lemmas.List.Quantifiers.{all_pairs_push}
use Rattle.std.proofs.lemmas.Option.{none-some}
use Rattle.cpg_base.specs.Graph.{Graph, item_count}
use Rattle.cpg_base.specs.Limits.{IsWithinLimits}
use Rattle.cpg_log.specs.Lines.{IsParted, lines}
use Rattle.cpg_log.specs.Log.{Log, Logged, IsLog, IsActBy, log_lines, until_line, act_text, act_line, logged_time}
use Rattle.cpg_log.specs.Reading.{IsLogOf, MayGoOn, HaveNames, LackTime, IsLineRead, IsLineStrange, IsBadLine}
use Rattle.cpg_log.proofs.LineLaws.{same_parts, decimal_spaceless}
use Rattle.cpg_log.proofs.TextLaws.{spaced, same_line}

-- if a line is parted at its first blank and is that of an act, its parts are the act's time and text: a time has no blank
pub act_parts : (g : Graph) (line digits text : List ℕ) (act : Logged) → IsParted 32 line digits text →
    act.time < 2 ^ 60 → line ≡ act_line g act →
    (digits ≡ decimal act.time) ×
    (text ≡ act_text g act.item)
act_parts g line digits text act parted early line_is =
    same_parts 32 digits (decimal act.time) text (act_text g act.item) parted.first (decimal_spaceless act.time early)
    (sym parted.whole ∙ line_is ∙ spaced (decimal act.time) (act_text g act.item))

-- if a line is parted at its first blank and is a first line, its parts are the word and the time
pub until_parts : (line word digits : List ℕ) (until : ℕ) → IsParted 32 line word digits → line ≡ until_line until →
    (word ≡ codes "until") × (digits ≡ decimal until)
until_parts line word digits until parted line_is =
    same_parts 32 word (codes "until") digits (decimal until) parted.first refl (sym parted.whole ∙ line_is)

-- if acts don't name item x, no act of them is of x; by induction on the acts: if the first one were of x,
-- `logged_time` would have its time
unlogged : (ls : List Logged) (x : ℕ) → logged_time ls x ≡ None → (k : ℕ) (d : Logged) → k < length ls →
    (get_or ls k d).item ≢ x
unlogged [] x none k d inside = absurd (omega arith)
unlogged (m ∷ ls) x none k d inside = elim (cases_eq m.item x) [
  | inl is ↦
      absurd (none-some m.time (sym none ∙ cond-true (m.item == x) (Some m.time) (logged_time ls x)
      (eq-eqb m.item x is)))
  | inr other ↦
      at (unlogged ls x (sym (cond-false (m.item == x) (Some m.time) (logged_time ls x) (ne_eqb m.item x other))
      ∙ none))
      other k inside
]
  where
    -- no act of `m ∷ ls` is of item `x`: not the first, `m`, and not one at a later place
    at : ((j : ℕ) (f : Logged) → j < length ls → (get_or ls j f).item ≢ x) → m.item ≢ x → (k : ℕ) →
        k < length (m ∷ ls) →
        (get_or (m ∷ ls) k d).item ≢ x
    at rest other zero inside = other
    at rest other (suc j) inside = rest j d (omega arith)

-- if `P` holds of each element of `xs` and of `y`, it holds of each element of `xs` with `y` at the end
all_push : {X : Type 0} (P : X → Type 0) (xs : List X) (y : X) → All P xs → P y → All P (xs ++ y ∷ [])
all_push P [] y each last zero d l = last
all_push P [] y each last (suc k) d l = absurd (omega arith)
all_push P (x ∷ xs) y each last zero d l = each 0 d (omega arith)
all_push P (x ∷ xs) y each last (suc k) d l = all_push P xs y (λ j e m. each (suc j) e (omega arith)) last k d
    (omega arith)

-- a log that may go on with an act is still one with the act at the end
pub log_more : (g : Graph) (log : Log) (act : Logged) → IsLog g log → MayGoOn g log act →
    IsLog g (record { until = log.until; acts = log.acts ++ act ∷ [] })
log_more g log act is may = record {
  until = is.until;
  acts = all_push (IsActBy g log.until) log.acts act is.acts may.act;
  apart = all_pairs_push (λ (a b : Logged). a.item ≢ b.item) log.acts act is.apart
      (λ k d l. unlogged log.acts act.item may.new k d l);
}

-- the first elements of `xs ++ ys`, as many as `xs` has, are `xs`
take_front : {X : Type 0} (xs ys : List X) → take (length xs) (xs ++ ys) ≡ xs
take_front [] ys = refl
take_front (x ∷ xs) ys = ap (λ zs. x ∷ zs) (take_front xs ys)

-- `xs ++ ys` is as long as `xs` and `ys` together
long_front : {X : Type 0} (xs ys : List X) → length (xs ++ ys) ≡ length xs + length ys
long_front [] ys = omega arith
long_front (x ∷ xs) ys = omega (arith, long_front xs ys)

-- element `y` between lists `xs` and `ys` may be grouped with either
shifted : {X : Type 0} (xs : List X) (y : X) (ys : List X) → xs ++ y ∷ ys ≡ (xs ++ y ∷ []) ++ ys
shifted [] y ys = refl
shifted (x ∷ xs) y ys = ap (λ zs. x ∷ zs) (shifted xs y ys)

-- given the lines `ls` of a file, which are those of a lawful log and then those of the rest
module _ (g : Graph) (ls : List (List ℕ)) (log : Log) (rest : List ℕ) (is : IsLog g log)
    (spelled : ls ≡ log_lines g log ++ lines rest) where
  -- if the first line of the rest is that of an act the log may go on with, the log with it is lawful, and `ls` are its
  -- lines and then those of what is left
  pub line_read : (new : Log) (after : List ℕ) → IsLineRead g log rest new after →
      IsLog g new × (ls ≡ log_lines g new ++ lines after)
  line_read new after read = let more = read.goes_on in (
    subst (IsLog g) (sym more.added) (log_more g log more.act is more.may),
    spelled ∙ ap (λ xs. log_lines g log ++ xs) (read.first ∙ ap (λ line. line ∷ lines after) more.spelled)
        ∙ shifted (log_lines g log) (act_line g more.act) (lines after)
        ∙ ap (λ xs. (until_line log.until ∷ xs) ++ lines after) (sym (map_push (act_line g) log.acts more.act))
        ∙ ap (λ n. log_lines g n ++ lines after) (sym more.added),
  )

-- ---- a line that makes no log

-- if two lists of lines are equal, so are their first lines, `a` and `b`
head_of_cons : (a b : List ℕ) (xs ys : List (List ℕ)) → a ∷ xs ≡ b ∷ ys → a ≡ b
head_of_cons a b xs ys same = ap (λ zs. get_or zs 0 []) same

-- if there is no first line, or it says no time, line 0 is the first bad one: the lines of a log begin with such a line
pub lack_bad : (g : Graph) (ls : List (List ℕ)) → LackTime ls → IsBadLine g ls 0
lack_bad g ls lack =
    record { none = λ log is lines_are. at ls lack log is.until lines_are; before = λ some. absurd (some refl) }
  where
    -- the first line of a log says its time, and this one says none
    at : (ls : List (List ℕ)) → LackTime ls → (log : Log) → log.until < 2 ^ 60 → take (0 + 1) ls ≡ log_lines g log → ⊥
    at [] lack log early lines_are = let lengths = ap length lines_are in omega (arith, lengths)
    at (line ∷ rest) lack log early lines_are =
        lack log.until rest early (ap (λ l. l ∷ rest) (head_of_cons line (until_line log.until) _ _ lines_are))

-- given a graph whose nodes have well-formed names, and two times below 2^60
module _ (g : Graph) (limits : IsWithinLimits g) (named : HaveNames g (item_count g)) (until later : ℕ)
    (early : until < 2 ^ 60) (soon : later < 2 ^ 60) (line : List ℕ) where
  -- if the lines of acts xs are those of acts ys and one line more, xs are ys and an act l of that line; by induction, as an
  -- act's line has only one act (`same_line`)
  one_more : (xs ys : List Logged) → All (IsActBy g later) xs → All (IsActBy g until) ys →
      map (act_line g) xs ≡ map (act_line g) ys ++ line ∷ [] →
      (l : Logged) × (xs ≡ ys ++ l ∷ []) ×
      (act_line g l ≡ line)
  one_more [] [] by is same_lines = absurd (let lengths = ap length same_lines in omega (arith, lengths))
  one_more [] (a ∷ ys) by is same_lines = absurd (let lengths = ap length same_lines in omega (arith, lengths))
  one_more (b ∷ []) [] by is same_lines = (b, refl, head_of_cons (act_line g b) line [] [] same_lines)
  one_more (b ∷ c ∷ xs) [] by is same_lines = absurd (let lengths = ap length same_lines in omega (arith, lengths))
  one_more (b ∷ xs) (a ∷ ys) by is same_lines =
      let same = same_line g limits named later until soon early b a (by 0 b (omega arith)) (is 0 a (omega arith))
      (head_of_cons (act_line g b) (act_line g a) _ _ same_lines) in
      let rest =
      one_more xs ys (λ k d l. by (suc k) d (omega arith)) (λ k d l. is (suc k) d (omega arith))
      (ap (drop 1) same_lines) in
      (rest.0, (λ i. same i ∷ rest.1 i), rest.2)

-- if no two acts are of one item, those before the last, `ls`, don't name its item; by induction on these: the first
-- one and the last, `l`, are a pair, so they are of different items
before_last : (ls : List Logged) (l : Logged) → AllPairs (λ (a b : Logged). a.item ≢ b.item) (ls ++ l ∷ []) →
    logged_time ls l.item ≡ None
before_last [] l pairs = refl
before_last (m ∷ ls) l pairs = cond-false (m.item == l.item) (Some m.time) (logged_time ls l.item)
    (ne_eqb m.item l.item (λ same. pairs 0 (suc (length ls)) l (omega arith) (omega (arith, long_front ls (l ∷ [])))
    (same ∙ sym (ap (λ (z : Logged). z.item) (at_end ls l)))))
    ∙ before_last ls l (λ i j d a b. pairs (suc i) (suc j) d (omega arith) (omega arith))
  where
    -- in `xs` with `x` appended, the element at the length of `xs` is `x`
    at_end : (xs : List Logged) (x : Logged) → get_or (xs ++ x ∷ []) (length xs) l ≡ x
    at_end [] x = refl
    at_end (y ∷ xs) x = at_end xs x

-- given a graph whose nodes have well-formed names, and the lines `ls` of a file, which are those of a lawful log and then
-- those of the rest
module _ (g : Graph) (limits : IsWithinLimits g) (named : HaveNames g (item_count g)) (ls : List (List ℕ)) (log : Log)
    (rest : List ℕ) (is : IsLog g log)
    (spelled : ls ≡ log_lines g log ++ lines rest) where
  -- a line with which the log can't go on is the first bad one: the lines before it are the log's (`before`), and a log of
  -- these and it would be the log with an act of this line (`strange`)
  pub line_strange : (place : ℕ) → IsLineStrange g log rest place → IsBadLine g ls place
  line_strange place odd = record {
    none = λ other by e. strange other by (sym with_line ∙
        ap (λ n. take n ls) (let count : length (log_lines g log ++ odd.line ∷ []) ≡ place + 1 =
        omega (arith, odd.here, long, long_front (log_lines g log) (odd.line ∷ [])) in count) ∙ e);
    before = λ some. (
      log,
      is,
      ap (λ n. take n ls) (let same : place ≡ length (log_lines g log) = omega (arith, odd.here, long) in same)
          ∙ ap (take (length (log_lines g log))) spelled ∙
          take_front (log_lines g log) (lines rest),
    );
  }
    where
      -- a log has one line for the time and one for each act
      long : length (log_lines g log) ≡ suc (length log.acts)
      long = ap suc (length-map log.acts (act_line g))

      -- the lines are those of the log so far, the odd one, and the rest
      whole : ls ≡ (log_lines g log ++ odd.line ∷ []) ++ lines odd.rest
      whole = spelled ∙ ap (λ xs. log_lines g log ++ xs) odd.first ∙ shifted (log_lines g log) odd.line (lines odd.rest)

      -- the first lines up to the odd one
      with_line : take (length (log_lines g log ++ odd.line ∷ [])) ls ≡ log_lines g log ++ odd.line ∷ []
      with_line = ap (take (length (log_lines g log ++ odd.line ∷ []))) whole
          ∙ take_front (log_lines g log ++ odd.line ∷ []) (lines odd.rest)

      -- no other log has these lines: it would have the same time and acts, and one act more, of the odd line
      strange : (other : Log) → IsLog g other → log_lines g log ++ odd.line ∷ [] ≡ log_lines g other → ⊥
      strange other by same_lines =
          let until = decimal_injective log.until other.until (omega (arith, is.until)) (omega (arith, by.until))
          (ap (drop 6) (head_of_cons (until_line log.until) (until_line other.until) _ _ same_lines)) in
          let more =
          one_more g limits named log.until other.until is.until by.until odd.line other.acts log.acts by.acts
          is.acts (sym (ap (drop 1) same_lines)) in
          let last = All-contains (IsActBy g other.until) other.acts more.0 by.acts
          (subst (λ xs. Contains xs more.0) (sym more.1) (Contains-push log.acts more.0)) in
          odd.strange more.0 (record {
            act = record { item = last.item; time = omega (arith, last.time, until) };
            new = before_last log.acts more.0 (subst (AllPairs (λ (a b : Logged). a.item ≢ b.item)) more.1 by.apart);
          }) (sym more.2)

-- ---- a log's file has no bad line

-- if no two acts of `ls` are of one item, no two of the first `n` are
apart_take : (ls : List Logged) (n : ℕ) → AllPairs (λ (a b : Logged). a.item ≢ b.item) ls →
    AllPairs (λ (a b : Logged). a.item ≢ b.item) (take n ls)
apart_take ls n pairs i j d ordered inside same_item =
    let long = length-take n ls in
    pairs i j d ordered (omega (arith, long, inside))
    (sym (ap (λ (l : Logged). l.item) (get_or-take n ls i d (omega (arith, long, ordered, inside)))) ∙ same_item ∙
    ap (λ (l : Logged). l.item) (get_or-take n ls j d (omega (arith, long, inside))))

-- a file that is a log's has no bad line: any first lines of it are those of the log with the first acts only
pub no_bad_line : (g : Graph) (bytes : List ℕ) (log : Log) → IsLogOf g bytes log → (n : ℕ) →
    IsBadLine g (lines bytes) n → ⊥
no_bad_line g bytes log is n bad = bad.none (record { until = log.until; acts = take n log.acts })
    (record {
      until = is.lawful.until;
      acts = All-take (IsActBy g log.until) n log.acts is.lawful.acts;
      apart = apart_take log.acts n is.lawful.apart;
    })
    (ap (λ m. take m (lines bytes)) (let same : n + 1 ≡ suc n = omega arith in same) ∙ ap (take (suc n)) is.spelled
    ∙ ap (λ xs. until_line log.until ∷ xs) (take-map (act_line g) n log.acts))
