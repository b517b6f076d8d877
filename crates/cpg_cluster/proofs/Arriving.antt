-- The times at which frames arrive from a sender say whether one is waited on.
use Rattle.std.proofs.Common.{◌≡◌, ℕ, ◌<◌, ◌≤◌, ◌+◌, Bool, true, false, cond, ◌&&◌, ◌||◌, ◌==◌, List, [], ◌∷◌, ◌++◌}
use Rattle.std.proofs.Common.{length, map, get_or, Option, Some, None, refl, sym, ap, ap₂, ◌∙◌, subst, arith}
use Rattle.std.proofs.Common.{inl, inr}
use Rattle.std.specs.Prelude.{nat_le, option_to_list}
use Rattle.std.specs.List.{list_any}
use Rattle.std.specs.List.Sorted.{IsNonDecreasingBy}
use Rattle.std.specs.Global.{Vec}
use Rattle.std.proofs.lemmas.Bool.{and_right, cases_eq, cases_lt, le-leb, lt-leb, leb-false}
use Rattle.std.proofs.lemmas.List.{get_or_append_left, get_or_push, length-append}
use Rattle.std.proofs.lemmas.List.Folds.{list_any-append, list_any_none, list_any_at}
use Rattle.std.proofs.lemmas.List.Sorted.{list_any-IsPermutation}
use Rattle.cpg_table.specs.Table.{Row}
use Rattle.cpg_cube.specs.declared.column.Column.{Column}
use Rattle.cpg_node.specs.Dispatcher.{zip_with}
use Rattle.cpg_cluster.specs.Keeping.{waits_until, waits_by, times_by, arrival_times, IsIndex, AreIndexed}

-- a test of mapped elements is a test of the elements; by induction on `xs`
any_of_map : {X : Type 0} (p : ℕ → Bool) (f : X → ℕ) (xs : List X) → list_any p (map f xs) ≡ list_any (λ x. p (f x)) xs
any_of_map p f [] = refl
any_of_map p f (x ∷ xs) = ap (λ b. p (f x) || b) (any_of_map p f xs)

-- some number of a list that is `xs` if `b` holds, and empty otherwise, passes `p` exactly if `b` holds and one of `xs`
-- does
any_if : (p : ℕ → Bool) (b : Bool) (xs : List ℕ) → list_any p (cond b xs []) ≡ b && list_any p xs
any_if p true xs = refl
any_if p false xs = refl

-- One of the arrival times of a sender is waited for exactly if a row of this sender has such a column. By induction on
-- the rows with their senders.
any_times : (time : ℕ) (comes : Option ℕ) (slot other : ℕ) (rows : List Row) (senders : List ℕ) →
    list_any (waits_until time comes slot) (arrival_times other rows senders)
    ≡ list_any (λ w. w) (zip_with (waits_by other time comes slot) rows senders)
any_times time comes slot other [] senders = refl
any_times time comes slot other (r ∷ rs) [] = refl
any_times time comes slot other (r ∷ rs) (s ∷ ss) =
    list_any-append (waits_until time comes slot) (times_by other r s) (arrival_times other rs ss)
    ∙ ap₂ ◌||◌ (any_if (waits_until time comes slot) (s == other) (map {A = Column} {B = ℕ} (λ c. c.time) r.columns)
    ∙ ap (λ b. (s == other) && b) (any_of_map (waits_until time comes slot) (λ (c : Column). c.time) r.columns))
    (any_times time comes slot other rs ss)

-- One of `times`, which are the arrival times of the sender `other` in any order, is waited for exactly if a row of this
-- sender has such a column.
pub any_index : (time : ℕ) (comes : Option ℕ) (slot other : ℕ) (rows : List Row) (senders times : List ℕ) →
    IsIndex rows senders other times →
    list_any (waits_until time comes slot) times
    ≡ list_any (λ w. w) (zip_with (waits_by other time comes slot) rows senders)
any_index time comes slot other rows senders times index_is =
    sym (list_any-IsPermutation (waits_until time comes slot) (arrival_times other rows senders) times index_is.same) ∙
    any_times time comes slot other rows senders

-- if a frame that arrives at `b` may not be sent any more, neither may one that arrives at `a`, which isn't later
sent_before : (comes : Option ℕ) (slot a b : ℕ) → a ≤ b →
    list_any (λ u. nat_le (u + slot) b) (option_to_list comes) ≡ false →
    list_any (λ u. nat_le (u + slot) a) (option_to_list comes) ≡ false
sent_before None slot a b at_most fails = refl
sent_before (Some u) slot a b at_most fails = ap (λ x. x || false)
    (lt-leb (u + slot) a (omega (arith, at_most, leb-false (u + slot) b (or_false (nat_le (u + slot) b) ∙ fails))))
  where
    -- `or` with false changes nothing
    or_false : (x : Bool) → x ≡ (x || false)
    or_false true = refl
    or_false false = refl

-- if a frame that arrives at the time may not be sent any more, none of those that arrive by it is waited for
pub none_sent : (time : ℕ) (comes : Option ℕ) (slot : ℕ) (times : List ℕ) →
    list_any (λ u. nat_le (u + slot) time) (option_to_list comes) ≡ false →
    false ≡ list_any (waits_until time comes slot) times
none_sent time comes slot times fails =
    sym (list_any_none (waits_until time comes slot) times (λ i d l. elim (cases_lt time (get_or times i d)) [
      | inl after ↦ ap (λ b. b && list_any (λ u. nat_le (u + slot) (get_or times i d)) (option_to_list comes))
          (lt-leb (get_or times i d) time after)
      | inr early ↦
          ap (λ b. nat_le (get_or times i d) time && b) (sent_before comes slot (get_or times i d) time early fails)
          ∙ and_right (nat_le (get_or times i d) time) false refl
    ]))

-- if all arrivals `times` are later than `time`, none of their frames is waited for
pub none_until : (time : ℕ) (comes : Option ℕ) (slot : ℕ) (times : List ℕ)
    (past : (i d : ℕ) → i < length times → time < get_or times i d) →
    false ≡ list_any (waits_until time comes slot) times
none_until time comes slot times past = sym
    (list_any_none (waits_until time comes slot) times
    (λ i d l. ap (λ b. b && list_any (λ u. nat_le (u + slot) (get_or times i d)) (option_to_list comes))
    (lt-leb (get_or times i d) time (past i d l))))

-- The last arrival by the time, at `place`, decides whether the sender is waited on. If it may still be sent, it is
-- waited for. If not, neither may those before it be sent, and those after it arrive too late.
pub last_until : (time : ℕ) (comes : Option ℕ) (slot : ℕ) (times : List ℕ) (place x : ℕ) →
    IsNonDecreasingBy (λ (t : ℕ). t) times →
    place < length times →
    ((i d : ℕ) → i < place + 1 → get_or times i d ≤ time) →
    ((i d : ℕ) → place + 1 ≤ i → i < length times → time < get_or times i d) →
    ((d : ℕ) → get_or times place d ≡ x) →
    list_any (λ u. nat_le (u + slot) x) (option_to_list comes) ≡ list_any (waits_until time comes slot) times
last_until time comes slot times place x rises within before past is =
    go (list_any (λ u. nat_le (u + slot) x) (option_to_list comes)) refl
  where
    -- whether something that arrives at a time may still be sent
    p : ℕ → Bool
    p = waits_until time comes slot

    -- the time at `place` is by then, so it is waited for exactly if it may still be sent
    here : p (get_or times place x) ≡ list_any (λ u. nat_le (u + slot) x) (option_to_list comes)
    here = ap (λ b. b && list_any (λ u. nat_le (u + slot) (get_or times place x)) (option_to_list comes))
        (le-leb (get_or times place x) time (before place x (omega arith)))
        ∙ ap (λ t. list_any (λ u. nat_le (u + slot) t) (option_to_list comes)) (is x)

    -- by whether the frame of the last arrival may still be sent
    go : (b : Bool) → list_any (λ u. nat_le (u + slot) x) (option_to_list comes) ≡ b → b ≡ list_any p times
    go true equal = sym (list_any_at p times place x within (here ∙ equal))
    go false same = sym (list_any_none p times (λ i d k. elim (cases_lt place i) [
      | inl after ↦ ap (λ b. b && list_any (λ u. nat_le (u + slot) (get_or times i d)) (option_to_list comes))
          (lt-leb (get_or times i d) time (past i d (omega arith) k))
      | inr early ↦ ap (λ b. nat_le (get_or times i d) time && b)
          (sent_before comes slot (get_or times i d) (get_or times place d) (rises i place d (omega arith) within)
          (subst (λ t. list_any (λ u. nat_le (u + slot) t) (option_to_list comes) ≡ false) (sym (is d)) same))
          ∙ and_right (nat_le (get_or times i d) time) false refl
    ]))

-- if the times of the first `n` senders are indexed, and `v` has those of sender `n`, the times of the first `n + 1`
-- are indexed with `v` at the end
pub index_more : (rows : List Row) (senders : List ℕ) (n : ℕ) (index : List (Vec ℕ)) (v : Vec ℕ) →
    AreIndexed rows senders n index →
    IsIndex rows senders n v.items →
    AreIndexed rows senders (n + 1) (index ++ v ∷ [])
index_more rows senders n index v indexed index_is = record {
  count = omega (arith, length-append index (v ∷ []), indexed.count);
  each = λ i d l. elim (cases_eq i n) [
    | inl e ↦ subst (λ i. IsIndex rows senders i (get_or (index ++ v ∷ []) i d).items) (sym e)
        (subst (λ (v : Vec ℕ). IsIndex rows senders n v.items) (sym (get_or_push index v d n indexed.count)) index_is)
    | inr ne ↦ subst (λ (v : Vec ℕ). IsIndex rows senders i v.items)
        (sym (get_or_append_left index (v ∷ []) d i (omega (arith, indexed.count)))) (indexed.each i d (omega arith))
  ];
}

-- the times `seen` that stand at place `b` of an index of `n` senders are the arrival times in the rows of sender `b`,
-- in order
pub index_at : (rows : List Row) (senders : List ℕ) (n : ℕ) (index : List (Vec ℕ)) (b : ℕ) (v : Vec ℕ) (seen : List ℕ) →
    AreIndexed rows senders n index → b < n →
    v ≡ get_or index b v →
    seen ≡ v.items → IsIndex rows senders b seen
index_at rows senders n index b v seen indexed less e s =
    subst (IsIndex rows senders b) (sym (s ∙ ap (λ (v : Vec ℕ). v.items) e)) (indexed.each b v less)
