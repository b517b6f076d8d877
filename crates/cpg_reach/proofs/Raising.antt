-- The table of ways, raised in place from k to k + 1.
use Rattle.std.proofs.Common.{ℕ, ◌+◌, ◌-◌, ◌^◌, ◌<◌, ◌≤◌, ◌≡◌, List, length, get_or, set, replicate, sym, ap, ap₂, ◌∙◌}
use Rattle.std.proofs.Common.{⊎_elim, arith}
use Rattle.std.proofs.lemmas.Bool.{cases_lt}
use Rattle.std.proofs.lemmas.List.{get_or-set_same, get_or-set_other, length-set, length-replicate, get_or-replicate}
use Rattle.cpg_order.specs.Counting.{ways}
use Rattle.cpg_order.proofs.Ways.{ways_of_none, ways_more, ways_small}
use Rattle.cpg_reach.specs.WaysTable.{AreWays}

-- the table has been raised below m
pub record Raised (k : ℕ) (table : List ℕ) (m : ℕ) : Type 0 where
  -- it has an entry for each number of counts up to 128
  pub long : length table ≡ 129
  -- below m it has the ways to add up to at most k + 1
  pub made : (n : ℕ) → n < m → get_or table n 0 ≡ ways n (k + 1)
  -- from m on it has those to add up to at most k
  pub kept : (n : ℕ) → m ≤ n → n ≤ 128 → get_or table n 0 ≡ ways n k

-- at first the table counts as raised below 1: no counts add up in one way, whatever k is
pub raised_first : (k : ℕ) (table : List ℕ) → AreWays k table → Raised k table 1
raised_first k table h = record {
  long = h.long;
  made = λ n l. let zero_is : n ≡ 0 = omega arith in ap (λ j. get_or table j 0) zero_is
      ∙ h.each 0 (omega arith) ∙ ways_of_none k
      ∙ sym (ways_of_none (k + 1)) ∙ ap (λ j. ways j (k + 1)) (sym zero_is);
  kept = λ n l u. h.each n u;
}

-- the sum of entries m and m - 1 is the number of ways for m counts and k + 1
next_sum : (k : ℕ) (table : List ℕ) (m : ℕ) → 1 ≤ m → m ≤ 128 → Raised k table m →
    get_or table m 0 + get_or table (m - 1) 0 ≡ ways m (k + 1)
-- the last of the counts is 0, or it is lowered by one (`ways_more`)
next_sum k table m s l raised =
    let back : m - 1 + 1 ≡ m = omega arith in
    ap₂ (λ a b. a + b) (raised.kept m (omega arith) l) (raised.made (m - 1) (omega arith))
    ∙ ap (λ j. ways j k + ways (m - 1) (k + 1)) (sym back)
    ∙ sym (ways_more (m - 1) k)
    ∙ ap (λ j. ways j (k + 1)) back

-- that sum is below 2 ^ 42, so it fits
pub sum_fits : (k : ℕ) (table : List ℕ) (m : ℕ) → k < 8 → 1 ≤ m → m ≤ 128 → Raised k table m →
    get_or table m 0 + get_or table (m - 1) 0 < 2 ^ 42
sum_fits k table m f s l raised = let sum_is = next_sum k table m s l raised in
    let small = ways_small m l (k + 1) (omega arith) in
    omega arith

-- with that sum in entry m the table is raised below m + 1
pub raised_next : (k : ℕ) (table : List ℕ) (m : ℕ) → 1 ≤ m → m ≤ 128 → Raised k table m →
    Raised k (set table m (get_or table m 0 + get_or table (m - 1) 0)) (m + 1)
-- the entries below m stay, the one at m is the new sum (`next_sum`), and those above are still the old ones
raised_next k table m s l raised = record {
  long = length-set table m _ ∙ raised.long;
  made = λ n u. ⊎_elim
      (λ (earlier : n < m). get_or-set_other table m n _ 0 (λ e. omega arith) ∙ raised.made n earlier)
      (λ (not_earlier : m ≤ n). let same_place : n ≡ m = omega arith in
      ap (λ j. get_or (set table m (get_or table m 0 + get_or table (m - 1) 0)) j 0) same_place
      ∙ get_or-set_same table m _ 0 (let table_long = raised.long in omega arith) ∙ next_sum k table m s l raised
      ∙ ap (λ j. ways j (k + 1)) (sym same_place))
      (cases_lt n m);
  kept = λ n u b. get_or-set_other table m n _ 0 (λ e. omega arith) ∙ raised.kept n (omega arith) b;
}

-- raised below 129, the table is that for k + 1
pub raised_all : (k : ℕ) (table : List ℕ) (m : ℕ) → 129 ≤ m → Raised k table m → AreWays (k + 1) table
raised_all k table m at_least raised = record { long = raised.long; each = λ n u. raised.made n (omega arith) }

-- for k = 0 each entry is 1: all counts are 0
pub ways_first : AreWays 0 (replicate 129 1)
ways_first = record { long = length-replicate {A = ℕ} 129 1; each = λ m l. get_or-replicate 129 m 1 0 (omega arith) }
