-- In how many ways fault counts add up, and how many scenarios there are: the numbers fit 64 bits, and the limits are
-- right.
use Rattle.std.proofs.Common.{◌≡◌, ℕ, ◌+◌, ◌*◌, ◌/◌, ◌^◌, ◌<◌, ◌≤◌, length, arith, ap, ◌∙◌}
use Rattle.std.proofs.Math.Nat.{mul-div_cancel_left, pow-le-pow_right}
use Rattle.std.proofs.lemmas.Nat.{mul-le}
use Rattle.cpg_base.specs.Graph.{Graph, process_count, condition_count}
use Rattle.cpg_order.specs.Counting.{ways}
use Rattle.cpg_order.specs.Scenario.{scenarios}
use Rattle.cpg_order.proofs.Ways.{ways_small, ways_times, ways_some}
use Rattle.cpg_order.proofs.ScenariosApart.{length-scenarios}

-- the product by which the ways of one fault more are found is below 2^64: the ways are below 2^42, and the factor is
-- at most 136
pub product_fits : (m k : ℕ) → m ≤ 128 → k ≤ 7 → ways m k * (m + k + 1) < 2 ^ 64
product_fits m k few few_faults =
    let ways_few = ways_small m few k (omega arith) in
    let product_few = mul-le (ways m k) (m + k + 1) (2 ^ 42) 136 (omega arith) (omega arith) in
    omega arith

-- the ways of one fault more are those so far, times m + k + 1, divided by k + 1
pub next_ways : (m k : ℕ) → ways m k * (m + k + 1) / (k + 1) ≡ ways m (k + 1)
next_ways m k =
    let times : ways m k * (m + k + 1) ≡ (k + 1) * ways m (k + 1) =
    let ways_as_product = ways_times m k in omega arith in
    ap (λ n. n / (k + 1)) times ∙ mul-div_cancel_left (ways m (k + 1)) (omega arith)

-- up to 14 conditions there are at most 16384 outcomes
pub power_small : (c : ℕ) → c ≤ 14 → 2 ^ c ≤ 16384
power_small c few =
    let power = pow-le-pow_right {n = 2} (let positive : 0 < 2 = omega arith in positive) few in omega arith

-- up to 14 conditions the number of scenarios is below 2^64
pub all_fit : (c m k : ℕ) → c ≤ 14 → m ≤ 128 → k ≤ 8 → 2 ^ c * ways m k < 2 ^ 64
all_fit c m k few_conditions few few_faults =
    let ways_few = ways_small m few k few_faults in
    let product_few = mul-le (2 ^ c) (ways m k) 16384 (2 ^ 42) (power_small c few_conditions) (omega arith) in
    omega arith

-- with more than 14 conditions there are at least 32768 outcomes, and so more than 16384 scenarios
pub too_many : (g : Graph) → 14 < condition_count g → length (scenarios g) ≤ 16384 → ⊥
too_many g many few =
    let count = length-scenarios g in
    let l15 : 15 ≤ condition_count g = omega arith in
    let power = pow-le-pow_right {n = 2} (let power : 0 < 2 = omega arith in power) l15 in
    let some_way = ways_some (process_count g) g.faults in
    let product = mul-le 32768 1 (2 ^ condition_count g) (ways (process_count g) g.faults) (omega arith) some_way in
    omega arith
