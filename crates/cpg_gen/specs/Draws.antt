-- Pseudo-random draws: a number leads to the next one, and each number gives a draw.
use Rattle.std.specs.Prelude.{ℕ, zero, suc, ◌^◌, ◌/◌, ◌%◌}
use Rattle.cpg_base.specs.Draws.{next_number}

-- the number that x leads to after n draws
unfoldable pub number_after : ℕ → ℕ → ℕ
number_after x zero = x
number_after x (suc n) = next_number (number_after x n)

-- the draw that a number gives, below a bound: by its bits from 33 on, as the low bits of such numbers repeat soon
abbrev pub draw_of : ℕ → ℕ → ℕ
draw_of x bound = (x / 2 ^ 33) % bound

-- the n-th draw after the number x, below a bound; the first draw is number 1
abbrev pub nth_draw : ℕ → ℕ → ℕ → ℕ
nth_draw x n bound = draw_of (number_after x n) bound
