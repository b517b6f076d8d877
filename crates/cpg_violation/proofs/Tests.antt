-- Laws of two tests that have to pass together.
use Rattle.std.proofs.Common.{◌≡◌, Bool, true, false, not, ◌&&◌, ◌||◌, refl, sym}

-- if test `b` passes, `m` and `b` both pass exactly if `m` does
pub with_true : (m b : Bool) → b ≡ true → m ≡ (m && b)
with_true true b passes = sym passes
with_true false b passes = refl

-- if tests `a` and `b` agree where `m` passes, either may be asked along with it
pub same_where : (m a b : Bool) → (m ≡ true → a ≡ b) → (m && a) ≡ (m && b)
same_where true a b agree = agree refl
same_where false a b agree = refl

-- if test `b` fails where `m` passes, never both pass
pub off_where : (m b : Bool) → (m ≡ true → b ≡ false) → (m && b) ≡ false
off_where true b fails = fails refl
off_where false b fails = refl

-- one of tests `a` and `b` fails exactly if not both pass
pub not_both : (a b : Bool) → (not a || not b) ≡ not (a && b)
not_both true b = refl
not_both false b = refl
