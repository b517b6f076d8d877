-- Recursion of `sifted`: a sieve of these places, with at most `depth` cuts below one another.
use Rattle.cpg_violation.proofs.sieve.+sifted.Given as goal

-- the sides of a cut may have one cut less below one another
abbrev pub decreases-sifted : goal.decreases-sifted
decreases-sifted l = l.depth
