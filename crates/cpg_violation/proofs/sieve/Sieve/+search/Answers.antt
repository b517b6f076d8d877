-- Proof of `Sieve::search`: adds the places in all leaves to which the cuts lead scenarios that the cube matches.
use Rattle.std.specs.Prelude.{nat_le}
use Rattle.cpg_base.specs.Scenario.{number_of}
use Rattle.cpg_violation.specs.Sieves.{places_in}
use Rattle.cpg_violation.proofs.SieveLaws.{side_of}
use Rattle.cpg_violation.proofs.sieve.Sieve.+search.Goals as goal

-- the cut leads a scenario to one side, where all places are found: those below are still there when those above are
-- added
pub search-returns-in_ok-search_side-in-Cut-2-clause-all : goal.search-returns-in_ok-search_side-in-Cut-2-clause-all
search-returns-in_ok-search_side-in-Cut-2-clause-all t c = rw (← c.self.view_is, c.in-Cut.is) (λ s i matched at_leaf.
    side_of (nat_le (number_of s c.in-Cut.variable) c.in-Cut.most) (places_in c.in-Cut.below.value s)
    (places_in c.in-Cut.above.value s) c.search_side-in-Cut.new.found.items i
    (λ on_side at_side. c.in_ok-search_side-in-Cut-2.ensures.old i
    (c.in_ok-search_side-in-Cut.ensures.all s i matched on_side (rw c.deref.ensures at_side)))
    (λ on_side at_side. c.in_ok-search_side-in-Cut-2.ensures.all s i matched on_side
    (rw c.deref-in-Cut.ensures at_side)) at_leaf)

-- the cube may match on this side, and `search` adds what is there
pub search_side-returns-clause-all : goal.search_side-returns-clause-all
search_side-returns-clause-all t c = λ s i matched on_side at_leaf. c.in_ok-search.ensures.all s i matched at_leaf
