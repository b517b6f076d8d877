-- Proof of `has_partner`, which says whether a column with this total may follow another one at a literal: with a
-- literal instead that ends right before, it would have a total that is among these.
use Rattle.std.proofs.Common.{ℕ, ◌+◌, ◌%◌, ◌^◌, ◌∙◌, Contains, arith, sym, ap, subst, inl, inr}
use Rattle.std.proofs.lemmas.Bool.{cases_eq}
use Rattle.cpg_merging.specs.Totals.{hash_of, ended}
use Rattle.cpg_merging.proofs.MergingTotals.{from_off, one_rest}
use Rattle.cpg_merging.proofs.totals.has_partner.Goals as goal

-- this low gives no partner, and the lower ones gave none
pub loop-low-preserved : goal.loop-low-preserved
loop-low-preserved c low less there = elim (cases_eq low c.loop-low.low) [
  | inr other ↦ c.loop-low.invariant low (omega (arith, less, other)) there
  | inl same_low ↦ from_off c.is_there.result c.if-is_there.false c.is_there.ensures
      (subst (λ (m : ℕ). Contains c.args.sums.sorted.now ((c.rest_of-rest.result + m) % 2 ^ 64))
      (ap (λ (w : ℕ). hash_of (ended c.args.literal w)) same_low ∙ sym c.hash_of-in-loop-low.ensures) there)
]

-- the loop has gone over all lows under the literal's own, and none gave a partner
pub returns : goal.returns
returns c low rest less is there = c.loop-low.invariant low (omega arith)
    (subst (λ (m : ℕ). Contains c.args.sums.sorted.now m)
    (one_rest rest c.rest_of-rest.result (hash_of c.args.literal) (hash_of (ended c.args.literal low))
    (is ∙ sym (ap (λ (m : ℕ). (c.rest_of-rest.result + m) % 2 ^ 64) (sym c.hash_of.ensures) ∙ c.rest_of-rest.ensures)))
    there)
