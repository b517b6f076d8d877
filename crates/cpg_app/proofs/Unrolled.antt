-- Parts have a graph, or are refused.
use Rattle.std.proofs.Common.{ℕ, ◌≡◌, ◌≢◌, List, [], ◌∷◌, refl, subst, arith}
use Rattle.std.specs.Prelude.{Ok, Err}
use Rattle.std.proofs.lemmas.Nat.Gcd.{dvd_antisymm}
use Rattle.cpg_base.specs.Graph.{Graph}
use Rattle.cpg_reader.specs.declared.place.What.{What}
use Rattle.cpg_hyper.specs.declared.part.Part.{Part}
use Rattle.cpg_hyper.specs.declared.part.HyperFault.{HyperFault}
use Rattle.cpg_hyper.specs.declared.part.HyperFault.TheVariants.{OutOfMemory}
use Rattle.cpg_hyper.specs.Hyperperiod.{IsHyperperiod}
use Rattle.cpg_hyper.specs.Refusals.{Exceeds, FailsFirst, HasFewEnough, HasShortNames, HoldsOfEach, IsAlike, IsInRange}
use Rattle.cpg_hyper.specs.Refusals.{FitsPeriod, GivesNoOrder, ShowsUnrolled}
use Rattle.cpg_hyper.specs.Unrolled.{first_graph, unrolled}

-- if a fact `P` holds of each part, no part `p` is the first of which it doesn't
none_fails : (P : ℕ → Part → Type 0) (parts : List Part) (p : ℕ) → HoldsOfEach P parts → FailsFirst P parts p → ⊥
none_fails P [] p holds fails = let inside = fails.within in omega (arith, inside)
none_fails P (d ∷ parts) p holds fails = fails.fails d (holds p d fails.within)

-- a graph that is small enough exceeds no limit
enough : (what : What) (g : Graph) → Exceeds what g → HasFewEnough g → ⊥
enough What.Nodes g over few = over
enough What.Slots g over few = over
enough What.Processes g over few = let limit = few.processes in omega (arith, limit, over)
enough What.Edges g over few = let limit = few.edges in let more = over.1 in omega (arith, limit, more)
enough (What.Number place) g over few = over
enough What.Conditions g over few = let limit = few.conditions in let more = over.2 in omega (arith, limit, more)

-- parts have one hyperperiod, so `n` and `m` are equal
one_hyperperiod : (parts : List Part) (n m : ℕ) → IsHyperperiod parts n → IsHyperperiod parts m → n ≡ m
one_hyperperiod parts n m n_is m_is = dvd_antisymm (n_is.least m m_is.common) (m_is.least n n_is.common)

-- Parts that have a graph of all their instances aren't refused. By the fault: what it says is just what the graph
-- excludes.
pub not_both : (parts : List Part) (g : Graph) (fault : HyperFault) → ShowsUnrolled parts (Ok g) →
    ShowsUnrolled parts (Err fault) → fault ≢ OutOfMemory → ⊥
not_both parts g (HyperFault.Range p) made refused other =
    none_fails (λ p part. IsInRange part) parts p made.1.fitting.ranges refused
not_both parts g (HyperFault.Differ p) made refused other =
    none_fails (λ p part. IsAlike (first_graph parts) part) parts p made.1.fitting.alike refused.1
not_both parts g (HyperFault.Over p) made refused other =
    none_fails (λ p part. FitsPeriod part) parts p made.1.fitting.fitting refused.1
not_both parts g HyperFault.Period made refused other = let beyond = refused.1 made.0 made.1.hyperperiod in
    let short = made.1.short in
    omega (arith, beyond, short)
not_both parts g (HyperFault.Count what) made refused other =
    let same = one_hyperperiod parts refused.0 made.0 refused.1.hyperperiod made.1.hyperperiod in
    enough what (unrolled made.0 parts) (subst (λ n. Exceeds what (unrolled n parts)) same refused.2) made.2
not_both parts g (HyperFault.LongName p) made refused other =
    let same = one_hyperperiod parts refused.0 made.0 refused.1.hyperperiod made.1.hyperperiod in
    none_fails (HasShortNames made.0) parts p made.3 (subst (λ n. FailsFirst (HasShortNames n) parts p) same refused.3)
not_both parts g (HyperFault.Order p) made refused other =
    none_fails (λ q part. GivesNoOrder part) parts p made.4 refused.4
not_both parts g HyperFault.OutOfMemory made refused other = other refl
