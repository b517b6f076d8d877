-- The extras of a head of version 2, compared with the graph's processes one by one. A head of version 1 has none
-- (`None`).
use Rattle.std.proofs.Common.{ℕ, ◌+◌, ◌<◌, ◌≤◌, ◌≡◌, List, Option, Some, None, IfSome, length, get_or, take, map, arith}
use Rattle.std.proofs.Common.{sym, ◌∙◌, inl, inr}
use Rattle.std.specs.Prelude.{slice_get}
use Rattle.std.specs.Option.{option_and_then}
use Rattle.std.proofs.lemmas.Bool.{cases_lt}
use Rattle.std.proofs.lemmas.List.{get_or-map, length-map}
use Rattle.std.proofs.lemmas.Option.{slice_get-get_or, slice_get_past, same_Some, none-some}
use Rattle.cpg_base.specs.declared.process.Process.{Process}
use Rattle.cpg_head.specs.GraphHead.{extra_of}
use Rattle.cpg_head.specs.declared.head_parts.Extra.{Extra}
use Rattle.cpg_head.specs.Head.{AreExtras}
use Rattle.cpg_violation.proofs.Differences.{same_more, same_whole}

-- given: process `p` of the graph, and the extra `e` that a head has for it
module _ (ps : List Process) (p : ℕ) (e : Extra) (d : Process) (inside : p < length ps) where
  -- if the extras are right for the first `p` processes and for process `p`, they are right for one process more
  pub extras_more : (o : Option (List Extra)) → Some e ≡ option_and_then (λ es. slice_get es p) o →
      e ≡ extra_of (get_or ps p d)
      → IfSome o (λ es. take p es ≡ take p (map extra_of ps)) →
      IfSome o (λ es. take (p + 1) es ≡ take (p + 1) (map extra_of ps))
  extras_more None e_is same so_far = tt
  extras_more (Some es) e_is same so_far = elim (cases_lt p (length es)) [
    | inl lt ↦ same_more es (map extra_of ps) p e (extra_of d) lt (omega (arith, length-map ps extra_of))
        (sym (same_Some e (get_or es p e) (e_is ∙ slice_get-get_or es p e lt)) ∙ same
        ∙ sym (get_or-map extra_of ps p d (extra_of d) inside)) so_far
    | inr ge ↦ absurd (none-some e (sym (slice_get_past es p ge) ∙ sym e_is))
  ]

-- if the extras are right for the first `p` processes, and there are no other processes, they are right for all
pub extras_whole : (ps : List Process) (p : ℕ) (o : Option (List Extra)) → length ps ≤ p →
    IfSome o (AreExtras (length ps))
    → IfSome o (λ es. take p es ≡ take p (map extra_of ps)) → IfSome o (λ es. es ≡ map extra_of ps)
extras_whole ps p None past are so_far = tt
extras_whole ps p (Some es) past are so_far =
    same_whole es (map extra_of ps) p (omega (arith, are.count)) (omega (arith, length-map ps extra_of)) so_far
