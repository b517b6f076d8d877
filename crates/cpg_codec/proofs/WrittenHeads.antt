-- A head and its parts, among them the processes with what version 2 adds to each (`Written`). In the lemmas v is a
-- version, k the most faults, n how many nodes there are and ns their names; p and ps are processes, ws written ones;
-- es are extras, or the edges of a head.
use Rattle.std.proofs.Common.{◌≡◌, ℕ, zero, suc, ◌+◌, ◌<◌, ◌≤◌, Bool, true, false, cond, eqb, List, [], ◌∷◌, ◌++◌}
use Rattle.std.proofs.Common.{length, get_or, map, Option, Some, None, refl, sym, ap, ap₂, subst, ◌∙◌, arith}
use Rattle.std.specs.Prelude.{All, IfSome, is_some, unwrap_or, count_by, slice_get, option_and_then}
use Rattle.std.specs.List.{flat_map, AllByRecursion}
use Rattle.std.proofs.lemmas.List.{length-map, length-append}
use Rattle.std.proofs.lemmas.Bool.{ne_eqb}
use Rattle.std.proofs.lemmas.List.Sums.{sum_by-cons}
use Rattle.std.proofs.lemmas.List.Elements.{All-from_recursion, recursion_from_All}
use Rattle.cpg_base.specs.Name.{IsName}
use Rattle.cpg_head.specs.Head.{Head, IsHead, IsHeadProcess, IsHeadEdge, IsExtra, AreExtras, version_of, extra_at}
use Rattle.cpg_head.specs.declared.head_parts.HeadProcess.{HeadProcess}
use Rattle.cpg_head.specs.declared.head_parts.Extra.{Extra}
use Rattle.cpg_codec.specs.Spelling.{Written, written_by, written_with, written, bit}
use Rattle.cpg_codec.specs.Grammar.{limit, listed, head_from}
use Rattle.cpg_codec.specs.Packs.{IsPackHead}

-- what a version adds to a process is lawful: version 1 adds nothing, version 2 an extra within its limits
abbrev pub IsExtraOf : ℕ → Option Extra → Type 0
IsExtraOf version None = version ≡ 1
IsExtraOf version (Some e) = (version ≡ 2) × IsExtra e

-- a process that is written under a version is lawful, and so are its name and what the version adds
pub record IsWritten (version faults nodes : ℕ) (w : Written) : Type 0 where
  pub process : IsHeadProcess faults nodes w.process
  pub name : IsName w.process.name
  pub extra : IsExtraOf version w.extra

-- the process without what is added to it
abbrev pub process_of : Written → HeadProcess
process_of w = w.process

-- what version 2 adds, as a list of one or none
abbrev pub listed_of : Written → List Extra
listed_of w = listed w.extra

-- how many of the written processes have a condition
abbrev pub conditions_of : List Written → ℕ
conditions_of [] = 0
conditions_of (w ∷ ws) = bit w.process.condition + conditions_of ws

-- that is how many of the processes have one
pub conditions_is : (ws : List Written) →
    conditions_of ws ≡ count_by (λ (p : HeadProcess). p.condition) (map process_of ws)
conditions_is [] = refl
conditions_is (w ∷ ws) = ap (λ (n : ℕ). bit w.process.condition + n) (conditions_is ws)
    ∙ sym (sum_by-cons (λ (p : HeadProcess). cond p.condition 1 0) w.process (map process_of ws))

-- ---- from parts to a head

-- processes that are written with extras, whether these are enough or not, are still the same
pub written_back : (ps : List HeadProcess) (es : List Extra) → map process_of (written_by ps es) ≡ ps
written_back [] es = refl
written_back (p ∷ ps) [] = ap (λ (qs : List HeadProcess). p ∷ qs) (written_back ps [])
written_back (p ∷ ps) (e ∷ es) = ap (λ (qs : List HeadProcess). p ∷ qs) (written_back ps es)

-- there are as many written processes as processes
pub written_count : (ps : List HeadProcess) (es : List Extra) → length (written_by ps es) ≡ length ps
written_count [] es = refl
written_count (p ∷ ps) [] = ap suc (written_count ps [])
written_count (p ∷ ps) (e ∷ es) = ap suc (written_count ps es)

-- what version 1 lawfully adds is None
pub none_of : (o : Option Extra) → IsExtraOf 1 o → o ≡ None
none_of None lawful = refl
none_of (Some e) lawful = absurd (omega (arith, lawful.0))

-- lawful written processes of version 1 are their processes, written without extras
pub written_none : (k n : ℕ) (ws : List Written) → AllByRecursion (IsWritten 1 k n) ws →
    written_by (map process_of ws) [] ≡ ws
written_none k n [] lawful = refl
written_none k n (w ∷ ws) lawful =
    let is_none = none_of w.extra lawful.0.extra in
    ap₂ (λ (v : Written) (vs : List Written). v ∷ vs)
    (ap (λ (o : Option Extra). record { process = w.process; extra = o }) (sym is_none)) (written_none k n ws lawful.1)

-- a process of version 2 at the front is written with its extra, the first of the extras
one_more : (p : HeadProcess) (o : Option Extra) (ps : List HeadProcess) (es : List Extra) → IsExtraOf 2 o →
    written_by (p ∷ ps) (listed o ++ es) ≡ record { process = p; extra = o } ∷ written_by ps es
one_more p None ps es lawful = absurd (omega (arith, lawful))
one_more p (Some e) ps es lawful = refl

-- lawful written processes of version 2 are their processes, written with their extras in the same order; by induction
pub written_some : (k n : ℕ) (ws : List Written) → AllByRecursion (IsWritten 2 k n) ws →
    written_by (map process_of ws) (flat_map listed_of ws) ≡ ws
written_some k n [] lawful = refl
written_some k n (w ∷ ws) lawful =
    one_more w.process w.extra (map process_of ws) (flat_map listed_of ws) lawful.0.extra
    ∙ ap (λ (vs : List Written). w ∷ vs) (written_some k n ws lawful.1)

-- a head that is made for version 1 or 2 has that version
pub version_made : (v k : ℕ) (ns : List (List ℕ)) (ws : List Written) (es : List (ℕ × ℕ)) → 1 ≤ v → v ≤ 2 →
    version_of (head_from v k ns ws es) ≡ v
version_made zero k ns ws es least most = absurd (omega arith)
version_made (suc zero) k ns ws es least most = refl
version_made (suc (suc zero)) k ns ws es least most = refl
version_made (suc (suc (suc v))) k ns ws es least most = absurd (omega arith)

-- the written processes of a head that is made of lawful ones are these
pub written_made : (v k n : ℕ) (ns : List (List ℕ)) (ws : List Written) (es : List (ℕ × ℕ)) → 1 ≤ v → v ≤ 2 →
    AllByRecursion (IsWritten v k n) ws →
    written (head_from v k ns ws es) ≡ ws
written_made zero k n ns ws es least most lawful = absurd (omega arith)
written_made (suc zero) k n ns ws es least most lawful = written_none k n ws lawful
written_made (suc (suc zero)) k n ns ws es least most lawful = written_some k n ws lawful
written_made (suc (suc (suc v))) k n ns ws es least most lawful = absurd (omega arith)

-- if extras are n and lawful, so are n + 1 with that of a process of version 2 before them
one_extra : (o : Option Extra) (es : List Extra) (n : ℕ) → IsExtraOf 2 o → length es ≡ n → AllByRecursion IsExtra es →
    (length (listed o ++ es) ≡ suc n) × AllByRecursion IsExtra (listed o ++ es)
one_extra None es n lawful count_is all = absurd (omega (arith, lawful))
one_extra (Some e) es n lawful count_is all = (ap suc count_is, (lawful.1, all))

-- lawful written processes of version 2 have an extra each, which is lawful; by induction
extras_are : (k n : ℕ) (ws : List Written) → AllByRecursion (IsWritten 2 k n) ws →
    (length (flat_map listed_of ws) ≡ length ws) × AllByRecursion IsExtra (flat_map listed_of ws)
extras_are k n [] lawful = (refl, tt)
extras_are k n (w ∷ ws) lawful = let rest_are = extras_are k n ws lawful.1 in
    one_extra w.extra (flat_map listed_of ws) (length ws) lawful.0.extra rest_are.0 rest_are.1

-- a head that is made of lawful written processes has lawful extras, one for each process, if it has any; it has any if
-- the version is 2
extras_made : (v k n : ℕ) (ns : List (List ℕ)) (ws : List Written) (es : List (ℕ × ℕ)) → v ≤ 2 →
    AllByRecursion (IsWritten v k n) ws →
    IfSome (head_from v k ns ws es).extras (AreExtras (length (map process_of ws)))
extras_made zero k n ns ws es most lawful = tt
extras_made (suc zero) k n ns ws es most lawful = tt
extras_made (suc (suc zero)) k n ns ws es most lawful =
    let extras = extras_are k n ws lawful in
    record {
      count = extras.0 ∙ sym (length-map ws process_of);
      each = All-from_recursion IsExtra (flat_map listed_of ws) extras.1;
    }
extras_made (suc (suc (suc v))) k n ns ws es most lawful = absurd (omega arith)

-- the processes of lawful written ones are lawful, with well-formed names
processes_made : (v k n : ℕ) (ws : List Written) → AllByRecursion (IsWritten v k n) ws →
    AllByRecursion (IsHeadProcess k n) (map process_of ws) ×
    AllByRecursion (λ (p : HeadProcess). IsName p.name) (map process_of ws)
processes_made v k n [] lawful = (tt, tt)
processes_made v k n (w ∷ ws) lawful =
    let rest_are = processes_made v k n ws lawful.1 in
    ((lawful.0.process, rest_are.0), (lawful.0.name, rest_are.1))

-- `count` lawful written processes after `ones` with a condition; with them at most 32 have one
pub record AreProcesses (version faults nodes count ones : ℕ) (ws : List Written) : Type 0 where
  pub count_is : length ws ≡ count
  pub each : AllByRecursion (IsWritten version faults nodes) ws
  pub conditions : ones + conditions_of ws ≤ 32

-- lawful parts make a lawful head; each limit of the head is a premise
pub made_lawful : (v k : ℕ) (ns : List (List ℕ)) (ws : List Written) (es : List (ℕ × ℕ)) → v ≤ 2 → k ≤ 8 →
    length ns ≤ 16 → AllByRecursion IsName ns →
    length ws ≤ 128 →
    AreProcesses v k (length ns) (length ws) 0 ws → length es ≤ 256
    → AllByRecursion (IsHeadEdge (length ws)) es → IsPackHead (head_from v k ns ws es)
made_lawful v k ns ws es newest few nodes names processes each edges ends =
    let count = length-map ws process_of in
    let lawful = processes_made v k (length ns) ws each.each in
    record {
      within = record {
        faults = few;
        few_nodes = nodes;
        few_processes = omega (arith, count);
        few_conditions = let conditions = conditions_is ws in omega (arith, conditions, each.conditions);
        few_edges = edges;
        processes = All-from_recursion (IsHeadProcess k (length ns)) (map process_of ws) lawful.0;
        edges =
            subst (λ (n : ℕ). All (IsHeadEdge n) es) (sym count) (All-from_recursion (IsHeadEdge (length ws)) es ends);
        extras = extras_made v k (length ns) ns ws es newest each.each;
      };
      nodes = All-from_recursion IsName ns names;
      processes = All-from_recursion (λ (q : HeadProcess). IsName q.name) (map process_of ws) lawful.1;
    }

-- ---- from a head to its parts

-- if there is an extra for each process, those of the processes that are written with them are these
extras_back : (ps : List HeadProcess) (es : List Extra) → length es ≡ length ps →
    flat_map listed_of (written_by ps es) ≡ es
extras_back [] [] counts = refl
extras_back [] (x ∷ es) counts = absurd (omega (arith, counts))
extras_back (p ∷ ps) [] counts = absurd (omega (arith, counts))
extras_back (p ∷ ps) (x ∷ es) counts = ap (λ (xs : List Extra). x ∷ xs) (extras_back ps es (omega (arith, counts)))

-- a head is made of its parts: in version 1 of its processes alone, in version 2 of these with their extras
head_of_parts : (k : ℕ) (ns : List (List ℕ)) (ps : List HeadProcess) (es : List (ℕ × ℕ)) (o : Option (List Extra)) →
    IfSome o (AreExtras (length ps))
    → record {
      faults = k;
      nodes = ns;
      processes = ps;
      edges = es;
      extras = o;
    } ≡ head_from (cond (is_some o) 2 1) k ns (written_by ps (unwrap_or o [])) es
head_of_parts k ns ps es None lawful =
    ap (λ (qs : List HeadProcess). record { faults = k; nodes = ns; processes = qs; edges = es; extras = None })
    (sym (written_back ps []))
head_of_parts k ns ps es (Some xs) lawful =
    ap₂ (λ (qs : List HeadProcess) (ys : List Extra). record {
      faults = k;
      nodes = ns;
      processes = qs;
      edges = es;
      extras = Some ys;
    }) (sym (written_back ps xs)) (sym (extras_back ps xs lawful.count))

-- a head is the one that its parts make
pub head_again : (h : Head) → IsHead h → h ≡ head_from (version_of h) h.faults h.nodes (written h) h.edges
head_again h lawful = head_of_parts h.faults h.nodes h.processes h.edges h.extras lawful.extras

-- lawful processes with well-formed names, written without extras, are lawful for version 1
each_none : (k n : ℕ) (ps : List HeadProcess) → AllByRecursion (IsHeadProcess k n) ps →
    AllByRecursion (λ (p : HeadProcess). IsName p.name) ps →
    AllByRecursion (IsWritten 1 k n) (written_by ps [])
each_none k n [] lawful names = tt
each_none k n (p ∷ ps) lawful names =
    (record { process = lawful.0; name = names.0; extra = refl }, each_none k n ps lawful.1 names.1)

-- lawful processes with well-formed names, written with a lawful extra each, are lawful for version 2; by induction on
-- both lists
each_some : (k n : ℕ) (ps : List HeadProcess) (es : List Extra) → length es ≡ length ps →
    AllByRecursion (IsHeadProcess k n) ps →
    AllByRecursion (λ (p : HeadProcess). IsName p.name) ps →
    AllByRecursion IsExtra es
    → AllByRecursion (IsWritten 2 k n) (written_by ps es)
each_some k n [] es counts lawful names all = tt
each_some k n (p ∷ ps) [] counts lawful names all = absurd (omega (arith, counts))
each_some k n (p ∷ ps) (x ∷ es) counts lawful names all = (
  record { process = lawful.0; name = names.0; extra = (refl, all.0) },
  each_some k n ps es (omega (arith, counts)) lawful.1 names.1 all.1,
)

-- lawful processes with well-formed names, written with the extras of a head or none, are lawful for its version
each_of : (k n : ℕ) (ps : List HeadProcess) (o : Option (List Extra)) → IfSome o (AreExtras (length ps)) →
    AllByRecursion (IsHeadProcess k n) ps →
    AllByRecursion (λ (p : HeadProcess). IsName p.name) ps
    → AllByRecursion (IsWritten (cond (is_some o) 2 1) k n) (written_by ps (unwrap_or o []))
each_of k n ps None extras lawful names = each_none k n ps lawful names
each_of k n ps (Some es) extras lawful names =
    each_some k n ps es extras.count lawful names (recursion_from_All IsExtra es extras.each)

-- the written processes of a lawful head are lawful: as many as the head has, each lawful, and with at most 32
-- conditions
pub head_processes : (h : Head) → IsPackHead h →
    AreProcesses (version_of h) h.faults (length h.nodes) (length h.processes) 0 (written h)
head_processes h lawful = record {
  count_is = written_count h.processes (unwrap_or h.extras []);
  each = each_of h.faults (length h.nodes) h.processes h.extras lawful.within.extras
      (recursion_from_All (IsHeadProcess h.faults (length h.nodes)) h.processes lawful.within.processes)
      (recursion_from_All (λ (p : HeadProcess). IsName p.name) h.processes lawful.processes);
  conditions =
      let counted = conditions_is (written h) in
      let same : count_by (λ (p : HeadProcess). p.condition) (map process_of (written h))
      ≡ count_by (λ (p : HeadProcess). p.condition) h.processes =
      ap (count_by (λ (p : HeadProcess). p.condition)) (written_back h.processes (unwrap_or h.extras [])) in
      omega (arith, counted, same, lawful.within.few_conditions);
}

-- a version is 1 or 2, by whether there are extras
version_either : (b : Bool) → (1 ≤ cond b 2 1) × (cond b 2 1 ≤ 2)
version_either true = (omega arith, omega arith)
version_either false = (omega arith, omega arith)

-- the version of a head is 1 or 2
pub version_within : (h : Head) → (1 ≤ version_of h) × (version_of h ≤ 2)
version_within h = version_either (is_some h.extras)

-- ---- counts that are 0 if there is nothing to refer to

-- if a number above 0 is within the limit, there is something to refer to
pub limit_some : (below most n : ℕ) → n ≤ limit below most → 0 < n → 0 < below
limit_some zero most n le some = absurd (omega arith)
limit_some (suc below) most n le some = omega arith

-- a limit is at most the greatest number
pub limit_most : (below most : ℕ) → limit below most ≤ most
limit_most zero most = omega arith
limit_most (suc below) most = omega arith

-- a number up to the most is within the limit, if there is something to refer to whenever it is above 0
pub limit_from : (below most n : ℕ) → n ≤ most → (0 < n → 0 < below) → n ≤ limit below most
limit_from zero most zero le some = omega arith
limit_from zero most (suc n) le some = absurd (let positive : 0 < 0 = some (omega arith) in omega arith)
limit_from (suc below) most n le some = le

-- if there is a process, there is a node
some_node : (k n : ℕ) (ps : List HeadProcess) → AllByRecursion (IsHeadProcess k n) ps → 0 < length ps → 0 < n
some_node k n [] lawful lt = absurd (omega arith)
some_node k n (p ∷ ps) lawful lt = omega (arith, lawful.0.node)

-- the processes of a head are within their limit
pub processes_limit : (h : Head) → IsHead h → length h.processes ≤ limit (length h.nodes) 128
processes_limit h lawful = limit_from (length h.nodes) 128 (length h.processes) lawful.few_processes
    (some_node h.faults (length h.nodes) h.processes
    (recursion_from_All (IsHeadProcess h.faults (length h.nodes)) h.processes lawful.processes))

-- if there is an edge, there is a process
some_process : (n : ℕ) (es : List (ℕ × ℕ)) → AllByRecursion (IsHeadEdge n) es → 0 < length es → 0 < n
some_process n [] lawful lt = absurd (omega arith)
some_process n (e ∷ es) lawful lt = omega (arith, lawful.0.from)

-- the edges of a head are within their limit
pub edges_limit : (h : Head) → IsHead h → length h.edges ≤ limit (length h.processes) 256
edges_limit h lawful = limit_from (length h.processes) 256 (length h.edges) lawful.few_edges
    (some_process (length h.processes) h.edges
    (recursion_from_All (IsHeadEdge (length h.processes)) h.edges lawful.edges))

-- ---- one process after another

-- written without extras, the process at a place has none
at_none : (ps : List HeadProcess) (i : ℕ) (p : HeadProcess) (d : Written) → i < length ps → p ≡ get_or ps i p →
    record { process = p; extra = None } ≡ get_or (written_by ps []) i d
at_none [] i p d lt is_at = absurd (omega arith)
at_none (q ∷ ps) zero p d lt is_at = ap (λ (r : HeadProcess). record { process = r; extra = None }) is_at
at_none (q ∷ ps) (suc i) p d lt is_at = at_none ps i p d (omega arith) is_at

-- written with an extra each, the process at a place has the extra of that place
at_some : (ps : List HeadProcess) (es : List Extra) (i : ℕ) (p : HeadProcess) (o : Option Extra) (d : Written) →
    length es ≡ length ps → i < length ps → p ≡ get_or ps i p →
    o ≡ slice_get es i
    → record { process = p; extra = o } ≡ get_or (written_by ps es) i d
at_some [] es i p o d same lt is_at extra_is = absurd (omega arith)
at_some (q ∷ ps) [] i p o d same lt is_at extra_is = absurd (omega (arith, same))
at_some (q ∷ ps) (x ∷ es) zero p o d same lt is_at extra_is =
    ap₂ (λ (r : HeadProcess) (s : Option Extra). record { process = r; extra = s }) is_at extra_is
at_some (q ∷ ps) (x ∷ es) (suc i) p o d same lt is_at extra_is =
    at_some ps es i p o d (omega (arith, same)) (omega arith) is_at extra_is

-- written with the extras of a head or none, the process at a place has the extra of that place, if there are extras
at_either : (ps : List HeadProcess) (xs : Option (List Extra)) (i : ℕ) (p : HeadProcess) (o : Option Extra)
    (d : Written) → IfSome xs (AreExtras (length ps)) → i < length ps →
    p ≡ get_or ps i p →
    o ≡ option_and_then (λ es. slice_get es i) xs
    → record { process = p; extra = o } ≡ get_or (written_by ps (unwrap_or xs [])) i d
at_either ps None i p o d extras lt is_at extra_is =
    ap (λ (s : Option Extra). record { process = p; extra = s }) extra_is ∙ at_none ps i p d lt is_at
at_either ps (Some es) i p o d extras lt is_at extra_is = at_some ps es i p o d extras.count lt is_at extra_is

-- the written process of a head at a place is the process of that place with its extra
pub written_at : (h : Head) (i : ℕ) (p : HeadProcess) (o : Option Extra) → IsHead h → i < length h.processes →
    p ≡ get_or h.processes i p →
    o ≡ extra_at h i →
    record { process = p; extra = o } ≡ get_or (written h) i (record { process = p; extra = o })
written_at h i p o lawful lt is_at extra_is =
    at_either h.processes h.extras i p o (record { process = p; extra = o }) lawful.extras lt is_at extra_is

-- there are as many written processes as processes
pub written_length : (h : Head) → length (written h) ≡ length h.processes
written_length h = written_count h.processes (unwrap_or h.extras [])

-- ---- processes and extras as they are read

-- written without extras, one more process at the end is one more written process there
push_none : (ps : List HeadProcess) (p : HeadProcess) →
    written_by (ps ++ p ∷ []) [] ≡ written_by ps [] ++ written_with p None ∷ []
push_none [] p = refl
push_none (q ∷ ps) p = ap (λ (ws : List Written). written_with q None ∷ ws) (push_none ps p)

-- if each process has an extra, one more process and one more extra at the end are one more written process there
push_some : (ps : List HeadProcess) (es : List Extra) (p : HeadProcess) (e : Extra) → length es ≡ length ps →
    written_by (ps ++ p ∷ []) (es ++ e ∷ []) ≡ written_by ps es ++ written_with p (Some e) ∷ []
push_some [] [] p e counts = refl
push_some [] (x ∷ es) p e counts = absurd (omega (arith, counts))
push_some (q ∷ ps) [] p e counts = absurd (omega (arith, counts))
push_some (q ∷ ps) (x ∷ es) p e counts =
    ap (λ (ws : List Written). written_with q (Some x) ∷ ws) (push_some ps es p e (omega (arith, counts)))

-- the same for both versions: b says whether there are extras
pub written_push : (b : Bool) (ps : List HeadProcess) (es : List Extra) (p : HeadProcess) (o : Option Extra) →
    is_some o ≡ b →
    length es ≡ cond b (length ps) 0 →
    written_by (ps ++ p ∷ []) (es ++ listed o) ≡ written_by ps es ++ written_with p o ∷ []
written_push true ps es p (Some e) has_extra counts = push_some ps es p e counts
written_push true ps es p None has_extra counts = absurd cc
written_push false ps es p (Some e) has_extra counts = absurd cc
written_push false ps [] p None has_extra counts = push_none ps p
written_push false ps (x ∷ es) p None has_extra counts = absurd (omega (arith, counts))

-- with one more process there is still an extra for each process, or for none
pub kept_push : (b : Bool) (ps : List HeadProcess) (es : List Extra) (p : HeadProcess) (o : Option Extra) →
    is_some o ≡ b →
    length es ≡ cond b (length ps) 0 →
    length (es ++ listed o) ≡ cond b (length (ps ++ p ∷ [])) 0
kept_push true ps es p (Some e) has_extra counts = let more_extras = length-append es (e ∷ []) in
    let more_processes = length-append ps (p ∷ []) in
    omega (arith, more_extras, more_processes, counts)
kept_push true ps es p None has_extra counts = absurd cc
kept_push false ps es p (Some e) has_extra counts = absurd cc
kept_push false ps es p None has_extra counts = let one_list = length-append es (listed None) in
    omega (arith, one_list, counts)

-- ---- a head from its parts

-- if lawful parts make a head, the head of the same parts without extras is within its limits: its processes are those
-- that were written (`written_back`)
pub plain_head : (v k : ℕ) (ns : List (List ℕ)) (ps : List HeadProcess) (xs : List Extra) (es : List (ℕ × ℕ)) →
    IsPackHead (head_from v k ns (written_by ps xs) es) →
    IsHead (record { faults = k; nodes = ns; processes = ps; edges = es; extras = None })
plain_head v k ns ps xs es made =
    subst (λ (qs : List HeadProcess).
    IsHead (record { faults = k; nodes = ns; processes = qs; edges = es; extras = None })) (written_back ps xs)
    (record {
      faults = made.within.faults;
      few_nodes = made.within.few_nodes;
      few_processes = made.within.few_processes;
      few_conditions = made.within.few_conditions;
      few_edges = made.within.few_edges;
      processes = made.within.processes;
      edges = made.within.edges;
      extras = tt;
    })

-- if the parts of version 2 make a lawful head, their extras are lawful, one for each process
two_extras : (k : ℕ) (ns : List (List ℕ)) (ps : List HeadProcess) (xs : List Extra) (es : List (ℕ × ℕ)) →
    length xs ≡ length ps →
    IsPackHead (head_from 2 k ns (written_by ps xs) es) →
    AreExtras (length ps) xs
two_extras k ns ps xs es counts made =
    let extras : AreExtras (length (map process_of (written_by ps xs))) (flat_map listed_of (written_by ps xs)) =
    made.within.extras in
    subst (λ (ys : List Extra). AreExtras (length ps) ys) (extras_back ps xs counts)
    (subst (λ (qs : List HeadProcess). AreExtras (length qs) (flat_map listed_of (written_by ps xs)))
    (written_back ps xs) extras)

-- the same for a version that is 2
pub made_extras : (v k : ℕ) (ns : List (List ℕ)) (ps : List HeadProcess) (xs : List Extra) (es : List (ℕ × ℕ)) → v ≡ 2 →
    length xs ≡ cond (eqb v 2) (length ps) 0 →
    IsPackHead (head_from v k ns (written_by ps xs) es) → AreExtras (length ps) xs
made_extras v k ns ps xs es is_2 counts made =
    two_extras k ns ps xs es (subst (λ (u : ℕ). length xs ≡ cond (eqb u 2) (length ps) 0) is_2 counts)
    (subst (λ (u : ℕ). IsPackHead (head_from u k ns (written_by ps xs) es)) is_2 made)

-- in any version but 2 the head of the parts is the one without extras, as the written processes give back the
-- processes (`written_back`)
pub joined_one : (v k : ℕ) (ns : List (List ℕ)) (ps : List HeadProcess) (xs : List Extra) (es : List (ℕ × ℕ)) →
    (v ≡ 2 → ⊥) →
    record {
      faults = k;
      nodes = ns;
      processes = ps;
      edges = es;
      extras = None;
    } ≡ head_from v k ns (written_by ps xs) es
joined_one v k ns ps xs es not_2 =
    let version_not_2 : eqb v 2 ≡ false = ne_eqb v 2 not_2 in
    ap₂ (λ (qs : List HeadProcess) (b : Bool). record {
      faults = k;
      nodes = ns;
      processes = qs;
      edges = es;
      extras = cond b (Some (flat_map listed_of (written_by ps xs))) None;
    })
    (sym (written_back ps xs)) (sym version_not_2)

-- in version 2 the head of the parts is the one with their extras, as the written processes give back both
-- (`written_back`, `extras_back`)
joined_some : (k : ℕ) (ns : List (List ℕ)) (ps : List HeadProcess) (xs : List Extra) (es : List (ℕ × ℕ)) →
    length xs ≡ length ps →
    record {
      faults = k;
      nodes = ns;
      processes = ps;
      edges = es;
      extras = Some xs;
    } ≡ head_from 2 k ns (written_by ps xs) es
joined_some k ns ps xs es same =
    ap₂ (λ (qs : List HeadProcess) (ys : List Extra). record {
      faults = k;
      nodes = ns;
      processes = qs;
      edges = es;
      extras = Some ys;
    }) (sym (written_back ps xs)) (sym (extras_back ps xs same))

-- the same for a version that is 2; the number of extras is then that of the processes
pub joined_two : (v k : ℕ) (ns : List (List ℕ)) (ps : List HeadProcess) (xs : List Extra) (es : List (ℕ × ℕ)) → v ≡ 2 →
    length xs ≡ cond (eqb v 2) (length ps) 0
    → record {
      faults = k;
      nodes = ns;
      processes = ps;
      edges = es;
      extras = Some xs;
    } ≡ head_from v k ns (written_by ps xs) es
joined_two v k ns ps xs es same n =
    joined_some k ns ps xs es (subst (λ (u : ℕ). length xs ≡ cond (eqb u 2) (length ps) 0) same n)
    ∙ ap (λ (u : ℕ). head_from u k ns (written_by ps xs) es) (sym same)
