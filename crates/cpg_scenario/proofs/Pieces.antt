-- Pieces that are written one after the other are their list with commas, if no piece is empty.
use Rattle.std.proofs.Common.{◌≡◌, ℕ, ◌+◌, ◌==◌, Bool, true, false, cond, List, [], ◌∷◌, ◌++◌, codes, flat_map, refl}
use Rattle.std.proofs.Common.{sym, ap, ◌∙◌, append-nil}
use Rattle.std.specs.Prelude.{⊤}
use Rattle.std.specs.Fmt.{decimal}
use Rattle.std.proofs.lemmas.List.{append_assoc}
use Rattle.std.proofs.lemmas.Grind.{flat_map-append}
use Rattle.cpg_base.specs.Numbers.{numbers_below}
use Rattle.cpg_base.specs.Graph.{Graph, process_at, condition_of}
use Rattle.cpg_base.specs.Scenario.{Scenario, fault_of}
use Rattle.cpg_base.proofs.Lists.{below_push}
use Rattle.cpg_scenario.specs.Pieces.{with_pieces, or_none}
use Rattle.cpg_scenario.specs.Text.{listed, fault_pieces, value_pieces, pieces_of, value_at}

-- no piece is empty
abbrev pub AreSome : List (List ℕ) → Type 0
AreSome [] = ⊤
AreSome ([] ∷ ps) = ⊥
AreSome ((c ∷ cs) ∷ ps) = AreSome ps

-- two lists of pieces can be written one after the other
with_pieces-append : (text : List ℕ) (ps qs : List (List ℕ)) →
    with_pieces text (ps ++ qs) ≡ with_pieces (with_pieces text ps) qs
with_pieces-append text [] qs = refl
with_pieces-append [] (p ∷ ps) qs = with_pieces-append p ps qs
with_pieces-append (c ∷ cs) (p ∷ ps) qs = with_pieces-append (((c ∷ cs) ++ codes ", ") ++ p) ps qs

-- after a text that isn't empty, each piece is written after a comma and a space
after_some : (c : ℕ) (cs : List ℕ) (ps : List (List ℕ)) →
    with_pieces (c ∷ cs) ps ≡ (c ∷ cs) ++ flat_map (λ p. codes ", " ++ p) ps
after_some c cs [] = sym (append-nil (c ∷ cs))
after_some c cs (p ∷ ps) = after_some c ((cs ++ codes ", ") ++ p) ps
    ∙ ap (λ l. c ∷ l) (append_assoc (cs ++ codes ", ") p (flat_map (λ q. codes ", " ++ q) ps)
    ∙ append_assoc cs (codes ", ") (p ++ flat_map (λ q. codes ", " ++ q) ps))

-- Pieces that are written one after the other, none of them empty, are the list with commas. The first has no comma
-- before it, and makes the text not empty, so each of the others has one.
pub finished : (ps : List (List ℕ)) → AreSome ps → or_none (with_pieces [] ps) ≡ listed ps
finished [] h = refl
finished ([] ∷ ps) h = absurd h
finished ((c ∷ cs) ∷ ps) h = ap or_none (after_some c cs ps)

-- if no piece of two lists is empty, none of both is
AreSome-append : (ps qs : List (List ℕ)) → AreSome ps → AreSome qs → AreSome (ps ++ qs)
AreSome-append [] qs h k = k
AreSome-append ([] ∷ ps) qs h k = absurd h
AreSome-append ((c ∷ cs) ∷ ps) qs h k = AreSome-append ps qs h k

-- if no piece of any process is empty, none of all is
AreSome-flat_map : (f : ℕ → List (List ℕ)) → ((x : ℕ) → AreSome (f x)) → (xs : List ℕ) → AreSome (flat_map f xs)
AreSome-flat_map f h [] = tt
AreSome-flat_map f h (x ∷ xs) = AreSome-append (f x) (flat_map f xs) (h x) (AreSome-flat_map f h xs)

-- a name with something after it isn't empty
after_name : (name : List ℕ) (d : ℕ) (ds : List ℕ) → AreSome ((name ++ d ∷ ds) ∷ [])
after_name [] d ds = tt
after_name (c ∷ cs) d ds = tt

-- a piece that isn't empty stays so if something is appended
longer_some : (p q : List ℕ) → AreSome (p ∷ []) → AreSome ((p ++ q) ∷ [])
longer_some [] q h = absurd h
longer_some (c ∷ cs) q h = tt

-- no piece on faults is empty
faults_some : (name : List ℕ) (n : ℕ) → AreSome (fault_pieces name n)
faults_some name n = where_some (n == 0)
  where
    -- by whether there are no faults
    where_some : (b : Bool) → AreSome (cond b [] ((name ++ codes " faults " ++ decimal n) ∷ []))
    where_some false = longer_some (name ++ codes " faults ") (decimal n) (after_name name _ _)
    where_some true = tt

-- no piece on a value is empty
value_some : (name : List ℕ) (b : Bool) → AreSome (value_pieces name b)
value_some name false = tt
value_some name true = after_name name _ _

-- no piece of a scenario is empty
pub pieces_some : (g : Graph) (s : Scenario) (ps : List ℕ) → AreSome (flat_map (pieces_of g s) ps)
pieces_some g s ps = AreSome-flat_map (pieces_of g s)
    (λ p. AreSome-append (fault_pieces (process_at g p).name (fault_of s p)) _ (faults_some (process_at g p).name
    (fault_of s p)) (value_some (process_at g p).name (value_at s (condition_of g p)))) ps

-- if the pieces of process n are written behind those of the processes before it, all up to process n are written
pub next_pieces : (f : ℕ → List (List ℕ)) (n : ℕ) (text next : List ℕ) →
    text ≡ with_pieces [] (flat_map f (numbers_below n)) →
    next ≡ with_pieces text (f n) →
    next ≡ with_pieces [] (flat_map f (numbers_below (n + 1)))
next_pieces f n text next f_is k =
    k ∙ ap (λ t. with_pieces t (f n)) f_is ∙ sym (with_pieces-append [] (flat_map f (numbers_below n)) (f n))
    ∙ ap (with_pieces []) (ap (λ l. flat_map f (numbers_below n) ++ l) (sym (append-nil (f n)))
    ∙ sym (flat_map-append f (numbers_below n) (n ∷ [])) ∙ ap (flat_map f) (sym (below_push n)))
