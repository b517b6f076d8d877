-- A command of `hyper` has at least one part. The proof goes through all forms of the command line.
use Rattle.std.proofs.Common.{ℕ, ◌≡◌, ◌<◌, Bool, true, false, cond, List, [], ◌∷◌, Option, Some, None, length, arith}
use Rattle.std.proofs.Common.{subst}
use Rattle.std.specs.Prelude.{option_map, option_and_then, nat_lt, nat_le, ◌&&◌, ⊤}
use Rattle.std.specs.Str.{bytes_eq}
use Rattle.cpg_words.specs.Parts.{Text, Parts, parts_of}
use Rattle.cpg_words.specs.Forms.{Form, command_named, command_of, forms, hyper_of, in_form, one_to_four, one_word}
use Rattle.cpg_words.specs.Forms.{pairs_of, play_of, three_words, trial_of, two_words}
use Rattle.cpg_words.specs.Number.{number}
use Rattle.cpg_words.specs.declared.command.Pair.{Pair}
use Rattle.cpg_words.specs.declared.command.Command.{Command}
use Rattle.cpg_words.specs.declared.command.Command.TheVariants.{Show, Compile, Check, Play, Node, Trial, Live, Hyper}
use Rattle.cpg_words.specs.declared.command.Command.TheVariants.{Tune, Audit}

-- a command `Hyper` has at least one pair; nothing is asked of the others
abbrev HasParts : Option Command → Type 0
HasParts None = ⊤
HasParts (Some (Hyper pairs)) = 0 < length pairs
HasParts (Some (Show a)) = ⊤
HasParts (Some (Compile a)) = ⊤
HasParts (Some (Check a b)) = ⊤
HasParts (Some (Play a b c n)) = ⊤
HasParts (Some (Node a b)) = ⊤
HasParts (Some (Trial n)) = ⊤
HasParts (Some (Live a b c)) = ⊤
HasParts (Some (Tune a)) = ⊤
HasParts (Some (Audit a b c)) = ⊤

-- what a form of one word makes of words has parts, if it is `hyper`; so below for each form
one_has : (make : Text → Command) → ((a : Text) → HasParts (Some (make a))) → (ws ts : List Text) →
    HasParts (one_word make ws ts)
one_has make each [] ts = tt
one_has make each (a ∷ []) [] = each a
one_has make each (a ∷ []) (t ∷ ts) = tt
one_has make each (a ∷ b ∷ ws) ts = tt

-- the same for a form of two words, `a` and `b`, of which `make` makes the command; `ws` are all words, and `ts` the
-- turns
two_have : (make : Text → Text → Command) → ((a b : Text) → HasParts (Some (make a b))) → (ws ts : List Text) →
    HasParts (two_words make ws ts)
two_have make each [] ts = tt
two_have make each (a ∷ []) ts = tt
two_have make each (a ∷ b ∷ []) [] = each a b
two_have make each (a ∷ b ∷ []) (t ∷ ts) = tt
two_have make each (a ∷ b ∷ c ∷ ws) ts = tt

-- the same for a form of three words; by the number of words and of values of `--turns`
three_have : (make : Text → Text → Text → Command) → ((a b c : Text) → HasParts (Some (make a b c))) →
    (ws ts : List Text) →
    HasParts (three_words make ws ts)
three_have make each [] ts = tt
three_have make each (a ∷ []) ts = tt
three_have make each (a ∷ b ∷ []) ts = tt
three_have make each (a ∷ b ∷ c ∷ []) [] = each a b c
three_have make each (a ∷ b ∷ c ∷ []) (t ∷ ts) = tt
three_have make each (a ∷ b ∷ c ∷ d ∷ ws) ts = tt

-- the same for `play` with a number, if it is one
played : (a b c : Text) (n : Option ℕ) → HasParts (option_map (Play a b c) n)
played a b c None = tt
played a b c (Some n) = tt

-- the same for `play` with any words and turns
play_has : (ws ts : List Text) → HasParts (play_of ws ts)
play_has [] ts = tt
play_has (a ∷ []) ts = tt
play_has (a ∷ b ∷ []) ts = tt
play_has (a ∷ b ∷ c ∷ []) [] = tt
play_has (a ∷ b ∷ c ∷ []) (t ∷ []) = played a b c (number t)
play_has (a ∷ b ∷ c ∷ []) (t ∷ u ∷ ts) = tt
play_has (a ∷ b ∷ c ∷ d ∷ ws) ts = tt

-- the same for `trial` with a number, if it is one
tried : (n : Option ℕ) → HasParts (option_map Trial n)
tried None = tt
tried (Some n) = tt

-- the same for `trial` with any words and turns
trial_has : (ws ts : List Text) → HasParts (trial_of ws ts)
trial_has [] ts = tt
trial_has (n ∷ []) [] = tried (number n)
trial_has (n ∷ []) (t ∷ ts) = tt
trial_has (n ∷ m ∷ ws) ts = tt

-- pairs `ps` after a first one, `p`, are at least one pair, if they pass the test for 1 to 4 (`b`)
few : (b : Bool) (p : Pair) (ps : List Pair) → HasParts (option_map Hyper (cond b (Some (p ∷ ps)) None))
few true p ps = omega arith
few false p ps = tt

-- `hyper` with its pairs, if there are 1 to 4, has at least one
paired : (pairs : Option (List Pair)) → HasParts (option_map Hyper (option_and_then one_to_four pairs))
paired None = tt
paired (Some []) = tt
paired (Some (p ∷ ps)) = few (nat_lt 0 (length (p ∷ ps)) && nat_le (length (p ∷ ps)) 4) p ps

-- the same for `hyper` with any words and turns
hyper_has : (ws ts : List Text) → HasParts (hyper_of ws ts)
hyper_has ws [] = paired (pairs_of ws)
hyper_has ws (t ∷ ts) = tt

-- ---- of all forms

-- each form of a list gives commands that have parts
abbrev AllHave : List Form → Type 0
AllHave [] = ⊤
AllHave (f ∷ fs) = ((ws ts : List Text) → HasParts (f.1 ws ts)) × AllHave fs

-- a command by the first form `f`, if `b` says that it is found, or by the others has parts
found : (p : Parts) (b : Bool) (f : Form) (rest : Option Form) → HasParts (f.1 p.positionals p.turns) →
    HasParts (in_form p rest) →
    HasParts (in_form p (cond b (Some f) rest))
found p true f rest has_parts k = has_parts
found p false f rest has_parts k = k

-- the command that a name's form, one of `fs`, makes of parts `p` has parts; by induction on the forms
named : (fs : List Form) (name : Text) (p : Parts) → AllHave fs → HasParts (command_named fs name p)
named [] name p all_have = tt
named (f ∷ fs) name p all_have = found p (bytes_eq f.0 name) f _ (all_have.0 p.positionals p.turns)
    (named fs name p all_have.1)

-- the command of the words, if they can be parted (`p`), has parts
parted : (fs : List Form) (name : Text) (p : Option Parts) → AllHave fs →
    HasParts (option_and_then (command_named fs name) p)
parted fs name None all_have = tt
parted fs name (Some p) all_have = named fs name p all_have

-- each form of the command line gives commands that have parts
all_forms : AllHave forms
all_forms = (
  one_has Show (λ a. tt),
  (
    one_has Compile (λ a. tt),
    (
      two_have Check (λ a b. tt),
      (
        play_has,
        (
          two_have Node (λ a b. tt),
          (
            trial_has,
            (
              three_have Live (λ a b c. tt),
              (hyper_has, (one_has Tune (λ a. tt), (three_have Audit (λ a b c. tt), tt))),
            ),
          ),
        ),
      ),
    ),
  ),
)

-- each command that words say has parts
have : (words : List Text) → HasParts (command_of words)
have [] = tt
have (name ∷ words) = parted forms name (parts_of words) all_forms

-- words that form a command of parts name at least one
pub some_parts : (words : List Text) (pairs : List Pair) → command_of words ≡ Some (Hyper pairs) → 0 < length pairs
some_parts words pairs found = subst HasParts found (have words)
