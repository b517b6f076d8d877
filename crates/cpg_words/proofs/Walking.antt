-- How `clap`'s walk goes over the words of a command.
use Rattle.std.proofs.Common.{◌≡◌, ℕ, Bool, true, false, List, [], ◌∷◌, Option, Some, None, codes, refl, ap, ap₂, fold}
use Rattle.std.specs.Prelude.{slice_get}
use Rattle.std.specs.Str.{bytes_eq, chars}
use Rattle.clap.specs.Lexer.{long_of, short_of}
use Rattle.clap.specs.Kinds.{Kinds, or_else}
use Rattle.clap.specs.Simple.{Shape}
use Rattle.clap.specs.Walk.{Held, Row, Rule, Waiting, Walk, walked, settled, with_values, idle, option, positional}
use Rattle.clap.specs.Faults.{walk_fault, turn_fault, settle_fault, flags_fault}
use Rattle.clap.specs.declared.parser.matches.ValueSource.TheVariants.{CommandLine}
use Rattle.clap.specs.Values.{reading_of}
use Rattle.clap.specs.Simple.{built_leaf, inherited, with_leaf_noted, marked_built}
use Rattle.clap.specs.declared.builder.value_parser.ValueParser.TheVariants as vp
use Rattle.cpg_words.specs.Parts.{Text}
use Rattle.cpg_words.specs.Line.{sub_app, top_app}

-- a command's own level, as built
abbrev pub level : Text → Shape
level name = built_leaf (inherited (with_leaf_noted (marked_built top_app.top)) (sub_app name).top)

-- the rules of a command, as `clap` has them
abbrev pub level_rules : List Rule
level_rules = (level []).rules

-- what was read last and isn't among the rows yet: nothing, a positional, or a value of `--turns`
pub data Last : Type 0 where
  clear : Last
  after_word : Text → Last
  after_turn : Text → Last

-- one more value of an argument, as a row of `clap`'s
abbrev pub add : Text → Text → List Row → List Row
add id v = with_values id (reading_of vp.String) CommandLine (v ∷ [])

-- the rows, with what is pending put in
abbrev pub rows_with : Last → List Row → List Row
rows_with clear rows = rows
rows_with (after_word w) rows = add (codes "words") w rows
rows_with (after_turn v) rows = add (codes "turns") v rows

-- what is pending: the last word or the last number of turns
abbrev pub pending_of : Last → Option (Text × List Text)
pending_of clear = None
pending_of (after_word w) = Some (codes "words", w ∷ [])
pending_of (after_turn v) = Some (codes "turns", v ∷ [])

-- what the walk waits for: more words, or nothing
abbrev pub waiting_of : Last → Waiting
waiting_of clear = idle
waiting_of (after_word w) = positional
waiting_of (after_turn v) = idle

-- what the walk holds between two words
abbrev pub held_of : Last → List Row → Held
held_of last rows = record { rows = rows; pending = pending_of last; skip = 0 }

-- the walk between two words, with what was read last and the rows so far; `trailing` says whether it is after `--`
abbrev pub at : Bool → Last → List Row → Walk
at trailing last rows =
    record { held = held_of last rows; waiting = waiting_of last; position = 1; is_trailing = trailing; stopped = None }

-- the walk right after `--turns`, whose value is the next word
abbrev pub awaiting : List Row → Walk
awaiting rows = record {
  held = record { rows = rows; pending = Some (codes "turns", []); skip = 0 };
  waiting = option (codes "turns");
  position = 1;
  is_trailing = false;
  stopped = None;
}

-- the walk after one word more
abbrev pub step_of : Walk → Text → Walk
step_of w word = walked level_rules [] w word

-- the fault that a word makes
abbrev pub fault_at : Walk → Text → Kinds
fault_at w word = turn_fault (level []) [] w word

-- a parse fails: there is a kind of fault
abbrev pub Fails : Kinds → Type 0
Fails [] = ⊥
Fails (k ∷ ks) = Unit {0}

-- a value that is pending between two words has no fault at the end
pub settles : (last : Last) (rows : List Row) → settle_fault level_rules false (held_of last rows) ≡ []
settles clear rows = refl
settles (after_word w) rows = refl
settles (after_turn v) rows = refl

-- a value that is pending at the end goes to the rows
pub settled_is : (last : Last) (rows : List Row) → (settled level_rules (held_of last rows)).rows ≡ rows_with last rows
settled_is clear rows = refl
settled_is (after_word w) rows = refl
settled_is (after_turn v) rows = refl

-- after `--` no word is a fault
pub trailing_passes : (last : Last) (rows : List Row) (w : Text) → fault_at (at true last rows) w ≡ []
trailing_passes clear rows w = refl
trailing_passes (after_word v) rows w = refl
trailing_passes (after_turn v) rows w = refl

-- after `--` each word is a positional
pub trailing_step : (last : Last) (rows : List Row) (w : Text) →
    step_of (at true last rows) w ≡ at true (after_word w) (rows_with last rows)
unfolding walked
trailing_step clear rows w = refl
trailing_step (after_word v) rows w = refl
trailing_step (after_turn v) rows w = refl

-- a word that is no option is no fault
pub plain_passes : (last : Last) (rows : List Row) (w : Text) → bytes_eq w (codes "--") ≡ false → long_of w ≡ None →
    short_of w ≡ None
    → fault_at (at false last rows) w ≡ []
plain_passes clear rows w is_false w_is s = rw (is_false, w_is, s) refl
plain_passes (after_word v) rows w is_false w_is s = rw (is_false, w_is, s) refl
plain_passes (after_turn v) rows w is_false w_is s = rw (is_false, w_is, s) refl

-- a word that is no option is a positional
pub plain_step : (last : Last) (rows : List Row) (w : Text) → bytes_eq w (codes "--") ≡ false → long_of w ≡ None →
    short_of w ≡ None
    → step_of (at false last rows) w ≡ at false (after_word w) (rows_with last rows)
unfolding walked
plain_step clear rows w is_false w_is s = rw (is_false, w_is, s) refl
plain_step (after_word v) rows w is_false w_is s = rw (is_false, w_is, s) refl
plain_step (after_turn v) rows w is_false w_is s = rw (is_false, w_is, s) refl

-- the word `--` is no fault
pub dashes_passes : (last : Last) (rows : List Row) (w : Text) → bytes_eq w (codes "--") ≡ true →
    fault_at (at false last rows) w ≡ []
dashes_passes clear rows w is_true = rw is_true refl
dashes_passes (after_word v) rows w is_true = rw is_true refl
dashes_passes (after_turn v) rows w is_true = rw is_true refl

-- `--` ends the options
pub dashes_step : (last : Last) (rows : List Row) (w : Text) → bytes_eq w (codes "--") ≡ true →
    step_of (at false last rows) w ≡ at true last rows
unfolding walked
dashes_step clear rows w is_true = rw is_true refl
dashes_step (after_word v) rows w is_true = rw is_true refl
dashes_step (after_turn v) rows w is_true = rw is_true refl

-- `--turns=VALUE` is no fault
pub value_passes : (last : Last) (rows : List Row) (w name v : Text) → bytes_eq w (codes "--") ≡ false →
    long_of w ≡ Some (name, Some v)
    → bytes_eq (codes "turns") name ≡ true → fault_at (at false last rows) w ≡ []
value_passes clear rows w name v is_false is is_true = rw (is_false, is, is_true) refl
value_passes (after_word x) rows w name v is_false is is_true = rw (is_false, is, is_true) refl
value_passes (after_turn x) rows w name v is_false is is_true = rw (is_false, is, is_true) refl

-- the word `--turns=VALUE` adds its value to the rows
pub value_step : (last : Last) (rows : List Row) (w name v : Text) → bytes_eq w (codes "--") ≡ false →
    long_of w ≡ Some (name, Some v)
    → bytes_eq (codes "turns") name ≡ true →
    step_of (at false last rows) w ≡ at false clear (add (codes "turns") v (rows_with last rows))
unfolding walked
value_step clear rows w name v is_false is is_true = rw (is_false, is, is_true) refl
value_step (after_word x) rows w name v is_false is is_true = rw (is_false, is, is_true) refl
value_step (after_turn x) rows w name v is_false is is_true = rw (is_false, is, is_true) refl

-- the word `--turns` is no fault by itself: its value may follow
pub turns_passes : (last : Last) (rows : List Row) (w name : Text) → bytes_eq w (codes "--") ≡ false →
    long_of w ≡ Some (name, None)
    → bytes_eq (codes "turns") name ≡ true → fault_at (at false last rows) w ≡ []
turns_passes clear rows w name is_false is is_true = rw (is_false, is, is_true) refl
turns_passes (after_word x) rows w name is_false is is_true = rw (is_false, is, is_true) refl
turns_passes (after_turn x) rows w name is_false is is_true = rw (is_false, is, is_true) refl

-- `--turns` waits for its value
pub turns_step : (last : Last) (rows : List Row) (w name : Text) → bytes_eq w (codes "--") ≡ false →
    long_of w ≡ Some (name, None)
    → bytes_eq (codes "turns") name ≡ true → step_of (at false last rows) w ≡ awaiting (rows_with last rows)
unfolding walked
turns_step clear rows w name is_false is is_true = rw (is_false, is, is_true) refl
turns_step (after_word x) rows w name is_false is is_true = rw (is_false, is, is_true) refl
turns_step (after_turn x) rows w name is_false is is_true = rw (is_false, is, is_true) refl

-- another option fails
pub strange_fails : (last : Last) (rows : List Row) (w name : Text) (v : Option Text) → bytes_eq w (codes "--") ≡ false
    → long_of w ≡ Some (name, v) → bytes_eq (codes "turns") name ≡ false → Fails (fault_at (at false last rows) w)
strange_fails clear rows w name v w_is_false is n = rw (w_is_false, is, n) tt
strange_fails (after_word x) rows w name v w_is_false is n = rw (w_is_false, is, n) tt
strange_fails (after_turn x) rows w name v w_is_false is n = rw (w_is_false, is, n) tt

-- a short option fails
pub short_fails : (last : Last) (rows : List Row) (w flags : Text) (c : ℕ) → bytes_eq w (codes "--") ≡ false →
    long_of w ≡ None
    → short_of w ≡ Some flags → slice_get (chars flags) 0 ≡ Some c → Fails (fault_at (at false last rows) w)
unfolding flags_fault chars
short_fails last rows w [] c is_false w_is s c_is = cc
short_fails clear rows w (y ∷ ys) c is_false w_is s c_is = rw (is_false, w_is, s, c_is) tt
short_fails (after_word x) rows w (y ∷ ys) c is_false w_is s c_is = rw (is_false, w_is, s, c_is) tt
short_fails (after_turn x) rows w (y ∷ ys) c is_false w_is s c_is = rw (is_false, w_is, s, c_is) tt

-- a value of `--turns` that is no option is no fault
pub turn_passes : (rows : List Row) (w : Text) → bytes_eq w (codes "--") ≡ false → long_of w ≡ None →
    short_of w ≡ None →
    fault_at (awaiting rows) w ≡ []
turn_passes rows w is_false w_is s = rw (is_false, w_is, s) refl

-- the word after `--turns` is its value, if it is no option
pub turn_step : (rows : List Row) (w : Text) → bytes_eq w (codes "--") ≡ false → long_of w ≡ None → short_of w ≡ None
    → step_of (awaiting rows) w ≡ at false (after_turn w) rows
unfolding walked
turn_step rows w is_false w_is s = rw (is_false, w_is, s) refl

-- another `--turns` in place of the value fails
pub awaiting_turns : (rows : List Row) (w name : Text) (v : Option Text) → bytes_eq w (codes "--") ≡ false →
    long_of w ≡ Some (name, v)
    → bytes_eq (codes "turns") name ≡ true → Fails (fault_at (awaiting rows) w)
awaiting_turns rows w name (Some v) is_false is is_true = rw (is_false, is, is_true) tt
awaiting_turns rows w name None is_false is is_true = rw (is_false, is, is_true) tt

-- another option in place of the value of `--turns` fails
pub awaiting_strange : (rows : List Row) (w name : Text) (v : Option Text) → bytes_eq w (codes "--") ≡ false →
    long_of w ≡ Some (name, v)
    → bytes_eq (codes "turns") name ≡ false → Fails (fault_at (awaiting rows) w)
awaiting_strange rows w name v w_is_false is n = rw (w_is_false, is, n) tt

-- a short option in place of the value of `--turns` fails
pub awaiting_short : (rows : List Row) (w flags : Text) (c : ℕ) → bytes_eq w (codes "--") ≡ false → long_of w ≡ None
    → short_of w ≡ Some flags → slice_get (chars flags) 0 ≡ Some c → Fails (fault_at (awaiting rows) w)
unfolding flags_fault chars
awaiting_short rows w [] c is_false w_is s c_is = cc
awaiting_short rows w (y ∷ ys) c is_false w_is s c_is = rw (is_false, w_is, s, c_is) tt

-- ---- the walk over all words

-- the fault of the walk, or else of the value that is pending at its end
abbrev pub fault_from : Walk → List Text → Kinds
fault_from w ws = or_else (walk_fault (level []) [] w ws) (settle_fault level_rules false (fold step_of w ws).held)

-- the rows of the walk at its end
abbrev pub rows_from : Walk → List Text → List Row
rows_from w ws = (settled level_rules (fold step_of w ws).held).rows

-- the faults of words are those of the first, and then of the others
pub fault_steps : (w after : Walk) (x : Text) (xs : List Text) → fault_at w x ≡ [] → step_of w x ≡ after →
    fault_from w (x ∷ xs) ≡ fault_from after xs
unfolding walk_fault
fault_steps w after x xs w_is s = ap₂ (λ (k : Kinds) (v : Walk).
    or_else (or_else k (walk_fault (level []) [] v xs)) (settle_fault level_rules false (fold step_of v xs).held))
    w_is s

-- the rows of words are those after the first, and then the others
pub rows_step : (w after : Walk) (x : Text) (xs : List Text) → step_of w x ≡ after →
    rows_from w (x ∷ xs) ≡ rows_from after xs
rows_step w after x xs is = ap (λ (v : Walk). rows_from v xs) is

-- if the first of two faults is there, a fault is there
pub or_else_fails : (a b : Kinds) → Fails a → Fails (or_else a b)
or_else_fails [] b f = absurd f
or_else_fails (k ∷ ks) b f = tt

-- if the first word fails, all words fail
pub fault_stops : (w : Walk) (x : Text) (xs : List Text) → Fails (fault_at w x) → Fails (fault_from w (x ∷ xs))
unfolding walk_fault
fault_stops w x xs f = or_else_fails _ _ (or_else_fails _ (walk_fault (level []) [] (step_of w x) xs) f)

-- `--` in place of the value of `--turns` fails
pub awaiting_dashes : (rows : List Row) (w : Text) (xs : List Text) → bytes_eq w (codes "--") ≡ true →
    Fails (fault_from (awaiting rows) (w ∷ xs))
unfolding walk_fault walked
awaiting_dashes rows w [] is_true = rw is_true tt
awaiting_dashes rows w (x ∷ xs) is_true = rw is_true tt
