-- `clap` reads the whole command line as the rule does.
use Rattle.std.proofs.Common.{◌≡◌, ◌⊎◌, ◌∙◌, inl, inr, ℕ, Bool, true, false, List, [], ◌∷◌, Option, Some, None, codes}
use Rattle.std.proofs.Common.{refl, sym, ap, ap₂, subst, is_some, map, find, cond}
use Rattle.std.specs.Prelude.{option_and_then, not, ◌&&◌, ◌||◌, fold}
use Rattle.std.specs.Str.{bytes_eq, IsUtf8, chars}
use Rattle.std.proofs.Math.Bool.{or-true}
use Rattle.std.proofs.lemmas.Slice.Eq.{bytes_eq-Decides}
use Rattle.clap.specs.Kinds.{Kinds, or_else}
use Rattle.clap.specs.Walk.{Row, Walk, Names, answers_to, walk, walk_from, walked, nothing_held, finished, has_row}
use Rattle.clap.specs.Walk.{settled, stop_after}
use Rattle.clap.specs.Simple.{App, Shape, built, entered, label_of, names_of}
use Rattle.clap.specs.Faults.{flags_fault, walk_fault, turn_fault, settle_fault, defaults_fault, check_fault}
use Rattle.clap.specs.Faults.{level_fault, built_fault, entered_fault}
use Rattle.clap.proofs.WalkLemmas.{walk_stopped}
use Rattle.clap.proofs.FaultLemmas.{stopped_fault}
use Rattle.cpg_words.specs.Parts.{Text, Parts, parts_from}
use Rattle.cpg_words.specs.Line.{line_app_of}
use Rattle.cpg_words.specs.Number.{number}
use Rattle.cpg_words.specs.declared.command.Command.{Command}
use Rattle.cpg_words.specs.declared.command.Command.TheVariants.{Show, Compile, Check, Node, Live, Tune, Audit}
use Rattle.cpg_words.specs.Forms.{Form, forms, command_named, command_in, one_word, two_words, three_words, play_of}
use Rattle.cpg_words.specs.Forms.{trial_of, hyper_of}
use Rattle.cpg_words.proofs.Looks.{Look, plain, dashes, turns, strange, short, look}
use Rattle.cpg_words.proofs.Splitting.{AllTexts, reads, is_refused}
use Rattle.cpg_words.specs.Matches.{values_in}
use Rattle.cpg_words.proofs.Walking

-- the names of the forms
abbrev pub form_names : List Form → List Text
form_names fs = map (λ f. f.0) fs

-- the command line, built
abbrev pub built_top : Shape
built_top = (built (line_app_of [])).top

-- the program as `clap` has it: a level for each form
abbrev pub line : List Form → App
line fs = record { top = record built_top { is_leaf = false }; subs = map Walking.level (form_names fs) }

-- the command line, built by `clap`, is the line of all forms
pub line_is : built (line_app_of (form_names forms)) ≡ line forms
line_is = refl

-- ---- a command's own level

-- the name of a level makes no difference to what is a fault
same_walk_fault : (n : Text) (w : Walk) (ws : List Text) →
    walk_fault (Walking.level n) [] w ws ≡ walk_fault (Walking.level []) [] w ws
unfolding walk_fault
same_walk_fault n w [] = refl
same_walk_fault n w (x ∷ xs) = ap (or_else (Walking.fault_at w x)) (same_walk_fault n (Walking.step_of w x) xs)

-- defaults are no fault
no_default_fault : (rows : List Row) → defaults_fault rows Walking.level_rules ≡ []
unfolding defaults_fault
no_default_fault rows = simp or-true refl

-- no fault adds nothing to a fault
or_else_none : (a : Kinds) → or_else a [] ≡ a
or_else_none [] = refl
or_else_none (k ∷ ks) = refl

-- each command's level has the faults of the walk over its words
level_fault_is : (n : Text) (ws : List Text) →
    level_fault (Walking.level n) [] nothing_held ws false []
    ≡ Walking.fault_from (Walking.at false Walking.clear []) ws
-- the walk's fault doesn't depend on the level's name, and defaults and what comes after add none
level_fault_is n ws =
    let end = (fold Walking.step_of (Walking.at false Walking.clear []) ws).held in
    let at_end = settle_fault Walking.level_rules false end in
    let defaults = defaults_fault (settled Walking.level_rules end).rows Walking.level_rules in
    let walk_here = walk_fault (Walking.level []) [] (Walking.at false Walking.clear []) ws in
    ap (λ (k : Kinds). or_else k (or_else at_end (or_else defaults [])))
    (same_walk_fault n (Walking.at false Walking.clear []) ws)
    ∙ ap (λ (k : Kinds). or_else walk_here (or_else at_end (or_else k [])))
    (no_default_fault (settled Walking.level_rules end).rows)
    ∙ ap (or_else walk_here) (or_else_none at_end)

-- whether an argument has a row or not, no default adds one
no_default : (id : Text) (rows : List Row) (b : Bool) → has_row id rows ≡ b → cond (has_row id rows) rows rows ≡ rows
no_default id rows true is = rw is refl
no_default id rows false is = rw is refl

-- each command's level has the rows of the walk over its words
finished_is : (ws : List Text) →
    finished Walking.level_rules (walk Walking.level_rules [] nothing_held ws).held
    ≡ Walking.rows_from (Walking.at false Walking.clear []) ws
finished_is ws =
    let rows = Walking.rows_from (Walking.at false Walking.clear []) ws in
    let first = cond (has_row (codes "words") rows) rows rows in
    no_default (codes "turns") first _ refl ∙ no_default (codes "words") rows _ refl

-- ---- the command's name

-- the names that `clap` knows
abbrev pub names_in : List Form → Names
names_in fs = names_of (line fs)

-- the level that a word names
abbrev pub level_at : List Form → Text → Option Shape
level_at fs w = find (λ s. answers_to w (label_of s)) (map Walking.level (form_names fs))

-- the line has a command of this name
pub record Named (fs : List Form) (w : Text) : Type 0 where
  -- the form of the command
  pub form : Form
  -- a search of the forms finds it by the name
  pub in_forms : find (λ f. bytes_eq f.0 w) fs ≡ Some form
  -- the name is one of those that `clap` knows
  pub in_names : find (answers_to w) (names_in fs) ≡ Some (w, [])
  -- the name is that of a level of the line
  pub in_line : level_at fs w ≡ Some (Walking.level w)

-- a word names neither a form nor a level
pub record Unnamed (fs : List Form) (w : Text) : Type 0 where
  -- a search of the forms finds none by the word
  pub in_forms : find (λ f. bytes_eq f.0 w) fs ≡ None
  -- the word is none of the names that `clap` knows
  pub in_names : find (answers_to w) (names_in fs) ≡ None

-- if a word names a form among fs and its level, or neither, so it does with a form f in front
name_here : (f : Form) (fs : List Form) (w : Text) (b : Bool) → bytes_eq f.0 w ≡ b → Named fs w ⊎ Unnamed fs w →
    Named (f ∷ fs) w ⊎ Unnamed (f ∷ fs) w
name_here f fs w true is rest =
    let same : f.0 ≡ w = (bytes_eq-Decides f.0 w).0 is in
    inl (record {
      form = f;
      in_forms = rw is refl;
      in_names = rw is (ap (λ (n : Text). Some (n, [])) same);
      in_line = rw
          is (ap (λ (n : Text). Some (Walking.level n)) same);
    })
name_here f fs w false is (inl h) =
    inl (record { form = h.form; in_forms = rw is h.in_forms; in_names = rw is h.in_names; in_line = rw is h.in_line })
name_here f fs w false is (inr h) = inr (record { in_forms = rw is h.in_forms; in_names = rw is h.in_names })

-- each word is the name of a command in the rule and for `clap` alike, or in neither
pub named : (fs : List Form) (w : Text) → Named fs w ⊎ Unnamed fs w
named [] w = inr (record { in_forms = refl; in_names = refl })
named (f ∷ fs) w = name_here f fs w (bytes_eq f.0 w) refl (named fs w)

-- ---- the first word

-- `b and false` is false
and_false : (b : Bool) → (b && false) ≡ false
and_false true = refl
and_false false = refl

-- the walk before the first word
abbrev start : Walk
start = walk_from nothing_held

-- the walk that has come to the name of a level, with the words behind it
abbrev entering : Text → List Text → Walk
entering w ws = record start { stopped = Some (w, ws) }

-- a first word that names a command ends the walk over the top
first_walked : (fs : List Form) (w : Text) → find (answers_to w) (names_in fs) ≡ Some (w, []) →
    walked [] (names_in fs) start w ≡ entering w []
unfolding walked
first_walked fs w is = rw is refl

-- a first word that names a command is no fault
first_fault : (fs : List Form) (w : Text) → find (answers_to w) (names_in fs) ≡ Some (w, []) →
    turn_fault (line fs).top (names_in fs) start w ≡ []
first_fault fs w is = rw (is, and_false (bytes_eq w (codes "help"))) refl

-- after a command's name the walk over the top stops, and leaves the other words
entered_walk : (fs : List Form) (w : Text) (ws : List Text) → find (answers_to w) (names_in fs) ≡ Some (w, [])
    → walk [] (names_in fs) nothing_held (w ∷ ws) ≡ entering w ws
entered_walk fs w ws is = ap (λ (v : Walk). fold (walked [] (names_in fs)) v ws) (first_walked fs w is)
    ∙ sym (walk_stopped [] (names_in fs) start w [] ws)

-- a command's name and the words after it are no fault of the top
entered_fault_is : (fs : List Form) (w : Text) (ws : List Text) → find (answers_to w) (names_in fs) ≡ Some (w, [])
    → walk_fault (line fs).top (names_in fs) start (w ∷ ws) ≡ []
unfolding walk_fault
entered_fault_is fs w ws is = ap₂ (λ (k : Kinds) (v : Walk). or_else k (walk_fault (line fs).top (names_in fs) v ws))
    (first_fault fs w is) (first_walked fs w is)
    ∙ stopped_fault (line fs).top (names_in fs) start (w, []) ws

-- the faults at the end of the line, after those before
abbrev line_end : List Form → Walk → Kinds → Kinds
line_end fs end before =
    or_else before (or_else (entered_fault (line fs) end.stopped) (or_else (settle_fault [] false end.held)
    (or_else (defaults_fault (settled [] end.held).rows [])
    (check_fault (line fs).top (finished [] end.held) (is_some (entered (line fs) end.stopped))))))

-- after a command's name, `clap` has the faults of the words after it
named_fault : (fs : List Form) (w : Text) (ws : List Text) → find (answers_to w) (names_in fs) ≡ Some (w, []) →
    level_at fs w ≡ Some (Walking.level w)
    → built_fault (line fs) nothing_held (w ∷ ws) ≡ Walking.fault_from (Walking.at false Walking.clear []) ws
unfolding defaults_fault
named_fault fs w ws w_is l =
    ap₂ (line_end fs) (entered_walk fs w ws w_is) (entered_fault_is fs w ws w_is)
    ∙ rw l (or_else_none (level_fault (Walking.level w) [] nothing_held ws false []))
    ∙ level_fault_is w ws

-- after a command's name, `clap` has the rows of the words after it
named_rows : (fs : List Form) (w : Text) (ws : List Text) → find (answers_to w) (names_in fs) ≡ Some (w, []) →
    level_at fs w ≡ Some (Walking.level w)
    → entered (line fs) (stop_after [] (names_in fs) (w ∷ ws))
    ≡ Some (w, Walking.rows_from (Walking.at false Walking.clear []) ws)
named_rows fs w ws w_is l =
    ap (λ (v : Walk). entered (line fs) v.stopped) (entered_walk fs w ws w_is)
    ∙ rw l (ap (λ (rows : List Row). Some (w, rows)) (finished_is ws))

-- ---- a first word that names no command

-- a first word that is no command's name fails, if it isn't `--`
unnamed_turn : (fs : List Form) (w : Text) → find (answers_to w) (names_in fs) ≡ None → Look w
    → Walking.Fails (turn_fault (line fs).top (names_in fs) start w) ⊎ (bytes_eq w (codes "--") ≡ true)
unfolding flags_fault chars
unnamed_turn fs w is (plain o d l s) = inl (rw (is, d, l, s) tt)
unnamed_turn fs w is (dashes o d) = inr d
unnamed_turn fs w is (turns name v o d t i l e) = inl (rw (is, d, l) tt)
unnamed_turn fs w is (strange name v o d t l e) = inl (rw (is, d, l) tt)
unnamed_turn fs w is (short [] c o d t l s f) = cc
unnamed_turn fs w is (short (y ∷ ys) c o d t l s f) = inl (rw (is, d, l, s, f) tt)

-- `--` as the first word fails
unnamed_dashes : (fs : List Form) (w : Text) (ws : List Text) → find (answers_to w) (names_in fs) ≡ None →
    bytes_eq w (codes "--") ≡ true
    → Walking.Fails (built_fault (line fs) nothing_held (w ∷ ws))
unfolding walk_fault walked defaults_fault
unnamed_dashes fs w [] is is_true = rw (is, is_true) tt
unnamed_dashes fs w (x ∷ xs) is is_true = rw (is, is_true) tt

-- a first word that is no command's name fails
unnamed_fails : (fs : List Form) (w : Text) (ws : List Text) → IsUtf8 w → find (answers_to w) (names_in fs) ≡ None
    → Walking.Fails (built_fault (line fs) nothing_held (w ∷ ws))
unfolding walk_fault
unnamed_fails fs w ws text is = elim (unnamed_turn fs w is (look w text)) [
  | inl f ↦ Walking.or_else_fails _ _ (Walking.or_else_fails _ _ f)
  | inr d ↦ unnamed_dashes fs w ws is d
]

-- ---- the command line

-- each form refuses a value of `--turns` that is no number
abbrev pub EachRefuses : List Form → Type 0
EachRefuses [] = Unit {0}
EachRefuses (f ∷ fs) =
    ((ps ts : List Text) → is_refused (Some (record { positionals = ps; turns = ts })) ≡ true → f.1 ps ts ≡ None) ×
    EachRefuses fs

-- if the first form refuses the parts and the others do, all do
form_refuses : (f : Form) (fs : List Form) (w : Text) (p : Parts) (b : Bool) → bytes_eq f.0 w ≡ b →
    (f.1 p.positionals p.turns ≡ None) →
    command_named fs w p ≡ None
    → command_named (f ∷ fs) w p ≡ None
form_refuses f fs w p true w_is h rest = rw w_is h
form_refuses f fs w p false w_is h rest = rw w_is rest

-- if each form refuses the values of `--turns` that are no numbers, the command of every word does
each_refuses : (fs : List Form) → EachRefuses fs → (w : Text) (p : Parts) → is_refused (Some p) ≡ true →
    command_named fs w p ≡ None
each_refuses [] each w p is_true = refl
each_refuses (f ∷ fs) each w p is_true =
    form_refuses f fs w p (bytes_eq f.0 w) refl (each.0 p.positionals p.turns is_true)
    (each_refuses fs each.1 w p is_true)

-- parts that are refused make no command
refused_parts : (fs : List Form) → EachRefuses fs → (w : Text) (o : Option Parts) → is_refused o ≡ true →
    option_and_then (command_named fs w) o ≡ None
refused_parts fs each w None is_true = refl
refused_parts fs each w (Some p) is_true = each_refuses fs each w p is_true

-- a name that no form has makes no command
no_form : (fs : List Form) (w : Text) (o : Option Parts) → find (λ f. bytes_eq f.0 w) fs ≡ None →
    option_and_then (command_named fs w) o ≡ None
no_form fs w None is = refl
no_form fs w (Some p) is = rw is refl

-- `clap` and the rule both accept the words: the name of a form, and words that it takes
pub record Accepted (fs : List Form) (words : List Text) : Type 0 where
  -- the name of the command
  pub name : Text
  -- the words behind it
  pub rest : List Text
  -- the first word is the command's name
  pub words_are : words ≡ name ∷ rest
  -- what `clap` enters for the rest
  pub rows : List Row
  -- `clap` has no fault
  pub no_fault : built_fault (line fs) nothing_held words ≡ []
  -- it enters the level of this name with these rows
  pub entered_is : entered (line fs) (stop_after [] (names_in fs) words) ≡ Some (name, rows)
  -- the command is the one of this name, by the positionals and the values of `--turns` in these rows
  pub call : command_in fs words ≡ command_named fs name
      (record { positionals = values_in (codes "words") rows; turns = values_in (codes "turns") rows })

-- `clap` and the rule both refuse the words
pub record Rejected (fs : List Form) (words : List Text) : Type 0 where
  -- `clap` has a fault
  pub fails : Walking.Fails (built_fault (line fs) nothing_held words)
  -- by the rule the words form no command
  pub refused : command_in fs words ≡ None

-- words that begin with a command's name are accepted by both, or refused by both
with_name : (fs : List Form) → EachRefuses fs → (w : Text) (ws : List Text) → Named fs w → AllTexts ws →
    Accepted fs (w ∷ ws) ⊎ Rejected fs (w ∷ ws)
-- by `reads` both take the words behind the name, or both refuse them
with_name fs each w ws n text = elim ((reads ws text).0 Walking.clear []) [
  | inl t ↦ inl (record {
    name = w;
    rest = ws;
    words_are = refl;
    rows = Walking.rows_from (Walking.at false Walking.clear []) ws;
    no_fault = named_fault fs w ws n.in_names n.in_line ∙ t.no_fault;
    entered_is = named_rows fs w ws n.in_names n.in_line;
    call = ap (option_and_then (command_named fs w)) t.parts_are
        ∙ ap₂ (λ (ps ts : List Text). command_named fs w (record { positionals = ps; turns = ts }))
        (sym t.words) (sym t.turns);
  })
  | inr r ↦ inr (record {
    fails = subst Walking.Fails (sym (named_fault fs w ws n.in_names n.in_line)) r.fails;
    refused = refused_parts fs each w (parts_from false ws) r.refused;
  })
]

-- each list of words is accepted by `clap` and the rule alike, with the same command, or refused by both
pub line_reads : (fs : List Form) → EachRefuses fs → (words : List Text) → AllTexts words →
    Accepted fs words ⊎ Rejected fs words
unfolding walk_fault defaults_fault
line_reads fs each [] text = inr (record { fails = tt; refused = refl })
line_reads fs each (w ∷ ws) text = elim (named fs w) [
  | inl n ↦ with_name fs each w ws n text.1
  | inr u ↦ inr (record { fails = unnamed_fails fs w ws text.0 u.in_names; refused = no_form fs w (parts_from false ws) u.in_forms })
]

-- ---- the forms

-- an option that is tested to have no number is None
not_number : (o : Option ℕ) → (not (is_some o) || false) ≡ true → o ≡ None
not_number None is_true = refl
not_number (Some n) is_true = cc

-- a form of one word refuses any parts with a value of `--turns` that is no number
one_word_refuses : (f : Text → Command) (ps ts : List Text) →
    is_refused (Some (record { positionals = ps; turns = ts })) ≡ true →
    one_word f ps ts ≡ None
one_word_refuses f ps [] is_true = cc
one_word_refuses f [] (t ∷ ts) is_true = refl
one_word_refuses f (a ∷ []) (t ∷ ts) is_true = refl
one_word_refuses f (a ∷ b ∷ ps) (t ∷ ts) is_true = refl

-- a form of two words refuses any parts with a value of `--turns` that is no number
two_words_refuses : (f : Text → Text → Command) (ps ts : List Text) →
    is_refused (Some (record { positionals = ps; turns = ts })) ≡ true →
    two_words f ps ts ≡ None
two_words_refuses f ps [] is_true = cc
two_words_refuses f [] (t ∷ ts) is_true = refl
two_words_refuses f (a ∷ []) (t ∷ ts) is_true = refl
two_words_refuses f (a ∷ b ∷ []) (t ∷ ts) is_true = refl
two_words_refuses f (a ∷ b ∷ c ∷ ps) (t ∷ ts) is_true = refl

-- a form of three words refuses any parts with a value of `--turns` that is no number; by how many words and values
-- there are
three_words_refuses : (f : Text → Text → Text → Command) (ps ts : List Text) →
    is_refused (Some (record { positionals = ps; turns = ts })) ≡ true →
    three_words f ps ts ≡ None
three_words_refuses f ps [] is_true = cc
three_words_refuses f [] (t ∷ ts) is_true = refl
three_words_refuses f (a ∷ []) (t ∷ ts) is_true = refl
three_words_refuses f (a ∷ b ∷ []) (t ∷ ts) is_true = refl
three_words_refuses f (a ∷ b ∷ c ∷ []) (t ∷ ts) is_true = refl
three_words_refuses f (a ∷ b ∷ c ∷ d ∷ ps) (t ∷ ts) is_true = refl

-- `play` refuses any parts with a value of `--turns` that is no number; by how many words and values there are
play_refuses : (ps ts : List Text) → is_refused (Some (record { positionals = ps; turns = ts })) ≡ true →
    play_of ps ts ≡ None
play_refuses [] ts is_true = refl
play_refuses (a ∷ []) ts is_true = refl
play_refuses (a ∷ b ∷ []) ts is_true = refl
play_refuses (a ∷ b ∷ c ∷ d ∷ ps) ts is_true = refl
play_refuses (a ∷ b ∷ c ∷ []) [] is_true = refl
play_refuses (a ∷ b ∷ c ∷ []) (t ∷ u ∷ ts) is_true = refl
play_refuses (a ∷ b ∷ c ∷ []) (t ∷ []) is_true = rw (not_number (number t) is_true) refl

-- `trial` refuses any parts with a value of `--turns` that is no number
trial_refuses : (ps ts : List Text) → is_refused (Some (record { positionals = ps; turns = ts })) ≡ true →
    trial_of ps ts ≡ None
trial_refuses ps [] is_true = cc
trial_refuses [] (t ∷ ts) is_true = refl
trial_refuses (a ∷ []) (t ∷ ts) is_true = refl
trial_refuses (a ∷ b ∷ ps) (t ∷ ts) is_true = refl

-- `hyper` refuses any parts with a value of `--turns` that is no number
hyper_refuses : (ps ts : List Text) → is_refused (Some (record { positionals = ps; turns = ts })) ≡ true →
    hyper_of ps ts ≡ None
hyper_refuses ps [] is_true = cc
hyper_refuses ps (t ∷ ts) is_true = refl

-- Each form of the command line refuses a value of `--turns` that is no number: one proof for each form, in the order of the
-- list.
pub forms_refuse : EachRefuses forms
forms_refuse = (
  one_word_refuses Show,
  (
    one_word_refuses Compile,
    (
      two_words_refuses Check,
      (
        play_refuses,
        (
          two_words_refuses Node,
          (
            trial_refuses,
            (three_words_refuses Live, (hyper_refuses, (one_word_refuses Tune, (three_words_refuses Audit, tt)))),
          ),
        ),
      ),
    ),
  ),
)

-- ---- a name that is none of theirs

-- a word names none of the forms
abbrev pub NotAmong : List Form → Text → Type 0
NotAmong [] w = Unit {0}
NotAmong (f ∷ fs) w = (w ≡ f.0 → ⊥) × NotAmong fs w

-- a form of another name leaves the search to the others
other_name : (f : Form) (fs : List Form) (w : Text) (p : Parts) (b : Bool) → bytes_eq f.0 w ≡ b → (w ≡ f.0 → ⊥) →
    command_named fs w p ≡ None →
    command_named (f ∷ fs) w p ≡ None
other_name f fs w p true is off rest = absurd (off (sym ((bytes_eq-Decides f.0 w).0 is)))
other_name f fs w p false is off rest = rw is rest

-- a name that is none of the forms' is no command
pub no_such_form : (fs : List Form) (w : Text) (p : Parts) → NotAmong fs w → command_named fs w p ≡ None
no_such_form [] w p off = refl
no_such_form (f ∷ fs) w p off = other_name f fs w p (bytes_eq f.0 w) refl off.0 (no_such_form fs w p off.1)
