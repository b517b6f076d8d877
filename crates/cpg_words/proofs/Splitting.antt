-- `clap` reads the words of a command as the rule does.
use Rattle.std.proofs.Common.{◌≡◌, ◌⊎◌, ◌∙◌, inl, inr, Bool, true, false, List, [], ◌∷◌, ◌++◌, Option, Some, None}
use Rattle.std.proofs.Common.{codes, refl, sym, ap, subst, append_assoc, append-nil, is_some}
use Rattle.std.specs.Prelude.{not}
use Rattle.std.specs.List.{list_any}
use Rattle.std.specs.Str.{IsUtf8}
use Rattle.std.proofs.Math.Bool.{or-true}
use Rattle.clap.specs.Kinds.{Kinds}
use Rattle.clap.specs.Walk.{Row}
use Rattle.clap.specs.Faults.{walk_fault}
use Rattle.cpg_words.specs.Number.{number}
use Rattle.cpg_words.specs.Parts.{Text, Parts, parts_from, with_positional, with_turns}
use Rattle.cpg_words.proofs.Looks.{Look, plain, dashes, turns, strange, short, look, option_number}
use Rattle.cpg_words.specs.Matches.{values_in}
use Rattle.cpg_words.proofs.Rows.{add_same, add_other}
use Rattle.cpg_words.proofs.Walking

-- the text of each word is UTF-8
abbrev pub AllTexts : List Text → Type 0
AllTexts [] = Unit {0}
AllTexts (w ∷ ws) = IsUtf8 w × AllTexts ws

-- whether the rule refuses words with these parts at each command: there are no parts, or a value of `--turns` is no number
abbrev pub is_refused : Option Parts → Bool
is_refused None = true
is_refused (Some p) = list_any (λ v. not (is_some (number v))) p.turns

-- parts that are refused stay refused with a positional w in front
refused_positional : (w : Text) (o : Option Parts) → is_refused o ≡ true → is_refused (with_positional w o) ≡ true
refused_positional w None is_true = refl
refused_positional w (Some p) is_true = is_true

-- parts that are refused are refused with one value of `--turns` more
refused_turns : (v : Text) (o : Option Parts) → is_refused o ≡ true → is_refused (with_turns v o) ≡ true
refused_turns v None is_true = refl
refused_turns v (Some p) is_true = rw is_true (or-true (not (is_some (number v))))

-- parts with a value v of `--turns` that is no number are refused
refused_value : (v : Text) (o : Option Parts) → number v ≡ None → is_refused (with_turns v o) ≡ true
refused_value v None is = refl
refused_value v (Some p) is = rw is refl

-- `clap`, from the rows at the start on, and the rule both take the words, and find the same parts
pub record Taken (fault : Kinds) (rows start : List Row) (parts : Option Parts) : Type 0 where
  -- the parts that the rule found
  pub found : Parts
  -- the rule takes the words, and these are their parts
  pub parts_are : parts ≡ Some found
  -- `clap` has no fault
  pub no_fault : fault ≡ []
  -- its rows have the positionals of the parts, behind those of the rows at the start
  pub words : values_in (codes "words") rows ≡ values_in (codes "words") start ++ found.positionals
  -- its rows have the values of `--turns` of the parts, behind those of the rows at the start
  pub turns : values_in (codes "turns") rows ≡ values_in (codes "turns") start ++ found.turns

-- `clap` and the rule both refuse the words
pub record Refused (fault : Kinds) (parts : Option Parts) : Type 0 where
  -- `clap` has a fault
  pub fails : Walking.Fails fault
  -- each command refuses the parts
  pub refused : is_refused parts ≡ true

-- `clap` takes the words as the rule does, or both refuse them
abbrev pub Verdict : Kinds → List Row → List Row → Option Parts → Type 0
Verdict fault rows start parts = Taken fault rows start parts ⊎ Refused fault parts

-- equal faults fail alike
fails_as : (a b : Kinds) → a ≡ b → Walking.Fails b → Walking.Fails a
fails_as a b same f = subst Walking.Fails (sym same) f

-- ---- after `--`

-- after `--` no word fails
trail_fault : (ws : List Text) (last : Walking.Last) (rows : List Row) →
    Walking.fault_from (Walking.at true last rows) ws ≡ []
unfolding walk_fault
-- by induction on the words
trail_fault [] last rows = Walking.settles last rows
trail_fault (w ∷ ws) last rows =
    Walking.fault_steps _ _ w ws (Walking.trailing_passes last rows w) (Walking.trailing_step last rows w)
    ∙ trail_fault ws (Walking.after_word w) (Walking.rows_with last rows)

-- after `--` all words are positionals
trail_words : (ws : List Text) (last : Walking.Last) (rows : List Row)
    → values_in (codes "words") (Walking.rows_from (Walking.at true last rows) ws)
    ≡ values_in (codes "words") (Walking.rows_with last rows) ++ ws
-- by induction on the words
trail_words [] last rows = ap (values_in (codes "words")) (Walking.settled_is last rows) ∙ sym (append-nil _)
trail_words (w ∷ ws) last rows =
    let start = Walking.rows_with last rows in
    ap (values_in (codes "words")) (Walking.rows_step _ _ w ws (Walking.trailing_step last rows w))
    ∙ trail_words ws (Walking.after_word w) start
    ∙ ap (λ (xs : List Text). xs ++ ws) (add_same (codes "words") w start refl)
    ∙ append_assoc (values_in (codes "words") start) (w ∷ []) ws

-- after `--` no value of `--turns` is added
trail_turns : (ws : List Text) (last : Walking.Last) (rows : List Row)
    → values_in (codes "turns") (Walking.rows_from (Walking.at true last rows) ws)
    ≡ values_in (codes "turns") (Walking.rows_with last rows)
-- by induction on the words
trail_turns [] last rows = ap (values_in (codes "turns")) (Walking.settled_is last rows)
trail_turns (w ∷ ws) last rows =
    let start = Walking.rows_with last rows in
    ap (values_in (codes "turns")) (Walking.rows_step _ _ w ws (Walking.trailing_step last rows w))
    ∙ trail_turns ws (Walking.after_word w) start ∙ add_other (codes "words") (codes "turns") w start refl

-- ---- one more word

-- a positional before the words adds it for `clap` and for the rule alike
with_word : (w : Text) (fault now : Kinds) (rows rows_now start : List Row) (parts parts_now : Option Parts)
    → now ≡ fault → rows_now ≡ rows → parts_now ≡ with_positional w parts
    → Verdict fault rows (Walking.add (codes "words") w start) parts → Verdict now rows_now start parts_now
-- if both take the others, the word comes first among the positionals of both; if both refuse the others, they refuse all
with_word w fault now rows rows_now start parts parts_now f r p (inl t) = inl (record {
  found = record { positionals = w ∷ t.found.positionals; turns = t.found.turns };
  parts_are = p ∙ ap (with_positional w) t.parts_are;
  no_fault = f ∙ t.no_fault;
  words = ap (values_in (codes "words")) r ∙ t.words
      ∙ ap (λ (xs : List Text). xs ++ t.found.positionals) (add_same (codes "words") w start refl)
      ∙ append_assoc (values_in (codes "words") start) (w ∷ []) t.found.positionals;
  turns = ap (values_in (codes "turns")) r ∙ t.turns
      ∙ ap (λ (xs : List Text). xs ++ t.found.turns) (add_other (codes "words") (codes "turns") w start refl);
})
with_word w fault now rows rows_now start parts parts_now f r p (inr t) = inr (record {
  fails = fails_as now fault f t.fails;
  refused = ap is_refused p ∙ refused_positional w parts t.refused;
})

-- a value of `--turns` before the words adds it for `clap` and for the rule alike
with_turn : (v : Text) (fault now : Kinds) (rows rows_now start : List Row) (parts parts_now : Option Parts)
    → now ≡ fault → rows_now ≡ rows → parts_now ≡ with_turns v parts
    → Verdict fault rows (Walking.add (codes "turns") v start) parts → Verdict now rows_now start parts_now
-- if both take the others, the value comes first among the values of both; if both refuse the others, they refuse all
with_turn v fault now rows rows_now start parts parts_now f r p (inl t) = inl (record {
  found = record { positionals = t.found.positionals; turns = v ∷ t.found.turns };
  parts_are = p ∙ ap (with_turns v) t.parts_are;
  no_fault = f ∙ t.no_fault;
  words = ap (values_in (codes "words")) r ∙ t.words
      ∙ ap (λ (xs : List Text). xs ++ t.found.positionals) (add_other (codes "turns") (codes "words") v start refl);
  turns = ap (values_in (codes "turns")) r ∙ t.turns
      ∙ ap (λ (xs : List Text). xs ++ t.found.turns) (add_same (codes "turns") v start refl)
      ∙ append_assoc (values_in (codes "turns") start) (v ∷ []) t.found.turns;
})
with_turn v fault now rows rows_now start parts parts_now f r p (inr t) = inr (record {
  fails = fails_as now fault f t.fails;
  refused = ap is_refused p ∙ refused_turns v parts t.refused;
})

-- equal faults, rows and parts have the same verdict
same_verdict : (fault now : Kinds) (rows rows_now start : List Row) (parts parts_now : Option Parts)
    → now ≡ fault → rows_now ≡ rows → parts_now ≡ parts → Verdict fault rows start parts →
    Verdict now rows_now start parts_now
same_verdict fault now rows rows_now start parts parts_now f r p (inl t) = inl (record {
  found = t.found;
  parts_are = p ∙ t.parts_are;
  no_fault = f ∙ t.no_fault;
  words = ap (values_in (codes "words")) r ∙ t.words;
  turns = ap (values_in (codes "turns")) r ∙ t.turns;
})
same_verdict fault now rows rows_now start parts parts_now f r p (inr t) =
    inr (record { fails = fails_as now fault f t.fails; refused = ap is_refused p ∙ t.refused })

-- ---- all words

-- whatever was read last, `clap` and the rule agree on the words that are left
abbrev Reads : List Text → Type 0
Reads ws = (last : Walking.Last) (rows : List Row) → Verdict (Walking.fault_from (Walking.at false last rows) ws)
    (Walking.rows_from (Walking.at false last rows) ws) (Walking.rows_with last rows) (parts_from false ws)

-- if a value is awaited first, `clap` and the rule agree on the words that are left
abbrev ReadsValue : List Text → Type 0
ReadsValue ws = (rows : List Row) → Verdict (Walking.fault_from (Walking.awaiting rows) ws)
    (Walking.rows_from (Walking.awaiting rows) ws) rows (parts_from true ws)

-- with no word left both sides end, with what they have read so far
read_none : Reads []
unfolding walk_fault
read_none last rows = inl (record {
  found = record { positionals = []; turns = [] };
  parts_are = refl;
  no_fault = Walking.settles last rows;
  words = ap (values_in (codes "words")) (Walking.settled_is last rows) ∙ sym (append-nil _);
  turns = ap (values_in (codes "turns")) (Walking.settled_is last rows) ∙ sym (append-nil _);
})

-- if no word is left where a value is awaited, both refuse
read_no_value : ReadsValue []
unfolding walk_fault
read_no_value rows = inr (record { fails = tt; refused = refl })

-- a word and the words behind it are read as the rule says; by how the word looks
read_word : (w : Text) (ws : List Text) → Look w → Reads ws → ReadsValue ws → Reads (w ∷ ws)
-- A plain word is a positional. After `--` all are. `--turns=V` is a value, and `--turns` awaits one. Any other option is
-- refused by both.
read_word w ws (plain o d l s) more value last rows =
    with_word w _ _ _ _ (Walking.rows_with last rows) (parts_from false ws) _
    (Walking.fault_steps _ _ w ws (Walking.plain_passes last rows w d l s) (Walking.plain_step last rows w d l s))
    (Walking.rows_step _ _ w ws (Walking.plain_step last rows w d l s))
    (rw (d, o) refl) (more (Walking.after_word w) (Walking.rows_with last rows))
read_word w ws (dashes o d) more value last rows = inl (record {
  found = record { positionals = ws; turns = [] };
  parts_are = rw d refl;
  no_fault = Walking.fault_steps _ _ w ws (Walking.dashes_passes last rows w d) (Walking.dashes_step last rows w d)
      ∙ trail_fault ws last rows;
  words = ap (values_in (codes "words")) (Walking.rows_step _ _ w ws (Walking.dashes_step last rows w d))
      ∙ trail_words ws last rows;
  turns = ap (values_in (codes "turns")) (Walking.rows_step _ _ w ws (Walking.dashes_step last rows w d))
      ∙ trail_turns ws last rows ∙ sym (append-nil _);
})
read_word w ws (turns name (Some v) o d t i l n) more value last rows =
    with_turn v _ _ _ _ (Walking.rows_with last rows) (parts_from false ws) _
    (Walking.fault_steps _ _ w ws (Walking.value_passes last rows w name v d l n)
    (Walking.value_step last rows w name v d l n))
    (Walking.rows_step _ _ w ws (Walking.value_step last rows w name v d l n))
    (rw (d, o, t, i) refl) (more Walking.clear (Walking.add (codes "turns") v (Walking.rows_with last rows)))
read_word w ws (turns name None o d t i l n) more value last rows =
    same_verdict _ _ _ _ (Walking.rows_with last rows) (parts_from true ws) _
    (Walking.fault_steps _ _ w ws (Walking.turns_passes last rows w name d l n)
    (Walking.turns_step last rows w name d l n))
    (Walking.rows_step _ _ w ws (Walking.turns_step last rows w name d l n))
    (rw (d, o, t, i) refl) (value (Walking.rows_with last rows))
read_word w ws (strange name v o d t l n) more value last rows = inr (record {
  fails = Walking.fault_stops _ w ws (Walking.strange_fails last rows w name v d l n);
  refused = rw (d, o, t) refl;
})
read_word w ws (short flags c o d t l s f) more value last rows = inr (record {
  fails = Walking.fault_stops _ w ws (Walking.short_fails last rows w flags c d l s f);
  refused = rw (d, o, t) refl;
})

-- a word where the value of `--turns` is awaited, and the words behind it, are read as the rule says; by how the word
-- looks
read_value : (w : Text) (ws : List Text) → Look w → Reads ws → ReadsValue (w ∷ ws)
-- a plain word is the value; any option is refused by `clap`, and by the rule since it is no number
read_value w ws (plain o d l s) more rows = with_turn w _ _ _ _ rows (parts_from false ws) _
    (Walking.fault_steps _ _ w ws (Walking.turn_passes rows w d l s) (Walking.turn_step rows w d l s))
    (Walking.rows_step _ _ w ws (Walking.turn_step rows w d l s))
    refl (more (Walking.after_turn w) rows)
read_value w ws (dashes o d) more rows = inr (record {
  fails = Walking.awaiting_dashes rows w ws d;
  refused = refused_value w (parts_from false ws) (option_number w o);
})
read_value w ws (turns name v o d t i l n) more rows = inr (record {
  fails = Walking.fault_stops _ w ws (Walking.awaiting_turns rows w name v d l n);
  refused = refused_value w (parts_from false ws) (option_number w o);
})
read_value w ws (strange name v o d t l n) more rows = inr (record {
  fails = Walking.fault_stops _ w ws (Walking.awaiting_strange rows w name v d l n);
  refused = refused_value w (parts_from false ws) (option_number w o);
})
read_value w ws (short flags c o d t l s f) more rows = inr (record {
  fails = Walking.fault_stops _ w ws (Walking.awaiting_short rows w flags c d l s f);
  refused = refused_value w (parts_from false ws) (option_number w o);
})

-- `clap` and the rule take the same words, with the same positionals and values, or both refuse them
pub reads : (ws : List Text) → AllTexts ws → Reads ws × ReadsValue ws
-- by induction on the words
reads [] text = (read_none, read_no_value)
reads (w ∷ ws) text =
    let seen = look w text.0 in
    let more = reads ws text.1 in
    (read_word w ws seen more.0 more.1, read_value w ws seen more.0)
