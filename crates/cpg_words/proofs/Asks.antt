-- What `clap` answers about the command line is what the rule says.
use Rattle.std.proofs.Common.{◌≡◌, ◌∙◌, inl, inr, true, List, [], ◌∷◌, Option, Some, None, sym, ap, ap₂, subst, map}
use Rattle.std.proofs.Common.{string_bytes}
use Rattle.std.specs.Prelude.{Box, Result, Ok, Err, IfOk, String, ◌≢◌, option_map, unwrap_or}
use Rattle.std.specs.Borrow.{Bor}
use Rattle.std.specs.Box.{box_value}
use Rattle.clap.specs.Words.{Row, found_of, matched_of, raw_values, rows_of, subcommand_rows}
use Rattle.clap.specs.declared.parser.matches.Found.{Found}
use Rattle.clap.specs.declared.parser.matches.SubCommand.{SubCommand}
use Rattle.clap.specs.declared.parser.matches.ArgMatches.TheViews.{out-SubCommand}
use Rattle.clap.proofs.WalkLemmas.{raw_values-rows}
use Rattle.cpg_words.specs.Matches.{values_in, command_at}
use Rattle.cpg_words.specs.declared.command.Command.{Command}
use Rattle.cpg_words.specs.declared.fault.WordsFault.{WordsFault}
use Rattle.cpg_words.specs.declared.fault.WordsFault.TheVariants.{Bad, OutOfMemory as WordsMemory}
use Rattle.std.proofs.lemmas.Str.{IsUtf8-string_bytes}
use Rattle.clap.specs.Words.{App, HasMatchesOf, HasKind, Kinds, fault_of, is_simple, is_simple_and_free, kind_of}
use Rattle.clap.specs.Words.{subcommand_of}
use Rattle.clap.specs.Simple.{subcommand_rows_of}
use Rattle.clap.specs.declared.parser.matches.ArgMatches.{ArgMatches}
use Rattle.clap.specs.declared.error.Error.{Error}
use Rattle.clap.specs.declared.error.kind.ErrorKind.TheVariants.{OutOfMemory}
use Rattle.cpg_words.specs.Parts.{Text}
use Rattle.cpg_words.specs.Line.{line_app}
use Rattle.cpg_words.specs.Forms.{command_of, forms}
use Rattle.cpg_words.specs.Answers.{Answers}
use Rattle.cpg_words.proofs.Splitting.{AllTexts}
use Rattle.cpg_words.proofs.Walking.{Fails}
use Rattle.cpg_words.proofs.WholeLine.{line_reads, forms_refuse}

-- the bytes of strings are texts
pub all_texts : {Z : Type 0} (ws : List (String Z)) → AllTexts (map string_bytes ws)
all_texts [] = tt
all_texts (w ∷ ws) = (IsUtf8-string_bytes w, all_texts ws)

-- if `clap` takes the words, they ask for the command that its matches ask for
pub ok_asks : (app : App) (words : List Text) (m : ArgMatches) → app ≡ line_app → AllTexts words
    → (is_simple_and_free app ≡ true → fault_of app words ≡ []) → HasMatchesOf app words m →
    command_of words ≡ command_at (subcommand_rows_of m)
ok_asks app words m is text faults found = elim (line_reads forms forms_refuse words text) [
  | inl accepted ↦ accepted.call
      ∙ ap command_at (sym ((found (ap is_simple is)).1 ∙ ap (λ (x : App). subcommand_of x words) is ∙
      accepted.entered_is))
  | inr refused ↦
      absurd (subst Fails (sym (ap (λ (x : App). fault_of x words) is) ∙ faults (ap is_simple_and_free is))
      refused.fails)
]

-- if `clap` refuses the words, and memory doesn't run out, they ask for no command
pub bad_asks : (app : App) (words : List Text) (e : Error) → app ≡ line_app → AllTexts words
    → (is_simple_and_free app ≡ true → HasKind (fault_of app words) e) → kind_of e ≢ OutOfMemory →
    command_of words ≡ None
-- if both took the words, `clap` would have no fault but for memory; so both refuse them
bad_asks app words e is text faults other = elim (line_reads forms forms_refuse words text) [
  | inl accepted ↦ let none : fault_of app words ≡ [] = ap (λ (x : App). fault_of x words) is ∙ accepted.no_fault in
      elim (subst (λ (k : Kinds). HasKind k e) none (faults (ap is_simple_and_free is))) [
        | inl memory ↦ absurd (other memory)
        | inr among ↦ absurd among
      ]
  | inr refusal ↦ refusal.refused
]

-- ---- the getters of the matches

-- the values that the code gets of an argument are those among the rows
pub values_got : (f : Found) (id : Text) (o : Option (Bor (List (Bor Text)))) (d got : Bor (List (Bor Text))) →
    got ≡ unwrap_or o d →
    map (λ w. w.now) d.now ≡ []
    → option_map (λ s. map (λ v. v.now) s.now) o ≡ option_map raw_values (matched_of f id)
    → map (λ w. w.now) got.now ≡ values_in id (rows_of f)
values_got f id None d got o_is none_by_default same_values = ap
    (λ (b : Bor (List (Bor Text))). map (λ (w : Bor Text). w.now) b.now) o_is
    ∙ none_by_default ∙ ap (λ (x : Option (List Text)). unwrap_or x []) (same_values ∙ raw_values-rows f id)
values_got f id (Some s) d got o_is none_by_default same_values = ap
    (λ (b : Bor (List (Bor Text))). map (λ (w : Bor Text). w.now) b.now) o_is
    ∙ ap (λ (x : Option (List Text)). unwrap_or x []) (same_values ∙ raw_values-rows f id)

-- an answer to a question is one to an equal question
pub answers_as : (asked now : Option Command) (r : Result Command WordsFault) → asked ≡ now → Answers asked r →
    Answers now r
answers_as asked now r same answer = subst (λ (o : Option Command). Answers o r) same answer

-- a command that is answered is the one that is asked for
pub answered : (asked : Option Command) (r : Result Command WordsFault) → Answers asked r → IfOk r (λ c. asked ≡ Some c)
answered asked (Ok c) answer = answer
answered asked (Err f) answer = tt

-- the answer Bad shows that no command is asked for
pub answered_bad : (asked : Option Command) (r : Result Command WordsFault) → Answers asked r → r ≡ Err Bad →
    asked ≡ None
answered_bad asked (Ok c) answer is = cc
answered_bad asked (Err Bad) answer is = answer
answered_bad asked (Err WordsMemory) answer is = cc

module _ {Z : Type 0} where
  -- a subcommand that was found, with its rows, is what the parse asks for
  pub entered_rows : (sub : Option (Box SubCommand Z)) (name : Text) (rows : List Row) →
      Some name ≡ option_map (λ b. (out-SubCommand (box_value b)).name.now) sub
      → Some rows ≡ option_map (λ p. p.1) (subcommand_rows sub) → subcommand_rows sub ≡ Some (name, rows)
  entered_rows None name rows same_names rows_there = cc
  entered_rows (Some b) name rows same_names rows_there =
      let same_name : (out-SubCommand (box_value b)).name.now ≡ name = cc in
      let same_rows : rows_of (found_of (out-SubCommand (box_value b)).matches) ≡ rows = cc in
      ap₂ (λ (t : Text) (rs : List Row). Some (t, rs)) same_name same_rows
