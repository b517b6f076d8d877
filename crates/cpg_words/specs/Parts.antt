-- The words after a command's name, split into positionals and values of `--turns`.
use Rattle.std.specs.Prelude.{ℕ, ◌==◌, Bool, true, false, List, [], ◌∷◌, codes, map, Option, Some, None, option_map}
use Rattle.std.specs.Prelude.{if◌then◌else◌}
use Rattle.std.specs.List.{list_any, before_first, after_first}
use Rattle.std.specs.Borrow.{Bor}
use Rattle.std.specs.Str.{bytes_eq}

-- The bytes of one word.
abbrev pub Text : Type 0
Text = List ℕ

-- Borrowed words as texts.
abbrev pub texts : List (Bor Text) → List Text
texts = map (λ w. w.now)

-- What the words after a command's name are split into.
pub record Parts : Type 0 where
  -- the positionals, in the order of the words
  pub positionals : List Text
  -- the values of `--turns`, in the order of the words
  pub turns : List Text

-- The parts with one more positional in front.
abbrev pub with_positional : Text → Option Parts → Option Parts
with_positional w = option_map (λ p. record { positionals = w ∷ p.positionals; turns = p.turns })

-- The parts with one more value of `--turns` in front.
abbrev pub with_turns : Text → Option Parts → Option Parts
with_turns v = option_map (λ p. record { positionals = p.positionals; turns = v ∷ p.turns })

-- Whether a byte is `=`.
abbrev pub is_equals : ℕ → Bool
is_equals b = b == 61

-- Whether a word begins with `-` (byte 45) and is longer than that.
abbrev pub is_option : Text → Bool
is_option [] = false
is_option (b ∷ []) = false
is_option (b ∷ c ∷ rest) = b == 45

-- Whether a word is `--turns` or begins with `--turns=`.
abbrev pub is_turns : Text → Bool
is_turns w = bytes_eq (codes "--turns") (before_first is_equals w)

-- What follows the first `=` of a word, or None if it has no `=`.
abbrev pub value_in : Text → Option Text
value_in w = if list_any is_equals w then Some (after_first is_equals w) else None

-- The parts of an option w and the words after it. If w has a `=`, its value follows that, and the words after it are
-- read by themselves (`others`). Otherwise its value is the next word (`value_first`). It is None if w isn't `--turns`,
-- the only option, and if the words after it have no parts.
abbrev pub with_option : Text → Option Parts → Option Parts → Option Parts
with_option w others value_first =
    if is_turns w then (elim (value_in w) [ Some v ↦ with_turns v others | None ↦ value_first ]) else None

-- The parts of a list of words. The flag is true if `--turns` comes right before the list: then the first word is its
-- value, whatever it is. The first `--` that isn't a value ends the options; each word after it is a positional. It is
-- None if an option before that `--` isn't `--turns`, or if a `--turns` before it lacks its value.
abbrev pub parts_from : Bool → List Text → Option Parts
parts_from true [] = None
parts_from false [] = Some (record { positionals = []; turns = [] })
parts_from true (v ∷ rest) = with_turns v (parts_from false rest)
parts_from false (w ∷ rest) =
    if bytes_eq w (codes "--") then Some (record { positionals = rest; turns = [] })
    else (if is_option w then with_option w (parts_from false rest) (parts_from true rest)
    else with_positional w (parts_from false rest))

-- The parts of the words after a command's name.
abbrev pub parts_of : List Text → Option Parts
parts_of words = parts_from false words
