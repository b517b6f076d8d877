-- Texts that begin with another (`IsFrontOf`): what was written before a failed call is still at the front.
use Rattle.std.proofs.Common.{◌≡◌, ℕ, List, [], ◌++◌, Result, Ok, Err, OnErr, append-nil, refl, sym, ap, ◌∙◌}
use Rattle.std.proofs.lemmas.List.{append_assoc}
use Rattle.cpg_label.specs.Front.{IsFrontOf}

-- a text begins with itself
pub own_front : (text : List ℕ) → IsFrontOf text text
own_front text = ([], sym (append-nil text))

-- if a third text begins with a second, and that with a first, the third begins with the first
pub front_of_front : (first second third : List ℕ) → IsFrontOf first second → IsFrontOf second third →
    IsFrontOf first third
front_of_front first second third (rest, is) (more, so) =
    (rest ++ more, so ∙ ap (λ text. text ++ more) is ∙ append_assoc first rest more)

-- with more after it, a text still begins with what it began with
pub front_before : (first second third more : List ℕ) → IsFrontOf first second → third ≡ second ++ more →
    IsFrontOf first third
front_before first second third more front is = front_of_front first second third front (more, is)

-- the same with five pieces, one after another
pub front_before_five : (first second third a b c d e : List ℕ) → IsFrontOf first second →
    third ≡ second ++ a ++ b ++ c ++ d ++ e →
    IsFrontOf first third
front_before_five first second third a b c d e front is =
    let one = front_before first second (second ++ a) a front refl in
    let two = front_before first (second ++ a) (second ++ a ++ b) b one refl in
    let three = front_before first (second ++ a ++ b) (second ++ a ++ b ++ c) c two refl in
    front_before first (second ++ a ++ b ++ c ++ d) third e
    (front_before first (second ++ a ++ b ++ c) (second ++ a ++ b ++ c ++ d) d three refl) is

-- if a text begins with another whatever the result is, it does so after an error
pub after_error : {T E : Type 0} (result : Result T E) (front whole : List ℕ) → IsFrontOf front whole →
    OnErr result (IsFrontOf front whole)
after_error (Ok value) front whole is = tt
after_error (Err error) front whole is = is
