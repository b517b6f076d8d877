-- What two lists give together at each place, gathered from one place after another, as loops of the code do it.
use Rattle.std.proofs.Common.{ℕ, ◌+◌, ◌<◌, ◌≤◌, ◌≡◌, ◌∙◌, List, ◌++◌, ap, ap₂, append_assoc, arith, drop, get_or}
use Rattle.std.proofs.Common.{length, length-append, map, sym}
use Rattle.std.specs.List.{flat_map}
use Rattle.std.proofs.lemmas.List.{drop_more, length-map, map-append}
use Rattle.cpg_node.specs.Dispatcher.{zip_with}

-- what `f` gives of the elements of two lists at each place, all in one list
abbrev gathered : {A B C : Type 0} → (A → B → List C) → List A → List B → List C
gathered f xs bs = flat_map (λ cs. cs) (zip_with f xs bs)

-- what is left to gather from place `n` on begins with what the elements there give, `given`
next : {A B C : Type 0} (f : A → B → List C) (xs : List A) (bs : List B) (n : ℕ) (x : A) (b : B) (given : List C) →
    n < length xs → n < length bs → given ≡ f (get_or xs n x) (get_or bs n b) →
    gathered f (drop n xs) (drop n bs) ≡ given ++ gathered f (drop (n + 1) xs) (drop (n + 1) bs)
next f xs bs n x b given within inside is =
    ap₂ (gathered f) (drop_more xs n x within) (drop_more bs n b inside)
    ∙ ap (λ cs. cs ++ gathered f (drop (n + 1) xs) (drop (n + 1) bs)) (sym is)

-- if what place `n` gives is added to what was gathered, `old`, that and what is left are the same `whole` as before
pub gathered_on : {A B C : Type 0} (f : A → B → List C) (xs : List A) (bs : List B) (n : ℕ) (x : A) (b : B)
    (given old new whole : List C) → n < length xs → n < length bs → given ≡ f (get_or xs n x) (get_or bs n b) →
    new ≡ old ++ given → old ++ gathered f (drop n xs) (drop n bs) ≡ whole →
    new ++ gathered f (drop (n + 1) xs) (drop (n + 1) bs) ≡ whole
gathered_on f xs bs n x b given old new whole within inside is more before =
    let rest = gathered f (drop (n + 1) xs) (drop (n + 1) bs) in
    ap (λ cs. cs ++ rest) more ∙ append_assoc old given rest
    ∙ sym (ap (λ cs. old ++ cs) (next f xs bs n x b given within inside is)) ∙ before

-- what place `n` gives has room behind what was gathered, `old`, wherever the whole has
pub gathered_fits : {A B C : Type 0} (f : A → B → List C) (xs : List A) (bs : List B) (n : ℕ) (x : A) (b : B)
    (given old whole : List C) (room : ℕ) → n < length xs → n < length bs →
    given ≡ f (get_or xs n x) (get_or bs n b) → old ++ gathered f (drop n xs) (drop n bs) ≡ whole →
    length whole ≤ room → length old + length given ≤ room
gathered_fits f xs bs n x b given old whole room within inside is before few =
    let rest = gathered f (drop (n + 1) xs) (drop (n + 1) bs) in
    let left = next f xs bs n x b given within inside is in
    omega (
      arith,
      ap length (sym (ap (λ cs. old ++ cs) left) ∙ before),
      length-append old (given ++ rest),
      length-append given rest,
      few,
    )

-- if `g` is applied to all that is gathered, and what it makes of place `n` is added to `old`, that and what is left are the
-- same `whole` as before
pub mapped_on : {A B C D : Type 0} (g : C → D) (f : A → B → List C) (xs : List A) (bs : List B) (n : ℕ) (x : A) (b : B)
    (given : List C) (old new whole : List D) → n < length xs → n < length bs →
    given ≡ f (get_or xs n x) (get_or bs n b) → new ≡ old ++ map g given →
    old ++ map g (gathered f (drop n xs) (drop n bs)) ≡ whole →
    new ++ map g (gathered f (drop (n + 1) xs) (drop (n + 1) bs)) ≡ whole
mapped_on g f xs bs n x b given old new whole within inside is more before =
    let rest = gathered f (drop (n + 1) xs) (drop (n + 1) bs) in
    ap (λ ds. ds ++ map g rest) more ∙ append_assoc old (map g given) (map g rest)
    ∙ sym (ap (λ cs. old ++ map g cs) (next f xs bs n x b given within inside is)
    ∙ ap (λ ds. old ++ ds) (map-append g given rest)) ∙ before

-- what `g` makes of place `n` has room behind `old` wherever the whole has
pub mapped_fits : {A B C D : Type 0} (g : C → D) (f : A → B → List C) (xs : List A) (bs : List B) (n : ℕ) (x : A) (b : B)
    (given : List C) (old whole : List D) (room : ℕ) → n < length xs → n < length bs →
    given ≡ f (get_or xs n x) (get_or bs n b) → old ++ map g (gathered f (drop n xs) (drop n bs)) ≡ whole →
    length whole ≤ room → length old + length given ≤ room
mapped_fits g f xs bs n x b given old whole room within inside is before few =
    let rest = gathered f (drop (n + 1) xs) (drop (n + 1) bs) in
    let left = ap (λ cs. old ++ map g cs) (next f xs bs n x b given within inside is)
    ∙ ap (λ ds. old ++ ds) (map-append g given rest) in
    omega (
      arith,
      ap length (sym left ∙ before),
      length-append old (map g given ++ map g rest),
      length-append (map g given) (map g rest),
      length-map given g,
      few,
    )
