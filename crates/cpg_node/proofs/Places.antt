-- Loops over two lists of one length, of which the second is changed place by place.
use Rattle.std.proofs.Common.{◌≡◌, ◌≢◌, ℕ, suc, zero, ◌<◌, ◌+◌, ◌==◌, Bool, true, false, cond, drop, List, [], ◌∷◌}
use Rattle.std.proofs.Common.{length, set, get_or, refl, sym, ap, ◌∙◌, arith, add-one, eqb-true, Option}
use Rattle.cpg_node.specs.Dispatcher.{Own, Running, zip_with}
use Rattle.cpg_node.specs.State.{running_in}

-- the first n places of the second list, as far as both go, are changed by what the first has there
abbrev pub zip_front : {A B : Type 0} → (A → B → B) → ℕ → List A → List B → List B
zip_front f zero os rs = rs
zip_front f (suc n) [] rs = rs
zip_front f (suc n) (o ∷ os) [] = []
zip_front f (suc n) (o ∷ os) (r ∷ rs) = f o r ∷ zip_front f n os rs

-- with all places changed, the lists are zipped; by induction on both
pub zip_front-whole : {A B : Type 0} (f : A → B → B) (os : List A) (rs : List B) → length os ≡ length rs →
    zip_front f (length os) os rs ≡ zip_with f os rs
zip_front-whole f [] [] same = refl
zip_front-whole f [] (r ∷ rs) same = absurd (omega arith)
zip_front-whole f (o ∷ os) [] same = refl
zip_front-whole f (o ∷ os) (r ∷ rs) same = ap (λ l. f o r ∷ l) (zip_front-whole f os rs (omega arith))

-- a list that is changed place by place keeps its length
pub zip_front-length : {A B : Type 0} (f : A → B → B) (n : ℕ) (os : List A) (rs : List B) →
    length (zip_front f n os rs) ≡ length rs
zip_front-length f zero os rs = refl
zip_front-length f (suc n) [] rs = refl
zip_front-length f (suc n) (o ∷ os) [] = refl
zip_front-length f (suc n) (o ∷ os) (r ∷ rs) = ap (λ l. suc l) (zip_front-length f n os rs)

-- place n, after the first n, is as it was
pub zip_front-at : {A B : Type 0} (f : A → B → B) (n : ℕ) (os : List A) (rs : List B) (d : B) →
    get_or (zip_front f n os rs) n d ≡ get_or rs n d
zip_front-at f zero os rs d = refl
zip_front-at f (suc n) [] rs d = refl
zip_front-at f (suc n) (o ∷ os) [] d = refl
zip_front-at f (suc n) (o ∷ os) (r ∷ rs) d = zip_front-at f n os rs d

-- if place n is changed too, n + 1 places are changed; by induction on n
pub zip_front-more : {A B : Type 0} (f : A → B → B) (n : ℕ) (os : List A) (rs : List B) (a : A) (b : B) →
    n < length os →
    length os ≡ length rs →
    set (zip_front f n os rs) n (f (get_or os n a) (get_or rs n b)) ≡ zip_front f (suc n) os rs
zip_front-more f n [] rs a b inside same = absurd (omega arith)
zip_front-more f n (o ∷ os) [] a b inside same = absurd (omega arith)
zip_front-more f zero (o ∷ os) (r ∷ rs) a b inside same = refl
zip_front-more f (suc n) (o ∷ os) (r ∷ rs) a b l same =
    ap (λ l. f o r ∷ l) (zip_front-more f n os rs a b (omega arith) (omega arith))

-- the step of a loop that changes place after place: `ls` is the list with n places changed, a the element of the first
-- list at n, r the new one
pub zip_front-next : {A B : Type 0} (f : A → B → B) (n : ℕ) (os : List A) (rs ls : List B) (a : A) (d r : B) →
    n < length os →
    length os ≡ length rs →
    ls ≡ zip_front f n os rs → a ≡ get_or os n a → r ≡ f a (get_or ls n d) → set ls n r ≡ zip_front f (n + 1) os rs
zip_front-next f n os rs ls a d r l same is at s =
    let there : get_or ls n d ≡ get_or rs n d = ap (λ l. get_or l n d) is ∙ zip_front-at f n os rs d in
    (λ i. set (is i) n ((s ∙ ap (f a) there ∙ ap (λ o. f o (get_or rs n d)) at) i))
    ∙ zip_front-more f n os rs a d l same
    ∙ ap (λ m. zip_front f m os rs) (sym (add-one n))

-- the end of such a loop: with the place past the list's end, the lists are zipped
pub zip_front-done : {A B : Type 0} (f : A → B → B) (n : ℕ) (os : List A) (rs ls : List B) → n ≡ length os →
    length os ≡ length rs → ls ≡ zip_front f n os rs →
    ls ≡ zip_with f os rs
zip_front-done f n os rs ls all same is = is ∙ ap (λ n. zip_front f n os rs) all ∙ zip_front-whole f os rs same

-- from place n on, two zipped lists begin with what their elements at n give; by induction on n
drop_both : {A B C : Type 0} (f : A → B → C) (n : ℕ) (os : List A) (rs : List B) (a : A) (b : B) → n < length os →
    length os ≡ length rs →
    zip_with f (drop n os) (drop n rs)
    ≡ f (get_or os n a) (get_or rs n b) ∷ zip_with f (drop (suc n) os) (drop (suc n) rs)
drop_both f n [] rs a b inside same = absurd (omega arith)
drop_both f n (o ∷ os) [] a b inside same = absurd (omega arith)
drop_both f zero (o ∷ os) (r ∷ rs) a b inside same = refl
drop_both f (suc n) (o ∷ os) (r ∷ rs) a b inside same = drop_both f n os rs a b (omega arith) (omega arith)

-- the same for a loop, which adds 1 to the place
pub zip_with-drop : {A B C : Type 0} (f : A → B → C) (n : ℕ) (os : List A) (rs : List B) (a : A) (b : B) →
    n < length os →
    length os ≡ length rs →
    zip_with f (drop n os) (drop n rs)
    ≡ f (get_or os n a) (get_or rs n b) ∷ zip_with f (drop (n + 1) os) (drop (n + 1) rs)
zip_with-drop f n os rs a b inside same = drop_both f n os rs a b inside same
    ∙ ap (λ m. f (get_or os n a) (get_or rs n b) ∷ zip_with f (drop m os) (drop m rs)) (sym (add-one n))

-- if the own process at n has another number than p, the execution of p is found after n; by induction on n
running_in-suc : (n : ℕ) (os : List Own) (rs : List (Option Running)) (p : ℕ) (a : Own) → n < length os →
    length os ≡ length rs → a ≡ get_or os n a → a.process ≢ p →
    running_in (drop n os) (drop n rs) p ≡ running_in (drop (suc n) os) (drop (suc n) rs) p
running_in-suc n [] rs p a inside same at other = absurd (omega arith)
running_in-suc n (o ∷ os) [] p a inside same at other = absurd (omega arith)
running_in-suc zero (o ∷ os) (r ∷ rs) p a inside e at other = go (o.process == p) refl
  where
    -- by whether the first own process is p, which it isn't
    go : (b : Bool) → (o.process == p) ≡ b → cond b r (running_in os rs p) ≡ running_in os rs p
    go true same = absurd (other (ap (λ (o : Own). o.process) at ∙ eqb-true o.process p same))
    go false same = refl
running_in-suc (suc n) (o ∷ os) (r ∷ rs) p a inside same at other =
    running_in-suc n os rs p a (omega arith) (omega arith) at other

-- the same for a loop, which adds 1 to the place
pub running_in-next : (n : ℕ) (os : List Own) (rs : List (Option Running)) (p : ℕ) (a : Own) → n < length os →
    length os ≡ length rs → a ≡ get_or os n a → a.process ≢ p →
    running_in (drop n os) (drop n rs) p ≡ running_in (drop (n + 1) os) (drop (n + 1) rs) p
running_in-next n os rs p a inside same at other =
    running_in-suc n os rs p a inside same at other ∙ ap (λ m. running_in (drop m os) (drop m rs) p) (sym (add-one n))
