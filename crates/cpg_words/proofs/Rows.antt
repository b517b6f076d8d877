-- What the rows of a parse hold of one argument: a value that is added comes last among its values, and changes no
-- values of others.
use Rattle.std.proofs.Common.{◌≡◌, Bool, true, false, List, [], ◌∷◌, ◌++◌, refl}
use Rattle.std.specs.Str.{bytes_eq}
use Rattle.std.proofs.lemmas.Slice.Eq.{bytes_eq-Decides}
use Rattle.clap.specs.Walk.{Row}
use Rattle.cpg_words.specs.Parts.{Text}
use Rattle.cpg_words.specs.Matches.{values_in}
use Rattle.cpg_words.proofs.Walking.{add}

-- if a value added to the rows rs comes last among the values of the argument `id`, it does so with a row r in front
add_here : (id v : Text) (r : Row) (rs : List Row) (b : Bool) → bytes_eq r.id id ≡ b →
    values_in id (add id v rs) ≡ values_in id rs ++ v ∷ []
    → values_in id (add id v (r ∷ rs)) ≡ values_in id (r ∷ rs) ++ v ∷ []
add_here id v r rs true b_is v_is = rw (b_is, b_is) refl
add_here id v r rs false b_is v_is = rw (b_is, b_is) v_is

-- a value that is added for an argument comes last among its values
pub add_same : (id v : Text) (rows : List Row) → bytes_eq id id ≡ true →
    values_in id (add id v rows) ≡ values_in id rows ++ v ∷ []
add_same id v [] own = rw own refl
add_same id v (r ∷ rs) own = add_here id v r rs (bytes_eq r.id id) refl (add_same id v rs own)

-- a value added to more rows changes no other argument's values, if it changes none in the rows after the first
add_past : (id other v : Text) (r : Row) (rs : List Row) (b c : Bool) → bytes_eq r.id id ≡ b → bytes_eq r.id other ≡ c →
    bytes_eq id other ≡ false
    → values_in other (add id v rs) ≡ values_in other rs →
    values_in other (add id v (r ∷ rs)) ≡ values_in other (r ∷ rs)
-- the first row is that of `id`, that of the other argument, or of neither
add_past id other v r rs true c of_id of_other off unchanged =
    let same : r.id ≡ id = (bytes_eq-Decides r.id id).0 of_id in
    let not_other : bytes_eq r.id other ≡ false = rw same off in
    rw (of_id, not_other) refl
add_past id other v r rs false true of_id of_other off unchanged = rw (of_id, of_other) refl
add_past id other v r rs false false of_id of_other off unchanged = rw (of_id, of_other) unchanged

-- a value that is added for an argument leaves the values of the others as they are
pub add_other : (id other v : Text) (rows : List Row) → bytes_eq id other ≡ false →
    values_in other (add id v rows) ≡ values_in other rows
add_other id other v [] off = rw off refl
add_other id other v (r ∷ rs) off =
    add_past id other v r rs (bytes_eq r.id id) (bytes_eq r.id other) refl refl off (add_other id other v rs off)
