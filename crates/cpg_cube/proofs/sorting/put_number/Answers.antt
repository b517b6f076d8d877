-- Proof of `put_number`, which puts a number into a key, before the lesser ones.
use Rattle.std.proofs.Common.{ℕ, ◌≡◌, ◌∙◌, ◌≤◌, ◌∷◌, ◌++◌, take, drop, List, length, ap, arith, rules}
use Rattle.std.specs.Prelude.{insert}
use Rattle.cpg_cube.specs.Keys.{place_in}
use Rattle.cpg_cube.proofs.KeyPlaces.{insert_at}
use Rattle.cpg_cube.proofs.sorting.put_number.Goals as goal

-- the number is inserted before the first lesser one, which is its place
pub returns : goal.returns
returns c =
    let key = c.args.key.now.items in
    let at : c.place_in-place.result ≡ place_in c.args.number key = search rules in
    let one : c.insert.new.self.items ≡ insert key c.place_in-place.result c.args.number = search rules in
    let within : c.place_in-place.result ≤ length key = omega arith in
    one ∙ insert_at key c.place_in-place.result c.args.number within
    ∙ ap (λ (n : ℕ). take n key ++ c.args.number ∷ drop n key) at
