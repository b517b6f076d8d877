-- Proof of `put_block`, which puts the lows of a block of literals into a key; there is nothing to put if all are 0.
use Rattle.std.proofs.Common.{◌≡◌, ◌∙◌, sym}
use Rattle.cpg_cube.proofs.KeyPlaces.{bytes_of_none, none_put}
use Rattle.cpg_cube.proofs.sorting.put_block.Goals as goal

-- lows of 0 put nothing into a key
pub returns-then-begin_at_zero-clause-key : goal.returns-then-begin_at_zero-clause-key
returns-then-begin_at_zero-clause-key c = sym (none_put c.args.places.now c.args.literals.now c.args.key.now.items
    (sym c.begin_at_zero.ensures ∙ c.if-begin_at_zero.true))

-- all lows are 0, so they are bytes
pub returns-then-begin_at_zero-clause-bytes : goal.returns-then-begin_at_zero-clause-bytes
returns-then-begin_at_zero-clause-bytes c =
    bytes_of_none c.args.literals.now (sym c.begin_at_zero.ensures ∙ c.if-begin_at_zero.true)
