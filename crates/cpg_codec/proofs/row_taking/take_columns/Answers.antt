-- Proof of `take_columns`: takes `count` lawful columns from `bytes`.
use Rattle.std.proofs.Common.{◌∷◌, [], ap, arith, length, length-append, sym, subst, All}
use Rattle.std.proofs.lemmas.List.Elements.{All-push}
use Rattle.cpg_cube.specs.declared.column.Column.{Column}
use Rattle.cpg_table.specs.Lawful.{IsLawfulColumn}
use Rattle.cpg_codec.specs.Spelling.{column_bytes}
use Rattle.cpg_codec.proofs.Turns.{taken_more}
use Rattle.cpg_codec.proofs.row_taking.take_columns.Goals as goal

-- one column more was taken, and it is lawful
pub loop-preserved : goal.loop-preserved
loop-preserved c =
    let so_far = c.loop.invariant in
    let columns = c.loop.columns.items in
    let column = c.in_ok-column.column in record {
      taken = taken_more column_bytes columns c.push.new.self.items column c.args.bytes.now c.loop.rest.now
          c.in_ok-column.after.now so_far.taken c.in_ok-column.ensures.taken c.in_ok-push.ensures.items;
      count = omega (arith, ap length c.in_ok-push.ensures.items, length-append columns (column ∷ []), so_far.count);
      lawful = subst (All (λ (x : Column). IsLawfulColumn c.args.space.now x)) (sym c.in_ok-push.ensures.items)
          (All-push (IsLawfulColumn c.args.space.now) columns column so_far.lawful c.in_ok-column.ensures.lawful);
    }
