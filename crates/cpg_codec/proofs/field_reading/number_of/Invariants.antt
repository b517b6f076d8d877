-- Loops of `number_of`: a number of `width` bytes from `low` to `high`.
use Rattle.std.proofs.Common.{◌≡◌, ◌≤◌, ◌-◌, ◌*◌, ◌^◌}
use Rattle.cpg_codec.specs.Reading.{read_digits, read_number, within}
use Rattle.cpg_codec.proofs.field_reading.number_of.Given as goal

-- `same`: to read on from the number so far gives what reading the number as a whole gives. `small`: the number so
-- far, with zero bytes after it up to the width, is at most `high`, so one more byte doesn't overflow.
abbrev pub invariant-loop-done : goal.invariant-loop-done
invariant-loop-done l = record {
  same : read_digits (within l.fn.low l.fn.high) (l.fn.width - l.done) l.number l.rest
      ≡ read_number l.fn.width (within l.fn.low l.fn.high) l.fn.bytes;
  small : l.number * 256 ^ (l.fn.width - l.done) ≤ l.fn.high;
}
