-- Loops of `hear_frames`: hears frames, one after another.
use Rattle.std.proofs.Common.{◌≡◌, drop, fold}
use Rattle.cpg_node.specs.Dispatcher.{hear_frame}
use Rattle.cpg_node.proofs.heard.hear_frames.Given as goal

-- hearing the frames left from here gives what hearing all the frames gives from the beginning
abbrev pub invariant-loop-frame : goal.invariant-loop-frame
invariant-loop-frame l =
    fold (hear_frame l.table) l.heard (drop l.frame-index l.frames) ≡ fold (hear_frame l.table) l.fn.heard l.frames
