-- Proof of `NodeProgress::turn_before`: takes all turns at instants before a time.
use Rattle.std.proofs.Common.{◌≡◌, sym, ap, ◌∙◌, arith}
use Rattle.cpg_live.specs.Stream.{turned}
use Rattle.cpg_live.proofs.Turns.{turned_zero}
use Rattle.cpg_live.proofs.progress.NodeProgress.turn_before.Goals as goal

-- the time is 0, and no turn is before that
pub returns-else-time-gt0 : goal.returns-else-time-gt0
returns-else-time-gt0 c = sym (turned_zero c.args.self.now)
    ∙ ap (λ n. turned n c.args.self.now) (let none : 0 ≡ c.args.time = omega (arith, c.if-time-gt0.false) in none)
