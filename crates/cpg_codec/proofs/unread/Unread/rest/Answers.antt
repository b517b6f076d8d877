-- Proof of `Unread::rest`: the bytes that aren't read.
use Rattle.std.proofs.Common.{◌≡◌, ◌∙◌, List, ℕ, ap, drop, rules}
use Rattle.cpg_io.proofs.Writes.{rest_of}
use Rattle.cpg_codec.proofs.unread.Unread.rest.Goals as goal

-- the slice from `read` on has the bytes after the first `read`, and an `Unread` is seen as these
pub returns : goal.returns
returns c =
    let same : c.deref.result.now ≡ c.self.inside.bytes.items = search rules in
    rest_of c.self.inside.read c.deref.result.now ∙ ap (λ (bytes : List ℕ). drop c.self.inside.read bytes) same
    ∙ c.self.view_is
