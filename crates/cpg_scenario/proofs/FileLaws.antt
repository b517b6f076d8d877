-- When bytes are a document, and what is read of them then.
use Rattle.std.proofs.Common.{◌≡◌, ℕ, List, Bool, true, false, Option, Some, None, Err, cond, refl}
use Rattle.std.specs.Str.{IsUtf8, is_utf8}
use Rattle.std.proofs.lemmas.Str.{IsUtf8-from_is_utf8, is_utf8-from_IsUtf8}
use Rattle.toml.specs.Data.{Members}
use Rattle.toml.specs.Parse.{parse_document}
use Rattle.cpg_base.specs.Graph.{Graph}
use Rattle.cpg_scenario.specs.declared.fault.Cause.TheVariants.{Toml}
use Rattle.cpg_scenario.specs.declared.fault.ScenarioFault.TheVariants.{Bad}
use Rattle.cpg_scenario.specs.File.{played_of, file_of}

-- bytes that spell a document give what the document gives
pub file_of-read : (g : Graph) (bytes : List ℕ) (ms : Members) → IsUtf8 bytes → parse_document bytes ≡ Some ms →
    file_of g bytes ≡ played_of g ms
unfolding file_of
file_of-read g bytes ms text read = rw (is_utf8-from_IsUtf8 bytes text, read) refl

-- an option after a test is `None` if it is so whenever the test passes
none_if : (b : Bool) (o : Option Members) → (b ≡ true → o ≡ None) → cond b o None ≡ None
none_if true o each = each refl
none_if false o each = refl

-- bytes that aren't UTF-8, or spell no document, are rejected with `Toml`
pub file_of-refused : (g : Graph) (bytes : List ℕ) → (IsUtf8 bytes → parse_document bytes ≡ None) →
    file_of g bytes ≡ Err (Bad Toml)
unfolding file_of
file_of-refused g bytes each =
    rw (none_if (is_utf8 bytes) (parse_document bytes) (λ e. each (IsUtf8-from_is_utf8 bytes e))) refl
