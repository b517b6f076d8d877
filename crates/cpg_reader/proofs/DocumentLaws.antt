-- When bytes are a document, and what is read of them then.
use Rattle.std.proofs.Common.{◌≡◌, ◌≢◌, ℕ, List, Bool, true, false, Option, Some, None, Ok, Err, cond, refl, sym}
use Rattle.std.specs.Str.{IsUtf8, is_utf8}
use Rattle.std.proofs.lemmas.Str.{IsUtf8-from_is_utf8, is_utf8-from_IsUtf8}
use Rattle.toml.specs.Data.{Members}
use Rattle.toml.specs.Parse.{parse_document}
use Rattle.cpg_reader.specs.declared.place.ReadFault.TheVariants.{NotToml, BadField, DoubleName, UnknownName, OverLimit}
use Rattle.cpg_reader.specs.declared.place.ReadFault.TheVariants.{OutOfMemory}
use Rattle.cpg_reader.specs.Reading.{Reading, Gives}
use Rattle.cpg_reader.specs.Document.{document_of, read_members, problem_of}

-- bytes that spell a document say what its members say
pub problem_of-read : (bytes : List ℕ) (ms : Members) → IsUtf8 bytes → parse_document bytes ≡ Some ms →
    problem_of bytes ≡ read_members ms
unfolding problem_of document_of
problem_of-read bytes ms text read = rw (is_utf8-from_IsUtf8 bytes text, read) refl

-- an option after a test is `None` if it is so whenever the test passes
none_if : (b : Bool) (o : Option Members) → (b ≡ true → o ≡ None) → cond b o None ≡ None
none_if true o each = each refl
none_if false o each = refl

-- bytes that aren't UTF-8, or spell no document, are refused as no TOML
pub problem_of-refused : (bytes : List ℕ) → (IsUtf8 bytes → parse_document bytes ≡ None) →
    problem_of bytes ≡ Err NotToml
unfolding problem_of document_of
problem_of-refused bytes each =
    rw (none_if (is_utf8 bytes) (parse_document bytes) (λ e. each (IsUtf8-from_is_utf8 bytes e))) refl

-- what code answers is what reading gives, if the code gives it and memory hasn't run out; by the answer
pub answer-is : {T : Type 0} (answer reading : Reading T) → Gives (λ x. x) answer reading → answer ≢ Err OutOfMemory →
    answer ≡ reading
answer-is (Ok x) reading h memory = sym h
answer-is (Err NotToml) reading h memory = sym h
answer-is (Err (BadField place)) reading h memory = sym h
answer-is (Err (DoubleName place)) reading h memory = sym h
answer-is (Err (UnknownName place)) reading h memory = sym h
answer-is (Err (OverLimit what)) reading h memory = sym h
answer-is (Err OutOfMemory) reading h memory = absurd (memory refl)
