-- Bytes that begin with the literals of the column before.
use Rattle.std.proofs.Common.{ℕ, ◌≡◌, ◌+◌, ◌-◌, ◌≤◌, List, ◌++◌, length, take, drop}
use Rattle.std.proofs.Common.{sym, ap, ◌∙◌, subst, arith, append_assoc}
use Rattle.std.specs.List.{flat_map}
use Rattle.std.proofs.Math.Seq.{take-add}
use Rattle.std.proofs.lemmas.Grind.{flat_map-append}
use Rattle.std.proofs.lemmas.List.{take-append-drop, take_all, length-drop}
use Rattle.cpg_cube.specs.declared.literal.Literal.{Literal}
use Rattle.cpg_codec.specs.Spelling.{literal_bytes}
use Rattle.cpg_codec.specs.Fronts.{HasFront}

-- if the first m bytes spell the first n literals, the bytes begin with these, and the others come after them
front_block : (ls : List Literal) (bytes : List ℕ) (most n m : ℕ) → n ≤ length ls → n ≤ most →
    flat_map literal_bytes (take n ls) ≡ take m bytes →
    HasFront ls bytes most n (drop m bytes)
front_block ls bytes most n m within few same = record {
  spelled = sym (take-append-drop m bytes) ∙ ap (λ bs. bs ++ drop m bytes) (sym same);
  within = within;
  few = few;
}

-- as many elements as there are from place n on are all from there on
rest_from : (n : ℕ) (ls : List Literal) → take (length ls - n) (drop n ls) ≡ drop n ls
rest_from n ls = take_all (length ls - n) (drop n ls) (omega (arith, length-drop n ls))

-- if bytes begin with n literals of a list, and the rest begins with m of those after them, the bytes begin with n + m;
-- the two spellings are joined, and n + m is within the list and at most `most`
behind_more : (ls : List Literal) (bytes : List ℕ) (most n : ℕ) (rest : List ℕ) (m : ℕ) (behind : List ℕ) →
    HasFront ls bytes most n rest → HasFront (drop n ls) rest (most - n) m behind →
    HasFront ls bytes most (n + m) behind
behind_more ls bytes most n rest m behind has_front more =
    let left : length (drop n ls) ≡ length ls - n = length-drop n ls in
    record {
      spelled = has_front.spelled ∙ ap (λ bs. flat_map literal_bytes (take n ls) ++ bs) more.spelled
          ∙ sym (append_assoc (flat_map literal_bytes (take n ls)) (flat_map literal_bytes (take m (drop n ls))) behind)
          ∙ ap (λ bs. bs ++ behind) (sym (flat_map-append literal_bytes (take n ls) (take m (drop n ls)))
          ∙ ap (flat_map literal_bytes) (sym (take-add n m ls)));
      within = omega (arith, has_front.within, more.within, left);
      few = omega (arith, has_front.few, more.few);
    }

-- the same, with the literals after the first n as a slice
pub front_more : (ls : List Literal) (bytes : List ℕ) (most n : ℕ) (rest : List ℕ) (m : ℕ) (behind : List ℕ) →
    HasFront ls bytes most n rest → HasFront (take (length ls - n) (drop n ls)) rest (most - n) m behind →
    HasFront ls bytes most (n + m) behind
front_more ls bytes most n rest m behind has_front more = behind_more ls bytes most n rest m behind has_front
    (subst (λ xs. HasFront xs rest (most - n) m behind) (rest_from n ls) more)

-- if bytes begin with n literals, and the next m bytes spell the next k literals, the bytes begin with n + k; `left` and
-- `rest` are the literals and bytes after the first ones, `block` and `spelled` what is next in them
pub block_more : (ls left block others : List Literal) (bytes rest spelled after : List ℕ) (most n k m : ℕ) →
    HasFront ls bytes most n rest → left ≡ drop n ls → k ≤ most - n → block ≡ take k left →
    length others + k ≡ length left → spelled ≡ take m rest → after ≡ drop m rest →
    flat_map literal_bytes block ≡ spelled →
    HasFront ls bytes most (n + k) after
block_more ls left block others bytes rest spelled after most n k m has_front l few is long said also same =
    let size : length left ≡ length (drop n ls) = ap length l in
    let one = front_block (drop n ls) rest (most - n) k m (omega (arith, size, long)) few
    (sym (ap (flat_map literal_bytes) (is ∙ ap (take k) l)) ∙ same ∙ said) in
    behind_more ls bytes most n rest k after has_front
    (subst (λ bs. HasFront (drop n ls) rest (most - n) k bs) (sym also) one)
