-- The other commands accept what a run packed, and it asks the same as what `show` prints.
use Rattle.std.proofs.Common.{ℕ, ◌≡◌, ◌<◌, ◌≤◌, ◌∙◌, Bool, true, false, List, [], ◌∷◌, Option, Some, None, append-nil}
use Rattle.std.proofs.Common.{get_or, length, refl, sym, ap, subst, arith, inl, inr, lt-ltb, true≢false}
use Rattle.std.specs.Prelude.{position}
use Rattle.std.specs.List.{position_or_len}
use Rattle.std.specs.Str.{bytes_eq}
use Rattle.std.proofs.lemmas.Bool.{cases_lt, cond-true}
use Rattle.std.proofs.lemmas.List.{append_cancel_left}
use Rattle.std.proofs.lemmas.List.Sums.{fails_before_first}
use Rattle.std.proofs.lemmas.Slice.Eq.{bytes_eq-Decides}
use Rattle.cpg_base.specs.Graph.{Graph}
use Rattle.cpg_history.specs.Fetch.{Fetch}
use Rattle.cpg_words.specs.Parts.{Text}
use Rattle.cpg_words.specs.declared.command.Command.{Command}
use Rattle.cpg_words.specs.declared.command.Command.TheVariants.{Show, Compile, Node}
use Rattle.cpg_rules.specs.Admission.{Admission, IsAdmitted}
use Rattle.cpg_head.specs.Head.{Head}
use Rattle.cpg_table.specs.Lawful.{Tables}
use Rattle.cpg_codec.specs.Packs.{AreLawful}
use Rattle.cpg_codec.specs.Spelling.{spelling}
use Rattle.cpg_codec.proofs.Theorems.{one_spelling}
use Rattle.cpg_table.specs.Valid.{IsValid}
use Rattle.cpg_violation.specs.Heads.{IsHeadFor}
use Rattle.cpg_violation.proofs.HeadLaws.{own_head}
use Rattle.cpg_core.specs.declared.compiling.Compiled.{Compiled}
use Rattle.cpg_core.specs.Compilation.{IsCompilation}
use Rattle.cpg_core.proofs.CompiledLaws.{first_topological}
use Rattle.cpg_core.proofs.OneCompilation.{ask_the_same}
use Rattle.cpg_order.proofs.Urgent.{one_urgency_order}
use Rattle.cpg_order.specs.Urgency.{IsUrgencyOrder}
use Rattle.cpg_refusal.specs.declared.halt.Halt.{Halt}
use Rattle.cpg_refusal.specs.declared.halt.Halt.TheVariants.{Memory}
use Rattle.cpg_inputs.specs.declared.kind.FileKind.TheVariants.{GraphFile, PackFile}
use Rattle.cpg_inputs.specs.Files.{file, files_of, limit_of}
use Rattle.cpg_inputs.specs.Says.{Value, graph_value, tables_value}
use Rattle.cpg_inputs.specs.Shapes.{OnGraph}
use Rattle.cpg_inputs.specs.Reading.{IsRead, Reads, StopsAt}
use Rattle.cpg_inputs.proofs.OneReading.{AreAlike, moved, stops_memory, values_lawful}
use Rattle.cpg_app.specs.Causes.{first_named}
use Rattle.cpg_app.specs.Outputs.{ArePackOf, AreSafe, IsMadeOf, PutsOut, shown, packed as packed_of}
use Rattle.cpg_app.specs.Endings.{Ran}
use Rattle.cpg_app.specs.Lawful.{Asks, AsksVerdict, IsLawful}
use Rattle.cpg_outputs.specs.Told.{Whole}
use Rattle.cpg_app.specs.Joined.{GaveAll, HasMade, HasShown, HasPacked, EndsWell, PacksAreTaken, ShowAndCompileAgree}
use Rattle.cpg_app.proofs.Asked.{on_graph, printed}
use Rattle.cpg_app.proofs.Shown.{tables_lawful}
use Rattle.cpg_app.proofs.Streamed.{is_live, other_words}

-- ---- what was written

-- what a sink took is what was put out
put_out : (r : Ran) (bytes text : Text) → Whole r.out bytes → Whole r.out text → bytes ≡ text
put_out r bytes text wrote took = append_cancel_left r.out.old bytes text (sym wrote.taken ∙ took.taken)

-- bytes that are made of one admission `b` of a graph are made of another, `a`, that is alike
made_again : (a b : Admission) → AreAlike a b → (spell : Graph → Compiled → Text) (bytes : Text) →
    IsMadeOf b spell bytes →
    IsMadeOf a spell bytes
made_again a b same spell bytes made =
    let compilation_of = made.compiled in
    let moved_all =
    moved a b same (λ g order. IsCompilation g order compilation_of × ArePackOf g compilation_of.built.tables ×
    AreSafe g compilation_of.built.tables.nodes × (bytes ≡ spell g compilation_of))
    (made.compilation, made.pack, made.safe, made.spelled) in
    record {
      compiled = compilation_of;
      compilation = moved_all.0;
      pack = moved_all.1;
      safe = moved_all.2;
      spelled = moved_all.3;
    }

-- the graph is admitted, and the bytes are those that `spell` gives for one of its compilations
pub record IsOutputFor (spell : Graph → Compiled → Text) (g : Graph) (made : Text) : Type 0 where
  -- an admission of this graph
  pub admission : Admission
  pub of : admission.graph ≡ g
  -- its order and guards are those that admission gives
  pub admitted : IsAdmitted admission.graph admission.order admission.guards
  -- the bytes are made of it
  pub made_of : IsMadeOf admission spell made

-- What a command wrote for a graph is its output for it, given that the command puts out what `spell` gives for a
-- compilation of the file's graph (`puts`), isn't `live` (`dead`), and reads the graph file alone (`files`). The run
-- ended with status 0, so it printed its output whole: it didn't follow a stream.
output_of : (asked : Text → Command) (spell : Graph → Compiled → Text) →
    ((graph text : Text) (vs : List Value) → PutsOut (asked graph) vs text →
    OnGraph vs (λ a. IsMadeOf a spell text)) →
    ((graph : Text) → is_live (Some (asked graph)) ≡ false) →
    ((graph : Text) → files_of (asked graph) ≡ file GraphFile graph ∷ []) → (r : Ran) (g : Graph) (made : Text) →
    HasMade asked r g made → IsOutputFor spell g made
output_of asked spell puts dead files r g made has = elim (has.lawful.done has.done) [
  | inl out ↦
      let asked_for = has.admission in
      let put = printed r (asked has.graph) (graph_value asked_for ∷ []) has.has out.0 out.1 in
      let made_here = on_graph asked_for put.0 (λ b. IsMadeOf b spell out.0) put.1 (puts has.graph out.0 put.0 put.2) in
      record {
        admission = asked_for;
        of = has.of;
        admitted = (values_lawful None (file GraphFile has.graph ∷ []) r.shelf.old.history r.shelf.new.history
            (graph_value asked_for ∷ [])
            (subst (λ fs. Reads None fs r.shelf.old.history r.shelf.new.history (graph_value asked_for ∷ []))
            (files has.graph) has.has.reads)).0;
        made_of = subst (λ text. IsMadeOf asked_for spell text) (sym (put_out r made out.0 has.wrote out.2.out))
            (made_again asked_for made_here.0 made_here.1 spell out.0 made_here.2);
      }
  | inr closed ↦ absurd (other_words r closed.follows (Some (asked has.graph)) (dead has.graph) has.has.words)
]

-- what `show` wrote for a graph is its output for it
shown_of : (r : Ran) (g : Graph) (text : Text) → HasShown r g text → IsOutputFor shown g text
shown_of = output_of Show shown (λ graph text vs puts. puts) (λ graph. refl) (λ graph. refl)

-- what `compile` wrote for a graph is its output for it
pub pack_of : (r : Ran) (g : Graph) (pack : Text) → HasPacked r g pack → IsOutputFor packed_of g pack
pack_of = output_of Compile packed_of (λ graph text vs puts. puts) (λ graph. refl) (λ graph. refl)

-- ---- names of nodes

-- if the element at place `i` of `xs` passes test `p`, there is a first place `j` whose element does
found : {X : Type 0} (p : X → Bool) (xs : List X) (i : ℕ) (d : X) → i < length xs → p (get_or xs i d) ≡ true →
    (j : ℕ) × (position p xs ≡ Some j)
found p xs i d inside passes = elim (cases_lt (position_or_len p xs) (length xs)) [
  | inl lt ↦ (position_or_len p xs, cond-true _ _ _ (lt-ltb (position_or_len p xs) (length xs) lt))
  | inr ge ↦ absurd (true≢false (sym passes ∙ fails_before_first p xs i d (omega (arith, ge, inside))))
]

-- a text passes the test of equality with itself
same_text : (text : Text) → bytes_eq text text ≡ true
same_text text = (bytes_eq-Decides text text).1 refl

-- for each node, some node is the first that has its name
node_named : (h : Head) (node : ℕ) → node < length h.nodes →
    (first : ℕ) × (first_named h (get_or h.nodes node []) ≡ Some first)
node_named h node is_node =
    found (λ other. bytes_eq other (get_or h.nodes node [])) h.nodes node [] is_node
    (same_text (get_or h.nodes node []))

-- ---- the pack is taken

-- given the pack of an admitted graph
module _ (g : Graph) (pack : Text) (is : IsOutputFor packed_of g pack) where
  -- the tables that were packed
  abbrev tables : Tables
  tables = is.made_of.compiled.built.tables

  -- lawful tables that the bytes spell are those that were packed
  same_tables : (t : Tables) → AreLawful t → pack ≡ spelling t → tables ≡ t
  same_tables t lawful spelled = (one_spelling tables t [] is.made_of.pack.lawful lawful
      (sym is.made_of.spelled ∙ (spelled ∙ sym (append-nil (spelling t))))).0

  -- the tables have the head of the graph
  head_is : IsHeadFor is.admission.graph tables.head
  head_is = subst (IsHeadFor is.admission.graph) (sym is.made_of.pack.head) (own_head is.admission.graph)

  -- A run `r` that asks to judge the pack for its graph ends well: the tables `t` are those that were packed, which
  -- have the graph's head and are valid.
  judged : (r : Ran) (a : Admission) (t : Tables) → IsLawful r → a.graph ≡ g → pack ≡ spelling t → AsksVerdict r a t →
      EndsWell r
  judged r a t lawful of spelled asks =
      let same = same_tables t (tables_lawful r a t asks) spelled in
      let graph : is.admission.graph ≡ a.graph = is.of ∙ sym of in
      lawful.safe a t asks
      (subst (λ h. IsHeadFor h t.head) graph (subst (λ (u : Tables). IsHeadFor is.admission.graph u.head) same head_is))
      (subst (λ h. IsValid h t.nodes) graph
      (subst (λ (u : Tables). IsValid is.admission.graph u.nodes) same is.made_of.safe.valid))

  -- A run `r` that asks for the table of one of the graph's nodes ends well: the tables `t` have the graph's nodes, so
  -- one is the first that has the name.
  taken : (r : Ran) (path : Text) (t : Tables) (node : ℕ) → IsLawful r → pack ≡ spelling t → node < length g.nodes →
      Asks r (Node path (get_or g.nodes node [])) (tables_value t ∷ []) → EndsWell r
  taken r path t node lawful spelled is_node asks =
      let same = same_tables t (values_lawful None (files_of (Node path (get_or g.nodes node []))) r.shelf.old.history
      r.shelf.new.history (tables_value t ∷ []) asks.has.reads).0 spelled in
      let nodes : t.head.nodes ≡ g.nodes =
      ap (λ (u : Tables). u.head.nodes) (sym same) ∙ (head_is.nodes ∙ ap (λ (h : Graph). h.nodes) is.of) in
      let named = node_named t.head node (let count : length t.head.nodes ≡ length g.nodes = ap length nodes in
      omega (arith, count, is_node)) in
      lawful.named path (get_or g.nodes node []) t named.0 asks
      (subst (λ (ns : List Text). first_named t.head (get_or ns node []) ≡ Some named.0) nodes named.1)

  -- a fetch that gave the whole pack is read as its tables `t`, whatever graph `o` was read before
  read : (o : Option Graph) (fetch : Fetch) → GaveAll fetch pack →
      (t : Tables) × IsRead o (file PackFile fetch.name) fetch (tables_value t) × (pack ≡ spelling t)
  read o fetch gave =
      let given_is : fetch.given ≡ spelling tables = gave.given ∙ is.made_of.spelled in
      let short : length fetch.given ≤ limit_of PackFile =
      subst (λ (bytes : Text). length bytes ≤ limit_of PackFile) (sym given_is) is.made_of.pack.short in (
        tables,
        record {
          whole = record { named = refl; ended = gave.ended; sound = gave.sound; short = short };
          says = (tables, refl, record { spelled = given_is; lawful = is.made_of.pack.lawful });
        },
        is.made_of.spelled,
      )

  -- if a fetch that gave the whole pack stops a run, memory ran out, as the pack is also read
  unstopped : (o : Option Graph) (fetch : Fetch) (halt : Halt) → GaveAll fetch pack →
      StopsAt o (file PackFile fetch.name) fetch halt → halt ≡ Memory
  unstopped o fetch halt gave stops =
      let all = read o fetch gave in
      stops_memory o (file PackFile fetch.name ∷ []) [] (fetch ∷ []) (tables_value all.0 ∷ []) halt (fetch, all.1, refl)
      (fetch, inl (stops, refl))

-- the other commands accept the pack that `compile` wrote
pub packs_are_taken : PacksAreTaken
packs_are_taken r g pack has = let is = pack_of r g pack has in record {
  read = read g pack is;
  unstopped = unstopped g pack is;
  judged = judged g pack is;
  printed = taken g pack is;
}

-- ---- what is shown and what is packed ask the same

-- two admissions `a` and `b` of one graph are alike, as it has one urgency order
alike : (g : Graph) (a b : Admission) → a.graph ≡ g → b.graph ≡ g → IsAdmitted a.graph a.order a.guards →
    IsAdmitted b.graph b.order b.guards → AreAlike a b
alike g a b a_is b_is a_admitted b_admitted =
    let same : b.graph ≡ a.graph = b_is ∙ sym a_is in
    record {
      graph = same;
      order =
          one_urgency_order a.graph b.order a.order (subst (λ h. IsUrgencyOrder h b.order) same b_admitted.urgency)
          a_admitted.urgency;
    }

-- What `show` printed and what `compile` wrote for one graph are of one admitted graph. Both are made of a compilation
-- of it, and two compilations ask the same in every scenario (`ask_the_same`).
pub show_and_compile_agree : ShowAndCompileAgree
show_and_compile_agree r q g text pack shows packs =
    let one = shown_of r g text shows in
    let other = pack_of q g pack packs in
    let shown_one = one.admission in
    let made = made_again shown_one other.admission
    (alike g shown_one other.admission one.of other.of one.admitted other.admitted) packed_of pack other.made_of in
    record {
      admission = shown_one;
      of = one.of;
      admitted = one.admitted;
      shows = one.made_of;
      packs = made;
      same = ask_the_same shown_one.graph one.admitted.well_formed shown_one.order one.admitted.topological
          (first_topological shown_one.graph shown_one.order one.admitted.topological one.admitted.given)
          one.made_of.compiled
          made.compiled one.made_of.compilation made.compilation;
    }
