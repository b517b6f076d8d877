-- What nodes have noted of items is what they have done of them, so frames can be gathered from the notes.
use Rattle.std.proofs.Common.{◌≡◌, ◌≢◌, ℕ, ◌+◌, ◌<◌, Bool, true, false, cond, ◌&&◌, ◌==◌, List, [], ◌∷◌, length, map}
use Rattle.std.proofs.Common.{filter, fold, get_or, replicate, Contains, Option, Some, None, refl, sym, ap, ◌∙◌}
use Rattle.std.proofs.Common.{subst, arith, inl, inr, eq-eqb, ne_eqb}
use Rattle.std.specs.Prelude.{All, option_to_list}
use Rattle.std.specs.Option.{option_map_or}
use Rattle.std.proofs.lemmas.Bool.{cases_eq, cond-true, cond-false}
use Rattle.std.proofs.lemmas.List.{get_or-map, length-map, length-set, get_or-set_same, get_or-set_other}
use Rattle.std.proofs.lemmas.List.{get_or-replicate, length-replicate}
use Rattle.std.proofs.lemmas.Option.{slice_get-get_or}
use Rattle.cpg_base.specs.Graph.{Graph, item_count}
use Rattle.cpg_base.proofs.Lists.{Contains-first, Contains-rest, filter_none}
use Rattle.cpg_base.proofs.Ordered.{Rises}
use Rattle.cpg_table.specs.Table.{NodeTable, Row, table_at, empty_table}
use Rattle.cpg_node.specs.Dispatcher.{Act}
use Rattle.cpg_cluster.specs.Cluster.{World}
use Rattle.cpg_cluster.specs.Taking.{frames_from}
use Rattle.cpg_cluster.specs.Playing.{IsPlaying}
use Rattle.cpg_cluster.specs.Keeping.{HasNoted, frames_of_member, note, AllFit}
use Rattle.cpg_cluster.specs.Kept.{cluster_of}
use Rattle.cpg_cluster.specs.declared.member.Member.{Member}
use Rattle.cpg_cluster.proofs.Plays.{played_of}
use Rattle.cpg_cluster.proofs.Passed.{played_reached}
use Rattle.cpg_cluster.proofs.Rooms.{acts_apart}
use Rattle.cpg_cluster.proofs.Stepping.{tables_of, play_of}
use Rattle.cpg_cluster.proofs.Opening.{hears_items}

-- if no act of `acts` is of item `x`, they change nothing of what is noted of `x`; by induction on `acts`
others_noted : (x : ℕ) (acts : List Act) (noted : List (Option Act)) → ((a : Act) → Contains acts a → a.item ≢ x) →
    get_or (fold note noted acts) x None ≡ get_or noted x None
others_noted x [] noted each = refl
others_noted x (a ∷ acts) noted each = others_noted x acts (note noted a)
    (λ b there. each b (Contains-rest a acts b there)) ∙
    get_or-set_other noted a.item x (Some a) None (λ e. each a (Contains-first a acts) (sym e))

-- if the acts are of different items and nothing is noted of item `x`, then after them the act of `x`, if there is one,
-- is noted; by induction on the acts
noted_once : (x : ℕ) (acts : List Act) (noted : List (Option Act)) → Rises (λ (a b : Act). a.item ≢ b.item) acts →
    x < length noted →
    get_or noted x None ≡ None →
    filter (λ (a : Act). a.item == x) acts ≡ option_to_list (get_or (fold note noted acts) x None)
noted_once x [] noted rising within is = sym (ap option_to_list is)
noted_once x (a ∷ acts) noted rising within is = elim (cases_eq a.item x) [
  | inl same ↦ cond-true (a.item == x) (a ∷ filter (λ (a : Act). a.item == x) acts)
      (filter (λ (a : Act). a.item == x) acts) (eq-eqb a.item x same)
      ∙ ap (λ (l : List Act). a ∷ l)
      (filter_none (λ (a : Act). a.item == x) acts (λ b m. ne_eqb b.item x (λ f. rising.0 b m (same ∙ sym f))))
      ∙ sym (ap option_to_list (others_noted x acts (note noted a) (λ b m f. rising.0 b m (same ∙ sym f)) ∙ here same))
  | inr ne ↦ cond-false (a.item == x) (a ∷ filter (λ (a : Act). a.item == x) acts)
      (filter (λ (a : Act). a.item == x) acts) (ne_eqb a.item x ne)
      ∙ noted_once x acts (note noted a) rising.1 (omega (arith, within, length-set noted a.item (Some a)))
      (get_or-set_other noted a.item x (Some a) None (λ e. ne (sym e)) ∙ is)
]
  where
    -- the notes have the act at its item
    here : a.item ≡ x → get_or (note noted a) x None ≡ Some a
    here same = ap (λ z. get_or (note noted a) z None) (sym same)
        ∙ get_or-set_same noted a.item (Some a) None (omega (arith, within, same))

-- the elements of `xs` that pass both `p` and `q` are the same among all and among those that pass `p`; by induction on
-- the list
both_pass : {X : Type 0} (p q : X → Bool) (xs : List X) →
    filter (λ x. p x && q x) (filter p xs) ≡ filter (λ x. p x && q x) xs
both_pass p q [] = refl
both_pass p q (x ∷ xs) = go (p x) refl (both_pass p q xs)
  where
    -- by whether the first element passes the first test
    go : (b : Bool) → p x ≡ b → filter (λ x. p x && q x) (filter p xs) ≡ filter (λ x. p x && q x) xs →
        filter (λ x. p x && q x) (cond b (x ∷ filter p xs) (filter p xs))
        ≡ cond (b && q x) (x ∷ filter (λ x. p x && q x) xs) (filter (λ x. p x && q x) xs)
    go true e ih = λ i. cond (e i && q x) (x ∷ ih i) (ih i)
    go false e ih = ih

-- if what is noted of item `x` is its act among all acts, the frames of all acts of `x` are that of the noted one
frames_noted : (value : Bool) (x slot time : ℕ) (acts : List Act) (noted : Option Act) →
    filter (λ (a : Act). a.item == x) acts ≡ option_to_list noted →
    frames_from value x slot time (option_to_list noted) ≡ frames_from value x slot time acts
frames_noted value x slot time acts noted is = ap (frames_from value x slot time) (sym is)
    ∙ ap (λ (l : List Act). map (λ (act : Act). record { item = act.item; column = act.column; value = value }) l)
    (both_pass (λ (a : Act). a.item == x) (λ (a : Act). a.time + slot == time) acts)

-- the frames of what member `m`, the sender, has noted of item `x` are those of what it has done of it
pub sender_frames : (ms : List Member) (sender : ℕ) (m : Member) (value : Bool) (x time : ℕ)
    (noted : List (Option Act)) → sender < length ms → m ≡ get_or ms sender m → HasNoted m x →
    noted ≡ m.noted.items →
    frames_from value x m.slot time (option_to_list (get_or noted x None)) ≡ frames_of_member ms value x time sender
sender_frames ms sender m value x time noted within at has is =
    ap (λ (ns : List (Option Act)). frames_from value x m.slot time (option_to_list (get_or ns x None))) is
    ∙ frames_noted value x m.slot time m.acts.items (get_or m.noted.items x None) has
    ∙ sym (ap (λ (o : Option Member). option_map_or (λ (m : Member). frames_from value x m.slot time m.acts.items) o [])
    (slice_get-get_or ms sender m within ∙ ap (λ (m : Member). Some m) (sym at)))

-- given a play
module _ (g : Graph) (w : World) (ms : List Member) (playing : IsPlaying (play_of g w ms)) where
  -- in a play each member `i` has noted what it has done of item `x`: its notes are those of its acts, which are of
  -- different items
  pub all_noted : AllFit g ms → (i x : ℕ) (d : Member) → i < length ms → x < item_count g → HasNoted (get_or ms i d) x
  all_noted fits i x d inside within =
      let played = played_of g (tables_of ms) playing.formed playing.shape playing.valid w playing.world in
      let on : i < length g.nodes =
      omega (arith, inside, playing.shape.count, length-map ms (λ (m : Member). m.node.dispatcher.table)) in
      let state = (played_reached played (cluster_of ms) playing.played).holds i on in
      let is : get_or (cluster_of ms).acts i [] ≡ (get_or ms i d).acts.items =
      get_or-map (λ (m : Member). m.acts.items) ms i d [] inside in
      noted_once x (get_or ms i d).acts.items (replicate (item_count g) None)
      (subst (Rises (λ (a b : Act). a.item ≢ b.item)) is
      (acts_apart played i on state.last (get_or (cluster_of ms).acts i []) state.done))
      (omega (arith, within, length-replicate {A = Option Act} (item_count g) None))
      (get_or-replicate (item_count g) x None None within)
      ∙ ap (λ (s : List (Option Act)). option_to_list (get_or s x None)) (sym (fits i d inside).noted)

  -- member `m`, the one of node `a`, hears only items of the graph
  pub hears_there : (a : ℕ) (m : Member) → m ≡ get_or ms a m → a < length ms →
      All (λ (row : Row). row.item < item_count g) m.node.dispatcher.table.hears
  hears_there a m at within =
      let table : table_at (tables_of ms) a ≡ m.node.dispatcher.table =
      get_or-map (λ (m : Member). m.node.dispatcher.table) ms a m empty_table within ∙
      ap (λ (m : Member). m.node.dispatcher.table) (sym at) in
      subst (λ (t : NodeTable). All (λ (row : Row). row.item < item_count g) t.hears) table
      (hears_items g (tables_of ms) playing.valid a
      (omega (arith, within, length-map ms (λ (m : Member). m.node.dispatcher.table))))
