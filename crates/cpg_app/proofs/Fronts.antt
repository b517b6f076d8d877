-- What a run packed is rejected, if it is cut short, at the place where it ends.
use Rattle.std.proofs.Common.{ℕ, ◌≡◌, ◌<◌, ◌≤◌, ◌∙◌, Option, length, take, sym, ap, subst, arith, inl, inr, true≢false}
use Rattle.std.specs.Prelude.{◌⊎◌}
use Rattle.std.proofs.lemmas.List.{length-take}
use Rattle.cpg_base.specs.Graph.{Graph}
use Rattle.cpg_history.specs.Fetch.{Fetch}
use Rattle.cpg_words.specs.Parts.{Text}
use Rattle.cpg_table.specs.Lawful.{Tables}
use Rattle.cpg_codec.specs.Packs.{IsBadPack}
use Rattle.cpg_laws.proofs.Fronts.{fronts_of_packs}
use Rattle.cpg_laws.proofs.Packs.{packs_are_refused_at_one_place}
use Rattle.cpg_refusal.specs.declared.halt.Halt.{Halt}
use Rattle.cpg_refusal.specs.declared.halt.Halt.TheVariants.{Memory, Refused}
use Rattle.cpg_refusal.specs.declared.halt.Refusal.TheVariants.{BadPack}
use Rattle.cpg_inputs.specs.declared.kind.FileKind.TheVariants.{PackFile}
use Rattle.cpg_inputs.specs.Files.{file, limit_of}
use Rattle.cpg_inputs.specs.Says.{Value}
use Rattle.cpg_inputs.specs.Reading.{IsRead, StopsAt}
use Rattle.cpg_app.specs.Outputs.{packed as packed_of}
use Rattle.cpg_app.specs.Joined.{GaveAll, FrontsAreRefused}
use Rattle.cpg_app.proofs.Joined.{IsOutputFor, pack_of}

-- given the pack of an admitted graph, and a number n of bytes less than it has
module _ (g : Graph) (pack : Text) (is : IsOutputFor packed_of g pack) (n : ℕ) (l : n < length pack) where
  -- the tables that were packed
  abbrev tables : Tables
  tables = is.made_of.compiled.built.tables

  -- the front has n bytes
  front : length (take n pack) ≡ n
  front = omega (arith, length-take n pack, l)

  -- the front of the pack is no pack from its end on
  bad : IsBadPack (take n pack) n
  bad = subst (λ (bytes : Text). IsBadPack (take n bytes) n) (sym is.made_of.spelled)
      (fronts_of_packs tables n is.made_of.pack.lawful
      (subst (λ (bytes : Text). n < length bytes) is.made_of.spelled l))

  -- what a fetch gave of the front is no pack from its end on
  of_fetch : (fetch : Fetch) → GaveAll fetch (take n pack) → IsBadPack fetch.given n
  of_fetch fetch gave = subst (λ bytes. IsBadPack bytes n) (sym gave.given) bad

  -- what was given is within the limit of packs
  short : (fetch : Fetch) → GaveAll fetch (take n pack) → length fetch.given ≤ limit_of PackFile
  short fetch gave = omega (
    arith,
    ap (λ (bytes : Text). length bytes) gave.given,
    front,
    l,
    subst (λ (bytes : Text). length bytes ≤ limit_of PackFile) (sym is.made_of.spelled) is.made_of.pack.short,
  )

  -- if what was given is no pack from some place on, this place is its end
  one_place : (fetch : Fetch) (m : ℕ) → GaveAll fetch (take n pack) → IsBadPack fetch.given m → m ≡ length (take n pack)
  one_place fetch m gave other =
      (packs_are_refused_at_one_place fetch.given).one m n other (of_fetch fetch gave) ∙ sym front

  -- a fetch of the front isn't read as any value, as the front spells no tables
  unread : (o : Option Graph) (fetch : Fetch) (value : Value) → GaveAll fetch (take n pack) →
      IsRead o (file PackFile fetch.name) fetch value → ⊥
  unread o fetch value gave is_read =
      (of_fetch fetch gave).no_pack is_read.says.0 is_read.says.2.lawful is_read.says.2.spelled

  -- If a fetch of the front stops a run, it is rejected at its end, or memory ran out. By why it stops: the fetch met
  -- no fault, and the front isn't too long.
  stops : (o : Option Graph) (fetch : Fetch) (halt : Halt) → GaveAll fetch (take n pack) →
      StopsAt o (file PackFile fetch.name) fetch halt →
      (halt ≡ Refused (BadPack (length (take n pack)))) ⊎
      (halt ≡ Memory)
  stops o fetch halt gave (inl unread_file) = absurd (true≢false (sym unread_file.failed ∙ gave.sound))
  stops o fetch halt gave (inr (inl long)) = absurd (let few = short fetch gave in omega (arith, few, long.over))
  stops o fetch halt gave (inr (inr (inl refused))) = inl (refused.refuses.halt_is
      ∙ ap (λ m. Refused (BadPack m)) (one_place fetch refused.refuses.length gave refused.refuses.bad))
  stops o fetch halt gave (inr (inr (inr wanting))) = inr wanting.halt_is

-- a pack that is cut short is rejected at the place where it ends, unless memory runs out
pub fronts_are_refused : FrontsAreRefused
fronts_are_refused r g pack n has l = let is = pack_of r g pack has in
    record { unread = unread g pack is n l; stops = stops g pack is n l }
