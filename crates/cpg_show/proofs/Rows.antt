-- The text of tables by their rows: with each item that has lines, a sheet has one more part.
use Rattle.std.proofs.Common.{◌≡◌, ℕ, ◌+◌, List, [], ◌∷◌, ◌++◌, if◌then◌else◌, true, false, refl, flat_map}
use Rattle.std.proofs.Common.{string_bytes, append-nil, sym, ap, ap₂, ◌∙◌}
use Rattle.std.proofs.lemmas.Grind.{flat_map-append}
use Rattle.cpg_base.specs.Graph.{Graph, item_count}
use Rattle.cpg_base.specs.Numbers.{numbers_below}
use Rattle.cpg_base.proofs.Lists.{below_push, same_flat_map}
use Rattle.cpg_cube.specs.declared.column.Column.{Column}
use Rattle.cpg_tree_columns.specs.Sources.{ShowsSource}
use Rattle.cpg_tree_columns.specs.declared.made_row.RowSource.{RowSource}
use Rattle.cpg_tree_columns.specs.declared.made_row.RowSource.TheVariants.{Listed, Kept}
use Rattle.cpg_table.specs.Table.{NodeTable, Row, columns_of}
use Rattle.cpg_table.specs.Writing.{row_for}
use Rattle.cpg_label.specs.CubeText.{columns_text}
use Rattle.cpg_label.specs.Labels.{Labels, labels_of}
use Rattle.cpg_show.specs.Sheet.{columns_of_source, part_text}
use Rattle.cpg_show.specs.TableText.{head_line, is_shown, item_text, lines_of_row, order_line, table_text, text_of_rows}
use Rattle.cpg_show.specs.TableText.{worst_line}
use Rattle.cpg_show.specs.declared.sheet.SheetPart.{SheetPart}

-- if a source shows these columns, they are the columns of the source
source_shows : (source : RowSource) (columns : List Column) → ShowsSource source columns →
    columns_of_source source ≡ columns
source_shows (Listed listed) columns is = is
source_shows (Kept tree) columns is = is

-- the text of parts with one more at the end is theirs and then its text
pushed : (labels : Labels) (rows : List SheetPart) (part : SheetPart) →
    flat_map (part_text labels) (rows ++ part ∷ []) ≡ flat_map (part_text labels) rows ++ part_text labels part
pushed labels rows part = flat_map-append (part_text labels) rows (part ∷ [])
    ∙ ap (λ t. flat_map (part_text labels) rows ++ t) (append-nil (part_text labels part))

-- given `made`, a row for each item, and the parts (`rows`) of the items below n
module _ (g : Graph) (made : List Row) (labels : Labels) (n : ℕ) (rows : List SheetPart) where
  -- the lines of the items below n + 1 are those of the items below n and then those of item n
  next : flat_map (lines_of_row g made) (numbers_below (n + 1)) ≡ flat_map (lines_of_row g made) (numbers_below n)
      ++ lines_of_row g made n
  next = ap (flat_map (lines_of_row g made)) (below_push n)
      ∙ flat_map-append (lines_of_row g made) (numbers_below n) (n ∷ []) ∙
      ap (λ t. flat_map (lines_of_row g made) (numbers_below n) ++ t) (append-nil (lines_of_row g made n))

  -- an item n without lines adds no part: the parts are those of the items below n + 1
  pub hidden_more : is_shown g n ≡ false →
      flat_map (lines_of_row g made) (numbers_below n) ≡ flat_map (part_text labels) rows →
      flat_map (lines_of_row g made) (numbers_below (n + 1)) ≡ flat_map (part_text labels) rows
  hidden_more hidden so_far =
      let none : lines_of_row g made n ≡ [] = rw hidden refl in
      next ∙ ap (λ t. flat_map (lines_of_row g made) (numbers_below n) ++ t) none
      ∙ append-nil (flat_map (lines_of_row g made) (numbers_below n)) ∙ so_far

  -- an item n with lines adds its part: with it, the parts are those of the items below n + 1
  pub shown_more : (part : SheetPart) → is_shown g n ≡ true → labels ≡ labels_of g →
      string_bytes part.head ≡ head_line g n →
      ShowsSource part.columns (row_for made n).columns →
      flat_map (lines_of_row g made) (numbers_below n) ≡ flat_map (part_text labels) rows →
      flat_map (lines_of_row g made) (numbers_below (n + 1)) ≡ flat_map (part_text labels) (rows ++ part ∷ [])
  shown_more part shown names head columns so_far =
      let one : lines_of_row g made n ≡ part_text labels part =
      rw shown (sym (ap₂ (λ h cs. h ++ cs) head
      (ap₂ columns_text names (source_shows part.columns (row_for made n).columns columns)))) in
      next ∙ ap₂ (λ before last. before ++ last) so_far one ∙ sym (pushed labels rows part)

-- the text of tables in which each item has the columns of its row is the text of these rows
pub tables_have_text : (g : Graph) (order : List ℕ) (rows : List Row) (worst : ℕ) (tables : List NodeTable) →
    ((x : ℕ) → columns_of tables x ≡ (row_for rows x).columns) →
    table_text g order tables worst ≡ text_of_rows g order rows worst
tables_have_text g order rows worst tables same =
    ap (λ lines. order_line g order ++ worst_line worst ++ lines)
    (same_flat_map (item_text g tables) (lines_of_row g rows) (numbers_below (item_count g))
    (λ x listed. ap (λ columns. if is_shown g x then head_line g x ++ columns_text (labels_of g) columns else [])
    (same x)))
