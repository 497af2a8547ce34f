-- The sheet of a sound table: refused where the page is too short, written where it is not.
use Prim.Native.Nat.{ℕ, ◌≤◌, ◌<◌}
use native.Mathlib.Omega.{arith}
use native.Mathlib.Nat.{zero-add}
use mathlib.Core.Path.{◌≡◌, ◌∙◌}
use mathlib.Core.List.{List}
use lib.ListN.{length}
use Rattle.spec_table.specs.Table.{decode}
use Rattle.spec_sheet.specs.Sheet.{sheet}
use Rattle.spec_calls.specs.Calls.{ask, wall_sheet, outcome, sheet_told}
use Rattle.spec_calls.proofs.Sheets.{sheet_answered, sheet_refused}
use Rattle.table_size.specs.declared.Size.{Size}
use Rattle.table_size.specs.Sizes.{SoundTable}
use Rattle.table_board.specs.BoardView.{Loaded}
use Rattle.sheet_jobs.specs.JobLists.{JobLists}
use Rattle.sheet_lines.specs.WrittenLines.{LoadedBoard, LengthOf, Sheeted, SheetWritten}
use Rattle.std.specs.Prelude.{Ok, Err}
use Rattle.board_answers.specs.Answered.{Leaves}
use Rattle.table_refusals.specs.declared.Refusal.TheVariants as code
use Rattle.board_answers.specs.declared.Answer.TheVariants as told
use Rattle.board_answers.proofs.Formal.{answered_leaves, refused_leaves}

module _ {t loads : List ℕ} {s : Size} (z : SoundTable t s) (l : Loaded (decode t) loads) where
  -- the table's board has these loads
  loaded_board : LoadedBoard (decode t) s loads
  loaded_board = record { storable = z.storable; benches = z.size.board_benches; loaded = l }

  module _ {n : ℕ} (m : LengthOf s loads n) (page : List ℕ) where
    -- what was computed is the sheet's length
    length_is : n ≡ length (sheet (decode t))
    length_is = m (decode t) loaded_board

    -- a page that is shorter gives 11 ..
    pub short_refused : length page < n → Leaves (outcome (ask wall_sheet page) t) (Err code.PageTooShort) t page
    short_refused h = refused_leaves code.PageTooShort (ask wall_sheet page) t (sheet_refused t z.sound page (omega (arith, length_is)))

    module _ {head next : List ℕ} (j : JobLists (decode t) head next) (h : n ≤ length page) where
      -- the table's board, its jobs listed
      sheeted : Sheeted (decode t) s loads head next
      sheeted = record { board = loaded_board; lists = j }

      -- .. and any other gets it
      pub sheet_written : (u : List ℕ) → SheetWritten s loads head next page u → Leaves (outcome (ask wall_sheet page) t) (Ok (told.Sheet n)) t u
      unfolding sheet_told
      sheet_written u w = answered_leaves (sheet_answered t z.sound page (omega (arith, length_is)) ∙ rw (w (decode t) sheeted, length_is, zero-add))
