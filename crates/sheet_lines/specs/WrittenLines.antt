-- Lines of the sheet, as they are written from lists of jobs.
use Rattle.std.specs.Prelude.{ℕ, zero, suc, ◌+◌, ◌*◌, ◌≤◌, ◌≡◌, List, length, get_or, take, drop, replicate}
use Rattle.spec_text.specs.Numbers.{space}
use Rattle.spec_table.specs.Board.{Board}
use Rattle.spec_table.specs.Table.{Storable}
use Rattle.spec_sheet.specs.Sheet.{field, line_with, lines_of, line_count, sheet}
use Rattle.table_size.specs.declared.Size.{Size}
use Rattle.table_board.specs.BoardView.{Loaded}
use Rattle.sheet_jobs.specs.JobLists.{ListFrom, JobLists}
use Rattle.sheet_fields.specs.Page.{with_text}

-- a list begins with job j
abbrev pub Listed : List ℕ → ℕ → Type 0
Listed next j = (js : List ℕ) × ListFrom next j js

-- a job in its columns, blanks for 0
abbrev pub cell_text : ℕ → List ℕ
cell_text zero = replicate 5 space
cell_text (suc i) = field 5 (suc i)

-- the job after job j, 0 after 0
abbrev pub job_after : List ℕ → ℕ → ℕ
job_after next zero = 0
job_after next (suc i) = get_or next (suc i) 0

-- a line was written: this head, and twelve jobs of the list from job j on; r is the job after them. With no head it is a
-- line from its 9th column on
pub record LineWritten (next page page' head : List ℕ) (at j r : ℕ) : Type 0 where
  pub line : (js : List ℕ) → ListFrom next j js → page' ≡ with_text page at (line_with head (take 12 js))
  pub rest : (js : List ℕ) → ListFrom next j js → ListFrom next r (drop 12 js)

-- the page has room for the lines of the list from job j on
pub record PageRoom (next page : List ℕ) (at j : ℕ) : Type 0 where
  pub jobs : List ℕ
  pub from : ListFrom next j jobs
  pub fits : at + 69 * line_count (length jobs) ≤ length page

-- all lines of the list from job j on were written, the first behind this head; r is the place after them
pub record BenchWritten (next page page' head : List ℕ) (at j r : ℕ) : Type 0 where
  pub lines : (js : List ℕ) → ListFrom next j js → page' ≡ with_text page at (lines_of (length js) head js)
  pub end : (js : List ℕ) → ListFrom next j js → r ≡ at + 69 * line_count (length js)

-- a board that a table of size s can hold, with its loads
pub record LoadedBoard (b : Board) (s : Size) (loads : List ℕ) : Type 0 where
  pub storable : Storable b
  pub benches : b.benches ≡ s.benches
  pub loaded : Loaded b loads

-- the loads are those of such a board
abbrev pub LoadsOf : Size → List ℕ → Type 0
LoadsOf s loads = (b : Board) × LoadedBoard b s loads

-- r is the length of the sheet of every board of this size with these loads
abbrev pub LengthOf : Size → List ℕ → ℕ → Type 0
LengthOf s loads r = (b : Board) → LoadedBoard b s loads → r ≡ length (sheet b)

-- a board with its loads and its jobs listed
pub record Sheeted (b : Board) (s : Size) (loads head next : List ℕ) : Type 0 where
  pub board : LoadedBoard b s loads
  pub lists : JobLists b head next

-- the arrays are of a board whose sheet has room on the page
abbrev pub RoomForAll : Size → List ℕ → List ℕ → List ℕ → List ℕ → Type 0
RoomForAll s loads head next page =
    (b : Board) × Sheeted b s loads head next × (length (sheet b) ≤ length page)

-- the sheet was written at the page's beginning
abbrev pub SheetWritten : Size → List ℕ → List ℕ → List ℕ → List ℕ → List ℕ → Type 0
SheetWritten s loads head next page page' =
    (b : Board) → Sheeted b s loads head next → page' ≡ with_text page 0 (sheet b)
