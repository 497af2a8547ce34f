-- A sheet as it is pinned up, and a page read back.
use mathlib.Core.Path.{◌≡◌, refl}
use mathlib.Core.List.{[], ◌∷◌, ◌++◌, map, flat_map}
use lib.ListN.{replicate}
use Rattle.spec_lists.specs.Lists.{range}
use Rattle.spec_text.specs.Numbers.{number}
use Rattle.spec_text.specs.Text.{text}
use Rattle.spec_sheet.specs.Sheet.{bench_lines, sheet}
use Rattle.spec_sheet.specs.Reading.{read_sheet}

-- thirteen jobs on one of two benches: "when there are more than twelve, the next line starts with 8 blanks", "A bench without jobs has one line"
pub thirteen_jobs : sheet (record { benches = 2; named = replicate 13 (1 ∷ 2 ∷ []); holders = replicate 13 1 }) ≡
    text "  1   13    1    2    3    4    5    6    7    8    9   10   11   12\n" ++
    text "           13                                                       \n" ++
    text "  2    0                                                            \n"
unfolding sheet bench_lines flat_map
thirteen_jobs = refl

-- a page of three benches, read back by columns: a line that starts with 8 blanks is of the bench before
pub read_back : read_sheet (
    text "  1   13    1    2    3    4    5    6    7    8    9   10   11   12\n" ++
    text "           14                                                       \n" ++
    text "  2    0                                                            \n" ++
    text "  3    1   13                                                       \n") ≡ map (λ j. (j, 1)) (range 1 12) ++ ((14, 1) ∷ (13, 3) ∷ [])
unfolding read_sheet number
read_back = refl
