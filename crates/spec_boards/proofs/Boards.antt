-- The ● boards of 01: one table, one theorem, by computation.
use mathlib.Core.Path.{◌≡◌, refl}
use mathlib.Core.List.{map, flat_map}
use Rattle.spec_table.specs.Board.{heaviest}
use Rattle.spec_table.specs.Table.{sizes_fit, layout, formed, fits, sound, board_of, decode, layout_of, flat, encode, blank_table}
use Rattle.spec_sharing.specs.Paths.{steps, paths_from, improves, improving_from, improving, improving_to, flip}
use Rattle.spec_sharing.specs.Sharing.{arrival_choice, closing_choice, levelling_choice, arrive, close, level, closure_round, tight_set}
use Rattle.spec_calls.specs.Calls.{arrival_conditions, closing_conditions, question_conditions, refusals, arrival_outcome, closing_outcome, levelling_outcome, tight_set_told, asked, accepted, outcome, blanking}
use Rattle.spec_calls.specs.Tally.{noted}
use Rattle.spec_text.specs.Numbers.{number}
use Rattle.spec_counter.specs.Counter.{command_for, command, printed, line_for, done, after, prints, counter}
use Rattle.spec_boards.specs.Boards.{Case, result, boards}

pub boards_hold : map (λ (c : Case). result c.trial) boards ≡ map (λ (c : Case). c.expected) boards
unfolding flat_map heaviest sizes_fit layout formed fits sound board_of decode layout_of flat encode blank_table steps paths_from improves improving_from improving improving_to flip arrival_choice closing_choice levelling_choice arrive close level closure_round tight_set arrival_conditions closing_conditions question_conditions refusals arrival_outcome closing_outcome levelling_outcome tight_set_told asked accepted outcome blanking noted number command_for command printed line_for done after prints counter result boards
boards_hold = refl
