-- The lines that the counter program prints for answers.
use Rattle.std.specs.Prelude.{ℕ, suc, ◌+◌, ◌*◌, cond, List, [], ◌∷◌, ◌++◌, take, drop}
use Prim.Native.Char.{code}
use Rattle.spec_lists.specs.Lists.{nth}
use Rattle.spec_table.specs.Table.{words, most_benches}
use Rattle.spec_calls.specs.Answers.{Answer, is_refused, in_numbers}
use Rattle.spec_counter.specs.Counter.{printed}
use Rattle.counter_printing.specs.Wrote.{field_most}

-- room for every line: a letter, three numbers of the command, three values, a word of the list for each of the most
-- benches, a line feed
abbrev pub line_most : ℕ
line_most = 2 + field_most * (6 + most_benches)

-- "R and the refusal"
abbrev pub refusal_text : ℕ → List ℕ
refusal_text number = printed (code "R") (number ∷ [])

-- an answer's line: "R and the refusal", or a letter, numbers of the command, the answer's values, and what is listed
abbrev pub answer_text : ℕ → List ℕ → Answer → List ℕ → List ℕ
answer_text letter repeated a listed =
    cond (is_refused a) (printed (code "R") (in_numbers a)) (printed letter (repeated ++ drop 1 (in_numbers a) ++ listed))

-- an answer's line with the words of a list, as many as its value k says
abbrev pub listing_text : ℕ → List ℕ → ℕ → Answer → List ℕ → List ℕ
listing_text letter repeated k a list = answer_text letter repeated a (take (nth (in_numbers a) (suc k) 0) (words list))
