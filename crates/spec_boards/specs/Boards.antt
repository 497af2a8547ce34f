-- 01, "Boards tried by hand": the entries marked ●, in 01's order, as one table. 02: the third A line of the run and
-- the closing that hands job 1 along list the moved jobs.
use Rattle.std.specs.Prelude.{ℕ, List, [], ◌∷◌, ◌++◌, map, replicate}
use Rattle.spec_lists.specs.Lists.{range}
use Rattle.spec_table.specs.Table.{bytes_of, length_for, decode}
use Rattle.spec_calls.specs.Answers.{Outcome, in_numbers}
use Rattle.spec_calls.specs.Calls.{Call, blanking, arrival, closing, levelling, ask, load_of, heaviest_load, tight_set_of, form_check}
use Rattle.spec_calls.specs.JobBook.{run, table_after}
use Rattle.spec_counter.specs.Counter.{counter}
use Rattle.spec_text.specs.Text.{text}

-- bytes that are no blank table's: blanking must not look at them
abbrev pub some_bytes : ℕ → List ℕ
some_bytes n = replicate n 165

-- a table as blanking leaves it
abbrev pub blanked_table : ℕ → ℕ → List ℕ
blanked_table benches jobs = (blanking benches jobs (some_bytes (length_for benches jobs))).table

-- what is tried: blanking so many bytes for B and J; a list of calls on a table; what the program prints
pub data Trial : Type 0 where
  blank : ℕ → ℕ → ℕ → Trial
  calls : List ℕ → List Call → Trial
  program : List ℕ → Trial

-- what comes out: each answer in numbers; the bytes that the calls leave beside the table one after the other, or
-- that the program prints; the holders in the end
pub record Result : Type 0 where
  pub answers : List (List ℕ)
  pub bytes : List ℕ
  pub holders : List ℕ

-- the bytes that the calls leave beside the table
abbrev pub lent_left : List Outcome → List ℕ
lent_left [] = []
lent_left (o ∷ os) = o.lent ++ lent_left os

-- what the definitions say comes out
unfoldable pub result : Trial → Result
result (blank len benches jobs) =
    record { answers = in_numbers (blanking benches jobs (some_bytes len)).answer ∷ []; bytes = []; holders = [] }
result (calls t cs) =
    let os = run t cs in
    record {
      answers = map (λ o. in_numbers o.answer) os;
      bytes = lent_left os;
      holders = (decode (table_after t os)).holders;
    }
result (program input) = record { answers = []; bytes = counter input; holders = [] }

-- an entry: what is tried, and what 01, with 02's lists, says comes out
pub record Case : Type 0 where
  pub trial : Trial
  pub expected : Result

-- blanking so many bytes for B and J, and its answer
abbrev pub when_blanked : ℕ → ℕ → ℕ → List ℕ → Case
when_blanked len benches jobs answer =
    record { trial = blank len benches jobs; expected = record { answers = answer ∷ []; bytes = []; holders = [] } }

-- a list of calls on a table, their answers, what they leave beside it, and the holders in the end
abbrev pub when_called : List ℕ → List Call → List (List ℕ) → List ℕ → List ℕ → Case
when_called t cs answers bytes holders =
    record { trial = calls t cs; expected = record { answers = answers; bytes = bytes; holders = holders } }

-- the program's input, and what it prints
abbrev pub when_run : List ℕ → List ℕ → Case
when_run input output =
    record { trial = program input; expected = record { answers = []; bytes = output; holders = [] } }

-- a refusal in numbers: "give 3"
abbrev pub gives : ℕ → List ℕ
gives number = number ∷ []

-- an accepted answer in numbers, with its values
abbrev pub says : List ℕ → List ℕ
says values = 0 ∷ values

-- bench 1 holds three jobs, all naming 1 and 2; its chain is 3, 2, 1
abbrev pub heavy_bench : List ℕ
heavy_bench = bytes_of (2 ∷ 3 ∷ 3 ∷ 0 ∷ 3 ∷ 0 ∷ 1 ∷ 2 ∷ 1 ∷ 0 ∷ 1 ∷ 2 ∷ 1 ∷ 1 ∷ 1 ∷ 2 ∷ 1 ∷ 2 ∷ [])

-- job j arrives and names benches x and y; no other job will move, and no list is lent
abbrev pub arrives : ℕ → ℕ → ℕ → Call
arrives j x y = arrival (record { job = j; given = x ∷ y ∷ []; list = [] })

-- job j is closed, this list is lent
abbrev pub closes : ℕ → List ℕ → Call
closes j list = closing (record { job = j; list = list })

-- jobs 1, 2, 3 arrive, all naming 1 and 2
abbrev pub three_arrivals : List Call
three_arrivals = arrives 1 1 2 ∷ arrives 2 1 2 ∷ arrives 3 1 2 ∷ []

-- what these arrivals answer: holders 1, 2, 1
abbrev pub three_answers : List (List ℕ)
three_answers = says (1 ∷ 1 ∷ 0 ∷ []) ∷ says (2 ∷ 2 ∷ 0 ∷ []) ∷ says (1 ∷ 1 ∷ 0 ∷ []) ∷ []

-- the table
unfoldable pub boards : List Case
boards =
    -- ● Blank, B 1, J 1: 18 bytes accepted; 17 and 19 give 1.
    when_blanked 18 1 1 (says [])
    ∷ when_blanked 17 1 1 (gives 1)
    ∷ when_blanked 19 1 1 (gives 1)
    -- ● B 500, J 4,000, 33,008 bytes accepted; B 501, J 4,001, J 0 give 1.
    ∷ when_blanked 33008 500 4000 (says [])
    ∷ when_called (blanked_table 500 4000) (ask form_check [] ∷ []) (says [] ∷ []) [] (replicate 4000 0)
    ∷ when_blanked 33010 501 4000 (gives 1)
    ∷ when_blanked 33016 500 4001 (gives 1)
    ∷ when_blanked 1008 500 0 (gives 1)
    -- ● Job J accepted; 0 and J + 1 give 3.
    ∷ when_called (blanked_table 2 3)
    (arrives 3 1 2 ∷ arrives 0 1 2 ∷ arrives 4 1 2 ∷ closes 0 [] ∷ closes 4 [] ∷ closes 3 [] ∷ [])
    (says (1 ∷ 1 ∷ 0 ∷ []) ∷ gives 3 ∷ gives 3 ∷ gives 3 ∷ gives 3 ∷ says (1 ∷ 0 ∷ []) ∷ []) [] (0 ∷ 0 ∷ 0 ∷ [])
    -- ● Benches 2 and 2 give 4, also for a standing job.
    ∷ when_called (blanked_table 2 3) (arrives 1 2 2 ∷ arrives 1 1 2 ∷ arrives 1 2 2 ∷ [])
    (gives 4 ∷ says (1 ∷ 1 ∷ 0 ∷ []) ∷ gives 4 ∷ []) [] (1 ∷ 0 ∷ 0 ∷ [])
    -- ● The run above.
    ∷ when_run (text "B 3 4\nA 1 1 2\nA 2 2 3\nA 3 1 2\nS 1\nD 2\nD 2\n")
    (text "B 3 4\nA 1 1 1 0\nA 2 2 2 0\nA 3 1 3 2 1 2\nS 1 3 3 1 2 3\nD 2 3 0\nR 6\n")
    -- ● Jobs 1, 2, 3 all name benches 1, 2: holders 1, 2, 1; height 2 gives two benches, 1 and 2, with three inside
    -- jobs.
    ∷ when_called (blanked_table 2 3) (three_arrivals ++ (ask (tight_set_of 2) (9 ∷ 9 ∷ 9 ∷ 9 ∷ 9 ∷ []) ∷ []))
    (three_answers ++ (says (2 ∷ 3 ∷ []) ∷ [])) (1 ∷ 0 ∷ 2 ∷ 0 ∷ 9 ∷ []) (1 ∷ 2 ∷ 1 ∷ [])
    -- ● Closing job 2 then hands job 1 to bench 2; bench 1 fell, 1 moved.
    ∷ when_called (blanked_table 2 3) (three_arrivals ++ (closes 2 (9 ∷ 9 ∷ 9 ∷ []) ∷ []))
    (three_answers ++ (says (1 ∷ 1 ∷ []) ∷ [])) (1 ∷ 0 ∷ 9 ∷ []) (2 ∷ 0 ∷ 1 ∷ [])
    -- ● Jobs 1 to 4 name 1 and 2, 1 and 3, 1 and 4, 1 and 5: loads 1, 0, 1, 1, 1.
    ∷ when_called (blanked_table 5 4)
    (arrives 1 1 2 ∷ arrives 2 1 3 ∷ arrives 3 1 4 ∷ arrives 4 1 5 ∷ map (λ x. ask (load_of x) []) (range 1 5))
    (says (1 ∷ 1 ∷ 0 ∷ []) ∷ says (3 ∷ 3 ∷ 0 ∷ []) ∷ says (4 ∷ 4 ∷ 0 ∷ []) ∷ says (5 ∷ 5 ∷ 0 ∷ [])
    ∷ says (1 ∷ []) ∷ says (0 ∷ []) ∷ says (1 ∷ []) ∷ says (1 ∷ []) ∷ says (1 ∷ []) ∷ []) [] (1 ∷ 3 ∷ 4 ∷ 5 ∷ [])
    -- ● Bench 1 holds three jobs, all naming 1, 2: allowance 0 is stopped with 0 paths; 1 is level with 1.
    ∷ when_called heavy_bench (levelling 0 ∷ levelling 1 ∷ [])
    (says (0 ∷ 0 ∷ []) ∷ says (1 ∷ 1 ∷ []) ∷ []) [] (2 ∷ 1 ∷ 1 ∷ [])
    -- ● No jobs: heaviest 0, heights 0 and 1 give 7.
    ∷ when_called (blanked_table 2 3) (ask heaviest_load [] ∷ ask (tight_set_of 0) [] ∷ ask (tight_set_of 1) [] ∷ [])
    (says (0 ∷ []) ∷ gives 7 ∷ gives 7 ∷ []) [] (0 ∷ 0 ∷ 0 ∷ [])
    ∷ []
