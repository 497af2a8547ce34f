-- Each call as a function from what it is lent (table bytes, bytes beside them, numbers of any size) to what it
-- leaves: its answer, and every lent byte.
use Rattle.std.specs.Prelude.{ℕ, ◌*◌, Bool, true, false, cond, not, ◌&&◌, ◌||◌, List, [], ◌∷◌, ◌++◌, T, eqb, ltb, length, drop}
use Rattle.std.proofs.Math.Option.{Option, none, some}
use Rattle.spec_lists.specs.Lists.{within}
use Rattle.spec_table.specs.Board.{Board, holder_of, stands, load, heaviest, names_fit}
use Rattle.spec_table.specs.Table.{words, in_list, layout, sizes_fit, fits, sound, decode, encode, blank_table}
use Rattle.spec_sheet.specs.Sheet.{sheet}
use Rattle.spec_pair.specs.Pair.{unreadable_pair, records_read, job_found}
use Rattle.spec_sharing.specs.Sharing.{Change, arrive, close, level, Levelled, relevel, tight_set, inside}
use Rattle.spec_calls.specs.Answers.{Fact, Outcome, Condition, refuse, unless, sizes, unsound, job_number, bench_number, already_standing, not_standing, height, list_too_short, page_too_short, arrived, closed, said, blanked, load_is, heaviest_is, tight_set_is, is_sound, level_yes, level_no, levelled, stopped, sheet_is, job_between, none_between}

-- what an arrival is given: the job's number, and the benches it names; 02: "a lent list" for the jobs that move
pub record Arriving : Type 0 where
  pub job : ℕ
  pub given : List ℕ
  pub list : List ℕ

-- what a closing is given; 02: a lent list
pub record Closing : Type 0 where
  pub job : ℕ
  pub list : List ℕ

-- "the questions, which change no table byte": a bench's load, the heaviest load, the tight set of a height, the form
-- check, the level check; 02: the wall sheet
pub data Question : Type 0 where
  load_of : ℕ → Question
  heaviest_load : Question
  tight_set_of : ℕ → Question
  form_check : Question
  level_check : Question
  wall_sheet : Question

-- a call on a table; a levelling has its allowance, a question the bytes lent beside the table, [] for none. 02: the
-- question for a job between two benches, which alone does not ask for a sound table
pub data Call : Type 0 where
  arrival : Arriving → Call
  closing : Closing → Call
  levelling : ℕ → Call
  ask : Question → List ℕ → Call
  between : ℕ → ℕ → Call

-- "the questions, which change no table byte"
abbrev pub is_question : Call → Bool
is_question (arrival a) = false
is_question (closing c) = false
is_question (levelling allowance) = false
is_question (ask q lent) = true
is_question (between x y) = true

-- 1 and 2: the form of a table
abbrev pub form_conditions : List ℕ → List Condition
form_conditions t = refuse sizes (not (fits t)) ∷ refuse unsound (not (sound t)) ∷ []

-- "job number not 1 to J"
abbrev pub no_job : Board → ℕ → Bool
no_job b j = not (within 1 (length b.named) j)

-- "bench not 1 to B"
abbrev pub no_bench : Board → ℕ → Bool
no_bench b x = not (within 1 b.benches x)

-- what 4 denies of an arrival's benches: two different ones of 1 to B
abbrev pub namable : Board → List ℕ → Bool
namable b given = eqb (length given) 2 && names_fit b.benches given

-- what 3, 4 and 5 leave through: a number of 1 to J that does not stand, and benches that a job may name
pub record MayArrive (b : Board) (j : ℕ) (given : List ℕ) : Type 0 where
  pub number : T (within 1 (length b.named) j)
  pub free : T (not (stands b j))
  pub fit : T (namable b given)

-- 8: "list shorter than the set's words"; 02: "also [..] a list too short for the moves"
abbrev pub too_short : List ℕ → List ℕ → Bool
too_short list ws = ltb (length list) (2 * length ws)

-- when an arrival is refused, from 3 on, in the order that counts
unfoldable pub arrival_conditions : Arriving → Board → List Condition
arrival_conditions a b =
    refuse job_number (no_job b a.job)
    ∷ refuse bench_number (not (namable b a.given))
    ∷ refuse already_standing (stands b a.job)
    ∷ refuse list_too_short (too_short a.list (arrive b a.job a.given).moved)
    ∷ []

-- when a closing is
unfoldable pub closing_conditions : Closing → Board → List Condition
closing_conditions c b =
    refuse job_number (no_job b c.job)
    ∷ refuse not_standing (not (stands b c.job))
    ∷ refuse list_too_short (too_short c.list (close b c.job).moved)
    ∷ []

-- when each question is
unfoldable pub question_conditions : Question → List ℕ → Board → List Condition
question_conditions (load_of x) lent b = refuse bench_number (no_bench b x) ∷ []
question_conditions heaviest_load lent b = []
question_conditions (tight_set_of h) lent b =
    refuse height (eqb h 0 || ltb (heaviest b) h)
    ∷ refuse list_too_short (too_short lent (tight_set b h))
    ∷ []
question_conditions form_check lent b = []
question_conditions level_check lent b = []
question_conditions wall_sheet page b = refuse page_too_short (ltb (length page) (length (sheet b))) ∷ []

-- 02: when the question for a job between two benches is. "2 [..] comes after 4"; two benches are asked about, different
-- ones of 1 to B
unfoldable pub between_conditions : ℕ → ℕ → List ℕ → List Condition
between_conditions x y t =
    let l = layout (words t) in
    refuse sizes (not (fits t))
    ∷ refuse bench_number (not (names_fit l.benches (x ∷ y ∷ [])))
    ∷ refuse unsound (unreadable_pair l x y)
    ∷ []

-- when each call is refused: its whole list, in the order that counts
unfoldable pub refusals : Call → List ℕ → List Condition
refusals (arrival a) t = form_conditions t ++ arrival_conditions a (decode t)
refusals (closing c) t = form_conditions t ++ closing_conditions c (decode t)
refusals (levelling allowance) t = form_conditions t
refusals (ask q lent) t = form_conditions t ++ question_conditions q lent (decode t)
refusals (between x y) t = between_conditions x y t

-- the numbers that a question may be refused with, in the order that counts
abbrev pub question_order : Question → List ℕ
question_order (load_of x) = 1 ∷ 2 ∷ 4 ∷ []
question_order heaviest_load = 1 ∷ 2 ∷ []
question_order (tight_set_of h) = 1 ∷ 2 ∷ 7 ∷ 8 ∷ []
question_order form_check = 1 ∷ 2 ∷ []
question_order level_check = 1 ∷ 2 ∷ []
question_order wall_sheet = 1 ∷ 2 ∷ 11 ∷ []

-- the numbers that a call may be refused with, in the order that counts
abbrev pub order : Call → List ℕ
order (arrival a) = 1 ∷ 2 ∷ 3 ∷ 4 ∷ 5 ∷ 8 ∷ []
order (closing c) = 1 ∷ 2 ∷ 3 ∷ 6 ∷ 8 ∷ []
order (levelling allowance) = 1 ∷ 2 ∷ []
order (ask q lent) = question_order q
order (between x y) = 1 ∷ 4 ∷ 2 ∷ []

-- the bytes that are lent to a call beside the table
abbrev pub lent_to : Call → List ℕ
lent_to (arrival a) = a.list
lent_to (closing c) = c.list
lent_to (levelling allowance) = []
lent_to (ask q lent) = lent
lent_to (between x y) = []

-- "the bench that holds the new job in the end, the bench whose load rose, and the number of other jobs that changed
-- holder"; 02: "those that changed holder, the new job left out. They go as words into a lent list"
unfoldable pub arrival_outcome : Arriving → Change → Outcome
arrival_outcome a c =
    record {
      answer = arrived (holder_of c.board a.job) c.bench (length c.moved);
      table = encode c.board;
      lent = in_list c.moved a.list;
    }

-- "the bench whose load fell, and the jobs that changed holder"; 02: and their list
unfoldable pub closing_outcome : Closing → Change → Outcome
closing_outcome k c =
    record {
      answer = closed c.bench (length c.moved);
      table = encode c.board;
      lent = in_list c.moved k.list;
    }

-- "It reports the paths turned, and "level" if no improving path is left, else "stopped"."
unfoldable pub levelling_outcome : Levelled → Outcome
levelling_outcome r =
    record {
      answer = said (cond (level r.board) (levelled r.paths) (stopped r.paths));
      table = encode r.board;
      lent = [];
    }

-- what a question tells: a fact, and what is now in the bytes lent to it
pub record Told : Type 0 where
  pub fact : Fact
  pub lent : List ℕ

-- a fact, and the lent bytes as they were
abbrev pub telling : Fact → List ℕ → Told
telling f lent = record { fact = f; lent = lent }

-- "the number of benches, the number of jobs with both benches inside, and the bench numbers, rising, as words in a
-- lent list of bytes; the list beyond them is untouched"
unfoldable pub tight_set_told : Board → List ℕ → List ℕ → Told
tight_set_told b set list =
    record { fact = tight_set_is (length set) (inside set b.named); lent = in_list set list }

-- 02: "The result is its length; bytes after it are untouched"
unfoldable pub sheet_told : List ℕ → List ℕ → Told
sheet_told text page = record { fact = sheet_is (length text); lent = text ++ drop (length text) page }

-- what an accepted question tells of a board
unfoldable pub asked : Question → List ℕ → Board → Told
asked (load_of x) lent b = telling (load_is (load b.holders x)) lent
asked heaviest_load lent b = telling (heaviest_is (heaviest b)) lent
asked (tight_set_of h) lent b = tight_set_told b (tight_set b h) lent
asked form_check lent b = telling is_sound lent
asked level_check lent b = telling (cond (level b) level_yes level_no) lent
asked wall_sheet page b = sheet_told (sheet b) page

-- 02: "the lowest job number standing between two benches, or none", and "the records read"
abbrev pub between_fact : Option ℕ → ℕ → Fact
between_fact none records = none_between records
between_fact (some j) records = job_between j records

-- what is told of a job between two benches
unfoldable pub between_told : ℕ → ℕ → List ℕ → Told
between_told x y t =
    let l = layout (words t) in telling (between_fact (job_found l x y) (length (records_read l x y))) []

-- what is told, the table's bytes as they were
abbrev pub answering : List ℕ → Told → Outcome
answering t r = record { answer = said r.fact; table = t; lent = r.lent }

-- what an accepted call leaves
unfoldable pub accepted : Call → List ℕ → Board → Outcome
accepted (arrival a) t b = arrival_outcome a (arrive b a.job a.given)
accepted (closing c) t b = closing_outcome c (close b c.job)
accepted (levelling allowance) t b = levelling_outcome (relevel allowance b)
accepted (ask q lent) t b = answering t (asked q lent b)
accepted (between x y) t b = answering t (between_told x y t)

-- what a call leaves of the table bytes t and of the bytes lent beside them
unfoldable pub outcome : Call → List ℕ → Outcome
outcome c t = unless (refusals c t) t (lent_to c) (accepted c t (decode t))

-- blanking: 1 alone can refuse it, by the numbers given and the length; old bytes are not looked at
unfoldable pub blanking : ℕ → ℕ → List ℕ → Outcome
blanking benches jobs t =
    unless (refuse sizes (not (sizes_fit (length t) benches jobs)) ∷ []) t []
    (answering (blank_table benches jobs) (telling blanked []))
