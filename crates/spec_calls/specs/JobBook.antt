-- 01, "The job book": what is kept beside the board, a list of calls, and what demand 3 claims of it.
use Rattle.std.specs.Prelude.{ℕ, ◌≤◌, ◌≡◌, ◌⊎◌, Bool, true, false, not, ◌&&◌, ◌||◌, List, [], ◌∷◌, map, T, replicate}
use Rattle.spec_lists.specs.Lists.{update}
use Rattle.spec_table.specs.Board.{Board, excess, Shares}
use Rattle.spec_table.specs.Table.{length_for, sizes_fit, sound, decode, encode, blank_table, all_rise}
use Rattle.spec_sharing.specs.Sharing.{level}
use Rattle.spec_sharing.specs.Demand2.{OneMore}
use Rattle.spec_calls.specs.Answers.{Answer, Outcome, is_refused, arrived, closed}
use Rattle.spec_calls.specs.Calls.{Call, outcome, arrival, closing, levelling, ask, between, is_question}

-- "For each job number it has nothing, or the benches the job names, in their order"
abbrev pub Book : Type 0
Book = List (List ℕ)

-- "An accepted arrival writes its benches under its job number. An accepted closing empties its number. A refused
-- call, a levelling and a question change nothing in it." It is fed the call's numbers and whether it was refused,
-- nothing else
abbrev pub entered : Call → Bool → Book → Book
entered (arrival a) false k = update k a.job a.given
entered (arrival a) true k = k
entered (closing c) false k = update k c.job []
entered (closing c) true k = k
entered (levelling allowance) r k = k
entered (ask q lent) r k = k
entered (between x y) r k = k

-- the book after a list of calls, fed for each whether it was refused
abbrev pub book_after : Book → List Call → List Bool → Book
book_after k [] rs = k
book_after k (c ∷ cs) [] = k
book_after k (c ∷ cs) (r ∷ rs) = book_after (entered c r k) cs rs

-- whether each call was refused
abbrev pub refused_each : List Outcome → List Bool
refused_each os = map (λ o. is_refused o.answer) os

-- 02: "the first accepted arrival, closing or levelling puts every chain in order": such a call, fed whether it was
-- refused
abbrev pub puts_in_order : Call → Bool → Bool
puts_in_order c refused = not (is_question c) && not refused

-- one of the calls did
abbrev pub once_in_order : List Call → List Bool → Bool
once_in_order [] rs = false
once_in_order (c ∷ cs) [] = false
once_in_order (c ∷ cs) (r ∷ rs) = puts_in_order c r || once_in_order cs rs

-- the table was in order from the start, as a blank one is: the table of its board; or one of the calls put it in order
abbrev pub InOrder : List ℕ → List Call → List Bool → Type 0
InOrder t cs rs = (t ≡ encode (decode t)) ⊎ T (once_in_order cs rs)

-- each call gets the table as the last one left it
abbrev pub run : List ℕ → List Call → List Outcome
run t [] = []
run t (c ∷ cs) = let o = outcome c t in o ∷ run o.table cs

-- the table that a list of outcomes leaves
abbrev pub table_after : List ℕ → List Outcome → List ℕ
table_after t [] = t
table_after t (o ∷ os) = table_after o.table os

-- "each accepted arrival or closing changes one bench's load by one", the one that its answer says
abbrev pub OneLoad : Call → Answer → Board → Board → Type 0
OneLoad (arrival c) a before after =
    is_refused a ≡ false →
    (holder : ℕ) × (rose : ℕ) × (moved : ℕ) × (a ≡ arrived holder rose moved)
    × OneMore before.benches before.holders after.holders rose
OneLoad (closing c) a before after =
    is_refused a ≡ false →
    (fell : ℕ) × (moved : ℕ) × (a ≡ closed fell moved)
    × OneMore before.benches after.holders before.holders fell
OneLoad (levelling allowance) a before after = Unit {0}
OneLoad (ask q lent) a before after = Unit {0}
OneLoad (between x y) a before after = Unit {0}

-- so along the calls with their outcomes, each from the table that the last one left
abbrev pub OneLoadEach : List ℕ → List Call → List Outcome → Type 0
OneLoadEach t [] os = Unit {0}
OneLoadEach t (c ∷ cs) [] = Unit {0}
OneLoadEach t (c ∷ cs) (o ∷ os) = OneLoad c o.answer (decode t) (decode o.table) × OneLoadEach o.table cs os

-- the outcomes are those that `Does` allows, each call on the table that the last one left
abbrev pub Runs : (Call → List ℕ → Outcome → Type 0) → List ℕ → List Call → List Outcome → Type 0
Runs Does t [] [] = Unit {0}
Runs Does t [] (o ∷ os) = ⊥
Runs Does t (c ∷ cs) [] = ⊥
Runs Does t (c ∷ cs) (o ∷ os) = Does c t o × Runs Does o.table cs os

-- "every call is answered as the papers say": its outcome is the definition's
abbrev pub AsDefined : Call → List ℕ → Outcome → Type 0
AsDefined c t o = o ≡ outcome c t

-- "For a blank table (one as blanking leaves it) it starts empty; for a level one it starts with the standing jobs of
-- the table handed in"
pub data Start : List ℕ → Book → Type 0 where
  fromBlank :
      (benches jobs : ℕ) → sizes_fit (length_for benches jobs) benches jobs ≡ true →
      Start (blank_table benches jobs) (replicate jobs [])
  from_level : (t : List ℕ) → sound t ≡ true → level (decode t) ≡ true → Start t (decode t).named

-- what demand 3 claims of a whole list of calls cs with outcomes os, from a start t whose book is k
pub record Claim (t : List ℕ) (k : Book) (cs : List Call) (os : List Outcome) : Type 0 where
  -- the benches stay, and the standing jobs and the benches they name are the book's
  pub benches : (decode (table_after t os)).benches ≡ (decode t).benches
  pub book : (decode (table_after t os)).named ≡ book_after k cs (refused_each os)
  -- the holder words are a sharing of the book's jobs
  pub shares : Shares (book_after k cs (refused_each os)) (decode (table_after t os)).holders
  -- above every height the overhang is least among all sharings of the book's jobs
  pub least :
      (h : ℕ) (holders : List ℕ) → Shares (book_after k cs (refused_each os)) holders →
      excess (decode t).benches (decode (table_after t os)).holders h ≤ excess (decode t).benches holders h
  -- each accepted arrival or closing changes one bench's load by one
  pub one_load : OneLoadEach t cs os
  -- 02: all chains rise, if they did at the start or were put in order since ..
  pub rising : T (all_rise t || once_in_order cs (refused_each os)) → T (all_rise (table_after t os))
  -- .. and then benches, jobs and holders fix every byte
  pub fixed : InOrder t cs (refused_each os) → table_after t os ≡ encode (decode (table_after t os))
  -- every call is answered as defined
  pub answered : Runs AsDefined t cs os

-- demand 3, for whatever does the calls, if each call meets its contract
abbrev pub Demand3 : Type 1
Demand3 =
    (Does : Call → List ℕ → Outcome → Type 0) →
    ((c : Call) (t : List ℕ) (o : Outcome) → Does c t o → AsDefined c t o) →
    (t : List ℕ) (k : Book) → Start t k → (cs : List Call) (os : List Outcome) → Runs Does t cs os → Claim t k cs os
