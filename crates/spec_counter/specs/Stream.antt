-- The counter program's input as it comes in: piece by piece, cut anywhere.
use Rattle.std.specs.Prelude.{ℕ, ◌≡◌, ◌≢◌, cond, List, [], ◌∷◌, ◌++◌}
use Rattle.std.proofs.Math.Option.{none, some}
use Rattle.spec_lists.specs.Lists.{Each, empty}
use Rattle.spec_text.specs.Numbers.{line_feed}
use Rattle.spec_counter.specs.Counter.{Counter, pieces, command, line_for, done, after, unreadable_line, prints, at_first}

-- what is printed for a line
unfoldable pub line_text : Counter → List ℕ → List ℕ
line_text s line = elim (command line) [ none ↦ unreadable_line | some c ↦ line_for c (done c s.table) ]

-- the state after a line
unfoldable pub line_after : Counter → List ℕ → Counter
line_after s line = elim (command line) [ none ↦ s | some c ↦ after c s (done c s.table) ]

-- a place in the input: the program's state, and the line as far as it was read
pub record Place : Type 0 where
  pub counter : Counter
  pub line : List ℕ

-- before the first byte
abbrev pub beginning : Place
beginning = record { counter = at_first; line = [] }

-- the line has not ended yet
abbrev pub Unended : List ℕ → Type 0
Unended line = Each (λ c. c ≢ line_feed) line

-- what is still printed from a place on, where `rest` is all that is still to be read
unfoldable pub output_from : Place → List ℕ → List ℕ
output_from p rest = prints p.counter (pieces line_feed (p.line ++ rest))

-- from a to b these bytes are read and this text is printed, whatever comes after them
pub record Consumes (a b : Place) (input text : List ℕ) : Type 0 where
  pub whole : (rest : List ℕ) → output_from a (input ++ rest) ≡ text ++ output_from b rest

-- pieces of the input read one after the other from a to b, and what is printed for each
pub data ConsumesAll (b : Place) : Place → List (List ℕ) → List (List ℕ) → Type 0 where
  ended : ConsumesAll b b [] []
  then :
      {a c : Place} {input text : List ℕ} {inputs texts : List (List ℕ)} → Consumes a c input text →
      ConsumesAll b c inputs texts → ConsumesAll b a (input ∷ inputs) (text ∷ texts)

-- what is printed where the input ends: a line that has begun is one without a line feed
abbrev pub at_end : List ℕ → List ℕ
at_end line = cond (empty line) [] unreadable_line
