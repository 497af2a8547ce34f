-- What the counter program keeps of its input, and what a piece of input does, in the words of
-- `Rattle.spec_counter.specs.Stream`.
use Rattle.std.specs.Prelude.{ℕ, ◌+◌, ◌≤◌, ◌<◌, ◌≡◌, List, [], ◌∷◌, ◌++◌, length, take}
use Rattle.spec_counter.specs.Stream.{Place, beginning, Unended, output_from, Consumes}
use Rattle.counter_printing.specs.Wrote.{Wrote}
use Rattle.counter_printing.specs.declared.Output.{Output}
use Rattle.counter_answer_lines.specs.AnswerLines.{line_most}
use Rattle.counter_state.specs.State.{table_most, Room, counter_of}
use Rattle.counter_feed.specs.declared.kept_line.Line.{Line}
use Rattle.counter_feed.specs.declared.Reader.{Reader}

-- so many bytes of a line are kept: one more than a readable line may have
abbrev pub kept_most : ℕ
kept_most = 41

-- the place in the input: of a longer line the first bytes stand for all of it
abbrev pub place_of : Reader → List ℕ → Place
place_of r bytes = record { counter = counter_of r.counter bytes; line = take r.line.held r.line.bytes }

-- the program's own bytes and the bytes kept of the line are as the reader needs them
pub record Stands (r : Reader) (bytes : List ℕ) : Type 0 where
  pub room : Room r.counter bytes
  pub long : length r.line.bytes ≡ kept_most
  pub held : r.line.held ≤ kept_most
  pub unended : Unended (take r.line.held r.line.bytes)

-- with bytes for every table, the reader is before the first byte
pub record Begins (r : Reader) : Type 0 where
  pub stands : (bytes : List ℕ) → length bytes ≡ table_most → Stands r bytes
  pub place : (bytes : List ℕ) → place_of r bytes ≡ beginning

-- the byte is one of the line's that are kept now if there was room for it
pub record Appended (before after : Line) (byte : ℕ) : Type 0 where
  pub long : length after.bytes ≡ length before.bytes
  pub more : before.held < length before.bytes → (after.held ≡ before.held + 1) × (take after.held after.bytes ≡ take before.held before.bytes ++ (byte ∷ []))
  pub full : length before.bytes ≤ before.held → (after.held ≡ before.held) × (after.bytes ≡ before.bytes)

-- from place a on these bytes were taken, and what the definition prints for them was written
pub record TakesByte (a : Place) (input : List ℕ) (r : Reader) (bytes : List ℕ) (before after : Output) : Type 0 where
  pub stands : Stands r bytes
  pub text : List ℕ
  pub wrote : Wrote before after text
  pub consumes : Consumes a (place_of r bytes) input text
  pub short : after.written ≤ before.written + line_most

-- from place a on the first `count` bytes of a chunk were taken, some of it if there is any, and what the definition
-- prints for them was written
pub record Feeds (a : Place) (chunk : List ℕ) (r : Reader) (bytes : List ℕ) (count : ℕ) (before after : Output) : Type 0 where
  pub stands : Stands r bytes
  pub some : 1 ≤ length chunk → 1 ≤ count
  pub used : count ≤ length chunk
  pub text : List ℕ
  pub wrote : Wrote before after text
  pub consumes : Consumes a (place_of r bytes) (take count chunk) text

-- what is printed where the input ends was written
pub record Finishes (r : Reader) (before after : Output) : Type 0 where
  pub text : List ℕ
  pub wrote : Wrote before after text
  pub ends : (bytes : List ℕ) → Stands r bytes → text ≡ output_from (place_of r bytes) []

-- calls of `feed` one after the other from place a to b: what each took of its chunk, and what it wrote
pub data Feedings (b : Place) : Place → List (List ℕ) → List (List ℕ) → Type 0 where
  over : Feedings b b [] []
  fed :
      {a : Place} {chunk bytes : List ℕ} {r : Reader} {count : ℕ} {before after : Output} {inputs texts : List (List ℕ)} →
      (f : Feeds a chunk r bytes count before after) → Feedings b (place_of r bytes) inputs texts →
      Feedings b a (take count chunk ∷ inputs) (f.text ∷ texts)
