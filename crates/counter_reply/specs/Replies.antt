-- What the counter program replies to a line, in the words of `Rattle.spec_counter.specs.Stream`.
use Rattle.std.specs.Prelude.{ℕ, List}
use Rattle.spec_counter.specs.Counter as paper
use Rattle.spec_counter.specs.Stream.{line_text, line_after}
use Rattle.counter_printing.specs.declared.Output.{Output}
use Rattle.counter_state.specs.declared.Counter.{Counter}
use Rattle.counter_perform.specs.Performed.{Replies}

-- the reply to a line
abbrev pub RepliesTo : List ℕ → paper.Counter → List ℕ → Output → Output → Counter → Type 0
RepliesTo line s = Replies (line_after s line) (line_text s line)
