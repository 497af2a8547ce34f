-- What the counter program replies to a command, in the words of `Rattle.spec_counter.specs.Counter`.
use Rattle.std.specs.Prelude.{ℕ, ◌+◌, ◌≤◌, ◌≡◌, List}
use Rattle.spec_counter.specs.Counter as paper
use Rattle.spec_counter.specs.Counter.{line_for, done, after}
use Rattle.counter_printing.specs.Wrote.{Wrote}
use Rattle.counter_printing.specs.declared.Output.{Output}
use Rattle.counter_answer_lines.specs.AnswerLines.{line_most}
use Rattle.counter_state.specs.State.{counter_of, Room}
use Rattle.counter_state.specs.declared.Counter.{Counter}

-- a reply left the program's bytes and the counter so, and wrote this text; the state is `next`
pub record Replies (next : paper.Counter) (text : List ℕ) (bytes : List ℕ) (before after : Output) (c : Counter) : Type 0 where
  pub room : Room c bytes
  pub state : counter_of c bytes ≡ next
  pub wrote : Wrote before after text
  pub short : after.written ≤ before.written + line_most

-- the reply to a command
abbrev pub Performs : paper.Command → paper.Counter → List ℕ → Output → Output → Counter → Type 0
Performs k s = Replies (after k s (done k s.table)) (line_for k (done k s.table))
