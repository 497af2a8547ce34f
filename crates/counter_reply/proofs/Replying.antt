-- The replies to lines.
use Prim.Native.Nat.{ℕ}
use mathlib.Core.Path.{◌≡◌, refl, sym}
use mathlib.Core.List.{List}
use Rattle.std.specs.Prelude.{Some, None}
use Rattle.spec_calls.specs.Answers.{unreadable, refusal_number}
use Rattle.spec_counter.specs.Counter as paper
use Rattle.spec_counter.specs.Counter.{command}
use Rattle.spec_counter.specs.Stream.{line_text, line_after}
use Rattle.counter_commands.specs.Read.{command_of, reading_of}
use Rattle.counter_commands.specs.declared.Command.{Command}
use Rattle.counter_printing.specs.declared.Output.{Output}
use Rattle.counter_answer_lines.specs.AnswerLines.{refusal_text}
use Rattle.counter_state.specs.State.{counter_of, Room}
use Rattle.counter_state.specs.declared.Counter.{Counter}
use Rattle.counter_perform.specs.Performed.{Performs}
use Rattle.counter_perform.proofs.Performing.{Printed, stays}
use Rattle.counter_reply.specs.Replies.{RepliesTo}

-- a line that is not readable
pub unread_replies : {c : Counter} {d : List ℕ} → Room c d → (line : List ℕ) {o p : Output} → reading_of None ≡ command line → Printed o p (refusal_text (refusal_number unreadable)) → RepliesTo line (counter_of c d) d o p c
unfolding line_text line_after
unread_replies room line e told = rw (line_text, line_after, sym e) (stays room refl told)

-- a line that is readable
pub read_replies : (s : paper.Counter) (line : List ℕ) (k : Command) {bytes : List ℕ} {o p : Output} {c : Counter} → reading_of (Some k) ≡ command line → Performs (command_of k) s bytes o p c → RepliesTo line s bytes o p c
unfolding line_text line_after
read_replies s line k e p = rw (line_text, line_after, sym e) p
