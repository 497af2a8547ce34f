-- Between two parts of a chunk, and between two chunks.
use Rattle.std.proofs.Common.{ℕ, ◌≤◌, ◌≡◌, ◌∙◌, List, length}
use Rattle.counter_answer_lines.specs.AnswerLines.{line_most}
use Rattle.counter_feed.specs.declared.Reader.{Reader}
use Rattle.counter_feed.specs.Feeding.{Stands}

-- the reader can go on, and what was lent is as long as it was
pub record Going (bytes₀ out₀ bytes out : List ℕ) (r₀ r : Reader) : Type 0 where
  pub stands : Stands r bytes
  pub bytes_long : length bytes ≡ length bytes₀
  pub line_long : length r.line.bytes ≡ length r₀.line.bytes
  pub out_long : length out ≡ length out₀
  pub room : line_most ≤ length out₀

-- a part more is answered
pub going_turn : {bytes₀ out₀ bytes out : List ℕ} {r₀ r : Reader} (bytes' out' : List ℕ) (r' : Reader) → Going bytes₀ out₀ bytes out r₀ r → Stands r' bytes' → length bytes' ≡ length bytes → length r'.line.bytes ≡ length r.line.bytes → length out' ≡ length out → Going bytes₀ out₀ bytes' out' r₀ r'
going_turn bytes' out' r' g s b l o =
    record { stands = s; bytes_long = b ∙ g.bytes_long; line_long = l ∙ g.line_long; out_long = o ∙ g.out_long; room = g.room }
