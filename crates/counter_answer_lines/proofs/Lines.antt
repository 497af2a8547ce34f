-- An answer's line, from the pieces that are written of it.
use Prim.Native.Nat.{ℕ, zero, suc, ◌≤◌}
use native.Mathlib.Omega.{arith}
use mathlib.Core.Path.{◌≡◌, ap}
use mathlib.Core.List.{List, [], ◌∷◌, ◌++◌}
use lib.ListN.{drop}
use Rattle.spec_lists.specs.Lists.{nth}
use Rattle.spec_text.specs.Numbers.{line_feed}
use Rattle.spec_counter.specs.Counter.{printed}
use Rattle.counter_printing.specs.Wrote.{Wrote, spaced}
use Rattle.counter_printing.specs.declared.Output.{Output}
use Rattle.counter_printing.proofs.WrittenText.{wrote_then, printed_is, spaced_append}

-- a letter and numbers, and more numbers behind them
pub wrote_numbers : {a b c : Output} {letter : ℕ} (ns ms : List ℕ) → Wrote a b (letter ∷ spaced ns) → Wrote b c (spaced ms) → Wrote a c (letter ∷ spaced (ns ++ ms))
wrote_numbers {a} {b} {c} {letter} ns ms v w = rw (spaced_append ns ms) (wrote_then v w)

-- a letter, numbers and the line feed
pub wrote_line : {a b c : Output} {letter : ℕ} (ns : List ℕ) → Wrote a b (letter ∷ spaced ns) → Wrote b c (line_feed ∷ []) → Wrote a c (printed letter ns)
wrote_line {a} {b} {c} {letter} ns v w = rw (printed_is letter ns) (wrote_then v w)

-- a letter, three lists of numbers and the line feed
pub wrote_lists : {a b c d e f : Output} {letter : ℕ} (ns ms ks : List ℕ) → Wrote a b (letter ∷ []) → Wrote b c (spaced ns) → Wrote c d (spaced ms) → Wrote d e (spaced ks) → Wrote e f (line_feed ∷ []) → Wrote a f (printed letter (ns ++ ms ++ ks))
wrote_lists ns ms ks u v w x y =
    wrote_line (ns ++ ms ++ ks) (wrote_numbers (ns ++ ms) ks (wrote_numbers ns ms (wrote_then u v) w) x) y

-- an answer's value k is number k + 1 of it: the number that is returned stands before its values
pub value_number : (vs ns : List ℕ) (k : ℕ) → 1 ≤ k → vs ≡ drop 1 ns → nth vs k 0 ≡ nth ns (suc k) 0
value_number vs ns zero p e = absurd (omega arith)
value_number vs [] (suc k) p e = ap (λ l. nth l (suc k) 0) e
value_number vs (n ∷ ns) (suc k) p e = ap (λ l. nth l (suc k) 0) e
