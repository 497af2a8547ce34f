-- The job book and the excess, in the words of 01.
use Prim.Native.Nat.{ℕ, ◌≤◌}
use mathlib.Core.Path.{◌≡◌, refl}
use mathlib.Core.Logic.{◌≢◌}
use mathlib.Core.Bool.{Bool, true, false}
use mathlib.Core.List.{List, []}
use lib.Dec.{T}
use lib.ListN.{length}
use Rattle.spec_lists.specs.Lists.{nth}
use Rattle.spec_calls.specs.Calls.{Arriving, Closing, Call, arrival, closing, levelling, ask, between, is_question}
use Rattle.spec_calls.specs.JobBook.{Book, entered}
use Rattle.spec_lists.proofs.Elements.{nth_update_same, nth_update_other}

-- what a call does to the number j of the book: it holds these benches now, and no other number changes
pub record Writes (before after : Book) (j : ℕ) (benches : List ℕ) : Type 0 where
  pub here : 1 ≤ j → j ≤ length before → nth after j [] ≡ benches
  pub elsewhere : (i : ℕ) → i ≢ j → nth after i [] ≡ nth before i []

-- "An accepted arrival writes its benches under its job number."
pub arrival_enters : (a : Arriving) (k : Book) → Writes k (entered (arrival a) false k) a.job a.given
arrival_enters a k =
    record { here = nth_update_same k a.job a.given []; elsewhere = λ i n. nth_update_other k a.job i a.given [] n }

-- "An accepted closing empties its number."
pub closing_enters : (c : Closing) (k : Book) → Writes k (entered (closing c) false k) c.job []
closing_enters c k = record { here = nth_update_same k c.job [] []; elsewhere = λ i n. nth_update_other k c.job i [] [] n }

-- "A refused call [..] change[s] nothing in it" ..
pub refused_enters : (c : Call) (k : Book) → entered c true k ≡ k
refused_enters (arrival a) k = refl
refused_enters (closing c) k = refl
refused_enters (levelling allowance) k = refl
refused_enters (ask q lent) k = refl
refused_enters (between x y) k = refl

-- .. nor does a levelling ..
pub levelling_enters : (allowance : ℕ) (r : Bool) (k : Book) → entered (levelling allowance) r k ≡ k
levelling_enters allowance r k = refl

-- .. nor a question
pub question_enters : (c : Call) → T (is_question c) → (r : Bool) (k : Book) → entered c r k ≡ k
question_enters (arrival a) q r k = absurd q
question_enters (closing c) q r k = absurd q
question_enters (levelling allowance) q r k = absurd q
question_enters (ask c lent) q r k = refl
question_enters (between x y) q r k = refl
