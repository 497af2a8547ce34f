-- The benches' loads together are the standing jobs; so where counting ends, the best load so far is the heaviest
-- (document 02, request 05).
use Prim.Native.Nat.{ℕ, zero, suc, ◌+◌, ◌≤◌, ◌<◌}
use native.Mathlib.Omega.{arith}
use native.Mathlib.Decide.{dec_le}
use mathlib.Core.Path.{◌≡◌, refl, sym, ap, subst, ◌∙◌}
use mathlib.Core.Bool.{Bool, true, false, not}
use mathlib.Core.List.{List, [], ◌∷◌, map}
use lib.Dec.{T, eqb}
use lib.ListN.{length}
use Rattle.spec_lists.specs.Lists.{bit, within, total, filter, Each, empty}
use Rattle.spec_table.specs.Board.{Board, Valid, standing, load, heaviest, Shares, names_fit}
use Rattle.spec_table.specs.CountedBenches.{best_so_far, not_counted, count_ends, BenchesCounted}
use Rattle.spec_lists.proofs.Tests.{true→T, T→true, T-eqb, T-leb, leb_T}
use Rattle.spec_lists.proofs.NumberLists.{member_in}
use Rattle.spec_lists.proofs.Counting.{bit_le, filter_counts, total_add, total_each, total_within, total_rises, total_beyond, greatest_rises, greatest_early}
use Rattle.spec_table.proofs.Named.{fit_bench}

-- all loads together

-- the first job's holder has a job more
first_held_lem : (n h : ℕ) (holders : List ℕ) → total n (load (h ∷ holders)) ≡ bit (within 1 n h) + total n (load holders)
first_held_lem n h holders = omega (arith, total_add n (λ x. bit (eqb h x)) (load holders), total_within n h)

-- the first job stands, or not
first_stands : (names : List ℕ) (named : List (List ℕ)) → length (filter (λ ns. not (empty ns)) (names ∷ named)) ≡ bit (not (empty names)) + length (filter (λ ns. not (empty ns)) named)
first_stands = filter_counts (λ (ns : List ℕ). not (empty ns))

-- whatever benches there are, together they hold no more than the standing jobs ..
shared_most : (n : ℕ) (named : List (List ℕ)) (holders : List ℕ) → Shares named holders → total n (load holders) ≤ length (filter (λ ns. not (empty ns)) named)
shared_most n [] [] s = omega (arith, total_each n 0)
shared_most n [] (h ∷ holders) s = absurd s
shared_most n (names ∷ named) [] s = absurd s
shared_most n ([] ∷ named) (h ∷ holders) s =
    omega (arith, first_held_lem n h holders, ap (λ (x : ℕ). bit (within 1 n x)) (T-eqb h 0 s.0), shared_most n named holders s.1)
shared_most n ((y ∷ names) ∷ named) (h ∷ holders) s =
    omega (arith, first_held_lem n h holders, bit_le (within 1 n h), first_stands (y ∷ names) named, shared_most n named holders s.1)

-- .. and those that they name, all of them
shared_least : (n : ℕ) (named : List (List ℕ)) (holders : List ℕ) → Each (λ names. T (names_fit n names)) named → Shares named holders → length (filter (λ ns. not (empty ns)) named) ≤ total n (load holders)
shared_least n [] holders f s = omega arith
shared_least n (names ∷ named) [] f s = absurd s
shared_least n ([] ∷ named) (h ∷ holders) f s = omega (arith, first_held_lem n h holders, shared_least n named holders f.1 s.1)
shared_least n ((y ∷ names) ∷ named) (h ∷ holders) f s =
    let bench = fit_bench n (y ∷ names) h f.0 (member_in h (y ∷ names) s.0) in
    omega (arith, first_held_lem n h holders, ap bit (T→true (within 1 n h) bench), first_stands (y ∷ names) named, shared_least n named holders f.1 s.1)

module _ (b : Board) (v : Valid b) where
  -- the loads of benches 1 to B are the standing jobs ..
  pub loads_standing : total b.benches (load b.holders) ≡ standing b
  loads_standing =
      omega (arith, shared_most b.benches b.named b.holders v.shares, shared_least b.benches b.named b.holders v.names v.shares)

  -- .. and there are no other loads
  pub load_outside : (x : ℕ) → b.benches < x → load b.holders x ≡ 0
  load_outside x l =
      omega (arith, total_beyond b.benches x (load b.holders) x l (omega arith), shared_most x b.named b.holders v.shares, loads_standing)

-- where counting ends

-- it ends at n exactly if the jobs are no more than those counted and the best load so far ..
pub ends_most : (b : Board) (n : ℕ) → T (count_ends b n) → standing b ≤ total n (load b.holders) + best_so_far b n
ends_most b n t = omega (arith, T-leb (not_counted b n) (best_so_far b n) t)

pub most_ends : (b : Board) (n : ℕ) → standing b ≤ total n (load b.holders) + best_so_far b n → T (count_ends b n)
most_ends b n l = leb_T (not_counted b n) (best_so_far b n) (omega (arith, l))

-- .. and then with every further bench
pub ends_later : (b : Board) (m n : ℕ) → m ≤ n → T (count_ends b m) → T (count_ends b n)
ends_later b m n l t =
    most_ends b n (omega (arith, ends_most b m t, total_rises m n (load b.holders) l, greatest_rises m n (load b.holders) l))

-- without jobs no bench is counted ..
pub jobless_counted : (b : Board) → standing b ≡ 0 → BenchesCounted b 0
jobless_counted b e = record { holds = most_ends b 0 (omega (arith, e)); least = λ m t. omega arith }

-- .. and with a job one at least: the best load so far is 0 at the start
pub jobs_counted : (b : Board) (n : ℕ) → 1 ≤ standing b → BenchesCounted b n → 1 ≤ n
jobs_counted b zero l c = absurd (omega (arith, ends_most b 0 c.holds))
jobs_counted b (suc n) l c = omega arith

-- where it ends somewhere from n on, and nowhere before, there is a first number at which it does
ends_first : (b : Board) (n more : ℕ) → ((m : ℕ) → T (count_ends b m) → n ≤ m) → T (count_ends b (n + more)) → (j : ℕ) × BenchesCounted b j
ends_first b n zero before t = let e : n + 0 ≡ n = omega arith in (n, record { holds = rw e at t; least = before })
ends_first b n (suc more) before t = go (count_ends b n) refl (λ later. ends_first b (suc n) more later (rw next at t))
  where
    next : n + suc more ≡ suc n + more
    next = omega arith

    go : (z : Bool) → count_ends b n ≡ z → (((m : ℕ) → T (count_ends b m) → suc n ≤ m) → (j : ℕ) × BenchesCounted b j) → (j : ℕ) × BenchesCounted b j
    go true e ih = (n, record { holds = true→T (count_ends b n) e; least = before })
    go false e ih = ih later
      where
        later : (m : ℕ) → T (count_ends b m) → suc n ≤ m
        later m u = elim (dec_le (suc n) m) [
          | yes k ↦ k
          | no k ↦ let q : m ≡ n = omega (arith, k, before m u) in absurd (subst T (ap (count_ends b) q ∙ e) u)
        ]

-- it is one number
pub counted_once : (b : Board) (m n : ℕ) → BenchesCounted b m → BenchesCounted b n → m ≡ n
counted_once b m n p q = omega (arith, p.least n q.holds, q.least m p.holds)

module _ (b : Board) (v : Valid b) where
  -- with the last bench it ends, if not before: so there is such a number ..
  last_ends : T (count_ends b b.benches)
  last_ends = most_ends b b.benches (omega (arith, loads_standing b v))

  pub counted_some : (n : ℕ) × BenchesCounted b n
  counted_some = let e : 0 + b.benches ≡ b.benches = omega arith in ends_first b 0 b.benches (λ m t. omega arith) (rw e last_ends)

  -- .. at most B ..
  pub counted_benches : (n : ℕ) → BenchesCounted b n → n ≤ b.benches
  counted_benches n c = c.least b.benches last_ends

  -- .. and where it ends, the best load so far is the heaviest
  pub ends_heaviest : (n : ℕ) → T (count_ends b n) → best_so_far b n ≡ heaviest b
  unfolding heaviest
  ends_heaviest n t =
      let f = load b.holders in
      elim (dec_le n b.benches) [
        | yes k ↦ greatest_early n b.benches f k (omega (arith, ends_most b n t, loads_standing b v))
        | no k ↦ sym (greatest_early b.benches n f (omega (arith, k)) (omega (arith, shared_most n b.named b.holders v.shares, loads_standing b v)))
      ]

-- two boards by computation

-- a board of three benches whose jobs have these holders
abbrev pub three_benches : List ℕ → Board
three_benches holders = record { benches = 3; named = map (λ h. 1 ∷ 2 ∷ 3 ∷ []) holders; holders = holders }

-- loads 0, 3 and 1: behind bench 2 one job is left, and 3 is more
pub ends_below : BenchesCounted (three_benches (2 ∷ 2 ∷ 3 ∷ 2 ∷ [])) 2
ends_below = record { holds = tt; least = least }
  where
    least : (m : ℕ) → T (count_ends (three_benches (2 ∷ 2 ∷ 3 ∷ 2 ∷ [])) m) → 2 ≤ m
    least zero t = absurd t
    least (suc zero) t = absurd t
    least (suc (suc m)) t = omega arith

-- loads 2, 1 and 1: behind bench 1 two jobs are left, and 2 is no less
pub ends_equal : BenchesCounted (three_benches (1 ∷ 2 ∷ 1 ∷ 3 ∷ [])) 1
ends_equal = record { holds = tt; least = least }
  where
    least : (m : ℕ) → T (count_ends (three_benches (1 ∷ 2 ∷ 1 ∷ 3 ∷ [])) m) → 1 ≤ m
    least zero t = absurd t
    least (suc m) t = omega arith
