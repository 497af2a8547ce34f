-- Jobs listed by their holders, from the last down: one more, and all of them.
use Prim.Native.Nat.{ℕ, zero, suc, ◌+◌, ◌-◌, ◌≤◌, ◌<◌}
use native.Mathlib.Omega.{arith}
use mathlib.Core.Path.{◌≡◌, sym, ◌∙◌}
use mathlib.Core.Logic.{inl, inr}
use mathlib.Core.Bool.{Bool, cond}
use mathlib.Core.List.{List, ◌∷◌}
use lib.Dec.{T}
use lib.ListN.{length, get_or, set, drop, replicate, length-set, length-replicate, get_or-replicate}
use lib.Seq.{drop-cons, drop-length, get_or-set_same, get_or-set_other}
use Rattle.spec_lists.specs.Lists.{within, In}
use Rattle.spec_lists.proofs.Tests.{Compared, same, other, compared, within_high, within_both}
use Rattle.spec_lists.proofs.Counting.{count_some}
use Rattle.spec_table.specs.Board.{Board, jobs_held}
use Rattle.spec_table.specs.Table.{most_benches, most_jobs, decode}
use Rattle.spec_table.proofs.Held.{count_before}
use Rattle.table_size.specs.Sizes.{SoundTable}
use Rattle.table_size.specs.declared.Size.{Size}
use Rattle.table_board.specs.BoardView.{HolderOf}
use Rattle.table_board.proofs.RecordsAsBoard.{holders_long}
use Rattle.sheet_jobs.specs.JobLists.{ListFrom, list_end, list_job}

-- lists in an array

-- another next job at job i changes no list without job i
list_apart : {next js : List ℕ} {j : ℕ} (i n : ℕ) → ListFrom next j js → (In i js → ⊥) → ListFrom (set next i n) j js
list_apart i n list_end d = list_end
list_apart {next} i n (list_job {j} {js} w l) d =
    list_job {j = j} {js = js} w (rw (get_or-set_other next i j n 0 (λ e. d (inl (sym e)))) (list_apart i n l (λ o. d (inr o))))

-- a job goes in front of a list without it
list_front : {next js : List ℕ} {n : ℕ} (j : ℕ) → T (within 1 most_jobs j) → length next ≡ most_jobs + 1 → ListFrom next n js → (In j js → ⊥) → ListFrom (set next j n) j (j ∷ js)
list_front {next} {js} {n} j w e l d =
    list_job {j = j} {js = js} w (rw (get_or-set_same next j n 0 (omega (arith, within_high 1 most_jobs j w))) (list_apart j n l d))

-- one turn of the listing

-- the jobs after job j that bench x holds
abbrev later : Board → ℕ → ℕ → List ℕ
later b j x = jobs_held (suc j) x (drop j b.holders)

-- job j is none of them
later_without : (b : Board) (j x : ℕ) → In j (later b j x) → ⊥
later_without b j x o = omega (arith, count_some j (later b j x) o, count_before j (suc j) x (drop j b.holders) (omega arith))

-- at each bench begins the list of the jobs after job j that it holds
pub record ListedAfter (b : Board) (s : Size) (j : ℕ) (head next : List ℕ) : Type 0 where
  pub held : (x : ℕ) → T (within 1 b.benches x) → ListFrom next (get_or head x 0) (later b j x)
  pub number : j ≤ s.jobs
  pub heads_long : length head ≡ most_benches + 1
  pub nexts_long : length next ≡ most_jobs + 1

module _ {t : List ℕ} {s : Size} (z : SoundTable t s) {head next : List ℕ} where
  -- at first none is listed ..
  pub listed_start : head ≡ replicate (most_benches + 1) 0 → length next ≡ most_jobs + 1 → ListedAfter (decode t) s s.jobs head next
  listed_start e n =
      record {
        held = λ x w. rw (e, get_or-replicate {A = ℕ} (most_benches + 1) x 0 0 (small x w), ← holders_long z.size, drop-length b.holders) list_end;
        number = omega arith;
        heads_long = rw e (length-replicate {A = ℕ} (most_benches + 1) 0);
        nexts_long = n;
      }
    where
      b : Board
      b = decode t

      small : (x : ℕ) → T (within 1 b.benches x) → x < most_benches + 1
      small x w = omega (arith, within_high 1 b.benches x w, z.size.board_benches, z.size.limits.benches_most)

  -- .. and each next one goes before those that its holder has
  pub listed_turn : {j h : ℕ} → 0 < j → ListedAfter (decode t) s j head next → HolderOf t s j h → ListedAfter (decode t) s (j - 1) (set head h j) (set next j (get_or head h 0))
  listed_turn {j = zero} l a o = absurd (omega arith)
  listed_turn {j = suc j} {h} l a o =
      let e : suc j - 1 ≡ j = omega arith in
      rw e
      (record {
        held = λ x w. rw (drop-cons b.holders j 0 (omega (arith, a.number, holders_long z.size)), ← o.value) (go x w (compared h x));
        number = omega (arith, a.number);
        heads_long = length-set head h (suc j) ∙ a.heads_long;
        nexts_long = length-set next (suc j) (get_or head h 0) ∙ a.nexts_long;
      })
    where
      b : Board
      b = decode t

      r : ℕ → List ℕ
      r = later b (suc j)

      job : T (within 1 most_jobs (suc j))
      job = within_both 1 most_jobs (suc j) (omega arith) (omega (arith, a.number, z.size.limits.jobs_most))

      go : (x : ℕ) → T (within 1 b.benches x) → {y : Bool} → Compared h x y → ListFrom (set next (suc j) (get_or head h 0)) (get_or (set head h (suc j)) x 0) (cond y (suc j ∷ r x) (r x))
      go x w (same e) =
          rw (e, get_or-set_same head x (suc j) 0 (omega (arith, o.most, z.size.limits.benches_most, a.heads_long)))
          (list_front (suc j) job a.nexts_long (a.held x w) (later_without b (suc j) x))
      go x w (other d) =
          rw (get_or-set_other head h x (suc j) 0 (λ e. d (sym e)))
          (list_apart (suc j) (get_or head h 0) (a.held x w) (later_without b (suc j) x))
