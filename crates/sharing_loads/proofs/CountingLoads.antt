-- Counting benches from bench 1 up, until the jobs not yet counted are no more than the best load so far.
use Prim.Native.Nat.{ℕ, suc, ◌+◌, ◌-◌, ◌≤◌, ◌<◌, max}
use native.Mathlib.Omega.{arith}
use native.Mathlib.Decide.{dec_le}
use mathlib.Core.Path.{◌≡◌, ap, ◌∙◌}
use mathlib.Core.Bool.{not}
use mathlib.Core.List.{List}
use lib.Dec.{T}
use Rattle.spec_lists.specs.Lists.{total, greatest, empty}
use Rattle.spec_table.specs.Board.{standing, load}
use Rattle.spec_table.specs.Table.{most_jobs, decode}
use Rattle.spec_table.specs.CountedBenches.{count_ends}
use Rattle.spec_lists.proofs.Elements.{length_filter}
use Rattle.spec_lists.proofs.Counting.{total_rises, greatest_rises}
use Rattle.spec_table.proofs.CountedBenches.{loads_standing, ends_most, most_ends, ends_heaviest}
use Rattle.table_size.specs.Sizes.{SoundTable}
use Rattle.table_size.specs.declared.Size.{Size}
use Rattle.table_board.specs.BoardView.{Loaded}
use Rattle.graph_lists.specs.Arrays.{at}
use Rattle.sharing_loads.specs.HeaviestLoad.{HeaviestOf, CountOf, NotBefore}
use Rattle.sharing_loads.specs.declared.Count.{Count}
use Rattle.sharing_loads.proofs.Greatest.{loaded_greatest, loaded_total}

-- some benches more

-- `done` benches of `more` are counted behind the first n, when `left₀` jobs were left
pub record CountedOn (f : ℕ → ℕ) (n left₀ more done best left : ℕ) : Type 0 where
  pub few : done ≤ more
  pub most : best ≡ greatest (n + done) f
  pub rest : total (n + done) f + left ≡ total n f + left₀

module _ {f : ℕ → ℕ} {n left₀ more done best left : ℕ} (h : CountedOn f n left₀ more done best left) (l : done < more) where
  next : n + (done + 1) ≡ suc (n + done)
  next = omega arith

  -- the next one has no more jobs than are left, if they all together have no more ..
  pub on_few : total (n + more) f ≤ total n f + left₀ → f (n + (done + 1)) ≤ left
  on_few m = rw next (omega (arith, h.rest, total_rises (suc (n + done)) (n + more) f (omega arith)))

  -- .. and brings its load
  pub on_turn : {p : ℕ} → total (n + more) f ≤ total n f + left₀ → p ≡ max best (f (n + (done + 1))) → CountedOn f n left₀ more (done + 1) p (left - f (n + (done + 1)))
  on_turn m e =
      record { few = omega arith; most = rw next (omega (arith, h.most, rw next at e)); rest = omega (arith, h.rest, on_few m, ap (λ (k : ℕ). total k f) next, ap f next) }

module _ {s : Size} {loads : List ℕ} {c : Count} (k : CountOf s loads c) where
  -- those not counted hold the jobs that are left
  pub more_few : (more : ℕ) → c.benches + more ≤ s.benches → total (c.benches + more) (at loads) ≤ total c.benches (at loads) + c.left
  more_few more l = omega (arith, k.left, total_rises (c.benches + more) s.benches (at loads) l)

-- where the count ends

module _ {s : Size} {loads : List ℕ} {c : Count} (k : CountOf s loads c) where
  -- as long as more jobs are left than the best load so far, the count has not ended, neither here nor before
  pub not_ended : c.best < c.left → (m : ℕ) → m ≤ c.benches → total m (at loads) + greatest m (at loads) < total s.benches (at loads)
  not_ended l m u = omega (arith, k.left, k.best, total_rises m c.benches (at loads) u, greatest_rises m c.benches (at loads) u)

-- a table has no more standing jobs than job numbers
pub standing_few : {t : List ℕ} {s : Size} {n : ℕ} → SoundTable t s → n ≡ standing (decode t) → n ≤ most_jobs
standing_few {t} z e =
    omega (arith, e, length_filter (λ (names : List ℕ). not (empty names)) (decode t).named, z.size.board_jobs, z.size.limits.jobs_most)

module _ {t : List ℕ} {s : Size} {loads : List ℕ} (z : SoundTable t s) (l : Loaded (decode t) loads) where
  -- the loads are the board's ..
  same_greatest : (n : ℕ) → n ≤ s.benches → greatest n (at loads) ≡ greatest n (load (decode t).holders)
  same_greatest n u = loaded_greatest l n (omega (arith, z.size.limits.benches_most))

  same_total : (n : ℕ) → n ≤ s.benches → total n (at loads) ≡ total n (load (decode t).holders)
  same_total n u = loaded_total l n (omega (arith, z.size.limits.benches_most))

  -- .. and all of them together the standing jobs
  together : total s.benches (at loads) ≡ standing (decode t)
  together =
      let e = loads_standing (decode t) z.storable.valid in
      same_total s.benches (omega arith) ∙ (rw z.size.board_benches at e)

  -- at first no bench is counted
  pub count_start : {n : ℕ} → n ≡ standing (decode t) → CountOf s loads (record { benches = 0; best = 0; left = n })
  count_start e = record { few = omega arith; best = omega arith; left = omega (arith, e, together) }

  -- in the end the best load so far is the heaviest, and no fewer benches would have done
  pub count_ends_lem : {c : Count} → CountOf s loads c → NotBefore s loads c → c.left ≤ c.best → HeaviestOf (decode t) (record { load = c.best; benches = c.benches })
  count_ends_lem {c} k before e = record { load = k.best ∙ same_greatest n k.few ∙ ends_heaviest (decode t) z.storable.valid n holds; counted = record { holds = holds; least = least } }
    where
      n : ℕ
      n = c.benches

      holds : T (count_ends (decode t) n)
      holds = most_ends (decode t) n (omega (arith, together, k.left, k.best, same_total n k.few, same_greatest n k.few))

      least : (m : ℕ) → T (count_ends (decode t) m) → n ≤ m
      least m w = elim (dec_le n m) [
        | yes h ↦ h
        | no h ↦
            let u : m ≤ s.benches = omega (arith, h, k.few) in
            absurd (omega (arith, together, before m (omega (arith, h)), ends_most (decode t) m w, same_total m u, same_greatest m u))
      ]
