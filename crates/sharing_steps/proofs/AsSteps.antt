-- A board's jobs as steps: each that is held leads to the other bench it names; and the loads of a board in an array.
use Prim.Native.Nat.{ℕ, ◌+◌, ◌-◌, ◌≤◌, ◌<◌}
use native.Mathlib.Omega.{arith}
use native.Mathlib.Decide.{ℕ_discrete, dec_le}
use mathlib.Core.Path.{◌≡◌, refl, sym, ap, subst, ◌∙◌}
use mathlib.Core.Logic.{◌⊎◌, inl, inr, ◌≢◌}
use mathlib.Core.List.{List, [], ◌∷◌}
use lib.Dec.{T}
use lib.ListN.{length, get_or-eq_default}
use borrow.Author.Tests.{eq-eqb, ne_eqb}
use Rattle.spec_lists.specs.Lists.{within, In, nth}
use Rattle.spec_table.specs.Board.{Board, holder_of, names_of, stands, load, names_fit}
use Rattle.spec_table.specs.Table.{most_benches, decode}
use Rattle.spec_sharing.specs.Paths.{Step, step_by, steps}
use Rattle.spec_sharing.specs.Searches.{Reach}
use Rattle.spec_lists.proofs.Tests.{T→true, within_low, within_both}
use Rattle.spec_lists.proofs.Elements.{is_empty, some_in, each_nth, two_elements}
use Rattle.spec_table.proofs.Named.{length_shares, pair_fits, named_stands, named_bench, shares_nth, held_named, holder_bench}
use Rattle.spec_lists.proofs.Counting.{count_most}
use Rattle.spec_sharing.proofs.Distances.{storable_one_other}
use Rattle.spec_sharing.proofs.Paths.{step_is, is_step}
use Rattle.spec_sharing.proofs.Walks.{reach_here, reach_first}
use Rattle.table_size.specs.Sizes.{BenchIn}
use Rattle.table_size.specs.declared.Size.{Size}
use Rattle.table_size.proofs.Sizes.{board_bench}
use Rattle.table_board.specs.BoardView.{HoldsBoard, Loaded, Position, NameOf, HolderOf}
use Rattle.table_board.proofs.RecordsAsBoard.{holders_long, holder_most, stands_held, held_stands, names_length, load_beyond}
use Rattle.graph_lists.specs.Arrays.{at, Reached, here, step, LoadsIn}
use Rattle.sharing_steps.specs.Others.{other_than, other_of, OtherOf}

-- one job

-- y is the only name other than h, and the names' sum tells it from h
pub record OtherName (names : List ℕ) (h y : ℕ) : Type 0 where
  pub named : In y names
  pub apart : y ≢ h
  pub only : (z : ℕ) → In z names → z ≢ h → z ≡ y
  pub sum : nth names 1 0 + nth names 2 0 ≡ h + y

-- of two names one is h, and the other is the first that is not
pub pair_other : (a c h : ℕ) → a ≢ c → In h (a ∷ c ∷ []) → OtherName (a ∷ c ∷ []) h (other_than h (a ∷ c ∷ []))
pair_other a c h d (inl e) =
    let f : c ≢ h = λ g. d (sym (g ∙ e)) in
    rw (eq-eqb a h (sym e), ne_eqb c h f) (record { named = inr (inl refl); apart = f; only = only; sum = omega arith })
  where
    only : (z : ℕ) → In z (a ∷ c ∷ []) → z ≢ h → z ≡ c
    only z (inl g) n = absurd (n (g ∙ sym e))
    only z (inr (inl g)) n = g
    only z (inr (inr i)) n = absurd i
pair_other a c h d (inr (inl e)) =
    let f : a ≢ h = λ g. d (g ∙ e) in
    rw (ne_eqb a h f) (record { named = inl refl; apart = f; only = only; sum = omega arith })
  where
    only : (z : ℕ) → In z (a ∷ c ∷ []) → z ≢ h → z ≡ a
    only z (inl g) n = g
    only z (inr (inl g)) n = absurd (n (g ∙ sym e))
    only z (inr (inr i)) n = absurd i
pair_other a c h d (inr (inr i)) = absurd i

module _ (t : List ℕ) (s : Size) (j : ℕ) (holds_board : HoldsBoard t s) where
  -- a job that is held names two benches ..
  held_two : holder_of (decode t) j ≢ 0 → length (names_of (decode t) j) ≡ 2
  held_two d = let n = names_length t s j holds_board in rw (T→true (stands (decode t) j) (held_stands t s j holds_board d)) at n

  -- .. and leads to the other of them ..
  held_other : holder_of (decode t) j ≢ 0 → OtherName (names_of (decode t) j) (holder_of (decode t) j) (other_of (decode t) j)
  held_other d =
      let b = decode t in
      let names = names_of b j in
      let n = two_elements names (held_two d) in
      let f = each_nth (λ names. T (names_fit b.benches names)) b.named j [] tt holds_board.storable.valid.names in
      let i = some_in names (held_stands t s j holds_board d) in
      let h = held_named names (holder_of b j) i.0 i.1 (shares_nth b holds_board.storable.valid j) in
      rw n.2 (pair_other n.0 n.1 (holder_of b j) ((pair_fits b.benches n.0 n.1).0 (rw n.2 at f)).2 (rw n.2 at h))

  -- .. which is a bench
  pub held_leads : holder_of (decode t) j ≢ 0 → BenchIn s (other_of (decode t) j)
  held_leads d =
      board_bench (other_of (decode t) j) holds_board.size (named_bench (decode t) holds_board.storable.valid j (other_of (decode t) j) (held_other d).named)

  -- one that nobody holds leads nowhere
  free_other : holder_of (decode t) j ≡ 0 → other_of (decode t) j ≡ 0
  free_other e =
      let b = decode t in
      ap (other_than (holder_of b j)) (is_empty (names_of b j) (rw (stands_held t s j holds_board, e) tt))

  -- where a job leads to is at most the last bench
  other_most : other_of (decode t) j ≤ s.benches
  other_most = elim (ℕ_discrete (holder_of (decode t) j) 0) [ yes e ↦ omega (arith, free_other e) | no d ↦ (held_leads d).most ]

  module _ (h : ℕ) (e : h ≡ holder_of (decode t) j) (d : h ≢ 0) where
    -- it names two benches ..
    pub held_place : (k : ℕ) → 1 ≤ k → k ≤ 2 → Position (names_of (decode t) j) k
    held_place k l u = record { least = l; most = omega (arith, held_two (λ f. d (e ∙ f))) }

    -- .. and leads to what is left of their sum
    pub held_of : (x y : ℕ) → NameOf t s j 1 x → NameOf t s j 2 y → (h ≤ x + y) × OtherOf (decode t) s j (x + y - h)
    held_of x y m n =
        let sum = (held_other (λ f. d (e ∙ f))).sum in
        (omega (arith, sum, m.value, n.value), record { value = omega (arith, sum, m.value, n.value); most = omega (arith, sum, m.value, n.value, other_most) })

  module _ (y : ℕ) (e : y ≡ other_of (decode t) j) (d : y ≢ 0) where
    -- one that leads to a bench is held, ..
    led_held : holder_of (decode t) j ≢ 0
    led_held f = d (e ∙ free_other f)

    -- .. names two benches ..
    pub led_place : (k : ℕ) → 1 ≤ k → k ≤ 2 → Position (names_of (decode t) j) k
    led_place = held_place (holder_of (decode t) j) refl led_held

    -- .. and is held by what is left of their sum
    pub led_of : (x z : ℕ) → NameOf t s j 1 x → NameOf t s j 2 z → (y ≤ x + z) × HolderOf t s j (x + z - y)
    led_of x z m n =
        let sum = (held_other led_held).sum in
        (omega (arith, sum, m.value, n.value), record { value = omega (arith, sum, m.value, n.value); most = omega (arith, sum, m.value, n.value, holder_most t s j holds_board) })

  module _ (x : ℕ) (e : (x ≡ holder_of (decode t) j) ⊎ (x ≡ other_of (decode t) j)) (d : x ≢ 0) where
    -- one of its two benches tells that it names two ..
    pub end_place : (k : ℕ) → 1 ≤ k → k ≤ 2 → Position (names_of (decode t) j) k
    end_place = elim e [ inl h ↦ held_place x h d | inr o ↦ led_place x o d ]

    -- .. and is no more than their sum
    pub end_few : (m n : ℕ) → NameOf t s j 1 m → NameOf t s j 2 n → x ≤ m + n
    end_few m n a b = elim e [ inl h ↦ (held_of x h d m n a b).0 | inr o ↦ (led_of x o d m n a b).0 ]

-- loads

-- the loads of a board are loads of its size ..
pub loads_in : {t : List ℕ} {s : Size} {loads : List ℕ} → HoldsBoard t s → Loaded (decode t) loads → LoadsIn s loads
loads_in {t} {s} {loads} k l = record { most = most; beyond = beyond; long = l.long }
  where
    -- what stands at x is the load of x, or 0
    at_load : (P : ℕ → Type 0) (x : ℕ) → 1 ≤ x → P (load (decode t).holders x) → P 0 → P (at loads x)
    at_load P x i p z = elim (dec_le x most_benches) [
      | yes h ↦ rw (l.bench x i h) p
      | no h ↦ rw (get_or-eq_default loads 0 {n = x} (omega (arith, l.long))) z
    ]

    most : (x : ℕ) → 1 ≤ x → at loads x ≤ s.jobs
    most x h = at_load (λ n. n ≤ s.jobs) x h (omega (arith, count_most x (decode t).holders, holders_long k.size)) (omega arith)

    beyond : (x : ℕ) → s.benches < x → at loads x ≡ 0
    beyond x h = at_load (λ n. n ≡ 0) x (omega arith) (load_beyond t s x k h) refl

-- at a bench's number stands its load
pub bench_load : {b : Board} {s : Size} {loads : List ℕ} {x : ℕ} → s.benches ≤ most_benches → Loaded b loads → BenchIn s x → at loads x ≡ load b.holders x
bench_load {x = x} few l i = l.bench x i.least (omega (arith, i.most))

module _ {t : List ℕ} {s : Size} (holds_board : HoldsBoard t s) where
  -- a bench of the size is one of the board ..
  pub on_board : {x : ℕ} → BenchIn s x → T (within 1 (decode t).benches x)
  on_board {x} i = rw holds_board.size.board_benches (within_both 1 s.benches x i.least i.most)

  -- .. and its load stands at its number
  pub load_at : {loads : List ℕ} {x : ℕ} → Loaded (decode t) loads → BenchIn s x → at loads x ≡ load (decode t).holders x
  load_at = bench_load holds_board.size.limits.benches_most

-- jobs and steps

module _ {t : List ℕ} {s : Size} (holds_board : HoldsBoard t s) where
  -- a job is a step from the bench that holds it to the other one ..
  pub job_step : (j x : ℕ) → 1 ≤ x → holder_of (decode t) j ≡ x → In (step_by j (other_of (decode t) j)) (steps (decode t) x)
  job_step j x l h =
      let b = decode t in
      let o = held_other t s j holds_board (λ z. omega arith) in
      is_step b x (step_by j (other_of b j)) h o.named (λ f. o.apart (f ∙ sym h)) (sym (length_shares b.named b.holders holds_board.storable.valid.shares))

  -- .. and every step is one
  pub step_job : (x : ℕ) (q : Step) → In q (steps (decode t) x) → T (stands (decode t) q.job) × (holder_of (decode t) q.job ≡ x) × (other_of (decode t) q.job ≡ q.to)
  step_job x q i =
      let b = decode t in
      let j = q.job in
      let r = step_is b x q i in
      let p = named_stands b j q.to r.1 in
      let l : 1 ≤ x = omega (arith, within_low 1 b.benches (holder_of b j) (holder_bench b holds_board.storable.valid j p), r.0) in
      (p, r.0, storable_one_other b holds_board.storable x (step_by j (other_of b j)) q (job_step j x l r.0) i refl)

  -- what a relation of such jobs reaches from a bench, steps reach
  pub jobs_reach : {J : ℕ → ℕ → Type 0} → ((x y : ℕ) → BenchIn s x → J x y → (j : ℕ) × (holder_of (decode t) j ≡ x) × (other_of (decode t) j ≡ y)) → (x y : ℕ) → BenchIn s x → Reached J x y → Reach (steps (decode t)) x y
  jobs_reach f x y b (here _) = reach_here (steps (decode t)) x
  jobs_reach f x y b (step _ z _ i r) =
      let (j, h, o) = f x z b i in
      let n : BenchIn s z = subst (BenchIn s) o (held_leads t s j holds_board (λ e. omega (arith, b.least))) in
      let q = subst (λ (z : ℕ). Reach (steps (decode t)) z y) (sym o) (jobs_reach f z y n r) in
      reach_first (steps (decode t)) x y (step_by j (other_of (decode t) j)) (job_step j x b.least h) q
