-- One job written anew: the steps and the sharings of the board after it, and the bench that an arrival or a closing chooses.
use Prim.Native.Nat.{ℕ, ◌+◌, ◌≤◌, ◌<◌}
use native.Mathlib.Omega.{arith}
use native.Mathlib.Decide.{dec_le}
use mathlib.Core.Path.{◌≡◌, refl, sym, ap, subst, ◌∙◌}
use mathlib.Core.Logic.{◌⊎◌, inl, inr, ◌≢◌}
use mathlib.Core.Bool.{Bool}
use mathlib.Core.List.{List, []}
use mathlib.Core.Option.{Option, none, some}
use lib.Dec.{T, eqb}
use Rattle.spec_lists.specs.Lists.{bit, within, In, update}
use Rattle.spec_table.specs.Board.{Board, Valid, names_of, put, load, excess, may_hold, Shares, held_by}
use Rattle.spec_sharing.specs.Paths.{Step, steps, BenchPath, last, IsPath, improving_from, improving_to}
use Rattle.spec_sharing.specs.Sharing.{Change, level, arrival_choice, closing_choice, after_arrival, after_closing}
use Rattle.spec_sharing.specs.Searches.{Reach}
use Rattle.spec_lists.proofs.Tests.{Compared, same, other, compared}
use Rattle.spec_lists.proofs.Elements.{nth_update_other, update_back}
use Rattle.spec_table.proofs.Named.{length_shares}
use Rattle.spec_lists.proofs.Counting.{bit_same, bit_other, bit_le}
use Rattle.spec_sharing.proofs.Paths.{step_is, is_step, improving_from_only, improving_from_every, improves_loads, loads_improve, improving_to_only, improving_to_every}
use Rattle.spec_sharing.proofs.Choice.{ArrivalFirst, ClosingFirst, First, arrival_choice_lem, arrival_none, closing_choice_lem, closing_none}
use Rattle.spec_sharing.proofs.Walks.{reach_path}
use Rattle.spec_sharing.proofs.Certificate.{proved_least}
use Rattle.spec_sharing.proofs.TightSet.{closure_of, closure_proves}
use Rattle.spec_sharing.proofs.Flip.{shares_written}
use Rattle.spec_sharing.proofs.Levels.{least_level}
use Rattle.spec_sharing.proofs.Changes.{Changed}

module _ (b : Board) (v : Valid b) (j : ℕ) where
  -- the steps by other jobs, after job j is written anew, are steps of the board
  pub same_step : (names : List ℕ) (a z : ℕ) (s : Step) → In s (steps (put b j names a) z) → s.job ≢ j → In s (steps b z)
  same_step names a z s i d =
      let k = step_is (put b j names a) z s i in
      is_step b z s (sym (nth_update_other b.holders j s.job a 0 d) ∙ k.0) (subst (In s.to) (nth_update_other b.named j s.job names [] d) k.1) k.2 (sym (length_shares b.named b.holders v.shares))

  -- a sharing of the jobs after it, with job j given back, shares the board's
  pub shares_back : (names : List ℕ) (a : ℕ) (hs : List ℕ) → T (may_hold (names_of b j) a) → Shares (update b.named j names) hs → Shares b.named (update hs j a)
  shares_back names a hs t s = subst (λ (l : List (List ℕ)). Shares l (update hs j a)) (update_back b.named j names []) (shares_written (update b.named j names) hs j (names_of b j) a s t)

-- a sharing of a valid board's jobs makes a valid board
pub held_valid : (b : Board) → Valid b → (hs : List ℕ) → Shares b.named hs → Valid (held_by b hs)
held_valid b v hs s = record { names = v.names; shares = s }

-- improving paths between two benches

-- from x to y the load falls by one at most, or an improving path leads there
abbrev OneFewer : Board → ℕ → ℕ → Type 0
OneFewer b x y =
    (load b.holders x ≤ load b.holders y + 1) ⊎
    ((q : BenchPath) × In q (improving_from b x) × In q (improving_to b y) × (q.start ≡ x) × (last q ≡ y) × (load b.holders y + 2 ≤ load b.holders x))

reach_falls : (b : Board) → Valid b → (x y : ℕ) → Reach (steps b) x y → OneFewer b x y
reach_falls b v x y w = go (reach_path b x y w) (dec_le (load b.holders x) (load b.holders y + 1))
  where
    go : ((q : BenchPath) × IsPath b q × (q.start ≡ x) × (last q ≡ y)) → Dec (load b.holders x ≤ load b.holders y + 1) → OneFewer b x y
    go r (yes h) = inl h
    go r (no h) =
        let q = r.0 in
        let t = loads_improve b q (omega (arith, ap (load b.holders) r.2, ap (load b.holders) r.3)) in
        inr (q, subst (λ (z : ℕ). In q (improving_from b z)) r.2 (improving_from_every b v q r.1 t), subst (λ (z : ℕ). In q (improving_to b z)) r.3 (improving_to_every b v q r.1 t), r.2, r.3, omega arith)

module _ (b : Board) (v : Valid b) (x : ℕ) where
  -- one job of bench x not counted, no bench that x reaches is lighter than that of an arrival's result
  pub arrival_low : (j : ℕ) (o : Option BenchPath) → arrival_choice b x ≡ o → (z : ℕ) → Reach (steps b) x z → let r = (after_arrival b j x o).bench in load b.holders r + bit (eqb x z) ≤ load b.holders z + bit (eqb x r)
  arrival_low j none e z w = go (compared x z) (reach_falls b v x z w)
    where
      go : {t : Bool} → Compared x z t → OneFewer b x z → load b.holders x + bit (eqb x z) ≤ load b.holders z + bit (eqb x x)
      go (same d) i = omega (arith, ap (load b.holders) d, bit_le (eqb x z), bit_same x x refl)
      go (other d) (inl h) = omega (arith, bit_other x z d, bit_same x x refl)
      go (other d) (inr q) = absurd (subst (In q.0) (arrival_none b x e) q.1)
  arrival_low j (some p) e z w = go (reach_falls b v x z w)
    where
      first : First (improving_from b x) (ArrivalFirst b) p
      first = (arrival_choice_lem b x p).0 e

      down : load b.holders (last p) + 2 ≤ load b.holders x
      down = let h = improving_from_only b x p first.listed_is in omega (arith, improves_loads b p h.2, ap (load b.holders) h.1)

      lower : (q : BenchPath) → ArrivalFirst b p q → load b.holders (last p) ≤ load b.holders (last q)
      lower q (inl i) = omega arith
      lower q (inr i) = omega (arith, i.0)

      go : OneFewer b x z → load b.holders (last p) + bit (eqb x z) ≤ load b.holders z + bit (eqb x (last p))
      go (inl h) = omega (arith, down, bit_le (eqb x z))
      go (inr q) = omega (arith, bit_other x z (λ d. omega (arith, q.5, ap (load b.holders) d)), lower q.0 (first.before q.0 q.1), ap (load b.holders) q.4)

  -- one job more of bench x counted, no bench that reaches x is heavier than that of a closing's result
  pub closing_high : (o : Option BenchPath) → closing_choice b x ≡ o → (z : ℕ) → Reach (steps b) z x → let r = (after_closing b x o).bench in load b.holders z + bit (eqb x z) ≤ load b.holders r + bit (eqb x r)
  closing_high none e z w = go (compared x z) (reach_falls b v z x w)
    where
      go : {t : Bool} → Compared x z t → OneFewer b z x → load b.holders z + bit (eqb x z) ≤ load b.holders x + bit (eqb x x)
      go (same d) i = omega (arith, ap (load b.holders) d, bit_le (eqb x z), bit_same x x refl)
      go (other d) (inl h) = omega (arith, bit_other x z d, bit_same x x refl)
      go (other d) (inr q) = absurd (subst (In q.0) (closing_none b x e) q.2)
  closing_high (some p) e z w = go (reach_falls b v z x w)
    where
      first : First (improving_to b x) (ClosingFirst b) p
      first = (closing_choice_lem b x p).0 e

      down : load b.holders x + 2 ≤ load b.holders p.start
      down = let h = improving_to_only b x p first.listed_is in omega (arith, improves_loads b p h.3, ap (load b.holders) h.2)

      higher : (q : BenchPath) → ClosingFirst b p q → load b.holders q.start ≤ load b.holders p.start
      higher q (inl i) = omega arith
      higher q (inr i) = omega (arith, i.0)

      go : OneFewer b z x → load b.holders z + bit (eqb x z) ≤ load b.holders p.start + bit (eqb x p.start)
      go (inl h) = omega (arith, down, bit_le (eqb x z))
      go (inr q) = omega (arith, bit_other x z (λ d. omega (arith, q.5, ap (load b.holders) d)), higher q.0 (first.before q.0 q.2), ap (load b.holders) q.3)

-- a test that every bench above h passes, and that brings in no bench below h, proves the excess above h
pub closure_least : (b : Board) → Valid b → (p : ℕ → Bool) (h : ℕ) → ((x : ℕ) → T (within 1 b.benches x) → h < load b.holders x → T (p x)) → ((x y : ℕ) → T (within 1 b.benches x) → T (within 1 b.benches y) → T (p x) → Reach (steps b) x y → h ≤ load b.holders y) → (hs : List ℕ) → Shares b.named hs → excess b.benches b.holders h ≤ excess b.benches hs h
closure_least b v p h above full = proved_least b v (closure_of b p) h (closure_proves b p v h above full)

-- a change of one job that leaves the excess least leaves the board level
pub does_level : (b : Board) (j : ℕ) (names : List ℕ) (c : Change) → Changed b j names c → ((h : ℕ) (hs : List ℕ) → Shares (update b.named j names) hs → excess b.benches c.board.holders h ≤ excess b.benches hs h) → T (level c.board)
does_level b j names c d m = least_level c.board d.valid (λ h hs s. rw d.benches (m h hs (subst (λ (l : List (List ℕ)). Shares l hs) d.named s)))
