-- "On a level one (no improving path) the result is level again": arrivals and closings keep a board level.
use Prim.Native.Nat.{ℕ, suc, ◌+◌, ◌≤◌, ◌<◌}
use native.Mathlib.Omega.{arith}
use native.Mathlib.Decide.{dec_le, ℕ_discrete}
use mathlib.Core.Path.{◌≡◌, refl, sym, ap, subst, ◌∙◌}
use mathlib.Core.Logic.{◌⊎◌, inl, inr, ◌≢◌}
use mathlib.Core.Bool.{Bool, not, ◌||◌}
use mathlib.Core.List.{List, []}
use lib.Dec.{T, eqb, ltb, ltb→lt, lt→ltb}
use lib.ListN.{length}
use Rattle.spec_lists.specs.Lists.{bit, within, In, empty, nth, update}
use Rattle.spec_table.specs.Board.{Board, Valid, names_of, holder_of, stands, put, load, excess, may_hold, Shares, names_fit, held_by}
use Rattle.spec_sharing.specs.Paths.{Step, steps}
use Rattle.spec_sharing.specs.Sharing.{arrival_choice, closing_choice, lightest_named, arrive, close, level}
use Rattle.spec_sharing.specs.Demand2.{OneMore}
use Rattle.spec_sharing.specs.Searches.{Reach}
use Rattle.spec_lists.proofs.Tests.{either, or_left, or_right, Compared, same, other, compared, T-eqb, eqb_T, within_low, within_high, within_both}
use Rattle.spec_lists.proofs.Elements.{is_empty, nth_update_same, length_update}
use Rattle.spec_table.proofs.Named.{length_shares, fit_bench, stands_within, named_may, shares_nth, holder_bench}
use Rattle.spec_lists.proofs.Counting.{bit_other}
use Rattle.spec_sharing.proofs.Paths.{step_is}
use Rattle.spec_sharing.proofs.Sets.{lightest_named_in}
use Rattle.spec_sharing.proofs.Walks.{reach_here, reach_more, reach_all, reach_bench, level_reach}
use Rattle.spec_sharing.proofs.Flip.{put_valid}
use Rattle.spec_sharing.proofs.OneLoad.{more_load, excess_rises, excess_stays, excess_grows}
use Rattle.spec_sharing.proofs.Levels.{level_least}
use Rattle.spec_sharing.proofs.Changes.{put_rises, put_falls, arrival_does, taken_names, closing_does}
use Rattle.spec_sharing.proofs.OneJob.{same_step, shares_back, held_valid, arrival_low, closing_high, closure_least, does_level}

-- an arrival: the load of bench `risen` rises

module _ (b : Board) (v : Valid b) (l : T (level b)) (j : ℕ) (names : List ℕ) (w : T (within 1 (length b.named) j)) (n : T (not (stands b j))) (e : T (not (empty names))) (f : T (names_fit b.benches names)) where
  abbrev getting : ℕ
  getting = lightest_named b.holders names

  -- the board in which that bench has just got the job
  abbrev got : Board
  got = put b j names getting

  got_valid : Valid got
  got_valid = put_valid b v j names getting f (named_may names getting (lightest_named_in b.holders names e))

  new_low : 1 ≤ j
  new_low = within_low 1 (length b.named) j w

  new_high : j ≤ length b.named
  new_high = within_high 1 (length b.named) j w

  got_stands : T (stands got j)
  got_stands = subst (λ (k : List ℕ). T (not (empty k))) (sym (nth_update_same b.named j names [] new_low new_high)) e

  none_named : names_of b j ≡ []
  none_named = is_empty (names_of b j) n

  new_held : j ≤ length b.holders
  new_held = omega (arith, new_high, length_shares b.named b.holders v.shares)

  got_holder : holder_of got j ≡ getting
  got_holder = nth_update_same b.holders j getting 0 new_low new_held

  getting_bench : T (within 1 b.benches getting)
  getting_bench = fit_bench b.benches names getting f (lightest_named_in b.holders names e)

  one_got : OneMore b.benches b.holders got.holders getting
  one_got = put_rises b v j names getting w n getting_bench

  got_load : (y : ℕ) → T (within 1 b.benches y) → load got.holders y ≡ load b.holders y + bit (eqb getting y)
  got_load y t = more_load b.benches b.holders got.holders getting one_got y (within_low 1 b.benches y t) (within_high 1 b.benches y t)

  abbrev risen : ℕ
  risen = (arrive b j names).bench

  abbrev arrived_holders : List ℕ
  arrived_holders = (arrive b j names).board.holders

  one_risen : OneMore b.benches b.holders arrived_holders risen
  one_risen = (arrival_does b v j names w n e f).1

  -- of the benches that the getting one reaches, `risen` had the least load
  risen_low : (z : ℕ) → Reach (steps got) getting z → load b.holders risen ≤ load b.holders z
  unfolding arrive
  risen_low z q =
      let o = one_risen in
      omega (arith, arrival_low got got_valid getting j (arrival_choice got getting) refl z q, got_load z (reach_bench got got_valid getting z getting_bench q), got_load risen (within_both 1 b.benches risen o.positive o.bench))

  -- without the job a sharing of the new jobs is one of the old
  arrival_above : (h : ℕ) (hs : List ℕ) → Shares got.named hs → excess b.benches b.holders h ≤ excess b.benches hs h
  arrival_above h hs s =
      let o = put_falls (held_by got hs) (held_valid got got_valid hs s) j got_stands in
      let k : T (may_hold (names_of b j) 0) = rw none_named tt in
      omega (arith, level_least b v l h (update hs j 0) (shares_back b v j names 0 hs k s), (excess_grows b.benches (update hs j 0) hs (nth hs j 0) o h).0)

  -- what the benches above h and the getting one reach: the getting one reaches it, or one above h did in the old board
  abbrev ReachedEither : ℕ → ℕ → Type 0
  ReachedEither h y = Reach (steps got) getting y ⊎ ((u : ℕ) × (h < load b.holders u) × Reach (steps b) u y)

  reached_more : (h z : ℕ) (s : Step) → ReachedEither h z → In s (steps got z) → ReachedEither h s.to
  reached_more h z s (inl q) i = inl (reach_more (steps got) getting z s q i)
  reached_more h z s (inr q) i = go (ℕ_discrete s.job j)
    where
      go : Dec (s.job ≡ j) → ReachedEither h s.to
      go (yes d) =
          let here : z ≡ getting = sym (step_is got z s i).0 ∙ ap (holder_of got) d ∙ got_holder in
          inl (reach_more (steps got) getting getting s (reach_here (steps got) getting) (subst (λ (y : ℕ). In s (steps got y)) here i))
      go (no d) = inr (q.0, q.1, reach_more (steps b) q.0 z s q.2 (same_step b v j names getting z s i d))

  -- up to the old load of `risen` they reach no bench below h
  arrival_below : (h : ℕ) → h ≤ load b.holders risen → (hs : List ℕ) → Shares got.named hs → excess b.benches got.holders h ≤ excess b.benches hs h
  arrival_below h i =
      closure_least got got_valid (λ y. ltb h (load b.holders y) || eqb y getting) h (λ y t k. above y t k (compared getting y))
      (λ z y t u p q. full y u (reach_all (steps got) (ReachedEither h) (reached_more h) z y (start z (either (ltb h (load b.holders z)) (eqb z getting) p)) q))
    where
      above : (y : ℕ) → T (within 1 b.benches y) → h < load got.holders y → {z : Bool} → Compared getting y z → T (ltb h (load b.holders y) || eqb y getting)
      above y t k (same d) = or_right (ltb h (load b.holders y)) (eqb y getting) (eqb_T y getting (sym d))
      above y t k (other d) = or_left (ltb h (load b.holders y)) (eqb y getting) (lt→ltb h (load b.holders y) (omega (arith, got_load y t, bit_other getting y d)))

      start : (z : ℕ) → T (ltb h (load b.holders z)) ⊎ T (eqb z getting) → ReachedEither h z
      start z (inl p) = inr (z, ltb→lt h (load b.holders z) p, reach_here (steps b) z)
      start z (inr p) = inl (subst (Reach (steps got) getting) (sym (T-eqb z getting p)) (reach_here (steps got) getting))

      full : (y : ℕ) → T (within 1 b.benches y) → ReachedEither h y → h ≤ load got.holders y
      full y t (inl q) = omega (arith, got_load y t, risen_low y q)
      full y t (inr q) = omega (arith, got_load y t, q.1, (level_reach b v).0 l q.0 y q.2)

  arrival_least : (h : ℕ) (hs : List ℕ) → Shares got.named hs → excess b.benches arrived_holders h ≤ excess b.benches hs h
  arrival_least h hs s = go (dec_le h (load b.holders risen))
    where
      go : Dec (h ≤ load b.holders risen) → excess b.benches arrived_holders h ≤ excess b.benches hs h
      go (yes i) =
          let below_got : h < load got.holders getting = omega (arith, one_got.here, risen_low getting (reach_here (steps got) getting)) in
          omega (arith, excess_rises b.benches b.holders arrived_holders risen one_risen h (omega (arith, one_risen.here)), excess_rises b.benches b.holders got.holders getting one_got h below_got, arrival_below h i hs s)
      go (no i) = omega (arith, excess_stays b.benches b.holders arrived_holders risen one_risen h (omega (arith, one_risen.here)), arrival_above h hs s)

-- an arrival keeps a level board level
pub arrival_keeps_level : (b : Board) → Valid b → T (level b) → (j : ℕ) (names : List ℕ) → T (within 1 (length b.named) j) → T (not (stands b j)) → T (not (empty names)) → T (names_fit b.benches names) → T (level (arrive b j names).board)
arrival_keeps_level b v l j names w n e f = does_level b j names (arrive b j names) (arrival_does b v j names w n e f).0 (arrival_least b v l j names w n e f)

-- a closing: the load of bench `fallen` falls

module _ (b : Board) (v : Valid b) (l : T (level b)) (j : ℕ) (s : T (stands b j)) where
  abbrev losing : ℕ
  losing = holder_of b j

  -- the board in which that bench has just lost the job
  abbrev lost : Board
  lost = put b j [] 0

  lost_valid : Valid lost
  lost_valid = put_valid b v j [] 0 tt tt

  lost_names : names_of lost j ≡ []
  lost_names = taken_names b j s

  one_lost : OneMore b.benches lost.holders b.holders losing
  one_lost = put_falls b v j s

  lost_load : (y : ℕ) → T (within 1 b.benches y) → load b.holders y ≡ load lost.holders y + bit (eqb losing y)
  lost_load y t = more_load b.benches lost.holders b.holders losing one_lost y (within_low 1 b.benches y t) (within_high 1 b.benches y t)

  abbrev fallen : ℕ
  fallen = (close b j).bench

  abbrev closed_holders : List ℕ
  closed_holders = (close b j).board.holders

  one_fallen : OneMore b.benches closed_holders b.holders fallen
  one_fallen = (closing_does b v j s).1

  -- of the benches that reach the losing one, `fallen` had the greatest load
  fallen_high : (z : ℕ) → T (within 1 b.benches z) → Reach (steps lost) z losing → load b.holders z ≤ load b.holders fallen
  unfolding close
  fallen_high z t q =
      let o = one_fallen in
      omega (arith, closing_high lost lost_valid losing (closing_choice lost losing) refl z q, lost_load z t, lost_load fallen (within_both 1 b.benches fallen o.positive o.bench))

  -- with the job given back to its bench a sharing of the new jobs is one of the old
  closing_below : (h : ℕ) (hs : List ℕ) → Shares lost.named hs → excess b.benches b.holders h ≤ suc (excess b.benches hs h)
  closing_below h hs t =
      let w : T (within 1 (length lost.named) j) = rw (length_update b.named j []) (stands_within b j s) in
      let n : T (not (stands lost j)) = rw lost_names tt in
      let o = put_rises (held_by lost hs) (held_valid lost lost_valid hs t) j [] losing w n (holder_bench b v j s) in
      omega (arith, level_least b v l h (update hs j losing) (shares_back b v j [] losing hs (shares_nth b v j) t), (excess_grows b.benches hs (update hs j losing) losing o h).1)

  -- what is reached without the job was reached with it
  reach_before : (z y : ℕ) → Reach (steps lost) z y → Reach (steps b) z y
  reach_before z y q = reach_all (steps lost) (Reach (steps b) z) next z y (reach_here (steps b) z) q
    where
      next : (u : ℕ) (t : Step) → Reach (steps b) z u → In t (steps lost u) → Reach (steps b) z t.to
      next u t p i =
          let another : t.job ≢ j = λ e. subst (In t.to) (ap (names_of lost) e ∙ lost_names) (step_is lost u t i).1 in
          reach_more (steps b) z u t p (same_step b v j [] 0 u t i another)

  -- from the old load of `fallen` on, the benches above h reach no bench below h
  closing_above : (h : ℕ) → load b.holders fallen ≤ h → (hs : List ℕ) → Shares lost.named hs → excess b.benches lost.holders h ≤ excess b.benches hs h
  closing_above h i =
      closure_least lost lost_valid (λ y. ltb h (load b.holders y)) h (λ y t k. lt→ltb h (load b.holders y) (omega (arith, lost_load y t)))
      (λ z y t u p q. full z y t u (ltb→lt h (load b.holders z) p) q)
    where
      full : (z y : ℕ) → T (within 1 b.benches z) → T (within 1 b.benches y) → h < load b.holders z → Reach (steps lost) z y → h ≤ load lost.holders y
      full z y t u p q =
          let apart = bit_other losing y (λ e. let k = fallen_high z t (subst (Reach (steps lost) z) (sym e) q) in omega arith) in
          omega (arith, apart, lost_load y u, (level_reach b v).0 l z y (reach_before z y q))

  closing_least : (h : ℕ) (hs : List ℕ) → Shares lost.named hs → excess b.benches closed_holders h ≤ excess b.benches hs h
  closing_least h hs t = go (dec_le (load b.holders fallen) h)
    where
      go : Dec (load b.holders fallen ≤ h) → excess b.benches closed_holders h ≤ excess b.benches hs h
      go (yes i) =
          let above_lost : load b.holders losing ≤ h = omega (arith, fallen_high losing (holder_bench b v j s) (reach_here (steps lost) losing)) in
          omega (arith, excess_stays b.benches closed_holders b.holders fallen one_fallen h i, excess_stays b.benches lost.holders b.holders losing one_lost h above_lost, closing_above h i hs t)
      go (no i) = omega (arith, excess_rises b.benches closed_holders b.holders fallen one_fallen h (omega arith), closing_below h hs t)

-- a closing keeps a level board level
pub closing_keeps_level : (b : Board) → Valid b → T (level b) → (j : ℕ) → T (stands b j) → T (level (close b j).board)
closing_keeps_level b v l j s = does_level b j [] (close b j) (closing_does b v j s).0 (closing_least b v l j s)
