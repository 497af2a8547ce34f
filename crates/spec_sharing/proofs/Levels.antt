-- Demand 2: level boards are those whose excess is least above every height, and the tight set proves the heaviest load.
use Prim.Native.Nat.{ℕ, suc, ◌+◌, ◌-◌, ◌*◌, ◌≤◌}
use native.Mathlib.Omega.{arith}
use native.Mathlib.Decide.{dec_le}
use mathlib.Core.Path.{◌≡◌, refl, sym, ap}
use mathlib.Core.Logic.{◌≢◌}
use mathlib.Core.Bool.{Bool}
use mathlib.Core.List.{List}
use lib.Dec.{T, leb, eqb}
use lib.ListN.{length}
use Rattle.spec_lists.specs.Lists.{bit, total, greatest}
use Rattle.spec_table.specs.Board.{Board, Valid, standing, load, heaviest, excess, Shares, held_by}
use Rattle.spec_sharing.specs.Paths.{BenchPath, last, IsPath, improves, flip}
use Rattle.spec_sharing.specs.Sharing.{level, tight_set, inside, density}
use Rattle.spec_sharing.specs.Demand2.{LeastExcess, Demand2}
use Rattle.spec_lists.proofs.Tests.{Compared, same, other, compared, T-leb, leb_T, within_low, within_high, within_both}
use Rattle.spec_lists.proofs.Counting.{bit_same, bit_other, total_each, total_le, total_but_one, greatest_above, greatest_most, greatest_reached}
use Rattle.spec_sharing.proofs.Paths.{improves_loads, improves_start, level_exact}
use Rattle.spec_table.proofs.Loads.{load_heaviest, excess_none, excess_load}
use Rattle.spec_table.proofs.CountedBenches.{loads_standing}
use Rattle.spec_sharing.proofs.Sets.{density_between}
use Rattle.spec_sharing.proofs.Walks.{level_reach}
use Rattle.spec_sharing.proofs.Certificate.{Proves, attained, proved_least, certificate}
use Rattle.spec_sharing.proofs.TightSet.{closure_proves}
use Rattle.spec_sharing.proofs.Flip.{flip_loads, flip_valid}

-- on a level board the tight set of height h + 1 proves the excess above h
pub tight_proves : (b : Board) → Valid b → T (level b) → (h : ℕ) → Proves b (tight_set b (suc h)) h
unfolding tight_set
tight_proves b v l h =
    closure_proves b (λ x. leb (suc h) (load b.holders x)) v h (λ x t. leb_T (suc h) (load b.holders x))
    (λ x y t u k w. omega (arith, T-leb (suc h) (load b.holders x) k, (level_reach b v).0 l x y w))

-- level means least above every height ..
pub level_least : (b : Board) → Valid b → T (level b) → LeastExcess b
level_least b v l h = proved_least b v (tight_set b (suc h)) h (tight_proves b v l h)

-- (flipping an improving path lowers the excess just below its first bench's load)
pub flip_lowers : (b : Board) → Valid b → (p : BenchPath) → IsPath b p → T (improves b p) → suc (excess b.benches (flip b p).holders (load b.holders p.start - 1)) ≡ excess b.benches b.holders (load b.holders p.start - 1)
unfolding excess
flip_lowers b v p h t =
    let w = improves_start b v p h t in
    let low = within_low 1 b.benches x w in
    let high = within_high 1 b.benches x w in
    omega (arith, drop, total_but_one b.benches (λ y. new y - k) (λ y. old y - k) x low high stay)
  where
    x : ℕ
    x = p.start

    old : ℕ → ℕ
    old y = load b.holders y

    new : ℕ → ℕ
    new y = load (flip b p).holders y

    k : ℕ
    k = old x - 1

    two : old (last p) + 2 ≤ old x
    two = improves_loads b p t

    apart : last p ≢ x
    apart e = let d = ap old e in omega (arith, two)

    drop : suc (new x - k) ≡ old x - k
    drop = omega (arith, two, flip_loads b v p h x, bit_same x x refl, bit_other (last p) x apart)

    stay : (y : ℕ) → 1 ≤ y → y ≤ b.benches → y ≢ x → new y - k ≡ old y - k
    stay y i j d = go (compared (last p) y) (bit_other x y (λ e. d (sym e)))
      where
        go : {z : Bool} → Compared (last p) y z → bit (eqb x y) ≡ 0 → new y - k ≡ old y - k
        go (same e) o = omega (arith, two, flip_loads b v p h y, bit_same (last p) y e, ap old e)
        go (other c) o = omega (arith, flip_loads b v p h y, bit_other (last p) y c)

-- .. and least above every height means level
pub least_level : (b : Board) → Valid b → LeastExcess b → T (level b)
unfolding flip
least_level b v m = (level_exact b v).1 none
  where
    none : (p : BenchPath) → IsPath b p → T (improves b p) → ⊥
    none p h t =
        let k = load b.holders p.start - 1 in
        omega (arith, flip_lowers b v p h t, m k (flip b p).holders (flip_valid b v p h).shares)

-- the heaviest load

-- where jobs stand, it is not 0: else all loads together would be 0
standing_load : (b : Board) → Valid b → 1 ≤ standing b → 1 ≤ heaviest b
standing_load b v l = elim (dec_le 1 (heaviest b)) [ yes k ↦ k | no k ↦ absurd (omega (arith, k, loads_standing b v, none k, total_each b.benches 0)) ]
  where
    none : (1 ≤ heaviest b → ⊥) → total b.benches (load b.holders) ≤ total b.benches (λ x. 0)
    none k =
        total_le b.benches (load b.holders) (λ x. 0) (λ x i u. omega (arith, k, load_heaviest b x (within_both 1 b.benches x i u)))

-- above one less than the heaviest load there is excess
heaviest_excess : (b : Board) (k : ℕ) → heaviest b ≡ suc k → 1 ≤ excess b.benches b.holders k
unfolding heaviest
heaviest_excess b k e =
    let r = greatest_reached b.benches (load b.holders) (omega (arith, e)) in
    omega (arith, e, r.3, excess_load b.benches b.holders k r.0 r.1 r.2)

-- the heaviest load is no greater than that of any sharing, if the excess is least
least_heaviest : (b : Board) → LeastExcess b → (holders : List ℕ) → Shares b.named holders → heaviest b ≤ heaviest (held_by b holders)
unfolding heaviest
least_heaviest b m holders s =
    let g = greatest b.benches (load holders) in
    let none = excess_none b.benches holders g (greatest_above b.benches (load holders)) in
    greatest_most b.benches (load b.holders) g (λ x l u. omega (arith, none, m g holders s, excess_load b.benches b.holders g x l u))

module _ (b : Board) (v : Valid b) (l : T (level b)) where
  -- the certificate is an equation for a tight set ..
  tight_excess : (k : ℕ) → inside (tight_set b (suc k)) b.named ≡ k * length (tight_set b (suc k)) + excess b.benches b.holders k
  tight_excess k = attained b v (tight_set b (suc k)) k (tight_proves b v l k)

  -- .. and the one at the heaviest load has just that density
  pub tight_density : 1 ≤ heaviest b → let set = tight_set b (heaviest b) in density (inside set b.named) (length set) ≡ heaviest b
  tight_density i = let e : suc (heaviest b - 1) ≡ heaviest b = omega arith in rw e at (dense (heaviest b - 1) (sym e))
    where
      dense : (k : ℕ) → heaviest b ≡ suc k → density (inside (tight_set b (suc k)) b.named) (length (tight_set b (suc k))) ≡ suc k
      dense k e =
          let set = tight_set b (suc k) in
          let none = excess_none b.benches b.holders (suc k) (λ x i u. omega (arith, e, load_heaviest b x (within_both 1 b.benches x i u))) in
          let most = certificate b.benches b.named v.names b.holders v.shares set (suc k) in
          density_between (inside set b.named) (length set) k (omega (arith, tight_excess k, heaviest_excess b k e)) (omega (arith, none, most))

-- "on a level board the heaviest load is the least over all orientations, its tight set proves it"
pub level_demand2 : (b : Board) → Valid b → T (level b) → Demand2 b
level_demand2 b v l =
    record {
      orientation = v.shares;
      no_lower = least_heaviest b (level_least b v l);
      tight = λ i. tight_density b v l (standing_load b v i);
      heights = λ h i u. let e : suc (h - 1) ≡ h = omega arith in rw e at (tight_excess b v l (h - 1));
    }
