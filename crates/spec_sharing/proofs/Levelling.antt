-- Levelling: its steps, its count, and that it comes to an end.
use Prim.Native.Nat.{ℕ, zero, suc, ◌+◌, ◌-◌, ◌≤◌, ◌<◌}
use native.Mathlib.Omega.{arith}
use native.Mathlib.Decide.{dec_lt}
use mathlib.Core.Path.{◌≡◌, refl, sym, ap, ◌∙◌}
use mathlib.Core.Logic.{◌≢◌}
use mathlib.Core.Bool.{Bool, cond}
use mathlib.Core.Option.{Option, none, some}
use lib.Dec.{T, eqb}
use lib.ListN.{length}
use borrow.Author.Tests.{ne_eqb}
use Rattle.spec_lists.specs.Lists.{bit, within, total}
use Rattle.spec_table.specs.Board.{Board, Valid, load}
use Rattle.spec_table.specs.Table.{Storable}
use Rattle.spec_sharing.specs.Paths.{BenchPath, last, IsPath, improves, flip}
use Rattle.spec_sharing.specs.Sharing.{levelling_choice, level, Levelled, relevel}
use Rattle.spec_sharing.specs.Demand2.{Flips, no_flip, flipThen, LevellingReport}
use Rattle.spec_lists.proofs.Tests.{Compared, same, other, compared, eqb_refl, within_low, within_high}
use Rattle.spec_table.proofs.Named.{length_shares}
use Rattle.spec_lists.proofs.Counting.{bit_same, bit_other, total_but_one, total_count_le}
use Rattle.spec_sharing.proofs.Paths.{improves_loads, improves_start, level_exact}
use Rattle.spec_sharing.proofs.Choice.{choice_improves, choice_level, level_choice}
use Rattle.spec_sharing.proofs.Walks.{path_reach, reach_bench}
use Rattle.spec_sharing.proofs.Flip.{flip_loads, flip_valid}

-- what levelling does to a valid board
pub record Relevels (allowance : ℕ) (b : Board) (r : Levelled) : Type 0 where
  pub valid : Valid r.board
  -- what it reports is true ..
  pub report : LevellingReport b r.board allowance r.paths
  -- .. and with allowance left no improving path is
  pub done : r.paths < allowance → T (level r.board)

-- levelling from the path that the rule names on
abbrev flipped : ℕ → Board → Option BenchPath → Levelled
flipped n b o =
    elim o [
      | none ↦ record { paths = 0; board = b }
      | some p ↦ let r = relevel n (flip b p) in record { paths = suc r.paths; board = r.board }
    ]

-- no path flipped
unflipped : (allowance : ℕ) (b : Board) → LevellingReport b b allowance 0
unflipped allowance b = record { benches = refl; jobs = refl; flipped = no_flip b; allowed = omega arith }

-- levelling does all of that
pub levelling_does : (allowance : ℕ) (b : Board) → Valid b → Relevels allowance b (relevel allowance b)
unfolding flip
levelling_does zero b v = record { valid = v; report = unflipped zero b; done = λ h. absurd (omega arith) }
levelling_does (suc n) b v = go (levelling_choice b) refl (λ p w. levelling_does n (flip b p) w)
  where
    go : (o : Option BenchPath) → levelling_choice b ≡ o → ((p : BenchPath) → Valid (flip b p) → Relevels n (flip b p) (relevel n (flip b p))) → Relevels (suc n) b (flipped n b o)
    go none e ih = record { valid = v; report = unflipped (suc n) b; done = λ h. choice_level b e }
    go (some p) e ih =
        let r = relevel n (flip b p) in
        let i = ih p (flip_valid b v p (choice_improves b p e).0) in
        let j = i.report in
        record {
          valid = i.valid;
          report = record { benches = j.benches; jobs = j.jobs; flipped = flipThen r.paths b r.board p e j.flipped; allowed = omega (arith, j.allowed) };
          done = λ h. i.done (omega arith);
        }

-- a loop flips one path after the others ..
pub flips_more : (n : ℕ) (b c : Board) (p : BenchPath) → Flips n b c → levelling_choice c ≡ some p → Flips (suc n) b (flip c p)
flips_more n b c p (no_flip _) e = flipThen 0 b (flip b p) p e (no_flip (flip b p))
flips_more n b c p (flipThen m _ _ q f s) e = flipThen (suc m) b (flip c p) q f (flips_more m (flip b q) c p s e)

-- .. and if it ends where the allowance or the improving paths do, it has done what levelling is
pub flips_relevel : (n allowance : ℕ) (b c : Board) → Flips n b c → n ≤ allowance → (n < allowance → levelling_choice c ≡ none) → relevel allowance b ≡ record { paths = n; board = c }
flips_relevel n zero b c (no_flip _) l d = refl
flips_relevel n (suc a) b c (no_flip _) l d = ap (flipped a b) (d (omega arith))
flips_relevel n zero b c (flipThen m _ _ p e s) l d = absurd (omega arith)
flips_relevel n (suc a) b c (flipThen m _ _ p e s) l d =
    let h = flips_relevel m a (flip b p) c s (omega arith) (λ k. d (omega arith)) in
    ap (flipped a b) e ∙ ap (λ (r : Levelled). record { paths = suc r.paths; board = r.board }) h

-- on a level board nothing moves
pub level_rests : (allowance : ℕ) (b : Board) → T (level b) → relevel allowance b ≡ record { paths = 0; board = b }
level_rests zero b l = refl
level_rests (suc n) b l = ap (flipped n b) (level_choice b l)

-- the waits of a bench with n jobs, each waiting for those before it: n × (n - 1) / 2
abbrev pub waits : ℕ → ℕ
waits zero = 0
waits (suc n) = waits n + n

-- added up over all benches
abbrev pub waiting : Board → ℕ
waiting b = total b.benches (λ x. waits (load b.holders x))

-- one job goes from bench x to bench z, whose load is smaller by two or more
module _ (n : ℕ) (old new : ℕ → ℕ) (x z : ℕ) (loads : (y : ℕ) → new y + bit (eqb x y) ≡ old y + bit (eqb z y)) (less : old z + 2 ≤ old x) where
  -- the waits when the job has left x, and has not come to z
  abbrev between : ℕ → ℕ
  between y = cond (eqb x y) (waits (new y)) (waits (old y))

  apart : z ≢ x
  apart e = omega (arith, ap old e)

  between_new : (y : ℕ) → y ≢ z → waits (new y) ≡ between y
  between_new y d = go (compared x y)
    where
      go : {t : Bool} → Compared x y t → waits (new y) ≡ cond t (waits (new y)) (waits (old y))
      go (same e) = refl
      go (other c) =
          let e : new y ≡ old y = omega (arith, loads y, bit_other x y c, bit_other z y (λ e. d (sym e))) in
          ap waits e

  between_old : (y : ℕ) → y ≢ x → between y ≡ waits (old y)
  between_old y d = rw (ne_eqb x y (λ e. d (sym e))) refl

  waits_fall : T (within 1 n x) → T (within 1 n z) → total n (λ y. waits (new y)) < total n (λ y. waits (old y))
  waits_fall s t =
      let falls : old x ≡ suc (new x) = omega (arith, loads x, bit_same x x refl, bit_other z x apart) in
      let rises : new z ≡ suc (old z) = omega (arith, loads z, bit_same z z refl, bit_other x z (λ e. apart (sym e))) in
      let e : between x ≡ waits (new x) = rw (eqb_refl x) refl in
      omega (
        arith,
        total_but_one n (λ y. waits (new y)) between z (within_low 1 n z t) (within_high 1 n z t) (λ y l u. between_new y),
        total_but_one n between (λ y. waits (old y)) x (within_low 1 n x s) (within_high 1 n x s) (λ y l u. between_old y),
        between_old z apart,
        ap waits falls,
        ap waits rises,
      )

-- flipping an improving path lowers it ..
pub flip_lowers_waits : (b : Board) → Valid b → (p : BenchPath) → IsPath b p → T (improves b p) → waiting (flip b p) < waiting b
unfolding flip
flip_lowers_waits b v p h t =
    let old = load b.holders in
    let s = improves_start b v p h t in
    let l = reach_bench b v p.start (last p) s (path_reach b p h) in
    waits_fall b.benches old (load (flip b p).holders) p.start (last p) (flip_loads b v p h) (improves_loads b p t) s l

-- .. by one or more for each path flipped
pub flips_lower : (n : ℕ) (b c : Board) → Valid b → Flips n b c → n + waiting c ≤ waiting b
flips_lower n b c v (no_flip _) = omega arith
flips_lower n b c v (flipThen m _ _ p e s) =
    let h = choice_improves b p e in
    omega (arith, flip_lowers_waits b v p h.0 h.1, flips_lower m (flip b p) c (flip_valid b v p h.0) s)

-- .. so an allowance of that many always ends in "level" ..
pub levelling_ends : (allowance : ℕ) (b : Board) → Valid b → waiting b ≤ allowance → T (level (relevel allowance b).board)
levelling_ends allowance b v l =
    let r = relevel allowance b in
    let d = levelling_does allowance b v in
    let w = flips_lower r.paths b r.board v d.report.flipped in
    elim (dec_lt r.paths allowance) [
      | yes h ↦ d.done h
      | no h ↦ (level_exact r.board d.valid).1 (λ p q t. omega (arith, flip_lowers_waits r.board d.valid p q t))
    ]

-- jobs on one bench wait at least as long as on two
waits_join : (m n : ℕ) → waits m + waits n ≤ waits (m + n)
waits_join m zero = let e : m + 0 ≡ m = omega arith in omega (arith, ap waits e)
waits_join m (suc n) = let e : m + suc n ≡ suc (m + n) = omega arith in omega (arith, waits_join m n, ap waits e)

waits_more : (m n : ℕ) → m ≤ n → waits m ≤ waits n
waits_more m n h = let e : m + (n - m) ≡ n = omega arith in omega (arith, waits_join m (n - m), ap waits e)

waits_total : (n : ℕ) (f : ℕ → ℕ) → total n (λ x. waits (f x)) ≤ waits (total n f)
waits_total zero f = omega arith
waits_total (suc n) f = omega (arith, waits_total n f, waits_join (total n f) (f (suc n)))

-- .. which n job numbers bring to n × (n - 1) / 2 at most ..
pub waiting_most : (b : Board) → Valid b → waiting b ≤ waits (length b.named)
waiting_most b v =
    let loads = load b.holders in
    let e = length_shares b.named b.holders v.shares in
    let h = waits_more (total b.benches loads) (length b.named) (omega (arith, total_count_le b.benches b.holders)) in
    omega (arith, waits_total b.benches loads)

-- 4,000 jobs on one bench
waits_4000 : waits 4000 ≡ 7998000
waits_4000 = refl

-- .. and a table's board to 4,000 × 3,999 / 2
pub enough_allowance : (b : Board) → Storable b → (allowance : ℕ) → 7998000 ≤ allowance → T (level (relevel allowance b).board)
enough_allowance b s allowance l =
    let n = length b.named in
    let h = waits_more n 4000 (within_high 1 4000 n s.jobs) in
    levelling_ends allowance b s.valid (omega (arith, waiting_most b s.valid, waits_4000))
