-- What an arrival and a closing do to any valid board.
use Prim.Native.Nat.{ℕ, suc, ◌≤◌, ◌<◌}
use native.Mathlib.Omega.{arith}
use mathlib.Core.Path.{◌≡◌, refl, sym, ap, subst, ◌∙◌}
use mathlib.Core.Logic.{◌≢◌, ◌↔◌}
use mathlib.Core.Bool.{Bool, not, ◌&&◌}
use mathlib.Core.List.{List, [], ◌∷◌}
use mathlib.Core.Option.{Option, none, some}
use lib.Dec.{T, eqb}
use borrow.Author.Tests.{lt-ltb, le-ltb}
use lib.ListN.{length}
use Rattle.spec_lists.specs.Lists.{within, distinct, filter, In, empty, nth, update}
use Rattle.spec_table.specs.Board.{load, Board, Valid, names_of, holder_of, stands, put, names_fit}
use Rattle.spec_sharing.specs.Paths.{BenchPath, last, jobs, IsPath, flip}
use Rattle.spec_sharing.specs.Sharing.{Change, lightest_named, arrival_choice, closing_choice, after_arrival, after_closing, arrive, close}
use Rattle.spec_sharing.specs.Demand2.{OneMore, handed, Moved}
use Rattle.spec_lists.proofs.Tests.{both, left, right, differ, within_low, within_high, within_both}
use Rattle.spec_lists.proofs.Elements.{not_empty, is_empty, length_filter, nth_update_same, nth_update_other}
use Rattle.spec_lists.proofs.NumberLists.{Member, is_in, not_in, membered, filter_distinct, others_in}
use Rattle.spec_table.proofs.Named.{length_shares, fit_bench, stands_within, named_may, holder_bench, holder_none}
use Rattle.spec_lists.proofs.Counting.{total_tested}
use Rattle.spec_sharing.proofs.Paths.{path_few, improving_from_only, improving_to_only}
use Rattle.spec_sharing.proofs.Choice.{arrival_choice_lem, closing_choice_lem}
use Rattle.spec_sharing.proofs.Sets.{lightest_named_in}
use Rattle.spec_sharing.proofs.Walks.{path_reach, reach_bench}
use Rattle.spec_sharing.proofs.Flip.{put_valid, path_stands, path_jobs, flip_loads, flip_valid, flip_moves, flip_keeps}
use Rattle.spec_sharing.proofs.OneLoad.{one_more, more_load, given_one, taken_one}

-- "the number of other jobs that changed holder": the new job is not among them
pub moved_others : (b : Board) (j : ℕ) (names : List ℕ) (i : ℕ) → In i (arrive b j names).moved → i ≢ j
unfolding arrive
moved_others b j names i = go (arrival_choice c x)
  where
    x : ℕ
    x = lightest_named b.holders names

    c : Board
    c = put b j names x

    go : (o : Option BenchPath) → In i (after_arrival c j x o).moved → i ≢ j
    go none m = absurd m
    go (some p) m = ((others_in j (jobs p) i).0 m).0

-- what a change that takes job j to these names does to a board
pub record Changed (b : Board) (j : ℕ) (names : List ℕ) (c : Change) : Type 0 where
  pub valid : Valid c.board
  pub benches : c.board.benches ≡ b.benches
  pub named : c.board.named ≡ update b.named j names
  -- the moved jobs are the others whose holder changed, each once ..
  pub moved : Moved j b c.board c.moved
  -- .. and so many, fewer than there are benches
  pub number : length c.moved ≡ handed j b c.board
  pub few : suc (length c.moved) ≤ b.benches

-- a job whose holder changed stands, but for the one that came or went
moved_stood : (b : Board) → Valid b → (j : ℕ) (names : List ℕ) (after : Board) → Valid after → after.named ≡ update b.named j names → (i : ℕ) → (i ≢ j) × (holder_of after i ≢ holder_of b i) → T (stands b i)
moved_stood b v j names after va en i d =
    let e : names_of after i ≡ names_of b i = ap (λ (l : List (List ℕ)). nth l i []) en ∙ nth_update_other b.named j i names [] d.0 in
    not_empty (names_of b i) (λ z. d.1 (holder_none after va i (e ∙ z) ∙ sym (holder_none b v i z)))

pub moved_stands : (b : Board) → Valid b → (j : ℕ) (names : List ℕ) (c : Change) → Changed b j names c → (i : ℕ) → In i c.moved → T (stands b i)
moved_stands b v j names c d i k = moved_stood b v j names c.board d.valid d.named i ((d.moved.exact i).0 k)

-- the number follows from the rest
does : (b : Board) → Valid b → (j : ℕ) (names : List ℕ) (c : Change) → Valid c.board → c.board.benches ≡ b.benches → c.board.named ≡ update b.named j names → ((i : ℕ) → In i c.moved ↔ ((i ≢ j) × (holder_of c.board i ≢ holder_of b i))) → T (distinct c.moved) → suc (length c.moved) ≤ b.benches → Changed b j names c
does b v j names c vc eb en m o few =
    let number = total_tested (length b.named) c.moved (λ i. not (eqb i j) && not (eqb (holder_of after i) (holder_of b i))) o (λ i k. stands_within b i (moved_stood b v j names after vc en i ((m i).0 k))) test in
    record { valid = vc; benches = eb; named = en; moved = record { exact = m; once = o }; number = number; few = few }
  where
    after : Board
    after = c.board

    test : (i : ℕ) → In i c.moved ↔ T (not (eqb i j) && not (eqb (holder_of after i) (holder_of b i)))
    test i =
        let y = not (eqb i j) in
        let z = not (eqb (holder_of after i) (holder_of b i)) in
        let f = differ i j in
        let g = differ (holder_of after i) (holder_of b i) in
        (λ k. let d = (m i).0 k in both y z (f.0 d.0) (g.0 d.1), λ t. (m i).1 (f.1 (left y z t), g.1 (right y z t)))

-- job j written anew
module _ (b : Board) (v : Valid b) (j : ℕ) (names : List ℕ) (x : ℕ) (w : Valid (put b j names x)) where
  -- no path is flipped: no other job moves
  does_put : (y : ℕ) → 1 ≤ b.benches → Changed b j names (record { board = put b j names x; bench = y; moved = [] })
  does_put y k =
      does b v j names (record { board = put b j names x; bench = y; moved = [] }) w refl refl (λ i. (λ m. absurd m, λ d. d.1 (nth_update_other b.holders j i x 0 d.0))) tt k

  -- a path is flipped: its jobs move, but for j
  does_flip : (p : BenchPath) → IsPath (put b j names x) p → T (within 1 b.benches p.start) → (y : ℕ) (m : List ℕ) → length m ≤ length (jobs p) → ((i : ℕ) → In i m ↔ ((i ≢ j) × In i (jobs p))) → T (distinct m) → Changed b j names (record { board = flip (put b j names x) p; bench = y; moved = m })
  unfolding flip
  does_flip p h s y m l g o = does b v j names (record { board = flip c p; bench = y; moved = m }) (flip_valid c w p h) refl refl (λ i. (there i, back i)) o (omega (arith, l, path_few c w p h s))
    where
      c : Board
      c = put b j names x

      kept : (i : ℕ) → i ≢ j → holder_of c i ≡ holder_of b i
      kept i d = nth_update_other b.holders j i x 0 d

      there : (i : ℕ) → In i m → (i ≢ j) × (holder_of (flip c p) i ≢ holder_of b i)
      there i k = let d = (g i).0 k in (d.0, λ e. flip_moves c w p h i d.1 (e ∙ sym (kept i d.0)))

      back : (i : ℕ) → (i ≢ j) × (holder_of (flip c p) i ≢ holder_of b i) → In i m
      back i d = go (membered i (jobs p))
        where
          go : {z : Bool} → Member i (jobs p) z → In i m
          go (is_in k) = (g i).1 (d.0, k)
          go (not_in f) = absurd (d.1 (flip_keeps c w p h i f ∙ kept i d.0))

-- flipping a path hands one load more on from its first bench to its last
module _ (c : Board) (v : Valid c) (p : BenchPath) (h : IsPath c p) where
  more_flipped : (less : List ℕ) → OneMore c.benches less c.holders p.start → OneMore c.benches less (flip c p).holders (last p)
  more_flipped less o =
      let w = within_both 1 c.benches p.start o.positive o.bench in
      one_more c.benches less (flip c p).holders (last p) (reach_bench c v p.start (last p) w (path_reach c p h)) (λ y l u. omega (arith, flip_loads c v p h y, more_load c.benches less c.holders p.start o y l u))

  less_flipped : (more : List ℕ) → T (within 1 c.benches p.start) → OneMore c.benches c.holders more (last p) → OneMore c.benches (flip c p).holders more p.start
  less_flipped more w o =
      one_more c.benches (flip c p).holders more p.start w (λ y l u. omega (arith, flip_loads c v p h y, more_load c.benches c.holders more (last p) o y l u))

-- the bench that job j was given to holds it
pub put_holder : (b : Board) → Valid b → (j : ℕ) (names : List ℕ) (x : ℕ) → T (within 1 (length b.named) j) → holder_of (put b j names x) j ≡ x
put_holder b v j names x w =
    nth_update_same b.holders j x 0 (within_low 1 (length b.named) j w) (omega (arith, within_high 1 (length b.named) j w, length_shares b.named b.holders v.shares))

-- giving a job that does not stand to bench x adds one to its load ..
pub put_rises : (b : Board) → Valid b → (j : ℕ) (names : List ℕ) (x : ℕ) → T (within 1 (length b.named) j) → T (not (stands b j)) → T (within 1 b.benches x) → OneMore b.benches b.holders (put b j names x).holders x
put_rises b v j names x w n t =
    let high : j ≤ length b.holders = omega (arith, within_high 1 (length b.named) j w, length_shares b.named b.holders v.shares) in
    given_one b.benches b.holders j x (within_low 1 (length b.named) j w) high (holder_none b v j (is_empty (names_of b j) n)) t

-- .. and taking away a job that stands takes one from the load of its holder
pub put_falls : (b : Board) → Valid b → (j : ℕ) → T (stands b j) → OneMore b.benches (put b j [] 0).holders b.holders (holder_of b j)
put_falls b v j s =
    let w = stands_within b j s in
    let high : j ≤ length b.holders = omega (arith, within_high 1 (length b.named) j w, length_shares b.named b.holders v.shares) in
    taken_one b.benches b.holders j (within_low 1 (length b.named) j w) high (holder_bench b v j s)

-- an arrival on any valid board: one load rises by one, that of the bench in the result
pub arrival_does : (b : Board) → Valid b → (j : ℕ) (names : List ℕ) → T (within 1 (length b.named) j) → T (not (stands b j)) → T (not (empty names)) → T (names_fit b.benches names) → Changed b j names (arrive b j names) × OneMore b.benches b.holders (arrive b j names).board.holders (arrive b j names).bench
unfolding arrive
arrival_does b v j names w n e f = go (arrival_choice c x) refl
  where
    x : ℕ
    x = lightest_named b.holders names

    c : Board
    c = put b j names x

    i : In x names
    i = lightest_named_in b.holders names e

    vc : Valid c
    vc = put_valid b v j names x f (named_may names x i)

    one : OneMore b.benches b.holders c.holders x
    one = put_rises b v j names x w n (fit_bench b.benches names x f i)

    go : (o : Option BenchPath) → arrival_choice c x ≡ o → Changed b j names (after_arrival c j x o) × OneMore b.benches b.holders (after_arrival c j x o).board.holders (after_arrival c j x o).bench
    go none q = (does_put b v j names x vc x (omega (arith, one.positive, one.bench)), one)
    go (some p) q =
        let only = improving_from_only c x p ((arrival_choice_lem c x p).0 q).listed_is in
        let rest : ℕ → Bool = λ k. not (eqb k j) in
        (does_flip b v j names x vc p only.0 (rw only.1 (within_both 1 b.benches x one.positive one.bench)) (last p) (filter rest (jobs p)) (length_filter rest (jobs p)) (others_in j (jobs p)) (filter_distinct rest (jobs p) (path_jobs c vc p only.0)), more_flipped c vc p only.0 b.holders (subst (OneMore b.benches b.holders c.holders) (sym only.1) one))

-- a job that was taken away names nothing
pub taken_names : (b : Board) (j : ℕ) → T (stands b j) → names_of (put b j [] 0) j ≡ []
taken_names b j s =
    let w = stands_within b j s in
    nth_update_same b.named j [] [] (within_low 1 (length b.named) j w) (within_high 1 (length b.named) j w)

-- a closing on any valid board: one load falls by one
pub closing_does : (b : Board) → Valid b → (j : ℕ) → T (stands b j) → Changed b j [] (close b j) × OneMore b.benches (close b j).board.holders b.holders (close b j).bench
unfolding close
closing_does b v j s = go (closing_choice c x) refl
  where
    x : ℕ
    x = holder_of b j

    c : Board
    c = put b j [] 0

    vc : Valid c
    vc = put_valid b v j [] 0 tt tt

    -- the closed job stands no more, so it is on no path
    gone : (p : BenchPath) → IsPath c p → (k : ℕ) → In k (jobs p) → k ≢ j
    gone p h k m d =
        let e : names_of c k ≡ [] = rw d (taken_names b j s) in
        subst (λ (l : List ℕ). T (not (empty l))) e (path_stands c vc p h k m)

    go : (o : Option BenchPath) → closing_choice c x ≡ o → Changed b j [] (after_closing c x o) × OneMore b.benches (after_closing c x o).board.holders b.holders (after_closing c x o).bench
    go none q = let one = put_falls b v j s in (does_put b v j [] 0 vc x (omega (arith, one.positive, one.bench)), one)
    go (some p) q =
        let only = improving_to_only c x p ((closing_choice_lem c x p).0 q).listed_is in
        (does_flip b v j [] 0 vc p only.0 only.1 p.start (jobs p) (omega arith) (λ k. (λ m. (gone p only.0 k m, m), λ d. d.1)) (path_jobs c vc p only.0), less_flipped c vc p only.0 b.holders only.1 (subst (OneMore b.benches c.holders b.holders) (sym only.2) (put_falls b v j s)))

-- afterwards no bench holds the job
pub closed_holder : (b : Board) → Valid b → (j : ℕ) → T (stands b j) → holder_of (close b j).board j ≡ 0
closed_holder b v j s =
    let d = (closing_does b v j s).0 in
    holder_none (close b j).board d.valid j (ap (λ (l : List (List ℕ)). nth l j []) d.named ∙ taken_names b j s)

-- "The lighter named bench gets the job ..
pub arrive_lighter : (b : Board) (j x y : ℕ) → load b.holders y < load b.holders x → let c = put b j (x ∷ y ∷ []) y in arrive b j (x ∷ y ∷ []) ≡ after_arrival c j y (arrival_choice c y)
unfolding arrive
arrive_lighter b j x y h = rw (lt-ltb (load b.holders y) (load b.holders x) h)

-- .. if they are equal, the first-named"
pub arrive_first : (b : Board) (j x y : ℕ) → load b.holders x ≤ load b.holders y → let c = put b j (x ∷ y ∷ []) x in arrive b j (x ∷ y ∷ []) ≡ after_arrival c j x (arrival_choice c x)
unfolding arrive
arrive_first b j x y h = rw (le-ltb (load b.holders y) (load b.holders x) h)
