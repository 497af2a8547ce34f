-- Marks as a set: counted, written to a list, and the tight set of a board.
use Prim.Native.Nat.{ℕ, zero, suc, ◌+◌, ◌*◌, ◌≤◌, ◌<◌}
use native.Mathlib.Omega.{arith}
use native.Mathlib.Decide.{dec_le}
use mathlib.Core.Path.{◌≡◌, refl, sym, ap, ◌∙◌}
use mathlib.Core.Logic.{◌↔◌}
use mathlib.Core.Bool.{Bool, true, false, cond}
use mathlib.Core.List.{List, [], ◌∷◌, ◌++◌, append-nil}
use lib.Dec.{T, T_not}
use lib.ListN.{length, replicate, length-append}
use Rattle.spec_lists.specs.Lists.{bit, within, member, range, total, filter, In}
use Rattle.spec_table.specs.Board.{Board, load}
use Rattle.spec_sharing.specs.Paths.{Step, steps}
use Rattle.spec_sharing.specs.Sharing.{tight_set, inside}
use Rattle.spec_sharing.specs.Searches.{Reach}
use Rattle.spec_table.specs.Table.{in_list, most_benches, most_jobs, decode}
use Rattle.spec_lists.proofs.Tests.{true→T, false→not, Compared, same, other, compared, within_both}
use Rattle.spec_lists.proofs.Elements.{length_filter}
use Rattle.spec_lists.proofs.NumberLists.{member_marked, length_range}
use Rattle.spec_lists.proofs.Counting.{total_same, filter_counts}
use Rattle.spec_sharing.proofs.Certificate.{load_in}
use Rattle.spec_sharing.proofs.TightSet.{tight_marked, tight_inside}
use Rattle.spec_sharing.proofs.Walks.{reach_here, reach_all}
use Rattle.table_words.specs.Bytes.{set_word}
use Rattle.table_size.specs.Sizes.{Limits, BenchIn, SoundTable}
use Rattle.table_size.specs.declared.Size.{Size}
use Rattle.table_words.proofs.Bytes.{length_set_word, list_next}
use Rattle.table_size.proofs.Sizes.{board_bench}
use Rattle.table_board.specs.BoardView.{HoldsBoard, Loaded}
use Rattle.table_board.proofs.RecordsAsBoard.{sound_holds_board}
use Rattle.graph_lists.specs.Arrays.{Tells, at, step, LoadsIn}
use Rattle.graph_lists.proofs.Listing.{array_at, array_long}
use Rattle.sharing_steps.proofs.AsSteps.{on_board, load_at, jobs_reach}
use Rattle.sharing_chains.specs.StoredChains.{StoredChains}
use Rattle.sharing_visits.specs.ArrayChains.{Leads}
use Rattle.sharing_visits.specs.Marks.{mark, Marks, Heavy, FromHeavy, ClosedOver}
use Rattle.sharing_visits.proofs.Visiting.{Passed}
use Rattle.sharing_tight_set.specs.MarkedSets.{marked, HeavyMarked, Lighter, Measured, TightSet}
use Rattle.sharing_tight_set.proofs.AlongChains.{leads_job, step_leads}
use Rattle.sharing_tight_set.specs.declared.Extent.{Extent}

-- what is marked of the benches 1 to n

-- the numbers of 1 to n that pass the test
abbrev pub passing : (ℕ → Bool) → ℕ → List ℕ
passing p n = filter p (range 1 n)

-- rising numbers end with the last
range_last : (i n last : ℕ) → last ≡ i + n → range i (suc n) ≡ range i n ++ (last ∷ [])
range_last i zero last e = ap (λ (x : ℕ). x ∷ []) (omega arith)
range_last i (suc n) last e = ap (λ (l : List ℕ). i ∷ l) (range_last (suc i) n last (omega arith))

-- of a list before another what passes comes first
filter_append : (p : ℕ → Bool) (k l : List ℕ) → filter p (k ++ l) ≡ filter p k ++ filter p l
filter_append p [] l = refl
filter_append p (x ∷ k) l = go (p x) (filter_append p k l)
  where
    go : (z : Bool) → filter p (k ++ l) ≡ filter p k ++ filter p l → cond z (x ∷ filter p (k ++ l)) (filter p (k ++ l)) ≡ cond z (x ∷ filter p k) (filter p k) ++ filter p l
    go true e = ap (λ (m : List ℕ). x ∷ m) e
    go false e = e

-- one number more: it comes last if it passes
passing_next : (p : ℕ → Bool) (n : ℕ) → passing p (suc n) ≡ passing p n ++ cond (p (suc n)) (suc n ∷ []) []
passing_next p n = ap (filter p) (range_last 1 n (suc n) (omega arith)) ∙ filter_append p (range 1 n) (suc n ∷ [])

-- .. and then they are one more
passing_counts : (p : ℕ → Bool) (n : ℕ) → length (passing p (suc n)) ≡ length (passing p n) + bit (p (suc n))
passing_counts p n =
    omega (arith, ap length (passing_next p n), length-append (passing p n) (filter p (suc n ∷ [])), filter_counts p (suc n) [])

-- they are not more than n
pub passing_few : (p : ℕ → Bool) (n : ℕ) → length (passing p n) ≤ n
passing_few p n = omega (arith, length_filter p (range 1 n), length_range 1 n)

-- a wider range has no fewer
passing_more : (p : ℕ → Bool) (n m : ℕ) → n ≤ m → length (passing p n) ≤ length (passing p m)
passing_more p n zero l = let e : n ≡ 0 = omega arith in omega (arith, ap (λ (k : ℕ). length (passing p k)) e)
passing_more p n (suc m) l = go (compared n (suc m)) (λ h. passing_more p n m h)
  where
    go : {z : Bool} → Compared n (suc m) z → (n ≤ m → length (passing p n) ≤ length (passing p m)) → length (passing p n) ≤ length (passing p (suc m))
    go (same e) ih = omega (arith, ap (λ (k : ℕ). length (passing p k)) e)
    go (other d) ih = omega (arith, ih (omega arith), passing_counts p m)

-- counting

-- the load of a marked bench
abbrev pub marked_load : List ℕ → List Bool → ℕ → ℕ
marked_load loads marks y = cond (mark marks y) (at loads y) 0

-- the benches before x are counted, and their loads added up
pub record Measuring (loads : List ℕ) (marks : List Bool) (count jobs x : ℕ) : Type 0 where
  pub done : ℕ
  pub next : x ≡ suc done
  pub counted : count ≡ length (passing (mark marks) done)
  pub added : jobs ≡ total done (marked_load loads marks)

-- bench x is counted if it is marked
pub measure_turn : {loads : List ℕ} {marks : List Bool} {count jobs x : ℕ} (count' jobs' : ℕ) → Measuring loads marks count jobs x → count' ≡ count + bit (mark marks x) → jobs' ≡ jobs + marked_load loads marks x → Measuring loads marks count' jobs' (x + 1)
measure_turn {loads} {marks} {count} {jobs} {x} count' jobs' m e f =
    let g = rw m.next at e in
    let j = rw m.next at f in
    record {
      done = suc m.done;
      next = omega (arith, m.next);
      counted = omega (arith, m.counted, passing_counts (mark marks) m.done);
      added = omega (arith, m.added);
    }

-- no load is above the most jobs, so the sum has room
pub measure_room : {loads : List ℕ} {marks : List Bool} {count jobs x : ℕ} (s : Size) → Limits s → LoadsIn s loads → Measuring loads marks count jobs x → jobs + at loads x ≤ most_jobs * x
measure_room {loads} {marks} {count} {jobs} {x} s l i m =
    omega (arith, m.next, m.added, summed m.done, i.most x (omega (arith, m.next)), l.jobs_most)
  where
    one : (y : ℕ) → 1 ≤ y → (z : Bool) → cond z (at loads y) 0 ≤ most_jobs
    one y u true = omega (arith, i.most y u, l.jobs_most)
    one y u false = omega arith

    summed : (n : ℕ) → total n (marked_load loads marks) ≤ most_jobs * n
    summed zero = omega arith
    summed (suc n) = omega (arith, summed n, one (suc n) (omega arith) (mark marks (suc n)))

-- writing

-- the marked benches before x are written
pub record Writing (list₀ : List ℕ) (marks : List Bool) (list : List ℕ) (count x : ℕ) : Type 0 where
  pub done : ℕ
  pub next : x ≡ suc done
  pub counted : count ≡ length (passing (mark marks) done)
  pub bytes : list ≡ in_list (passing (mark marks) done) list₀
  pub long : length list ≡ length list₀

-- there is room for a marked bench
pub write_room : {list₀ : List ℕ} {marks : List Bool} {list : List ℕ} {count x : ℕ} (s : Size) → Writing list₀ marks list count x → mark marks x ≡ true → x ≤ s.benches → 2 * length (marked s marks) ≤ length list₀ → 2 * count + 1 < length list
write_room {list₀} {marks} s m e l u =
    let f = ap bit (rw m.next at e) in
    omega (arith, m.next, m.counted, m.long, passing_counts (mark marks) m.done, passing_more (mark marks) (suc m.done) s.benches (omega (arith, m.next)))

-- bench x is written if it is marked
pub write_turn : {list₀ : List ℕ} {marks : List Bool} {list : List ℕ} {count x : ℕ} (list' : List ℕ) (count' : ℕ) → Writing list₀ marks list count x → (mark marks x ≡ true → 2 * count + 1 < length list) → list' ≡ cond (mark marks x) (set_word list count x) list → count' ≡ count + bit (mark marks x) → Writing list₀ marks list' count' (x + 1)
write_turn {list₀} {marks} {list} {count} {x} list' count' m room e f =
    let g = rw m.next at f in
    let all : passing (mark marks) (suc m.done) ≡ before ++ cond (mark marks x) (x ∷ []) [] = rw m.next (passing_next (mark marks) m.done) in
    record {
      done = suc m.done;
      next = omega (arith, m.next);
      counted = omega (arith, m.counted, passing_counts (mark marks) m.done);
      bytes = e ∙ stepped (mark marks x) refl ∙ ap (λ (l : List ℕ). in_list l list₀) (sym all);
      long = ap length e ∙ length_stepped (mark marks x) ∙ m.long;
    }
  where
    before : List ℕ
    before = passing (mark marks) m.done

    length_stepped : (z : Bool) → length (cond z (set_word list count x) list) ≡ length list
    length_stepped true = length_set_word list count x
    length_stepped false = refl

    stepped : (z : Bool) → mark marks x ≡ z → cond z (set_word list count x) list ≡ in_list (before ++ cond z (x ∷ []) []) list₀
    stepped true q =
        rw (m.bytes, m.counted) (list_next list₀ before x (omega (arith, room q, m.counted, m.long)))
    stepped false q = m.bytes ∙ ap (λ (l : List ℕ). in_list l list₀) (sym (append-nil before))

-- all benches are written
pub write_end : {list₀ : List ℕ} {marks : List Bool} {list : List ℕ} {count x : ℕ} (s : Size) → Writing list₀ marks list count x → x ≡ s.benches + 1 → list ≡ in_list (marked s marks) list₀
write_end s m e =
    let d : m.done ≡ s.benches = omega (arith, m.next) in
    rw d at m.bytes

-- marking the heavy benches

-- a bench before x has less
abbrev Less : List ℕ → ℕ → ℕ → Type 0
Less loads h x = (y : ℕ) × (1 ≤ y) × (y < x) × (at loads y < h)

-- of the benches before x just the heavy ones are marked, and `less` tells whether there are others
pub record Marking (loads : List ℕ) (h benches : ℕ) (marks : List Bool) (less : Bool) (x : ℕ) : Type 0 where
  pub least : 1 ≤ x
  pub most : x ≤ benches + 1
  pub long : Marks marks
  pub heavy : (y : ℕ) → T (mark marks y) ↔ Passed loads h x y
  pub others : Tells (Less loads h x) less

-- no bench is marked yet
pub mark_start : (loads : List ℕ) (h benches : ℕ) {marks : List Bool} → marks ≡ replicate (most_benches + 1) false → Marking loads h benches marks false 1
mark_start loads h benches {marks} e =
    record {
      least = omega arith;
      most = omega arith;
      long = record { long = array_long false e };
      heavy = λ y. (λ t. absurd (T_not (mark marks y) (false→not (mark marks y) (array_at (most_benches + 1) e y)) t), λ p. absurd (omega (arith, p.least, p.before)));
      others = λ (y, p, q, r). omega arith;
    }

-- the tight set as marks

-- a bench with load h or more reaches y
abbrev HeavyReaches : Board → ℕ → ℕ → Type 0
HeavyReaches b h y = (x : ℕ) × T (within 1 b.benches x) × (h ≤ load b.holders x) × Reach (steps b) x y

module _ {t : List ℕ} {s : Size} {loads : List ℕ} (h : ℕ) (k : HoldsBoard t s) (loaded : Loaded (decode t) loads) where
  -- marks at exactly the benches of 1 to B that one of them reaches are the tight set
  marks_tight : (marks : List Bool) → ((y : ℕ) → BenchIn s y → T (mark marks y) ↔ HeavyReaches (decode t) h y) → marked s marks ≡ tight_set (decode t) h
  marks_tight marks f =
      ap (λ (n : ℕ). filter (mark marks) (range 1 n)) (sym k.size.board_benches)
      ∙ sym (tight_marked (decode t) k.storable.valid h (mark marks) (λ y w. f y (board_bench y k.size w)))

  -- what a heavy bench reaches is reached from one with load h or more ..
  heavy_reaches : (x y : ℕ) → Heavy s loads h x → Reach (steps (decode t)) x y → HeavyReaches (decode t) h y
  heavy_reaches x y (b, l) r = (x, on_board k b, omega (arith, load_at k loaded b), r)

  -- .. and a bench with that load is heavy
  load_heavy : (x : ℕ) → T (within 1 (decode t).benches x) → h ≤ load (decode t).holders x → Heavy s loads h x
  load_heavy x w l = let b = board_bench x k.size w in (b, omega (arith, load_at k loaded b))

  -- where no bench has less, the heavy ones are the tight set
  pub all_tight : {marks : List Bool} → HeavyMarked s loads h marks → (Lighter s loads h → ⊥) → marked s marks ≡ tight_set (decode t) h
  all_tight {marks} m n = marks_tight marks (λ y b. (λ i. heavy_reaches y y ((m.heavy y).0 i) (reach_here (steps (decode t)) y), λ i. (m.heavy y).1 (b, all y b)))
    where
      all : (y : ℕ) → BenchIn s y → h ≤ at loads y
      all y b = elim (dec_le h (at loads y)) [ yes l ↦ l | no d ↦ absurd (n (y, b, omega arith)) ]

-- what `mark-closure` has when it ends
pub record ClosureMarked (t : List ℕ) (s : Size) (h : ℕ) (head next to loads : List ℕ) (marks₀ marks : List Bool) : Type 0 where
  pub sound : SoundTable t s
  pub stored : StoredChains t s head next to
  pub loaded : Loaded (decode t) loads
  pub heavy : HeavyMarked s loads h marks₀
  pub closed : ClosedOver (Leads head next to) (FromHeavy s loads h (Leads head next to)) marks₀ marks

module _ {t : List ℕ} {s : Size} {h : ℕ} {head next to loads : List ℕ} {marks₀ marks : List Bool} (f : ClosureMarked t s h head next to loads marks₀ marks) where
  -- its records hold a board
  holds : HoldsBoard t s
  holds = sound_holds_board t s f.sound

  -- a marked bench is reached from one with load h or more ..
  marked_reached : (y : ℕ) → T (mark marks y) → HeavyReaches (decode t) h y
  marked_reached y m = go (mark marks₀ y) refl
    where
      go : (z : Bool) → mark marks₀ y ≡ z → HeavyReaches (decode t) h y
      go true e = heavy_reaches h holds f.loaded y y ((f.heavy.heavy y).0 (true→T (mark marks₀ y) e)) (reach_here (steps (decode t)) y)
      go false e =
          let (z, (x, l, i), r) = f.closed.only y (false→not (mark marks₀ y) e) m in
          heavy_reaches h holds f.loaded x y l (jobs_reach holds (leads_job f.sound f.stored) x y l.0 (step x z y i r))

  -- .. and each that is reached is marked
  reached_marked : (y : ℕ) → HeavyReaches (decode t) h y → T (mark marks y)
  reached_marked y (x, w, l, r) = reach_all (steps (decode t)) (λ z. T (mark marks z)) (λ z q m i. on z q m i (mark marks₀ z) refl) x y start r
    where
      on : (z : ℕ) (q : Step) → T (mark marks z) → In q (steps (decode t) z) → (b : Bool) → mark marks₀ z ≡ b → T (mark marks q.to)
      on z q m i true e = f.closed.every q.to (z, (f.heavy.heavy z).0 (true→T (mark marks₀ z) e), step_leads f.sound f.stored z q i)
      on z q m i false e = f.closed.shut z q.to (false→not (mark marks₀ z) e) m (step_leads f.sound f.stored z q i)

      start : T (mark marks x)
      start = f.closed.grows x ((f.heavy.heavy x).1 (load_heavy h holds f.loaded x w l))

  -- so the marked benches are the tight set
  pub found_tight : marked s marks ≡ tight_set (decode t) h
  found_tight = marks_tight h holds f.loaded marks (λ y b. (marked_reached y, reached_marked y))

module _ {t : List ℕ} {s : Size} {loads : List ℕ} (h : ℕ) (marks : List Bool) (k : HoldsBoard t s) (l : Loaded (decode t) loads) (tight : marked s marks ≡ tight_set (decode t) h) where
  -- the loads of the marked benches are the jobs inside the tight set ..
  marked_inside : total s.benches (marked_load loads marks) ≡ inside (tight_set (decode t) h) (decode t).named
  marked_inside =
      ap (λ (n : ℕ). total n (marked_load loads marks)) (sym k.size.board_benches)
      ∙ total_same (decode t).benches (marked_load loads marks) (load_in (tight_set (decode t) h) (decode t).holders) each
      ∙ sym (tight_inside (decode t) k.storable.valid h)
    where
      one : (z : Bool) (k : ℕ) → cond z k 0 ≡ bit z * k
      one true k = omega arith
      one false k = omega arith

      each : (x : ℕ) → 1 ≤ x → x ≤ (decode t).benches → marked_load loads marks x ≡ load_in (tight_set (decode t) h) (decode t).holders x
      each x i u =
          let b = board_bench x k.size (within_both 1 (decode t).benches x i u) in
          let e : member x (tight_set (decode t) h) ≡ mark marks x = ap (member x) (sym tight) ∙ member_marked s.benches (mark marks) x (within_both 1 s.benches x b.least b.most) in
          rw (e, load_at k l b) (one (mark marks x) (load (decode t).holders x))

  -- .. so what is measured is the tight set's
  pub measured_tight : {r : Extent} → Measured s loads marks r → TightSet (decode t) s h marks r
  measured_tight m =
      record {
        set = tight;
        benches = m.benches ∙ ap length tight;
        jobs = m.jobs ∙ marked_inside;
      }
