-- A trail followed back: from a bench to the one that its job leads from, until all its jobs are listed.
use Prim.Native.Nat.{ℕ, zero, suc, ◌+◌, ◌-◌, ◌≤◌, ◌<◌}
use native.Mathlib.Omega.{arith}
use native.Mathlib.Decide.{ℕ_discrete, dec_lt}
use mathlib.Core.Path.{◌≡◌, refl, sym, ap, ◌∙◌}
use mathlib.Core.Logic.{◌≢◌}
use mathlib.Core.List.{List, [], ◌∷◌, ◌++◌, map, append-nil, append_assoc}
use lib.ListN.{length, set, take, length-set}
use lib.Seq.{slice, slice-cons, slice_empty, drop-set-lt, take-set-lt, get_or-set_same}
use Rattle.spec_lists.specs.Lists.{In}
use Rattle.spec_table.specs.Board.{holder_of}
use Rattle.spec_table.specs.Table.{most_benches, most_jobs, decode}
use Rattle.spec_sharing.specs.Paths.{Step, step_by, jobs}
use Rattle.spec_sharing.specs.Searches.{further, Sooner}
use Rattle.spec_lists.proofs.Tests.{within_low, within_high}
use Rattle.spec_sharing.proofs.Trails.{further_jobs, further_length, further_later, sooner_no_later}
use Rattle.table_size.specs.declared.Size.{Size}
use Rattle.table_board.specs.BoardView.{HoldsBoard, HolderOf}
use Rattle.graph_lists.specs.Arrays.{at}
use Rattle.sharing_steps.specs.Others.{other_of}
use Rattle.sharing_steps.proofs.AsSteps.{step_job}
use Rattle.sharing_search.specs.Searching.{started, Course, Searching}
use Rattle.sharing_search.proofs.Steps.{found_bench, search_few}
use Rattle.sharing_paths.specs.FoundPaths.{Behind}

module _ {c : Course} {benches limit found : ℕ} {queue came : List ℕ} (k : Searching c benches limit found queue came) where
  -- a bench that a trail of some jobs leads to was found from another, by its job ..
  pub trail_back : (x : ℕ) → 1 ≤ at came x → 1 ≤ length (k.trail x).route → (i : ℕ) × (i < found) × In (step_by (at came x) x) (c.out (at queue i)) × (k.trail x ≡ further (k.trail (at queue i)) (step_by (at came x) x))
  trail_back x f l =
      let (i, m, t, s, e) = k.from x f (λ e. omega (arith, ap (λ p. length p.route) (k.own x e))) in
      (i, m, s, e)

  -- .. which stands before it in the queue, ..
  before : (i y : ℕ) → i < found → y < found → (q : Step) → k.trail (at queue y) ≡ further (k.trail (at queue i)) q → i < y
  before i y l m q e =
      let grows : length (k.trail (at queue y)).route ≡ suc (length (k.trail (at queue i)).route) = ap (λ p. length p.route) e ∙ further_length (k.trail (at queue i)) q in
      let p = k.trail (at queue i) in
      let later : Sooner c.rank p (k.trail (at queue y)) = rw e (further_later c.rank p q) in
      elim (dec_lt i y) [
        | yes h ↦ h
        | no h ↦ elim (ℕ_discrete i y) [
          | yes d ↦ absurd (omega (arith, ap (λ (z : ℕ). length (k.trail (at queue z)).route) d))
          | no d ↦ absurd (k.sorted y i (omega arith) l (sooner_no_later c.rank p (k.trail (at queue y)) later))
        ]
      ]

  -- .. so no trail has more jobs than benches stand before its end
  short : (fuel y : ℕ) → y < fuel → y < found → length (k.trail (at queue y)).route ≤ y
  short zero y h l = absurd (omega arith)
  short (suc fuel) y h l = go (dec_lt 0 (length (k.trail (at queue y)).route)) (short fuel)
    where
      go : Dec (0 < length (k.trail (at queue y)).route) → ((z : ℕ) → z < fuel → z < found → length (k.trail (at queue z)).route ≤ z) → length (k.trail (at queue y)).route ≤ y
      go (no d) ih = omega arith
      go (yes d) ih =
          let (i, m, w, e) = trail_back (at queue y) (k.bench y l).1 d in
          let b = before i y m l (step_by (at came (at queue y)) (at queue y)) e in
          omega (arith, ih i (omega arith) m, ap (λ p. length p.route) e, further_length (k.trail (at queue i)) (step_by (at came (at queue y)) (at queue y)))

  -- a trail's jobs are fewer than the benches found ..
  pub trail_short : (x : ℕ) → 1 ≤ at came x → length (k.trail x).route < found
  trail_short x f =
      let (i, l, e) = k.listed x f in
      omega (arith, short (suc i) i (omega arith) l, ap (λ (z : ℕ). length (k.trail z).route) e)

  -- .. and than the most that there can be
  pub trail_few : (x : ℕ) → 1 ≤ at came x → length (k.trail x).route < most_benches
  trail_few x f = omega (arith, trail_short x f, search_few k, k.few)

-- what stands from place i to n of a list, after a was written at i
slice_written : (i n : ℕ) (l : List ℕ) (a : ℕ) → i < n → n ≤ length l → slice i n (set l i a) ≡ a ∷ slice (suc i) n l
slice_written i n l a h m =
    let room : n ≤ length (set l i a) = omega (arith, length-set l i a) in
    let place : i < length l = omega arith in
    let next : i < suc i = omega arith in
    rw (slice-cons i n (set l i a) 0, get_or-set_same l i a 0, take-set-lt n l i a, drop-set-lt (suc i) (take n l) i a) refl

-- the trail to y is followed back as far as its job at `left`: the jobs from there on are listed in `path`, those before it lead to a bench
-- that is x, unless there are none
pub record Followed {c : Course} {benches limit found : ℕ} {queue came : List ℕ} (k : Searching c benches limit found queue came) (y n : ℕ) (path : List ℕ) (x left : ℕ) : Type 0 where
  pub bench : ℕ
  pub here : 1 ≤ left → x ≡ bench
  pub reached : 1 ≤ at came bench
  pub count : length (k.trail bench).route ≡ left
  pub few : left ≤ n
  pub listed : jobs (k.trail y) ≡ jobs (k.trail bench) ++ slice left n path

module _ {t : List ℕ} {s : Size} {c : Course} {found : ℕ} {queue came : List ℕ} {y n : ℕ} (holds_board : HoldsBoard t s) (k : Behind (decode t) c s.benches found queue came y n) where
  -- at first the whole trail is left
  pub followed_start : (path : List ℕ) → Followed k.searching y n path y n
  followed_start path = record {
    bench = y;
    here = λ l. refl;
    reached = k.reached;
    count = k.jobs;
    few = omega arith;
    listed = rw (slice_empty n path) (sym (append-nil (jobs (k.searching.trail y))));
  }

  -- the jobs that are left have a place in the array
  pub followed_room : {path : List ℕ} {x left : ℕ} → Followed k.searching y n path x left → left < most_benches + 1
  followed_room h = omega (arith, h.few, k.jobs, trail_few k.searching y k.reached)

  module _ {path : List ℕ} {x left : ℕ} (h : Followed k.searching y n path x left) (l : 1 ≤ left) where
    -- the bench come to is a place of the array
    pub followed_place : x < most_benches + 1
    followed_place = omega (arith, within_high 1 s.benches h.bench (found_bench k.searching h.bench h.reached), k.searching.few, h.here l)

    -- it was found ..
    reached : 1 ≤ at came x
    reached = rw (h.here l) h.reached

    -- .. by the jobs that are left
    count : length (k.searching.trail x).route ≡ left
    count = rw (h.here l) h.count

    -- the bench from which x was found
    back : (w : ℕ) × (1 ≤ at came w) × In (step_by (at came x) x) (c.out w) × (k.searching.trail x ≡ further (k.searching.trail w) (step_by (at came x) x))
    back =
        let (i, m, j, e) = trail_back k.searching x reached (omega (arith, count)) in
        (at queue i, (k.searching.bench i m).1, j, e)

    -- its trail has one job less
    shorter : length (k.searching.trail back.0).route ≡ left - 1
    shorter =
        let (w, f, j, e) = back in
        omega (arith, count, ap (λ p. length p.route) e, further_length (k.searching.trail w) (step_by (at came x) x))

    -- if that bench is no start, x's job leads from it to x in the table
    led : 1 ≤ left - 1 → (holder_of (decode t) (at came x) ≡ back.0) × (other_of (decode t) (at came x) ≡ x)
    led m =
        let (w, f, j, e) = back in
        let start : at came w ≢ started = λ d. omega (arith, shorter, ap (λ p. length p.route) (k.searching.own w d)) in
        let end : w ≢ y = λ d. omega (arith, shorter, k.jobs, h.few, ap (λ (z : ℕ). length (k.searching.trail z).route) d) in
        let small = within_high 1 most_jobs (at came x) (k.searching.steps_in w (step_by (at came x) x) j).0 in
        let (_, g, o) = step_job holds_board w (step_by (at came x) x) ((k.agree w f start end (step_by (at came x) x) (omega arith) (omega arith)).0 j) in
        (g, o)

    -- so if x's job is not the trail's first, it leads to x, which is a bench, ..
    pub followed_led : 1 ≤ left - 1 → (x ≡ other_of (decode t) (at came x)) × (x ≢ 0)
    followed_led m = (sym (led m).1, λ e. omega (arith, within_low 1 s.benches x (found_bench k.searching x reached)))

    -- .. and its holder is the bench before: one job more is followed
    pub followed_turn : {x' : ℕ} → length path ≡ most_benches + 1 → (1 ≤ left - 1 → HolderOf t s (at came x) x') → Followed k.searching y n (set path (left - 1) (at came x)) x' (left - 1)
    followed_turn {x'} long e = record {
      bench = back.0;
      here = λ m. (e m).value ∙ (led m).0;
      reached = back.1;
      count = shorter;
      few = omega (arith, h.few);
      listed = listed;
    }
      where
        j : ℕ
        j = at came x

        listed : jobs (k.searching.trail y) ≡ jobs (k.searching.trail back.0) ++ slice (left - 1) n (set path (left - 1) j)
        listed =
            let (w, f, i, g) = back in
            let one : suc (left - 1) ≡ left = omega arith in
            let room = trail_few k.searching y k.reached in
            let here = rw (← h.here l, ap jobs g ∙ further_jobs (k.searching.trail w) (step_by j x), append_assoc (jobs (k.searching.trail w)) (j ∷ []) (slice left n path)) at h.listed in
            rw (slice_written (left - 1) n path j (omega (arith, h.few)) (omega (arith, k.jobs)), one) here

  -- in the end all jobs are listed
  pub followed_end : {path : List ℕ} {x left : ℕ} → Followed k.searching y n path x left → left ≤ 0 → take n path ≡ jobs (k.searching.trail y)
  followed_end {path} {x} {left} h l = sym (h.listed ∙ none (k.searching.trail h.bench).route left (omega arith) h.count)
    where
      none : (r : List Step) (m : ℕ) → m ≡ 0 → length r ≡ m → map (λ q. q.job) r ++ slice m n path ≡ take n path
      none [] m z e = rw z refl
      none (q ∷ r) m z e = absurd (omega arith)
