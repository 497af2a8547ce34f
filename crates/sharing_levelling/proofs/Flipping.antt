-- Levelling: the bench that the search finds starts the rule's path, and a loop that flips such paths is levelling.
use Prim.Native.Nat.{ℕ, ◌+◌, ◌-◌, ◌≤◌, ◌<◌}
use native.Mathlib.Omega.{arith}
use native.Mathlib.Numerals.{add-one}
use mathlib.Core.Path.{◌≡◌, refl, sym, ap, subst, ◌∙◌}
use mathlib.Core.Logic.{inl, ⊎_elim}
use mathlib.Core.List.{List}
use mathlib.Core.Option.{Option, none, some}
use lib.Dec.{T, eqb}
use lib.ListN.{length, set, length-set, length-map}
use Rattle.spec_lists.specs.Lists.{bit, In}
use Rattle.spec_table.specs.Board.{Board, Valid, load, held_by}
use Rattle.spec_table.specs.Table.{most_benches, most_jobs, decode}
use Rattle.spec_sharing.specs.Paths.{Step, BenchPath, path_by, steps, end_of, last, IsPath, improves, improving_from, hand_over, flip}
use Rattle.spec_sharing.specs.Sharing.{arrival_choice, levelling_choice, level, Levelled}
use Rattle.spec_sharing.specs.Demand2.{Flips, no_flip}
use Rattle.spec_sharing.specs.Searches.{Reach, StartsOne}
use Rattle.table_size.specs.Sizes.{BenchIn}
use Rattle.table_size.specs.declared.Size.{Size}
use Rattle.table_board.specs.BoardView.{HoldsBoard, Loaded}
use Rattle.table_order.specs.InOrder.{InOrder, TableOf}
use Rattle.graph_lists.specs.Arrays.{at, LoadsIn}
use Rattle.sharing_paths.specs.FoundPaths.{jobs_in, last_of, PathFound, RouteIn}
use Rattle.sharing_paths.specs.declared.FoundPath.{FoundPath}
use Rattle.sharing_paths_from.specs.ArrivalSearch.{WithJob}
use Rattle.sharing_start.specs.PathStart.{StartOf}
use Rattle.sharing_levelling.specs.LevellingResult.{IsLevelling, LevellingOf}
use Rattle.sharing_levelling.specs.declared.Levelling.{Levelling}
use Rattle.spec_lists.proofs.Tests.{T→true, never→false}
use Rattle.std.specs.Prelude.{Bool, true, false, None, Some, is_some, not}
use Rattle.spec_lists.proofs.Raising.{get_d_raised, get_d_lowered}
use Rattle.spec_sharing.proofs.Paths.{improving_from_only, improving_from_every, improves_loads, loads_improve}
use Rattle.spec_sharing.proofs.Choice.{arrival_choice_lem, arrival_none, level_choice}
use Rattle.spec_sharing.proofs.Walks.{reach_path, path_reach, reach_bench}
use Rattle.spec_sharing.proofs.Flip.{flip_loads}
use Rattle.spec_sharing.proofs.Found.{level_starts, levelling_found}
use Rattle.spec_sharing.proofs.Levelling.{flips_more, flips_relevel}
use Rattle.table_size.proofs.Sizes.{board_bench}
use Rattle.sharing_steps.proofs.AsSteps.{loads_in, on_board, load_at}
use Rattle.sharing_search.proofs.OnBoard.{order_holds}

-- the loads of a table in order are loads of its size
pub order_loads : {t : List ℕ} {s : Size} {loads : List ℕ} → InOrder t s → Loaded (decode t) loads → LoadsIn s loads
order_loads i l = loads_in (order_holds i) l

-- the first bench

-- a bench that starts a path, where one does
abbrev pub Start : Type 0
Start = Rattle.std.specs.Prelude.Option ℕ

-- a bench that starts an improving path has one that an arrival there would flip
starts_choice : (b : Board) → Valid b → (x : ℕ) → StartsOne b x → (p : BenchPath) × (arrival_choice b x ≡ some p)
starts_choice b v x (y, r, d) = go (arrival_choice b x) refl
  where
    go : (o : Option BenchPath) → arrival_choice b x ≡ o → (p : BenchPath) × (arrival_choice b x ≡ some p)
    go (some p) e = (p, e)
    go none e =
        let (p, h, f, g) = reach_path b x y r in
        let i = improving_from_every b v p h (loads_improve b p (omega (arith, ap (load b.holders) f, ap (load b.holders) g))) in
        absurd (subst (In p) (ap (improving_from b) f ∙ arrival_none b x e) i)

module _ {t : List ℕ} {s : Size} (i : InOrder t s) where
  valid : Valid (decode t)
  valid = i.sound.storable.valid

  -- where no bench starts a path, and only there, the board is level
  pub none_level : (start : Start) (r : Bool) → is_some start ≡ not r → StartOf (decode t) s start → r ≡ level (decode t)
  none_level None true e n = sym (T→true (level (decode t)) (n.none refl))
  none_level None false e n = cc
  none_level (Some x) true e n = cc
  none_level (Some x) false e n =
      let f = n.some x refl in
      sym (never→false (level (decode t)) (λ h. (level_starts (decode t) valid).0 h x (on_board (order_holds i) f.bench) f.starts))

  -- an arrival at the bench found would flip what levelling flips
  next_choice : {start : Start} {x : ℕ} → StartOf (decode t) s start → start ≡ Some x → (p : BenchPath) × (arrival_choice (decode t) x ≡ some p) × (levelling_choice (decode t) ≡ some p)
  next_choice {x = x} n d =
      let f = n.some x d in
      let (p, e) = starts_choice (decode t) valid x f.starts in
      (p, e, levelling_found (decode t) valid x p e (λ w h. f.first w (board_bench w i.sound.size h)))

-- of a copy in order it tells so of the board
pub copy_level : {u : List ℕ} {s : Size} {b : Board} {start : Start} {r : Bool} → TableOf u s b → StartOf (decode u) s start → is_some start ≡ not r → r ≡ level b
copy_level {start = start} {r} k n e = none_level k.in_order start r e n ∙ ap level k.board

-- one path

-- what the search for a path is told: there is no new job, and the board is the table's
pub same_board : {t : List ℕ} {s : Size} → InOrder t s → (x : ℕ) → WithJob (decode t) (decode t) s x 0 0
same_board i x =
    record {
      storable = i.sound.storable;
      benches = i.sound.size.board_benches;
      jobs = i.sound.size.board_jobs;
      elsewhere = λ z d q. (λ h. h, λ h. h);
      here = λ q. (inl, ⊎_elim (λ h. h) (λ h. absurd (h.0 refl)));
      free = refl;
      few = omega arith;
      leads = omega arith;
    }

-- and what it found: the path that an arrival at x would flip
abbrev FoundFrom : List ℕ → Size → List ℕ → ℕ → List ℕ → FoundPath → Type 0
FoundFrom t s loads x path r =
    (c : Board) → WithJob (decode t) c s x 0 0 → Loaded c loads →
    PathFound (arrival_choice c x) (last_of x (arrival_choice c x)) path r

-- the table u is t with that path handed over
abbrev HandedAlong : List ℕ → List ℕ → Size → List ℕ → FoundPath → Type 0
HandedAlong t u s path r =
    (z : ℕ) (q : List Step) → RouteIn (decode t) path 0 r.jobs r.bench z q →
    TableOf u s (held_by (decode t) (hand_over (decode t).holders q))

-- loads with one less at x
abbrev lowered : List ℕ → ℕ → List ℕ
lowered loads x = set loads x (at loads x - 1)

-- loads can follow a path from x to y: x has one to give, there is room for it at y, and then they are those of the board b
pub record Shifts (b : Board) (loads : List ℕ) (x y : ℕ) : Type 0 where
  pub start : x < most_benches + 1
  pub end : y < most_benches + 1
  pub some : 1 ≤ at loads x
  pub room : at (lowered loads x) y ≤ most_jobs
  pub loaded : Loaded b (set (lowered loads x) y (at (lowered loads x) y + 1))

module _ (b : Board) (x : ℕ) (p : BenchPath) (e : arrival_choice b x ≡ some p) where
  -- what an arrival at x would flip is an improving path from x
  choice_path : IsPath b p × (p.start ≡ x) × T (improves b p)
  choice_path = improving_from_only b x p ((arrival_choice_lem b x p).0 e).listed_is

  -- its jobs stand in the array, if it was found
  choice_route : {path : List ℕ} {r : FoundPath} → PathFound (arrival_choice b x) (last_of x (arrival_choice b x)) path r → RouteIn b path 0 r.jobs r.bench x p.route
  choice_route {r = r} f =
      let m : r.jobs - 0 ≡ r.jobs = omega arith in
      record {
        is = subst (λ (z : ℕ). IsPath b (path_by z p.route)) choice_path.1 choice_path.0;
        ends = ap (λ (z : ℕ). end_of z p.route) (sym choice_path.1) ∙ sym (f.bench ∙ ap (last_of x) e);
        listed = rw m (sym (f.listed ∙ ap jobs_in e));
        count = omega (arith, f.count, ap (λ (o : Option BenchPath). length (jobs_in o)) e, length-map p.route (λ q. q.job));
      }

-- the loads can follow it
choice_shifts : {t : List ℕ} {s : Size} {loads : List ℕ} {x : ℕ} (p : BenchPath) → HoldsBoard t s → Loaded (decode t) loads → BenchIn s x → arrival_choice (decode t) x ≡ some p → Shifts (flip (decode t) p) loads x (last p)
choice_shifts {t} {s} {loads} {x} p k l i e =
    record {
      start = start;
      end = omega (arith, end.most, most);
      some = some;
      room = omega (arith, low (last p), (loads_in k l).most (last p) end.least, k.size.limits.jobs_most);
      loaded = record { long = length-set (lowered loads x) (last p) _ ∙ length-set loads x _ ∙ l.long; bench = bench };
    }
  where
    b : Board
    b = decode t

    most : s.benches ≤ most_benches
    most = k.size.limits.benches_most

    path : IsPath b p × (p.start ≡ x) × T (improves b p)
    path = choice_path b x p e

    end : BenchIn s (last p)
    end =
        board_bench (last p) k.size (reach_bench b k.storable.valid x (last p) (on_board k i) (subst (λ (z : ℕ). Reach (steps b) z (last p)) path.1 (path_reach b p path.0)))

    start : x < most_benches + 1
    start = omega (arith, i.most, most)

    some : 1 ≤ at loads x
    some = omega (arith, load_at k l i, improves_loads b p path.2, ap (load b.holders) path.1)

    low : (y : ℕ) → at (lowered loads x) y + bit (eqb x y) ≡ at loads y
    low y = get_d_lowered loads x y (omega (arith, start, l.long)) some

    bench : (y : ℕ) → 1 ≤ y → y ≤ most_benches → at (set (lowered loads x) (last p) (at (lowered loads x) (last p) + 1)) y ≡ load (flip b p).holders y
    bench y u v =
        omega (arith, get_d_raised (lowered loads x) (last p) y (omega (arith, end.most, most, length-set loads x (at loads x - 1), l.long)), low y, l.bench y u v, flip_loads b k.storable.valid p path.0 y, ap (λ (z : ℕ). bit (eqb z y)) path.1)

-- the loop

-- levelling of the board b has come to the table t with these loads: so many paths were flipped, and `start` is the bench that starts
-- the next path, where there is one
pub record Flipping (b : Board) (t : List ℕ) (s : Size) (allowance : ℕ) (loads path : List ℕ) (paths : ℕ) (start : Start) : Type 0 where
  pub in_order : InOrder t s
  pub loaded : Loaded (decode t) loads
  pub next : StartOf (decode t) s start
  pub flipped : Flips paths b (decode t)
  pub allowed : paths ≤ allowance
  pub long : length path ≡ most_benches + 1

-- at first no path was flipped
pub flipping_start : {t : List ℕ} {s : Size} {allowance : ℕ} {loads path : List ℕ} {start : Start} → InOrder t s → Loaded (decode t) loads → length path ≡ most_benches + 1 → StartOf (decode t) s start → Flipping (decode t) t s allowance loads path 0 start
flipping_start {t} i l m n =
    record { in_order = i; loaded = l; next = n; flipped = no_flip (decode t); allowed = omega arith; long = m }

module _ {b : Board} {t : List ℕ} {s : Size} {allowance : ℕ} {loads path : List ℕ} {paths : ℕ} {start : Start} (i : Flipping b t s allowance loads path paths start) where
  module _ {path' : List ℕ} {r : FoundPath} {x : ℕ} (d : start ≡ Some x) (f : FoundFrom t s loads x path' r) where
    found : PathFound (arrival_choice (decode t) x) (last_of x (arrival_choice (decode t) x)) path' r
    found = f (decode t) (same_board i.in_order x) i.loaded

    -- the path's jobs stand in the array
    pub flipping_route : (z : ℕ) × (q : List Step) × RouteIn (decode t) path' 0 r.jobs r.bench z q
    flipping_route =
        let (p, e, g) = next_choice i.in_order i.next d in
        (x, p.route, choice_route (decode t) x p e found)

    module _ {u : List ℕ} (h : HandedAlong t u s path' r) where
      -- the path is levelling's
      turned : (p : BenchPath) × (arrival_choice (decode t) x ≡ some p) × (levelling_choice (decode t) ≡ some p) × TableOf u s (flip (decode t) p)
      unfolding flip
      turned =
          let (p, e, g) = next_choice i.in_order i.next d in
          (p, e, g, h x p.route (choice_route (decode t) x p e found))

      -- the table is in order ..
      pub flipping_order : InOrder u s
      flipping_order = turned.3.in_order

      -- .. the loads can follow the path ..
      pub flipping_shifts : Shifts (decode u) loads x r.bench
      flipping_shifts =
          let (p, e, g, o) = turned in
          rw (found.bench ∙ ap (last_of x) e, o.board)
          (choice_shifts p (order_holds i.in_order) i.loaded (i.next.some x d).bench e)

      -- .. and then one more path is flipped
      pub flipping_turn : {loads' queue : List ℕ} {start' : Start} → paths < allowance → Loaded (decode u) loads' → length queue ≡ most_benches + 1 → StartOf (decode u) s start' → Flipping b u s allowance loads' queue (paths + 1) start'
      flipping_turn less l m n =
          let (p, e, g, o) = turned in
          record {
            in_order = o.in_order;
            loaded = l;
            next = n;
            flipped = rw (add-one paths, o.board) (flips_more paths b (decode t) p i.flipped g);
            allowed = omega arith;
            long = m;
          }

  -- where none is left or the allowance is used up, that is levelling
  pub flipping_end : {r : Bool} (t₀ : List ℕ) → b ≡ decode t₀ → (paths < allowance → start ≡ None) → is_some start ≡ not r → LevellingOf t₀ t allowance (record { paths = paths; level = r })
  flipping_end {r} t₀ same done told =
      let c = decode t in
      let e = flips_relevel paths allowance b c i.flipped i.allowed (λ h. level_choice c (i.next.none (done h))) in
      let a : Levelling = record { paths = paths; level = r } in
      rw (sym same) (subst (λ (m : Levelled). IsLevelling t m a) (sym e)
      (record { bytes = i.in_order.bytes; paths = refl; ended = none_level i.in_order start r told i.next }))
