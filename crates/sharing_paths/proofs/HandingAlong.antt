-- A path handed over, job by job: each goes to the bench that holds the next one, the last to the path's end. What is left of a path once
-- its first job went is a path of the board as it then is: no job of it is on the path twice.
use Prim.Native.Nat.{ℕ, suc, ◌+◌, ◌-◌, ◌≤◌, ◌<◌}
use native.Mathlib.Omega.{arith}
use native.Mathlib.Nat.{add-zero, sub-zero}
use mathlib.Core.Path.{◌≡◌, refl, sym, ap, subst, ◌∙◌}
use mathlib.Core.Logic.{inl, inr}
use mathlib.Core.List.{List, [], ◌∷◌}
use mathlib.Core.Option.{Option, none, some}
use lib.Dec.{T}
use lib.ListN.{length, take, drop, length-map}
use lib.Seq.{get_or-take, get_or-drop, drop-drop}
use Rattle.spec_lists.specs.Lists.{member, distinct, In, update}
use Rattle.spec_table.specs.Board.{Board, Valid, names_of, holder_of, stands, held_by}
use Rattle.spec_table.specs.Table.{decode}
use Rattle.spec_sharing.specs.Paths.{Step, BenchPath, path_by, steps, Walk, IsPath, hand_over}
use Rattle.spec_lists.proofs.Tests.{true→T, T→true}
use Rattle.spec_lists.proofs.Elements.{nth_update_other, length_update, in_get_d}
use Rattle.spec_lists.proofs.NumberLists.{in_member, distinct_head, distinct_tail}
use Rattle.spec_table.proofs.Named.{length_shares}
use Rattle.spec_sharing.proofs.Paths.{step_is, is_step, benches_of, jobs_of}
use Rattle.spec_sharing.proofs.Flip.{path_stands, path_jobs}
use Rattle.table_size.specs.declared.Size.{Size}
use Rattle.table_board.proofs.RecordsAsBoard.{stands_job}
use Rattle.table_order.specs.InOrder.{InOrder, TableOf}
use Rattle.graph_lists.specs.Arrays.{at}
use Rattle.sharing_paths.specs.FoundPaths.{last_of, start_of, PathFound, JobAt, AfterIn, RouteIn}
use Rattle.sharing_paths.specs.declared.FoundPath.{FoundPath}

-- the board after one job was handed over

-- a walk without that job goes the same way
walk_stays : (b : Board) → Valid b → (j y x : ℕ) (r : List Step) → Walk (steps b) x r → (In j (jobs_of r) → ⊥) → Walk (steps (held_by b (update b.holders j y))) x r
walk_stays b v j y x [] w f = tt
walk_stays b v j y x (q ∷ r) w f =
    let k = step_is b x q w.0 in
    let long = sym (length_shares b.named b.holders v.shares) ∙ sym (length_update b.holders j y) in
    let held = nth_update_other b.holders j q.job y 0 (λ e. f (inl (sym e))) ∙ k.0 in
    (is_step (held_by b (update b.holders j y)) x q held k.1 k.2 long, walk_stays b v j y q.to r w.1 (λ i. f (inr i)))

-- what is left of a path once its first job went is a path
path_rest : (b : Board) → Valid b → (x : ℕ) (q : Step) (r : List Step) → IsPath b (path_by x (q ∷ r)) → IsPath (held_by b (update b.holders q.job q.to)) (path_by q.to r)
path_rest b v x q r h =
    let apart = distinct_head q.job (jobs_of r) (path_jobs b v (path_by x (q ∷ r)) h) in
    let once = distinct_tail x (q.to ∷ benches_of r) (true→T (distinct (x ∷ q.to ∷ benches_of r)) h.once) in
    record { walk = walk_stays b v q.job q.to q.to r h.walk.1 apart; once = T→true (distinct (q.to ∷ benches_of r)) once }

-- a route in the array

-- but for its first number, what is left of a list
rest_listed : (a : ℕ) (l k : List ℕ) (m : ℕ) → a ∷ l ≡ take (suc m) k → l ≡ take m (drop 1 k)
rest_listed a l [] m e = cc
rest_listed a l (c ∷ k) m e = cc

module _ {b : Board} {path : List ℕ} {i n end x : ℕ} where
  -- a job of the route stands in the array, as far behind its first place as it is on the route
  pub route_at : {r : List Step} → RouteIn b path i n end x r → (m : ℕ) → m < length r → at (jobs_of r) m ≡ at path (i + m)
  route_at {r} k m h =
      ap (λ (l : List ℕ). at l m) k.listed ∙ get_or-take (n - i) (drop i path) m 0 (omega (arith, k.count)) ∙ get_or-drop i path m 0

  -- a route to place n has a first step, if it does not begin there
  pub route_goes : (r : List Step) → RouteIn b path i n end x r → i < n → (q : Step) × (rest : List Step) × (r ≡ q ∷ rest)
  route_goes [] k l = absurd (omega (arith, k.count))
  route_goes (q ∷ rest) k l = (q, rest, refl)

  -- the array's jobs from the route's first on stand
  pub route_stands : Valid b → {r : List Step} → RouteIn b path i n end x r → (m : ℕ) → i ≤ m → m < n → T (stands b (at path m))
  route_stands v {r} k m l u =
      let d = m - i in
      let short : d < length r = omega (arith, k.count) in
      let place : i + d ≡ m = omega arith in
      let there = route_at k d short in
      let in-jobs = in_get_d (jobs_of r) d 0 (omega (arith, length-map r (λ (s : Step). s.job))) in
      path_stands b v (path_by x r) k.is (at path m) (subst (λ (j : ℕ). In j (jobs_of r)) (there ∙ ap (at path) place) in-jobs)

  module _ {q : Step} {r : List Step} (k : RouteIn b path i n end x (q ∷ r)) where
    -- the first of them is the first step's
    pub route_job : at path i ≡ q.job
    route_job = ap (at path) (sym (add-zero i)) ∙ sym (route_at k 0 (omega arith))

    -- .. it names the bench that it goes to ..
    pub route_named : In q.to (names_of b q.job)
    route_named = (step_is b x q k.is.walk.0).1

    -- .. and what is left of the route is one of the board as it then is
    pub route_rest : Valid b → RouteIn (held_by b (update b.holders q.job q.to)) path (i + 1) n end q.to r
    route_rest v =
        record {
          is = path_rest b v x q r k.is;
          ends = k.ends;
          listed = listed;
          count = omega (arith, k.count);
        }
      where
        m : ℕ
        m = n - (i + 1)

        long : n - i ≡ suc m
        long = omega (arith, k.count)

        listed : jobs_of r ≡ take m (drop (i + 1) path)
        listed =
            rest_listed q.job (jobs_of r) (drop i path) m (k.listed ∙ ap (λ (c : ℕ). take c (drop i path)) long) ∙ ap (take m) (drop-drop 1 i path)

  -- the first job goes to the bench that the next one's holder is, or to the end
  pub route_after : {q : Step} (r : List Step) → RouteIn b path i n end x (q ∷ r) → {y : ℕ} → AfterIn b path (i + 1) n end y → y ≡ q.to
  route_after [] k a = a.last (omega (arith, k.count)) ∙ sym k.ends
  route_after {q} (p ∷ r) k a =
      a.next (omega (arith, k.count)) ∙ ap (holder_of b) (sym (route_at k 1 (omega arith))) ∙ (step_is b q.to p k.is.walk.1.0).0

-- the loop

-- the table u is in order, and the path goes on from place `done` along its board: what is left of it, handed over, gives what the whole
-- route r does on b
pub record Handing (b : Board) (r : List Step) (u : List ℕ) (s : Size) (path : List ℕ) (done n end : ℕ) : Type 0 where
  pub in_order : InOrder u s
  pub bench : ℕ
  pub left : List Step
  pub route : RouteIn (decode u) path done n end bench left
  pub whole : held_by (decode u) (hand_over (decode u).holders left) ≡ held_by b (hand_over b.holders r)

-- no job yet ..
pub handing_start : {t : List ℕ} {s : Size} {path : List ℕ} {first n end x : ℕ} {r : List Step} → InOrder t s → RouteIn (decode t) path first n end x r → Handing (decode t) r t s path first n end
handing_start {x = x} {r = r} o k = record { in_order = o; bench = x; left = r; route = k; whole = refl }

module _ {b : Board} {r : List Step} {u : List ℕ} {s : Size} {path : List ℕ} {done n end : ℕ} (h : Handing b r u s path done n end) where
  -- .. those still to go are jobs ..
  pub handing_job : (m : ℕ) → done ≤ m → JobAt s path m n
  handing_job m l k =
      stands_job u s (at path m) h.in_order.sound.size (route_stands h.in_order.sound.storable.valid h.route m l k)

  -- .. the next one names the bench that it is to go to ..
  pub handing_named : {y : ℕ} → done < n → AfterIn (decode u) path (done + 1) n end y → T (member y (names_of (decode u) (at path done)))
  handing_named {y} l a =
      let (q, rest, e) = route_goes h.left h.route l in
      let k : RouteIn (decode u) path done n end h.bench (q ∷ rest) = rw e at h.route in
      rw (route_job k, route_after rest k a) (in_member q.to (names_of (decode u) q.job) (route_named k))

  -- .. it went ..
  pub handing_turn : {v : List ℕ} {y : ℕ} → done < n → AfterIn (decode u) path (done + 1) n end y → TableOf v s (held_by (decode u) (update (decode u).holders (at path done) y)) → Handing b r v s path (done + 1) n end
  handing_turn {v} {y} l a t =
      let (q, rest, e) = route_goes h.left h.route l in
      let k : RouteIn (decode u) path done n end h.bench (q ∷ rest) = rw e at h.route in
      let w = rw e at h.whole in
      let c = held_by (decode u) (update (decode u).holders q.job q.to) in
      let board : decode v ≡ c = rw (← route_job k, ← route_after rest k a) t.board in
      record {
        in_order = t.in_order;
        bench = q.to;
        left = rest;
        route = subst (λ (d : Board). RouteIn d path (done + 1) n end q.to rest) (sym board) (route_rest k h.in_order.sound.storable.valid);
        whole = ap (λ (d : Board). held_by d (hand_over d.holders rest)) board ∙ w;
      }

  -- .. and all have gone
  pub handing_end : n ≤ done → TableOf u s (held_by b (hand_over b.holders r))
  handing_end l = record { in_order = h.in_order; board = go h.left h.route h.whole }
    where
      go : (l : List Step) → RouteIn (decode u) path done n end h.bench l → held_by (decode u) (hand_over (decode u).holders l) ≡ held_by b (hand_over b.holders r) → decode u ≡ held_by b (hand_over b.holders r)
      go [] k e = e
      go (q ∷ rest) k e = absurd (omega (arith, k.count))

-- a path that was found

-- its route, none where there is no path
abbrev pub route_of : Option BenchPath → List Step
route_of none = []
route_of (some p) = p.route

-- a path of the board that was found lies in the array, whole
pub found_route : (b : Board) (x : ℕ) (o : Option BenchPath) {e : ℕ} {path : List ℕ} {r : FoundPath} → ((p : BenchPath) → o ≡ some p → IsPath b p) → PathFound o e path r → RouteIn b path 0 r.jobs (last_of x o) (start_of x o) (route_of o)
found_route b x none {path = path} {r = r} f k =
    record { is = record { walk = tt; once = refl }; ends = refl; listed = sym k.listed ∙ ap (λ (n : ℕ). take n path) (sym (sub-zero r.jobs)); count = omega (arith, k.count) }
found_route b x (some p) {path = path} {r = r} f k =
    record { is = f p refl; ends = refl; listed = sym k.listed ∙ ap (λ (n : ℕ). take n path) (sym (sub-zero r.jobs)); count = omega (arith, k.count, length-map p.route (λ (s : Step). s.job)) }
