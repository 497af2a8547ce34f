-- A job taken in, and the path handed along: a job that is the path's first goes at once where it leads. What is left then gives the
-- arrival's board, its numbers and its list.
use Prim.Native.Nat.{ℕ, ◌+◌, ◌-◌, ◌*◌, ◌≤◌, ◌<◌}
use native.Mathlib.Omega.{arith}
use mathlib.Core.Path.{◌≡◌, refl, sym, ap, subst, subst₂, ◌∙◌}
use mathlib.Core.Logic.{◌⊎◌, inl, inr, ◌≢◌}
use mathlib.Core.Bool.{false}
use mathlib.Core.List.{List, [], ◌∷◌}
use mathlib.Core.Option.{Option, none, some}
use lib.Dec.{T}
use lib.ListN.{length, take, drop, length-map}
use Rattle.spec_lists.specs.Lists.{within, In, update}
use Rattle.spec_table.specs.Board.{Board, Valid, names_of, holder_of, put, held_by, names_fit}
use Rattle.spec_table.specs.Table.{in_list, Storable, decode, encode}
use Rattle.spec_sharing.specs.Paths.{Step, BenchPath, path_by, IsPath, hand_over, flip}
use Rattle.spec_sharing.specs.Sharing.{Change, arrival_choice, after_arrival, arrive}
use Rattle.spec_calls.specs.Calls.{MayArrive}
use Rattle.spec_lists.proofs.Tests.{true→T}
use Rattle.spec_lists.proofs.Elements.{nth_update_other, update_again, length_update, in_get_d}
use Rattle.spec_lists.proofs.NumberLists.{in_member, others_all}
use Rattle.spec_table.proofs.Named.{stands_within}
use Rattle.spec_sharing.proofs.Paths.{improving_from_only, jobs_of}
use Rattle.spec_sharing.proofs.Choice.{arrival_choice_lem}
use Rattle.spec_sharing.proofs.Flip.{flip_gives, flip_keeps}
use Rattle.spec_sharing.proofs.Changes.{put_holder}
use Rattle.spec_sharing.proofs.Moves.{held_first, but_first}
use Rattle.table_size.specs.Sizes.{SoundTable}
use Rattle.table_size.specs.declared.Size.{Size}
use Rattle.table_size.proofs.Sizes.{board_job}
use Rattle.table_board.specs.BoardView.{Fillable}
use Rattle.table_order.specs.InOrder.{TableOf}
use Rattle.table_refusals.specs.declared.Refusal.TheVariants.{ListTooShort}
use Rattle.sharing_effects.specs.Effects.{Lent, TooShort, MadeAs}
use Rattle.graph_lists.specs.Arrays.{at}
use Rattle.sharing_paths.specs.FoundPaths.{last_of, PathFound, JobAt, AfterIn, RouteIn}
use Rattle.sharing_paths.specs.declared.FoundPath.{FoundPath}
use Rattle.sharing_paths.proofs.HandingAlong.{route_at, route_stands, route_job, route_named, route_rest, route_after, found_route}
use Rattle.sharing_arrival.specs.ArrivalResult.{ArrivalFound, EntersAt}
use Rattle.sharing_arrival.specs.declared.Intake.{Intake}
use Rattle.sharing_arrival.proofs.Arriving.{new_names, getting_in, arriving_fit, arriving_storable}

-- job j is put on the board b at bench `holder`, and a route from place `place` of the path on is left: handed over, it gives the board of
-- the change d, in which that bench still holds the job, and its jobs are those that moved
pub record Entered (b : Board) (j : ℕ) (names path : List ℕ) (d : Change) (r : FoundPath) (holder place : ℕ) : Type 0 where
  pub named : In holder names
  pub start : ℕ
  pub left : List Step
  pub route : RouteIn (put b j names holder) path place r.jobs r.bench start left
  pub board : held_by (put b j names holder) (hand_over (put b j names holder).holders left) ≡ d.board
  pub held : holder ≡ holder_of d.board j
  pub rose : r.bench ≡ d.bench
  pub moved : jobs_of left ≡ d.moved

module _ (b : Board) (w : Storable b) (j : ℕ) (names : List ℕ) (x : ℕ) (t : T (within 1 (length b.named) j)) (v : Valid (put b j names x)) (g : In x names) (path : List ℕ) (r : FoundPath) where
  -- the new job goes from x to y
  moved_on : (y : ℕ) → held_by (put b j names x) (update (put b j names x).holders j y) ≡ put b j names y
  moved_on y = ap (held_by (put b j names x)) (update_again b.holders j x y)

  module _ (y : ℕ) (s : y ≡ x) where
    -- the path begins at the bench that holds the new job
    holds : holder_of (put b j names x) j ≡ y
    holds = put_holder b w.valid j names x t ∙ sym s

    not_on : (l : List Step) → IsPath (put b j names x) (path_by y l) → RouteIn (put b j names x) path 0 r.jobs r.bench y l → (r.jobs ≡ 0) ⊎ (at path 0 ≢ j) → In j (jobs_of l) → ⊥
    not_on [] h k d i = i
    not_on (q ∷ l) h k (inl e) i = omega (arith, k.count)
    not_on (q ∷ l) h k (inr d) (inl e) = d (route_job k ∙ sym e)
    not_on (q ∷ l) h k (inr d) (inr i) = held_first (put b j names x) y j holds q l h i

    -- the whole path is left
    whole : (l : List Step) → IsPath (put b j names x) (path_by y l) → RouteIn (put b j names x) path 0 r.jobs r.bench y l → (In j (jobs_of l) → ⊥) → Entered b j names path (after_arrival (put b j names x) j x (some (path_by y l))) r x 0
    unfolding flip
    whole l h k f =
        record {
          named = g;
          start = y;
          left = l;
          route = k;
          board = refl;
          held = sym (flip_keeps (put b j names x) v (path_by y l) h j f ∙ put_holder b w.valid j names x t);
          rose = sym k.ends;
          moved = sym (others_all j (jobs_of l) f);
        }

    -- the new job went, the rest is left
    rest : (q : Step) (l : List Step) (h : IsPath (put b j names x) (path_by y (q ∷ l))) → RouteIn (put b j names x) path 0 r.jobs r.bench y (q ∷ l) → q.job ≡ j → Entered b j names path (after_arrival (put b j names x) j x (some (path_by y (q ∷ l)))) r q.to 1
    unfolding flip
    rest q l h k e =
        let c = put b j names x in
        let on : held_by c (update c.holders q.job q.to) ≡ put b j names q.to = ap (λ (i : ℕ). held_by c (update c.holders i q.to)) e ∙ moved_on q.to in
        record {
          named = subst (In q.to) (ap (names_of c) e ∙ new_names b j names x t) (route_named k);
          start = q.to;
          left = l;
          route = subst (λ (d : Board). RouteIn d path 1 r.jobs r.bench q.to l) on (route_rest k v);
          board = sym (ap (λ (d : Board). held_by d (hand_over d.holders l)) on);
          held = sym (flip_gives c v (path_by y (q ∷ l)) h q (inl refl)) ∙ ap (holder_of (flip c (path_by y (q ∷ l)))) e;
          rose = sym k.ends;
          moved = sym (but_first c y j holds q l h e);
        }

    -- the bench that it goes to: the board without it tells the same
    goes_to : {z : ℕ} (q : Step) (l : List Step) → IsPath (put b j names x) (path_by y (q ∷ l)) → RouteIn (put b j names x) path 0 r.jobs r.bench y (q ∷ l) → AfterIn b path 1 r.jobs r.bench z → z ≡ q.to
    goes_to {z} q l h k a = route_after l k (record { next = next; last = a.last })
      where
        next : 1 < r.jobs → z ≡ holder_of (put b j names x) (at path 1)
        next u =
            let there : In (at path 1) (jobs_of l) = subst (λ (i : ℕ). In i (jobs_of l)) (route_at k 1 (omega (arith, k.count))) (in_get_d (jobs_of l) 0 0 (omega (arith, k.count, length-map l (λ (s : Step). s.job)))) in
            a.next u ∙ sym (nth_update_other b.holders j (at path 1) x 0 (λ e. held_first (put b j names x) y j holds q l h (subst (λ (i : ℕ). In i (jobs_of l)) e there)))

    entered_path : (l : List Step) → IsPath (put b j names x) (path_by y l) → RouteIn (put b j names x) path 0 r.jobs r.bench y l → (e : Intake) → EntersAt b j x path r e → Entered b j names path (after_arrival (put b j names x) j x (some (path_by y l))) r e.holder e.place
    entered_path l h k e (inr (d, p, o)) =
        subst₂ (λ (a n : ℕ). Entered b j names path (after_arrival (put b j names x) j x (some (path_by y l))) r a n) (sym o) (sym p) (whole l h k (not_on l h k d))
    entered_path [] h k e (inl (n, i, p, a)) = absurd (n (omega (arith, k.count)))
    entered_path (q ∷ l) h k e (inl (n, i, p, a)) =
        subst₂ (λ (a n : ℕ). Entered b j names path (after_arrival (put b j names x) j x (some (path_by y (q ∷ l)))) r a n) (sym (goes_to q l h k a)) (sym p) (rest q l h k (sym (route_job k) ∙ i))

  entered_by : (o : Option BenchPath) → arrival_choice (put b j names x) x ≡ o → PathFound o (last_of x o) path r → (e : Intake) → EntersAt b j x path r e → Entered b j names path (after_arrival (put b j names x) j x o) r e.holder e.place
  entered_by none q f e (inl (n, i, p, a)) = absurd (n f.count)
  entered_by none q f e (inr (d, p, o)) = subst₂ (λ (a n : ℕ). Entered b j names path (after_arrival (put b j names x) j x none) r a n) (sym o) (sym p) stays
    where
      stays : Entered b j names path (after_arrival (put b j names x) j x none) r x 0
      stays =
          record {
            named = g;
            start = x;
            left = [];
            route = rw f.bench (found_route (put b j names x) x none (λ p i. absurd (true→T false (cc))) f);
            board = refl;
            held = sym (put_holder b w.valid j names x t);
            rose = f.bench;
            moved = refl;
          }
  entered_by (some p) q f e a =
      let only = improving_from_only (put b j names x) x p ((arrival_choice_lem (put b j names x) x p).0 q).listed_is in
      let k = found_route (put b j names x) x (some p) (λ p' i. subst (IsPath (put b j names x)) (cc) only.0) f in
      entered_path p.start only.1 p.route only.0 (rw f.bench k) e a

-- the arrival
pub entered : (b : Board) → Storable b → (j : ℕ) (names : List ℕ) (x : ℕ) → T (within 1 (length b.named) j) → Valid (put b j names x) → In x names → {path : List ℕ} {r : FoundPath} {e : Intake} → ArrivalFound b j names x path r → EntersAt b j x path r e → Entered b j names path (arrive b j names) r e.holder e.place
unfolding arrive
entered b w j names x t v g {path} {r} {e} f a =
    rw (sym f.getter) (entered_by b w j names x t v g path r (arrival_choice (put b j names x) x) refl f.found e a)

-- the table

module _ {t : List ℕ} {s : Size} {j first second x : ℕ} {path : List ℕ} {r : FoundPath} (z : SoundTable t s) (m : MayArrive (decode t) j (first ∷ second ∷ [])) (f : ArrivalFound (decode t) j (first ∷ second ∷ []) x path r) where
  -- the path's jobs are numbers of 1 to J
  pub taking_jobs : (i : ℕ) → JobAt s path i r.jobs
  taking_jobs i u =
      let c = put (decode t) j (first ∷ second ∷ []) x in
      let k = found_route c x (arrival_choice c x) (λ p q. (improving_from_only c x p ((arrival_choice_lem c x p).0 q).listed_is).0) f.found in
      let v = arriving_storable z m (getting_in (decode t).holders first second f.getter) in
      let n = stands_within c (at path i) (route_stands v.valid k i (omega arith) u) in
      let l = length_update (decode t).named j (first ∷ second ∷ []) in
      board_job (at path i) z.size (subst (λ (n : ℕ). T (within 1 n (at path i))) l n)

  module _ {u : List ℕ} (o : TableOf u s (decode t)) where
    -- the job is taken in where the code says ..
    pub taking_entered : {e : Intake} → EntersAt (decode u) j x path r e → Entered (decode t) j (first ∷ second ∷ []) path (arrive (decode t) j (first ∷ second ∷ [])) r e.holder e.place
    taking_entered {e} a =
        let g = getting_in (decode t).holders first second f.getter in
        entered (decode t) z.storable j (first ∷ second ∷ []) x m.number (arriving_storable z m g).valid g f (subst (λ (d : Board). EntersAt d j x path r e) o.board a)

    module _ {d : Change} {holder place : ℕ} (n : Entered (decode t) j (first ∷ second ∷ []) path d r holder place) where
      -- .. a record can hold it ..
      pub taking_fills : Fillable s j (first ∷ second ∷ []) holder
      taking_fills =
          record {
            job = board_job j z.size m.number;
            pair = refl;
            fit = subst (λ (n : ℕ). T (names_fit n (first ∷ second ∷ []))) z.size.board_benches (arriving_fit z m);
            held = in_member holder (first ∷ second ∷ []) n.named;
          }

      module _ {v : List ℕ} (a : TableOf v s (put (decode u) j (first ∷ second ∷ []) holder)) where
        taken_in : decode v ≡ put (decode t) j (first ∷ second ∷ []) holder
        taken_in = a.board ∙ ap (λ (d : Board). put d j (first ∷ second ∷ []) holder) o.board

        -- .. the rest of the path can be handed along ..
        pub taking_route : RouteIn (decode v) path place r.jobs r.bench n.start n.left
        taking_route =
            subst (λ (d : Board). RouteIn d path place r.jobs r.bench n.start n.left) (sym taken_in) n.route

        -- .. and then the table is the arrival's
        pub taking_done : {w : List ℕ} → ((y : ℕ) (l : List Step) → RouteIn (decode v) path place r.jobs r.bench y l → TableOf w s (held_by (decode v) (hand_over (decode v).holders l))) → w ≡ encode d.board
        taking_done h =
            let k = h n.start n.left taking_route in
            k.in_order.bytes ∙ ap encode (k.board ∙ ap (λ (d : Board). held_by d (hand_over d.holders n.left)) taken_in ∙ n.board)

-- the list

module _ {b : Board} {j : ℕ} {names path : List ℕ} {d : Change} {r : FoundPath} {holder place : ℕ} (n : Entered b j names path d r holder place) where
  -- from its place on the path has the jobs that moved ..
  entered_list : take (r.jobs - place) (drop place path) ≡ d.moved
  entered_list = sym n.route.listed ∙ n.moved

  -- .. and so many
  pub entered_number : place + length d.moved ≡ r.jobs
  entered_number = omega (arith, ap length n.moved, length-map n.left (λ (s : Step). s.job), n.route.count)

  -- a list that is too short for them: nothing was written
  pub entered_short : {before after : Lent} {moved : ℕ} → moved ≡ r.jobs - place → length before.list < 2 * moved → after ≡ before → TooShort d before after ListTooShort
  entered_short e h k = record { why = refl; short = omega (arith, entered_number); left = k }

  -- one that is long enough gets them
  pub entered_made : {before after : Lent} {moved : ℕ} → moved ≡ r.jobs - place → 2 * moved ≤ length before.list → after.table ≡ encode d.board → after.list ≡ in_list (take (r.jobs - place) (drop place path)) before.list → MadeAs j d before after (record { holder = holder; bench = r.bench; moved = moved })
  entered_made {before} e h table list =
      record {
        room = omega (arith, entered_number);
        table = table;
        list = list ∙ ap (λ (l : List ℕ). in_list l before.list) entered_list;
        holder = n.held;
        bench = n.rose;
        moved = omega (arith, entered_number);
      }
