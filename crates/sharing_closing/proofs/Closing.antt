-- A closing: the board without the job, its steps and its loads, and what is left once the path is handed along.
use Prim.Native.Nat.{ℕ, ◌+◌, ◌-◌, ◌*◌, ◌≤◌, ◌<◌}
use native.Mathlib.Omega.{arith}
use mathlib.Core.Path.{◌≡◌, refl, sym, ap, subst, subst₂, ◌∙◌}
use mathlib.Core.Logic.{◌≢◌}
use mathlib.Core.List.{List, []}
use mathlib.Core.Option.{Option, none, some}
use lib.Dec.{T, eqb}
use lib.ListN.{length, set, take, length-set}
use Rattle.spec_lists.specs.Lists.{bit, greatest, In, update}
use Rattle.spec_table.specs.Board.{Board, Valid, names_of, holder_of, stands, put, load, held_by}
use Rattle.spec_table.specs.Table.{in_list, most_benches, decode, encode, Storable}
use Rattle.spec_sharing.specs.Paths.{Step, BenchPath, steps, hand_over, flip}
use Rattle.spec_sharing.specs.Sharing.{closing_choice, after_closing, close}
use Rattle.spec_lists.proofs.Elements.{length_update}
use Rattle.spec_lists.proofs.Counting.{bit_same, bit_other, greatest_above, greatest_most}
use Rattle.spec_lists.proofs.Raising.{get_d_lowered}
use Rattle.spec_table.proofs.Named.{stands_within, holder_bench}
use Rattle.spec_sharing.proofs.Paths.{step_is, improving_to_only}
use Rattle.spec_sharing.proofs.Choice.{closing_choice_lem}
use Rattle.spec_sharing.proofs.Changes.{taken_names, closed_holder}
use Rattle.table_size.specs.Sizes.{BenchIn, JobIn, SoundTable}
use Rattle.table_size.specs.declared.Size.{Size}
use Rattle.table_size.proofs.Sizes.{board_job, board_bench}
use Rattle.table_board.specs.BoardView.{HolderOf, Loaded}
use Rattle.table_board.proofs.RecordsAsBoard.{sound_holds_board, put_storable}
use Rattle.table_order.specs.InOrder.{TableOf}
use Rattle.table_refusals.specs.declared.Refusal.TheVariants.{ListTooShort}
use Rattle.sharing_effects.specs.Effects.{Lent, TooShort, MadeAs}
use Rattle.graph_lists.specs.Arrays.{at, LoadsIn}
use Rattle.sharing_steps.proofs.AsSteps.{loads_in}
use Rattle.sharing_paths.specs.FoundPaths.{jobs_in, last_of, start_of, PathFound, RouteIn}
use Rattle.sharing_paths.specs.declared.FoundPath.{FoundPath}
use Rattle.sharing_paths.proofs.HandingAlong.{route_of, found_route}
use Rattle.sharing_paths_to.specs.ClosingSearch.{WithoutJob}
use Rattle.sharing_closing.specs.ClosingResult.{ClosingFound}
use Rattle.sharing_steps.proofs.JobWritten.{step_same, written_load}

-- one job less at bench x
abbrev pub lowered : List ℕ → ℕ → List ℕ
lowered loads x = set loads x (at loads x - 1)

-- the board without the job: but for its holder, every bench leads along the same steps
without_job : (b : Board) (s : Size) (j : ℕ) → Storable b → T (stands b j) → b.benches ≡ s.benches → length b.named ≡ s.jobs → WithoutJob b (put b j [] 0) s (holder_of b j)
without_job b s j w p e l =
    record {
      storable = v;
      benches = e;
      jobs = length_update b.named j [] ∙ l;
      elsewhere = λ z d q.
          (λ i. (step_same b w j [] 0 v.valid z q (gone z q i)).0 i, λ i. (step_same b w j [] 0 v.valid z q (λ f. d (sym (step_is b z q i).0 ∙ ap (holder_of b) f))).1 i);
    }
  where
    v : Storable (put b j [] 0)
    v = put_storable b w j [] 0 tt tt tt

    -- the job is no step any more
    gone : (z : ℕ) (q : Step) → In q (steps (put b j [] 0) z) → q.job ≢ j
    gone z q i f = subst (In q.to) (ap (names_of (put b j [] 0)) f ∙ taken_names b j p) (step_is (put b j [] 0) z q i).1

module _ {t : List ℕ} {s : Size} {j : ℕ} (z : SoundTable t s) (p : T (stands (decode t) j)) where
  -- a job that stands has a number of 1 to J ..
  pub closing_job : JobIn s j
  closing_job = board_job j z.size (stands_within (decode t) j p)

  module _ {x : ℕ} (e : HolderOf t s j x) where
    -- .. its holder is a bench of 1 to B ..
    pub closing_bench : BenchIn s x
    closing_bench =
        rw e.value (board_bench (holder_of (decode t) j) z.size (holder_bench (decode t) z.storable.valid j p))

    -- .. for which there is a load ..
    pub closing_small : x ≤ most_benches
    closing_small = omega (arith, closing_bench.most, z.size.limits.benches_most)

    -- .. and all others lead along the same steps without the job
    pub closing_without : WithoutJob (decode t) (put (decode t) j [] 0) s x
    closing_without =
        rw e.value (without_job (decode t) s j z.storable p z.size.board_benches z.size.board_jobs)

    -- its load falls by one without the job ..
    less : (i : ℕ) → 1 ≤ i → load (update (decode t).holders j 0) i + bit (eqb x i) ≡ load (decode t).holders i
    less i low =
        omega (arith, written_load (decode t) z.storable j (stands_within (decode t) j p) 0 i, bit_other 0 i (λ d. omega arith), ap (λ (n : ℕ). bit (eqb n i)) e.value)

    module _ {loads : List ℕ} (l : Loaded (decode t) loads) where
      -- .. from one or more, ..
      pub closing_some : 1 ≤ at loads x
      closing_some =
          omega (arith, l.bench x closing_bench.least closing_small, less x closing_bench.least, bit_same x x refl)

      lowered_at : (i : ℕ) → at (lowered loads x) i + bit (eqb x i) ≡ at loads i
      lowered_at i = get_d_lowered loads x i (omega (arith, l.long, closing_small)) closing_some

      -- .. and so do the loads there ..
      pub closing_loads : Loaded (put (decode t) j [] 0) (lowered loads x)
      closing_loads =
          record { long = length-set loads x _ ∙ l.long; bench = λ i low high. omega (arith, lowered_at i, l.bench i low high, less i low) }

      -- .. which are loads of the size, ..
      pub closing_loads_in : LoadsIn s (lowered loads x)
      closing_loads_in =
          let before = loads_in (sound_holds_board t s z) l in
          record {
            most = λ i low. omega (arith, lowered_at i, before.most i low);
            beyond = λ i high. omega (arith, lowered_at i, before.beyond i high);
            long = closing_loads.long;
          }

      -- .. and none is above the heaviest before
      pub closing_top : {n : ℕ} → n ≡ greatest s.benches (at loads) → greatest s.benches (at (lowered loads x)) ≤ n
      closing_top {n} g =
          greatest_most s.benches (at (lowered loads x)) n (λ i low high. omega (arith, lowered_at i, greatest_above s.benches (at loads) i low high))

      -- so what a search finds on this board is the closing's path
      pub closing_found : {path : List ℕ} {r : FoundPath} → ((c : Board) → WithoutJob (decode t) c s x → Loaded c (lowered loads x) → PathFound (closing_choice c x) (start_of x (closing_choice c x)) path r) → ClosingFound (decode t) j path r
      closing_found {path} {r} f =
          let c = put (decode t) j [] 0 in
          record { found = subst (λ (y : ℕ). PathFound (closing_choice c y) (start_of y (closing_choice c y)) path r) e.value (f c closing_without closing_loads) }

-- the path is handed along

-- a path that the rule chooses ends at x
ends_at : (c : Board) (x : ℕ) (o : Option BenchPath) → closing_choice c x ≡ o → last_of x o ≡ x
ends_at c x none q = refl
ends_at c x (some p) q = (improving_to_only c x p ((closing_choice_lem c x p).0 q).listed_is).2

-- the closing's board is that of the path handed over
closed_board : (c : Board) (x : ℕ) (o : Option BenchPath) → held_by c (hand_over c.holders (route_of o)) ≡ (after_closing c x o).board
unfolding flip
closed_board c x none = refl
closed_board c x (some p) = refl

-- the bench whose load falls and the jobs that move are the path's
closed_path : (c : Board) (x : ℕ) (o : Option BenchPath) → (start_of x o ≡ (after_closing c x o).bench) × (jobs_in o ≡ (after_closing c x o).moved)
closed_path c x none = (refl, refl)
closed_path c x (some p) = (refl, refl)

module _ {b : Board} {s : Size} {j x : ℕ} {path : List ℕ} {r : FoundPath} (f : ClosingFound b j path r) {u : List ℕ} (o : TableOf u s b) (e : HolderOf u s j x) {v : List ℕ} (a : TableOf v s (put (decode u) j [] 0)) where
  removed : decode v ≡ put b j [] 0
  removed = a.board ∙ ap (λ (d : Board). put d j [] 0) o.board

  -- the path can be handed along ..
  pub closing_route : let d = closing_choice (put b j [] 0) (holder_of b j) in RouteIn (decode v) path 0 r.jobs x (start_of (holder_of b j) d) (route_of d)
  closing_route =
      let c = put b j [] 0 in
      let y = holder_of b j in
      let d = closing_choice c y in
      let end = ends_at c y d refl ∙ sym (e.value ∙ ap (λ (d : Board). holder_of d j) o.board) in
      let k = found_route c y d (λ p q. (improving_to_only c y p ((closing_choice_lem c y p).0 q).listed_is).0) f.found in
      subst₂ (λ (l : Board) (n : ℕ). RouteIn l path 0 r.jobs n (start_of y d) (route_of d)) (sym removed) end k

  -- .. and then the table is the closing's
  pub closing_done : {w : List ℕ} → ((y : ℕ) (l : List Step) → RouteIn (decode v) path 0 r.jobs x y l → TableOf w s (held_by (decode v) (hand_over (decode v).holders l))) → w ≡ encode (close b j).board
  unfolding close
  closing_done {w} h =
      let c = put b j [] 0 in
      let y = holder_of b j in
      let d = closing_choice c y in
      let k = h (start_of y d) (route_of d) closing_route in
      k.in_order.bytes ∙ ap encode (k.board ∙ ap (λ (l : Board). held_by l (hand_over l.holders (route_of d))) removed ∙ closed_board c y d)

-- the list

module _ {b : Board} {j : ℕ} {path : List ℕ} {r : FoundPath} (f : ClosingFound b j path r) where
  is_path : let x = holder_of b j in let o = closing_choice (put b j [] 0) x in (start_of x o ≡ (close b j).bench) × (jobs_in o ≡ (close b j).moved)
  unfolding close
  is_path = let x = holder_of b j in let c = put b j [] 0 in closed_path c x (closing_choice c x)

  -- so many jobs move as were found
  number : r.jobs ≡ length (close b j).moved
  number = f.found.count ∙ ap length is_path.1

  -- a list that is too short for them: nothing was written
  pub closing_short : {before after : Lent} → length before.list < 2 * r.jobs → after ≡ before → TooShort (close b j) before after ListTooShort
  closing_short h k = record { why = refl; short = omega (arith, number); left = k }

  -- one that is long enough gets them
  pub closing_made : {before after : Lent} → Valid b → T (stands b j) → 2 * r.jobs ≤ length before.list → after.table ≡ encode (close b j).board → after.list ≡ in_list (take r.jobs path) before.list → MadeAs j (close b j) before after (record { holder = 0; bench = r.bench; moved = r.jobs })
  closing_made {before} v p h table list =
      record {
        room = omega (arith, number);
        table = table;
        list = list ∙ ap (λ (l : List ℕ). in_list l before.list) (f.found.listed ∙ is_path.1);
        holder = sym (closed_holder b v j p);
        bench = f.found.bench ∙ is_path.0;
        moved = number;
      }
