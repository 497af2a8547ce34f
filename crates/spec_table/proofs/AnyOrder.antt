-- Chains in any order: on a sound table each has the jobs that its bench holds, and in another order the table is sound, too.
use Prim.Native.Nat.{ℕ, zero, suc, ◌≤◌, ◌<◌}
use native.Mathlib.Omega.{arith}
use native.Mathlib.Decide.{dec_le}
use mathlib.Core.Path.{◌≡◌, refl, sym, ap, subst, ◌∙◌}
use mathlib.Core.List.{List, []}
use lib.Dec.{T, eqb}
use lib.ListN.{length, get_or, length-map, get_or-eq_default}
use Rattle.spec_lists.specs.Lists.{bit, within, count, Each, In, nth, enumerate}
use Rattle.spec_table.specs.Board.{Board, holder_of, stands, standing, load, jobs_held, Valid}
use Rattle.spec_table.specs.Table.{words, Entry, vacant, filled, holder_in, Layout, layout, chains, entry_fits, placed, fits, sound, board_of, decode, encode, bench_chain, Reordered}
use Rattle.spec_lists.proofs.Tests.{T→true, eqb_T}
use Rattle.spec_lists.proofs.Elements.{in_all, in_nth, in_enumerate, enumerate_nth}
use Rattle.spec_lists.proofs.Counting.{count_some, counted_in, total_same, total_count}
use Rattle.spec_table.proofs.Held.{held_length, held_within, held_once}
use Rattle.spec_table.proofs.Places.{fits_length, fits_entries}
use Rattle.spec_table.proofs.Clauses.{filled_each, sound_fits, sound_formed, sound_exact}
use Rattle.spec_table.proofs.Sound.{sound_storable, standing_count, standing_word, count_placed, fits_chains, chain_holds, holder_record, stands_record, stored_fits}
use Rattle.spec_table.proofs.Encode.{encode_sound, decode_encode, same_board}

-- on the chain of bench x are the jobs that x holds, each once, in whatever order
pub chain_count : (t : List ℕ) → T (sound t) → (x j : ℕ) → 1 ≤ x → x ≤ (layout (words t)).benches →
    count j (bench_chain t x) ≡ count j (jobs_held 1 x (decode t).holders)
chain_count t s x j low high =
    chain_holds t s j x low high ∙ ap (λ y. bit (eqb y x)) (sym (holder_record t j)) ∙ sym (held_once j x (decode t).holders low)

-- so a bench's chain is as long as its load
pub chain_load : (t : List ℕ) → T (sound t) → (x : ℕ) → 1 ≤ x → x ≤ (layout (words t)).benches →
    length (bench_chain t x) ≡ load (decode t).holders x
unfolding decode board_of
chain_load t s x low high =
    let es = (layout (words t)).entries in
    let c = bench_chain t x in
    let held = jobs_held 1 x (decode t).holders in
    let there : In c (chains (layout (words t))) = in_nth (chains (layout (words t))) x [] low (omega (arith, fits_chains t (sound_fits t s))) in
    let jobs : Each (λ j. T (within 1 (length es) j)) held = rw (← length-map es holder_in) (held_within x (decode t).holders low) in
    sym (total_count (length es) c (filled_each es c ((sound_formed t s).only c there)))
    ∙ total_same (length es) (λ j. count j c) (λ j. count j held) (λ j _ _. chain_count t s x j low high)
    ∙ total_count (length es) held jobs
    ∙ held_length 1 x (decode t).holders

-- two tables of one board: the same jobs stand ..
pub same_filled : (t u : List ℕ) → decode u ≡ decode t → (j : ℕ) →
    filled (nth (layout (words u)).entries j vacant) ≡ filled (nth (layout (words t)).entries j vacant)
same_filled t u e j = sym (stands_record u j) ∙ ap (λ (b : Board). stands b j) e ∙ stands_record t j

-- .. with the same holders
pub same_holder : (t u : List ℕ) → decode u ≡ decode t → (j : ℕ) →
    holder_in (nth (layout (words u)).entries j vacant) ≡ holder_in (nth (layout (words t)).entries j vacant)
same_holder t u e j = sym (holder_record u j) ∙ ap (λ (b : Board). holder_of b j) e ∙ holder_record t j

-- if both are sound: the same sizes, header and jobs on each chain ..
module _ (t u : List ℕ) (s : T (sound t)) (r : T (sound u)) (e : decode u ≡ decode t) where
  pub same_benches : (layout (words u)).benches ≡ (layout (words t)).benches
  unfolding decode board_of
  same_benches = ap (λ (b : Board). b.benches) e

  pub same_jobs : (layout (words u)).jobs ≡ (layout (words t)).jobs
  unfolding decode board_of
  same_jobs =
      let m = layout (words u) in
      let l = layout (words t) in
      sym (fits_entries u (sound_fits u r))
      ∙ sym (length-map m.entries holder_in)
      ∙ ap (λ (b : Board). length b.holders) e
      ∙ length-map l.entries holder_in
      ∙ fits_entries t (sound_fits t s)

  same_long : length u ≡ length t
  same_long = omega (arith, fits_length u (sound_fits u r), fits_length t (sound_fits t s), same_benches, same_jobs)

  same_header : (i : ℕ) → i < 4 → get_or (words u) i 0 ≡ get_or (words t) i 0
  unfolding layout
  same_header zero h = same_benches
  same_header (suc zero) h = same_jobs
  same_header (suc (suc zero)) h = standing_word u r ∙ ap standing e ∙ sym (standing_word t s)
  same_header (suc (suc (suc zero))) h = (sound_formed u r).spare ∙ sym (sound_formed t s).spare
  same_header (suc (suc (suc (suc i)))) h = absurd (omega arith)

  same_on : (x j : ℕ) → count j (bench_chain u x) ≡ count j (bench_chain t x)
  same_on zero j = refl
  same_on (suc i) j = go (dec_le (suc i) (layout (words t)).benches)
    where
      none : (v : List ℕ) → T (sound v) → (layout (words v)).benches ≤ i → get_or (chains (layout (words v))) i [] ≡ []
      none v q h = get_or-eq_default (chains (layout (words v))) [] (omega (arith, fits_chains v (sound_fits v q)))

      go : Dec (suc i ≤ (layout (words t)).benches) → count j (bench_chain u (suc i)) ≡ count j (bench_chain t (suc i))
      go (yes h) =
          chain_count u r (suc i) j (omega arith) (omega (arith, same_benches))
          ∙ ap (λ (b : Board). count j (jobs_held 1 (suc i) b.holders)) e
          ∙ sym (chain_count t s (suc i) j (omega arith) h)
      go (no h) = ap (count j) (none u r (omega (arith, same_benches)) ∙ sym (none t s (omega arith)))

  -- .. so they are one table in two orders
  pub sound_reordered : Reordered t u
  sound_reordered =
      record {
        long = same_long;
        header = same_header;
        sharing = record { benches = ap (λ (b : Board). b.benches) e; jobs = ap (λ (b : Board). b.named) e; holders = ap (λ (b : Board). b.holders) e };
        on_chains = same_on;
      }

-- so is its encoding, every chain rising
pub encoded_reordered : (t : List ℕ) → T (sound t) → Reordered t (encode (decode t))
encoded_reordered t s =
    let st = sound_storable t s in
    sound_reordered t (encode (decode t)) s (encode_sound (decode t) st) (decode_encode (decode t) st)

-- 02: "Stored tables in another order are still sound"
module _ (t u : List ℕ) (s : T (sound t)) (r : Reordered t u) where
  abbrev l : Layout
  l = layout (words t)

  abbrev m : Layout
  m = layout (words u)

  board : decode u ≡ decode t
  board = same_board u t r.sharing

  fits_too : T (fits u)
  unfolding fits
  fits_too = rw (r.long, r.header 0 (omega arith), r.header 1 (omega arith)) (sound_fits t s)

  chains_too : length (chains m) ≡ length (chains l)
  unfolding layout
  chains_too = fits_chains u fits_too ∙ r.header 0 (omega arith) ∙ sym (fits_chains t (sound_fits t s))

  entry_too : (e : Entry) → In e m.entries → T (filled e) → T (entry_fits m.benches e)
  entry_too e i f =
      let n = in_enumerate 1 e m.entries i in
      let p = enumerate_nth (n.0, e) m.entries vacant n.1 in
      let v = subst Valid (sym board) (sound_storable t s).valid in
      rw p.2 (stored_fits u v n.0 (rw p.2 at (T→true (filled e) f)))

  place_too : (j : ℕ) → T (filled (nth m.entries j vacant)) → T (placed (chains m) j (holder_in (nth m.entries j vacant)))
  place_too j f =
      let h = holder_in (nth m.entries j vacant) in
      let p = (sound_formed t s).place j (subst T (same_filled t u board j) f) in
      let here : (c : ℕ × List ℕ) → In c (enumerate 1 (chains m)) → count j c.1 ≡ bit (eqb c.0 h) =
      λ c i. let n = enumerate_nth c (chains m) [] i in
      ap (count j) n.2
      ∙ r.on_chains c.0 j
      ∙ count_placed (chains l) j (holder_in (nth l.entries j vacant)) c.0 p n.0 (omega (arith, n.1, chains_too))
      ∙ ap (λ y. bit (eqb c.0 y)) (sym (same_holder t u board j)) in
      in_all (λ c. eqb (count j c.1) (bit (eqb c.0 h))) (enumerate 1 (chains m)) (λ c i. eqb_T (count j c.1) (bit (eqb c.0 h)) (here c i))

  only_too : (c : List ℕ) → In c (chains m) → (j : ℕ) → In j c → T (filled (nth m.entries j vacant))
  only_too c i j k =
      let q = in_enumerate 1 c (chains m) i in
      let n = enumerate_nth (q.0, c) (chains m) [] q.1 in
      let d = nth (chains l) q.0 [] in
      let there : In j d = counted_in j d (omega (arith, count_some j c k, ap (count j) n.2, r.on_chains q.0 j)) in
      subst T (sym (same_filled t u board j)) ((sound_formed t s).only d (in_nth (chains l) q.0 [] n.0 (omega (arith, n.1, chains_too))) j there)

  pub reordered_sound : T (sound u)
  unfolding layout
  reordered_sound =
      (sound_exact u).1 (
        fits_too,
        record {
          entry = entry_too;
          place = place_too;
          only = only_too;
          standing = r.header 2 (omega arith) ∙ standing_word t s ∙ ap standing (sym board) ∙ sym (standing_count u);
          spare = r.header 3 (omega arith) ∙ (sound_formed t s).spare;
        },
      )
