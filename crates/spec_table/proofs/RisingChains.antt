-- 02, request 02: the table of a board has all its chains rising, and a sound table with all its chains rising is the table of
-- its board: "No order is left free: benches, jobs and holders fix every byte".
use Prim.Native.Nat.{ℕ, zero, suc, ◌≤◌, ◌<◌}
use native.Mathlib.Omega.{arith}
use mathlib.Core.Path.{◌≡◌, refl, sym, ap, subst, ◌∙◌}
use mathlib.Core.Logic.{◌⊎◌, inl, inr, ◌↔◌}
use mathlib.Core.Bool.{false≢true}
use mathlib.Core.List.{List, [], map}
use lib.Dec.{T}
use lib.ListN.{length, get_or}
use lib.Seq.{ext_get_or}
use Rattle.spec_lists.specs.Lists.{range, rises, In, nth}
use Rattle.spec_table.specs.Board.{Board, names_of, jobs_held}
use Rattle.spec_table.specs.Table.{words, bytes_of, Entry, vacant, filled, holder_in, Layout, layout, follow, chains, sound, board_of, decode, position_of, flat, encode, Storable, all_rise, SameSharing}
use Rattle.spec_lists.proofs.Elements.{all_in, in_all, in_get_d, in_nth, nth_map, map_in}
use Rattle.spec_lists.proofs.NumberLists.{values_same}
use Rattle.spec_lists.proofs.RisingLists.{rises_same}
use Rattle.spec_table.proofs.Held.{held_rises}
use Rattle.spec_table.proofs.Words.{layout_encode}
use Rattle.spec_table.proofs.Places.{fits_heads, fits_entries, layout_bytes}
use Rattle.spec_table.proofs.Clauses.{sound_fits}
use Rattle.spec_table.proofs.Sound.{sound_storable, fits_chains, chain_few, on_chain, holder_within, holder_place, holder_record, names_record, stands_record, Standing, stored_record}
use Rattle.spec_table.proofs.ChainEnds.{after}
use Rattle.spec_table.proofs.Layouts.{chains_layout_of}
use Rattle.spec_table.proofs.Encode.{encode_sound, decode_encode, same_bytes}
use Rattle.spec_table.proofs.AnyOrder.{chain_count, same_filled, same_holder, same_benches, same_jobs, sound_reordered}

-- the table of a board has all its chains rising
pub encode_rises : (b : Board) → Storable b → T (all_rise (encode b))
unfolding all_rise
encode_rises b s = rw (layout_encode b s, chains_layout_of b s.valid) (in_all rises (map held (range 1 b.benches)) each)
  where
    held : ℕ → List ℕ
    held x = jobs_held 1 x b.holders

    each : (c : List ℕ) → In c (map held (range 1 b.benches)) → T (rises c)
    each c i = let m = map_in held c (range 1 b.benches) i in rw m.2 (held_rises m.0 b.holders)

-- chains that list the same jobs begin with the same job, and the same job comes after each of them
follow_same : (es fs : List Entry) (k h g : ℕ) → length (follow es k h) < k → follow es k h ≡ follow fs k g →
    (h ≡ g) × ((j : ℕ) → In j (follow es k h) → after es j ≡ after fs j)
follow_same es fs zero h g l e = absurd (omega arith)
follow_same es fs (suc k) zero zero l e = (refl, λ j i. absurd i)
follow_same es fs (suc k) zero (suc m) l e = absurd (omega (arith, ap length e))
follow_same es fs (suc k) (suc i) zero l e = absurd (omega (arith, ap length e))
follow_same es fs (suc k) (suc i) (suc m) l e =
    let first : suc i ≡ suc m = cc in
    let tail : follow es k (after es (suc i)) ≡ follow fs k (after fs (suc m)) = cc in
    let later = follow_same es fs k (after es (suc i)) (after fs (suc m)) (omega arith) tail in
    (first, each first later)
  where
    each : suc i ≡ suc m → (after es (suc i) ≡ after fs (suc m)) × ((j : ℕ) → In j (follow es k (after es (suc i))) → after es j ≡ after fs j) →
        (j : ℕ) → In j (follow es (suc k) (suc i)) → after es j ≡ after fs j
    each first later j (inl q) = ap (after es) q ∙ later.0 ∙ ap (after fs) (sym first ∙ sym q)
    each first later j (inr o) = later.1 j o

-- two sound tables of one board with the same chains have the same layout
module _ (t u : List ℕ) (s : T (sound t)) (r : T (sound u)) (e : decode u ≡ decode t) (c : chains (layout (words u)) ≡ chains (layout (words t))) where
  abbrev l : Layout
  l = layout (words t)

  abbrev m : Layout
  m = layout (words u)

  -- so the chain of bench x begins and goes on alike
  links_same : (x : ℕ) → 1 ≤ x → x ≤ l.benches →
      (nth m.heads x 0 ≡ nth l.heads x 0) × ((j : ℕ) → In j (nth (chains m) x []) → after m.entries j ≡ after l.entries j)
  links_same x low high =
      let on : (n : Layout) → nth (chains n) x [] ≡ follow n.entries (suc n.jobs) (nth n.heads x 0) = λ n. nth_map (follow n.entries (suc n.jobs)) n.heads x 0 in
      let few = chain_few u r (nth (chains m) x []) (in_nth (chains m) x [] low (omega (arith, fits_chains u (sound_fits u r), same_benches t u s r e))) in
      let here = follow_same m.entries l.entries (suc m.jobs) (nth m.heads x 0) (nth l.heads x 0) in
      let same = sym (on m) ∙ ap (λ cs. nth cs x []) c ∙ on l ∙ ap (λ n. follow l.entries (suc n) (nth l.heads x 0)) (sym (same_jobs t u s r e)) in
      rw (on m) (here (omega (arith, ap length (on m), few)) same)

  heads_same : m.heads ≡ l.heads
  heads_same =
      ext_get_or 0 m.heads l.heads (fits_heads u (sound_fits u r) ∙ same_benches t u s r e ∙ sym (fits_heads t (sound_fits t s)))
      (λ i h. (links_same (suc i) (omega arith) (omega (arith, fits_heads u (sound_fits u r), same_benches t u s r e))).0)

  -- a standing job's record has the same benches, holder and next job
  standing_same : (j : ℕ) → Standing m.benches (nth m.entries j vacant) → Standing l.benches (nth l.entries j vacant) →
      nth m.entries j vacant ≡ nth l.entries j vacant
  unfolding decode board_of
  standing_same j p q =
      let a = nth m.entries j vacant in
      let b = nth l.entries j vacant in
      let names : a.names ≡ b.names = sym (rw p.is_filled at (names_record u j)) ∙ ap (λ (n : Board). names_of n j) e ∙ rw q.is_filled at (names_record t j) in
      let held : holder_in a ≡ holder_in b = same_holder t u e j in
      let holder : a.holder ≡ b.holder = holder_place m.benches a p.benches_two ∙ (λ i. position_of (held i) (names i)) ∙ sym (holder_place l.benches b q.benches_two) in
      let x = holder_in a in
      let bench = holder_within m.benches a p.benches_two in
      let on : In j (nth (chains m) x []) = (on_chain u r j x bench.0 bench.1).1 (subst T (sym (stands_record u j ∙ p.is_filled)) tt, holder_record u j) in
      let next : a.next ≡ b.next = (links_same x bench.0 (omega (arith, bench.1, same_benches t u s r e))).1 j on in
      λ i. record { names = names i; holder = holder i; next = next i }

  record_same : (j : ℕ) → nth m.entries j vacant ≡ nth l.entries j vacant
  record_same j = go (stored_record u (sound_storable u r).valid j) (stored_record t (sound_storable t s).valid j)
    where
      go : (nth m.entries j vacant ≡ vacant) ⊎ Standing m.benches (nth m.entries j vacant) →
          (nth l.entries j vacant ≡ vacant) ⊎ Standing l.benches (nth l.entries j vacant) →
          nth m.entries j vacant ≡ nth l.entries j vacant
      go (inl p) (inl q) = p ∙ sym q
      go (inl p) (inr q) = absurd (false≢true (sym (ap filled p) ∙ same_filled t u e j ∙ q.is_filled))
      go (inr p) (inl q) = absurd (false≢true (sym (ap filled q) ∙ sym (same_filled t u e j) ∙ p.is_filled))
      go (inr p) (inr q) = standing_same j p q

  entries_same : m.entries ≡ l.entries
  entries_same =
      ext_get_or vacant m.entries l.entries (fits_entries u (sound_fits u r) ∙ same_jobs t u s r e ∙ sym (fits_entries t (sound_fits t s)))
      (λ i h. record_same (suc i))

  layout_same : m ≡ l
  unfolding layout
  layout_same =
      let h = (sound_reordered t u s r e).header in
      λ i. record { benches = h 0 (omega arith) i; jobs = h 1 (omega arith) i; standing = h 2 (omega arith) i; spare = h 3 (omega arith) i; heads = heads_same i; entries = entries_same i }

-- where a sound table's chains rise, each is the rising list of the jobs that its bench holds
rising_chains : (t : List ℕ) → T (sound t) → T (all_rise t) →
    chains (layout (words t)) ≡ map (λ x. jobs_held 1 x (decode t).holders) (range 1 (decode t).benches)
unfolding all_rise decode board_of
rising_chains t s a = values_same held 1 b.benches cs [] long (λ k h. here k h ∙ ap held (omega arith))
  where
    b : Board
    b = decode t

    held : ℕ → List ℕ
    held x = jobs_held 1 x b.holders

    cs : List (List ℕ)
    cs = chains (layout (words t))

    long : length cs ≡ b.benches
    long = fits_chains t (sound_fits t s)

    here : (k : ℕ) → k < b.benches → get_or cs k [] ≡ held (suc k)
    here k h =
        let c = get_or cs k [] in
        rises_same c (held (suc k)) (all_in rises c cs a (in_get_d cs k [] (omega (arith, long)))) (held_rises (suc k) b.holders) (λ j. chain_count t s (suc k) j (omega arith) h)

-- a sound table has all its chains rising exactly if it is the table of its board: benches, jobs and holders fix every byte
pub rising_encoded : (t : List ℕ) → ((i : ℕ) → get_or t i 0 < 256) → T (sound t) → T (all_rise t) ↔ (t ≡ encode (decode t))
unfolding encode
rising_encoded t bytes s = (forth, λ e. subst (λ u. T (all_rise u)) (sym e) (encode_rises b st))
  where
    b : Board
    b = decode t

    st : Storable b
    st = sound_storable t s

    forth : T (all_rise t) → t ≡ encode b
    forth a =
        let cs = rising_chains t s a ∙ sym (chains_layout_of b st.valid) ∙ ap chains (sym (layout_encode b st)) in
        let l = layout_same (encode b) t (encode_sound b st) s (sym (decode_encode b st)) cs ∙ layout_encode b st in
        layout_bytes t (sound_fits t s) bytes ∙ ap (λ (m : Layout). bytes_of (flat m)) l

-- so two of them that hold the same sharing are the same bytes: stored copies can be matched
pub rising_same : (t u : List ℕ) → ((i : ℕ) → get_or t i 0 < 256) → ((i : ℕ) → get_or u i 0 < 256) → T (sound t) → T (sound u) → T (all_rise t) →
    T (all_rise u) → SameSharing t u → t ≡ u
rising_same t u bt bu s r a c e = (rising_encoded t bt s).0 a ∙ same_bytes t u e ∙ sym ((rising_encoded u bu r).0 c)
