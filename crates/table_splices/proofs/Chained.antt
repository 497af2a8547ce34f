-- The chains of a table in order, job j of which is given to bench h: which links are to be written, and that no others change. A table
-- with these links is the table, in order, of the changed board.
use Prim.Native.Nat.{ℕ, ◌≤◌, ◌<◌}
use native.Mathlib.Omega.{arith}
use native.Mathlib.Decide.{ℕ_discrete}
use mathlib.Core.Path.{◌≡◌, refl, sym, ap, subst, ◌∙◌}
use mathlib.Core.Logic.{◌⊎◌, inl, inr, ◌≢◌}
use mathlib.Core.Bool.{not}
use mathlib.Core.List.{List, []}
use lib.Dec.{T}
use lib.ListN.{length, get_or}
use Rattle.spec_lists.specs.Lists.{empty, nth, update}
use Rattle.spec_table.specs.Board.{Board, stands, standing, put}
use Rattle.spec_table.specs.Table.{Entry, Layout, entry_for, decode, Storable}
use Rattle.spec_lists.proofs.Elements.{nth_update_other, length_update}
use Rattle.spec_table.proofs.Splicing.{Lowest, InChain, Before, Linked, links_kept, links_without, links_with, link_in, Recorded, recorded_put, LaidOut, laid_out_layout}
use Rattle.table_words.specs.Bytes.{layout_in}
use Rattle.table_size.specs.Sizes.{SizeOf, JobIn, BenchIn}
use Rattle.table_size.specs.Written.{with_entry}
use Rattle.table_size.specs.declared.Size.{Size}
use Rattle.table_size.proofs.Sizes.{heads_long, entries_long}
use Rattle.table_board.proofs.RecordsAsBoard.{sound_holds_board, holders_long, held_stands}
use Rattle.table_order.specs.InOrder.{InOrder, TableOf}
use Rattle.table_order.proofs.Ordered.{laid_in_order, in_order_laid_out, held_job}
use Rattle.table_splices.specs.Splices.{LastBelow, linked_entries, linked}
use Rattle.table_splices.proofs.Linking.{link_here, link_beside, link_apart, entry_here, entry_there, linked_recorded}

module _ {t : List ℕ} {s : Size} (o : InOrder t s) {j : ℕ} (job : JobIn s j) (h : ℕ) where
  -- the table's layout
  abbrev old : Layout
  old = layout_in t

  -- who holds each job before ..
  abbrev were : List ℕ
  were = (decode t).holders

  -- .. and after
  abbrev are : List ℕ
  are = update were j h

  -- job j has a holder's place
  few : j ≤ length were
  few = omega (arith, job.most, holders_long o.sound.size)

  -- the last job below j that bench x holds is the place before j
  pub gap_before : {x p : ℕ} → BenchIn s x → LastBelow (decode t) s x j p → Before were x j p
  gap_before {x} {p} w l = go (ℕ_discrete p 0)
    where
      last : (i : ℕ) → i < j → nth were i 0 ≡ x → i ≤ p
      last i u e = (l.last i u (held_job o w.least e) e).1

      go : Dec (p ≡ 0) → Before were x j p
      go (yes e) = record { below = omega (arith, job.least); place = inl e; last = last }
      go (no d) = let f = l.found d in record { below = f.0; place = inr f.2; last = last }

  -- it is one after, too
  still : {x p : ℕ} → Before were x j p → InChain are x p
  still {x} {p} b = go b.place
    where
      go : InChain were x p → InChain are x p
      go (inl e) = inl e
      go (inr e) = inr (nth_update_other were j p h 0 (λ q. omega (arith, b.below)) ∙ e)

  -- each link of the table leads to the lowest later job
  chain : {x : ℕ} → BenchIn s x → Linked were x (link_in old x)
  chain {x} w = (in_order_laid_out o).links x w.least (omega (arith, w.most, o.sound.size.board_benches))

  -- the chain of a bench that has j neither before nor after is right where j's record is written anew ..
  pub kept_chain : {x : ℕ} (e : Entry) → BenchIn s x → nth were j 0 ≢ x → h ≢ x → Linked are x (link_in (with_entry old j e) x)
  kept_chain {x} e w d n = links_kept were j h job.least few (chain w) d n (λ i k c. entry_there old j e x i k)

  -- .. and any chain stays right where a link of another bench's is
  pub other_chain : {x y p : ℕ} (m : Layout) (n : ℕ) → x ≢ y → Before were y j p → Linked are x (link_in m x) → Linked are x (link_in (linked m y p n) x)
  other_chain {x} {y} {p} m n d b links i c = rw (link_apart are m y p n x i d (still b) c) (links i c)

  -- bench h's chain is right where j's record tells the job behind it, and the link before it leads to it
  pub put_chain : {p : ℕ} (e : Entry) → BenchIn s h → nth were j 0 ≢ h → Before were h j p → Lowest were h j e.next → Linked are h (link_in (linked (with_entry old j e) h p j) h)
  put_chain {p} e w d b n =
      let m : Layout = with_entry old j e in
      let size = o.sound.size in
      let jobs = entries_long t s size in
      links_with were j h job.least few (chain w) d refl b n
      (link_here m h p j w.least (omega (arith, w.most, heads_long t s size)) (omega (arith, b.below, job.most, length_update old.entries j e)))
      (link_beside m h p j h j (λ q. omega (arith, b.below)) ∙ entry_here old j e h job.least (omega (arith, job.most)))
      (λ i k q c. link_beside m h p j h i k ∙ entry_there old j e h i q)

  -- the chain of the bench that held j is right where the link before j leads to the job behind it
  pub taken_chain : {x p n : ℕ} (m : Layout) → BenchIn s x → nth were j 0 ≡ x → h ≢ x → Before were x j p → n ≡ link_in old x j → length m.heads ≡ s.benches → length m.entries ≡ s.jobs → ((i : ℕ) → i ≢ j → InChain were x i → link_in m x i ≡ link_in old x i) → Linked are x (link_in (linked m x p n) x)
  taken_chain {x} {p} {n} m w e d b q heads entries same =
      links_without were j h job.least few (chain w) e d b
      (link_here m x p n w.least (omega (arith, w.most)) (omega (arith, b.below, job.most)) ∙ q)
      (λ i k u c. link_beside m x p n x i k ∙ same i u c)

  module _ (names : List ℕ) (k : Storable (put (decode t) j names h)) where
    -- the board after
    abbrev new : Board
    new = put (decode t) j names h

    -- a table with its records and its links is its table in order
    pub spliced : {u : List ℕ} → SizeOf u s → ((i : ℕ) → get_or u i 0 < 256) → (m : Layout) → layout_in u ≡ m → m.standing ≡ standing new → m.spare ≡ 0 → Recorded m.entries new → ((x : ℕ) → BenchIn s x → Linked are x (link_in m x)) → TableOf u s new
    spliced {u} z bytes m e n spare records links =
        let size = o.sound.size in
        let long : length new.named ≡ s.jobs = length_update (decode t).named j names ∙ size.board_jobs in
        let laid : LaidOut m new =
        record {
          benches = ap (λ (a : Layout). a.benches) (sym e) ∙ z.benches ∙ sym size.board_benches;
          jobs = ap (λ (a : Layout). a.jobs) (sym e) ∙ z.jobs ∙ sym long;
          standing = n;
          spare = spare;
          heads = ap (λ (a : Layout). length a.heads) (sym e) ∙ heads_long u s z ∙ sym size.board_benches;
          entries = ap (λ (a : Layout). length a.entries) (sym e) ∙ entries_long u s z ∙ sym long;
          records = records;
          links = λ x low high. links x (record { least = low; most = omega (arith, size.board_benches) });
        } in
        laid_in_order z k bytes (e ∙ laid_out_layout new k.valid laid)

    -- the records are its where j's is written anew ..
    pub written : (n : ℕ) → Recorded (update old.entries j (entry_for names h n)) new
    written n =
        let laid = in_order_laid_out o in
        recorded_put _ _ o.sound.storable.valid laid.entries laid.records j names h n job.least (omega (arith, job.most, entries_long t s o.sound.size))

    -- .. and then the link before j in a bench's chain
    pub relinked : (es : List Entry) {x p : ℕ} → length es ≡ s.jobs → Recorded es new → BenchIn s x → Before were x j p → (n : ℕ) → Recorded (linked_entries es p n) new
    relinked es {x} {p} long r w b n =
        linked_recorded es _ k.valid (long ∙ sym (length_update (decode t).named j names ∙ o.sound.size.board_jobs)) r p n (go b.place)
      where
        go : InChain were x p → (p ≡ 0) ⊎ T (stands new p)
        go (inl e) = inl e
        go (inr e) =
            let l = held_stands t s p (sound_holds_board t s o.sound) (λ z. omega (arith, w.least, e)) in
            inr (subst (λ (a : List ℕ). T (not (empty a))) (sym (nth_update_other (decode t).named j p names [] (λ q. omega (arith, b.below)))) l)
