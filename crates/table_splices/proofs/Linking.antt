-- A link written anew leads to the job that was written. Every other link, and every record but for its next job, is as it was.
use Prim.Native.Nat.{ℕ, zero, suc, ◌≤◌}
use native.Mathlib.Omega.{arith}
use mathlib.Core.Path.{◌≡◌, refl, sym, ap, subst, ◌∙◌}
use mathlib.Core.Logic.{◌⊎◌, inl, inr, ◌≢◌}
use mathlib.Core.Bool.{not}
use mathlib.Core.List.{List, [], ◌∷◌}
use lib.Dec.{T}
use lib.ListN.{length}
use Rattle.spec_lists.specs.Lists.{empty, nth, update}
use Rattle.spec_table.specs.Board.{Board, Valid, names_of, holder_of, stands}
use Rattle.spec_table.specs.Table.{Entry, Layout, vacant, entry_for}
use Rattle.spec_lists.proofs.Elements.{nth_update_same, nth_update_other, length_update}
use Rattle.spec_table.proofs.Splicing.{InChain, chains_apart, link_in, Recorded, recorded_next}
use Rattle.table_size.specs.Written.{with_entry, with_standing, with_next}
use Rattle.table_splices.specs.Splices.{linked_heads, linked_entries, linked}

-- links

-- the link after place i in bench x's chain leads to job n
pub link_here : (l : Layout) (x i n : ℕ) → 1 ≤ x → x ≤ length l.heads → i ≤ length l.entries → link_in (linked l x i n) x i ≡ n
link_here l x zero n low high u = nth_update_same l.heads x n 0 low high
link_here l x (suc k) n low high u =
    ap (λ (e : Entry). e.next) (nth_update_same l.entries (suc k) (with_next (nth l.entries (suc k) vacant) n) vacant (omega arith) u)

-- any other is as it was
link_other : (l : Layout) (x i n y k : ℕ) → (k ≡ i → (i ≡ 0) × (y ≢ x)) → link_in (linked l x i n) y k ≡ link_in l y k
link_other l x zero n y zero d = nth_update_other l.heads x y n 0 (d refl).1
link_other l x zero n y (suc k) d = refl
link_other l x (suc i) n y zero d = refl
link_other l x (suc i) n y (suc k) d =
    ap (λ (e : Entry). e.next) (nth_update_other l.entries (suc i) (suc k) (with_next (nth l.entries (suc i) vacant) n) vacant (λ q. omega (arith, (d q).0)))

-- one at another place ..
pub link_beside : (l : Layout) (x i n y k : ℕ) → k ≢ i → link_in (linked l x i n) y k ≡ link_in l y k
link_beside l x i n y k d = link_other l x i n y k (λ q. absurd (d q))

-- .. and one in another bench's chain
pub link_apart : (holders : List ℕ) (l : Layout) (x i n y k : ℕ) → y ≢ x → InChain holders x i → InChain holders y k → link_in (linked l x i n) y k ≡ link_in l y k
link_apart holders l x i n y k d c o =
    link_other l x i n y k (λ q. (chains_apart holders i d (subst (InChain holders y) q o) c, d))

-- the link from job j is in its record ..
pub entry_here : (l : Layout) (j : ℕ) (e : Entry) (x : ℕ) → 1 ≤ j → j ≤ length l.entries → link_in (with_entry l j e) x j ≡ e.next
entry_here l zero e x low high = absurd (omega arith)
entry_here l (suc k) e x low high = ap (λ (a : Entry). a.next) (nth_update_same l.entries (suc k) e vacant low high)

-- .. and no other is
pub entry_there : (l : Layout) (j : ℕ) (e : Entry) (x i : ℕ) → i ≢ j → link_in (with_entry l j e) x i ≡ link_in l x i
entry_there l j e x zero d = refl
entry_there l j e x (suc k) d = ap (λ (a : Entry). a.next) (nth_update_other l.entries j (suc k) e vacant d)

-- the number of standing jobs is no link
pub count_apart : (l : Layout) (n x i : ℕ) → link_in (with_standing l n) x i ≡ link_in l x i
count_apart l n x zero = refl
count_apart l n x (suc k) = refl

-- there are as many heads ..
pub linked_wide : (heads : List ℕ) (x i n : ℕ) → length (linked_heads heads x i n) ≡ length heads
linked_wide heads x zero n = length_update heads x n
linked_wide heads x (suc k) n = refl

-- .. and as many records ..
pub linked_long : (es : List Entry) (i n : ℕ) → length (linked_entries es i n) ≡ length es
linked_long es zero n = refl
linked_long es (suc k) n = length_update es (suc k) (with_next (nth es (suc k) vacant) n)

-- a standing job's record with another next job
entry_with_next : (names : List ℕ) (h m n : ℕ) → T (not (empty names)) → with_next (entry_for names h m) n ≡ entry_for names h n
entry_with_next [] h m n t = absurd t
entry_with_next (x ∷ names) h m n t = refl

-- .. which are the same board's
pub linked_recorded : (es : List Entry) (b : Board) → Valid b → length es ≡ length b.named → Recorded es b → (i n : ℕ) → (i ≡ 0) ⊎ T (stands b i) → Recorded (linked_entries es i n) b
linked_recorded es b v long r zero n c = r
linked_recorded es b v long r (suc k) n (inl e) = absurd (omega arith)
linked_recorded es b v long r (suc k) n (inr t) =
    let e : Entry = nth es (suc k) vacant in
    let same = ap (λ (a : Entry). with_next a n) (r (suc k)) ∙ entry_with_next (names_of b (suc k)) (holder_of b (suc k)) e.next n t in
    subst (λ (a : Entry). Recorded (update es (suc k) a) b) (sym same) (recorded_next _ _ v long r (suc k) n t)
