-- A walk along a chain, record by record: what is left of it ends as the whole does.
use Rattle.std.specs.Prelude.{Option, Some, None, Result, Ok, Err}
use Prim.Native.Nat.{ℕ, zero, suc, ◌+◌, ◌-◌, ◌≤◌, ◌<◌}
use native.Mathlib.Omega.{arith}
use mathlib.Core.Path.{◌≡◌, refl, sym, ap, ◌∙◌}
use mathlib.Core.Bool.{Bool, true, false, cond}
use mathlib.Core.List.{List, []}
use lib.Dec.{ltb}
use lib.ListN.{length}
use borrow.Author.Tests.{lt-ltb, le-ltb}
use Rattle.spec_lists.specs.Lists.{within, nth}
use Rattle.spec_lists.proofs.Tests.{true→T, T→true, both, within_both}
use Rattle.spec_table.proofs.Sound.{chain_from_lem}
use Rattle.spec_table.specs.Table.{Entry, Layout, vacant, follow, chains}
use Rattle.spec_pair.specs.Pair as paper
use Rattle.table_words.specs.Bytes.{layout_in}
use Rattle.table_size.specs.Sizes.{SizeOf}
use Rattle.table_size.specs.Written.{HeadOf}
use Rattle.table_size.specs.declared.Size.{Size}
use Rattle.table_pair.specs.Walking.{match_in, end_of, walk_of, step_at}
use Rattle.table_refusals.specs.declared.Refusal.{Refusal}
use Rattle.table_refusals.specs.declared.Refusal.TheVariants.{Unsound}
use Rattle.table_pair.specs.declared.Walked.{Walked}

-- how a walk ends
abbrev End : Type 0
End = Result Walked Refusal

-- without a match, and at one, after so many records
abbrev unmatched : ℕ → End
unmatched read = end_of paper.unmatched read

abbrev matched : ℕ → ℕ → End
matched j read = end_of (paper.matched j) read

-- how a walk ends of which n records are read before
abbrev end_after : ℕ → paper.Walk → End
end_after n w = end_of w.end (n + length w.read)

-- where none is, as the walk by itself
none_before : (w : paper.Walk) → end_after 0 w ≡ walk_of w
none_before w = let none : 0 + length w.read ≡ length w.read = omega arith in ap (end_of w.end) none

-- the record of job j is read after n others: the end, or how the walk goes on
abbrev at_step : ℕ → ℕ → End → Result (Option ℕ) Refusal → End
at_step j n onward (Err r) = Err r
at_step j n onward (Ok None) = matched j (n + 1)
at_step j n onward (Ok (Some next)) = onward

module _ (l : Layout) (x y j : ℕ) where
  -- what the record says is what the walk does
  read_record : (n : ℕ) (onward : paper.Walk) → end_after n (paper.at_record l x y j onward) ≡ at_step j n (end_after (n + 1) onward) (step_at l x y j)
  unfolding step_at
  read_record n onward = go (paper.is_held_by l.benches x e) (paper.names_both x y e.names)
    where
      e : Entry
      e = nth l.entries j vacant

      go : (held named : Bool) → end_after n (paper.read_then j (cond held (cond named (paper.stop (paper.matched j)) onward) (paper.stop paper.broken))) ≡ at_step j n (end_after (n + 1) onward) (cond held (Ok (cond named None (Some e.next))) (Err Unsound))
      go false named = refl
      go true true = refl
      go true false = let more : n + suc (length onward.read) ≡ n + 1 + length onward.read = omega arith in rw more refl

  -- a walk that goes on goes on with the record's next job
  next_job : {n : ℕ} → step_at l x y j ≡ Ok (Some n) → (nth l.entries j vacant).next ≡ n
  unfolding step_at
  next_job {n} = go (paper.is_held_by l.benches x e) (paper.names_both x y e.names)
    where
      e : Entry
      e = nth l.entries j vacant

      go : (held named : Bool) → cond held (Ok (cond named None (Some e.next))) (Err Unsound) ≡ Ok (Some n) → e.next ≡ n
      go false named q = absurd (true→T false cc)
      go true true q = absurd (true→T false cc)
      go true false q = cc

-- no "number above the first match"
not_above : (met : Option ℕ) (j : ℕ) → ((m : ℕ) → met ≡ Some m → j ≤ m) → paper.is_above (match_in met) j ≡ false
not_above None j h = refl
not_above (Some m) j h = le-ltb m j (h m refl)

-- "a number of 1 to J above the one before"
may : (jobs before j : ℕ) → before < j → j ≤ jobs → paper.may_follow jobs before j ≡ true
may jobs before j a b =
    T→true (paper.may_follow jobs before j) (both (within 1 jobs j) (ltb before j) (within_both 1 jobs j (omega arith) b) (true→T (ltb before j) (lt-ltb before j a)))

-- the end of the whole walk along bench x's chain
abbrev whole_of : Layout → ℕ → ℕ → Option ℕ → End
whole_of l x y met = walk_of (paper.walk l x y (match_in met) 0 (nth (chains l) x []))

-- the end of the walk from job j on, after the job `before`, with so many records read and room for so many on the chain
abbrev rest_of : Layout → ℕ → ℕ → Option ℕ → ℕ → ℕ → ℕ → ℕ → End
rest_of l x y met before read room j =
    end_after read (paper.walk l x y (match_in met) before (follow l.entries room j))

-- "or its end"
rest_end : (l : Layout) (x y : ℕ) (met : Option ℕ) (before read room j : ℕ) → j ≡ 0 → rest_of l x y met before read (suc room) j ≡ unmatched read
rest_end l x y met before read room j e = let none : read + 0 ≡ read = omega arith in rw e (ap unmatched none)

-- job j is on the chain: the walk ends there, or reads its record
rest_step : (l : Layout) (x y : ℕ) (met : Option ℕ) (before read room j : ℕ) → 1 ≤ j → let onward = paper.walk l x y (match_in met) j (follow l.entries room (nth l.entries j vacant).next) in rest_of l x y met before read (suc room) j ≡ cond (paper.is_above (match_in met) j) (unmatched read) (cond (paper.may_follow l.jobs before j) (at_step j read (end_after (read + 1) onward) (step_at l x y j)) (Err Unsound))
rest_step l x y met before read room zero h = absurd (omega arith)
rest_step l x y met before read room (suc i) h = go (paper.is_above (match_in met) (suc i)) (paper.may_follow l.jobs before (suc i))
  where
    onward : paper.Walk
    onward = paper.walk l x y (match_in met) (suc i) (follow l.entries room (nth l.entries (suc i) vacant).next)

    go : (above may : Bool) → end_after read (cond above (paper.stop paper.unmatched) (cond may (paper.at_record l x y (suc i) onward) (paper.stop paper.broken))) ≡ cond above (unmatched read) (cond may (at_step (suc i) read (end_after (read + 1) onward) (step_at l x y (suc i))) (Err Unsound))
    go true may = let none : read + 0 ≡ read = omega arith in ap unmatched none
    go false true = read_record l x y (suc i) read onward
    go false false = refl

-- `read` records are read, `before` is the last of them, and job j is the next on the chain: what is left of the walk ends
-- as the whole does. The numbers rise, so that no more records are read than the last number says, and the chain is not
-- cut off before a number that does not rise
pub record Along (t : List ℕ) (s : Size) (x y : ℕ) (met : Option ℕ) (before read j : ℕ) : Type 0 where
  pub few : read ≤ before
  pub most : before ≤ s.jobs
  pub room : ℕ
  pub all : read + room ≡ s.jobs
  pub rest : rest_of (layout_in t) x y met before read (suc room) j ≡ whole_of (layout_in t) x y met

-- before the first job nothing is read ..
pub along_start : {t : List ℕ} {s : Size} {x j : ℕ} (y : ℕ) (met : Option ℕ) → SizeOf t s → HeadOf t x j → Along t s x y met 0 0 j
along_start {t} {s} {x} {j} y met size h =
    let l = layout_in t in
    let f = follow l.entries (suc l.jobs) in
    let w = paper.walk l x y (match_in met) 0 in
    record {
      few = omega arith;
      most = omega arith;
      room = l.jobs;
      all = omega (arith, size.jobs);
      rest = none_before (w (f j)) ∙ ap (λ (c : List ℕ). walk_of (w c)) (ap f h.head ∙ sym (chain_from_lem l x));
    }

-- job j's record is to be read after that of the job `before`, and may be
pub record ToRead (s : Size) (met : Option ℕ) (before j : ℕ) : Type 0 where
  pub limit : (m : ℕ) → met ≡ Some m → j ≤ m
  pub after : before < j
  pub most : j ≤ s.jobs

module _ {t : List ℕ} {s : Size} {x y : ℕ} {met : Option ℕ} {before read j : ℕ} (size : SizeOf t s) (along : Along t s x y met before read j) where
  abbrev l : Layout
  l = layout_in t

  abbrev whole : End
  whole = whole_of l x y met

  -- .. and the walk ends with the chain ..
  pub along_end : j ≡ 0 → unmatched read ≡ whole
  along_end e = sym (rest_end l x y met before read along.room j e) ∙ along.rest

  module _ (to : ToRead s met before j) where
    abbrev onward : End
    onward = rest_of l x y met j (read + 1) along.room (nth l.entries j vacant).next

    -- .. and else reads the record ..
    along_read : {r : Result (Option ℕ) Refusal} → r ≡ step_at l x y j → at_step j read onward r ≡ whole
    along_read says =
        let right = may l.jobs before j to.after (rw size.jobs to.most) in
        let next = sym (rest_step l x y met before read along.room j (omega (arith, to.after))) ∙ along.rest in
        ap (at_step j read onward) says ∙ rw (not_above met j to.limit, right) at next

    -- .. which may not be read ..
    pub along_broken : {r : Refusal} → Err r ≡ step_at l x y j → Err r ≡ whole
    along_broken says = along_read says

    -- .. or matches ..
    pub along_match : Ok None ≡ step_at l x y j → matched j (read + 1) ≡ whole
    along_match says = along_read says

    -- .. or leads on
    pub along_turn : {n : ℕ} → Ok (Some n) ≡ step_at l x y j → Along t s x y met j (read + 1) n
    along_turn {n} says =
        let more : suc (along.room - 1) ≡ along.room = omega (arith, along.few, along.all, to.after, to.most) in
        record {
          few = omega (arith, along.few, to.after);
          most = to.most;
          room = along.room - 1;
          all = omega (arith, along.all, more);
          rest = rw (more, ← next_job l x y j (sym says)) (along_read says);
        }
