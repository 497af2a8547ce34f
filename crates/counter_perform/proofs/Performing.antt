-- The program's table as a part of its bytes, and the replies to commands.
use Prim.Native.Nat.{ℕ, suc, ◌+◌, ◌*◌, ◌≤◌}
use Prim.Native.Char.{code}
use native.Mathlib.Omega.{arith}
use mathlib.Core.Path.{◌≡◌, refl, sym, ap, subst, ◌∙◌}
use mathlib.Core.List.{List, [], ◌∷◌, ◌++◌}
use mathlib.Core.Bool.{true}
use mathlib.Core.Option.{Option, none, some}
use lib.ListN.{length, take, drop}
use lib.Seq.{take_at, length-take-le, length_front}
use Rattle.spec_lists.specs.Lists.{nth}
use Rattle.spec_table.specs.Table.{in_list, length_for, sizes_fit, decode, blank_table}
use Rattle.spec_sharing.specs.Sharing.{arrive, close, tight_set}
use Rattle.spec_calls.specs.Answers.{Outcome, in_numbers, refused_or, first_holding, said, blanked, refusal_number}
use Rattle.spec_calls.specs.Answers.{Refusal as Why}
use Rattle.spec_calls.specs.Calls.{Call, Arriving, Closing, outcome, blanking, arrival, closing, ask, heaviest_load, tight_set_of, lent_to, arrival_outcome, closing_outcome, telling, answering, asked, accepted, tight_set_told, refusals}
use Rattle.spec_calls.specs.Tally.{Tally, zero_tally, noted}
use Rattle.spec_calls.proofs.Blanking.{blanking_refused}
use Rattle.spec_table.proofs.Words.{in_list_long}
use Rattle.spec_counter.specs.Counter as paper
use Rattle.spec_counter.specs.Counter.{take_in, close_job, set_table, ask_tight_set, ask_heaviest, counter_list, line_for, done, after}
use Rattle.spec_counter.proofs.CounterRun.{room_fits}
use Rattle.std.specs.Prelude.{Result, Ok, Err}
use Rattle.table_refusals.specs.Refusals.{refusal_of}
use Rattle.table_refusals.specs.declared.Refusal.{Refusal}
use Rattle.table_size.specs.Sizes.{SizeFor}
use Rattle.table_size.specs.declared.Size.{Size}
use Rattle.table_size.proofs.Sizes.{fit_sizing, sizes_fit_lem, sizes_refused}
use Rattle.board_answers.specs.Answered.{answer_of, Leaves}
use Rattle.board_answers.specs.declared.Answer.{Answer}
use Rattle.board_tally.specs.Counts.{tally_of}
use Rattle.counter_printing.specs.Wrote.{Wrote}
use Rattle.counter_printing.specs.declared.Output.{Output}
use Rattle.counter_printing.proofs.WrittenText.{wrote_as}
use Rattle.counter_answer_lines.specs.AnswerLines.{line_most, refusal_text, answer_text, listing_text}
use Rattle.counter_state.specs.State.{table_most, counter_of, Room}
use Rattle.counter_state.specs.declared.Counter.{Counter}
use Rattle.counter_perform.specs.Performed.{Replies, Performs}

-- a part of a list at its beginning, written anew in its length
part_kept : (n : ℕ) (d e : List ℕ) → n ≤ length d → length e ≡ length (take n d) → (take n (e ++ drop n d) ≡ e) × (length (e ++ drop n d) ≡ length d)
part_kept n d e h k = (take_at e (drop n d) n (k ∙ length-take-le n d h), length_front d e n k)

-- a text was written, no longer than a line
abbrev pub Printed : Output → Output → List ℕ → Type 0
Printed o p text = record { wrote : Wrote o p text; short : p.written ≤ o.written + line_most }

-- a counter, its table of so many bytes and this tally, with a text that was written, no longer than a line
pub record AnswerPrinted (size : ℕ) (counts : Tally) (text : List ℕ) (before after : Output) (c : Counter) : Type 0 where
  pub length : c.length ≡ size
  pub tally : tally_of c.tally ≡ counts
  pub wrote : Wrote before after text
  pub short : after.written ≤ before.written + line_most

-- a counter as it is, with a line that is written
pub printed_as : (c : Counter) {text text' : List ℕ} {before after : Output} → text ≡ text' → Wrote before after text → after.written ≤ before.written + line_most → AnswerPrinted c.length (tally_of c.tally) text' before after c
printed_as c e w h = record { length = refl; tally = refl; wrote = wrote_as e w; short = h }

-- what is told is the reply, where the bytes hold the state's table
replied : {next : paper.Counter} {n : ℕ} {tally : Tally} {text bytes : List ℕ} {before after : Output} {c : Counter} → length bytes ≡ table_most → n ≤ table_most → take n bytes ≡ next.table → tally ≡ next.tally → AnswerPrinted n tally text before after c → Replies next text bytes before after c
replied {next} {n} {tally} {text} {bytes} {before} {after} {c} l h t y told =
    record {
      room = record { long = l; within = subst (λ (m : ℕ). m ≤ table_most) (sym told.length) h };
      state = λ i. record { table = (ap (λ (m : ℕ). take m bytes) told.length ∙ t) i; tally = (told.tally ∙ y) i };
      wrote = told.wrote;
      short = told.short;
    }

module _ (t : List ℕ) {u l : List ℕ} {a : Result Answer Refusal} where
  -- the words that a call lists, as many as its value k + 1 says, are in the list that it leaves; a refusal lists none
  listed_fits : (c : Call) (k : ℕ) (ws : List ℕ) → let o = accepted c t (decode t) in nth (in_numbers o.answer) (suc (suc k)) 0 ≡ length ws → o.lent ≡ in_list ws (lent_to c) → Leaves (outcome c t) a u l → 2 * nth (in_numbers (answer_of a)) (suc (suc k)) 0 ≤ length l
  unfolding outcome
  listed_fits c k ws n e v = rw (v.answer, v.lent) (go (first_holding (refusals c t)))
    where
      go : (f : Option Why) → let o = refused_or f t (lent_to c) (accepted c t (decode t)) in 2 * nth (in_numbers o.answer) (suc (suc k)) 0 ≤ length o.lent
      go none = rw (n, e) (omega (arith, in_list_long ws (lent_to c)))
      go (some r) = omega arith

  -- so the jobs that an arrival moves ..
  pub arrival_fits : (x : Arriving) → Leaves (outcome (arrival x) t) a u l → 2 * nth (in_numbers (answer_of a)) 4 0 ≤ length l
  unfolding accepted arrival_outcome
  arrival_fits x v = listed_fits (arrival x) 2 (arrive (decode t) x.job x.given).moved refl refl v

  -- .. and a closing, ..
  pub closing_fits : (x : Closing) → Leaves (outcome (closing x) t) a u l → 2 * nth (in_numbers (answer_of a)) 3 0 ≤ length l
  unfolding accepted closing_outcome
  closing_fits x v = listed_fits (closing x) 1 (close (decode t) x.job).moved refl refl v

  -- .. and a tight set's benches
  pub tight_fits : (h : ℕ) (list : List ℕ) → Leaves (outcome (ask (tight_set_of h) list) t) a u l → 2 * nth (in_numbers (answer_of a)) 2 0 ≤ length l
  unfolding accepted asked tight_set_told
  tight_fits h list v = listed_fits (ask (tight_set_of h) list) 0 (tight_set (decode t) h) refl refl v

  -- what a call leaves that was lent the program's list
  lent_own : (call : List ℕ → Call) {list : List ℕ} → list ≡ counter_list → Leaves (outcome (call list) t) a u l → Leaves (outcome (call counter_list) t) a u l
  lent_own call e v = subst (λ (k : List ℕ). Leaves (outcome (call k) t) a u l) e v

-- where the sizes fit, blanking does not look at the old bytes
blanks : (benches jobs : ℕ) (t : List ℕ) → sizes_fit (length t) benches jobs ≡ true → blanking benches jobs t ≡ answering (blank_table benches jobs) (telling blanked [])
unfolding blanking
blanks benches jobs t e = rw e

-- the program has bytes for every size
pub size_within : (benches jobs : ℕ) {s : Size} {n : ℕ} → SizeFor benches jobs (Ok s) → n ≡ length_for s.benches s.jobs → n ≤ table_most
size_within benches jobs {s} {n} e b = omega (arith, (fit_sizing benches jobs s e).0)

-- a part is as long as it is taken
pub part_long : (n : ℕ) (d : List ℕ) → length d ≡ table_most → n ≤ table_most → n ≡ length (take n d)
part_long n d l h = sym (length-take-le n d (omega arith))

module _ {c : Counter} {d : List ℕ} (room : Room c d) where
  module _ {before after : Output} where
    -- the state stays
    pub stays : {text text' : List ℕ} → text ≡ text' → Printed before after text → Replies (counter_of c d) text' d before after c
    stays e told = replied room.long room.within refl refl (printed_as c e told.wrote told.short)

    -- "a refused B keeps the old table"
    pub misfit_replies : (benches jobs : ℕ) {r : Refusal} → SizeFor benches jobs (Err r) → Printed before after (refusal_text (refusal_number (refusal_of r))) → Performs (set_table benches jobs) (counter_of c d) d before after c
    unfolding line_for done after
    misfit_replies benches jobs e told =
        let own = paper.room benches jobs in
        rw (blanking_refused benches jobs own (sizes_refused (length own) benches jobs e)) (stays (ap (λ (q : Refusal). refusal_text (refusal_number (refusal_of q))) e.value.refusal) told)

    module _ {a : Result Answer Refusal} {u ns : List ℕ} where
      -- "H heaviest"
      pub heaviest_replies : Leaves (outcome (ask heaviest_load []) (take c.length d)) a u [] → ns ≡ [] → Printed before after (answer_text (code "H") ns (answer_of a) []) → Performs ask_heaviest (counter_of c d) d before after c
      unfolding line_for done after
      heaviest_replies v e told = stays (λ i. answer_text (code "H") (e i) (v.answer i) []) told

      module _ {list l : List ℕ} (own : list ≡ counter_list) where
        -- "S height, benches, inside jobs, then the benches"
        pub tight_replies : (h : ℕ) → Leaves (outcome (ask (tight_set_of h) list) (take c.length d)) a u l → ns ≡ h ∷ [] → Printed before after (listing_text (code "S") ns 1 (answer_of a) l) → Performs (ask_tight_set h) (counter_of c d) d before after c
        unfolding line_for done after
        tight_replies h w e told =
            let v = lent_own (take c.length d) (ask (tight_set_of h)) own w in
            stays (λ i. listing_text (code "S") (e i) 1 (v.answer i) (v.lent i)) told

        module _ {b : Counter} (same : b.length ≡ c.length) (counts : tally_of b.tally ≡ (noted (tally_of c.tally) (answer_of a)).tally) (kept : length u ≡ length (take c.length d)) where
          -- an arrival or a closing: its answer is noted, and the jobs that it moved are listed
          changes : (letter k : ℕ) {o : Outcome} {ms : List ℕ} → Leaves o a u l → ns ≡ ms → Printed before after (listing_text letter ns k (answer_of a) l) → Replies (record { table = o.table; tally = (noted (tally_of c.tally) o.answer).tally }) (listing_text letter ms k o.answer o.lent) (u ++ drop c.length d) before after b
          changes letter k {o} v e told =
              let w = part_kept c.length d u (omega (arith, room.long, room.within)) kept in
              replied (w.1 ∙ room.long) (subst (λ (m : ℕ). m ≤ table_most) (sym same) room.within)
              (ap (λ (m : ℕ). take m (u ++ drop c.length d)) same ∙ w.0 ∙ v.bytes)
              (counts ∙ (λ i. (noted (tally_of c.tally) (v.answer i)).tally))
              (printed_as b (λ i. listing_text letter (e i) k (v.answer i) (v.lent i)) told.wrote told.short)

          -- "A job, holder, bench that rose, moved", then the moved jobs
          pub arrival_replies : (j x y : ℕ) → Leaves (outcome (arrival (record { job = j; given = x ∷ y ∷ []; list = list })) (take c.length d)) a u l → ns ≡ j ∷ [] → Printed before after (listing_text (code "A") ns 3 (answer_of a) l) → Performs (take_in j x y) (counter_of c d) (u ++ drop c.length d) before after b
          unfolding line_for done after
          arrival_replies j x y v e told = changes (code "A") 3 (lent_own (take c.length d) (λ k. arrival (record { job = j; given = x ∷ y ∷ []; list = k })) own v) e told

          -- "D job, bench that fell, moved", then the moved jobs
          pub closing_replies : (j : ℕ) → Leaves (outcome (closing (record { job = j; list = list })) (take c.length d)) a u l → ns ≡ j ∷ [] → Printed before after (listing_text (code "D") ns 2 (answer_of a) l) → Performs (close_job j) (counter_of c d) (u ++ drop c.length d) before after b
          unfolding line_for done after
          closing_replies j v e told = changes (code "D") 2 (lent_own (take c.length d) (λ k. closing (record { job = j; list = k })) own v) e told

      -- "B benches jobs": the table is blank and the tally zero, whatever was before
      pub table_replies : (benches jobs : ℕ) (s : Size) {b : Counter} → SizeFor benches jobs (Ok s) → b.length ≡ length_for s.benches s.jobs → Leaves (blanking benches jobs (take b.length d)) a u [] → length u ≡ length (take b.length d) → tally_of b.tally ≡ zero_tally → ns ≡ benches ∷ jobs ∷ [] → Printed before after (answer_text (code "B") ns (answer_of a) []) → Performs (set_table benches jobs) (counter_of c d) (u ++ drop b.length d) before after b
      unfolding line_for done after
      table_replies benches jobs s {b} e n v kept z f told =
          let within = size_within benches jobs e n in
          let k = part_kept b.length d u (omega (arith, room.long, within)) kept in
          let own = blanks benches jobs (take b.length d) (sizes_fit_lem (length (take b.length d)) benches jobs s e (sym (part_long b.length d room.long within) ∙ n)) in
          let fits = sizes_fit_lem (length_for benches jobs) benches jobs s e (let q = (fit_sizing benches jobs s e) in λ i. length_for (sym q.1 i) (sym q.2 i)) in
          let theirs = blanks benches jobs (paper.room benches jobs) (ap (λ (m : ℕ). sizes_fit m benches jobs) (room_fits benches jobs fits) ∙ fits) in
          let w : answer_of a ≡ said blanked = v.answer ∙ ap (λ (o : Outcome). o.answer) own in
          rw theirs
          (replied (k.1 ∙ room.long) within (k.0 ∙ v.bytes ∙ ap (λ (o : Outcome). o.table) own) z (printed_as b (λ i. answer_text (code "B") (f i) (w i) []) told.wrote told.short))
