-- The counter program's state: what its table and its tally are before and after each line, and what it prints of them.
use Prim.Native.Nat.{ℕ}
use Prim.Native.Char.{code}
use native.Mathlib.Omega.{arith}
use mathlib.Core.Path.{◌≡◌, refl, ap, ◌∙◌}
use mathlib.Core.Bool.{Bool, true, false}
use mathlib.Core.List.{List, [], ◌∷◌, ◌++◌, flat_map}
use mathlib.Core.Option.{none}
use lib.Dec.{T}
use lib.ListN.{length, replicate, length-take, length-replicate}
use Rattle.spec_table.specs.Board.{heaviest, standing}
use Rattle.spec_table.specs.Table.{most_benches, most_jobs, sizes_fit, length_for, sound, decode, blank_table}
use Rattle.spec_sharing.specs.Sharing.{arrive, close, tight_set}
use Rattle.spec_calls.specs.Answers.{Outcome, is_refused, arrived, closed, said, tight_set_is}
use Rattle.spec_calls.specs.Calls.{arrival, closing, ask, heaviest_load, tight_set_of, question_conditions, asked, accepted, outcome, blanking}
use Rattle.spec_calls.specs.Tally.{zero_tally, noted}
use Rattle.spec_counter.specs.Counter.{Counter, Command, set_table, take_in, close_job, ask_tight_set, ask_heaviest, command, printed, line_for, done, after, prints, at_first, room, counter_list}
use Rattle.spec_text.specs.Text.{text}
use Rattle.spec_lists.proofs.Tests.{true→T, within_high}
use Rattle.spec_table.proofs.Places.{sized}
use Rattle.spec_calls.proofs.Blanking.{standing_empty, blank_sound, blank_decodes}
use Rattle.spec_calls.proofs.ChainOrder.{sound_outcome}
use Rattle.spec_calls.proofs.Questions.{tight_list}
use Rattle.spec_calls.proofs.Results.{arrival_list, closing_list}
use Rattle.spec_calls.proofs.TallyRun.{Balanced, keeps}

-- "Before the first B its table has length 0"
pub first_table : length at_first.table ≡ 0
first_table = refl

-- the program has bytes for every table that 01 allows
pub room_fits : (benches jobs : ℕ) → sizes_fit (length_for benches jobs) benches jobs ≡ true → length (room benches jobs) ≡ length_for benches jobs
room_fits benches jobs e =
    let z = sized (length_for benches jobs) benches jobs (true→T (sizes_fit (length_for benches jobs) benches jobs) e) in
    let b = within_high 1 most_benches benches z.benches_within in
    let j = within_high 1 most_jobs jobs z.jobs_within in
    length-take (length_for benches jobs) (replicate (length_for most_benches most_jobs) 0)
    ∙ omega (arith, length-replicate {A = ℕ} (length_for most_benches most_jobs) 0)

-- "All else [..] gives 10", and the lines after it find the same state: 10 leaves "the board"
pub unreadable_line_lem : (s : Counter) (line piece : List ℕ) (rest : List (List ℕ)) → command line ≡ none → prints s (line ∷ piece ∷ rest) ≡ text "R 10\n" ++ prints s (piece ∷ rest)
unfolding prints printed flat_map
unreadable_line_lem s line piece rest e = rw (prints, e)

-- "a refused B keeps the old table"
pub refused_keeps : (benches jobs : ℕ) (s : Counter) (o : Outcome) → is_refused o.answer ≡ true → after (set_table benches jobs) s o ≡ s
unfolding after
refused_keeps benches jobs s o e = rw e

module _ (t : List ℕ) (s : T (sound t)) where
  -- "H heaviest"
  pub heaviest_line : line_for ask_heaviest (done ask_heaviest t) ≡ printed (code "H") (heaviest (decode t) ∷ [])
  unfolding line_for done question_conditions accepted asked
  heaviest_line = rw (sound_outcome (ask heaviest_load []) tt t s)

  -- "S height, benches, inside jobs, then the benches"
  pub tight_line : (h n i : ℕ) → (outcome (ask (tight_set_of h) counter_list) t).answer ≡ said (tight_set_is n i) → line_for (ask_tight_set h) (done (ask_tight_set h) t) ≡ printed (code "S") (h ∷ n ∷ i ∷ tight_set (decode t) h)
  unfolding line_for done
  tight_line h n i e = rw (e, (tight_list t s h counter_list n i e).read)

  -- 02: "The counter's A and D lines gain them at the end": the moved jobs, in path order
  pub arrival_line : (j x y holder rose moved : ℕ) → (done (take_in j x y) t).answer ≡ arrived holder rose moved → line_for (take_in j x y) (done (take_in j x y) t) ≡ printed (code "A") (j ∷ holder ∷ rose ∷ moved ∷ (arrive (decode t) j (x ∷ y ∷ [])).moved)
  unfolding line_for done
  arrival_line j x y holder rose moved e = rw (e, (arrival_list t s (record { job = j; given = x ∷ y ∷ []; list = counter_list }) holder rose moved e).read)

  pub closing_line : (j fell moved : ℕ) → (done (close_job j) t).answer ≡ closed fell moved → line_for (close_job j) (done (close_job j) t) ≡ printed (code "D") (j ∷ fell ∷ moved ∷ (close (decode t) j).moved)
  unfolding line_for done
  closing_line j fell moved e = rw (e, (closing_list t s (record { job = j; list = counter_list }) fell moved e).read)

-- "If a blank table and a zero tally start together": so they do with each B that is not refused, whatever was before
pub table_starts : (benches jobs : ℕ) (s : Counter) → sizes_fit (length_for benches jobs) benches jobs ≡ true → after (set_table benches jobs) s (done (set_table benches jobs) s.table) ≡ record { table = blank_table benches jobs; tally = zero_tally }
unfolding done after blanking
table_starts benches jobs s e = rw (room_fits benches jobs e, e)

-- a sound table whose tally counts its jobs
abbrev Together : Counter → Type 0
Together s = T (sound s.table) × Balanced s.tally (decode s.table)

-- the program's table and tally are together after each line too, as long as there is no 9: "arrivals less closings are the jobs standing"
pub counter_balanced : (c : Command) (s : Counter) → T (sound s.table) → Balanced s.tally (decode s.table) → (noted s.tally (done c s.table).answer).refusal ≡ none → let u = after c s (done c s.table) in T (sound u.table) × Balanced u.tally (decode u.table)
unfolding done after blanking
counter_balanced (set_table benches jobs) s f b n = go (sizes_fit (length (room benches jobs)) benches jobs) refl
  where
    go : (z : Bool) → sizes_fit (length (room benches jobs)) benches jobs ≡ z → Together (after (set_table benches jobs) s (done (set_table benches jobs) s.table))
    go true e =
        let z = sized (length (room benches jobs)) benches jobs (true→T (sizes_fit (length (room benches jobs)) benches jobs) e) in
        let d = blank_decodes benches jobs z.benches_within z.jobs_within in
        rw e (blank_sound benches jobs z.benches_within z.jobs_within, omega (arith, ap standing d, standing_empty jobs))
    go false e = rw e (f, b)
counter_balanced (take_in j x y) s f b n = let k = keeps s.table f (arrival (record { job = j; given = x ∷ y ∷ []; list = counter_list })) in (k.form, k.balance s.tally b n)
counter_balanced (close_job j) s f b n = let k = keeps s.table f (closing (record { job = j; list = counter_list })) in (k.form, k.balance s.tally b n)
counter_balanced (ask_tight_set h) s f b n = (f, b)
counter_balanced ask_heaviest s f b n = (f, b)
