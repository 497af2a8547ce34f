-- The numbers of an answer fit 32 bits, so that a C program's lent numbers hold them; all but a levelling's fit 16.
use Prim.Native.Nat.{ℕ, ◌≤◌, ◌<◌}
use native.Mathlib.Omega.{arith}
use mathlib.Core.Path.{◌≡◌, refl, sym, ap, subst}
use mathlib.Core.Bool.{Bool, true, false, cond, not, ◌&&◌}
use mathlib.Core.List.{List, [], ◌∷◌}
use mathlib.Core.Option.{Option, none, some}
use lib.Dec.{T, eqb}
use lib.ListN.{length}
use Rattle.spec_lists.specs.Lists.{bit, member, all, empty}
use Rattle.spec_table.specs.Board.{Board, holder_of, names_of, stands, load, heaviest}
use Rattle.spec_table.specs.Table.{most_benches, most_jobs, words, Layout, layout, fits, decode, Storable}
use Rattle.spec_pair.specs.Pair.{records_read, job_found}
use Rattle.spec_sharing.specs.Sharing.{Levelled, close, relevel, level, tight_set, inside}
use Rattle.spec_calls.specs.Answers.{Answer, Outcome, is_refused, refused, arrived, closed, said, level_yes, level_no, levelled, stopped}
use Rattle.spec_calls.specs.Calls.{Arriving, Closing, Question, load_of, heaviest_load, tight_set_of, form_check, level_check, wall_sheet, Call, arrival, closing, levelling, ask, between, asked, between_conditions, between_fact, between_told, refusals, accepted, outcome, arrival_outcome, closing_outcome, levelling_outcome, tight_set_told, sheet_told}
use Rattle.spec_sharing.specs.Demand2.{handed}
use Rattle.spec_lists.proofs.Tests.{true→T, false→not, not_false, within_high}
use Rattle.spec_lists.proofs.Elements.{is_empty}
use Rattle.spec_lists.proofs.Counting.{bit_le, total_most, greatest_most}
use Rattle.spec_table.proofs.Loads.{benches_most, named_most, load_most}
use Rattle.spec_table.proofs.Places.{fits_sized}
use Rattle.spec_table.proofs.Sound.{sound_storable}
use Rattle.spec_sheet.proofs.Longest.{sheet_most}
use Rattle.spec_pair.proofs.Walks.{pair_read, found_within}
use Rattle.spec_table.proofs.Named.{holder_bench, holder_none}
use Rattle.spec_sharing.proofs.TightSet.{tight_most}
use Rattle.spec_calls.proofs.Refusals.{accepted_by, accepted_sound}
use Rattle.spec_calls.proofs.Outcomes.{arrive_on, arrival_accepted, levelling_accepted}
use Rattle.spec_calls.proofs.Results.{arrival_result, closing_result}
use Rattle.jobboard_report.specs.Report.{Fitting}

-- at most all jobs move
handed_most : (j : ℕ) (b c : Board) → handed j b c ≤ length b.named
handed_most j b c =
    total_most (length b.named) (λ i. bit (not (eqb i j) && not (eqb (holder_of c i) (holder_of b i)))) (λ i. bit_le (not (eqb i j) && not (eqb (holder_of c i) (holder_of b i))))

-- at most all jobs are inside
inside_most : (set : List ℕ) (named : List (List ℕ)) → inside set named ≤ length named
inside_most set [] = omega arith
inside_most set (names ∷ named) = omega (arith, bit_le (not (empty names) && all (λ x. member x set) names), inside_most set named)

module _ (b : Board) (s : Storable b) where
  -- a holder is 0 or a bench
  holder_most : (j : ℕ) → holder_of b j ≤ most_benches
  holder_most j = go (stands b j) refl
    where
      go : (z : Bool) → stands b j ≡ z → holder_of b j ≤ most_benches
      go true e = omega (arith, benches_most b s, within_high 1 b.benches (holder_of b j) (holder_bench b s.valid j (true→T (stands b j) e)))
      go false e = omega (arith, holder_none b s.valid j (is_empty (names_of b j) (false→not (stands b j) e)))

  -- at most all jobs are on the heaviest bench
  heaviest_most : heaviest b ≤ most_jobs
  unfolding heaviest
  heaviest_most = greatest_most b.benches (load b.holders) most_jobs (λ x l h. load_most b s x)

-- an arrival: the holder, the bench that rose, the moved jobs
arrival_fits : (t : List ℕ) (a : Arriving) (holder rose moved : ℕ) → (outcome (arrival a) t).answer ≡ arrived holder rose moved → (holder < 65536) × (rose < 65536) × (moved < 65536)
arrival_fits t a holder rose moved e =
    let s = accepted_sound (arrival a) tt t (ap is_refused e) in
    let u = (outcome (arrival a) t).table in
    let b = sound_storable t s in
    let r = arrival_result t s a holder rose moved e in
    let after = sound_storable u (arrival_accepted t s a (ap is_refused e)).writes.sound in
    (omega (arith, r.in_the_end, holder_most (decode u) after a.job), omega (arith, r.one_rose.bench, benches_most (decode t) b), omega (arith, r.others, handed_most a.job (decode t) (decode u), named_most (decode t) b))

-- a closing: the bench that fell, the moved jobs
closing_fits : (t : List ℕ) (c : Closing) (fell moved : ℕ) → (outcome (closing c) t).answer ≡ closed fell moved → (fell < 65536) × (moved < 65536)
closing_fits t c fell moved e =
    let s = accepted_sound (closing c) tt t (ap is_refused e) in
    let b = sound_storable t s in
    let r = closing_result t s c fell moved e in
    (omega (arith, r.one_fell.bench, benches_most (decode t) b), omega (arith, r.others, handed_most c.job (decode t) (decode (outcome (closing c) t).table), named_most (decode t) b))

-- a refusal has no values
unless_refused : (a : Answer) → (is_refused a ≡ false → Fitting a) → Fitting a
unless_refused (refused r) f = tt
unless_refused (arrived holder rose moved) f = f refl
unless_refused (closed fell moved) f = f refl
unless_refused (said k) f = f refl

-- the call's number that bounds a value fits 32 bits: a levelling turns no more paths than it is allowed
abbrev pub Bounded : Call → Type 0
Bounded (arrival a) = Unit {0}
Bounded (closing c) = Unit {0}
Bounded (levelling allowance) = allowance < 4294967296
Bounded (ask q lent) = Unit {0}
Bounded (between x y) = Unit {0}

-- the values that a question tells of a storable board
asked_fits : (q : Question) (lent : List ℕ) (b : Board) → Storable b → Fitting (said (asked q lent b).fact)
unfolding asked tight_set_told sheet_told
asked_fits (load_of x) lent b s = (omega (arith, load_most b s x), tt)
asked_fits heaviest_load lent b s = (omega (arith, heaviest_most b s), tt)
asked_fits (tight_set_of h) lent b s =
    (omega (arith, tight_most b h, benches_most b s), (omega (arith, inside_most (tight_set b h) b.named, named_most b s), tt))
asked_fits form_check lent b s = tt
asked_fits level_check lent b s = go (level b)
  where
    go : (z : Bool) → Fitting (said (cond z level_yes level_no))
    go true = (omega arith, tt)
    go false = (omega arith, tt)
asked_fits wall_sheet page b s = (omega (arith, sheet_most b s), tt)

-- a job's number is at most J, and at most 2 (J + 1) records are read
between_fits : (x y : ℕ) (t : List ℕ) → T (fits t) → Fitting (said (between_told x y t).fact)
unfolding between_told
between_fits x y t f = go (job_found l x y) refl
  where
    l : Layout
    l = layout (words t)

    jobs : l.jobs ≤ most_jobs
    jobs = within_high 1 most_jobs l.jobs (fits_sized t f).jobs_within

    few : length (records_read l x y) < 4294967296
    few = omega (arith, pair_read l x y, jobs)

    go : (m : Option ℕ) → job_found l x y ≡ m → Fitting (said (between_fact m (length (records_read l x y))))
    go none e = (omega arith, (few, tt))
    go (some j) e = (omega (arith, within_high 1 l.jobs j (found_within l x y j e), jobs), (few, tt))

-- the values of an accepted call
accepted_fits : (c : Call) (t : List ℕ) → Bounded c → is_refused (outcome c t).answer ≡ false → Fitting (accepted c t (decode t)).answer
unfolding accepted arrival_outcome closing_outcome levelling_outcome refusals between_conditions
accepted_fits (arrival a) t b n =
    let d = arrive_on t a in
    let f = arrival_fits t a (holder_of d.board a.job) d.bench (length d.moved) (ap (λ o. o.answer) (accepted_by (arrival a) t n).1) in
    (omega (arith, f.0), (omega (arith, f.1), (omega (arith, f.2), tt)))
accepted_fits (closing c) t b n =
    let d = close (decode t) c.job in
    let f = closing_fits t c d.bench (length d.moved) (ap (λ o. o.answer) (accepted_by (closing c) t n).1) in
    (omega (arith, f.0), (omega (arith, f.1), tt))
accepted_fits (levelling allowance) t b n = go (level r.board)
  where
    r : Levelled
    r = relevel allowance (decode t)

    small : r.paths < 4294967296
    small = omega (arith, b, (levelling_accepted t (accepted_sound (levelling allowance) tt t n) allowance).does.report.allowed)

    go : (z : Bool) → Fitting (said (cond z (levelled r.paths) (stopped r.paths)))
    go true = (small, (omega arith, tt))
    go false = (small, (omega arith, tt))
accepted_fits (ask q lent) t b n = asked_fits q lent (decode t) (sound_storable t (accepted_sound (ask q lent) tt t n))
accepted_fits (between x y) t b n = between_fits x y t (not_false (fits t) (accepted_by (between x y) t n).0.0)

-- the values of any call's answer fit 32 bits
pub values_fit : (c : Call) (t : List ℕ) → Bounded c → Fitting (outcome c t).answer
values_fit c t b =
    unless_refused (outcome c t).answer
    (λ n. subst (λ (o : Outcome). Fitting o.answer) (sym (accepted_by c t n).1) (accepted_fits c t b n))
