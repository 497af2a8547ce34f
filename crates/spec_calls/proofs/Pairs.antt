-- The question for a job between two benches: when it is refused, in which order, and what it answers.
use Prim.Native.Nat.{ℕ, ◌+◌, ◌≤◌}
use mathlib.Core.Path.{◌≡◌, refl, sym, ap, subst, ◌∙◌}
use mathlib.Core.Bool.{Bool, true, false}
use mathlib.Core.List.{List, [], ◌∷◌}
use mathlib.Core.Option.{Option, none, some}
use lib.Dec.{T}
use lib.ListN.{length}
use Rattle.spec_table.specs.Board.{load, names_fit}
use Rattle.spec_table.specs.Table.{words, layout, fits, sound, board_of, decode, all_rise}
use Rattle.spec_pair.specs.Pair.{unreadable_pair, records_read, job_found, stands_between, lowest_between, AgreeFor}
use Rattle.spec_calls.specs.Answers.{is_refused, refused, said, sizes, unsound, bench_number, job_between, none_between}
use Rattle.spec_calls.specs.Calls.{between, between_conditions, between_fact, between_told, answering, refusals, accepted, outcome}
use Rattle.spec_lists.proofs.Tests.{T→true, true→T, not_false}
use Rattle.spec_table.proofs.Clauses.{sound_fits}
use Rattle.spec_pair.proofs.Everything.{sound_few, rising_readable, rising_everything, sound_found, sound_none}
use Rattle.spec_pair.proofs.Local.{agree_fits, local}
use Rattle.spec_calls.proofs.Refusals.{accepted_by}

-- a fact tells the job, or none, and the records
same_fact : (m o : Option ℕ) (n k : ℕ) → said (between_fact m n) ≡ said (between_fact o k) → (m ≡ o) × (n ≡ k)
same_fact none none n k e = (refl, cc)
same_fact none (some j) n k e = absurd (true→T false cc)
same_fact (some i) none n k e = absurd (true→T false cc)
same_fact (some i) (some j) n k e = (let same : i ≡ j = cc in ap (λ j. some j) same, cc)

module _ (x y : ℕ) (t : List ℕ) where
  -- 1: the sizes do not fit
  pub between_sizes_refused : fits t ≡ false → (outcome (between x y) t).answer ≡ refused sizes
  unfolding outcome refusals between_conditions
  between_sizes_refused f = rw f

  module _ (f : T (fits t)) where
    -- 4: a bench is none of 1 to B, or both are the same; 2 has not been looked for yet
    pub between_benches_refused : names_fit (layout (words t)).benches (x ∷ y ∷ []) ≡ false → (outcome (between x y) t).answer ≡ refused bench_number
    unfolding outcome refusals between_conditions
    between_benches_refused n = rw (T→true (fits t) f, n)

    module _ (n : T (names_fit (layout (words t)).benches (x ∷ y ∷ []))) where
      -- 2: a record to be read may not be
      pub between_unreadable_refused : unreadable_pair (layout (words t)) x y ≡ true → (outcome (between x y) t).answer ≡ refused unsound
      unfolding outcome refusals between_conditions
      between_unreadable_refused u =
          rw (T→true (fits t) f, T→true (names_fit (layout (words t)).benches (x ∷ y ∷ [])) n, u)

      -- any other is answered
      pub between_answered : unreadable_pair (layout (words t)) x y ≡ false → outcome (between x y) t ≡ answering t (between_told x y t)
      unfolding outcome refusals between_conditions accepted
      between_answered u =
          rw (T→true (fits t) f, T→true (names_fit (layout (words t)).benches (x ∷ y ∷ [])) n, u)

  -- what an answer says: a job or none (m), and the records read (n)
  pub record BetweenAnswer (m : Option ℕ) (n : ℕ) : Type 0 where
    pub sizes : T (fits t)
    pub benches : T (names_fit (layout (words t)).benches (x ∷ y ∷ []))
    pub readable : unreadable_pair (layout (words t)) x y ≡ false
    pub job : job_found (layout (words t)) x y ≡ m
    pub records : length (records_read (layout (words t)) x y) ≡ n

  pub between_says : (m : Option ℕ) (n : ℕ) → (outcome (between x y) t).answer ≡ said (between_fact m n) → BetweenAnswer m n
  unfolding refusals between_conditions accepted between_told
  between_says m n e =
      let a = accepted_by (between x y) t (ap is_refused e) in
      let l = layout (words t) in
      let same = same_fact (job_found l x y) m (length (records_read l x y)) n (ap (λ o. o.answer) (sym a.1) ∙ e) in
      record {
        sizes = not_false (fits t) a.0.0;
        benches = not_false (names_fit l.benches (x ∷ y ∷ [])) a.0.1.0;
        readable = a.0.1.1.0;
        job = same.0;
        records = same.1;
      }

module _ (x y : ℕ) (t : List ℕ) (s : T (sound t)) where
  -- "Report the records read, at most the two loads added on a sound table", whatever the order of its chains
  pub between_few : (m : Option ℕ) (n : ℕ) → (outcome (between x y) t).answer ≡ said (between_fact m n) → n ≤ load (decode t).holders x + load (decode t).holders y
  unfolding decode board_of
  between_few m n e =
      let a = between_says x y t m n e in
      subst (λ k. k ≤ load (decode t).holders x + load (decode t).holders y) a.records (sound_few t s x y a.benches)

  -- a job that is answered stands between the two benches, and where none is, none does, whatever the order ..
  pub between_stands : (j n : ℕ) → (outcome (between x y) t).answer ≡ said (job_between j n) → T (stands_between (decode t) x y j)
  unfolding decode board_of
  between_stands j n e = let a = between_says x y t (some j) n e in sound_found t s x y a.benches j a.job

  pub between_none : (n : ℕ) → (outcome (between x y) t).answer ≡ said (none_between n) → (j : ℕ) → T (stands_between (decode t) x y j) → ⊥
  unfolding decode board_of
  between_none n e = let a = between_says x y t none n e in sound_none t s x y a.benches a.readable a.job

  -- .. and "On a sound table with rising chains the answer is that of reading everything": two different benches of 1 to B are
  -- always answered so
  pub between_everything : T (all_rise t) → T (names_fit (decode t).benches (x ∷ y ∷ [])) →
      (outcome (between x y) t).answer ≡ said (between_fact (lowest_between (decode t) x y) (length (records_read (layout (words t)) x y)))
  unfolding decode board_of between_told
  between_everything a f =
      ap (λ o. o.answer) (between_answered x y t (sound_fits t s) f (rising_readable t s x y f a))
      ∙ ap (λ m. said (between_fact m (length (records_read (layout (words t)) x y)))) (rising_everything t s x y f a)

-- "Only records to be read are tested": whatever the bytes are, tables that agree in what is looked at are answered alike
pub between_local : (x y : ℕ) (t u : List ℕ) → AgreeFor x y t u → (outcome (between x y) u).answer ≡ (outcome (between x y) t).answer
unfolding between_told layout
between_local x y t u a = sized (fits t) refl
  where
    b : Bool
    b = names_fit (layout (words t)).benches (x ∷ y ∷ [])

    benches : names_fit (layout (words u)).benches (x ∷ y ∷ []) ≡ b
    benches = ap (λ n. names_fit n (x ∷ y ∷ [])) a.benches

    sizes_too : T (fits t) → T (fits u)
    sizes_too = subst T (sym (agree_fits x y t u a))

    benches_too : T b → T (names_fit (layout (words u)).benches (x ∷ y ∷ []))
    benches_too = subst T (sym benches)

    read : T (fits t) → T b → (z : Bool) → unreadable_pair (layout (words t)) x y ≡ z → (outcome (between x y) u).answer ≡ (outcome (between x y) t).answer
    read f n true e =
        between_unreadable_refused x y u (sizes_too f) (benches_too n) ((local x y t u f n a).broken ∙ e) ∙ sym (between_unreadable_refused x y t f n e)
    read f n false e =
        let same = local x y t u f n a in
        let told : said (between_fact (job_found (layout (words u)) x y) (length (records_read (layout (words u)) x y))) ≡ said (between_fact (job_found (layout (words t)) x y) (length (records_read (layout (words t)) x y))) = rw (same.job e, same.read) in
        ap (λ o. o.answer) (between_answered x y u (sizes_too f) (benches_too n) (same.broken ∙ e)) ∙ told ∙ ap (λ o. o.answer) (sym (between_answered x y t f n e))

    named : T (fits t) → (z : Bool) → b ≡ z → (outcome (between x y) u).answer ≡ (outcome (between x y) t).answer
    named f true e = read f (true→T b e) (unreadable_pair (layout (words t)) x y) refl
    named f false e =
        between_benches_refused x y u (sizes_too f) (benches ∙ e) ∙ sym (between_benches_refused x y t f e)

    sized : (z : Bool) → fits t ≡ z → (outcome (between x y) u).answer ≡ (outcome (between x y) t).answer
    sized true e = named (true→T (fits t) e) b refl
    sized false e = between_sizes_refused x y u (agree_fits x y t u a ∙ e) ∙ sym (between_sizes_refused x y t e)
