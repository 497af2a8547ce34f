-- The pair question from its walks: what the first one leaves for the second, and what both of them answer.
use Rattle.std.specs.Prelude.{Option, Some, None, Result, Ok, Err}
use Rattle.std.specs.Option.{option_or}
use Prim.Native.Nat.{ℕ, suc, ◌+◌, ◌*◌, ◌≤◌}
use native.Mathlib.Omega.{arith}
use mathlib.Core.Path.{◌≡◌, refl, sym, ap, subst, ◌∙◌}
use mathlib.Core.Logic.{◌⊎◌}
use mathlib.Core.Bool.{true, false}
use mathlib.Core.List.{List, [], ◌∷◌}
use mathlib.Core.Option.{none, some}
use lib.Dec.{T}
use lib.ListN.{length, length-append}
use Rattle.spec_lists.specs.Lists.{within, nth}
use Rattle.spec_table.specs.Board.{names_fit}
use Rattle.spec_table.specs.Table.{most_jobs, chains}
use Rattle.spec_pair.specs.Pair.{End, broken, unmatched, matched, Walk, walk, met_by, is_broken, first_walk, second_walk, unreadable_pair, records_read, job_found}
use Rattle.spec_calls.specs.Answers.{said}
use Rattle.spec_calls.specs.Calls.{between, between_told, between_fact, outcome}
use Rattle.spec_lists.proofs.Tests.{true→T}
use Rattle.spec_table.proofs.Named.{pair_misfits}
use Rattle.spec_pair.proofs.Walks.{pair_read, found_second, found_first}
use Rattle.spec_calls.proofs.Pairs.{between_sizes_refused, between_benches_refused, between_unreadable_refused, between_answered}
use Rattle.table_words.specs.Bytes.{layout_in}
use Rattle.table_size.specs.Sizes.{SizeOf, SizeIn}
use Rattle.table_size.proofs.Sizes.{misfit_size}
use Rattle.table_size.specs.declared.Size.{Size}
use Rattle.table_refusals.specs.declared.Refusal.{Refusal}
use Rattle.table_refusals.specs.declared.Refusal.TheVariants as code
use Rattle.table_pair.specs.Walking.{match_in, end_of, walk_of}
use Rattle.table_pair.specs.declared.Walked.{Walked}
use Rattle.board_answers.specs.declared.Answer.{Answer}
use Rattle.board_answers.specs.Answered.{accepted_of, Leaves}
use Rattle.board_answers.proofs.Formal.{answered_leaves, refused_leaves}

-- a job's number as a match
match_in_lem : (j : ℕ) → 1 ≤ j → match_in (Some j) ≡ some j
match_in_lem j l = refl

-- a walk that the code tells as refused is broken ..
walk_refused : (w : Walk) {r : Refusal} → Err r ≡ walk_of w → (w.end ≡ broken) × (r ≡ code.Unsound)
walk_refused w {r} e = go w.end refl e
  where
    go : (z : End) → w.end ≡ z → Err r ≡ end_of z (length w.read) → (w.end ≡ broken) × (r ≡ code.Unsound)
    go broken h d = (h, cc)
    go unmatched h d = absurd (true→T false cc)
    go (matched j) h d = absurd (true→T false cc)

-- .. and any other ends with what it found, or without a match
abbrev found_end : Option ℕ → End
found_end None = unmatched
found_end (Some j) = matched j

found_unbroken : (o : Option ℕ) → is_broken (found_end o) ≡ false
found_unbroken None = refl
found_unbroken (Some j) = refl

found_met : (o : Option ℕ) → met_by (found_end o) ≡ match_in o
found_met None = refl
found_met (Some j) = refl

-- a walk that the code tells has this end, and this many records
pub record WalkRead (w : Walk) (v : Walked) : Type 0 where
  pub end : w.end ≡ found_end v.job
  pub records : length w.read ≡ v.records

walk_read : (w : Walk) {v : Walked} → Ok v ≡ walk_of w → WalkRead w v
walk_read w {v} e = go w.end refl e
  where
    go : (z : End) → w.end ≡ z → Ok v ≡ end_of z (length w.read) → WalkRead w v
    go broken h d = absurd (true→T false cc)
    go unmatched h d =
        let same : v ≡ record { job = None; records = length w.read } = cc in
        record { end = h ∙ sym (ap (λ v. found_end v.job) same); records = sym (ap (λ v. v.records) same) }
    go (matched j) h d =
        let same : v ≡ record { job = Some j; records = length w.read } = cc in
        record { end = h ∙ sym (ap (λ v. found_end v.job) same); records = sym (ap (λ v. v.records) same) }

-- a table without a size is refused with 1 ..
pub misfit_refused : (t : List ℕ) (x y : ℕ) {r : Refusal} → SizeIn t (Err r) → Leaves (outcome (between x y) t) (Err r) t []
misfit_refused t x y {r} e =
    rw e.value.refusal (refused_leaves code.Sizes (between x y) t (between_sizes_refused x y t (misfit_size t e)))

module _ {t : List ℕ} {s : Size} (z : SizeOf t s) (x y : ℕ) where
  -- .. benches that are not two different ones of 1 to B with 4
  pub benches_refused : (within 1 s.benches x ≡ false) ⊎ (within 1 s.benches y ≡ false) ⊎ (x ≡ y) → Leaves (outcome (between x y) t) (Err code.BenchNumber) t []
  benches_refused w =
      let misfit = ap (λ b. names_fit b (x ∷ y ∷ [])) z.benches ∙ pair_misfits s.benches x y w in
      refused_leaves code.BenchNumber (between x y) t (between_benches_refused x y t z.fit misfit)

  module _ (f : T (names_fit s.benches (x ∷ y ∷ []))) where
    in_layout : T (names_fit (layout_in t).benches (x ∷ y ∷ []))
    in_layout = subst (λ b. T (names_fit b (x ∷ y ∷ []))) (sym z.benches) f

    -- a broken walk gives 2
    pair_refused : unreadable_pair (layout_in t) x y ≡ true → Leaves (outcome (between x y) t) (Err code.Unsound) t []
    pair_refused u = refused_leaves code.Unsound (between x y) t (between_unreadable_refused x y t z.fit in_layout u)

    -- the first walk as the code tells it
    abbrev first_told : Result Walked Refusal
    first_told = walk_of (walk (layout_in t) x y none 0 (nth (chains (layout_in t)) x []))

    pub first_refused : {r : Refusal} → Err r ≡ first_told → Leaves (outcome (between x y) t) (Err r) t []
    unfolding unreadable_pair first_walk
    first_refused e =
        let w = walk_refused (first_walk (layout_in t) x y) e in
        rw w.1 (pair_refused (rw w.0))

    -- any other first walk leaves its match and its records for the second
    pub first_read : {v : Walked} → Ok v ≡ first_told → WalkRead (first_walk (layout_in t) x y) v
    unfolding first_walk
    first_read e = walk_read (first_walk (layout_in t) x y) e

    module _ {v : Walked} (r : WalkRead (first_walk (layout_in t) x y) v) where
      -- the first walk is not broken, and met what it found
      first_unbroken : is_broken (first_walk (layout_in t) x y).end ≡ false
      first_unbroken = ap is_broken r.end ∙ found_unbroken v.job

      first_met : met_by (first_walk (layout_in t) x y).end ≡ match_in v.job
      first_met = ap met_by r.end ∙ found_met v.job

      -- the second walk as the code tells it: it begins with the match that the first has left
      abbrev second_told : Result Walked Refusal
      second_told = walk_of (walk (layout_in t) y x (match_in v.job) 0 (nth (chains (layout_in t)) y []))

      second_is : second_told ≡ walk_of (second_walk (layout_in t) x y)
      unfolding second_walk
      second_is = ap (λ m. walk_of (walk (layout_in t) y x m 0 (nth (chains (layout_in t)) y []))) (sym first_met)

      pub second_refused : {q : Refusal} → Err q ≡ second_told → Leaves (outcome (between x y) t) (Err q) t []
      unfolding unreadable_pair
      second_refused e =
          let w = walk_refused (second_walk (layout_in t) x y) (e ∙ second_is) in
          rw w.1 (pair_refused (rw (first_unbroken, w.0)))

      pub second_read : {u : Walked} → Ok u ≡ second_told → WalkRead (second_walk (layout_in t) x y) u
      second_read e = walk_read (second_walk (layout_in t) x y) (e ∙ second_is)

      module _ {u : Walked} (w : WalkRead (second_walk (layout_in t) x y) u) where
        second_unbroken : is_broken (second_walk (layout_in t) x y).end ≡ false
        second_unbroken = ap is_broken w.end ∙ found_unbroken u.job

        -- the records of both ..
        records_read_lem : length (records_read (layout_in t) x y) ≡ v.records + u.records
        unfolding records_read
        records_read_lem =
            rw first_unbroken (length-append (first_walk (layout_in t) x y).read (second_walk (layout_in t) x y).read ∙ omega (arith, r.records, w.records))

        -- .. are few
        pub both_few : v.records + u.records ≤ 2 * suc most_jobs
        both_few = omega (arith, records_read_lem, pair_read (layout_in t) x y, z.jobs, z.limits.jobs_most)

        -- a match of the second is the answer, since no number above the first match is read; without one the first is
        found : job_found (layout_in t) x y ≡ match_in (option_or u.job v.job)
        found = go u.job w.end
          where
            go : (o : Option ℕ) → (second_walk (layout_in t) x y).end ≡ found_end o → job_found (layout_in t) x y ≡ match_in (option_or o v.job)
            go None e = found_first (layout_in t) x y e ∙ first_met
            go (Some j) e = found_second (layout_in t) x y j e

        pub pair_answered : (a : Answer) {o : Option ℕ} → o ≡ option_or u.job v.job → accepted_of a ≡ said (between_fact (match_in o) (v.records + u.records)) → Leaves (outcome (between x y) t) (Ok a) t []
        unfolding between_told unreadable_pair
        pair_answered a q e =
            let fact = ap (λ k. said (between_fact (job_found (layout_in t) x y) k)) records_read_lem ∙ ap (λ m. said (between_fact m (v.records + u.records))) (found ∙ ap match_in (sym q)) ∙ sym e in
            answered_leaves (between_answered x y t z.fit in_layout (rw (first_unbroken, second_unbroken)) ∙ (λ i. record { answer = fact i; table = t; lent = [] }))
