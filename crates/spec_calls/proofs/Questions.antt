-- The questions: what they answer, and when they are refused.
use Prim.Native.Nat.{ℕ, ◌+◌, ◌-◌, ◌*◌, ◌≤◌, ◌<◌}
use native.Mathlib.Omega.{arith}
use mathlib.Core.Path.{◌≡◌, refl, sym, ap, ◌∙◌}
use mathlib.Core.Logic.{◌⊎◌, inl, inr, ◌↔◌}
use mathlib.Core.Bool.{Bool, true, false, cond, not, ◌||◌}
use mathlib.Core.List.{List, [], ◌∷◌}
use lib.Dec.{T, eqb, ltb, lt→ltb}
use lib.ListN.{length}
use borrow.Author.Tests.{eqb-false, ltb-false, ne_eqb, lt-ltb, le-ltb}
use Rattle.spec_lists.specs.Lists.{within, Each}
use Rattle.spec_table.specs.Board.{load, heaviest, excess}
use Rattle.spec_table.specs.Table.{most_benches, fits, sound, decode}
use Rattle.spec_sharing.specs.Paths.{BenchPath, IsPath, improves}
use Rattle.spec_sharing.specs.Sharing.{level, tight_set, inside, density}
use Rattle.spec_calls.specs.Answers.{Refusal, first_holding, is_refused, refuse, refused_or, refused, said, sizes, unsound, bench_number, height, list_too_short, load_is, heaviest_is, tight_set_is, is_sound, level_yes, level_no}
use Rattle.spec_calls.specs.Calls.{ask, load_of, heaviest_load, tight_set_of, form_check, level_check, question_conditions, refusals, telling, answering, asked, accepted, outcome, tight_set_told}
use Rattle.spec_lists.proofs.Tests.{or_left, or_right, eqb_T, within_high, neither, true→T, T→true, never→false}
use Rattle.spec_lists.proofs.Elements.{in_each}
use Rattle.spec_table.proofs.Sound.{sound_storable}
use Rattle.spec_sharing.proofs.Paths.{level_exact, unlevel_improves}
use Rattle.spec_sharing.proofs.Levels.{level_demand2, tight_density}
use Rattle.spec_calls.proofs.Refusals.{accepted_by, refused_by_lem}
use Rattle.spec_sharing.proofs.TightSet.{tight_bench}
use Rattle.spec_table.proofs.Words.{ListLeft, in_list_lem}
use Rattle.spec_calls.proofs.ChainOrder.{sound_outcome}

-- "A refused call changes no lent byte": the lent list is as it was
pub tight_refused_leaves : (t : List ℕ) (h : ℕ) (list : List ℕ) (r : Refusal) → (outcome (ask (tight_set_of h) list) t).answer ≡ refused r → (outcome (ask (tight_set_of h) list) t).lent ≡ list
tight_refused_leaves t h list r e = (refused_by_lem (ask (tight_set_of h) list) t r e).lent

module _ (t : List ℕ) (s : T (sound t)) where
  -- bench numbers fit words
  set_small : (h : ℕ) → Each (λ w. w < 65536) (tight_set (decode t) h)
  set_small h =
      let b = decode t in
      let st = sound_storable t s in
      in_each (λ w. w < 65536) (tight_set b h) (λ x i. omega (arith, within_high 1 b.benches x (tight_bench b h x i), within_high 1 most_benches b.benches st.benches))

  -- the load of a bench of 1 to B ..
  pub load_answered : (x : ℕ) → within 1 (decode t).benches x ≡ true → (outcome (ask (load_of x) []) t).answer ≡ said (load_is (load (decode t).holders x))
  unfolding question_conditions accepted asked
  load_answered x w = ap (λ o. o.answer) (sound_outcome (ask (load_of x) []) tt t s) ∙ rw w

  -- .. and 4 for any other number
  pub load_refused : (x : ℕ) → within 1 (decode t).benches x ≡ false → (outcome (ask (load_of x) []) t).answer ≡ refused bench_number
  unfolding question_conditions accepted asked
  load_refused x w = ap (λ o. o.answer) (sound_outcome (ask (load_of x) []) tt t s) ∙ rw w

  -- a tight set of a height of 1 to the heaviest load, in a list that is long enough
  pub tight_answered : (h : ℕ) (list : List ℕ) → 1 ≤ h → h ≤ heaviest (decode t) → 2 * length (tight_set (decode t) h) ≤ length list → outcome (ask (tight_set_of h) list) t ≡ answering t (tight_set_told (decode t) (tight_set (decode t) h) list)
  unfolding question_conditions accepted asked
  tight_answered h list l u r =
      sound_outcome (ask (tight_set_of h) list) tt t s
      ∙ rw (ne_eqb h 0 (λ e. omega arith), le-ltb (heaviest (decode t)) h u, le-ltb (length list) (2 * length (tight_set (decode t) h)) r)

  -- "list shorter than the set's words" gives 8
  pub tight_list_refused : (h : ℕ) (list : List ℕ) → 1 ≤ h → h ≤ heaviest (decode t) → length list < 2 * length (tight_set (decode t) h) → (outcome (ask (tight_set_of h) list) t).answer ≡ refused list_too_short
  unfolding question_conditions accepted asked
  tight_list_refused h list l u r =
      ap (λ o. o.answer) (sound_outcome (ask (tight_set_of h) list) tt t s)
      ∙ rw (ne_eqb h 0 (λ e. omega arith), le-ltb (heaviest (decode t)) h u, lt-ltb (length list) (2 * length (tight_set (decode t) h)) r)

  -- "height 0, or above the heaviest load" gives 7
  pub tight_height_refused : (h : ℕ) (list : List ℕ) → (h ≡ 0) ⊎ (heaviest (decode t) < h) → (outcome (ask (tight_set_of h) list) t).answer ≡ refused height
  unfolding question_conditions accepted asked
  tight_height_refused h list c = ap (λ o. o.answer) (sound_outcome (ask (tight_set_of h) list) tt t s) ∙ rw (T→true (eqb h 0 || ltb (heaviest (decode t)) h) (wrong c))
    where
      wrong : (h ≡ 0) ⊎ (heaviest (decode t) < h) → T (eqb h 0 || ltb (heaviest (decode t)) h)
      wrong (inl e) = or_left (eqb h 0) (ltb (heaviest (decode t)) h) (eqb_T h 0 e)
      wrong (inr l) = or_right (eqb h 0) (ltb (heaviest (decode t)) h) (lt→ltb (heaviest (decode t)) h l)

  -- what the numbers of an accepted tight set are: "the number of benches, the number of jobs with both benches inside"
  pub record TightAnswer (h n i : ℕ) : Type 0 where
    pub low : 1 ≤ h
    pub high : h ≤ heaviest (decode t)
    pub benches : length (tight_set (decode t) h) ≡ n
    pub inside_jobs : inside (tight_set (decode t) h) (decode t).named ≡ i

  pub tight_says : (h : ℕ) (list : List ℕ) (n i : ℕ) → (outcome (ask (tight_set_of h) list) t).answer ≡ said (tight_set_is n i) → TightAnswer h n i
  unfolding refusals question_conditions accepted asked tight_set_told
  tight_says h list n i e =
      let b = decode t in
      let a = accepted_by (ask (tight_set_of h) list) t (ap is_refused e) in
      let r = neither (eqb h 0) (ltb (heaviest b) h) a.0.1.1.0 in
      let d : said (tight_set_is (length (tight_set b h)) (inside (tight_set b h) b.named)) ≡ said (tight_set_is n i) = ap (λ o. o.answer) (sym a.1) ∙ e in
      record { low = positive h (eqb-false h 0 r.0); high = ltb-false (heaviest b) h r.1; benches = cc; inside_jobs = cc }
    where
      positive : (h : ℕ) → (h ≡ 0 → ⊥) → 1 ≤ h
      positive h f = omega arith

  -- "the bench numbers, rising, as words in a lent list of bytes; the list beyond them is untouched"
  pub tight_list : (h : ℕ) (list : List ℕ) (n i : ℕ) → (outcome (ask (tight_set_of h) list) t).answer ≡ said (tight_set_is n i) → ListLeft (tight_set (decode t) h) n list (outcome (ask (tight_set_of h) list) t).lent
  unfolding refusals question_conditions accepted asked tight_set_told
  tight_list h list n i e =
      let set = tight_set (decode t) h in
      let a = accepted_by (ask (tight_set_of h) list) t (ap is_refused e) in
      let k = ltb-false (length list) (2 * length set) a.0.1.1.1.0 in
      rw (sym (tight_says h list n i e).benches, ap (λ o. o.lent) a.1) (in_list_lem set list (set_small h) k)

  -- "On a level table, inside jobs less (h − 1) × benches is the overhang above h − 1."
  pub tight_excess : T (level (decode t)) → (h : ℕ) (list : List ℕ) (n i : ℕ) → (outcome (ask (tight_set_of h) list) t).answer ≡ said (tight_set_is n i) → i ≡ (h - 1) * n + excess (decode t).benches (decode t).holders (h - 1)
  tight_excess l h list n i e =
      let a = tight_says h list n i e in
      rw (sym a.benches, sym a.inside_jobs) ((level_demand2 (decode t) (sound_storable t s).valid l).heights h a.low a.high)

  -- "its tight set proves it": at the heaviest load the inside jobs for each bench, rounded up, are just that many
  pub tight_heaviest : T (level (decode t)) → (list : List ℕ) (n i : ℕ) → (outcome (ask (tight_set_of (heaviest (decode t))) list) t).answer ≡ said (tight_set_is n i) → density i n ≡ heaviest (decode t)
  tight_heaviest l list n i e =
      let a = tight_says (heaviest (decode t)) list n i e in
      rw (sym a.benches, sym a.inside_jobs) (tight_density (decode t) (sound_storable t s).valid l a.low)

  -- the heaviest load
  pub heaviest_answered : (outcome (ask heaviest_load []) t).answer ≡ said (heaviest_is (heaviest (decode t)))
  unfolding question_conditions accepted asked
  heaviest_answered = ap (λ o. o.answer) (sound_outcome (ask heaviest_load []) tt t s)

  level_answered : (outcome (ask level_check []) t).answer ≡ said (cond (level (decode t)) level_yes level_no)
  unfolding question_conditions accepted asked
  level_answered = ap (λ o. o.answer) (sound_outcome (ask level_check []) tt t s)

  -- the level check says yes exactly if no improving path exists ..
  pub level_check_yes : ((outcome (ask level_check []) t).answer ≡ said level_yes) ↔ ((p : BenchPath) → IsPath (decode t) p → T (improves (decode t) p) → ⊥)
  level_check_yes =
      let v = (sound_storable t s).valid in
      (λ e. (level_exact (decode t) v).0 (says (level (decode t)) (sym level_answered ∙ e)), λ f. level_answered ∙ rw (T→true (level (decode t)) ((level_exact (decode t) v).1 f)))
    where
      says : (z : Bool) → said (cond z level_yes level_no) ≡ said level_yes → T z
      says true e = tt
      says false e = true→T false cc

  -- .. so that the board is level by its definition ..
  pub level_check_level : (outcome (ask level_check []) t).answer ≡ said level_yes → level (decode t) ≡ true
  level_check_level e = T→true (level (decode t)) ((level_exact (decode t) (sound_storable t s).valid).1 (level_check_yes.0 e))

  -- .. and no exactly if one does
  pub level_check_no : ((outcome (ask level_check []) t).answer ≡ said level_no) ↔ ((p : BenchPath) × IsPath (decode t) p × T (improves (decode t) p))
  level_check_no =
      let v = (sound_storable t s).valid in
      (λ e. unlevel_improves (decode t) (says (level (decode t)) (sym level_answered ∙ e)), λ q. level_answered ∙ rw (never→false (level (decode t)) (λ l. (level_exact (decode t) v).0 l q.0 q.1 q.2)))
    where
      says : (z : Bool) → said (cond z level_yes level_no) ≡ said level_no → T (not z)
      says true e = true→T false cc
      says false e = tt

-- "The form check returns 1, 2 or sound", for any bytes
pub form_check_lem : (t : List ℕ) → (outcome (ask form_check []) t).answer ≡ cond (fits t) (cond (sound t) (said is_sound) (refused unsound)) (refused sizes)
unfolding outcome refusals question_conditions asked accepted
form_check_lem t = go (fits t) (sound t)
  where
    go : (f z : Bool) → (refused_or (first_holding (refuse sizes (not f) ∷ refuse unsound (not z) ∷ [])) t [] (answering t (telling is_sound []))).answer ≡ cond f (cond z (said is_sound) (refused unsound)) (refused sizes)
    go true true = refl
    go true false = refl
    go false true = refl
    go false false = refl
