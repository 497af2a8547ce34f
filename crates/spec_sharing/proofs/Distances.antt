-- Distances of benches, by the steps of a shortest walk; and that a job leads to one bench only, on every board that a table can hold.
use Prim.Native.Nat.{ℕ, suc, ◌≤◌}
use native.Mathlib.Omega.{arith}
use mathlib.Core.Path.{◌≡◌, sym, subst}
use mathlib.Core.List.{List, [], ◌∷◌}
use lib.Dec.{T, leb}
use lib.ListN.{length}
use Rattle.spec_lists.specs.Lists.{within, Each, In}
use Rattle.spec_table.specs.Board.{Board, Valid, names_of, holder_of}
use Rattle.spec_sharing.specs.Paths.{Step, steps, end_of, Walk}
use Rattle.spec_table.specs.Table.{most_jobs, paired, Storable}
use Rattle.spec_lists.proofs.Tests.{T-eqb, leb_T, within_low, within_high, within_both}
use Rattle.spec_lists.proofs.Elements.{each_in, in_each, each_nth}
use Rattle.spec_lists.proofs.NumberLists.{one_other}
use Rattle.spec_table.proofs.Named.{shares_nth, held_named, named_stands, stands_within}
use Rattle.spec_sharing.proofs.Paths.{step_is, step_bench}

module _ (benches : ℕ) (out : ℕ → List Step) where
  -- for every bench of 1 to B: one more than the steps of a shortest walk from there to t, 0 where no walk leads to t
  pub record To (t : ℕ) (d : ℕ → ℕ) : Type 0 where
    pub walk : (x n : ℕ) → T (within 1 benches x) → d x ≡ suc n → (r : List Step) × Walk out x r × (end_of x r ≡ t) × (length r ≡ n)
    pub short : (x : ℕ) (r : List Step) → T (within 1 benches x) → Walk out x r → end_of x r ≡ t → (1 ≤ d x) × (d x ≤ suc (length r))

  -- the same from v to every bench
  pub record Away (v : ℕ) (f : ℕ → ℕ) : Type 0 where
    pub walk : (y n : ℕ) → T (within 1 benches y) → f y ≡ suc n → (r : List Step) × Walk out v r × (end_of v r ≡ y) × (length r ≡ n)
    pub short : (y : ℕ) (r : List Step) → T (within 1 benches y) → Walk out v r → end_of v r ≡ y → (1 ≤ f y) × (f y ≤ suc (length r))

  -- a job leads from its holder to one bench only, as every job that names two does
  abbrev pub OneOther : Type 0
  OneOther = (x : ℕ) (s q : Step) → In s (out x) → In q (out x) → s.job ≡ q.job → s.to ≡ q.to

-- on a board whose jobs name at most two benches each, a job leads to one bench only ..
pub pairs_one_other : (b : Board) → Valid b → Each (λ names. T (leb (length names) 2)) b.named → OneOther b.benches (steps b)
pairs_one_other b v p x s q i j e =
    let k = step_is b x s i in
    let m = step_is b x q j in
    let names = names_of b s.job in
    let two : T (leb (length names) 2) = each_nth (λ names. T (leb (length names) 2)) b.named s.job [] tt p in
    let held = held_named names (holder_of b s.job) s.to k.1 (shares_nth b v s.job) in
    one_other names x s.to q.to two (subst (λ (h : ℕ). In h names) k.0 held) k.1 (subst (λ (j : ℕ). In q.to (names_of b j)) (sym e) m.1) k.2 m.2

-- .. so on every board that a table can hold
pub storable_one_other : (b : Board) → Storable b → OneOther b.benches (steps b)
storable_one_other b k =
    pairs_one_other b k.valid (in_each (λ names. T (leb (length names) 2)) b.named (λ names i. two names (each_in Pair names b.named k.pairs i)))
  where
    Pair : List ℕ → Type 0
    Pair names = T (paired names)

    two : (names : List ℕ) → Pair names → T (leb (length names) 2)
    two [] t = tt
    two (x ∷ names) t = leb_T (length (x ∷ names)) 2 (omega (arith, T-eqb (length (x ∷ names)) 2 t))

-- the steps of such a board are by jobs that there can be, to its benches
pub storable_steps : (b : Board) → Storable b → (x : ℕ) (s : Step) → In s (steps b x) → T (within 1 most_jobs s.job) × T (within 1 b.benches s.to)
storable_steps b k x s i =
    let w = stands_within b s.job (named_stands b s.job s.to (step_is b x s i).1) in
    let n = within_high 1 most_jobs (length b.named) k.jobs in
    let m = within_high 1 (length b.named) s.job w in
    (within_both 1 most_jobs s.job (within_low 1 (length b.named) s.job w) (omega arith), step_bench b k.valid x s i)
