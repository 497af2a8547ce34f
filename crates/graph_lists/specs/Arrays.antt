-- Arrays of numbers, and what the steps of a relation reach. An index is a bench or a job, from 1 on; what stands at 0
-- does not count.
use Rattle.std.specs.Prelude.{ℕ, ◌+◌, ◌≤◌, ◌<◌, ◌≡◌, Bool, true, false, List, length, get_or}
use Rattle.spec_table.specs.Table.{most_benches}
use Rattle.table_size.specs.declared.Size.{Size}

-- what a test tells
abbrev pub Tells : Type 0 → Bool → Type 0
Tells P true = P
Tells P false = P → ⊥

-- the number at place i, 0 beyond the array
abbrev pub at : List ℕ → ℕ → ℕ
at l i = get_or l i 0

-- z is reached from x by steps of a relation
pub data Reached (Joined : ℕ → ℕ → Type 0) : ℕ → ℕ → Type 0 where
  here : (x : ℕ) → Reached Joined x x
  step : (x y z : ℕ) → Joined x y → Reached Joined y z → Reached Joined x z

-- loads of benches 1 to B, none above the number of jobs, and 0 beyond them
pub record LoadsIn (s : Size) (loads : List ℕ) : Type 0 where
  pub most : (x : ℕ) → 1 ≤ x → at loads x ≤ s.jobs
  pub beyond : (x : ℕ) → s.benches < x → at loads x ≡ 0
  pub long : length loads ≡ most_benches + 1
