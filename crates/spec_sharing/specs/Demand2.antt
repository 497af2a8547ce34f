-- Demand 2: what is claimed of a level board, and of what an arrival, a closing and a levelling report.
use Rattle.std.specs.Prelude.{ℕ, suc, ◌+◌, ◌-◌, ◌*◌, ◌≤◌, ◌≡◌, ◌≢◌, ◌↔◌, not, ◌&&◌, List, [], T, eqb, length}
use Rattle.std.proofs.Math.Option.{some}
use Rattle.spec_lists.specs.Lists.{bit, total, distinct, In, update}
use Rattle.spec_table.specs.Board.{Board, holder_of, standing, load, heaviest, excess, Shares, held_by}
use Rattle.spec_sharing.specs.Paths.{BenchPath, flip}
use Rattle.spec_sharing.specs.Sharing.{levelling_choice, tight_set, inside, density}

-- above every height the overhang is at most that of every other sharing of the same jobs
abbrev pub LeastExcess : Board → Type 0
LeastExcess b =
    (h : ℕ) (holders : List ℕ) → Shares b.named holders →
    excess b.benches b.holders h ≤ excess b.benches holders h

-- what demand 2 claims of a level board
pub record Demand2 (b : Board) : Type 0 where
  -- the board's own sharing is an orientation ..
  pub orientation : Shares b.named b.holders
  -- .. and "the heaviest load is the least over all orientations" (000: the least maximum out-degree)
  pub no_lower : (holders : List ℕ) → Shares b.named holders → heaviest b ≤ heaviest (held_by b holders)
  -- "its tight set proves it": where jobs stand, the tight set at the heaviest load has inside jobs for each bench,
  -- rounded up, just that many
  pub tight :
      1 ≤ standing b → let set = tight_set b (heaviest b) in density (inside set b.named) (length set) ≡ heaviest b
  -- "inside jobs less (h − 1) × benches is the overhang above h − 1"; the sum says that nothing is cut off below 0
  pub heights :
      (h : ℕ) → 1 ≤ h → h ≤ heaviest b →
      let set = tight_set b h in inside set b.named ≡ (h - 1) * length set + excess b.benches b.holders (h - 1)

-- the loads of benches 1 to B are the same but for bench x, whose load is one more in `more`
pub record OneMore (benches : ℕ) (less more : List ℕ) (x : ℕ) : Type 0 where
  pub positive : 1 ≤ x
  pub bench : x ≤ benches
  pub here : load more x ≡ suc (load less x)
  pub elsewhere : (y : ℕ) → 1 ≤ y → y ≤ benches → y ≢ x → load more y ≡ load less y

-- how many jobs other than j have another holder afterwards
abbrev pub handed : ℕ → Board → Board → ℕ
handed j before after =
    total (length before.named) (λ i. bit (not (eqb i j) && not (eqb (holder_of after i) (holder_of before i))))

-- 02: a list of "those that changed holder, the new job left out": just the jobs but j that have another holder
-- afterwards, each once
pub record Moved (j : ℕ) (before after : Board) (list : List ℕ) : Type 0 where
  pub exact : (i : ℕ) → In i list ↔ ((i ≢ j) × (holder_of after i ≢ holder_of before i))
  pub once : T (distinct list)

-- an arrival of job j for these benches reports "the bench that holds the new job in the end, the bench whose load
-- rose, and the number of other jobs that changed holder"; 02: and lists them
pub record ArrivalReport (before after : Board) (j : ℕ) (names : List ℕ) (holder rose moved : ℕ) (list : List ℕ) : Type 0 where
  pub benches : after.benches ≡ before.benches
  pub jobs : after.named ≡ update before.named j names
  pub in_the_end : holder_of after j ≡ holder
  pub one_rose : OneMore before.benches before.holders after.holders rose
  pub others : handed j before after ≡ moved
  pub listed : Moved j before after list
  pub number : length list ≡ moved

-- a closing of job j reports "the bench whose load fell, and the jobs that changed holder"; 02: and lists them
pub record ClosingReport (before after : Board) (j fell moved : ℕ) (list : List ℕ) : Type 0 where
  pub benches : after.benches ≡ before.benches
  pub jobs : after.named ≡ update before.named j []
  pub one_fell : OneMore before.benches after.holders before.holders fell
  pub others : handed j before after ≡ moved
  pub listed : Moved j before after list
  pub number : length list ≡ moved

-- n paths are turned between two boards, each the one that the rule names
pub data Flips : ℕ → Board → Board → Type 0 where
  no_flip : (b : Board) → Flips 0 b b
  flipThen :
      (n : ℕ) (b c : Board) (p : BenchPath) → levelling_choice b ≡ some p → Flips n (flip b p) c → Flips (suc n) b c

-- a levelling reports "the paths turned", within the allowance; no job and no named bench changes
pub record LevellingReport (before after : Board) (allowance paths : ℕ) : Type 0 where
  pub benches : after.benches ≡ before.benches
  pub jobs : after.named ≡ before.named
  pub flipped : Flips paths before after
  pub allowed : paths ≤ allowance
