-- 01, "Sharing": the choice of a path, arrival, closing, levelling, tight set.
use Rattle.std.specs.Prelude.{ℕ, zero, suc, ◌+◌, ◌-◌, ◌/◌, Bool, cond, not, ◌&&◌, ◌||◌, eqb, leb, ltb, length}
use mathlib.Core.List.{List, [], ◌∷◌, map, flat_map}
use Rattle.std.proofs.Math.Option.{Option, none, some}
use Rattle.spec_lists.specs.Lists.{bit, member, range, filter, all, empty, argmin}
use Rattle.spec_table.specs.Board.{Board, holder_of, put, load, heaviest}
use Rattle.spec_sharing.specs.Paths.{BenchPath, steps, last, jobs, improving_from, improving_to, improving, flip}

-- how far bench x is below the heaviest: the greatest load comes first
abbrev pub below : Board → ℕ → ℕ
below b x = heaviest b - load b.holders x

-- "lowest last load, then fewest jobs, then lowest last bench, then the list of job numbers that is first in
-- dictionary order"
abbrev pub arrival_key : Board → BenchPath → List ℕ
arrival_key b p = load b.holders (last p) ∷ length p.route ∷ last p ∷ jobs p

-- "greatest first load, then fewest jobs, lowest first bench, first list"
abbrev pub closing_key : Board → BenchPath → List ℕ
closing_key b p = below b p.start ∷ length p.route ∷ p.start ∷ jobs p

-- "first bench of greatest load among those that start one, then lowest number, then the arrival's order"
abbrev pub levelling_key : Board → BenchPath → List ℕ
levelling_key b p = below b p.start ∷ p.start ∷ arrival_key b p

-- "of the improving paths from that bench, one is turned"
unfoldable pub arrival_choice : Board → ℕ → Option BenchPath
arrival_choice b x = argmin (arrival_key b) (improving_from b x)

-- "Of the improving paths that end at the bench that held it, one is turned"
unfoldable pub closing_choice : Board → ℕ → Option BenchPath
closing_choice b x = argmin (closing_key b) (improving_to b x)

-- the path that levelling turns next
unfoldable pub levelling_choice : Board → Option BenchPath
levelling_choice b = argmin (levelling_key b) (improving b)

-- an arrival's or closing's result: the board, the bench whose load changed, and the other jobs that changed holder,
-- in path order
pub record Change : Type 0 where
  pub board : Board
  pub bench : ℕ
  pub moved : List ℕ

-- of x and the others the lightest bench, the first-named if they are equal
abbrev pub lightest : List ℕ → ℕ → List ℕ → ℕ
lightest holders x [] = x
lightest holders x (y ∷ others) =
    lightest holders (cond (ltb (load holders y) (load holders x)) y x) others

-- "The lighter named bench gets the job; if they are equal, the first-named."
abbrev pub lightest_named : List ℕ → List ℕ → ℕ
lightest_named holders [] = 0
lightest_named holders (x ∷ others) = lightest holders x others

-- the board in which bench x has just got job j, after the path was turned: the load rises at the path's last bench
abbrev pub after_arrival : Board → ℕ → ℕ → Option BenchPath → Change
after_arrival b j x none = record { board = b; bench = x; moved = [] }
after_arrival b j x (some p) =
    record { board = flip b p; bench = last p; moved = filter (λ i. not (eqb i j)) (jobs p) }

-- arrival of job j
unfoldable pub arrive : Board → ℕ → List ℕ → Change
arrive b j names =
    let x = lightest_named b.holders names in
    let c = put b j names x in
    after_arrival c j x (arrival_choice c x)

-- the board in which bench x has just lost a job, after the path was turned: the load falls at the path's first bench
abbrev pub after_closing : Board → ℕ → Option BenchPath → Change
after_closing b x none = record { board = b; bench = x; moved = [] }
after_closing b x (some p) = record { board = flip b p; bench = p.start; moved = jobs p }

-- closing of job j: "The record is emptied", then one path is turned
unfoldable pub close : Board → ℕ → Change
close b j =
    let x = holder_of b j in
    let c = put b j [] 0 in
    after_closing c x (closing_choice c x)

-- "level (no improving path)"; 000: invariant 1
unfoldable pub level : Board → Bool
level b = empty (improving b)

-- levelling's result: the paths turned, and the board
pub record Levelled : Type 0 where
  pub paths : ℕ
  pub board : Board

-- "While an improving path is left and the allowance is not used up, it turns one"
abbrev pub relevel : ℕ → Board → Levelled
relevel zero b = record { paths = 0; board = b }
relevel (suc allowance) b =
    elim (levelling_choice b) [
      | none ↦ record { paths = 0; board = b }
      | some p ↦
          let r = relevel allowance (flip b p) in record { paths = suc r.paths; board = r.board }
    ]

-- "A bench in the set brings in its chain, and each job on that chain brings in its other bench": one round of it
unfoldable pub closure_round : Board → List ℕ → List ℕ
closure_round b set =
    let neighbours = map (λ s. s.to) (flat_map (steps b) set) in
    filter (λ x. member x set || member x neighbours) (range 1 b.benches)

-- rounds until no bench comes in: "Nothing else is in it". The fuel is the number of benches
abbrev pub closure : Board → ℕ → List ℕ → List ℕ
closure b zero set = set
closure b (suc k) set =
    let wider = closure_round b set in
    let r = closure b k wider in
    cond (eqb (length wider) (length set)) set r

-- tight set of height h, its benches rising: "all benches with load h or more are in it", and what they bring in
unfoldable pub tight_set : Board → ℕ → List ℕ
tight_set b h = closure b b.benches (filter (λ x. leb h (load b.holders x)) (range 1 b.benches))

-- "the number of jobs with both benches inside": every bench that a standing job names is in the set
abbrev pub inside : List ℕ → List (List ℕ) → ℕ
inside set [] = 0
inside set (names ∷ named) = bit (not (empty names) && all (λ x. member x set) names) + inside set named

-- 000: the density of a set, rounded up: inside jobs for each bench
unfoldable pub density : ℕ → ℕ → ℕ
density inside_jobs benches = (inside_jobs + (benches - 1)) / benches
