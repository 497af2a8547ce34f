-- 02, "Is there a job between these two benches?": two chains of a table that nobody checked, read record by record.
use Rattle.std.specs.Prelude.{ℕ, ◌+◌, ◌-◌, ◌*◌, ◌<◌, ◌≡◌, Bool, true, false, cond, ◌&&◌, ◌||◌, List, [], ◌∷◌, ◌++◌, eqb, leb, ltb, length, get_or}
use Rattle.std.proofs.Math.Option.{Option, none, some}
use Rattle.spec_lists.specs.Lists.{within, member, range, filter, In, nth}
use Rattle.spec_table.specs.Board.{Board, names_of}
use Rattle.spec_table.specs.Table.{words, Entry, Layout, layout, vacant, holder_in, chains, entry_fits}

-- how a walk along a chain ends: at a number or record that fails, without a match, or at a matching job
pub data End : Type 0 where
  broken : End
  unmatched : End
  matched : ℕ → End

-- a walk along a chain: the jobs whose records it reads, in their order, and how it ends
pub record Walk : Type 0 where
  pub read : List ℕ
  pub end : End

-- the walk ends before the next record is read
abbrev pub stop : End → Walk
stop e = record { read = []; end = e }

-- job j's record is read, and the walk goes on so
abbrev pub read_then : ℕ → Walk → Walk
read_then j w = record { read = j ∷ w.read; end = w.end }

-- "a number of 1 to J above the one before"
abbrev pub may_follow : ℕ → ℕ → ℕ → Bool
may_follow jobs before j = within 1 jobs j && ltb before j

-- "name two different benches of 1 to B and have the walked one as holder"
abbrev pub is_held_by : ℕ → ℕ → Entry → Bool
is_held_by benches x e = entry_fits benches e && eqb (holder_in e) x

-- a match: both benches are named
abbrev pub names_both : ℕ → ℕ → List ℕ → Bool
names_both x y names = member x names && member y names

-- "a number above the first match"
abbrev pub is_above : Option ℕ → ℕ → Bool
is_above none j = false
is_above (some m) j = ltb m j

-- job j's record is read: it fails, matches, or the walk goes on
abbrev pub at_record : Layout → ℕ → ℕ → ℕ → Walk → Walk
at_record l x y j onward =
    let e = nth l.entries j vacant in
    read_then j (cond (is_held_by l.benches x e) (cond (names_both x y e.names) (stop (matched j)) onward) (stop broken))

-- bench x's chain read up to a match with bench y, "a number above the first match (that record is not read), or its
-- end". "Only records to be read are tested". At most J numbers rise from 1 to J, so the fuel of `chains` is never
-- used up before the walk has ended
abbrev pub walk : Layout → ℕ → ℕ → Option ℕ → ℕ → List ℕ → Walk
walk l x y first before [] = stop unmatched
walk l x y first before (j ∷ chain) =
    let onward = walk l x y first j chain in
    cond (is_above first j) (stop unmatched)
    (cond (may_follow l.jobs before j) (at_record l x y j onward) (stop broken))

-- the job that a walk meets
abbrev pub met_by : End → Option ℕ
met_by broken = none
met_by unmatched = none
met_by (matched j) = some j

-- the walk ends at a number or record that fails
abbrev pub is_broken : End → Bool
is_broken broken = true
is_broken unmatched = false
is_broken (matched j) = false

-- "Read the first bench's chain up to a match or its end."
unfoldable pub first_walk : Layout → ℕ → ℕ → Walk
first_walk l x y = walk l x y none 0 (nth (chains l) x [])

-- "Then read the second's up to a match, a number above the first match [..], or its end."
unfoldable pub second_walk : Layout → ℕ → ℕ → Walk
second_walk l x y = walk l y x (met_by (first_walk l x y).end) 0 (nth (chains l) y [])

-- "else 2"
unfoldable pub unreadable_pair : Layout → ℕ → ℕ → Bool
unreadable_pair l x y = is_broken (first_walk l x y).end || is_broken (second_walk l x y).end

-- the jobs whose records are read; after a broken walk there is no second
unfoldable pub records_read : Layout → ℕ → ℕ → List ℕ
records_read l x y =
    let first = first_walk l x y in
    cond (is_broken first.end) first.read (first.read ++ (second_walk l x y).read)

-- the lower of two numbers, where there are two
abbrev pub lower : Option ℕ → Option ℕ → Option ℕ
lower none n = n
lower (some m) none = some m
lower (some m) (some n) = some (cond (leb m n) m n)

-- "the lowest job number [..] or none"
unfoldable pub job_found : Layout → ℕ → ℕ → Option ℕ
job_found l x y = lower (met_by (first_walk l x y).end) (met_by (second_walk l x y).end)

-- job j stands between two benches: it names both
abbrev pub stands_between : Board → ℕ → ℕ → ℕ → Bool
stands_between b x y j = names_both x y (names_of b j)

-- the first number of a list
abbrev pub first_of : List ℕ → Option ℕ
first_of [] = none
first_of (j ∷ js) = some j

-- "reading everything": the lowest number of 1 to J whose job stands between the two benches
unfoldable pub lowest_between : Board → ℕ → ℕ → Option ℕ
lowest_between b x y = first_of (filter (stands_between b x y) (range 1 (length b.named)))

-- two tables that agree in all that the question looks at: the length, words 0 and 1, the two benches' heads, and the
-- records that are read of t
pub record AgreeFor (x y : ℕ) (t u : List ℕ) : Type 0 where
  pub long : length u ≡ length t
  pub benches : get_or (words u) 0 0 ≡ get_or (words t) 0 0
  pub jobs : get_or (words u) 1 0 ≡ get_or (words t) 1 0
  pub first_head : get_or (words u) (3 + x) 0 ≡ get_or (words t) (3 + x) 0
  pub second_head : get_or (words u) (3 + y) 0 ≡ get_or (words t) (3 + y) 0
  pub records :
      (j k : ℕ) → In j (records_read (layout (words t)) x y) → k < 4 →
      let at = 4 + get_or (words t) 0 0 + 4 * (j - 1) + k in get_or (words u) at 0 ≡ get_or (words t) at 0
