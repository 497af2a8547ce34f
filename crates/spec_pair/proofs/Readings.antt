-- How the request is read, table by table: each law computes one small table's answer.
use Prim.Native.Nat.{ℕ}
use mathlib.Core.Path.{◌≡◌, refl}
use mathlib.Core.Bool.{Bool, true, false}
use mathlib.Core.List.{List, [], ◌∷◌}
use mathlib.Core.Option.{Option, none, some}
use Rattle.spec_table.specs.Table.{bytes_of, sizes_fit, layout, formed, fits, sound}
use Rattle.spec_pair.specs.Pair.{first_walk, second_walk, unreadable_pair, records_read, job_found}

-- what is asked of the table of these words: whether it is refused with 2, the job (of a refused table it means nothing), and the
-- records read
abbrev asked : List ℕ → ℕ → ℕ → Bool × Option ℕ × List ℕ
asked ws x y = (unreadable_pair (layout ws) x y, job_found (layout ws) x y, records_read (layout ws) x y)

-- two benches, one job: the first bench's chain begins with job j, and this is job 1's record
abbrev one_job : ℕ → ℕ → ℕ → ℕ → List ℕ
one_job j a b h = 2 ∷ 1 ∷ 1 ∷ 0 ∷ j ∷ 0 ∷ a ∷ b ∷ h ∷ 0 ∷ []

-- "each must have a number of 1 to J ..": a number above J is not read; ".. name two different benches of 1 to B and have the walked
-- one as holder": one bench twice, a bench above B, bench 0, and the other bench as holder
pub each_tested : (asked (one_job 1 1 2 1) 1 2 ≡ (false, some 1, 1 ∷ [])) × (asked (one_job 2 1 2 1) 1 2 ≡ (true, none, []))
    × (asked (one_job 1 1 1 1) 1 2 ≡ (true, none, 1 ∷ [])) × (asked (one_job 1 1 3 1) 1 2 ≡ (true, none, 1 ∷ []))
    × (asked (one_job 1 0 1 2) 1 2 ≡ (true, none, 1 ∷ [])) × (asked (one_job 1 1 2 2) 1 2 ≡ (true, none, 1 ∷ []))
unfolding unreadable_pair job_found records_read first_walk second_walk layout
each_tested = (refl, refl, refl, refl, refl, refl)

-- the second bench's first job is 9 of three, and above the first match, which is 2: "that record is not read", so not tested
pub limit_before_range : asked (
    2 ∷ 3 ∷ 1 ∷ 0 ∷
    2 ∷ 9 ∷
    0 ∷ 0 ∷ 0 ∷ 0 ∷
    1 ∷ 2 ∷ 1 ∷ 0 ∷
    0 ∷ 0 ∷ 0 ∷ 0 ∷ []) 1 2 ≡ (false, some 2, 2 ∷ [])
unfolding unreadable_pair job_found records_read first_walk second_walk layout
limit_before_range = refl

-- the first match is met again on the second bench's chain: it is not above itself, so it is read, and its holder is the first bench
pub first_match_again : asked (
    2 ∷ 1 ∷ 1 ∷ 0 ∷
    1 ∷ 1 ∷
    1 ∷ 2 ∷ 1 ∷ 0 ∷ []) 1 2 ≡ (true, some 1, 1 ∷ 1 ∷ [])
unfolding unreadable_pair job_found records_read first_walk second_walk layout
first_match_again = refl

-- "above the one before" starts anew with the second chain: job 3 is read on the first, then job 1 on the second
pub starts_anew : asked (
    3 ∷ 3 ∷ 2 ∷ 0 ∷
    3 ∷ 1 ∷ 0 ∷
    1 ∷ 2 ∷ 2 ∷ 0 ∷
    0 ∷ 0 ∷ 0 ∷ 0 ∷
    1 ∷ 3 ∷ 1 ∷ 0 ∷ []) 1 2 ≡ (false, some 1, 3 ∷ 1 ∷ [])
unfolding unreadable_pair job_found records_read first_walk second_walk layout
starts_anew = refl

-- "Only records to be read are tested": words 2 and 3 are false, job 2's record, on no chain, names bench 0 and has holder 7
abbrev false_elsewhere : List ℕ
false_elsewhere =
    2 ∷ 2 ∷ 9 ∷ 9 ∷
    1 ∷ 0 ∷
    1 ∷ 2 ∷ 1 ∷ 0 ∷
    0 ∷ 2 ∷ 7 ∷ 0 ∷ []

-- its sizes fit, it is not sound, and it is answered all the same
pub words_2_3 : (fits (bytes_of false_elsewhere) ≡ true) × (sound (bytes_of false_elsewhere) ≡ false) × (asked false_elsewhere 1 2 ≡ (false, some 1, 1 ∷ []))
unfolding unreadable_pair job_found records_read first_walk second_walk sound fits sizes_fit formed layout
words_2_3 = (refl, refl, refl)

-- the record that matches counts as read, job 2; on the second chain job 1 does, and job 3 does not, which is above job 2
pub match_counts : asked (
    3 ∷ 3 ∷ 3 ∷ 0 ∷
    2 ∷ 1 ∷ 0 ∷
    2 ∷ 3 ∷ 1 ∷ 3 ∷
    1 ∷ 2 ∷ 1 ∷ 0 ∷
    1 ∷ 2 ∷ 2 ∷ 0 ∷ []) 1 2 ≡ (false, some 2, 2 ∷ 1 ∷ [])
unfolding unreadable_pair job_found records_read first_walk second_walk layout
match_counts = refl

-- what follows a match is not looked at: its next job is 9 of one
pub after_match : asked (
    2 ∷ 1 ∷ 1 ∷ 0 ∷
    1 ∷ 0 ∷
    1 ∷ 2 ∷ 1 ∷ 9 ∷ []) 1 2 ≡ (false, some 1, 1 ∷ [])
unfolding unreadable_pair job_found records_read first_walk second_walk layout
after_match = refl

-- a chain that returns is refused where it does, and the second is not read then: to the job itself, job 1 ..
pub returning_chain : asked (
    3 ∷ 2 ∷ 2 ∷ 0 ∷
    1 ∷ 2 ∷ 0 ∷
    1 ∷ 3 ∷ 1 ∷ 1 ∷
    1 ∷ 2 ∷ 2 ∷ 0 ∷ []) 1 2 ≡ (true, some 2, 1 ∷ [])
unfolding unreadable_pair job_found records_read first_walk second_walk layout
returning_chain = refl

-- .. or from job 2 to job 1
pub returning_later : asked (
    3 ∷ 2 ∷ 2 ∷ 0 ∷
    1 ∷ 0 ∷ 0 ∷
    1 ∷ 3 ∷ 1 ∷ 2 ∷
    1 ∷ 3 ∷ 1 ∷ 1 ∷ []) 1 2 ≡ (true, none, 1 ∷ 2 ∷ [])
unfolding unreadable_pair job_found records_read first_walk second_walk layout
returning_later = refl

-- "Here, unlike in 01, the chains' order counts": bench 1 holds job 1, between 1 and 2, and job 2, between 1 and 3; in rising order ..
abbrev in_order : List ℕ
in_order =
    3 ∷ 2 ∷ 2 ∷ 0 ∷
    1 ∷ 0 ∷ 0 ∷
    1 ∷ 2 ∷ 1 ∷ 2 ∷
    1 ∷ 3 ∷ 1 ∷ 0 ∷ []

-- .. and with job 2 before job 1
abbrev falling : List ℕ
falling =
    3 ∷ 2 ∷ 2 ∷ 0 ∷
    2 ∷ 0 ∷ 0 ∷
    1 ∷ 2 ∷ 1 ∷ 0 ∷
    1 ∷ 3 ∷ 1 ∷ 1 ∷ []

-- both tables are sound; the one whose chain falls before the match is refused
pub falling_broken : (sound (bytes_of in_order) ≡ true) × (asked in_order 1 2 ≡ (false, some 1, 1 ∷ []))
    × (sound (bytes_of falling) ≡ true) × (asked falling 1 2 ≡ (true, none, 2 ∷ []))
unfolding unreadable_pair job_found records_read first_walk second_walk sound fits sizes_fit formed layout
falling_broken = (refl, refl, refl, refl)
