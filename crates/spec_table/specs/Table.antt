-- 01, "The table": words, sizes, records, chains, the sound table; the board that a table holds, and the table of a
-- board.
use Rattle.std.specs.Prelude.{ℕ, zero, suc, ◌+◌, ◌-◌, ◌*◌, ◌/◌, ◌%◌, ◌<◌, ◌≡◌, Bool, cond, not, ◌&&◌, ◌||◌, T, eqb, leb, length, get_or, take, drop, replicate}
use mathlib.Core.List.{List, [], ◌∷◌, ◌++◌, map, flat_map}
use Rattle.spec_lists.specs.Lists.{bit, within, count, range, rises, filter, all, Each, empty, nth, enumerate}
use Rattle.spec_table.specs.Board.{Board, Valid, names_fit, standing}

-- "A word is 16 bits, two bytes, low byte first"
abbrev pub words : List ℕ → List ℕ
words [] = []
words (low ∷ []) = []
words (low ∷ high ∷ bytes) = (low + 256 * high) ∷ words bytes

-- the bytes of a list of words
abbrev pub bytes_of : List ℕ → List ℕ
bytes_of [] = []
bytes_of (w ∷ ws) = w % 256 ∷ w / 256 % 256 ∷ bytes_of ws

-- "as words in a lent list of bytes; the list beyond them is untouched"
abbrev pub in_list : List ℕ → List ℕ → List ℕ
in_list ws list = bytes_of ws ++ drop (2 * length ws) list

-- "Benches are numbered 1 to 500 ..
abbrev pub most_benches : ℕ
most_benches = 500

-- .. jobs 1 to 4,000"
abbrev pub most_jobs : ℕ
most_jobs = 4000

-- "A table for B benches and J jobs has 4 + B + 4 × J words"
abbrev pub length_for : ℕ → ℕ → ℕ
length_for benches jobs = 2 * (4 + benches + 4 * jobs)

-- what refusal 1 denies: the byte length is even and 8 or more, B is 1 to 500, J is 1 to 4,000, and the length is
-- theirs
unfoldable pub sizes_fit : ℕ → ℕ → ℕ → Bool
sizes_fit len benches jobs =
    eqb (len % 2) 0 && leb 8 len && within 1 most_benches benches && within 1 most_jobs jobs
    && eqb len (length_for benches jobs)

-- the words of a record that name benches
abbrev pub name_words : ℕ
name_words = 2

-- 02: "A job may name the same bench twice": the benches that a list of words or numbers names, each once, in their
-- order
abbrev pub benches_named : List ℕ → List ℕ
benches_named [] = []
benches_named (x ∷ given) = let rest = benches_named given in x ∷ filter (λ y. not (eqb y x)) rest

-- the words for a job's benches; 02: a single bench is named twice
abbrev pub words_for : List ℕ → List ℕ
words_for [] = []
words_for (x ∷ names) = (x ∷ names) ++ replicate (name_words - length (x ∷ names)) x

-- no more benches than a record has words for
abbrev pub few_names : List ℕ → Bool
few_names names = leb (length names) name_words

-- a job's record: "first bench, second bench, holder (1 first-named, 2 second-named), next job on the chain"
pub record Entry : Type 0 where
  pub names : List ℕ
  pub holder : ℕ
  pub next : ℕ

-- "A job number that is not standing has four zero words"
abbrev pub vacant : Entry
vacant = record { names = 0 ∷ 0 ∷ []; holder = 0; next = 0 }

-- "any other record is a standing job's"
abbrev pub filled : Entry → Bool
filled e = not (all (λ w. eqb w 0) e.names && eqb e.holder 0 && eqb e.next 0)

-- the bench that the holder word tells, 0 for none
abbrev pub holder_in : Entry → ℕ
holder_in e = nth e.names e.holder 0

-- the table's words by their meaning: words 0 to 3, the first job of each chain, the records
pub record Layout : Type 0 where
  pub benches : ℕ
  pub jobs : ℕ
  pub standing : ℕ
  pub spare : ℕ
  pub heads : List ℕ
  pub entries : List Entry

-- four words a record
abbrev pub entries_in : List ℕ → List Entry
entries_in [] = []
entries_in (a ∷ []) = []
entries_in (a ∷ b ∷ []) = []
entries_in (a ∷ b ∷ h ∷ []) = []
entries_in (a ∷ b ∷ h ∷ n ∷ ws) = record { names = a ∷ b ∷ []; holder = h; next = n } ∷ entries_in ws

-- words 0, 1, 2, 3; word 3 + b; "4 + B + 4 × (j − 1) and the next three"
unfoldable pub layout : List ℕ → Layout
layout ws =
    let benches = get_or ws 0 0 in
    record {
      benches = benches;
      jobs = get_or ws 1 0;
      standing = get_or ws 2 0;
      spare = get_or ws 3 0;
      heads = take benches (drop 4 ws);
      entries = entries_in (drop (4 + benches) ws);
    }

-- the jobs on a chain from job j on: "Next 0 ends a chain". A number above J has no record and ends it too. The fuel
-- is one more than the jobs, so that a chain which returns to itself shows a job twice
abbrev pub follow : List Entry → ℕ → ℕ → List ℕ
follow es zero j = []
follow es (suc k) zero = []
follow es (suc k) (suc i) = suc i ∷ follow es k (nth es (suc i) vacant).next

-- the chains of benches 1 to B
abbrev pub chains : Layout → List (List ℕ)
chains l = map (follow l.entries (suc l.jobs)) l.heads

-- the standing jobs with their numbers
abbrev pub standing_in : List Entry → List (ℕ × Entry)
standing_in es = filter (λ s. filled s.1) (enumerate 1 es)

-- "two different benches of 1 to B and holder 1 or 2"
abbrev pub entry_fits : ℕ → Entry → Bool
entry_fits benches e = names_fit benches e.names && within 1 (length e.names) e.holder

-- "on its holder's chain once and on no other"
abbrev pub placed : List (List ℕ) → ℕ → ℕ → Bool
placed cs j h = all (λ c. eqb (count j c.1) (bit (eqb c.0 h))) (enumerate 1 cs)

-- "no empty record and no number above J is on a chain"
abbrev pub only_standing : List Entry → List ℕ → Bool
only_standing es chain = all (λ j. filled (nth es j vacant)) chain

-- the clauses of the sound table after its sizes
unfoldable pub formed : Layout → Bool
formed l =
    let cs = chains l in
    let standing = standing_in l.entries in
    all (λ s. entry_fits l.benches s.1) standing
    && all (λ s. placed cs s.0 (holder_in s.1)) standing
    && all (only_standing l.entries) cs
    && eqb l.standing (length standing)
    && eqb l.spare 0

-- what refusal 1 denies of a table's bytes: "every other call reads B and J there", in words 0 and 1
unfoldable pub fits : List ℕ → Bool
fits t = sizes_fit (length t) (get_or (words t) 0 0) (get_or (words t) 1 0)

-- what refusal 2 denies: "A table is sound if its sizes fit", and the clauses above hold
unfoldable pub sound : List ℕ → Bool
sound t = fits t && formed (layout (words t))

-- the board that a layout holds: the order of the chains is forgotten
unfoldable pub board_of : Layout → Board
board_of l =
    record {
      benches = l.benches;
      named = map (λ e. cond (filled e) e.names []) l.entries;
      holders = map holder_in l.entries;
    }

-- the board that a table holds
unfoldable pub decode : List ℕ → Board
decode t = board_of (layout (words t))

-- the lowest job that bench x holds among the jobs from i on, 0 for none
abbrev pub first_held : ℕ → ℕ → List ℕ → ℕ
first_held i x [] = 0
first_held i x (h ∷ holders) = let r = first_held (suc i) x holders in cond (eqb h x) i r

-- the place of h in the list, counted from 1
abbrev pub position_of : ℕ → List ℕ → ℕ
position_of h [] = 0
position_of h (x ∷ names) = let r = position_of h names in cond (eqb x h) 1 (suc r)

-- the record of a job with these names, this holder and this next job
abbrev pub entry_for : List ℕ → ℕ → ℕ → Entry
entry_for [] h n = vacant
entry_for (x ∷ names) h n = record { names = x ∷ names; holder = position_of h (x ∷ names); next = n }

-- the records of the jobs from i on: the next job on a chain is the lowest later one of the same holder, so chains
-- rise
abbrev pub entries_from : ℕ → List (List ℕ) → List ℕ → List Entry
entries_from i [] holders = []
entries_from i (names ∷ named) [] = []
entries_from i (names ∷ named) (h ∷ holders) =
    entry_for names h (first_held (suc i) h holders) ∷ entries_from (suc i) named holders

-- the layout of a board, every chain rising
unfoldable pub layout_of : Board → Layout
layout_of b =
    record {
      benches = b.benches;
      jobs = length b.named;
      standing = standing b;
      spare = 0;
      heads = map (λ x. first_held 1 x b.holders) (range 1 b.benches);
      entries = entries_from 1 b.named b.holders;
    }

-- a record's words
abbrev pub entry_words : Entry → List ℕ
entry_words e = e.names ++ (e.holder ∷ e.next ∷ [])

-- the words of a layout, in the table's order
unfoldable pub flat : Layout → List ℕ
flat l = l.benches ∷ l.jobs ∷ l.standing ∷ l.spare ∷ l.heads ++ flat_map entry_words l.entries

-- the table of a board, every chain rising
unfoldable pub encode : Board → List ℕ
encode b = bytes_of (flat (layout_of b))

-- "Blanking writes the B and J it is given into words 0 and 1 and zero into all others"
unfoldable pub blank_table : ℕ → ℕ → List ℕ
blank_table benches jobs = bytes_of (benches ∷ jobs ∷ replicate (2 + benches + 4 * jobs) 0)

-- 02: a table with "all its chains rising"
unfoldable pub all_rise : List ℕ → Bool
all_rise t = all rises (chains (layout (words t)))

-- the chain of bench x
abbrev pub bench_chain : List ℕ → ℕ → List ℕ
bench_chain t x = nth (chains (layout (words t))) x []

-- 02: two tables that "hold the same sharing": the same "benches, jobs and holders"
pub record SameSharing (t u : List ℕ) : Type 0 where
  pub benches : (decode t).benches ≡ (decode u).benches
  pub jobs : (decode t).named ≡ (decode u).named
  pub holders : (decode t).holders ≡ (decode u).holders

-- 02: u is the table t "in another order": as long, with the same words 0 to 3, the same sharing, and on each bench's
-- chain the same jobs
pub record Reordered (t u : List ℕ) : Type 0 where
  pub long : length u ≡ length t
  pub header : (i : ℕ) → i < 4 → get_or (words u) i 0 ≡ get_or (words t) i 0
  pub sharing : SameSharing u t
  pub on_chains : (x j : ℕ) → count j (bench_chain u x) ≡ count j (bench_chain t x)

-- no job, or a job that names two benches, as a record holds it
abbrev pub paired : List ℕ → Bool
paired names = empty names || eqb (length names) 2

-- a board that a table can hold: sizes within the limits, and two benches for each job
pub record Storable (b : Board) : Type 0 where
  pub valid : Valid b
  pub benches : T (within 1 most_benches b.benches)
  pub jobs : T (within 1 most_jobs (length b.named))
  pub pairs : Each (λ names. T (paired names)) b.named
