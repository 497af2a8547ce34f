-- What the form check answers, and that it is true of the table and of the loads.
use Rattle.std.specs.Prelude.{Result, Ok, Err}
use Prim.Native.Nat.{ℕ}
use native.Mathlib.Decide.{dec_le}
use native.Mathlib.Omega.{arith}
use mathlib.Core.Path.{◌≡◌, sym, ap, ◌∙◌}
use mathlib.Core.Bool.{true, false}
use mathlib.Core.List.{List, []}
use lib.Dec.{T}
use Rattle.spec_lists.proofs.Tests.{true→T, T→true, both}
use Rattle.spec_table.specs.Table.{formed, fits, sound, decode}
use Rattle.spec_table.proofs.Sound.{sound_storable}
use Rattle.spec_calls.specs.Calls.{ask, form_check, question_conditions, asked, accepted}
use Rattle.spec_calls.proofs.Refusals.{form_stops}
use Rattle.spec_calls.proofs.ChainOrder.{sound_outcome}
use Rattle.table_words.specs.Bytes.{layout_in}
use Rattle.table_size.proofs.Sizes.{misfit_size}
use Rattle.table_size.specs.Sizes.{SizeIn, SizeOf, SoundTable}
use Rattle.table_size.specs.declared.Size.{Size}
use Rattle.table_board.specs.BoardView.{Loaded}
use Rattle.table_board.proofs.RecordsAsBoard.{sound_holds_board, load_beyond}
use Rattle.spec_table.proofs.AnyOrder.{chain_load}
use Rattle.table_chain_form.specs.ChainLengths.{ChainLengths}
use Rattle.table_rising.specs.Passing.{Rising, Encoded}
use Rattle.table_refusals.specs.Refusals.{refusal_of}
use Rattle.table_refusals.specs.declared.Refusal.TheVariants.{Unsound}
use Rattle.table_refusals.specs.declared.Refusal.{Refusal}
use Rattle.table_form.specs.FormCheck.{Checked, FormOf}
use Rattle.table_form.specs.declared.Sound.{Sound}

-- what is said of the table is the definition's answer
answered : (t loads : List ℕ) (f : Result Sound Refusal) → Checked t loads f → FormOf t loads f
unfolding question_conditions asked accepted
answered t loads (Err r) k = record { answer = sym (form_stops (ask form_check []) tt t (refusal_of r) k); says = k }
answered t loads (Ok s) k =
    record { answer = sym (ap (λ o. o.answer) (sound_outcome (ask form_check []) tt t k.sound.sound)); says = k }

-- refusal 1 where the sizes do not fit ..
pub misfit_answered : (t loads : List ℕ) {r : Refusal} → SizeIn t (Err r) → FormOf t loads (Err r)
misfit_answered t loads {r} e = answered t loads (Err r) (rw (misfit_size t e, e.value.refusal))

module _ {t : List ℕ} {s : Size} (z : SizeOf t s) where
  -- .. 2 where they do, but the clauses after them do not hold ..
  pub unformed_answered : (loads : List ℕ) → formed (layout_in t) ≡ false → FormOf t loads (Err Unsound)
  unfolding sound
  unformed_answered loads e = answered t loads (Err Unsound) (rw (T→true (fits t) z.fit, e))

  -- .. and sound where they do: by the walks, which leave the lengths of the chains, where the pass did not get through ..
  pub formed_answered : {loads : List ℕ} → formed (layout_in t) ≡ true → ChainLengths (layout_in t) s loads → (Encoded t s → ⊥) → FormOf t loads (Ok (record { size = s; rising = false }))
  unfolding sound
  formed_answered {loads} e c not = answered t loads (Ok (record { size = s; rising = false })) (record { sound = found; loaded = loaded; bytes = (λ n. absurd n, λ b. not (record { holds_board = sound_holds_board t s found; bytes = b })) })
    where
      is_sound_lem : T (sound t)
      is_sound_lem = both (fits t) (formed (layout_in t)) z.fit (true→T (formed (layout_in t)) e)

      found : SoundTable t s
      found = record { size = z; sound = is_sound_lem; storable = sound_storable t is_sound_lem }

      loaded : Loaded (decode t) loads
      loaded =
          record {
            long = c.by_bench.long;
            bench = λ x l u. elim (dec_le x s.benches) [
              | yes h ↦ c.chain x (record { least = l; most = h }) ∙ chain_load t found.sound x l (omega (arith, found.size.benches))
              | no h ↦ c.by_bench.beyond x (omega arith) ∙ sym (load_beyond t s x (sound_holds_board t s found) (omega arith))
            ];
          }

-- .. or by the one pass, which shows the bytes, too
pub rising_answered : {t : List ℕ} {s : Size} {loads : List ℕ} → Rising t s loads → FormOf t loads (Ok (record { size = s; rising = true }))
rising_answered {t} {s} {loads} r = answered t loads (Ok (record { size = s; rising = true })) (record { sound = r.sound; loaded = r.loaded; bytes = (λ n. r.bytes, λ b. tt) })
