-- A byte of the input, a chunk up to a byte, and the end.
use Prim.Native.Nat.{ℕ, zero, suc, ◌+◌, ◌<◌, ◌≤◌}
use native.Mathlib.Omega.{arith}
use native.Mathlib.Decide.{dec_lt}
use native.Mathlib.Numerals.{add-one}
use mathlib.Core.Path.{◌≡◌, refl, sym, ap, ap₂, subst, ◌∙◌}
use mathlib.Core.Logic.{◌≢◌}
use mathlib.Core.List.{List, [], ◌∷◌, ◌++◌}
use lib.ListN.{length, take, get_or}
use lib.Seq.{take-suc, length-take-le}
use Rattle.spec_lists.proofs.Elements.{each_append}
use Rattle.spec_calls.specs.Answers.{unreadable, refusal_number}
use Rattle.spec_counter.specs.Counter as paper
use Rattle.spec_text.specs.Numbers.{line_feed}
use Rattle.spec_counter.specs.Counter.{unreadable_line}
use Rattle.spec_counter.specs.Stream.{Place, at_end, Unended, Consumes, line_text}
use Rattle.spec_counter.proofs.Stream.{consumes_line, consumes_byte, consumes_past, consumes_then, output_end}
use Rattle.counter_printing.specs.Wrote.{Wrote}
use Rattle.counter_printing.specs.declared.Output.{Output}
use Rattle.counter_printing.proofs.WrittenText.{wrote_none, wrote_then}
use Rattle.counter_answer_lines.specs.AnswerLines.{refusal_text}
use Rattle.counter_state.specs.State.{counter_of}
use Rattle.counter_state.specs.declared.Counter.{Counter}
use Rattle.counter_reply.specs.Replies.{RepliesTo}
use Rattle.counter_feed.specs.Feeding.{kept_most, place_of, Stands, Appended, TakesByte, Finishes}
use Rattle.counter_feed.specs.declared.Reader.{Reader}
use Rattle.counter_feed.specs.declared.kept_line.Line.{Line}

module _ (r : Reader) (bytes : List ℕ) (s : Stands r bytes) where
  abbrev pub kept : List ℕ
  kept = take r.line.held r.line.bytes

  -- a line feed: the line is replied to
  pub takes_line : (byte : ℕ) (l : List ℕ) (bytes' : List ℕ) (o p : Output) (c : Counter) (next : Line) → byte ≡ line_feed → l ≡ kept → RepliesTo l (counter_of r.counter bytes) bytes' o p c → next.bytes ≡ r.line.bytes → next.held ≡ 0 → TakesByte (place_of r bytes) (byte ∷ []) (record { counter = c; line = next }) bytes' o p
  takes_line byte l bytes' o p c next e f a same none =
      let k = counter_of r.counter bytes in
      let reply = subst (λ (m : List ℕ). RepliesTo m k bytes' o p c) f a in
      let start : take next.held next.bytes ≡ [] = ap (λ (n : ℕ). take n next.bytes) none in
      let T : ℕ → paper.Counter → List ℕ → Type 0 = λ b q m. Consumes (place_of r bytes) (record { counter = q; line = m }) (b ∷ []) (line_text k kept) in
      let ends : T line_feed (counter_of c bytes') [] = subst (λ (q : paper.Counter). T line_feed q []) (sym reply.state) (consumes_line k kept s.unended) in
      record {
        stands = record { room = reply.room; long = ap length same ∙ s.long; held = omega (arith, none); unended = subst Unended (sym start) tt };
        text = line_text k kept;
        wrote = reply.wrote;
        consumes = subst (λ (b : ℕ). T b (counter_of c bytes') (take next.held next.bytes)) (sym e) (subst (λ (m : List ℕ). T line_feed (counter_of c bytes') m) (sym start) ends);
        short = reply.short;
      }

  -- another byte
  pub takes_byte : (byte : ℕ) (next : Line) (o : Output) → byte ≢ line_feed → Appended r.line next byte → TakesByte (place_of r bytes) (byte ∷ []) (record { counter = r.counter; line = next }) bytes o o
  takes_byte byte next o d k =
      elim (dec_lt r.line.held (length r.line.bytes)) [
        | yes h ↦ with_line h (k.more h).0 (k.more h).1
        | no h ↦ without (omega (arith, s.long, h)) (k.full (omega (arith, h)))
      ]
    where
      Next : Type 0
      Next = TakesByte (place_of r bytes) (byte ∷ []) (record { counter = r.counter; line = next }) bytes o o

      now : List ℕ
      now = take next.held next.bytes

      takes : Unended now → next.held ≤ kept_most → Consumes (place_of r bytes) (record { counter = counter_of r.counter bytes; line = now }) (byte ∷ []) [] → Next
      takes u m g =
          record {
            stands = record { room = s.room; long = k.long ∙ s.long; held = m; unended = u };
            text = [];
            wrote = wrote_none o;
            consumes = g;
            short = omega arith;
          }

      with_line : r.line.held < length r.line.bytes → next.held ≡ r.line.held + 1 → now ≡ kept ++ (byte ∷ []) → Next
      with_line h e l =
          takes (subst Unended (sym l) (each_append (λ (c : ℕ). c ≢ line_feed) kept (byte ∷ []) s.unended (d, tt))) (omega (arith, e, s.long, h))
          (subst (λ (m : List ℕ). Consumes (place_of r bytes) (record { counter = counter_of r.counter bytes; line = m }) (byte ∷ []) []) (sym l) (consumes_byte (counter_of r.counter bytes) kept byte))

      without : kept_most ≤ r.line.held → (next.held ≡ r.line.held) × (next.bytes ≡ r.line.bytes) → Next
      without m e =
          let l : now ≡ kept = ap₂ (λ (i : ℕ) (k : List ℕ). take i k) e.0 e.1 in
          let long : 40 < length kept = omega (arith, length-take-le r.line.held r.line.bytes (omega (arith, s.long, s.held)), m) in
          takes (subst Unended (sym l) s.unended) (omega (arith, e.0, s.held))
          (subst (λ (m : List ℕ). Consumes (place_of r bytes) (record { counter = counter_of r.counter bytes; line = m }) (byte ∷ []) []) (sym l) (consumes_past (counter_of r.counter bytes) kept byte s.unended long d))

-- the first `count` bytes of a chunk are taken
pub record Feeding (a : Place) (chunk : List ℕ) (r : Reader) (bytes : List ℕ) (count : ℕ) (before after : Output) : Type 0 where
  pub stands : Stands r bytes
  pub input : count ≤ length chunk
  pub none : count ≡ 0 → after.written ≡ before.written
  pub text : List ℕ
  pub wrote : Wrote before after text
  pub consumes : Consumes a (place_of r bytes) (take count chunk) text

module _ {a : Place} {chunk : List ℕ} {r : Reader} {bytes : List ℕ} {count : ℕ} {before after : Output} (f : Feeding a chunk r bytes count before after) where
  -- one byte more
  pub feeding_turn : (r' : Reader) (bytes' : List ℕ) (next : Output) → count < length chunk → TakesByte (place_of r bytes) (get_or chunk count 0 ∷ []) r' bytes' after next → Feeding a chunk r' bytes' (count + 1) before next
  feeding_turn r' bytes' next l n =
      let b = place_of r' bytes' in
      let more : take count chunk ++ (get_or chunk count 0 ∷ []) ≡ take (count + 1) chunk = rw add-one (sym (take-suc chunk count 0 l)) in
      record {
        stands = n.stands;
        input = omega arith;
        none = λ e. absurd (omega arith);
        text = f.text ++ n.text;
        wrote = wrote_then f.wrote n.wrote;
        consumes = subst (λ (k : List ℕ). Consumes a b k (f.text ++ n.text)) more (consumes_then f.consumes n.consumes);
      }

-- no line has begun
pub finishes_none : (r : Reader) (o : Output) → r.line.held ≡ 0 → Finishes r o o
finishes_none r o e =
    record {
      text = [];
      wrote = wrote_none o;
      ends = λ bytes s. sym (output_end (place_of r bytes) s.unended ∙ ap (λ (n : ℕ). at_end (take n r.line.bytes)) e);
    }

-- one has: it ends without a line feed
pub finishes_line : (r : Reader) (o p : Output) → r.line.held ≢ 0 → Wrote o p (refusal_text (refusal_number unreadable)) → Finishes r o p
finishes_line r o p d w =
    record {
      text = refusal_text (refusal_number unreadable);
      wrote = w;
      ends = λ bytes s. sym (output_end (place_of r bytes) s.unended ∙ begun r.line.held r.line.bytes d (omega (arith, s.long)));
    }
  where
    begun : (n : ℕ) (line : List ℕ) → n ≢ 0 → 1 ≤ length line → at_end (take n line) ≡ unreadable_line
    begun zero line d l = absurd (d refl)
    begun (suc n) [] d l = absurd (omega arith)
    begun (suc n) (c ∷ line) d l = refl
