-- Text on a page, written piece by piece.
use Prim.Native.Nat.{ℕ, ◌+◌, ◌≤◌, ◌<◌}
use native.Mathlib.Omega.{arith}
use native.Mathlib.Numerals.{add-one, add-two, add-three, add-four}
use mathlib.Core.Path.{◌≡◌, sym, ap, ◌∙◌}
use mathlib.Core.List.{List, [], ◌∷◌, ◌++◌, append_assoc}
use lib.ListN.{length, take, drop, set, length-append}
use lib.Seq.{length-take-le, take_at, drop_at, drop-drop, sets-eq, paste-zero}
use Rattle.sheet_fields.specs.Page.{with_text}

-- no text changes nothing
pub text_none : (page : List ℕ) (at : ℕ) → with_text page at [] ≡ page
text_none page at = sym (paste-zero page at [])

-- what stands before a text's end: the page up to the text, and the text
before_end : (page : List ℕ) (at : ℕ) (s : List ℕ) → at ≤ length page → length (take at page ++ s) ≡ at + length s
before_end page at s h = omega (arith, length-append (take at page) s, length-take-le at page h)

-- a text right behind another: both are one
text_behind : (page : List ℕ) (at : ℕ) (s t : List ℕ) → at ≤ length page → with_text (with_text page at s) (at + length s) t ≡ with_text page at (s ++ t)
text_behind page at s t h =
    let front : List ℕ = take at page ++ s in
    let rest : List ℕ = drop (at + length s) page in
    let long = before_end page at s h in
    let e : at + length s + length t ≡ at + length (s ++ t) = omega (arith, length-append s t) in
    let behind : drop (at + length s + length t) (front ++ rest) ≡ drop (at + length (s ++ t)) page =
    sym (drop-drop (length t) (at + length s) (front ++ rest)) ∙ ap (drop (length t)) (drop_at front rest (at + length s) long)
    ∙ drop-drop (length t) (at + length s) page ∙ ap (λ (n : ℕ). drop n page) e in
    ap (λ (l : List ℕ). l ++ t ++ drop (at + length s + length t) (front ++ rest)) (take_at front rest (at + length s) long)
    ∙ ap (λ (l : List ℕ). front ++ t ++ l) behind
    ∙ ap (λ (l : List ℕ). l ++ drop (at + length (s ++ t)) page) (append_assoc (take at page) s t)

-- a page that was written on, and more text from where that ends
pub text_then : {page' : List ℕ} {r : ℕ} (page : List ℕ) (at : ℕ) (s t : List ℕ) → at ≤ length page → page' ≡ with_text page at s → r ≡ at + length s → with_text page' r t ≡ with_text page at (s ++ t)
text_then page at s t h e d = rw (e, d) (text_behind page at s t h)

-- a byte
pub text_byte : (page : List ℕ) (at c : ℕ) → at < length page → set page at c ≡ with_text page at (c ∷ [])
text_byte page at c h = sets-eq (c ∷ []) page at (omega arith)

-- three bytes, stored one after the other
pub text_three : (page : List ℕ) (at a b c : ℕ) → at + 3 ≤ length page → set (set (set page at a) (at + 1) b) (at + 2) c ≡ with_text page at (a ∷ b ∷ c ∷ [])
text_three page at a b c h = rw (add-one at, add-two at) (sets-eq (a ∷ b ∷ c ∷ []) page at h)

-- five bytes, stored one after the other
pub text_five : (page : List ℕ) (at a b c d e : ℕ) → at + 5 ≤ length page → set (set (set (set (set page at a) (at + 1) b) (at + 2) c) (at + 3) d) (at + 4) e ≡ with_text page at (a ∷ b ∷ c ∷ d ∷ e ∷ [])
text_five page at a b c d e h = rw (add-one at, add-two at, add-three at, add-four at) (sets-eq (a ∷ b ∷ c ∷ d ∷ e ∷ []) page at h)
