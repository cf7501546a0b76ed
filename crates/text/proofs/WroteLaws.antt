-- A row of texts put one after the other: what stands in the bytes so far, and the index after it. Assumes nothing.
use mathlib.Core.Path.{◌≡◌, refl, sym, ap, ◌∙◌}
use mathlib.Core.List.{List, [], ◌∷◌, ◌++◌}
use Prim.Native.Nat.{ℕ, ◌+◌, ◌≤◌, ◌<◌}
use native.Mathlib.Nat.{add-zero}
use native.Mathlib.Omega.{arith}
use lib.ListN.{length, set, length-append}
use Rattle.text.specs.Text.{placed, put_in, put_end}
use Rattle.text.specs.Wrote.{Wrote}
use Rattle.text.proofs.PutLaws.{put_fits, put_fits_end, placed_none, placed_length, placed_placed, placed_one}

-- nothing is written yet
pub wrote_start : (before : List ℕ) (at : ℕ) → at ≤ length before → Wrote before at [] before at
wrote_start before at h = record {
  bytes = sym (placed_none before at);
  next = sym (add-zero at);
  room = omega arith;
}

pub wrote_length : {before : List ℕ} {at : ℕ} {text after : List ℕ} {end : ℕ} → Wrote before at text after end → length after ≡ length before
wrote_length {before} {at} {text} w = ap length w.bytes ∙ placed_length before at text w.room

-- after a text another one, written by whatever means
pub wrote_more : {before : List ℕ} {at : ℕ} {a mid : List ℕ} {e : ℕ} {b after : List ℕ} {end : ℕ}
    → Wrote before at a mid e → Wrote mid e b after end → Wrote before at (a ++ b) after end
wrote_more {before} {at} {a} {mid} {e} {b} w v =
    let l : length (a ++ b) ≡ length a + length b = length-append a b in
    let n : length mid ≡ length before = wrote_length w in
    let fits : at + length (a ++ b) ≤ length before = omega (arith, w.next, v.room) in
    record {
      bytes = v.bytes ∙ ap (λ x. placed x e b) w.bytes ∙ ap (λ k. placed (placed before at a) k b) w.next ∙ placed_placed before at a b fits;
      next = omega (arith, w.next, v.next);
      room = fits;
    }

-- one text, put where it fits
pub wrote_one : {before : List ℕ} {at : ℕ} {text after : List ℕ} {end : ℕ}
    → (end ≡ put_end before at text) × (after ≡ put_in before at text) → at + length text ≤ length before → Wrote before at text after end
wrote_one {before} {at} {text} p h = record {
  bytes = p.1 ∙ put_fits before at text h;
  next = p.0 ∙ put_fits_end before at text h;
  room = h;
}

-- what `put` answers and leaves of text that fits
pub wrote_is_put : {before : List ℕ} {at : ℕ} {text after : List ℕ} {end : ℕ}
    → Wrote before at text after end → (end ≡ put_end before at text) × (after ≡ put_in before at text)
wrote_is_put {before} {at} {text} w = (w.next ∙ sym (put_fits_end before at text w.room), w.bytes ∙ sym (put_fits before at text w.room))

-- after a text another one, put where it fits
pub wrote_put : {before : List ℕ} {at : ℕ} {a mid : List ℕ} {e : ℕ} {after : List ℕ} {end : ℕ} (b : List ℕ)
    → Wrote before at a mid e → (end ≡ put_end mid e b) × (after ≡ put_in mid e b) → at + length a + length b ≤ length before
    → Wrote before at (a ++ b) after end
wrote_put b w p h = wrote_more w (wrote_one p (omega (arith, wrote_length w, w.next)))

-- after a text one byte, stored at the next index
pub wrote_byte : {before : List ℕ} {at : ℕ} {text mid : List ℕ} {e : ℕ} (byte : ℕ)
    → Wrote before at text mid e → e < length before → Wrote before at (text ++ (byte ∷ [])) (set mid e byte) (e + 1)
wrote_byte {before} {mid = mid} {e} byte w h =
    let n : length mid ≡ length before = wrote_length w in
    wrote_more w record {
      bytes = placed_one mid e byte (omega arith);
      next = refl;
      room = omega arith;
    }
