-- A run and one call more, with its bytes. Assumes nothing.
use Prim.Native.Nat.{ℕ, ◌+◌, ◌-◌, ◌*◌, ◌/◌, ◌≤◌, min}
use mathlib.Core.Path.{◌≡◌, refl, sym, ap, ap₂, subst, ◌∙◌}
use mathlib.Core.Bool.{false}
use mathlib.Core.List.{List, [], ◌∷◌, ◌++◌, append_assoc, append-nil}
use native.Mathlib.Numerals.{add-one}
use native.Mathlib.Omega.{arith}
use lib.ListN.{length, get_or, take, drop, length-append}
use lib.Seq.{take_at, drop-drop, length-take-le}
use borrow.Rule.Slice.PartMut.{post_of, put_mid, same_len_mid, mid_len, drop_put}
use Rattle.unit.specs.declared.Plan.{Plan}
use Rattle.unit.specs.declared.FunctionUnit.{FunctionUnit}
use Rattle.unit.specs.declared.Outcome.{Outcome}
use Rattle.unit.specs.Calls.{fresh_of}
use Rattle.planner.specs.Sheet.{Call, Reply, Step, Run, Leaves}
use Rattle.planner.proofs.EveryList.{leaves_run}
use Rattle.player.specs.Play.{call_at, calls_of, plan_bytes, reply_bytes, replies_bytes, may_use, NoneMayUse, Played}
use Rattle.player.specs.Inner.{Turned}

-- A run with one call more

run_more : (calls : List Call) (replies : List Reply) (u last : FunctionUnit) (k : Call) (a : Reply) (new : FunctionUnit)
    → Leaves u calls replies last → Step last k a new → Leaves u (calls ++ k ∷ []) (replies ++ a ∷ []) new
run_more [] [] u last k a new r step = (new, subst (λ (x : FunctionUnit). Step x k a new) r step, refl)
run_more [] (b ∷ replies) u last k a new r step = absurd r
run_more (c ∷ calls) [] u last k a new r step = absurd r
run_more (c ∷ calls) (b ∷ replies) u last k a new (after, s, r) step = (after, s, run_more calls replies after last k a new r step)

-- The calls, the bytes and the working words with one call more

calls_more : (room : ℕ) (bytes : List ℕ) (n : ℕ) → calls_of room bytes (n + 1) ≡ calls_of room bytes n ++ call_at room bytes n ∷ []
unfolding calls_of
calls_more room bytes n = rw (add-one n)

bytes_more : (replies : List Reply) (a : Reply) → replies_bytes (replies ++ a ∷ []) ≡ replies_bytes replies ++ reply_bytes a
unfolding replies_bytes
bytes_more [] a = append-nil (reply_bytes a)
bytes_more (b ∷ replies) a =
    ap (λ (l : List ℕ). reply_bytes b ++ l) (bytes_more replies a) ∙ sym (append_assoc (reply_bytes b) (replies_bytes replies) (reply_bytes a))

none_more : (calls : List Call) (replies : List Reply) (u last : FunctionUnit) (k : Call) (a : Reply) → Leaves u calls replies last
    → NoneMayUse (calls ++ k ∷ []) (replies ++ a ∷ []) → NoneMayUse calls replies × (may_use k a ≡ false)
none_more [] [] u last k a r h = (tt, h.0)
none_more [] (b ∷ replies) u last k a r h = absurd r
none_more (c ∷ calls) [] u last k a r h = absurd r
none_more (c ∷ calls) (b ∷ replies) u last k a (after, s, r) h =
    let g = none_more calls replies after last k a r h.1 in
    ((h.0, g.0), g.1)

-- A part of the bytes is overwritten

abbrev put : List ℕ → List ℕ → ℕ → List ℕ
put xs ys a = put_mid a (a + 262 - a) xs ys

module _ (xs ys : List ℕ) (a : ℕ) (size : length ys ≡ 262) (fits : a + 262 ≤ length xs) where
  put_take : take (a + 262) (put xs ys a) ≡ take a xs ++ ys
  put_take =
      let n : length (take a xs ++ ys) ≡ a + 262 = length-append (take a xs) ys ∙ ap₂ ◌+◌ (length-take-le a xs (omega arith)) size in
      ap (take (a + 262)) (sym (append_assoc (take a xs) ys (post_of a (a + 262 - a) xs)))
      ∙ take_at (take a xs ++ ys) (post_of a (a + 262 - a) xs) (a + 262) n

  put_drop : drop (a + 262) (put xs ys a) ≡ drop (a + 262) xs
  put_drop = drop_put a (a + 262) xs ys (omega arith) fits (omega arith)

  put_length : length (put xs ys a) ≡ length xs
  put_length =
      let n : 262 ≡ a + 262 - a = omega arith in
      same_len_mid a (a + 262 - a) xs ys (size ∙ n ∙ sym (mid_len a (a + 262) xs fits))

-- The loop of `play`

-- the first n calls were played, and u is what they left
pub record Playing (first : FunctionUnit) (calls before work : List ℕ) (n : ℕ) (after words : List ℕ) (u : FunctionUnit) : Type 0 where
  pub replies : List Reply
  pub run : Leaves first (calls_of (length work) calls n) replies u
  pub wrote : take (n * 262) after ≡ replies_bytes replies
  pub rest : drop (n * 262) after ≡ drop (n * 262) before
  pub size : length after ≡ length before
  pub room : length words ≡ length work
  pub beyond : (i : ℕ) → 2048 ≤ i → get_or words i 0 ≡ get_or work i 0
  pub kept : NoneMayUse (calls_of (length work) calls n) replies → words ≡ work

pub playing_start : (first : FunctionUnit) (calls before work : List ℕ) → Playing first calls before work 0 before work first
unfolding calls_of replies_bytes
playing_start first calls before work = record {
  replies = [];
  run = refl;
  wrote = refl;
  rest = refl;
  size = refl;
  room = refl;
  beyond = λ i h. refl;
  kept = λ h. refl;
}

module _ (first : FunctionUnit) (calls before work : List ℕ) (n : ℕ) (after words : List ℕ) (u : FunctionUnit) where
  pub playing_more : (used : List ℕ) (number : ℕ) (p : Plan) (left : FunctionUnit) (ys : List ℕ)
      → Playing first calls before work n after words u → Turned u (call_at (length words) calls n) words used number p left
      → ys ≡ number ∷ plan_bytes p → length ys ≡ 262 → n * 262 + 262 ≤ length before
      → Playing first calls before work (n + 1) (put_mid (n * 262) (n * 262 + 262 - n * 262) after ys) used left
  playing_more used number p left ys h turned e size fits =
      let k = call_at (length work) calls n in
      let w = length work in
      let t : Turned u k words used number p left = subst (λ (x : ℕ). Turned u (call_at x calls n) words used number p left) h.room turned in
      let f : n * 262 + 262 ≤ length after = omega (arith, h.size) in
      let m : (n + 1) * 262 ≡ n * 262 + 262 = omega arith in
      let ks = calls_more w calls n in
      record {
        replies = h.replies ++ t.reply ∷ [];
        run = rw ks (run_more (calls_of w calls n) h.replies first u k t.reply left h.run t.step);
        wrote = rw (m, put_take after ys (n * 262) size f, h.wrote, e, t.bytes) (sym (bytes_more h.replies t.reply));
        rest = rw (m, put_drop after ys (n * 262) size f, ← drop-drop 262 (n * 262) after, h.rest, drop-drop 262 (n * 262) before);
        size = put_length after ys (n * 262) size f ∙ h.size;
        room = t.room ∙ h.room;
        beyond = λ i g. t.beyond i g ∙ h.beyond i g;
        kept = λ g.
            let q = none_more (calls_of w calls n) h.replies first u k t.reply h.run (rw ks at g) in
            t.kept q.1 ∙ h.kept q.0;
      }

pub playing_end : (f s c : ℕ) (o : Outcome) (calls before work : List ℕ) (n : ℕ) (after words : List ℕ) (u : FunctionUnit) → o ≡ fresh_of f s c
    → Playing o.unit calls before work n after words u → n ≡ min (length calls / 4) (length before / 262)
    → Played f s c calls before after work words n
playing_end f s c o calls before work n after words u e h m = record {
  count = m;
  replies = h.replies;
  run = subst (λ (x : Outcome). Run x.unit (calls_of (length work) calls n) h.replies) e
      (leaves_run (calls_of (length work) calls n) h.replies o.unit u h.run);
  wrote = h.wrote;
  rest = h.rest;
  size = h.size;
  room = h.room;
  beyond = h.beyond;
  kept = h.kept;
}
