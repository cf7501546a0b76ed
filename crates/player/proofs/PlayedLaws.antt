-- What `play` wrote: what the sheet says, or 1 throughout where the counts are refused. Assumes nothing.
use Rattle.std.proofs.Common.{Err}
use Prim.Native.Nat.{ℕ, zero, suc, ◌+◌}
use mathlib.Core.Path.{◌≡◌, refl, ap, ap₂, ◌∙◌}
use mathlib.Core.Bool.{true, false}
use mathlib.Core.List.{List, [], ◌∷◌}
use native.Mathlib.Numerals.{add-one}
use lib.ListN.{length, replicate, length-append}
use Rattle.unit.specs.declared.FunctionUnit.{FunctionUnit}
use Rattle.unit.specs.declared.Outcome.{Outcome}
use Rattle.unit.specs.declared.Refusal.TheVariants.{NotSound}
use Rattle.unit.specs.Unit.{good_counts, sound_of}
use Rattle.unit.specs.Calls.{tag_answer, spot_answer, fresh_of, mark_of, unmark_of}
use Rattle.planner.specs.Plans.{search_answer, read_answer, read_of}
use Rattle.planner.specs.Sheet.{Call, Reply, reply_to, read_reply, Step, Run, start, Right}
use Rattle.planner.specs.Sheet.Call.{Mark, Unmark, Search, Read}
use Rattle.planner.specs.Sheet.Reply.{refused}
use Rattle.player.specs.Play.{call_at, calls_of, Played}
use Rattle.planner.proofs.EveryList.{every_list}

-- Counts in their ranges

pub played_right : (f s c : ℕ) → good_counts f s c ≡ true → (calls before after work words : List ℕ) (n : ℕ)
    → (h : Played f s c calls before after work words n) → Right (start f s c) (calls_of (length work) calls n) h.replies
played_right f s c g calls before after work words n h = every_list f s c g (calls_of (length work) calls n) h.replies h.run

-- Counts that are refused

mark_unsound : (u : FunctionUnit) (q s c : ℕ) → sound_of u ≡ false → mark_of u q s c ≡ record { answer = Err NotSound; unit = u }
unfolding mark_of spot_answer
mark_unsound u q s c h = simp h

unmark_unsound : (u : FunctionUnit) (q s c : ℕ) → sound_of u ≡ false → unmark_of u q s c ≡ record { answer = Err NotSound; unit = u }
unfolding unmark_of spot_answer
unmark_unsound u q s c h = simp h

search_unsound : (u : FunctionUnit) (q room : ℕ) → sound_of u ≡ false → search_answer u q room ≡ Err NotSound
unfolding search_answer tag_answer
search_unsound u q room h = simp h

read_unsound : (u : FunctionUnit) → sound_of u ≡ false → read_of u ≡ Err NotSound
unfolding read_of read_answer
read_unsound u h = simp h

step_unsound : (k : Call) (u : FunctionUnit) (a : Reply) (after : FunctionUnit) → sound_of u ≡ false → Step u k a after → (a ≡ refused 1) × (after ≡ u)
step_unsound (Mark q s c) u a after h (r, e, t, l) =
    let m = e ∙ mark_unsound u q s c h in
    (t ∙ ap (λ (o : Outcome). reply_to o.answer) m, l ∙ ap (λ (o : Outcome). o.unit) m)
step_unsound (Unmark q s c) u a after h (r, e, t, l) =
    let m = e ∙ unmark_unsound u q s c h in
    (t ∙ ap (λ (o : Outcome). reply_to o.answer) m, l ∙ ap (λ (o : Outcome). o.unit) m)
step_unsound (Search q room) u a after h w =
    let m = w.promise.says ∙ search_unsound u q (length w.before) h in
    (w.told ∙ ap reply_to m, w.promise.kept NotSound m)
step_unsound Read u a after h (r, e, t, l) =
    (t ∙ ap read_reply (e ∙ read_unsound u h), l)

run_unsound : (calls : List Call) (replies : List Reply) (u : FunctionUnit) → sound_of u ≡ false → Run u calls replies → replies ≡ replicate (length calls) (refused 1)
run_unsound [] [] u h r = refl
run_unsound [] (a ∷ replies) u h r = absurd r
run_unsound (k ∷ calls) [] u h r = absurd r
run_unsound (k ∷ calls) (a ∷ replies) u h (after, step, r) =
    let s = step_unsound k u a after h step in
    ap₂ (λ (x : Reply) (l : List Reply). x ∷ l) s.0 (run_unsound calls replies after (ap sound_of s.1 ∙ h) r)

fresh_unsound : (f s c : ℕ) → good_counts f s c ≡ false → sound_of (fresh_of f s c).unit ≡ false
unfolding fresh_of sound_of
fresh_unsound f s c g = simp g

calls_length : (room : ℕ) (bytes : List ℕ) (n : ℕ) → length (calls_of room bytes n) ≡ n
unfolding calls_of
calls_length room bytes zero = refl
calls_length room bytes (suc n) =
    length-append (calls_of room bytes n) (call_at room bytes n ∷ []) ∙ ap (λ (k : ℕ). k + 1) (calls_length room bytes n) ∙ add-one n

pub played_refused : (f s c : ℕ) → good_counts f s c ≡ false → (calls before after work words : List ℕ) (n : ℕ)
    → (h : Played f s c calls before after work words n) → h.replies ≡ replicate n (refused 1)
played_refused f s c g calls before after work words n h =
    run_unsound (calls_of (length work) calls n) h.replies (fresh_of f s c).unit (fresh_unsound f s c g) h.run
    ∙ ap (λ (k : ℕ). replicate k (refused 1)) (calls_length (length work) calls n)
