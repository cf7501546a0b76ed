-- What a time unit needs that starts a record, or none: by the answer to it, the bank, and the line of which the oldest may be started. Assumes nothing.
use Rattle.std.proofs.Common.{Ok, Err, Some, None}
use Prim.Native.Nat.{ℕ}
use mathlib.Core.Path.{◌≡◌, refl, ap, ◌∙◌, subst}
use mathlib.Core.Bool.{Bool, true, false, cond}
use mathlib.Core.List.{List, [], ◌∷◌}
use native.Mathlib.Omega.{arith}
use Rattle.unit.specs.Answers.{Answer}
use Rattle.controller.specs.declared.Bank.{Bank}
use Rattle.controller.specs.Bank.{granted}
use Rattle.queue.specs.declared.Waiting.{Waiting}
use Rattle.queue.specs.Passed.{Passed}
use Rattle.queue.specs.Calls.{oldest, passed_then}

module _ (b : Bank) (answer : Answer) (line : List Waiting) where
  -- a record was started: the unit was accepted, and the record was the oldest and granted
  pub record Started (w : Waiting) : Type 0 where
    pub accepted : answer ≡ Ok tt
    pub rest : List Waiting
    pub first : line ≡ w ∷ rest
    pub granted : granted b w.tag ≡ true

  pub was_started : (w : Waiting) → passed_then answer (oldest b line) ≡ Ok (Some w) → Started w
  unfolding oldest
  was_started w e = go answer line refl refl e
    where
      same : (x : Waiting) (rest : List Waiting) → answer ≡ Ok tt → line ≡ x ∷ rest → (g : Bool) → granted b x.tag ≡ g
          → ◌≡◌ {A = Passed} (cond g (Ok (Some x)) (Ok None)) (Ok (Some w)) → Started w
      same x rest a p true g e =
          let s : x ≡ w = cc in
          record {
            accepted = a;
            rest = rest;
            first = p ∙ ap (λ (v : Waiting). v ∷ rest) s;
            granted = subst (λ (v : Waiting). granted b v.tag ≡ true) s g;
          }
      same x rest a p false g e = let z : ◌≡◌ {A = ℕ} 0 1 = cc in absurd (omega arith)

      go : (a : Answer) (l : List Waiting) → answer ≡ a → line ≡ l → passed_then a (oldest b l) ≡ Ok (Some w) → Started w
      go (Ok _) [] a p e = let z : ◌≡◌ {A = ℕ} 0 1 = cc in absurd (omega arith)
      go (Ok _) (x ∷ l) a p e = same x l a p (granted b x.tag) refl e
      go (Err why) l a p e = let z : ◌≡◌ {A = ℕ} 0 1 = cc in absurd (omega arith)

  -- where none was started the unit was accepted too, as far as it was not refused
  pub was_idle : passed_then answer (oldest b line) ≡ Ok None → answer ≡ Ok tt
  was_idle e = go answer refl e
    where
      go : (a : Answer) → answer ≡ a → passed_then a (oldest b line) ≡ Ok None → answer ≡ Ok tt
      go (Ok _) a e = a
      go (Err why) a e = let z : ◌≡◌ {A = ℕ} 0 1 = cc in absurd (omega arith)

  -- an accepted time unit at which the bank grants the oldest starts it
  pub granted_started : (w : Waiting) (rest : List Waiting) → answer ≡ Ok tt → line ≡ w ∷ rest → granted b w.tag ≡ true
      → passed_then answer (oldest b line) ≡ Ok (Some w)
  unfolding oldest
  granted_started w rest a e g =
      ap (λ (x : Answer). passed_then x (oldest b line)) a
      ∙ ap (oldest b) e
      ∙ ap (λ ok. cond ok (Ok (Some w)) (Ok None)) g
