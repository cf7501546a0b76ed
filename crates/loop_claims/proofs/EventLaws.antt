-- A step of a loop is what the issue controller does: t - 1 ticks, and then a start of the next tag that it grants. Assumes nothing.
use Rattle.std.proofs.Common.{Ok}
use mathlib.Core.Path.{◌≡◌, refl, sym, ap, ◌∙◌, subst}
use mathlib.Core.Bool.{true}
use mathlib.Core.Logic.{◌↔◌}
use mathlib.Core.List.{List}
use Prim.Native.Nat.{ℕ, zero, suc, ◌-◌, ◌≤◌}
use Rattle.unit.specs.declared.FunctionUnit.{FunctionUnit}
use Rattle.unit.specs.Unit.{sound_of}
use Rattle.controller.specs.declared.Bank.{Bank}
use Rattle.controller.specs.declared.Event.{Event}
use Rattle.controller.specs.declared.Event.TheVariants.{Tick, Start}
use Rattle.controller.specs.Bank.{shifted, ticked, granted, event_answer, moved, step_of}
use Rattle.controller.proofs.StepLaws.{step_done, start_accepted, start_answered}
use Rattle.controller.proofs.TickLaws.{tick_shifts}
use Rattle.loops.specs.declared.State.{State}
use Rattle.loops.specs.Loop.{Loop}
use Rattle.loops.specs.Steps.{Steps, next_tag, stepped}
use Rattle.loops.proofs.StepLaws.{tag_inside}

-- the bank after m tick events
abbrev pub ticked_by : FunctionUnit → ℕ → Bank → Bank
ticked_by u zero b = b
ticked_by u (suc m) b = (step_of u (ticked_by u m b) Tick).bank

abbrev pub start_of : List ℕ → State → Event
start_of tags s = Start (record { 0 = next_tag tags s })

module _ (u : FunctionUnit) (sound : sound_of u ≡ true) where
  pub ticks_events : (m : ℕ) (b : Bank) → ticked_by u m b ≡ ticked m b
  ticks_events zero b = refl
  ticks_events (suc m) b = tick_shifts u sound (ticked_by u m b) ∙ ap shifted (ticks_events m b)

  module _ (tags : List ℕ) (loop : Loop u tags) (s : State) (t : ℕ) where
    -- a latency of at least 1 is a step exactly when the controller, after t - 1 ticks, answers done to the start
    pub step_granted : 1 ≤ t → Steps tags s t ↔ (event_answer u (ticked_by u (t - 1) s.bank) (start_of tags s) ≡ Ok tt)
    step_granted h =
        let e = ticks_events (t - 1) s.bank in (
          λ p.
              start_answered u (ticked_by u (t - 1) s.bank) (record { 0 = next_tag tags s }) sound (tag_inside u tags loop _)
              (subst (λ (b : Bank). granted b (next_tag tags s) ≡ true) (sym e) p.granted),
          λ a. record {
            least = h;
            granted = subst (λ (b : Bank). granted b (next_tag tags s) ≡ true) e (start_accepted u (ticked_by u (t - 1) s.bank) (record { 0 = next_tag tags s }) a).granted;
          },
        )

    -- and then leaves the bank of the state after it
    pub step_bank : Steps tags s t → (step_of u (ticked_by u (t - 1) s.bank) (start_of tags s)).bank ≡ (stepped u tags s t).bank
    unfolding moved
    step_bank p =
        sym (ap (λ r. r.bank) (step_done u (ticked_by u (t - 1) s.bank) (start_of tags s) ((step_granted p.least).0 p)))
        ∙ ap (λ (b : Bank). moved u b (start_of tags s)) (ticks_events (t - 1) s.bank)
