-- A list of calls played, for counts that are the same, and a listing's answer as numbers. Assumes nothing.
use Rattle.std.proofs.Common.{Result, Ok, Err}
use mathlib.Core.Path.{◌≡◌, sym, ap, ◌∙◌, subst}
use mathlib.Core.List.{List}
use Prim.Native.Nat.{ℕ}
use Rattle.unit.specs.declared.Refusal.{Refusal}
use Rattle.unit.specs.Numbers.{number_of}
use Rattle.player.specs.Play.{Played}
use Rattle.listing.specs.Listing.{FileListed}
use Rattle.c_interface.specs.Listing.{listed_number, listed_length, ListingHanded}

pub played_as : {f s c f₁ s₁ c₁ : ℕ} {calls before after work words : List ℕ} {n : ℕ} → f ≡ f₁ → s ≡ s₁ → c ≡ c₁
    → Played f s c calls before after work words n → Played f₁ s₁ c₁ calls before after work words n
played_as {f} {s} {c} {f₁} {s₁} {c₁} {calls} {before} {after} {work} {words} {n} e₁ e₂ e₃ p =
    subst (λ (x : ℕ). Played x s₁ c₁ calls before after work words n) e₁
    (subst (λ (x : ℕ). Played f x c₁ calls before after work words n) e₂
    (subst (λ (x : ℕ). Played f s x calls before after work words n) e₃ p))

-- A listing's answer as numbers

pub listing_handed : {file out after : List ℕ} {size n : ℕ} {listed : (Result ℕ Refusal)} → FileListed file out after listed → listed ≡ Ok n
    → ListingHanded file out after size n 0
listing_handed {size = size} {listed = listed} p e = record {
  listed = listed;
  promise = p;
  says = sym (ap listed_number e);
  length = sym (ap (λ a. listed_length a size) e);
}

pub listing_refused : {file out after : List ℕ} {size r : ℕ} {why : Refusal} {listed : (Result ℕ Refusal)} → FileListed file out after listed
    → listed ≡ Err why → r ≡ number_of why → ListingHanded file out after size size r
listing_refused {size = size} {listed = listed} p e c = record {
  listed = listed;
  promise = p;
  says = c ∙ sym (ap listed_number e);
  length = sym (ap (λ a. listed_length a size) e);
}
