-- What the listing hands out to C. Assumes nothing.
use Rattle.std.specs.Prelude.{ℕ, ◌≡◌, List, Result, Ok, Err}
use Rattle.unit.specs.Numbers.{number_of}
use Rattle.listing.specs.Listing.{FileListed}
use Rattle.unit.specs.declared.Refusal.{Refusal}

-- what is told of a listing: 0, or the number of the refusal
abbrev pub listed_number : Result ℕ Refusal → ℕ
listed_number (Ok n) = 0
listed_number (Err why) = number_of why

-- what it hands out: the length, or what was there
abbrev pub listed_length : Result ℕ Refusal → ℕ → ℕ
listed_length (Ok n) old = n
listed_length (Err why) old = old

-- what the listing's own call promises (crate listing, `FileListed`), with its answer as numbers
pub record ListingHanded (file out outAfter : List ℕ) (size sizeAfter answer : ℕ) : Type 0 where
  pub listed : Result ℕ Refusal
  pub promise : FileListed file out outAfter listed
  pub says : answer ≡ listed_number listed
  pub length : sizeAfter ≡ listed_length listed size
