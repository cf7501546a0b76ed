-- What the stores of an insertion do to the words and to their index. Assumes nothing.
use mathlib.Core.Path.{◌≡◌, sym, ap, ◌∙◌}
use mathlib.Core.List.{List, [], ◌∷◌, ◌++◌}
use Prim.Native.Nat.{ℕ, suc, ◌+◌, ◌-◌, ◌≤◌, ◌<◌}
use native.Mathlib.Numerals.{add-one}
use native.Mathlib.Decide.{dec_lt, ℕ_discrete}
use native.Mathlib.Omega.{arith}
use lib.ListN.{length, get_or, take, set, length-set}
use lib.Seq.{get_or-set_same, get_or-set_other, take-suc-set, take-set-le}
use Rattle.diagram.specs.Work.{state_in, head_in, link_in, bucket, Indexed}
use Rattle.diagram.specs.Inner.{Confined, Grown}
use Rattle.diagram.proofs.IndexLaws.{bucket_lt}

-- the words with the state x as number k, the last of the bucket b
abbrev pub inserted : List ℕ → ℕ → ℕ → ℕ → List ℕ
inserted w k x b = set (set (set w k x) (512 + k) (head_in w b)) (256 + b) (k + 1)

module _ (w : List ℕ) (k x b : ℕ) (room : 768 ≤ length w) (few : k < 256) (low : b < 256) where
  inserted_size : length (inserted w k x b) ≡ length w
  inserted_size = simp length-set

  elsewhere : (i : ℕ) → (i ≡ k → ⊥) → (i ≡ 512 + k → ⊥) → (i ≡ 256 + b → ⊥) → get_or (inserted w k x b) i 0 ≡ get_or w i 0
  elsewhere i p q r =
      get_or-set_other (set (set w k x) (512 + k) (head_in w b)) (256 + b) i (k + 1) 0 r
      ∙ get_or-set_other (set w k x) (512 + k) i (head_in w b) 0 q
      ∙ get_or-set_other w k i x 0 p

  -- The words of the new state

  state_new : state_in (inserted w k x b) k ≡ x
  state_new =
      get_or-set_other (set (set w k x) (512 + k) (head_in w b)) (256 + b) k (k + 1) 0 (λ e. omega arith)
      ∙ get_or-set_other (set w k x) (512 + k) k (head_in w b) 0 (λ e. omega arith)
      ∙ get_or-set_same w k x 0 (omega arith)

  link_new : link_in (inserted w k x b) k ≡ head_in w b
  link_new =
      get_or-set_other (set (set w k x) (512 + k) (head_in w b)) (256 + b) (512 + k) (k + 1) 0 (λ e. omega arith)
      ∙ get_or-set_same (set w k x) (512 + k) (head_in w b) 0 (simp length-set (omega arith))

  head_new : head_in (inserted w k x b) b ≡ k + 1
  head_new = get_or-set_same (set (set w k x) (512 + k) (head_in w b)) (256 + b) (k + 1) 0 (simp length-set (omega arith))

  -- The words of the others

  state_old : (i : ℕ) → i < k → state_in (inserted w k x b) i ≡ state_in w i
  state_old i h = elsewhere i (λ e. omega arith) (λ e. omega arith) (λ e. omega arith)

  link_old : (i : ℕ) → i < k → link_in (inserted w k x b) i ≡ link_in w i
  link_old i h = elsewhere (512 + i) (λ e. omega arith) (λ e. omega arith) (λ e. omega arith)

  head_old : (c : ℕ) → c < 256 → (c ≡ b → ⊥) → head_in (inserted w k x b) c ≡ head_in w c
  head_old c h ne = elsewhere (256 + c) (λ e. omega arith) (λ e. omega arith) (λ e. ne (omega arith))

  inserted_listed : take (k + 1) (inserted w k x b) ≡ take k w ++ (x ∷ [])
  inserted_listed =
      ap (λ n. take n (inserted w k x b)) (add-one k)
      ∙ take-set-le (suc k) (set (set w k x) (512 + k) (head_in w b)) (256 + b) (k + 1) (omega arith)
      ∙ take-set-le (suc k) (set w k x) (512 + k) (head_in w b) (omega arith)
      ∙ take-suc-set w k x (omega arith)

  inserted_confined : Confined w (inserted w k x b)
  inserted_confined = record {
    size = inserted_size;
    beyond = λ i h. elsewhere i (λ e. omega arith) (λ e. omega arith) (λ e. omega arith);
  }

-- The index with the new state

-- a place is the last one, or one before it
data Recent (k : ℕ) : ℕ → Type 0 where
  newest : Recent k k
  older : {i : ℕ} → i < k → Recent k i

recent : (k i : ℕ) → i < k + 1 → Recent k i
recent k i h = go (dec_lt i k)
  where
    go : Dec (i < k) → Recent k i
    go (yes l) = older l
    go (no l) = let e : k ≡ i = omega arith in rw (← e) newest

module _ (w : List ℕ) (k x b : ℕ) (e : b ≡ bucket x) (few : k < 256) (old : Indexed w k) where
  room : 768 ≤ length w
  room = old.room

  low : b < 256
  low = rw e (bucket_lt x)

  bucket_old : (i : ℕ) → i < k → bucket (state_in (inserted w k x b) i) ≡ bucket (state_in w i)
  bucket_old i h = ap bucket (state_old w k x b room few low i h)

  bucket_new : bucket (state_in (inserted w k x b) k) ≡ b
  bucket_new = ap bucket (state_new w k x b room few low) ∙ sym e

  head_low : (c : ℕ) → c < 256 → head_in (inserted w k x b) c ≤ k + 1
  head_low c h = go (ℕ_discrete c b)
    where
      go : Dec (c ≡ b) → head_in (inserted w k x b) c ≤ k + 1
      go (yes s) = rw s (omega (arith, head_new w k x b room few low))
      go (no s) = omega (arith, head_old w k x b room few low c h s, old.head_low c h)

  head_bucket : (c : ℕ) → c < 256 → 0 < head_in (inserted w k x b) c
      → bucket (state_in (inserted w k x b) (head_in (inserted w k x b) c - 1)) ≡ c
  head_bucket c h = go (ℕ_discrete c b)
    where
      go : Dec (c ≡ b) → 0 < head_in (inserted w k x b) c → bucket (state_in (inserted w k x b) (head_in (inserted w k x b) c - 1)) ≡ c
      go (yes s) p =
          let at : head_in (inserted w k x b) c - 1 ≡ k = omega (arith, ap (head_in (inserted w k x b)) s, head_new w k x b room few low) in
          ap (λ i. bucket (state_in (inserted w k x b) i)) at ∙ bucket_new ∙ sym s
      go (no s) p =
          let at : head_in (inserted w k x b) c ≡ head_in w c = head_old w k x b room few low c h s in
          ap (λ i. bucket (state_in (inserted w k x b) (i - 1))) at
          ∙ bucket_old (head_in w c - 1) (omega (arith, old.head_low c h))
          ∙ old.head_bucket c h (omega arith)

  head_last : (c : ℕ) → c < 256 → (j : ℕ) → head_in (inserted w k x b) c ≤ j → j < k + 1 → bucket (state_in (inserted w k x b) j) ≡ c → ⊥
  head_last c h j l m q = go (recent k j m) l q (ℕ_discrete c b)
    where
      go : {j : ℕ} → Recent k j → head_in (inserted w k x b) c ≤ j → bucket (state_in (inserted w k x b) j) ≡ c → Dec (c ≡ b) → ⊥
      go newest l q (yes s) = omega (arith, ap (head_in (inserted w k x b)) s, head_new w k x b room few low)
      go newest l q (no s) = s (sym q ∙ bucket_new)
      go (older {i = j} o) l q (yes s) = omega (arith, ap (head_in (inserted w k x b)) s, head_new w k x b room few low)
      go (older {i = j} o) l q (no s) =
          old.head_last c h j (omega (arith, head_old w k x b room few low c h s)) o (sym (bucket_old j o) ∙ q)

  link_low : (i : ℕ) → i < k + 1 → link_in (inserted w k x b) i ≤ i
  link_low i h = go (recent k i h)
    where
      go : {i : ℕ} → Recent k i → link_in (inserted w k x b) i ≤ i
      go newest = omega (arith, link_new w k x b room few low, old.head_low b low)
      go (older {i = i} o) = omega (arith, link_old w k x b room few low i o, old.link_low i o)

  link_bucket : (i : ℕ) → i < k + 1 → 0 < link_in (inserted w k x b) i
      → bucket (state_in (inserted w k x b) (link_in (inserted w k x b) i - 1)) ≡ bucket (state_in (inserted w k x b) i)
  link_bucket i h = go (recent k i h)
    where
      go : {i : ℕ} → Recent k i → 0 < link_in (inserted w k x b) i
          → bucket (state_in (inserted w k x b) (link_in (inserted w k x b) i - 1)) ≡ bucket (state_in (inserted w k x b) i)
      go newest p =
          let at : link_in (inserted w k x b) k ≡ head_in w b = link_new w k x b room few low in
          ap (λ i. bucket (state_in (inserted w k x b) (i - 1))) at
          ∙ bucket_old (head_in w b - 1) (omega (arith, old.head_low b low))
          ∙ old.head_bucket b low (omega arith)
          ∙ sym bucket_new
      go (older {i = i} o) p =
          let at : link_in (inserted w k x b) i ≡ link_in w i = link_old w k x b room few low i o in
          ap (λ j. bucket (state_in (inserted w k x b) (j - 1))) at
          ∙ bucket_old (link_in w i - 1) (omega (arith, old.link_low i o))
          ∙ old.link_bucket i o (omega arith)
          ∙ sym (bucket_old i o)

  link_last : (i : ℕ) → i < k + 1 → (j : ℕ) → link_in (inserted w k x b) i ≤ j → j < i
      → bucket (state_in (inserted w k x b) j) ≡ bucket (state_in (inserted w k x b) i) → ⊥
  link_last i h = go (recent k i h)
    where
      go : {i : ℕ} → Recent k i → (j : ℕ) → link_in (inserted w k x b) i ≤ j → j < i
          → bucket (state_in (inserted w k x b) j) ≡ bucket (state_in (inserted w k x b) i) → ⊥
      go newest j l m q =
          old.head_last b low j (omega (arith, link_new w k x b room few low)) m (sym (bucket_old j m) ∙ q ∙ bucket_new)
      go (older {i = i} o) j l m q =
          old.link_last i o j (omega (arith, link_old w k x b room few low i o)) m (sym (bucket_old j (omega arith)) ∙ q ∙ bucket_old i o)

  pub insert_indexed : Indexed (inserted w k x b) (k + 1)
  insert_indexed = record {
    room = omega (arith, inserted_size w k x b room few low, room);
    few = omega arith;
    head_low = head_low;
    head_bucket = head_bucket;
    head_last = head_last;
    link_low = link_low;
    link_bucket = link_bucket;
    link_last = link_last;
  }

  pub insert_grown : Grown w (inserted w k x b) (take k w ++ (x ∷ [])) (k + 1)
  insert_grown = record {
    confined = inserted_confined w k x b room few low;
    held = λ h. record { listed = inserted_listed w k x b room few low; index = insert_indexed };
    over = λ h. absurd (omega arith);
  }
