-- Working words: the listed states, and an index by which a state's place is found without a scan of the list.
use Rattle.std.specs.Prelude.{◌≡◌, cond, ◌&&◌, List, ℕ, zero, suc, ◌+◌, ◌-◌, ◌*◌, ◌/◌, ◌%◌, ◌≤◌, ◌<◌, leb, ltb, eqb, length, get_or, take}
use Rattle.diagram.specs.Diagram.{width}
use Rattle.diagram.specs.States.{states}

-- The words: state i at i, the head of bucket b at 256 + b, the link of state i at 512 + i. A head or a link is 0 for none, or one more
-- than the place of a state: the last listed of the bucket, or the last before state i that is in the bucket of state i.
abbrev pub state_in : List ℕ → ℕ → ℕ
state_in w i = get_or w i 0

abbrev pub head_in : List ℕ → ℕ → ℕ
head_in w b = get_or w (256 + b) 0

abbrev pub link_in : List ℕ → ℕ → ℕ
link_in w i = get_or w (512 + i) 0

-- the bucket of a state
abbrev pub bucket : ℕ → ℕ
bucket x = x * 2654435769 / 16777216 % 256

-- the place of x along the links from the state at - 1 on, or `none` where they end; `f` bounds the steps
unfoldable pub along : ℕ → List ℕ → ℕ → ℕ → ℕ → ℕ
along zero w none x at = none
along (suc f) w none x at =
    let r : ℕ = cond (ltb (link_in w (at - 1)) at) (along f w none x (link_in w (at - 1))) none in
    let s : ℕ = cond (eqb (state_in w (at - 1)) x) (at - 1) r in
    cond (eqb at 0) none s

-- the place of x among the first k states by way of the index, or k
unfoldable pub place_in : List ℕ → ℕ → ℕ → ℕ
place_in w k x = cond (leb 768 (length w) && leb (head_in w (bucket x)) 256) (along 257 w k x (head_in w (bucket x))) k

-- the index of the first k states is right: a head or a link leads to a state of its bucket, no state of a bucket stands after its head,
-- none between a state and its link
pub record Indexed (w : List ℕ) (k : ℕ) : Type 0 where
  pub room : 768 ≤ length w
  pub few : k ≤ 256
  pub head_low : (b : ℕ) → b < 256 → head_in w b ≤ k
  pub head_bucket : (b : ℕ) → b < 256 → 0 < head_in w b → bucket (state_in w (head_in w b - 1)) ≡ b
  pub head_last : (b : ℕ) → b < 256 → (j : ℕ) → head_in w b ≤ j → j < k → bucket (state_in w j) ≡ b → ⊥
  pub link_low : (i : ℕ) → i < k → link_in w i ≤ i
  pub link_bucket : (i : ℕ) → i < k → 0 < link_in w i → bucket (state_in w (link_in w i - 1)) ≡ bucket (state_in w i)
  pub link_last : (i : ℕ) → i < k → (j : ℕ) → link_in w i ≤ j → j < i → bucket (state_in w j) ≡ bucket (state_in w i) → ⊥

-- how many states the diagram of cv has, or 0 for more than 256 or for too few working words
unfoldable pub enlist_answer : ℕ → ℕ → ℕ → ℕ
enlist_answer room g cv =
    cond (leb 768 room && leb (length (states 256 g (width cv) cv)) 256) (length (states 256 g (width cv) cv)) 0

-- The first 768 words afterwards are free but for what is said of them here.
pub record Enlisted (g cv : ℕ) (before after : List ℕ) (r : ℕ) : Type 0 where
  pub answer : r ≡ enlist_answer (length before) g cv
  pub listed : 0 < r → take r after ≡ states 256 g (width cv) cv
  pub index : 0 < r → Indexed after r
  pub size : length after ≡ length before
  pub beyond : (i : ℕ) → 768 ≤ i → get_or after i 0 ≡ get_or before i 0
  pub short : length before < 768 → after ≡ before
