-- Graphs given by rule: which label leads from a state to which state. The state diagram of a function and the states of a loop are such.
use Rattle.std.specs.Prelude.{◌≡◌, List, [], ◌∷◌, ℕ, ◌<◌, length, get_or}

-- the first state, the labels that a state permits, and where each leads
pub record Graph : Type 1 where
  pub State : Type 0
  pub first : State
  pub Permits : State → ℕ → Type 0
  pub next : State → ℕ → State

-- a walk: from a state, along labels, to a state
pub data Walk (G : Graph) : G.State → List ℕ → G.State → Type 0 where
  stay : {s : G.State} → Walk G s [] s
  step : {s e : G.State} {t : ℕ} {l : List ℕ} → G.Permits s t → Walk G (G.next s t) l e → Walk G s (t ∷ l) e

pub record Reachable (G : Graph) (s : G.State) : Type 0 where
  pub along : List ℕ
  pub walk : Walk G G.first along s

-- x is in the list l
pub record Listed (G : Graph) (x : G.State) (l : List G.State) : Type 0 where
  pub index : ℕ
  pub inside : index < length l
  pub found : get_or l index G.first ≡ x

-- every state of the list has the property
abbrev pub Each : (G : Graph) → (G.State → Type 0) → List G.State → Type 0
Each G P l = (i : ℕ) → i < length l → P (get_or l i G.first)

-- no state twice
abbrev pub Distinct : (G : Graph) → List G.State → Type 0
Distinct G l = (i j : ℕ) → i < j → j < length l → get_or l i G.first ≡ get_or l j G.first → ⊥

-- the states that the labels lead through from s, each before its label
abbrev pub states_along : (G : Graph) → G.State → List ℕ → List G.State
states_along G s [] = []
states_along G s (t ∷ l) = s ∷ states_along G (G.next s t) l

-- a cycle through the state s: the labels lead from s, which is reachable, back to it, and no state occurs twice on the way
pub record CycleAt (G : Graph) (s : G.State) (l : List ℕ) : Type 0 where
  pub reached : Reachable G s
  pub closed : Walk G s l s
  pub apart : Distinct G (states_along G s l)
