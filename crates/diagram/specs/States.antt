-- The list of states: the first state, then for each listed state in turn its arcs by rising latency, each state as it is first found.
use Rattle.std.specs.Prelude.{◌≡◌, Bool, false, cond, ◌&&◌, ◌||◌, List, [], ◌∷◌, ◌++◌, ℕ, zero, suc, ◌+◌, ◌-◌, ◌<◌, leb, ltb, eqb, length, get_or}
use Rattle.words.specs.Bits.{bit}
use Rattle.diagram.specs.Diagram.{next, longest, Reachable}

-- x is in the list l
pub record Listed (x : ℕ) (l : List ℕ) : Type 0 where
  pub index : ℕ
  pub inside : index < length l
  pub found : get_or l index 0 ≡ x

-- every number of the list has the property
abbrev pub Each : (ℕ → Type 0) → List ℕ → Type 0
Each P l = (i : ℕ) → i < length l → P (get_or l i 0)

-- no number twice
abbrev pub Distinct : List ℕ → Type 0
Distinct l = (i j : ℕ) → i < j → j < length l → get_or l i 0 ≡ get_or l j 0 → ⊥

abbrev pub has : ℕ → List ℕ → Bool
has x [] = false
has x (y ∷ l) = eqb y x || has x l

-- x at the end of l, unless l has it
abbrev pub add : ℕ → List ℕ → List ℕ
add x l = cond (has x l) l (l ++ (x ∷ []))

-- the state s permits t, of the latencies from 1 to the longest
abbrev pub arc : ℕ → ℕ → ℕ → ℕ → Bool
arc g n s t = leb g t && (ltb n t || eqb (bit s (t - 1)) 0)

-- the list after the arcs of s for the m latencies from t on
unfoldable pub expand : ℕ → ℕ → ℕ → ℕ → ℕ → ℕ → List ℕ → List ℕ
expand g n cv s t zero l = l
expand g n cv s t (suc m) l = expand g n cv s (suc t) m (cond (arc g n s t) (add (next cv s t) l) l)

-- the list where the states from the k-th on are still to be expanded, at most f of them
unfoldable pub list_from : ℕ → ℕ → ℕ → ℕ → ℕ → List ℕ → List ℕ
list_from g n cv zero k l = l
list_from g n cv (suc f) k l =
    let r : List ℕ = list_from g n cv f (suc k) (expand g n cv (get_or l k 0) 1 (longest g n) l) in
    cond (ltb k (length l)) r l

-- all states, if they are at most cap; else more than cap of them
abbrev pub states : ℕ → ℕ → ℕ → ℕ → List ℕ
states cap g n cv = list_from g n cv (cap + 1) 0 (cv ∷ [])

-- the diagram has more than 256 states
pub record ManyStates (g n cv : ℕ) : Type 0 where
  pub some : List ℕ
  pub many : 256 < length some
  pub distinct : Distinct some
  pub reached : Each (Reachable g n cv) some
