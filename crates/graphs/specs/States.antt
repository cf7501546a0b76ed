-- The list of a graph's states: the first state, then for each listed state in turn its arcs by rising label, each state as it is first found.
use Rattle.std.specs.Prelude.{◌≡◌, Bool, true, false, cond, ◌||◌, List, [], ◌∷◌, ◌++◌, ◌↔◌, ℕ, zero, suc, ◌+◌, ◌≤◌, ◌<◌, ltb, length, get_or}
use Rattle.graphs.specs.Graph.{Graph, Reachable, Each, Distinct}

-- tests of what the list depends on: two states are the same; the state permits a label, of those from 1 to the longest
pub record Tests (G : Graph) : Type 0 where
  pub same : G.State → G.State → Bool
  pub arc : G.State → ℕ → Bool
  pub longest : ℕ

-- they say what they are for
pub record Right (G : Graph) (T : Tests G) : Type 0 where
  pub same : (x y : G.State) → (T.same x y ≡ true) ↔ (x ≡ y)
  pub arc : (s : G.State) (t : ℕ) → 1 ≤ t → t ≤ T.longest → T.arc s t ≡ true → G.Permits s t
  pub permits : (s : G.State) (t : ℕ) → G.Permits s t → (1 ≤ t) × (t ≤ T.longest) × (T.arc s t ≡ true)

abbrev pub has : (G : Graph) → Tests G → G.State → List G.State → Bool
has G T x [] = false
has G T x (y ∷ l) = T.same y x || has G T x l

-- x at the end of l, unless l has it
abbrev pub add : (G : Graph) → Tests G → G.State → List G.State → List G.State
add G T x l = cond (has G T x l) l (l ++ (x ∷ []))

-- the list after the arcs of s for the m labels from t on
unfoldable pub expand : (G : Graph) → Tests G → G.State → ℕ → ℕ → List G.State → List G.State
expand G T s t zero l = l
expand G T s t (suc m) l = expand G T s (suc t) m (cond (T.arc s t) (add G T (G.next s t) l) l)

-- the list where the states from the k-th on are still to be expanded, at most f of them
unfoldable pub list_from : (G : Graph) → Tests G → ℕ → ℕ → List G.State → List G.State
list_from G T zero k l = l
list_from G T (suc f) k l =
    let r : List G.State = list_from G T f (suc k) (expand G T (get_or l k G.first) 1 T.longest l) in
    cond (ltb k (length l)) r l

-- all states, if they are at most cap; else more than cap of them
abbrev pub states : ℕ → (G : Graph) → Tests G → List G.State
states cap G T = list_from G T (cap + 1) 0 (G.first ∷ [])

-- the graph has more than cap states
pub record More (cap : ℕ) (G : Graph) : Type 0 where
  pub some : List G.State
  pub many : cap < length some
  pub distinct : Distinct G some
  pub reached : Each G (Reachable G) some
