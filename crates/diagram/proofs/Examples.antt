-- The state diagram of the collision vector 10110001, computed: 5 states, as worked out by hand. Assumes nothing.
use mathlib.Core.Path.{◌≡◌, refl}
use mathlib.Core.List.{[], ◌∷◌}
use Rattle.words.specs.Below.{span_below}
use Rattle.diagram.specs.Diagram.{width}
use Rattle.diagram.specs.States.{expand, list_from, states}
use Rattle.diagram.specs.Work.{enlist_answer}

pub fig1_width : width 0b10110001 ≡ 8
unfolding span_below
fig1_width = refl

-- From the first state 2, 3 and 4 lead to new states, and 2 from the first of these; every other arc leads back to one of the five.
pub fig1_states : states 256 1 8 0b10110001 ≡ 0b10110001 ∷ 0b10111101 ∷ 0b10110111 ∷ 0b10111011 ∷ 0b10111111 ∷ []
unfolding expand list_from
fig1_states = refl

pub fig1_number : enlist_answer 768 1 0b10110001 ≡ 5
unfolding span_below expand list_from enlist_answer
fig1_number = refl
