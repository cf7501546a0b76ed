-- Greedy cycles and first rotations, computed, as worked out by hand. Assumes nothing.
use mathlib.Core.Path.{◌≡◌, refl}
use mathlib.Core.List.{[], ◌∷◌}
use Rattle.words.specs.Below.{some_below, least_from}
use Rattle.collision.specs.Pipeline.{total}
use Rattle.cycles.specs.Greedy.{least_latency, first_place, greedy_from, greedy_cycle}
use Rattle.cycles.specs.Rotation.{leads, first_rotation}

-- 10110001 permits 2, which leads to 10111101; that permits 2, which leads to 10111111; that permits 7, which leads back to the first state.
pub fig1_greedy : greedy_cycle 1 8 0b10110001 ≡ 2 ∷ 2 ∷ 7 ∷ []
unfolding least_from least_latency first_place greedy_from greedy_cycle
fig1_greedy = refl

pub fig1_sum : total (greedy_cycle 1 8 0b10110001) ≡ 11
unfolding least_from least_latency first_place greedy_from greedy_cycle
fig1_sum = refl

-- From the first state 10001 the latency 2 leads to 10101, and from there 2 leads to 10101 again: the cycle starts at the second state.
pub second_state : greedy_cycle 1 5 0b10001 ≡ 2 ∷ []
unfolding least_from least_latency first_place greedy_from greedy_cycle
second_state = refl

-- With the least interval 3: 3 leads to 10110111, from there 4 to 10111011, and from there 3 to 10110111 again.
pub interval_three : greedy_cycle 3 8 0b10110001 ≡ 4 ∷ 3 ∷ []
unfolding least_from least_latency first_place greedy_from greedy_cycle
interval_three = refl

pub first_of_two : first_rotation (4 ∷ 3 ∷ []) ≡ 1
unfolding some_below least_from leads first_rotation
first_of_two = refl

-- 3 4 3 4 is the rotation by 1 and by 3: the least counts
pub first_of_equals : first_rotation (4 ∷ 3 ∷ 4 ∷ 3 ∷ []) ≡ 1
unfolding some_below least_from leads first_rotation
first_of_equals = refl

pub first_of_three : first_rotation (4 ∷ 4 ∷ 1 ∷ []) ≡ 2
unfolding some_below least_from leads first_rotation
first_of_three = refl

pub first_of_none : first_rotation [] ≡ 0
unfolding some_below least_from leads first_rotation
first_of_none = refl
