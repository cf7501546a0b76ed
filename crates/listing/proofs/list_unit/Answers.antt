-- `listing::list_unit` meets its contract: the text of a sound unit is put together first, and handed over. Assumes nothing.
use mathlib.Core.Path.{◌≡◌}
use mathlib.Core.Bool.{true}
use native.Mathlib.Omega.{arith}
use Rattle.words.proofs.Tests.{on, off}
use Rattle.unit.specs.Unit.{sound_of}
use Rattle.listing.proofs.AreaLaws.{put_front_length, unit_unsound, unit_most, unit_listed}
use Rattle.listing.proofs.list_unit.Goals as goal

pub returns-then-not-sound : goal.returns-then-not-sound
returns-then-not-sound c = unit_unsound (off c.if-not-sound.true-raw c.sound.ensures)

pub put_functions-end-requires : goal.put_functions-end-requires
put_functions-end-requires c =
    let sound-is : sound_of c.args.u ≡ true = on c.if-not-sound.false-raw c.sound.ensures in
    (sound-is, omega arith)

pub slice_bounds-hand_out-end : goal.slice_bounds-hand_out-end
slice_bounds-hand_out-end c = put_front_length c.put_functions-end.ensures.put

pub hand_out-requires : goal.hand_out-requires
hand_out-requires c =
    let sound-is : sound_of c.args.u ≡ true = on c.if-not-sound.false-raw c.sound.ensures in
    omega (arith, put_front_length c.put_functions-end.ensures.put, unit_most sound-is c.put_functions-end.ensures)

pub returns : goal.returns
returns c =
    let sound-is : sound_of c.args.u ≡ true = on c.if-not-sound.false-raw c.sound.ensures in
    unit_listed sound-is c.put_functions-end.ensures c.hand_out.ensures
