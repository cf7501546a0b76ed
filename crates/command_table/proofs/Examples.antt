-- Some names and usages, worked out by hand. Assumes nothing.
use Rattle.std.proofs.Common.{Some, None}
use mathlib.Core.Path.{◌≡◌, refl}
use Rattle.text.specs.Text.{ascii, same}
use Rattle.command_table.specs.Commands.{row_at, name_at, usage_at, entry_at, among, command_of}

pub name_of_mark : name_at 1 ≡ ascii "mark"
unfolding name_at row_at
name_of_mark = refl

pub usage_of_judge : usage_at 12 ≡ ascii "judge Q L L .."
unfolding usage_at row_at
usage_of_judge = refl

pub usage_of_loop : usage_at 21 ≡ ascii "loop Q Q .."
unfolding usage_at row_at
usage_of_loop = refl

pub usage_of_record : usage_at 22 ≡ ascii "record Q FILE"
unfolding usage_at row_at
usage_of_record = refl

pub usage_of_simulate : usage_at 25 ≡ ascii "simulate Q UNITS"
unfolding usage_at row_at
usage_of_simulate = refl

pub usage_of_delays : usage_at 26 ≡ ascii "delays Q M [FILE]"
unfolding usage_at row_at
usage_of_delays = refl

pub usage_of_arrive : usage_at 27 ≡ ascii "arrive Q TICKET"
unfolding usage_at row_at
usage_of_arrive = refl

pub usage_of_call : usage_at 31 ≡ ascii "call I Q TICKET"
unfolding usage_at row_at
usage_of_call = refl

pub usage_of_small : usage_at 33 ≡ ascii "small S C [NUMBER]"
unfolding usage_at row_at
usage_of_small = refl

pub mark_is_found : command_of (ascii "mark") ≡ Some (entry_at 1)
unfolding command_of among same name_at row_at
mark_is_found = refl

pub delays_is_found : command_of (ascii "delays") ≡ Some (entry_at 26)
unfolding command_of among same name_at row_at
delays_is_found = refl

pub queue_is_found : command_of (ascii "queue") ≡ Some (entry_at 29)
unfolding command_of among same name_at row_at
queue_is_found = refl

pub turn_is_found : command_of (ascii "turn") ≡ Some (entry_at 32)
unfolding command_of among same name_at row_at
turn_is_found = refl

pub small_is_found : command_of (ascii "small") ≡ Some (entry_at 33)
unfolding command_of among same name_at row_at
small_is_found = refl

pub part_of_a_name : command_of (ascii "mar") ≡ None
unfolding command_of among same name_at row_at
part_of_a_name = refl

pub capitals : command_of (ascii "Mark") ≡ None
unfolding command_of among same name_at row_at
capitals = refl
