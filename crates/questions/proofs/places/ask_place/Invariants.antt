-- The flags of the groups so far are barred.
use Rattle.std.proofs.Common.{◌≡◌, true, false, length, take}
use Rattle.wire.specs.Capacity.{group_capacity}
use Rattle.measuring.proofs.TablesLaws.{free_table}
use Rattle.questions.specs.Groups.{numbers_of}
use Rattle.questions.proofs.FlagsLaws.{Barred}
use Rattle.questions.proofs.places.ask_place.Given as goal

abbrev pub invariant-loop-g : goal.invariant-loop-g
invariant-loop-g l = (length l.flags ≡ group_capacity) × Barred free_table false (take l.g-index (numbers_of l.ins)) l.flags

abbrev pub invariant-loop-h : goal.invariant-loop-h
invariant-loop-h l = (length l.flags ≡ group_capacity) × Barred l.initial.flags true (take l.h-index (numbers_of l.outs)) l.flags
