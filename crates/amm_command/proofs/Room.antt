-- What is left of a room.
use Rattle.std.proofs.Common.{◌≡◌, ℕ, ◌+◌, ◌<◌, Some, None, arith}
use Rattle.std.proofs.lemmas.Bool.Decides.{nat_tests}
use Rattle.amm_command.specs.Ahead.{room_after}

pub room_after-none : (room n : ℕ) → room < n → room_after room n ≡ None
room_after-none room n h = grind (arith, nat_tests)

pub room_after-is_none : (room n : ℕ) → None ≡ room_after room n → room < n
room_after-is_none room n h = grind (arith, nat_tests)

pub room_after-is_some : (room n left : ℕ) → Some left ≡ room_after room n → left + n ≡ room
room_after-is_some room n left h = grind (arith, nat_tests)
