-- `colour_alone` meets its contract: each room is large enough. Assumes nothing.
use native.Mathlib.Omega.{arith}
use Rattle.tower_single.proofs.Rooms.{room_for, room_most}
use Rattle.tower_single.proofs.room.colour_alone.Goals as goal

pub with_room-requires-clause-colour_room : goal.with_room-requires-clause-colour_room
with_room-requires-clause-colour_room c = (room_for _ _ _ 16 c.requires.2 c.if-c-le16.true, omega arith, omega arith)

pub with_room-requires-then-c-le64-clause-colour_room : goal.with_room-requires-then-c-le64-clause-colour_room
with_room-requires-then-c-le64-clause-colour_room c = (room_for _ _ _ 64 c.requires.2 c.if-c-le64.true, omega arith, omega arith)

pub with_room-requires-else-c-le64-clause-colour_room : goal.with_room-requires-else-c-le64-clause-colour_room
with_room-requires-else-c-le64-clause-colour_room c = (room_most _ _ _ c.requires.2, omega arith, omega arith)
