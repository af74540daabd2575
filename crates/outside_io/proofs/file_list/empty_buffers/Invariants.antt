use Rattle.std.proofs.Common.{◌≡◌, ◌≤◌, [], All, vec_len, vec_capacity}
use Rattle.outside_io.proofs.file_list.empty_buffers.Given as goal

-- so many buffers are there, each empty and with room
abbrev pub invariant-loop : goal.invariant-loop
invariant-loop l =
    (vec_len l.buffers ≡ l.counter) × All (λ buffer. (buffer.items ≡ []) × (l.room ≤ vec_capacity buffer)) l.buffers.items
