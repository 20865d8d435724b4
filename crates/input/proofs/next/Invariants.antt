-- `input::next` is safe and ends: what was read and the line stay within their rooms.
-- Assumes nothing.
use Rattle.std.proofs.Common.{◌+◌, ◌≤◌, length}
use Rattle.input.proofs.next.Given as goal

abbrev pub invariant-loop : goal.invariant-loop
invariant-loop g l = (l.stand.to ≤ length l.chunk) × (l.stand.len ≤ length l.line + 1)
