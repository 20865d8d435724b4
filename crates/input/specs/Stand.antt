-- Where reading stands.
-- Assumes nothing.
use Rattle.std.specs.Prelude.{Bool, true, false, ◌&&◌, ◌==◌}
use Rattle.input.specs.declared.Reached.{Reached}
use Rattle.input.specs.declared.Reached.TheVariants.{Middle, LineEnd, InputEnd}
use Rattle.input.specs.declared.Stand.{Stand}

-- the input has ended
abbrev pub is_end : Reached → Bool
is_end Middle = false
is_end LineEnd = false
is_end InputEnd = true

-- the input has ended, and no line is left of it
abbrev pub is_over : Stand → Bool
is_over s = is_end s.reached && (s.len == 0)
