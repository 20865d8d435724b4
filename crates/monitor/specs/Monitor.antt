-- Frames in the form that packet people read.
-- Assumes nothing.
use Rattle.std.specs.Prelude.{Bool, false, ◌&&◌, ◌||◌, not, List, [], ◌∷◌, ◌++◌, ℕ}
use Rattle.std.specs.Prelude.{Option, None, Some}
use Rattle.laws.specs.Pick.{pick}
use Rattle.laws.specs.Text.{ascii}
use Rattle.ax25_address.specs.Parse.{Parsed, parse_of}
use Rattle.texts.specs.Show.{shown}

-- one of them is true
unfoldable pub any_of : List Bool → Bool
any_of [] = false
any_of (h ∷ hs) = h || any_of hs

-- a star where the H bit is set and none after it is
unfoldable pub star_of : Bool → Bool → List ℕ
star_of heard later = pick (heard && not later) (ascii "*") []

-- "SRC>DEST,DIGI*,DIGI": each digipeater after a comma, by its text and its H bit
unfoldable pub via_of : List (List ℕ) → List Bool → List ℕ
via_of [] hs = []
via_of (c ∷ cs) [] = []
via_of (c ∷ cs) (h ∷ hs) = ascii "," ++ (shown c ++ (star_of h (any_of hs) ++ via_of cs hs))

-- "SRC>DEST,DIGI*,DIGI:information" of a frame's parts
unfoldable pub lined_of : Parsed → List ℕ
lined_of r = shown r.src ++ (ascii ">" ++ (shown r.dest ++ (via_of r.digis r.heard ++ (ascii ":" ++ shown r.info))))

-- bytes that are too short for a frame are shown as they are
unfoldable pub lined_or : List ℕ → Option Parsed → List ℕ
lined_or d None = shown d
lined_or d (Some r) = lined_of r

-- the frame of address fields of l letters
unfoldable pub monitor_of : ℕ → List ℕ → List ℕ
monitor_of l d = lined_or d (parse_of l d)
