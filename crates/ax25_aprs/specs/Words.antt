-- DICTIONARY, the words of position text and messages.
-- Assumes nothing.
use Rattle.std.specs.Prelude.{◌≡◌, List, [], ◌∷◌, ℕ, suc, ◌-◌, ◌≤◌, get_or}
use Rattle.std.specs.Prelude.{Option, None, Some}
use Rattle.laws.specs.Pick.{pick}
use Rattle.laws.specs.Text.{ascii, starts}

-- the nine words, in the order of their codes
unfoldable pub words : List (List ℕ)
words =
    ascii "/A=00" ∷ ascii "VARA" ∷ ascii "PinPoint" ∷ ascii "HF " ∷ ascii "ack"
    ∷ ascii "APRS" ∷ ascii "ping{" ∷ ascii "Digi" ∷ ascii "Gate" ∷ []

-- the word of a code from 1 to 9
unfoldable pub word : ℕ → List ℕ
word n = get_or words (n - 1) []

-- the code of the first of these words that s starts with, counted from k; 0 where there is none
unfoldable pub first_of : ℕ → List (List ℕ) → List ℕ → ℕ
first_of k [] s = 0
first_of k (w ∷ ws) s = pick (starts w s) k (first_of (suc k) ws s)

-- the code of the word that s starts with; 0 where there is none
unfoldable pub word_at : List ℕ → ℕ
word_at s = first_of 1 words s

-- the code of the word that s starts with, or none where there is none
abbrev pub Spells : List ℕ → Option ℕ → Type 0
Spells s None = word_at s ≡ 0
Spells s (Some n) = (word_at s ≡ n) × (1 ≤ n) × (n ≤ 9)
