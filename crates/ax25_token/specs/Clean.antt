-- Document 01's term *clean call*, by the decoder's reading.
-- Assumes nothing.
use Rattle.std.specs.Prelude.{◌≡◌, Bool, true, false, ◌&&◌, ◌||◌, List, [], ◌∷◌, ◌++◌, ℕ, ◌≤◌, ◌<◌, length}
use Rattle.laws.specs.Pick.{pick}
use Rattle.laws.specs.Text.{ascii, between, is_digit, is_one_of}
use Rattle.ax25_token.specs.Token.{suffix}

-- "of A to Z and 0 to 9"
unfoldable pub clean_letter : ℕ → Bool
clean_letter x = between 65 90 x || is_digit x

unfoldable pub clean_letters : List ℕ → Bool
clean_letters [] = true
clean_letters (x ∷ xs) = clean_letter x && clean_letters xs

-- "except WIDE1-2, WIDE1-3, WIDE2-2 and WIDE2-3, which the source decodes with SSID 10 or 11"
unfoldable pub misread : List (List ℕ)
misread = ascii "WIDE1-2" ∷ ascii "WIDE1-3" ∷ ascii "WIDE2-2" ∷ ascii "WIDE2-3" ∷ []

-- "Under the mended reading the four WIDE calls count as clean" (02, E5)
abbrev pub misread_by : Bool → List (List ℕ)
misread_by mended = pick mended [] misread

-- "in text a hyphen and a decimal number without leading zeros (0 unwritten)"
unfoldable pub call_text : List ℕ → ℕ → List ℕ
call_text letters ssid = letters ++ suffix ssid

-- "A *clean call* is 1 to 6 of A to Z and 0 to 9, SSID 0 to 15, except .."
pub record CleanCall (mended : Bool) (letters : List ℕ) (ssid : ℕ) : Type 0 where
  pub clean : clean_letters letters ≡ true
  pub some_letters : 1 ≤ length letters
  pub few_letters : length letters ≤ 6
  pub small : ssid < 16
  pub not_misread : is_one_of (call_text letters ssid) (misread_by mended) ≡ false
