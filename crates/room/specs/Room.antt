-- The most bytes that the calls answer, as the C header has them: "An output with the most bytes is never refused as too short."
-- Assumes nothing.
use Rattle.std.specs.Prelude.{◌≡◌, Bool, true, not, ◌&&◌, ℕ, leb, eqb}
use Rattle.refusals.specs.Outcome.{Outcome, refused}

-- "decoded data: the output of xara_decode"
abbrev pub most_decoded : ℕ
most_decoded = 45764

-- "a message: the output of xara_encode"
abbrev pub most_message : ℕ
most_message = 5000

-- "the field: a fragment has at most field bytes", and "a frame has field + 3 bytes"
abbrev pub most_field : ℕ
most_field = 512

-- every refusal passes a test
abbrev pub RefusesBy : {A : Type 0} → (ℕ → Bool) → Outcome A → Type 0
RefusesBy p o = (n : ℕ) → o ≡ refused n → p n ≡ true

-- "Coder 1, 2, then the source's first error": 3, 4 or 5
abbrev pub is_coders : ℕ → Bool
is_coders n = leb 1 n && leb n 5

-- not 6: "lent output shorter than the answer"
abbrev pub is_not_short : ℕ → Bool
is_not_short n = not (eqb n 6)

abbrev pub NotShort : {A : Type 0} → Outcome A → Type 0
NotShort o = o ≡ refused 6 → ⊥
