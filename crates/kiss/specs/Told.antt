-- Document 01's number and values for each answer of the three calls, and what they leave in a lent output.
-- Assumes nothing.
use Rattle.std.specs.Prelude.{List, ℕ, Result, Ok, Err, length, ltb}
use Rattle.std.proofs.lemmas.List.Edits.{sets}
use Rattle.laws.specs.Pick.{pick}
use Rattle.refusals.specs.Outcome.{Outcome, refused, answer, number}
use Rattle.refusals.specs.declared.Refusal.{Refusal}
use Rattle.ax25_address.specs.declared.classify.AprsType.{AprsType}
use Rattle.ax25_address.specs.Kind.{type_number}
use Rattle.ax25.specs.Encode.{Coded}
use Rattle.kiss.specs.Codec.{Summary, Decoded}
use Rattle.kiss.specs.declared.summaries.Facts.{Facts}

-- the outcome of a call that writes bytes and answers their number with a value beside it, and the lent output afterwards.
-- 6: "lent output shorter than the answer". A refusal leaves "all as before", and "past an answer's end the lent output is unchanged"
unfoldable pub into_with : {A B : Type 0} → (A → List ℕ) → (A → B) → Outcome A → List ℕ → Outcome (ℕ × B) × List ℕ
into_with bytes value (refused n) out = (refused n, out)
into_with bytes value (answer a) out =
    pick (ltb (length out) (length (bytes a))) (refused 6, out) (answer (length (bytes a), value a), sets out 0 (bytes a))

-- `encode`: the length and the type
abbrev pub encoded_of : Result (ℕ × AprsType) Refusal → Outcome (ℕ × ℕ)
encoded_of (Err e) = refused (number e)
encoded_of (Ok (n, typ)) = answer (n, type_number typ)

abbrev pub code_into : Outcome Coded → List ℕ → Outcome (ℕ × ℕ) × List ℕ
code_into o out = into_with (λ c. c.bytes) (λ c. c.typ) o out

-- `coded_length`: the length alone
abbrev pub length_of : Outcome Coded → Outcome ℕ
length_of (refused n) = refused n
length_of (answer c) = answer (length c.bytes)

-- `summary`: the type, how many digipeaters, and whether control is 03 or 13
abbrev pub summarised_of : Result Facts Refusal → Outcome Summary
summarised_of (Err e) = refused (number e)
summarised_of (Ok s) = answer (record { typ = type_number s.aprs_type; digis = s.digis; ui = s.ui })

-- `decode`: the length and the command
abbrev pub decoded_of : Result (ℕ × ℕ) Refusal → Outcome (ℕ × ℕ)
decoded_of (Err e) = refused (number e)
decoded_of (Ok (command, n)) = answer (n, command)

abbrev pub decode_into : Outcome Decoded → List ℕ → Outcome (ℕ × ℕ) × List ℕ
decode_into o out = into_with (λ d. d.bytes) (λ d. d.command) o out
