-- Lemmas of `demand_3`, for its part `delivers`: what is handed out is the messages, and each decodes to the original bytes.
-- Assumes nothing.
use mathlib.Core.Path.{◌≡◌, refl, sym, ap, ◌∙◌}
use mathlib.Core.Bool.{Bool, true, false}
use mathlib.Core.List.{List, [], ◌∷◌, ◌++◌}
use Rattle.std.proofs.Common.{Option, None, Some}
use Prim.Native.Nat.{ℕ, zero, suc, ◌+◌, ◌≤◌}
use native.Mathlib.Nat.{not-suc-le-zero}
use native.Mathlib.Omega.{arith}
use lib.ListN.{length}
use lib.Dec.{eqb}
use borrow.Author.Tests.{ne_eqb}
use Rattle.laws.specs.Pick.{pick}
use Rattle.refusals.specs.Limits.{field_ok}
use Rattle.refusals.specs.Outcome.{answer}
use Rattle.refusals.proofs.OutcomeLaws.{same_answer_lem}
use Rattle.sender.proofs.CountLaws.{count_pos}
use Rattle.receiver.specs.Join.{Heard, refused, dropped, more, done}
use Rattle.receiver.specs.declared.Cause.TheVariants.{WrongLength, NoFragment}
use Rattle.ax25.specs.Encode.{Coded}
use Rattle.kiss.specs.Codec.{decode_of}
use Rattle.kiss.proofs.CodeBounds.{code_short}
use Rattle.kiss.proofs.CodecBack.{codec_back}
use Rattle.gateway.specs.Run.{Call, push, join, reset}
use Rattle.gateway.specs.Script.{Sending, Line, answers, idle_answer, Mixed, finished, still, next}
use Rattle.gateway.specs.Source.{CodedFrom, handed, messages_of}
use Rattle.gateway.proofs.Lines.{count_in, lines_from, lines_of, all_lines}

-- ---- the messages among the answers

module _ (m : ℕ) (x : Sending) where
  pub lines_from_lem : (n k : ℕ) → length (lines_from m x k n) ≡ n
  unfolding lines_from
  lines_from_lem zero k = refl
  lines_from_lem (suc n) k = ap suc (lines_from_lem n (suc k))

  -- "Each message has exactly its counted fragments"
  pub lines_length : length (lines_of m x) ≡ count_in x
  unfolding lines_of
  lines_length = lines_from_lem (count_in x) 0

  handed_lines : (n k : ℕ) (after : List (Option Heard)) → 1 ≤ n → handed (answers (lines_from m x k n) ++ after) ≡ x.message ∷ handed after
  unfolding lines_from pick
  handed_lines zero k after h = absurd (not-suc-le-zero h)
  handed_lines (suc zero) k after h = refl
  handed_lines (suc (suc n)) k after h = rw (ne_eqb (suc n) 0 (λ e. omega arith)) (handed_lines (suc n) (suc k) after (omega arith))

handed_idle : (c : Call) (rest : List (Option Heard)) → handed (idle_answer c ∷ rest) ≡ handed rest
unfolding pick
handed_idle (push f k) rest = cases (field_ok k)
  where
    cases : (o : Bool) → handed (Some (pick o (dropped (pick (eqb (length f) (k + 3)) NoFragment WrongLength)) (refused 8)) ∷ rest) ≡ handed rest
    cases true = refl
    cases false = refl
handed_idle (join f n) rest = refl
handed_idle reset rest = refl

handed_first : (a : Option Heard) (s t : List (Option Heard)) → handed s ≡ handed t → handed (a ∷ s) ≡ handed (a ∷ t)
handed_first (Some (refused n)) s t e = e
handed_first (Some (dropped c)) s t e = e
handed_first (Some more) s t e = e
handed_first (Some (done n b)) s t e = ap (λ (r : List (List ℕ)). b ∷ r) e
handed_first None s t e = e

handed_mixed : {ps ls : List Line} → Mixed ps ls → handed (answers ls) ≡ handed (answers ps)
handed_mixed finished = refl
handed_mixed (still {ls = ls} c i q) = handed_idle c (answers ls) ∙ handed_mixed q
handed_mixed (next {ps = ps} {ls = ls} l q) = handed_first l.answer (answers ls) (answers ps) (handed_mixed q)

pub answers_append : (a b : List Line) → answers (a ++ b) ≡ answers a ++ answers b
answers_append [] b = refl
answers_append (x ∷ a) b = ap {B = List (Option Heard)} (λ l. x.answer ∷ l) (answers_append a b)

handed_all : (m : ℕ) (xs : List Sending) → handed (answers (all_lines m xs)) ≡ messages_of xs
unfolding all_lines lines_of
handed_all m [] = refl
handed_all m (x ∷ xs) =
    ap handed (answers_append (lines_of m x) (all_lines m xs))
    ∙ handed_lines m x (count_in x) 0 (answers (all_lines m xs)) (count_pos (length x.message) x.field)
    ∙ ap (λ (r : List (List ℕ)). x.message ∷ r) (handed_all m xs)

pub delivered : (m : ℕ) (xs : List Sending) (ls : List Line) → Mixed (all_lines m xs) ls → handed (answers ls) ≡ messages_of xs
delivered m xs ls x = handed_mixed x ∙ handed_all m xs

-- ---- each decodes to its original

module _ {mended : Bool} {message : List ℕ} (c : CodedFrom mended message) where
  pub decoded_back : decode_of mended message ≡ answer (record { command = c.command; bytes = c.original })
  decoded_back =
      let b = codec_back mended c.codable (code_short c.command c.original (record { bytes = message; typ = c.typ }) c.coded) in
      let e : message ≡ b.message = ap (λ (k : Coded). k.bytes) (same_answer_lem (sym c.coded ∙ b.coded)) in
      ap (decode_of mended) e ∙ b.back
