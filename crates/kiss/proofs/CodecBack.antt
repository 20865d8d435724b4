-- Generic bytes and plain frames come back.
-- Assumes nothing.
use mathlib.Core.Path.{◌≡◌, ◌∙◌}
use mathlib.Core.Bool.{Bool}
use mathlib.Core.List.{List, ◌∷◌}
use Prim.Native.Nat.{ℕ, ◌≤◌}
use native.Mathlib.Omega.{arith}
use lib.ListN.{length}
use borrow.Author.Tests.{le-ltb}
use Rattle.laws.specs.Pick.{pick}
use Rattle.refusals.specs.Outcome.{answer}
use Rattle.ax25_address.specs.Types.{Ax25}
use Rattle.ax25.specs.Encode.{encode_of}
use Rattle.ax25.specs.Plain.{Plain}
use Rattle.ax25.proofs.FrameBack.{frame_back}
use Rattle.kiss.specs.Codec.{code_of, decode_message}
use Rattle.kiss.specs.Back.{Codable, generic, plain, Back}
use Rattle.kiss.proofs.CodeBounds.{code_bounds}
use Rattle.kiss.proofs.GenericBack.{decode_at, generic_back_lem}

module _ {mended : Bool} {d : List ℕ} (f : Plain mended d) (l : length d ≤ 4999) where
  ax25_coded : code_of Ax25 d ≡ encode_of Ax25 d
  unfolding code_of pick
  ax25_coded = rw (le-ltb 4999 (length d) l)

  plain_read : decode_message mended (frame_back f).header (frame_back f).rest ≡ answer (record { command = Ax25; bytes = d })
  unfolding decode_message pick
  plain_read = rw ((frame_back f).ax25, (frame_back f).back)

  plain_back : Back mended Ax25 d
  plain_back =
      let b = frame_back f in
      let m : List ℕ = b.header ∷ b.rest in
      let e = ax25_coded ∙ b.coded in
      let k = code_bounds Ax25 d (record { bytes = m; typ = b.typ }) e in
      record {
        message = m;
        typ = b.typ;
        coded = e;
        not_empty = omega arith;
        first_low = k.first_low;
        fits = k.fits;
        back = decode_at mended b.header b.rest (answer (record { command = Ax25; bytes = d })) (omega (arith, k.fits)) plain_read;
      }

-- generic bytes and plain frames of at most 4,999 bytes are coded, never refused, and their messages decode to them
pub codec_back : (mended : Bool) {command : ℕ} {d : List ℕ} → Codable mended command d → length d ≤ 4999 → Back mended command d
codec_back mended {d = d} (generic b) l = generic_back_lem mended d l
codec_back mended (plain f) l = plain_back f l
