-- Generic bytes come back.
-- Assumes nothing.
use mathlib.Core.Path.{◌≡◌, refl, ◌∙◌}
use mathlib.Core.Bool.{Bool, true, false}
use mathlib.Core.List.{List, [], ◌∷◌}
use Prim.Native.Nat.{ℕ, suc, ◌≤◌}
use native.Mathlib.Omega.{arith}
use lib.ListN.{length}
use borrow.Author.Tests.{le-ltb}
use Rattle.laws.specs.Bits.{odd, pack}
use Rattle.laws.specs.Pick.{pick}
use Rattle.laws.proofs.ByteLaws.{length_pack, unpack_whole}
use Rattle.laws.proofs.Cases.{by_test, pick_false}
use Rattle.bits_write.specs.Text7.{last_or, text7_bits}
use Rattle.bits_write.proofs.Text7Laws.{length_text7}
use Rattle.bits.proofs.Text7Laws.{text7_back}
use Rattle.refusals.specs.Outcome.{Outcome, answer}
use Rattle.ax25_address.specs.Types.{Text, Generic}
use Rattle.ax25_address.specs.Classify.{any_high}
use Rattle.ax25_address.proofs.ParseLaws.{none_high}
use Rattle.kiss.specs.Generic.{generic_of, generic_back}
use Rattle.kiss.specs.Codec.{code_of, Decoded, decode_message, decode_some, decode_of}
use Rattle.kiss.specs.Back.{Back}

-- a message of a header and at most 4,999 bytes
pub decode_at : (mended : Bool) (header : ℕ) (rest : List ℕ) (o : Outcome Decoded) → length rest ≤ 4999 → decode_message mended header rest ≡ o → decode_of mended (header ∷ rest) ≡ o
unfolding decode_of decode_some
decode_at mended header rest o l e = pick_false _ _ (le-ltb _ (suc (length rest)) (omega arith)) ∙ e

module _ (mended : Bool) (d : List ℕ) (l : length d ≤ 4999) where
  generic_coded : code_of Generic d ≡ answer (record { bytes = generic_of d; typ = Text })
  unfolding code_of pick
  generic_coded = rw (le-ltb 4999 (length d) l)

  abbrev bits : List Bool
  bits = text7_bits 0 false d

  high_read : decode_message mended 0x20 d ≡ answer (record { command = Generic; bytes = d })
  unfolding decode_message generic_back odd pick
  high_read = refl

  low_read : any_high d ≡ false → decode_message mended 0x21 (pack bits) ≡ answer (record { command = Generic; bytes = d })
  unfolding decode_message generic_back odd pick last_or
  low_read e = rw (unpack_whole bits (omega (arith, length_text7 0 false d)), text7_back [] d (none_high d e))

  generic_high : any_high d ≡ true → Back mended Generic d
  unfolding generic_of pick
  generic_high e =
      record {
        message = 0x20 ∷ d;
        typ = Text;
        coded = generic_coded ∙ rw e;
        not_empty = omega arith;
        first_low = omega arith;
        fits = omega arith;
        back = decode_at mended 0x20 d (answer (record { command = Generic; bytes = d })) l high_read;
      }

  generic_low : any_high d ≡ false → Back mended Generic d
  unfolding generic_of pick
  generic_low e =
      let size : length (pack bits) ≤ 4999 = omega (arith, length_pack bits, length_text7 0 false d) in
      record {
        message = 0x21 ∷ pack bits;
        typ = Text;
        coded = generic_coded ∙ rw e;
        not_empty = omega arith;
        first_low = omega arith;
        fits = omega arith;
        back = decode_at mended 0x21 (pack bits) (answer (record { command = Generic; bytes = d })) size (low_read e);
      }

  pub generic_back_lem : Back mended Generic d
  generic_back_lem = by_test (any_high d) generic_high generic_low
