-- What crosses the C boundary. Each struct that a call hands back is defined whole from the call's answer: document 01's number and values for
-- each case, and 0 in every field that has no meaning in that case.
-- Assumes nothing.
use Rattle.std.specs.Prelude.{true, false, List, ℕ}
use Rattle.refusals.specs.Outcome.{Outcome, refused, answer, Left}
use Rattle.frame.specs.declared.Control.{Control}
use Rattle.receiver.specs.Join.{After, Heard, dropped, more, done}
use Rattle.receiver.specs.Join as join
use Rattle.receiver.specs.New.{no_tallies}
use Rattle.receiver.specs.Stored.{flag, stored_of}
use Rattle.receiver.specs.Tally.{cause_number}
use Rattle.receiver.specs.declared.Reassembler.{Reassembler}
use Rattle.receiver.specs.declared.Stored.{Stored}
use Rattle.kept.specs.Keep.{ReturnLeft}
use Rattle.kiss.specs.Codec.{Summary}
use Rattle.preview.specs.declared.Price.{Price}
use Rattle.xara.specs.declared.XaraAnswer.{XaraAnswer}
use Rattle.xara.specs.declared.XaraControl.{XaraControl}
use Rattle.xara.specs.declared.XaraFresh.{XaraFresh}
use Rattle.xara.specs.declared.XaraPushed.{XaraPushed}
use Rattle.xara.specs.declared.XaraEncoded.{XaraEncoded}
use Rattle.xara.specs.declared.XaraPreview.{XaraPreview}
use Rattle.xara.specs.declared.XaraSummary.{XaraSummary}
use Rattle.xara.specs.declared.XaraDecoded.{XaraDecoded}

-- ---- what C passes in

-- the control byte's parts
abbrev pub control_of : XaraControl → Control
control_of c = record { reply = c.reply; compressed = flag c.compressed; hint = c.hint }

-- ---- what C is handed back

-- a length or a count, or a refusal's number
abbrev pub to_answer : Outcome ℕ → XaraAnswer
to_answer (refused n) = record { ok = false; refusal = n; value = 0 }
to_answer (answer v) = record { ok = true; refusal = 0; value = v }

-- the same beside the lent output afterwards
abbrev pub to_answer_with : Left → XaraAnswer × List ℕ
to_answer_with l = (to_answer l.outcome, l.out)

-- a new receiver, or a refusal's number beside a receiver of zeros
abbrev pub to_fresh : Outcome Reassembler → XaraFresh
to_fresh (refused n) =
    record {
      ok = false;
      refusal = n;
      receiver = record { held = 0; nfrag = 0; count = 0; crc_mask = 0; overflow = 0; tallies = no_tallies };
    }
to_fresh (answer r) = record { ok = true; refusal = 0; receiver = stored_of r }

-- what a push or a join answers: kind 0 refused with its number, 1 dropped with its cause, 2 more, 3 done with the message's length. A
-- refusal "changes nothing in the receiver": the very struct that came in is handed back. Else it is the receiver that the call leaves
abbrev pub to_pushed : Stored → Heard → Reassembler → XaraPushed
to_pushed came (join.refused n) left = record { kind = 0; refusal = n; cause = 0; length = 0; receiver = came }
to_pushed came (dropped c) left = record { kind = 1; refusal = 0; cause = cause_number c; length = 0; receiver = stored_of left }
to_pushed came more left = record { kind = 2; refusal = 0; cause = 0; length = 0; receiver = stored_of left }
to_pushed came (done n message) left = record { kind = 3; refusal = 0; cause = 0; length = n; receiver = stored_of left }

-- the same beside the store afterwards
abbrev pub to_pushed_with : Stored → After Reassembler → XaraPushed × List ℕ
to_pushed_with came a = (to_pushed came a.heard a.receiver, a.store)

-- a receiver that is returned to beside the store afterwards
abbrev pub to_fresh_with : ReturnLeft → XaraFresh × List ℕ
to_fresh_with a = (to_fresh a.outcome, a.store)

-- the message's length and the data's type, or a refusal's number
abbrev pub to_encoded : Outcome (ℕ × ℕ) → XaraEncoded
to_encoded (refused n) = record { ok = false; refusal = n; aprs_type = 0; length = 0 }
to_encoded (answer p) = record { ok = true; refusal = 0; aprs_type = p.1; length = p.0 }

-- the same beside the lent output afterwards
abbrev pub to_encoded_with : Outcome (ℕ × ℕ) × List ℕ → XaraEncoded × List ℕ
to_encoded_with p = (to_encoded p.0, p.1)

-- the length and the count of a preview
abbrev pub to_preview : Outcome Price → XaraPreview
to_preview (refused n) = record { ok = false; refusal = n; length = 0; count = 0 }
to_preview (answer p) = record { ok = true; refusal = 0; length = p.length; count = p.count }

-- the type, how many digipeaters, and whether control is 03 or 13, or a refusal's number
abbrev pub to_summary : Outcome Summary → XaraSummary
to_summary (refused n) = record { ok = false; refusal = n; aprs_type = 0; ui = false; digis = 0 }
to_summary (answer s) = record { ok = true; refusal = 0; aprs_type = s.typ; ui = s.ui; digis = s.digis }

-- the data's length and the command, or a refusal's number
abbrev pub to_decoded : Outcome (ℕ × ℕ) → XaraDecoded
to_decoded (refused n) = record { ok = false; refusal = n; command = 0; length = 0 }
to_decoded (answer p) = record { ok = true; refusal = 0; command = p.1; length = p.0 }

-- the same beside the lent output afterwards
abbrev pub to_decoded_with : Outcome (ℕ × ℕ) × List ℕ → XaraDecoded × List ℕ
to_decoded_with p = (to_decoded p.0, p.1)
