-- The premises of the claim are met. Under every mask a message of three fragments is left after the first, kept under "net", another is heard
-- under any other mask over any other store, and the first is returned to and completed.
-- Assumes nothing.
use mathlib.Core.Path.{◌≡◌, refl, subst}
use mathlib.Core.Bool.{Bool, true}
use mathlib.Core.List.{List, [], ◌∷◌, ◌++◌}
use Rattle.std.proofs.Common.{Some}
use Prim.Native.Nat.{ℕ}
use native.Mathlib.Omega.{arith}
use lib.ListN.{length, take, drop}
use Rattle.laws.specs.Pick.{pick}
use Rattle.refusals.specs.Limits.{mask_ok}
use Rattle.sender.specs.Send.{ceiling, count_of}
use Rattle.receiver.specs.Join.{more, done}
use Rattle.gateway.specs.Run.{offers, Few, run_of}
use Rattle.gateway.specs.Script.{Line, calls, Mixed, finished, next}
use Rattle.gateway.specs.Demand.{Messages, no_message, message_then}
use Rattle.gateway.proofs.Instances.{three, three_message}
use Rattle.gateway.proofs.Lines.{lines_from, lines_of}
use Rattle.channels.specs.Book.{Op, tune, keep, return_to, world, world_after, History, history, book, book_after, spare_all, calls_of}
use Rattle.channels.specs.Return.{Resumes}
use Rattle.channels.proofs.Completed.{back_to, spare_calls}
use Rattle.channels.proofs.Return.{coming_back}

abbrev pub net : List ℕ
net = 0x6E ∷ 0x65 ∷ 0x74 ∷ []

mixed_alone : (ps : List Line) → Mixed ps ps
mixed_alone [] = finished
mixed_alone (p ∷ ps) = next p (mixed_alone ps)

module _ (mended : Bool) (m : ℕ) (ok : mask_ok m ≡ true) (other : ℕ) (s there lent : List ℕ) (size : length s ≡ 5000) (whole : length lent ≡ 40000) where
  -- the first frame, and the two after it
  abbrev first : List Line
  first = take 1 (lines_of m three)

  abbrev rest : List Line
  rest = drop 1 (lines_of m three)

  -- what is done meanwhile
  abbrev away : List Op
  away = tune other there ∷ calls_of (calls (lines_of other three))

  abbrev journey : List Op
  journey = calls_of (calls first) ++ (keep net ∷ (away ++ (return_to net ∷ [])))

  away_spares : spare_all net away ≡ true
  unfolding spare_all
  away_spares = spare_calls net (calls (lines_of other three))

  returned : (book_after (book m s) journey).current ≡ history m s (calls first)
  returned = back_to m s (calls first) net refl away away_spares

  goes_on : Resumes mended (world_after (world m s lent) journey) (book_after (book m s) journey) (history m s (calls first))
  goes_on = subst (λ (h : History). Resumes mended (world_after (world m s lent) journey) (book_after (book m s) journey) h) returned
      (coming_back mended m ok s lent size whole journey).goes_on

  messages : Messages mended m (three ∷ []) (lines_of m three ++ [])
  messages = message_then (three_message m ok) no_message

  uncut : Mixed (lines_of m three ++ []) (first ++ rest)
  unfolding lines_of lines_from count_of ceiling pick
  uncut = mixed_alone (lines_of m three)

  few : Few (calls (first ++ rest))
  unfolding offers lines_of lines_from count_of ceiling pick
  few = omega arith

  -- the second is answered More, the third Done with the message
  pub three_completed : run_of (world_after (world m s lent) journey).now (calls rest) ≡ Some more ∷ Some (done 5 three.message) ∷ []
  unfolding lines_of lines_from count_of ceiling pick
  three_completed = (goes_on.delivers [] refl (three ∷ []) (lines_of m three ++ []) messages first rest uncut refl few).0
