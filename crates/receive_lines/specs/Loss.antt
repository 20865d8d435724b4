-- What `receive` says at the end of its input with the word `tallies`: where the frames went (document 02, E12).
-- Assumes nothing.
use Rattle.std.specs.Prelude.{List, [], ◌∷◌, ◌++◌, ℕ}
use Rattle.laws.specs.Text.{ascii}
use Rattle.receiver.specs.declared.Tallies.{Tallies}
use Rattle.texts.specs.Number.{numeral_of}

-- a label and a tally's number after it
unfoldable pub tally_text : List ℕ → ℕ → List ℕ
tally_text label n = label ++ numeral_of n

-- frames offered, More and Done
unfoldable pub answers_text : Tallies → List ℕ
answers_text t = tally_text (ascii "offered ") t.offered ++ (tally_text (ascii ", more ") t.more ++ tally_text (ascii ", done ") t.done)

-- Dropped, by cause
unfoldable pub causes_text : Tallies → List ℕ
causes_text t =
    tally_text (ascii ", dropped: ") t.wrong_length
    ++ (tally_text (ascii " wrong length, ") t.no_fragment
    ++ (tally_text (ascii " no fragment, ") t.overflow
    ++ (tally_text (ascii " overflow, ") t.limit
    ++ (tally_text (ascii " limit, ") t.check ++ (ascii " check" ++ (10 ∷ []))))))

-- one line: `offered 12, more 3, done 1, dropped: 1 wrong length, 3 no fragment, 2 overflow, 1 limit, 1 check`
unfoldable pub losses_line : Tallies → List ℕ
losses_line t = answers_text t ++ causes_text t
