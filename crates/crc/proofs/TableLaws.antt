-- The table's rule: the four bits j in row m are 4 * (m + 1) steps on.
-- Assumes nothing.
use mathlib.Core.Path.{◌≡◌, refl, sym, ap, ◌∙◌}
use mathlib.Core.List.{List, [], ◌∷◌, ◌++◌}
use Prim.Native.Nat.{ℕ, zero, suc, ◌+◌, ◌*◌, ◌<◌}
use native.Mathlib.Nat.{le_of_suc-le-suc, not-suc-le-zero}
use native.Mathlib.Omega.{arith}
use lib.ListN.{length, get_or, get_or-append}
use lib.Seq.{get_or-append-add}
use Rattle.crc.specs.Crc.{crc_steps}
use Rattle.crc.specs.Rows.{tops, four_on, rows_from, rows}
use Rattle.crc.proofs.LinearLaws.{steps_add}

get_tops : (n v i : ℕ) → i < n → get_or (tops n v) i 0 ≡ v + i * 4096
unfolding tops
get_tops zero v i h = absurd (not-suc-le-zero h)
get_tops (suc n) v zero h = omega arith
get_tops (suc n) v (suc i) h = get_tops n (v + 4096) i (le_of_suc-le-suc h) ∙ omega arith

length_tops : (n v : ℕ) → length (tops n v) ≡ n
unfolding tops
length_tops zero v = refl
length_tops (suc n) v = ap suc (length_tops n (v + 4096))

get_on : (xs : List ℕ) (i : ℕ) → i < length xs → get_or (four_on xs) i 0 ≡ crc_steps 4 (get_or xs i 0)
unfolding four_on
get_on [] i h = absurd (not-suc-le-zero h)
get_on (x ∷ xs) zero h = refl
get_on (x ∷ xs) (suc i) h = get_on xs i (le_of_suc-le-suc h)

length_on : (xs : List ℕ) → length (four_on xs) ≡ length xs
unfolding four_on
length_on [] = refl
length_on (x ∷ xs) = ap suc (length_on xs)

get_rows : (n m i : ℕ) (xs : List ℕ) → length xs ≡ 16 → m < n → i < 16 → get_or (rows_from n xs) (m * 16 + i) 0 ≡ crc_steps ((m + 1) * 4) (get_or xs i 0)
unfolding rows_from
get_rows zero m i xs e h l = absurd (not-suc-le-zero h)
get_rows (suc n) zero i xs e h l =
    let z : zero * 16 + i ≡ i = omega arith in
    rw z (get_or-append (four_on xs) (rows_from n (four_on xs)) 0 i (omega (arith, length_on xs)) ∙ get_on xs i (omega arith))
get_rows (suc n) (suc m) i xs e h l =
    let z : suc m * 16 + i ≡ length (four_on xs) + (m * 16 + i) = omega (arith, length_on xs) in
    let w : (suc m + 1) * 4 ≡ (m + 1) * 4 + 4 = omega arith in
    ap (λ (x : ℕ). get_or (four_on xs ++ rows_from n (four_on xs)) x 0) z
    ∙ get_or-append-add (four_on xs) (rows_from n (four_on xs)) (m * 16 + i) 0
    ∙ get_rows n m i (four_on xs) (length_on xs ∙ e) (le_of_suc-le-suc h) l
    ∙ ap (crc_steps ((m + 1) * 4)) (get_on xs i (omega arith))
    ∙ rw w (sym (steps_add ((m + 1) * 4) 4 (get_or xs i 0)))

pub row : (m j n : ℕ) → n ≡ m * 16 + j → m < 16 → j < 16 → get_or rows n 0 ≡ crc_steps ((m + 1) * 4) (j * 4096)
unfolding rows
row m j n q h l =
    rw q (get_rows 16 m j (tops 16 0) (length_tops 16 0) h l ∙ ap (crc_steps ((m + 1) * 4)) (get_tops 16 0 j l ∙ omega arith))
