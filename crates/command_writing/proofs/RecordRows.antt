-- The words that stand from a word of records on, one by one.
use Prim.Native.Nat.{ℕ, suc, ◌+◌, ◌≤◌, ◌<◌}
use mathlib.Core.Path.{◌≡◌, ap, ◌∙◌}
use mathlib.Core.List.{List, ◌∷◌, ◌++◌}
use native.Mathlib.Omega.{arith}
use lib.ListN.{length, get_or, drop, length-append, length-drop}
use lib.Seq.{drop-cons}

module _ (records : List ℕ) (at : ℕ) where
  row : (k : ℕ) → at + k < length records → drop (at + k) records ≡ get_or records (at + k) 0 ∷ drop (at + suc k) records
  row k inside =
      let next : suc (at + k) ≡ at + suc k = omega arith in
      drop-cons records (at + k) 0 inside ∙ ap (λ (n : ℕ). get_or records (at + k) 0 ∷ drop n records) next

  first_row : at < length records → drop at records ≡ get_or records at 0 ∷ drop (at + 1) records
  first_row inside =
      let next : suc at ≡ at + 1 = omega arith in
      drop-cons records at 0 inside ∙ ap (λ (n : ℕ). get_or records at 0 ∷ drop n records) next

  pub two_rows : at + 2 ≤ length records → drop at records ≡ get_or records at 0 ∷ (get_or records (at + 1) 0 ∷ drop (at + 2) records)
  two_rows inside = first_row (omega arith) ∙ ap (λ (l : List ℕ). get_or records at 0 ∷ l) (row 1 (omega arith))

  pub three_rows : at + 3 ≤ length records
      → drop at records ≡ get_or records at 0 ∷ (get_or records (at + 1) 0 ∷ (get_or records (at + 2) 0 ∷ drop (at + 3) records))
  three_rows inside = two_rows (omega arith) ∙ ap (λ (l : List ℕ). get_or records at 0 ∷ (get_or records (at + 1) 0 ∷ l)) (row 2 (omega arith))

  six_rows : at + 9 ≤ length records
      → drop (at + 3) records ≡ get_or records (at + 3) 0 ∷ (get_or records (at + 4) 0 ∷ (get_or records (at + 5) 0
      ∷ (get_or records (at + 6) 0 ∷ (get_or records (at + 7) 0 ∷ (get_or records (at + 8) 0 ∷ drop (at + 9) records)))))
  six_rows inside =
      let a = row 3 (omega arith) in
      let b = row 4 (omega arith) in
      let c = row 5 (omega arith) in
      let d = row 6 (omega arith) in
      let e = row 7 (omega arith) in
      let f = row 8 (omega arith) in
      cc

  pub nine_rows : at + 9 ≤ length records
      → drop at records ≡ get_or records at 0 ∷ (get_or records (at + 1) 0 ∷ (get_or records (at + 2) 0 ∷ (get_or records (at + 3) 0 ∷ (get_or records (at + 4) 0
      ∷ (get_or records (at + 5) 0 ∷ (get_or records (at + 6) 0 ∷ (get_or records (at + 7) 0 ∷ (get_or records (at + 8) 0 ∷ drop (at + 9) records))))))))
  nine_rows inside =
      three_rows (omega arith)
      ∙ ap (λ (l : List ℕ). get_or records at 0 ∷ (get_or records (at + 1) 0 ∷ (get_or records (at + 2) 0 ∷ l))) (six_rows inside)

  -- what stands there is there
  pub stands_within : at ≤ length records → (words rest : List ℕ) → drop at records ≡ words ++ rest → at + length words ≤ length records
  stands_within fits words rest is = omega (arith, length-drop at records, length-append words rest, ap length is)
