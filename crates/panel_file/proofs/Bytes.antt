-- The bytes of a sample, as the code reads them.
use Rattle.std.proofs.Common.{[], ◌≡◌, ℕ, ◌+◌, ◌<◌, ◌≤◌, List, get_or, take, drop, zero, suc, ◌*◌, pos, zero-add, sym, refl, ap, ◌∙◌, arith}
use Rattle.std.proofs.lemmas.List.{drop-drop, get_or-drop, get_or-take}
use Rattle.std.proofs.lemmas.List.FromFn.{fill_by_all, get_or-map-range_with_len, length-map-range_with_len}
use Rattle.std.specs.Simd.{first_chunks}
use Rattle.panel_file.specs.Field.{part_at}
use Rattle.panel_file.specs.Fill.{parts_at}

-- A byte of a part of the file is the file's.
pub byte_of : (file : List ℕ) (at n i : ℕ) → i < n → get_or (take n (drop at file)) i 0 ≡ get_or file (at + i) 0
byte_of file at n i low = get_or-take n (drop at file) i 0 low ∙ get_or-drop at file i 0

-- The k-th chunk of so many bytes.
pub chunk_at : (n m k : ℕ) (xs : List ℕ) (d : List ℕ) → k < m → get_or (first_chunks n m xs) k d ≡ take n (drop (k * n) xs)
chunk_at n zero k xs d low = absurd (omega arith)
chunk_at n (suc m) zero xs d low = let none : 0 * n ≡ 0 = omega arith in rw none refl
chunk_at n (suc m) (suc k) xs d low =
    let on : suc k * n ≡ n + k * n = omega arith in
    chunk_at n m k (drop n xs) d (omega arith) ∙ ap (take n) (drop-drop (k * n) n xs ∙ ap (λ i. drop i xs) (sym on))

-- A part that lies within a part of the file is the file's.
pub part_within : (file : List ℕ) (at w i : ℕ) → i + 4 ≤ w → part_at (take w (drop at file)) i ≡ part_at file (at + i)
part_within file at w i low =
    let b1 : at + (i + 1) ≡ at + i + 1 = omega arith in
    let b2 : at + (i + 2) ≡ at + i + 2 = omega arith in
    let b3 : at + (i + 3) ≡ at + i + 3 = omega arith in
    rw (byte_of file at w i (omega arith), byte_of file at w (i + 1) (omega arith), byte_of file at w (i + 2) (omega arith), byte_of file at w (i + 3) (omega arith), b1, b2, b3) refl

-- Each chunk of four bytes is a part.
pub chunk_part : (m k : ℕ) (xs : List ℕ) → k < m → part_at (get_or (first_chunks 4 m xs) k []) 0 ≡ part_at xs (0 + k * 4)
chunk_part m k xs low =
    let here : k * 4 + 0 ≡ 0 + k * 4 = omega arith in
    ap (λ bytes. part_at bytes 0) (chunk_at 4 m k xs [] low) ∙ part_within xs (k * 4) 4 0 (omega arith) ∙ ap (part_at xs) here

-- A row of parts within a part of the file is the file's.
pub parts_within : (file : List ℕ) (at w n : ℕ) → w ≡ n * 4 → parts_at (take w (drop at file)) n 0 ≡ parts_at file n at
parts_within file at w n e =
    fill_by_all (λ k. part_at file (at + k * 4)) (parts_at (take w (drop at file)) n 0) n (pos 0) (length-map-range_with_len (λ k. part_at (take w (drop at file)) (0 + k * 4)) 0 n)
    (λ j low. get_or-map-range_with_len (λ k. part_at (take w (drop at file)) (0 + k * 4)) 0 n j j (pos 0) low (omega arith)
    ∙ part_within file at w (0 + j * 4) (omega arith) ∙ ap (λ k. part_at file (at + k)) (zero-add (j * 4)))
