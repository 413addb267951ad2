-- An accepted file is the encoding of what is read from it.
use Rattle.std.proofs.Common.{◌≡◌, ℕ, ◌+◌, ◌*◌, ◌<◌, ◌≤◌, List, [], ◌∷◌, ◌++◌, map, length, get_or, take, drop, nat_abs, sym, ap, ◌∙◌, subst, ap₂, arith}
use Rattle.std.specs.List.{range_with_len, flat_map, All}
use Rattle.std.proofs.lemmas.Nat.{mul-add-lt}
use Rattle.std.proofs.lemmas.List.FromFn.{length-map-range_with_len, get_or-map-range_with_len}
use Rattle.std.proofs.lemmas.List.Elements.{All-from_get_or}
use Rattle.std.proofs.lemmas.List.{drop_more, drop-drop, take-append-drop, length-drop, get_or-drop}
use Rattle.panel_file.specs.Field.{byte_at, count_at, part_at}
use Rattle.panel_file.specs.Layout.{name_at}
use Rattle.panel_file.specs.Format.{Contents, Valid, count_bytes, part_bytes, encode}
use Rattle.panel_file.specs.Fill.{parts_at, samples_of}
use Rattle.panel_file.proofs.Accepted.{Accepted, name_count_at}
use Rattle.panel_file.proofs.Blocks.{blocks_join}
use Rattle.panel_file.proofs.Numbers.{count_again, part_again}

-- What is read from a file.
abbrev pub decode : List ℕ → Contents
decode file =
    record {
      rows = byte_at file 2;
      columns = byte_at file 3;
      parts = byte_at file 4;
      samples = samples_of file (byte_at file 4) (byte_at file 2 * byte_at file 3);
      name = name_at file (name_count_at file);
    }

-- What holds of each f i with i below n holds of all that are listed.
everywhere : {X : Type 0} (Q : X → Type 0) (f : ℕ → X) (n : ℕ) → ((i : ℕ) → i < n → Q (f i)) → All Q (map f (range_with_len 0 n))
everywhere Q f n h k d low =
    let inside : k < n = omega (arith, length-map-range_with_len f 0 n) in
    subst Q (sym (get_or-map-range_with_len f 0 n k k d inside (omega arith))) (h k inside)

module _ (file : List ℕ) (bytes : (at : ℕ) → byte_at file at < 256) (a : Accepted file) where
  abbrev P : ℕ
  P = byte_at file 4

  abbrev R : ℕ
  R = byte_at file 2 * byte_at file 3

  abbrev E : ℕ
  E = name_count_at file

  -- two bytes of the file, or four, and the rest
  two : (at : ℕ) → at + 2 ≤ length file → drop at file ≡ byte_at file at ∷ byte_at file (at + 1) ∷ drop (at + 2) file
  two at h =
      let next : at + 1 + 1 ≡ at + 2 = omega arith in
      drop_more file at 0 (omega arith)
      ∙ ap (λ l. byte_at file at ∷ l) (drop_more file (at + 1) 0 (omega arith) ∙ ap (λ m. byte_at file (at + 1) ∷ drop m file) next)

  four : (at : ℕ) → at + 4 ≤ length file → drop at file ≡ byte_at file at ∷ byte_at file (at + 1) ∷ byte_at file (at + 2) ∷ byte_at file (at + 3) ∷ drop (at + 4) file
  four at h =
      let third : at + 2 + 1 ≡ at + 3 = omega arith in
      let rest : at + 2 + 2 ≡ at + 4 = omega arith in
      two at (omega arith)
      ∙ ap (λ l. byte_at file at ∷ byte_at file (at + 1) ∷ l) (two (at + 2) (omega arith) ∙ ap₂ (λ m n. byte_at file (at + 2) ∷ byte_at file m ∷ drop n file) third rest)

  -- The bytes of a part that was read are the file's.
  part_same : (at : ℕ) → at + 4 ≤ length file → part_bytes (part_at file at) ≡ take 4 (drop at file)
  part_same at h = part_again _ _ _ _ (bytes at) (bytes (at + 1)) (bytes (at + 2)) (bytes (at + 3)) ∙ sym (ap (take 4) (four at h))

  -- Part k of sample i is a number of the file.
  part_there : (i k : ℕ) → i < R → k < P → (7 + i * (P * 4) + k * 4 + 4 ≤ length file) × (nat_abs (part_at file (7 + i * (P * 4) + k * 4)) ≤ 100000)
  part_there i k row part =
      let same : 7 + (i * P + k) * 4 ≡ 7 + i * (P * 4) + k * 4 = omega arith in
      rw same at (a.within (i * P + k) (omega (arith, mul-add-lt i P k R row part)))

  sample_same : (i : ℕ) → i < R → flat_map part_bytes (parts_at file P (7 + i * (P * 4))) ≡ take (P * 4) (drop (7 + i * (P * 4)) file)
  sample_same i low =
      let first : 7 + i * (P * 4) + 0 * 4 ≡ 7 + i * (P * 4) = omega arith in
      blocks_join part_bytes 4 (λ k. part_at file (7 + i * (P * 4) + k * 4)) (7 + i * (P * 4)) file 0 P (λ k from to. part_same (7 + i * (P * 4) + k * 4) (part_there i k low (omega arith)).0)
      ∙ ap (λ m. take (P * 4) (drop m file)) first

  samples_same : flat_map (flat_map part_bytes) (decode file).samples ≡ take (R * (P * 4)) (drop 7 file)
  samples_same =
      let first : 7 + 0 * (P * 4) ≡ 7 = omega arith in
      blocks_join (flat_map part_bytes) (P * 4) (λ i. parts_at file P (7 + i * (P * 4))) 7 file 0 R (λ i from to. sample_same i (omega arith))
      ∙ ap (λ m. take (R * (P * 4)) (drop m file)) first

  abbrev J : List ℕ
  J = flat_map (flat_map part_bytes) (decode file).samples

  abbrev name : List ℕ
  name = (decode file).name

  name_length : length name ≡ count_at file E
  name_length = length-drop (E + 2) file ∙ omega (arith, a.ended)

  name_count : count_bytes (length name) ≡ byte_at file E ∷ byte_at file (E + 1) ∷ []
  name_count = ap count_bytes name_length ∙ count_again (byte_at file E) (byte_at file (E + 1)) (bytes E)

  -- From offset 7 on.
  tail_same : J ++ (count_bytes (length name) ++ name) ≡ drop 7 file
  tail_same =
      let end : 7 + R * (P * 4) ≡ E = omega arith in
      ap₂ (λ p q. p ++ (q ++ name)) samples_same name_count
      ∙ ap (λ l. take (R * (P * 4)) (drop 7 file) ++ l) (sym (two E a.name_counted) ∙ ap (λ m. drop m file) (sym end) ∙ sym (drop-drop (R * (P * 4)) 7 file))
      ∙ take-append-drop (R * (P * 4)) (drop 7 file)

  head_same : count_bytes 3 ++ (byte_at file 2 ∷ byte_at file 3 ∷ byte_at file 4 ∷ (count_bytes R ++ drop 7 file)) ≡ file
  head_same =
      let begun : 7 ≤ length file = a.begun in
      let none : 3 ≡ byte_at file 0 = omega (arith, a.three) in
      let still : 0 ≡ byte_at file 1 = omega (arith, a.three) in
      let places : count_bytes R ≡ byte_at file 5 ∷ byte_at file 6 ∷ [] = ap count_bytes (sym a.counted) ∙ count_again (byte_at file 5) (byte_at file 6) (bytes 5) in
      ap₂ (λ p q. p ∷ q ∷ byte_at file 2 ∷ byte_at file 3 ∷ byte_at file 4 ∷ (count_bytes R ++ drop 7 file)) none still
      ∙ ap (λ l. byte_at file 0 ∷ byte_at file 1 ∷ byte_at file 2 ∷ byte_at file 3 ∷ byte_at file 4 ∷ (l ++ drop 7 file)) places
      ∙ ap (λ l. byte_at file 0 ∷ byte_at file 1 ∷ byte_at file 2 ∷ byte_at file 3 ∷ byte_at file 4 ∷ l) (sym (two 5 (omega arith)))
      ∙ ap (λ l. byte_at file 0 ∷ byte_at file 1 ∷ byte_at file 2 ∷ byte_at file 3 ∷ l) (sym (drop_more file 4 0 (omega arith)))
      ∙ ap (λ l. byte_at file 0 ∷ byte_at file 1 ∷ l) (sym (two 2 (omega arith)))
      ∙ sym (two 0 (omega arith))

  pub encodes : encode (decode file) ≡ file
  encodes = ap (λ l. count_bytes 3 ++ (byte_at file 2 ∷ byte_at file 3 ∷ byte_at file 4 ∷ (count_bytes R ++ l))) tail_same ∙ head_same

  pub valid : Valid (decode file)
  valid =
      record {
        rows_fit = a.rows_fit;
        columns_fit = a.columns_fit;
        parts_fit = a.parts_fit;
        samples_fill = length-map-range_with_len (λ i. parts_at file P (7 + i * (P * 4))) 0 R;
        samples_have_parts = everywhere (λ sample. length sample ≡ P) (λ i. parts_at file P (7 + i * (P * 4))) R (λ i low. length-map-range_with_len (λ k. part_at file (7 + i * (P * 4) + k * 4)) 0 P);
        samples_within = everywhere (All (λ part. nat_abs part ≤ 100000)) (λ i. parts_at file P (7 + i * (P * 4))) R (λ i low. everywhere (λ part. nat_abs part ≤ 100000) (λ k. part_at file (7 + i * (P * 4) + k * 4)) P (λ k part. (part_there i k low part).1));
        name_short = omega (arith, name_length, a.name_short);
        name_printable = All-from_get_or (λ byte. (32 ≤ byte) × (byte ≤ 126)) name 0 (λ k low. printable k (omega (arith, name_length)));
      }
    where
      printable : (k : ℕ) → k < count_at file E → (32 ≤ get_or name k 0) × (get_or name k 0 ≤ 126)
      printable k low = rw (get_or-drop (E + 2) file k 0) (a.name_printable k low)
