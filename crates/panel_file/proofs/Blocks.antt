-- Lists that are made of blocks of one length.
use Rattle.std.proofs.Common.{◌≡◌, ℕ, zero, suc, ◌+◌, ◌*◌, ◌<◌, ◌≤◌, List, [], ◌∷◌, ◌++◌, map, length, get_or, take, drop, sym, refl, ap, ◌∙◌, ap₂, arith, take-add}
use Rattle.std.specs.List.{range_with_len, flat_map, All}
use Rattle.std.proofs.lemmas.List.{append_assoc, drop-drop, drop_at, take_at, length-append}
use Rattle.std.proofs.lemmas.List.Elements.{All-head, All-tail}

module _ {X A : Type 0} (g : X → List A) (w : ℕ) where
  -- Blocks cut out of a list one after the other put that part of it together again.
  pub blocks_join : (f : ℕ → X) (at : ℕ) (xs : List A) (a n : ℕ) → ((k : ℕ) → a ≤ k → k < a + n → g (f k) ≡ take w (drop (at + k * w) xs)) →
      flat_map g (map f (range_with_len a n)) ≡ take (n * w) (drop (at + a * w) xs)
  blocks_join f at xs a zero h = let none : 0 * w ≡ 0 = omega arith in rw none refl
  blocks_join f at xs a (suc n) h =
      let next : at + (a + 1) * w ≡ at + a * w + w = omega arith in
      let all : suc n * w ≡ w + n * w = omega arith in
      ap₂ (λ p q. p ++ q) (h a (omega arith) (omega arith)) (blocks_join f at xs (a + 1) n (λ k low high. h k (omega arith) (omega arith)))
      ∙ ap (λ m. take w (drop (at + a * w) xs) ++ take (n * w) (drop m xs)) next
      ∙ ap (λ l. take w (drop (at + a * w) xs) ++ take (n * w) l) (sym (drop-drop w (at + a * w) xs))
      ∙ sym (take-add w (n * w) (drop (at + a * w) xs))
      ∙ ap (λ m. take m (drop (at + a * w) xs)) (sym all)

  -- The block of x has the one length.
  abbrev Whole : X → Type 0
  Whole x = length (g x) ≡ w

  -- The i-th block of a list that begins with blocks.
  pub block_at : (xs : List X) (rest : List A) (i : ℕ) (d : X) → All Whole xs → i < length xs → take w (drop (i * w) (flat_map g xs ++ rest)) ≡ g (get_or xs i d)
  block_at [] rest i d h low = absurd (omega arith)
  block_at (x ∷ xs) rest zero d h low =
      let none : 0 * w ≡ 0 = omega arith in
      rw (none, append_assoc (g x) (flat_map g xs) rest) (take_at (g x) (flat_map g xs ++ rest) w (All-head Whole x xs h))
  block_at (x ∷ xs) rest (suc i) d h low =
      let on : suc i * w ≡ w + i * w = omega arith in
      ap (λ m. take w (drop m ((g x ++ flat_map g xs) ++ rest))) on
      ∙ ap (take w) (sym (drop-drop (i * w) w ((g x ++ flat_map g xs) ++ rest)))
      ∙ ap (λ l. take w (drop (i * w) l)) (ap (drop w) (append_assoc (g x) (flat_map g xs) rest) ∙ drop_at (g x) (flat_map g xs ++ rest) w (All-head Whole x xs h))
      ∙ block_at xs rest i d (All-tail Whole x xs h) (omega arith)

  pub length_joined : (xs : List X) → All Whole xs → length (flat_map g xs) ≡ length xs * w
  length_joined [] h = let none : 0 * w ≡ 0 = omega arith in sym none
  length_joined (x ∷ xs) h = omega (arith, length-append (g x) (flat_map g xs), length_joined xs (All-tail Whole x xs h), All-head Whole x xs h)

-- Blocks of blocks.
module _ {X Y A : Type 0} (g : Y → List A) (f : X → List Y) where
  joined_append : (ys zs : List Y) → flat_map g (ys ++ zs) ≡ flat_map g ys ++ flat_map g zs
  joined_append [] zs = refl
  joined_append (y ∷ ys) zs = ap (λ l. g y ++ l) (joined_append ys zs) ∙ sym (append_assoc (g y) (flat_map g ys) (flat_map g zs))

  pub joined_joined : (xs : List X) → flat_map g (flat_map f xs) ≡ flat_map (λ x. flat_map g (f x)) xs
  joined_joined [] = refl
  joined_joined (x ∷ xs) = joined_append (f x) (flat_map f xs) ∙ ap (λ l. flat_map g (f x) ++ l) (joined_joined xs)
