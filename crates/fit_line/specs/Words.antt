-- The words of a text, and the numbers that they write.
use Rattle.std.specs.Prelude.{◌≡◌, ℕ, ◌+◌, ◌<◌, List, [], ◌∷◌, ◌++◌, map, length, ℤ, FitsSigned}
use Rattle.std.specs.Int.{w64}
use Rattle.std.specs.Str.Parse.{IsNumeral, without_leading_sign, signed_digits_value}
use Rattle.std.specs.Char.{is_whitespace, is_not_whitespace}
use Rattle.std.specs.Str.{NoCharPasses, EmptyOrStartsWithPassing}
use Rattle.std.specs.List.{All}
use Rattle.fit_line.specs.declared.words.TextFault.{TextFault}
use Rattle.fit_line.specs.declared.words.TextFault.TheVariants.{Word, Memory}

-- A text is white space, its first word, and a rest that is empty or begins with white space.
pub record First (text word rest : List ℕ) : Type 0 where
  pub gap : List ℕ
  pub cut : text ≡ gap ++ (word ++ rest)
  pub some : 0 < length word
  pub blank : NoCharPasses is_not_whitespace gap
  pub solid : NoCharPasses is_whitespace word
  pub ends : (more : List ℕ) × EmptyOrStartsWithPassing is_whitespace rest more

-- A text begins with these words, in their order, and goes on with a rest.
abbrev pub Begins : List ℕ → List (List ℕ) → List ℕ → Type 0
Begins text [] rest = text ≡ rest
Begins text (word ∷ words) rest = (next : List ℕ) × First text word next × Begins next words rest

-- A word writes a whole number of 64 bits: digits, perhaps after a sign.
abbrev pub Writes : List ℕ → Type 0
Writes word = IsNumeral 10 (without_leading_sign word) × FitsSigned w64 (signed_digits_value 10 word)

-- The text has these words and no more, each writes a number, and these are the numbers.
pub record LineOf (text : List ℕ) (numbers : List ℤ) : Type 0 where
  pub words : List (List ℕ)
  pub rest : List ℕ
  pub begins : Begins text words rest
  pub ends : NoCharPasses is_not_whitespace rest
  pub write : All Writes words
  pub values : numbers ≡ map (signed_digits_value 10) words

-- The word at a place, counted from 1, is the first that writes no number.
pub record Blames (text : List ℕ) (place : ℕ) : Type 0 where
  pub earlier : List (List ℕ)
  pub word : List ℕ
  pub rest : List ℕ
  pub begins : Begins text (earlier ++ (word ∷ [])) rest
  pub write : All Writes earlier
  pub counted : place ≡ length earlier + 1
  pub wrong : Writes word → ⊥

-- What a fault says of the text. Memory may be wanting for any text.
abbrev pub Blamed : List ℕ → TextFault → Type 0
Blamed text (Word place) = Blames text place
Blamed text Memory = Unit {0}
