-- A word more of a text.
use Rattle.std.proofs.Common.{◌≡◌, ℕ, ◌+◌, ◌<◌, List, [], ◌∷◌, ◌++◌, map, length, ℤ, sym, refl, ap, ◌∙◌, subst}
use Rattle.std.specs.Str.Parse.{signed_digits_value}
use Rattle.std.specs.Char.{is_whitespace, is_not_whitespace}
use Rattle.std.specs.Str.{NoCharPasses, EmptyOrStartsWithPassing}
use Rattle.std.specs.List.{All}
use Rattle.std.proofs.lemmas.List.{map-append, length-map}
use Rattle.std.proofs.lemmas.List.Elements.{All-push}
use Rattle.fit_line.specs.Words.{First, Begins, Writes, Blames}

-- what `split_whitespace` says of an item
pub first_of : (text word rest : List ℕ) → (gap : List ℕ) × (text ≡ gap ++ (word ++ rest)) × (0 < length word) × NoCharPasses is_not_whitespace gap × NoCharPasses is_whitespace word × ((more : List ℕ) × EmptyOrStartsWithPassing is_whitespace rest more) → First text word rest
first_of text word rest cut = record { gap = cut.0; cut = cut.1; some = cut.2; blank = cut.3; solid = cut.4; ends = cut.5 }

-- one word more
more_begins : (text : List ℕ) (seen : List (List ℕ)) {rest word next : List ℕ} → Begins text seen rest → First rest word next → Begins text (seen ++ (word ∷ [])) next
more_begins text [] {rest} {word} {next} same first = (next, subst (λ t. First t word next) (sym same) first, refl)
more_begins text (earlier ∷ seen) old first = (old.0, old.1, more_begins old.0 seen old.2 first)

-- the numbers are those of the words before rest
pub record Sofar (text rest : List ℕ) (numbers : List ℤ) : Type 0 where
  pub seen : List (List ℕ)
  pub write : All Writes seen
  pub values : numbers ≡ map (signed_digits_value 10) seen
  pub begins : Begins text seen rest

module _ {text rest : List ℕ} {numbers : List ℤ} (old : Sofar text rest numbers) where
  pub one_more : {word next : List ℕ} {more : List ℤ} → First rest word next → Writes word → more ≡ numbers ++ (signed_digits_value 10 word ∷ []) → Sofar text next more
  one_more {word} {next} {more} first writes e = record {
    seen = old.seen ++ (word ∷ []);
    write = All-push Writes old.seen word old.write writes;
    values = rw (e, old.values) (sym (map-append (signed_digits_value 10) old.seen (word ∷ [])));
    begins = more_begins text old.seen old.begins first;
  }

  pub counted : length numbers ≡ length old.seen
  counted = ap length old.values ∙ length-map old.seen (signed_digits_value 10)

  pub blamed : {word next : List ℕ} (place : ℕ) → First rest word next → (Writes word → ⊥) → place ≡ length old.seen + 1 → Blames text place
  blamed {word} {next} place first wrong counted = record {
    earlier = old.seen;
    word = word;
    rest = next;
    begins = more_begins text old.seen old.begins first;
    write = old.write;
    counted = counted;
    wrong = wrong;
  }
