-- The words are taken one by one, and each number is the one that its word writes.
use Rattle.std.proofs.Common.{◌≡◌, [], ◌∷◌, ◌++◌, ℤ, vec_items, ap, ◌∙◌, rules, Ok, Err, length, ◌+◌, w64, to_z, of_z}
use Rattle.std.specs.Str.Parse.{signed_digits_value}
use Rattle.std.proofs.lemmas.Int.{to_z-of_z}
use Rattle.fit_line.specs.declared.words.TextFault.TheVariants.{Word}
use Rattle.fit_line.specs.Words.{Writes}
use Rattle.fit_line.proofs.Sofar.{first_of, one_more, blamed, counted}
use Rattle.fit_line.proofs.words.numbers_of.Goals as goal

pub loop-word-preserved : goal.loop-word-preserved
loop-word-preserved c =
    let first = first_of _ c.in-Some.word.now _ c.in-Some.ensures.steps in
    let parsed : c.parse.result ≡ Ok c.in_ok-number.number = search rules in
    let reads = rw parsed at c.parse.ensures.value.0 in
    let number : to_z w64 (of_z w64 c.in_ok-number.number) ≡ signed_digits_value 10 c.in-Some.word.now =
    ap (λ (z : ℤ). to_z w64 (of_z w64 z)) reads.1 ∙ to_z-of_z w64 (signed_digits_value 10 c.in-Some.word.now) reads.0.1 in
    one_more c.loop-word.invariant first reads.0 (c.in_ok-push.ensures.items ∙ ap (λ (z : ℤ). vec_items c.loop-word.numbers ++ (z ∷ [])) number)

pub returns-in_err-number : goal.returns-in_err-number
returns-in_err-number c =
    let first = first_of _ c.in-Some.word.now _ c.in-Some.ensures.steps in
    let wrong : Writes c.in-Some.word.now → ⊥ = search (rules, c.parse.ensures.value.0) in
    let fault : c.from_residual.result ≡ Err (Word (length c.loop-word.numbers.items + 1)) = search rules in
    rw fault (blamed c.loop-word.invariant _ first wrong (ap (λ n. n + 1) (counted c.loop-word.invariant)))
