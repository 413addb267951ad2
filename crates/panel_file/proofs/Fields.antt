-- Fields: what a good one says, and a row of them as a loop walks it.
use Rattle.std.proofs.Common.{◌≡◌, ℕ, zero, suc, ◌+◌, ◌*◌, ◌<◌, ◌≤◌, Bool, true, List, length, Ok, refl, ◌∙◌, arith}
use Rattle.std.proofs.lemmas.Bool.Decides.{nat_tests}
use Rattle.grid.proofs.Chains.{both_good, over}
use Rattle.panel_file.specs.declared.refusal.FileFault.{FileFault}
use Rattle.panel_file.specs.declared.refusal.Section.{Section}
use Rattle.panel_file.specs.Field.{field, fields}

module _ (file : List ℕ) (section : Section) (fault : FileFault) (width : ℕ) (holds : ℕ → Bool) where
  -- A good field lies within the file and passes its test.
  abbrev pub Good : ℕ → Type 0
  Good at = (at + width ≤ length file) × (holds at ≡ true)

  pub field_says : (at : ℕ) → field file section fault width holds at ≡ Ok tt → Good at
  field_says at h = (grind (arith, nat_tests), grind (arith, nat_tests))

  pub field_good : (at : ℕ) → Good at → field file section fault width holds at ≡ Ok tt
  field_good at good = grind (arith, nat_tests)

  -- The same of each field of a row.
  pub fields_say : (n at : ℕ) → fields file section fault width holds n at ≡ Ok tt → (k : ℕ) → k < n → Good (at + k * width)
  fields_say zero at h k low = absurd (omega arith)
  fields_say (suc n) at h zero low =
      let first : at + 0 * width ≡ at = omega arith in
      rw first (field_says at (both_good (field file section fault width holds at) (fields file section fault width holds n (at + width)) h).0)
  fields_say (suc n) at h (suc k) low =
      let next : at + suc k * width ≡ at + width + k * width = omega arith in
      rw next (fields_say n (at + width) (both_good (field file section fault width holds at) (fields file section fault width holds n (at + width)) h).1 k (omega arith))

  pub fields_good : (n at : ℕ) → ((k : ℕ) → k < n → Good (at + k * width)) → fields file section fault width holds n at ≡ Ok tt
  fields_good zero at good = refl
  fields_good (suc n) at good =
      let first : at + 0 * width ≡ at = omega arith in
      over (field file section fault width holds at) (fields file section fault width holds n (at + width)) tt (field_good at (rw first at (good 0 (omega arith))))
      ∙ fields_good n (at + width) (λ k low. let next : at + suc k * width ≡ at + width + k * width = omega arith in rw next at (good (suc k) (omega arith)))
