-- What a reader wants to know of `open` and `fill`: a file is accepted exactly when it encodes contents within the limits.
use Rattle.std.specs.Prelude.{◌≡◌, ℕ, List, length, take, ℤ, Ok, Result, MatchResult, ◌≢◌}
use Rattle.panel_file.specs.declared.refusal.FileRefusal.{FileRefusal}
use Rattle.panel_file.specs.declared.refusal.FillFault.{FillFault}
use Rattle.panel_file.specs.Format.{Contents, Valid, Holds, encode}
use Rattle.panel_file.specs.Open.{Summary, open_answer, open_result}
use Rattle.panel_file.specs.Fill.{fill_answer}

-- What an opened file says of its contents.
abbrev pub summed_up : Contents → Summary
summed_up c = record { size = record { rows = c.rows; columns = c.columns }; parts = c.parts; name = c.name }

-- An answer is the summary of what the file holds; a refused file holds nothing.
abbrev pub OpensExactly : List ℕ → Result Summary FileRefusal → Type 0
OpensExactly file r =
    MatchResult r (λ s. (c : Contents) × Holds file c × (s ≡ summed_up c)) (λ _. (c : Contents) → Holds file c → ⊥)

-- No two contents have one encoding.
abbrev pub OneEncoding : Type 0
OneEncoding = (c d : Contents) → Valid c → Valid d → encode c ≡ encode d → c ≡ d

-- A filled grid has the samples of what the file holds; a refused file holds nothing that has these parts and this many samples.
abbrev pub FillsExactly : ℕ → List ℕ → Result (Unit {0}) FillFault → List (List ℤ) → Type 0
FillsExactly parts file r grid =
    MatchResult r (λ _. (c : Contents) × Holds file c × (c.parts ≡ parts) × (grid ≡ c.samples))
    (λ _. (c : Contents) → Holds file c → c.parts ≡ parts → length c.samples ≢ length grid)

-- So many bytes of a file are enough: what stands after them changes no answer of `open` or `fill`, and nothing stands after them in
-- a file that opens.
pub record Enough (n : ℕ) : Type 0 where
  pub opens : (file : List ℕ) → open_result (take n file) ≡ open_result file
  pub fills : (file : List ℕ) (parts room : ℕ) → fill_answer parts (take n file) room ≡ fill_answer parts file room
  pub whole : (file : List ℕ) → open_answer file ≡ Ok tt → take n file ≡ file
