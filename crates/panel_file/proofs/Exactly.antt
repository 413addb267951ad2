-- A file is accepted exactly when it encodes contents within the limits, and then these are answered and filled in.
use Rattle.std.proofs.Common.{◌≡◌, ℕ, ◌*◌, ◌<◌, eqb, List, length, ℤ, Ok, Err, Result, sym, refl, ap, ◌∙◌, subst, ap₂, arith, rules}
use Rattle.std.proofs.lemmas.Bool.Decides.{nat_tests}
use Rattle.std.specs.Result.{result_and}
use Rattle.grid.specs.Checks.{check, if_ok}
use Rattle.grid.proofs.Chains.{held, both_good, over}
use Rattle.panel_file.specs.declared.refusal.FileFault.TheVariants.{WrongParts}
use Rattle.panel_file.specs.declared.refusal.FileRefusal.{FileRefusal}
use Rattle.panel_file.specs.declared.refusal.FillFault.{FillFault}
use Rattle.panel_file.specs.declared.refusal.FillFault.TheVariants.{File, GridLength}
use Rattle.panel_file.specs.declared.refusal.Section.TheVariants.{Sizes}
use Rattle.panel_file.specs.Field.{Answer, refused, byte_at}
use Rattle.panel_file.specs.Layout.{parts_of}
use Rattle.panel_file.specs.Format.{Contents, Holds, encode}
use Rattle.panel_file.specs.Open.{Summary, open_answer, summary, open_result}
use Rattle.panel_file.specs.Fill.{FillAnswer, of_file, fill_answer, samples_of}
use Rattle.panel_file.specs.Laws.{OpensExactly, OneEncoding, FillsExactly}
use Rattle.panel_file.proofs.Accepted.{accepted, admitted}
use Rattle.panel_file.proofs.Decoded.{decode, valid, encodes}
use Rattle.panel_file.proofs.Encoded.{accepts, reads_back}

pub one_encoding : OneEncoding
one_encoding c d v w same = sym (reads_back c v) ∙ ap decode same ∙ reads_back d w

-- A file that holds something is accepted, and just that is read from it.
pub good : (file : List ℕ) (c : Contents) → Holds file c → open_answer file ≡ Ok tt
good file c h = ap open_answer (sym h.1) ∙ admitted (encode c) (accepts c h.0)

pub only : (file : List ℕ) (c : Contents) → Holds file c → decode file ≡ c
only file c h = ap decode (sym h.1) ∙ reads_back c h.0

module _ (file : List ℕ) (bytes : (at : ℕ) → byte_at file at < 256) where
  -- an accepted file holds what is read from it
  pub holds : open_answer file ≡ Ok tt → Holds file (decode file)
  holds h = let a = accepted file h in (valid file bytes a, encodes file bytes a)

  pub opens : (r : Result Summary FileRefusal) → r ≡ open_result file → OpensExactly file r
  opens r e = subst (OpensExactly file) (sym e) (go (open_answer file) refl)
    where
      go : (a : Answer) → open_answer file ≡ a → OpensExactly file (result_and a (Ok (summary file)))
      go (Ok tt) h = (decode file, holds h, refl)
      go (Err refusal) h = λ c held. let z : ◌≡◌ {A = Answer} (Ok tt) (Err refusal) = sym (good file c held) ∙ h in search rules

-- What an accepted grid says of the file.
abbrev places : List ℕ → ℕ
places file = byte_at file 2 * byte_at file 3

record Fits (parts : ℕ) (file : List ℕ) (room : ℕ) : Type 0 where
  pub opened : open_answer file ≡ Ok tt
  pub own_parts : byte_at file 4 ≡ parts
  pub own_room : room ≡ places file

module _ (parts : ℕ) (file : List ℕ) (room : ℕ) where
  -- the two checks of the grid
  abbrev kind : FillAnswer
  kind = check (eqb (parts_of file) parts) (File (refused WrongParts Sizes 4))

  abbrev size : FillAnswer
  size = check (eqb room (places file)) GridLength

  from_file : (a : Answer) → of_file a ≡ Ok tt → a ≡ Ok tt
  from_file (Ok tt) h = refl
  from_file (Err refusal) h = search rules

  fits : Ok tt ≡ fill_answer parts file room → Fits parts file room
  fits h =
      let file_and_grid = both_good (of_file (open_answer file)) (result_and kind size) (sym h) in
      record { opened = from_file (open_answer file) file_and_grid.0; own_parts = grind (arith, nat_tests); own_room = grind (arith, nat_tests) }

  admits : Fits parts file room → fill_answer parts file room ≡ Ok tt
  admits f = over (of_file (open_answer file)) (result_and kind size) tt (ap of_file f.opened) ∙ grind (arith, nat_tests, f.own_parts, f.own_room)

  filled : ((at : ℕ) → byte_at file at < 256) → Ok tt ≡ fill_answer parts file room → (grid : List (List ℤ)) → grid ≡ samples_of file parts room → FillsExactly parts file (Ok tt) grid
  filled bytes h grid e =
      let f = fits h in
      (decode file, holds file bytes f.opened, f.own_parts, e ∙ ap₂ (samples_of file) (sym f.own_parts) f.own_room)

  unfilled : (fault : FillFault) → Err fault ≡ fill_answer parts file room → (grid : List (List ℤ)) → length grid ≡ room → FillsExactly parts file (Err fault) grid
  unfilled fault h grid long c held same_parts same_length =
      let same : decode file ≡ c = only file c held in
      let rows : byte_at file 2 ≡ c.rows = ap (λ d. d.rows) same in
      let columns : byte_at file 3 ≡ c.columns = ap (λ d. d.columns) same in
      let f : Fits parts file room = record { opened = good file c held; own_parts = ap (λ d. d.parts) same ∙ same_parts; own_room = sym long ∙ sym same_length ∙ held.0.samples_fill ∙ ap₂ (λ r s. r * s) (sym rows) (sym columns) } in
      let z : ◌≡◌ {A = FillAnswer} (Ok tt) (Err fault) = sym (admits f) ∙ sym h in
      search rules

-- From the answer and the grid that either leaves.
pub fills : (parts : ℕ) (file : List ℕ) → ((at : ℕ) → byte_at file at < 256) → (room : ℕ) (r : FillAnswer) (old new : List (List ℤ)) → length old ≡ room →
    r ≡ fill_answer parts file room → new ≡ if_ok r (samples_of file parts room) old → FillsExactly parts file r new
fills parts file bytes room (Ok tt) old new long h e = filled parts file room bytes h new e
fills parts file bytes room (Err fault) old new long h e = unfilled parts file room fault h new (ap length e ∙ long)
