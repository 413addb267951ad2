-- Read, check by check and part by part.
use Rattle.std.proofs.Common.{◌≡◌, ℕ, ◌+◌, ◌-◌, ◌*◌, ◌<◌, ◌≤◌, get_or, pos, subst, Bool, true, false, cond, List, map, length, ℤ, nat_abs, Some, None, Ok, Err, Result, sym, refl, ap, ◌∙◌, arith, rules, w32, SFits, to_z, of_z}
use Rattle.std.specs.List.{range_with_len}
use Rattle.std.proofs.lemmas.Bool.{eqb-true, and_parts}
use Rattle.std.proofs.lemmas.List.FromFn.{fill_by_all}
use Rattle.std.proofs.lemmas.Int.{to_z-of_z}
use Rattle.std.specs.Result.{result_and}
use Rattle.grid.specs.Checks.{check}
use Rattle.grid.specs.Grid.{Grid}
use Rattle.grid.proofs.Chains.{both_good, held, over, stop, passed_by, refused_by}
use Rattle.surface.specs.Patch.{within_reach}
use Rattle.surface.proofs.Below.{below_more, below_out}
use Rattle.panel.specs.declared.record.Panel.{Panel}
use Rattle.panel_fault.specs.declared.PanelFault.{PanelFault}
use Rattle.panel_fault.specs.declared.PanelFault.TheVariants.{GridLength, OutsideArea, SecondStale, ControlBeyond}
use Rattle.panel.specs.Calls.{Answer, between, sized}
use Rattle.panel.specs.Reading.{InArea, in_area, needed_current, needed_within, around, reading, tolerance, read_answer}
use Rattle.grid.specs.Sample.{with_part}
use Rattle.panel.proofs.Passed.{between_is}
use Rattle.panel.proofs.Lanes.{wrote, with_part_is}
use Rattle.panel.proofs.Stored.{shifted}

-- One part of a reading, read or out of reach.

pub some_read : (b : Bool) (v w : ℤ) → Some v ≡ cond b (Some w) None → (b ≡ true) × (v ≡ w)
some_read true v w h = (refl, cc)
some_read false v w h = search rules

pub none_read : (b : Bool) (w : ℤ) → None ≡ cond b (Some w) None → b ≡ false
none_read true w h = search rules
none_read false w h = refl

module _ (p : Panel) (g : Grid) (x y k : ℕ) where
  pub within_none : needed_within 0 p g x y ≡ true
  unfolding needed_within
  within_none = refl

  pub within_more : needed_within k p g x y ≡ true → within_reach (around p g (k + 1) x y) ≡ true → needed_within (k + 1) p g x y ≡ true
  unfolding needed_within
  within_more before here = below_more k (λ k. within_reach (around p g (k + 1) x y)) before here

  pub within_out : (parts : ℕ) → k < parts → within_reach (around p g (k + 1) x y) ≡ false → needed_within parts p g x y ≡ false
  unfolding needed_within
  within_out parts low here = below_out parts (λ k. within_reach (around p g (k + 1) x y)) k low here

-- All parts of a reading, and with the tolerance.
module _ (parts : ℕ) (p : Panel) (g : Grid) (u v : ℕ) where
  abbrev pub sampled : Result (List ℤ) PanelFault
  sampled = result_and (check (needed_within parts p g u v) ControlBeyond) (Ok (map (reading p g u v) (range_with_len 1 parts)))

  abbrev pub stated : Result (List ℤ × ℕ) PanelFault
  stated = result_and (check (needed_within parts p g u v) ControlBeyond) (Ok (map (reading p g u v) (range_with_len 1 parts), tolerance p u v))

  pub sampled_all : (s : List ℤ) → needed_within parts p g u v ≡ true → s ≡ map (reading p g u v) (range_with_len 1 parts) → Ok s ≡ sampled
  sampled_all s within is = ap Ok is ∙ sym (ap (λ b. result_and (check b ControlBeyond) (Ok (map (reading p g u v) (range_with_len 1 parts)))) within)

  pub sampled_beyond : needed_within parts p g u v ≡ false → Err ControlBeyond ≡ sampled
  sampled_beyond beyond = sym (ap (λ b. result_and (check b ControlBeyond) (Ok (map (reading p g u v) (range_with_len 1 parts)))) beyond)

  pub stated_all : (s : List ℤ) (t : ℕ) → Ok s ≡ sampled → t ≡ tolerance p u v → Ok (s, t) ≡ stated
  stated_all s t is_s is_t =
      let taken = passed_by (check (needed_within parts p g u v) ControlBeyond) (map (reading p g u v) (range_with_len 1 parts)) s is_s in
      let pair : Ok (s, t) ≡ Ok (map (reading p g u v) (range_with_len 1 parts), tolerance p u v) = cc taken.1 in
      pair ∙ sym (over (check (needed_within parts p g u v) ControlBeyond) _ tt taken.0)

  pub stated_refused : (e : PanelFault) → Err e ≡ sampled → Err e ≡ stated
  stated_refused e is = sym (stop (check (needed_within parts p g u v) ControlBeyond) _ e (refused_by (check (needed_within parts p g u v) ControlBeyond) _ e is))

-- The first n parts of a sample are read.
pub record ReadTo (p : Panel) (g : Grid) (x y n : ℕ) (sample : List ℤ) : Type 0 where
  pub within : needed_within n p g x y ≡ true
  pub read : (j : ℕ) → j < n → get_or sample j (pos 0) ≡ reading p g x y (j + 1)

module _ (p : Panel) (g : Grid) (x y : ℕ) (sample : List ℤ) where
  pub read_none : ReadTo p g x y 0 sample
  read_none = record { within = within_none p g x y 0; read = λ j low. absurd (omega arith) }

  more : (k : ℕ) (next : List ℤ) (value : ℤ) → k < length sample → ReadTo p g x y k sample → within_reach (around p g (k + 1) x y) ≡ true → value ≡ reading p g x y (k + 1) →
      next ≡ with_part sample (k + 1) value → ReadTo p g x y (k + 1) next
  more k next value low so_far here is next_is = record {
    within = within_more p g x y k so_far.within here;
    read = λ j below. ap (λ v. get_or v j (pos 0)) (next_is ∙ with_part_is sample k value) ∙ wrote (λ j. reading p g x y (j + 1)) sample k value is low so_far.read j below;
  }

  -- one part more, counted from 1, as the code read it
  pub read_more : (part : ℕ) (next : List ℤ) (value : ℤ) → 1 ≤ part → part ≤ length sample → ReadTo p g x y (part - 1) sample →
      Some value ≡ cond (within_reach (around p g part x y)) (Some (reading p g x y part)) None → SFits w32 value → next ≡ with_part sample part (to_z w32 (of_z w32 value)) → ReadTo p g x y part next
  read_more part next value counted low so_far answer fits next_is =
      let k = part - 1 in
      let back : part ≡ k + 1 = omega (arith, counted) in
      let read = some_read (within_reach (around p g (k + 1) x y)) value (reading p g x y (k + 1)) (rw back at answer) in
      subst (λ n. ReadTo p g x y n next) (sym back)
      (more k next _ (omega (arith, counted, low)) so_far read.0 (to_z-of_z w32 value fits ∙ read.1) (next_is ∙ ap (λ n. with_part sample n (to_z w32 (of_z w32 value))) back))

  pub read_all : (parts : ℕ) → length sample ≡ parts → ReadTo p g x y parts sample → Ok sample ≡ sampled parts p g x y
  read_all parts long all =
      sampled_all parts p g x y sample all.within
      (fill_by_all (λ j. reading p g x y (j + 1)) sample parts (pos 0) long all.read ∙ shifted (λ j. reading p g x y (j + 1)) (reading p g x y) parts (λ e low. refl))

-- The checks before that.
module _ (p : Panel) (g : Grid) (x y : ℤ) where
  abbrev pub asked : Answer
  asked = result_and (check (sized p g) GridLength) (result_and (check (in_area p x y) OutsideArea) (check (needed_current p (nat_abs x) (nat_abs y)) SecondStale))

  regrouped : {A : Type 0} (a b c : Answer) (next : Result A PanelFault) → result_and a (result_and b (result_and c next)) ≡ result_and (result_and a (result_and b c)) next
  regrouped (Ok _) (Ok _) c next = refl
  regrouped (Ok _) (Err e) c next = refl
  regrouped (Err e) b c next = refl

  is_stated : (parts : ℕ) → read_answer parts p g x y ≡ result_and asked (stated parts p g (nat_abs x) (nat_abs y))
  is_stated parts =
      regrouped (check (sized p g) GridLength) (check (in_area p x y) OutsideArea) (check (needed_current p (nat_abs x) (nat_abs y)) SecondStale) (stated parts p g (nat_abs x) (nat_abs y))

  pub read_past : (parts : ℕ) → Ok tt ≡ asked → read_answer parts p g x y ≡ stated parts p g (nat_abs x) (nat_abs y)
  read_past parts ok = is_stated parts ∙ over asked (stated parts p g (nat_abs x) (nat_abs y)) tt (sym ok)

  pub read_out : (parts : ℕ) (e : PanelFault) → Err e ≡ asked → read_answer parts p g x y ≡ Err e
  read_out parts e refused = is_stated parts ∙ stop asked (stated parts p g (nat_abs x) (nat_abs y)) e (sym refused)

  pub read_long : Ok tt ≡ asked → length g ≡ p.size.rows * p.size.columns
  read_long ok = eqb-true (length g) (p.size.rows * p.size.columns) (held _ _ (both_good (check (sized p g) GridLength) _ (sym ok)).0)

  pub read_area : Ok tt ≡ asked → InArea p (nat_abs x) (nat_abs y)
  read_area ok =
      let a = both_good (check (sized p g) GridLength) _ (sym ok) in
      let b = both_good (check (in_area p x y) OutsideArea) (check (needed_current p (nat_abs x) (nat_abs y)) SecondStale) a.1 in
      let on = and_parts (between x 32 (32 * p.size.rows - 1)) (between y 32 (32 * p.size.columns - 1)) (held _ _ b.0) in
      let on_x = between_is x 32 (32 * p.size.rows - 1) on.0 in
      let on_y = between_is y 32 (32 * p.size.columns - 1) on.1 in
      omega arith
